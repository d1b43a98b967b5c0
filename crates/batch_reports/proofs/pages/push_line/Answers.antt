use Rattle.book_words.specs.Answers.{ask_of}
use Rattle.book_words.proofs.RefusalLemmas.{act_rules, rules_in_range}
use Rattle.batch_reports.proofs.pages.push_line.Goals as goal

pub push_act-requires-clause-range : goal.push_act-requires-clause-range
push_act-requires-clause-range c =
    let before = c.requires.lawful.0 in
    let entry = c.args.view.now.entry in
    rules_in_range before entry.act
    (act_rules before (ask_of entry) entry.act c.requires.lawful.1.rules)
