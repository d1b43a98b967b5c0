use Rattle.std.proofs.Common.{◌∙◌, ap, ◌+◌, length, Option}
use Rattle.pack_judge.specs.declared.types.Signal.{Signal}
use Rattle.book_rules.specs.Replying.{reply_with}
use Rattle.book_rules.proofs.ReplyLemmas.{told_new}
use Rattle.book_rules.proofs.replies.reply_new.Goals as goal

pub returns : goal.returns
returns c =
    let entries = c.args.state.now.entries in
    c.tell_act.ensures
    ∙ ap (λ n. reply_with entries (n + 1) c.args.act.now c.args.signal) c.len.ensures.count
    ∙ ap (λ (s : Option Signal). reply_with entries (length entries + 1) c.args.act.now s)
    c.requires.signal
    ∙ told_new entries c.args.act.now
