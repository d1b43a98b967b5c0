use Rattle.script_events.proofs.Summaries.{is_summary}
use Rattle.script_events.proofs.composing.append_summary.Goals as goal

pub answer_text-requires : goal.answer_text-requires
answer_text-requires c = is_summary c.args.book.now.limit c.args.book.now.entries c.len.result
    c.summary.result c.requires.legal c.len.ensures c.summary.ensures
