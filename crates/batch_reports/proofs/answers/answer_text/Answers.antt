use Rattle.book_laws.proofs.RangeLaws.{answer_in_range}
use Rattle.batch_reports.proofs.answers.answer_text.Goals as goal

pub push_reply-requires-clause-range : goal.push_reply-requires-clause-range
push_reply-requires-clause-range c = answer_in_range c.args.answered.now c.requires
