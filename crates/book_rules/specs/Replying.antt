-- What an accepted act is told, by what is known of its row.
use Rattle.std.specs.Prelude.{ℕ, List, Option}
use Rattle.pack_judge.specs.declared.types.Signal.{Signal}
use Rattle.book_words.specs.declared.act.Act.{Act}
use Rattle.book_words.specs.declared.act.Act.TheVariants.{Close}
use Rattle.book_words.specs.declared.act.Entry.{Entry}
use Rattle.book_words.specs.declared.reply.Reply.{Reply}
use Rattle.book_words.specs.declared.reply.Reply.TheVariants.{Closed}
use Rattle.book_words.specs.Verdicts.{verdict_of}
use Rattle.book_words.specs.Answers.{judged_or_done}

-- a closing is told the verdict over a list, any other act its row and its signal
abbrev pub reply_with : List Entry → ℕ → Act → Option Signal → Reply
reply_with entries row (Close batch) signal = Closed row (verdict_of entries batch)
reply_with entries row act signal = judged_or_done row signal
