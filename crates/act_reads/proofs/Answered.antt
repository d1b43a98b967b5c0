-- The first column of the line of an act is the line of its answer.
use Rattle.std.proofs.Common.{◌≡◌, ℕ, ◌+◌, List, [], ◌∷◌, ◌++◌, length, Option, Some, None, decimal, codes, append_assoc}
use Rattle.pack_judge.specs.declared.types.Signal.{Signal}
use Rattle.book_words.specs.declared.act.Act.{Act}
use Rattle.book_words.specs.declared.act.Act.TheVariants.{Close}
use Rattle.book_words.specs.declared.act.Entry.{Entry}
use Rattle.book_words.specs.Signals.{with_act, recorded_signal}
use Rattle.book_words.specs.Verdicts.{verdict_of}
use Rattle.book_words.specs.Answers.{judged_or_done, reply_behind}
use Rattle.book_texts.specs.Words.{signal_text, verdict_text}
use Rattle.batch_reports.specs.Texts.{reply_text}
use Rattle.act_lines.specs.ActLines.{told_words}
use Rattle.act_lines.specs.ActViews.{verdict_behind}
use Rattle.act_reads.specs.Told.{AreAnswersTold}

regroup : (a b c d : List ℕ) → (a ++ b ++ c) ++ d ≡ a ++ b ++ c ++ d
regroup a b c d = simp append_assoc

done_same : (a : List ℕ) → (a ++ codes " " ++ codes "ok") ++ codes "\n" ≡ a ++ codes " ok\n"
done_same a = simp append_assoc

by_signal : (row : ℕ) (entry : Entry) (given : Option Signal) → entry.signal ≡ given
    → told_words (record { row = row; entry = entry; verdict = None }) ++ 10 ∷ []
    ≡ reply_text (judged_or_done row given)
by_signal row entry (Some signal) is =
    rw is (regroup (decimal row) (codes " ") (signal_text signal) (codes "\n"))
by_signal row entry None is = rw is (done_same (decimal row))

told_of : (before : List Entry) (act : Act) (entry : Entry)
    → entry.signal ≡ recorded_signal before act
    → told_words
    (record { row = length before + 1; entry = entry; verdict = verdict_behind before act })
    ++ 10 ∷ []
    ≡ reply_text (reply_behind before act)
told_of before (Close batch) entry is =
    regroup (decimal (length before + 1)) (codes " ")
    (verdict_text (verdict_of (with_act before (Close batch)) batch)) (codes "\n")
told_of before act entry is =
    by_signal (length before + 1) entry (recorded_signal before act) is

pub answers_told : AreAnswersTold
answers_told before entry is = told_of before entry.act entry is
