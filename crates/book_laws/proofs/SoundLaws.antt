-- Legal rows are sound.
use Rattle.std.proofs.Common.{List}
use Rattle.book_words.specs.declared.act.Entry.{Entry}
use Rattle.book_words.specs.Answers.{IsLegal}
use Rattle.book_words.specs.Soundness.{IsSound}
use Rattle.book_laws.proofs.MoveLaws.{balanced, each_moves}
use Rattle.book_laws.proofs.TareLaws.{tares_known}
use Rattle.book_laws.proofs.VerdictLaws.{verdicts_stay}

-- legal rows are sound
pub sound_of_legal : (rows : List Entry) → IsLegal rows → IsSound rows
sound_of_legal rows legal =
    record {
      legal = legal;
      balanced = balanced rows;
      moves = each_moves rows legal;
      tares = tares_known rows legal;
      verdicts = verdicts_stay rows legal;
    }
