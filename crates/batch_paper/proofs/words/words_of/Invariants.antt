use Rattle.std.proofs.Common.{◌≡◌, drop}
use Rattle.std.specs.List.{last_or}
use Rattle.book_words.specs.Acts.{said, last_said}
use Rattle.book_words.specs.Samples.{second_word}
use Rattle.batch_paper.specs.Ranges.{IsWordOf}
use Rattle.batch_paper.specs.Written.{first_word}
use Rattle.batch_paper.proofs.words.words_of.Given as goal

-- what the entries to come say, or else those so far, is what all say
abbrev pub invariant-loop-entry : goal.invariant-loop-entry
invariant-loop-entry l = record {
  first : last_or l.first (said (first_word l.batch) (drop l.entry-index l.entries))
      ≡ last_said (first_word l.batch) l.entries;
  second : last_or l.second (said (second_word l.batch) (drop l.entry-index l.entries))
      ≡ last_said (second_word l.batch) l.entries;
  sized : IsWordOf l.first × IsWordOf l.second;
}
