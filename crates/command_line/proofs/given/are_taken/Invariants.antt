use Rattle.std.proofs.Common.{◌≡◌, map, length}
use Rattle.std.specs.String.{string_bytes}
use Rattle.command_line.specs.Taken.{are_words_taken, texts_of}
use Rattle.command_line.proofs.given.are_taken.Given as goal

-- all are taken where those that are left are
abbrev pub invariant-loop-word : goal.invariant-loop-word
invariant-loop-word l =
    are_words_taken (texts_of l.options) (map string_bytes l.rest) ≡ are_words_taken
    (texts_of l.options) (map string_bytes l.words)

abbrev pub decreases-loop-word : goal.decreases-loop-word
decreases-loop-word l = length l.rest
