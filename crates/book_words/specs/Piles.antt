-- The four piles.
use Rattle.std.specs.Prelude.{ℤ, Bool, true, List}
use Rattle.pack_judge.specs.declared.types.Pile.{Pile}
use Rattle.pack_judge.specs.declared.types.Pile.TheVariants.{Passed, Sampled}
use Rattle.pack_judge.specs.declared.types.Tally.{Tally}
use Rattle.pack_judge.specs.Piles.{pile_members, mass_sum, pile_tally}
use Rattle.book_words.specs.declared.act.Entry.{Entry}
use Rattle.book_words.specs.declared.act.Reading.{Reading}
use Rattle.book_words.specs.Population.{unsampled_pile}
use Rattle.book_words.specs.Samples.{is_sampled}

-- a passed reading that a sample holds lies among the sampled
abbrev pub pile_with_sample : Pile → Bool → Pile
pile_with_sample Passed true = Sampled
pile_with_sample pile _ = pile

-- the pile of a reading
abbrev pub pile_of : List Entry → Reading → Pile
pile_of entries reading = pile_with_sample (unsampled_pile reading) (is_sampled entries reading)

-- those of some readings that lie in a pile
abbrev pub in_pile : List Entry → Pile → List Reading → List Reading
in_pile entries pile some = pile_members (pile_of entries) pile some

-- the sum of the grosses of some readings
abbrev pub gross_sum : List Reading → ℤ
gross_sum some = mass_sum (λ reading. reading.gross) some

-- how many readings there are, and the sum of their grosses
abbrev pub tally : List Reading → Tally
tally some = pile_tally (λ reading. reading.gross) some
