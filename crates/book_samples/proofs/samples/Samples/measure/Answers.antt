use Rattle.std.proofs.Common.{◌≡◌, ◌∙◌, ap, cond, nat_eq, Some, w64, ℤ}
use Rattle.std.proofs.lemmas.Int.{to_z-of_z}
use Rattle.book_words.specs.Measures.{Measured}
use Rattle.book_samples.specs.Kept.{Kept, measured_in}
use Rattle.book_samples.proofs.SampleLemmas.{measured_stands}
use Rattle.book_samples.proofs.samples.Samples.measure.Goals as goal

-- the masses as they were handed in
abbrev pair : ℤ → ℤ → Measured
pair gross empty = record { gross = gross; empty = empty }

pub returns-clause-measured : goal.returns-clause-measured
returns-clause-measured c =
    let given : c.new.result ≡ pair c.args.gross c.args.empty =
    c.new.ensures
    ∙ (λ i. pair (to_z-of_z w64 c.args.gross c.ranges.gross i)
    (to_z-of_z w64 c.args.empty c.ranges.empty i)) in
    measured_stands c.args.self.now _ c.args.pack c.args.gross c.args.empty
    (ap (λ (k : Kept). k.samples) c.self.view_is)
    (λ other. c.in-Ok.ensures.updates.0 other
    ∙ ap (λ (m : Measured). cond (nat_eq c.args.pack other) (Some m)
    (measured_in c.self.inside.measured.entries other)) given
    ∙ ap (λ (k : Kept). cond (nat_eq c.args.pack other) (Some (pair c.args.gross c.args.empty))
    (measured_in k.measured other)) c.self.view_is)
