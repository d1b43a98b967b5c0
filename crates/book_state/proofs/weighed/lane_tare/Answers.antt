use Rattle.std.proofs.Common.{rules, ◌≡◌, ◌∙◌, None, FitsSigned, w32, ap}
use Rattle.std.proofs.lemmas.Int.{to_z-of_z}
use Rattle.book_words.specs.Acts.{lane_batch}
use Rattle.book_words.specs.Readings.{tare_of_reading}
use Rattle.book_state.proofs.OnLanes.{untared, dayless, tared}
use Rattle.book_state.proofs.weighed.lane_tare.Goals as goal

pub returns-in_err-terms : goal.returns-in_err-terms
returns-in_err-terms c =
    λ entries is packs legal.
    let none : c.from_residual.result ≡ None = search rules in
    none ∙ untared entries (lane_batch entries c.args.lane) _ legal
    (c.in_err-terms.ensures.product entries is legal)

pub returns-in_err-day : goal.returns-in_err-day
returns-in_err-day c =
    λ entries is packs legal.
    let none : c.from_residual-in_err-day.result ≡ None = search rules in
    none ∙ dayless entries (lane_batch entries c.args.lane)
    ∙ ap (tare_of_reading entries (lane_batch entries c.args.lane))
    (c.in_err-day.ensures entries is)

pub returns : goal.returns
returns c =
    λ entries is packs legal.
    let fits : FitsSigned w32 c.in_ok-day.day = search rules in
    tared entries (lane_batch entries c.args.lane) c.in_ok-terms.terms.product c.in_ok-day.day
    c.tare.result (c.in_ok-terms.ensures.product entries is legal)
    (λ name at. rw (to_z-of_z w32 c.in_ok-day.day fits) at c.tare.ensures entries name packs at)
    ∙ ap (tare_of_reading entries (lane_batch entries c.args.lane)) (c.in_ok-day.ensures entries is)
