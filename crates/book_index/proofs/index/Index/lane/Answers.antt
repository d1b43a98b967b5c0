use Rattle.std.proofs.Common.{◌≡◌, Some, None, sym, ◌∙◌}
use Rattle.book_index.specs.Listed.{is_lane}
use Rattle.book_words.proofs.PlainLemmas.{in_both}
use Rattle.book_index.proofs.LegalNames.{legal_named}
use Rattle.book_index.proofs.LaneLemmas.{lane_is, no_lane}
use Rattle.book_index.proofs.index.Index.lane.Goals as goal

pub returns-in-Some : goal.returns-in-Some
returns-in-Some c entries is legal =
    in_both (is_lane c.args.lane)
    (λ one. c.batch_name.ensures entries is
    ∙ lane_is entries c.args.lane c.in-Some.number
    (sym (c.held_number.ensures.on entries is one) ∙ c.in-Some.is))
    (λ off. absurd (let clash : None ≡ Some c.in-Some.number = sym (c.held_number.ensures.off off)
    ∙ c.in-Some.is in cc))

pub returns-in-None : goal.returns-in-None
returns-in-None c entries is legal =
    in_both (is_lane c.args.lane)
    (λ one. no_lane entries (legal_named entries legal) c.args.lane
    (sym (c.held_number.ensures.on entries is one) ∙ c.in-None.is))
    (λ off. sym ((legal_named entries legal).off_lanes c.args.lane off))
