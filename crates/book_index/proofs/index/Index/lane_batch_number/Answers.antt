use Rattle.std.proofs.Common.{sym, ap, ◌∙◌}
use Rattle.std.specs.Option.{option_and_then}
use Rattle.book_words.specs.Order.{batch_number}
use Rattle.book_index.specs.Listed.{is_lane}
use Rattle.book_words.proofs.PlainLemmas.{in_both}
use Rattle.book_index.proofs.LegalNames.{legal_named}
use Rattle.book_index.proofs.index.Index.lane_batch_number.Goals as goal

pub returns : goal.returns
returns c entries is legal =
    in_both (is_lane c.args.lane)
    (λ one. c.held_number.ensures.on entries is one)
    (λ off. c.held_number.ensures.off off
    ∙ sym (ap (option_and_then (batch_number entries))
    ((legal_named entries legal).off_lanes c.args.lane off)))
