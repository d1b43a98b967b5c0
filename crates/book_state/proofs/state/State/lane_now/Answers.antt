use Rattle.std.proofs.Common.{ℤ, pos, Option, IfSome, sym, subst}
use Rattle.hall_limits.specs.declared.TheConstants.{MAX_TARE}
use Rattle.book_words.specs.Ranges.{IsBetween}
use Rattle.book_words.specs.Acts.{lane_batch, newest_day}
use Rattle.book_laws.proofs.RangeLaws.{tare_within}
use Rattle.book_state.proofs.Parts.{parts_of}
use Rattle.book_state.proofs.OnLanes.{idle_by_number}
use Rattle.book_state.proofs.state.State.lane_now.Goals as goal

pub returns : goal.returns
returns c =
    let entries = c.args.self.now.entries in
    let stand = parts_of c.self.inside c.args.self.now c.self.invariant c.self.view_is in
    let number_is = c.lane_batch_number.ensures entries stand.index stand.legal in
    let tare_is = c.lane_tare.ensures entries stand.index stand.packs stand.legal in
    record {
      batch = number_is;
      idle = idle_by_number entries c.args.lane c.lane_batch_number.result stand.legal number_is;
      tare = tare_is;
      range = subst (λ (o : Option ℤ). IfSome o (IsBetween (pos 0) MAX_TARE)) (sym tare_is)
          (tare_within entries (lane_batch entries c.args.lane) (newest_day entries) stand.legal);
      unsettled = c.unsettled.ensures;
    }
