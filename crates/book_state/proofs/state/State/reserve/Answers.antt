use Rattle.std.proofs.Common.{arith}
use Rattle.book_state.proofs.Parts.{same_list}
use Rattle.book_state.proofs.state.State.reserve.Goals as goal

pub invariant_of-self-in_err-reserve-2 : goal.invariant_of-self-in_err-reserve-2
invariant_of-self-in_err-reserve-2 c =
    let kept = c.self.invariant in
    let stand = same_list c.reserve.new.self.items c.self.inside.entries.items _ _ _
    c.reserve.ensures.items kept.stand in
    record {
      stand = record {
        legal = stand.legal;
        index =
            c.reserve-2.ensures.kept c.reserve.new.self.items stand.index;
        packs = stand.packs;
        samples = stand.samples;
      };
      index_room = omega (arith, kept.index_room, c.reserve-2.ensures.spare);
      packs_room = kept.packs_room;
      samples_room = kept.samples_room;
      list_room = omega (arith, kept.list_room, c.reserve.ensures.len, c.reserve.ensures.capacity);
    }

pub invariant_of-self-in_err-reserve-3 : goal.invariant_of-self-in_err-reserve-3
invariant_of-self-in_err-reserve-3 c =
    let kept = c.self.invariant in
    let stand = same_list c.reserve.new.self.items c.self.inside.entries.items _ _ _
    c.reserve.ensures.items kept.stand in
    record {
      stand = record {
        legal = stand.legal;
        index = c.reserve-2.ensures.kept c.reserve.new.self.items stand.index;
        packs = c.reserve-3.ensures.kept c.reserve.new.self.items stand.packs;
        samples = stand.samples;
      };
      index_room = omega (arith, kept.index_room, c.reserve-2.ensures.spare);
      packs_room = omega (arith, kept.packs_room, c.reserve-3.ensures.spare);
      samples_room = kept.samples_room;
      list_room = omega (arith, kept.list_room, c.reserve.ensures.len, c.reserve.ensures.capacity);
    }

pub invariant_of-self-in_err-reserve-4 : goal.invariant_of-self-in_err-reserve-4
invariant_of-self-in_err-reserve-4 c =
    let kept = c.self.invariant in
    let stand = same_list c.reserve.new.self.items c.self.inside.entries.items _ _ _
    c.reserve.ensures.items kept.stand in
    record {
      stand = record {
        legal = stand.legal;
        index = c.reserve-2.ensures.kept c.reserve.new.self.items stand.index;
        packs = c.reserve-3.ensures.kept c.reserve.new.self.items stand.packs;
        samples = c.reserve-4.ensures.kept c.reserve.new.self.items stand.samples;
      };
      index_room = omega (arith, kept.index_room, c.reserve-2.ensures.spare);
      packs_room = omega (arith, kept.packs_room, c.reserve-3.ensures.spare);
      samples_room = omega (arith, kept.samples_room, c.reserve-4.ensures.spare);
      list_room = omega (arith, kept.list_room, c.reserve.ensures.len, c.reserve.ensures.capacity);
    }

pub invariant_of-self-2 : goal.invariant_of-self-2
invariant_of-self-2 c =
    let kept = c.self.invariant in
    let stand = same_list c.reserve.new.self.items c.self.inside.entries.items _ _ _
    c.reserve.ensures.items kept.stand in
    record {
      stand = record {
        legal = stand.legal;
        index = c.reserve-2.ensures.kept c.reserve.new.self.items stand.index;
        packs = c.reserve-3.ensures.kept c.reserve.new.self.items stand.packs;
        samples = c.reserve-4.ensures.kept c.reserve.new.self.items stand.samples;
      };
      index_room = c.in_ok-reserve-2.ensures.ok;
      packs_room = c.in_ok-reserve-3.ensures.ok;
      samples_room = c.in_ok-reserve-4.ensures.ok;
      list_room = omega (
        arith,
        c.in_ok-reserve.ensures.ok,
        c.reserve.ensures.len,
        c.reserve.ensures.capacity,
      );
    }
