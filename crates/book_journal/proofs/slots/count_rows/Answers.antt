use Rattle.std.proofs.Common.{◌≡◌, ◌⊎◌, ◌+◌, ◌-◌, ◌*◌, ◌≤◌, ⊎_elim, inl, inr, ℕ, min, length, drop, ap, refl, ◌∙◌, subst, arith, false, length-take}
use Rattle.book_snapshot.specs.declared.layout.TheConstants.{ROW_BYTES}
use Rattle.book_journal.specs.declared.layout.TheConstants.{MAX_SLOTS}
use Rattle.book_journal.specs.Rows.{open_rows, gate_behind, starts_open}
use Rattle.book_journal.proofs.OpenRows.{open_rows-none}
use Rattle.book_journal.proofs.Moments.{unmoved_none, unmoved_on}
use Rattle.book_journal.proofs.AskedBytes.{counted_among}
use Rattle.book_journal.proofs.Pieces.{pieces_all, pieces_end, last_piece}
use Rattle.book_journal.proofs.slots.count_rows.Goals as goal

pub loop-piece-init : goal.loop-piece-init
loop-piece-init g c =
    let none : c.args.first - c.args.first ≡ 0 = omega arith in
    record {
      most = c.requires.first;
      pieces = omega arith;
      counts = λ bytes told size. ap
          (λ (n : ℕ). length (open_rows n (drop (gate_behind c.args.first) bytes))) none
          ∙ ap length (open_rows-none (drop (gate_behind c.args.first) bytes))
          ∙ omega (arith, none);
      unmoved = unmoved_none g.D.Disk c.args.disk.now;
      calm = refl;
      asked = omega arith;
    }

-- what was asked for before a piece, and for the piece
pub returns-in_err-open-clause-asked_most : goal.returns-in_err-open-clause-asked_most
returns-in_err-open-clause-asked_most g c bytes told size =
    let so_far = c.loop-piece.invariant in
    let n = c.loop-piece.count in
    let room : length c.count_piece.new.piece ≤ ROW_BYTES * min c.args.slots (MAX_SLOTS - n) =
    omega (
      arith,
      c.count_piece.auto.piece,
      length-take c.wanted-wanted.result c.loop-piece.piece,
      c.wanted-wanted.ensures,
    ) in
    let among = counted_among c.args.first n bytes so_far.most (so_far.counts bytes told size) in
    omega (arith, so_far.asked, c.count_piece.ensures.asked, room, among)

pub returns-then-open-slots-clause-asked_most : goal.returns-then-open-slots-clause-asked_most
returns-then-open-slots-clause-asked_most g c bytes told size =
    let so_far = c.loop-piece.invariant in
    let n = c.loop-piece.count in
    let room : length c.count_piece.new.piece ≤ ROW_BYTES * min c.args.slots (MAX_SLOTS - n) =
    omega (
      arith,
      c.count_piece.auto.piece,
      length-take c.wanted-wanted.result c.loop-piece.piece,
      c.wanted-wanted.ensures,
    ) in
    let among = counted_among c.args.first n bytes so_far.most (so_far.counts bytes told size) in
    omega (arith, so_far.asked, c.count_piece.ensures.asked, room, among)

pub returns-then-open-slots-clause-all : goal.returns-then-open-slots-clause-all
returns-then-open-slots-clause-all g c bytes told size =
    let so_far = c.loop-piece.invariant in
    let told_now = so_far.unmoved.reads ∙ told in
    let n = c.loop-piece.count in
    let m = c.in_ok-open.open in
    pieces_all c.args.first n m (omega (arith, so_far.pieces)) bytes (so_far.counts bytes told size)
    (subst (λ (p : ℕ). length (open_rows m (drop p bytes)) ≡ m) c.gate_behind.ensures
    (c.in_ok-open.ensures.all bytes told_now))

pub returns-then-open-slots-clause-end : goal.returns-then-open-slots-clause-end
returns-then-open-slots-clause-end g c bytes told size =
    let so_far = c.loop-piece.invariant in
    let told_now = so_far.unmoved.reads ∙ told in
    let n = c.loop-piece.count in
    let m = c.in_ok-open.open in
    let slots = c.args.slots in
    let room = length c.count_piece.new.piece in
    let left = length bytes - gate_behind n in
    let wanted : room ≡ min (ROW_BYTES * min slots (MAX_SLOTS - n)) left =
    omega (
      arith,
      c.count_piece.auto.piece,
      length-take c.wanted-wanted.result c.loop-piece.piece,
      c.gate_behind.array_long,
      c.wanted-wanted.ensures,
      size,
      c.requires.few,
    ) in
    let end = subst (λ (p : ℕ). (ROW_BYTES * m + ROW_BYTES ≤ room) ⊎ (length bytes - p ≤ room)
    → starts_open (drop (ROW_BYTES * m) (drop p bytes)) ≡ false) c.gate_behind.ensures
    (c.in_ok-open.ensures.end bytes told_now) in
    ⊎_elim (λ most. inl most) (λ enough. inr (pieces_end n m bytes (end enough)))
    (last_piece n m slots room left so_far.most wanted c.in_ok-open.ensures.inside
    c.if-open-slots.true)

pub loop-piece-preserved : goal.loop-piece-preserved
loop-piece-preserved g c =
    let so_far = c.loop-piece.invariant in
    let n = c.loop-piece.count in
    let m = c.in_ok-open.open in
    let slots = c.args.slots in
    let room : length c.count_piece.new.piece ≤ ROW_BYTES * min slots (MAX_SLOTS - n) =
    omega (
      arith,
      c.count_piece.auto.piece,
      length-take c.wanted-wanted.result c.loop-piece.piece,
      c.wanted-wanted.ensures,
    ) in
    let full : m ≡ slots = omega (arith, room, c.in_ok-open.ensures.inside, c.if-open-slots.false) in
    record {
      most = omega (arith, room, c.in_ok-open.ensures.inside, so_far.most);
      pieces = omega (arith, full, so_far.pieces, c.requires.some);
      counts = λ bytes told size. pieces_all c.args.first n m (omega (arith, so_far.pieces)) bytes
          (so_far.counts bytes told size)
          (subst (λ (p : ℕ). length (open_rows m (drop p bytes)) ≡ m) c.gate_behind.ensures
          (c.in_ok-open.ensures.all bytes (so_far.unmoved.reads ∙ told)));
      unmoved = unmoved_on g.D.Disk c.args.disk.now c.loop-piece.disk c.count_piece.new.disk
          so_far.unmoved c.count_piece.ensures.unmoved;
      calm = c.in_ok-open.ensures.cause ∙ so_far.calm;
      asked = omega (arith, full, so_far.asked, so_far.pieces, c.count_piece.ensures.asked, room);
    }
