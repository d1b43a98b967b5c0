use Rattle.std.proofs.Common.{◌∙◌, ⊎_elim, inl, inr, ℕ, min, length, drop, ap, refl, sym, arith, length-drop, length-take}
use Rattle.book_journal.proofs.OpenRows.{rows_fit}
use Rattle.book_journal.proofs.Pieces.{piece_all, piece_end}
use Rattle.book_journal.proofs.slots.count_piece.Goals as goal

pub returns-clause-inside : goal.returns-clause-inside
returns-clause-inside g c = omega (
  arith,
  rows_fit _ _ c.open_slots.ensures.all,
  length-take c.in_ok-count.count c.read_at.new.into,
)

pub returns-clause-all : goal.returns-clause-all
returns-clause-all g c bytes told =
    let read = c.in_ok-count.ensures in
    let there = drop c.args.place bytes in
    let got = read.count bytes told
    ∙ ap (λ (n : ℕ). min (length c.read_at.new.into) n)
    (sym (length-drop c.args.place bytes)) in
    piece_all c.read_at.new.into there c.in_ok-count.count c.open_slots.result
    (length c.read_at.new.into) got (read.bytes bytes told) refl c.open_slots.ensures.all

pub returns-clause-end : goal.returns-clause-end
returns-clause-end g c bytes told enough =
    let read = c.in_ok-count.ensures in
    let there = drop c.args.place bytes in
    let got = read.count bytes told
    ∙ ap (λ (n : ℕ). min (length c.read_at.new.into) n)
    (sym (length-drop c.args.place bytes)) in
    piece_end c.read_at.new.into there c.in_ok-count.count c.open_slots.result
    (length c.read_at.new.into) got (read.bytes bytes told) refl c.open_slots.ensures.end
    (⊎_elim (λ room. inl room) (λ to_end.
    inr (omega (arith, to_end, length-drop c.args.place bytes))) enough)
