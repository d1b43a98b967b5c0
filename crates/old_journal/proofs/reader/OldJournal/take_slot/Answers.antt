use Rattle.std.proofs.Common.{◌≡◌, ◌∙◌, ◌+◌, sym, ap, inr, subst, take, length, arith}
use Rattle.std.proofs.lemmas.List.{take_all}
use Rattle.book_snapshot.specs.declared.layout.TheConstants.{OLD_ROW_BYTES}
use Rattle.old_journal.specs.Reader.{IsWhole}
use Rattle.old_journal.specs.contracts.reader.OldJournal.{the_view}
use Rattle.old_journal.proofs.ReaderPlaces.{whole_by}
use Rattle.old_journal.proofs.reader.OldJournal.take_slot.Goals as goal

pub returns-clause-step : goal.returns-clause-step
returns-clause-step c =
    let part = take c.fill-count.result c.args.bytes.now in
    let slot = c.fill-count.new.slot in
    let piece = c.piece_in-piece.result in
    let size : length slot ≡ OLD_ROW_BYTES = c.fill-count.ensures.size in
    let all : c.self.inside.filled + c.fill-count.result ≡ OLD_ROW_BYTES =
    omega (arith, c.fill-count.ensures.fits, c.if-self-count-lt-OLD_ROW_BYTES.false) in
    let is = sym c.fill-count.ensures.filled ∙ ap (λ n. take n slot) all
    ∙ take_all OLD_ROW_BYTES slot (omega (arith, size)) in
    let new = the_view
    (record {
      stage = c.stage_behind-self-inside.result;
      rows = c.rows_with-self-inside.result;
      slot = slot;
      filled = 0;
    }) in
    inr (subst (λ v. IsWhole v new part piece) c.self.view_is
    (whole_by (the_view c.self.inside) slot part piece _ _ is size c.piece_in-piece.ensures
    c.stage_behind-self-inside.ensures c.rows_with-self-inside.ensures))
