use Rattle.std.proofs.Common.{rules, ◌≡◌, ◌&&◌, true, cond, Some, None, sym, ◌∙◌, ap, FitsSigned, w32, w64}
use Rattle.std.proofs.lemmas.Bool.{and_from}
use Rattle.std.proofs.lemmas.Int.{to_z-of_z}
use Rattle.book_words.specs.Names.{same_name}
use Rattle.paper_form.specs.declared.types.Pack as packs
use Rattle.batch_paper.specs.Written.{is_stock}
use Rattle.batch_paper.proofs.StockPacks.{stock_pack}
use Rattle.batch_paper.proofs.packs.pack_at.Goals as goal

pub returns-then-is_in_stock : goal.returns-then-is_in_stock
returns-then-is_in_stock c =
    let entries = c.args.state.now.entries in
    let batch = c.args.batch.now in
    let known = c.in_ok-pack.pack in
    let days : FitsSigned w32 known.day = search rules in
    let masses : FitsSigned w64 known.gross = search rules in
    let day = to_z-of_z w32 known.day days in
    let gross = to_z-of_z w64 known.gross masses in
    let both : (same_name known.batch batch && is_stock known.pile) ≡ true =
    and_from (same_name known.batch batch) (is_stock known.pile)
    (sym c.is.ensures ∙ c.if-is.true) (sym c.is_in_stock.ensures ∙ c.if-is_in_stock.true) in
    let pack : packs.Pack = record { number = c.args.number; day = known.day; gross = known.gross }
    in
    (λ i. Some (record { number = c.args.number; day = day i; gross = gross i }))
    ∙ sym (stock_pack entries batch c.args.number known
    (sym c.in_ok-pack.was ∙ c.pack.ensures.value)
    ∙ ap (λ b. cond b (Some pack) None) both)
