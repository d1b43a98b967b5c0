use Rattle.std.proofs.Common.{rules, sym, ◌∙◌, ap, refl, arith, lit<, ℤ, Some, ◌≤◌, ◌-ℤ◌, unsigned_abs, FitsSigned, w32, w64}
use Rattle.std.proofs.lemmas.Int.{ints, to_z-of_z}
use Rattle.hall_limits.specs.declared.TheConstants.{MAX_GROSS, MAX_TARE}
use Rattle.pack_judge.specs.Judge.{class_of}
use Rattle.reference_test.proofs.SignedNumbers.{computes_read, computes_difference}
use Rattle.book_words.specs.declared.name.Name.{Name}
use Rattle.book_words.specs.Acts.{product_of}
use Rattle.book_words.specs.Classes.{class_in_batch}
use Rattle.book_views.proofs.ViewLemmas.{known_view}
use Rattle.book_views.proofs.views.view_known.Goals as goal

pub returns : goal.returns
returns c entries is of_batch are =
    let known = c.args.known.now in
    let terms = c.args.terms.now in
    let weighed = c.requires.gross in
    let light = c.requires.tare in
    let near : unsigned_abs known.gross ≤ unsigned_abs MAX_GROSS =
    omega (arith, ints, weighed.0, weighed.1) in
    let less : unsigned_abs known.tare ≤ unsigned_abs MAX_TARE = omega (arith, ints, light.0, light.1) in
    let gross = computes_read w64 known.gross known.gross (unsigned_abs MAX_GROSS) (lit< tt) refl near in
    let tare = computes_read w64 known.tare known.tare (unsigned_abs MAX_TARE) (lit< tt) refl less in
    let net = computes_difference w64 (lit< tt) gross tare in
    let days : FitsSigned w32 known.day = search rules in
    let day = to_z-of_z w32 known.day days in
    (λ i. Some (record {
      pack = c.args.number;
      batch = known.batch;
      product = terms.product;
      lane = known.lane;
      day = day i;
      gross = gross.same i;
      net = net.same i;
      class = c.class.result;
      signal = known.signal;
      pile = known.pile;
    }))
    ∙ known_view entries c.args.number known terms.product c.class.result is
    (ap (λ (name : Name). product_of entries name) of_batch ∙ are.product)
    (c.class.ensures
    ∙ ap (λ (n : ℤ). class_of n terms.limits) net.same
    ∙ are.class (known.gross -ℤ known.tare)
    ∙ ap (λ (name : Name). class_in_batch entries name (known.gross -ℤ known.tare)) (sym of_batch))
