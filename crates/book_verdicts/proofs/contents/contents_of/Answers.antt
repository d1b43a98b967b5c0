use Rattle.std.proofs.Common.{Some, refl, sym, ◌∙◌, ap, arith, lit<, ℤ, ◌≤◌, unsigned_abs, w64}
use Rattle.std.proofs.lemmas.Int.{ints}
use Rattle.hall_limits.specs.declared.TheConstants.{MAX_GROSS, MAX_TARE}
use Rattle.annex_tables.specs.declared.types.Mode.{Mode}
use Rattle.reference_test.proofs.SignedNumbers.{computes_read, computes_difference}
use Rattle.book_verdicts.proofs.ContentsLemmas.{contents_by, known_contents}
use Rattle.book_verdicts.proofs.contents.contents_of.Goals as goal

pub returns-in-Keep-clause-value : goal.returns-in-Keep-clause-value
returns-in-Keep-clause-value c =
    let known = c.in_ok-known.known in
    let measured = c.in_ok-measured.measured in
    let weighed = c.in_ok-measured.ensures.gross in
    let tare = c.in_ok-known.ensures.tare in
    let near : unsigned_abs measured.gross ≤ unsigned_abs MAX_GROSS =
    omega (arith, ints, weighed.0, weighed.1) in
    let light : unsigned_abs known.tare ≤ unsigned_abs MAX_TARE = omega (arith, ints, tare.0, tare.1) in
    let read = computes_difference w64 (lit< tt)
    (computes_read w64 c.gross.result measured.gross (unsigned_abs MAX_GROSS)
    (lit< tt) c.gross.ensures near)
    (computes_read w64 known.tare known.tare (unsigned_abs MAX_TARE) (lit< tt) refl light) in
    ap (λ (mass : ℤ). Some mass) read.same
    ∙ ap (λ (mode : Mode). Some (contents_by mode known.tare measured)) (sym c.in-Keep.is)
    ∙ sym (known_contents c.args.state.now.entries c.args.mode c.args.pack known measured
    (sym c.pack.ensures.value ∙ c.in_ok-known.was)
    (sym c.measured.ensures.value ∙ c.in_ok-measured.was))

pub returns-in-Destroy-clause-value : goal.returns-in-Destroy-clause-value
returns-in-Destroy-clause-value c =
    let known = c.in_ok-known.known in
    let measured = c.in_ok-measured.measured in
    let weighed = c.in_ok-measured.ensures.gross in
    let empty = c.in_ok-measured.ensures.empty in
    let near : unsigned_abs measured.gross ≤ unsigned_abs MAX_GROSS =
    omega (arith, ints, weighed.0, weighed.1) in
    let light : unsigned_abs measured.empty ≤ unsigned_abs MAX_TARE =
    omega (arith, ints, empty.0, empty.1) in
    let read = computes_difference w64 (lit< tt)
    (computes_read w64 c.gross-in-Destroy.result measured.gross (unsigned_abs MAX_GROSS)
    (lit< tt) c.gross-in-Destroy.ensures near)
    (computes_read w64 c.empty.result measured.empty (unsigned_abs MAX_TARE)
    (lit< tt) c.empty.ensures light) in
    ap (λ (mass : ℤ). Some mass) read.same
    ∙ ap (λ (mode : Mode). Some (contents_by mode known.tare measured)) (sym c.in-Destroy.is)
    ∙ sym (known_contents c.args.state.now.entries c.args.mode c.args.pack known measured
    (sym c.pack.ensures.value ∙ c.in_ok-known.was)
    (sym c.measured.ensures.value ∙ c.in_ok-measured.was))
