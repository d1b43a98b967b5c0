use Rattle.std.proofs.Common.{rules, ℤ, ◌-ℤ◌, ◌≤◌, int_lt, FitsSigned, w64, unsigned_abs, ap, ◌∙◌, arith, lit<}
use Rattle.std.specs.Int.{w128}
use Rattle.std.proofs.lemmas.Int.{ints, to_z-of_z}
use Rattle.reference_test.proofs.SignedNumbers.{again, computes_read, computes_difference}
use Rattle.book_packs.proofs.settling.is_below.Goals as goal

-- a number of 64 bits is at most so far from 0
near : (z : ℤ) → FitsSigned w64 z → unsigned_abs z ≤ 9223372036854775808
near z fits = omega (arith, ints, fits)

pub returns : goal.returns
returns c =
    let gross_fits : FitsSigned w64 c.args.pack.now.gross = search rules in
    let tare_fits : FitsSigned w64 c.args.pack.now.tare = search rules in
    let limit_fits : FitsSigned w64 c.args.limit = c.ranges.limit in
    let gross = computes_read w128 c.from.result c.args.pack.now.gross 9223372036854775808 (lit< tt)
    (c.from.ensures ∙ to_z-of_z w64 c.args.pack.now.gross gross_fits)
    (near c.args.pack.now.gross gross_fits) in
    let tare = computes_read w128 c.from-2.result c.args.pack.now.tare 9223372036854775808 (lit< tt)
    (c.from-2.ensures ∙ to_z-of_z w64 c.args.pack.now.tare tare_fits)
    (near c.args.pack.now.tare tare_fits) in
    let limit = computes_read w128 c.from-3.result c.args.limit 9223372036854775808 (lit< tt)
    (c.from-3.ensures ∙ to_z-of_z w64 c.args.limit limit_fits) (near c.args.limit limit_fits) in
    let net = computes_difference w128 (lit< tt) gross tare in
    ap (λ z. int_lt z (again w128 c.from-3.result)) net.same
    ∙ ap (int_lt (c.args.pack.now.gross -ℤ c.args.pack.now.tare)) limit.same
