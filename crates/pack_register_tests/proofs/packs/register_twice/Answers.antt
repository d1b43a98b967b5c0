use Rattle.std.proofs.Common.{◌≡◌, ℕ, zero, suc, List, [], ◌∷◌, ◌<◌, length, sym, subst, rules, arith}
use Rattle.std.specs.List.{All}
use Rattle.book_words.specs.Ranges.{IsPackInRange}
use Rattle.book_words.specs.declared.views.PackView.{PackView}
use Rattle.pack_register_tests.proofs.packs.register_twice.Goals as goal

-- a pack in range, listed twice
both : (pack : PackView) → IsPackInRange pack → All IsPackInRange (pack ∷ pack ∷ [])
both pack range zero d inside = range
both pack range (suc zero) d inside = range
both pack range (suc (suc place)) d inside = absurd (omega arith)

pub register-requires : goal.register-requires
register-requires c =
    let items : c.from.result ≡ c.args.pack.now ∷ c.args.pack.now ∷ [] = search rules in
    subst (All IsPackInRange) (sym items) (both c.args.pack.now c.requires)
