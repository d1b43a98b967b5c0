-- What holds of each entry of a list, entry by entry.
use Rattle.std.proofs.Common.{◌≡◌, ℕ, zero, suc, ◌+◌, ◌<◌, List, [], ◌∷◌, ◌++◌, length, take, drop, get_or, sym, ap, ◌∙◌, subst, arith}
use Rattle.std.proofs.Math.Seq.{take-suc}
use Rattle.std.specs.List.{AllByRecursion}
use Rattle.book_words.specs.declared.act.Entry.{Entry}
use Rattle.row_format.specs.Allowed.{FitsFields}

one_more : (entries : List Entry) (entry : Entry) → AllByRecursion FitsFields entries
    → FitsFields entry → AllByRecursion FitsFields (entries ++ entry ∷ [])
one_more [] entry all h = (h, tt)
one_more (e ∷ entries) entry all h = (all.0, one_more entries entry all.1 h)

-- the first ones, and the next
pub next_fits : (entries : List Entry) (place : ℕ) (entry : Entry) → place < length entries
    → get_or entries place entry ≡ entry → AllByRecursion FitsFields (take place entries)
    → FitsFields entry → AllByRecursion FitsFields (take (place + 1) entries)
next_fits entries place entry inside is all h =
    subst (AllByRecursion FitsFields)
    (sym (ap (λ n. take n entries) (let same : place + 1 ≡ suc place = omega arith in same)
    ∙ take-suc entries place entry inside
    ∙ ap (λ (e : Entry). take place entries ++ e ∷ []) is))
    (one_more (take place entries) entry all h)

-- those behind so many
pub rest_fits : (after : ℕ) (entries : List Entry) → AllByRecursion FitsFields entries
    → AllByRecursion FitsFields (drop after entries)
rest_fits zero entries all = all
rest_fits (suc after) [] all = all
rest_fits (suc after) (e ∷ entries) all = rest_fits after entries all.1
