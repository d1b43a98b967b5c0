-- Two verdicts are equal exactly where the code finds them so.
use Rattle.std.proofs.Common.{◌≡◌, ◌≢◌, Bool, true, false, refl, sym, ◌∙◌, ap}
use Rattle.std.proofs.lemmas.Bool.{and_parts}
use Rattle.book_words.specs.declared.views.Fails.{Fails}
use Rattle.book_words.specs.declared.views.Verdict.{Verdict}
use Rattle.book_words.specs.declared.views.Verdict.TheVariants.{Empty, Released, Withheld}
use Rattle.book_words.specs.contracts.views.FailsPartialEq.TheImpl as parts
use Rattle.book_words.specs.contracts.views.VerdictPartialEq.TheImpl as verdicts
use Rattle.book_words.specs.contracts.views.VerdictEq.TheImpl.Laws.{laws-law}
use mathlib.Core.Bool.{beq}

bool_is : (a b : Bool) → beq a b ≡ true → a ≡ b
bool_is true true is = refl
bool_is false false is = refl
bool_is true false is = absurd cc
bool_is false true is = absurd cc

fails_are : (a b : Fails) → parts.ghosts.eq a b ≡ true → a ≡ b
fails_are a b is =
    let first = and_parts _ _ is in
    let second = and_parts _ _ first.1 in
    let third = and_parts _ _ second.1 in
    let last = and_parts _ _ third.1 in
    let contents : a.contents ≡ b.contents = bool_is a.contents b.contents first.0 in
    let mean : a.mean ≡ b.mean = bool_is a.mean b.mean second.0 in
    let average : a.average ≡ b.average = bool_is a.average b.average third.0 in
    let allowance : a.allowance ≡ b.allowance = bool_is a.allowance b.allowance last.0 in
    let inadequate : a.inadequate ≡ b.inadequate = bool_is a.inadequate b.inadequate last.1 in
    λ i. record {
      contents = contents i;
      mean = mean i;
      average = average i;
      allowance = allowance i;
      inadequate = inadequate i;
    }

-- verdicts that are found equal are
pub found_equal : (a b : Verdict) → verdicts.ghosts.eq a b ≡ true → a ≡ b
found_equal Empty Empty is = refl
found_equal Released Released is = refl
found_equal (Withheld a) (Withheld b) is = ap (λ (f : Fails). Withheld f) (fails_are a b is)
found_equal a b is = absurd cc

-- and others aren't
pub found_other : (a b : Verdict) → verdicts.ghosts.eq a b ≡ false → a ≢ b
found_other a b isnt same =
    let never : true ≡ false = sym (laws-law.refl a) ∙ ap (verdicts.ghosts.eq a) same ∙ isnt in
    absurd cc
