-- Lists that others begin with.
use Rattle.std.proofs.Common.{◌≡◌, ◌≤◌, List, [], ◌∷◌, ◌++◌, length, take, drop, Option, Some, None, sym, ◌∙◌, ap, arith, append_assoc, append-nil, length-append}
use Rattle.std.proofs.Math.Seq.{take-append_seam}
use Rattle.std.proofs.lemmas.List.{take-append-drop, take-append-le}
use Rattle.std.specs.List.{cons_option}
use Rattle.device_facts.specs.Prefix.{IsPrefixOf}

pub prefix_on : {A : Type 0} (a b c : List A) → IsPrefixOf a b → IsPrefixOf b c → IsPrefixOf a c
prefix_on {A} a b c first second = (
  first.0 ++ second.0,
  second.1 ∙ ap (λ (es : List A). es ++ second.0) first.1 ∙ append_assoc a first.0 second.0,
)

pub prefix_itself : {A : Type 0} (a : List A) → IsPrefixOf a a
prefix_itself a = ([], sym (append-nil a))

pub prefix_short : {A : Type 0} (a b : List A) → IsPrefixOf a b → length a ≤ length b
prefix_short a b begins = omega (arith, ap length begins.1, length-append a begins.0)

-- two lists of which each begins with the other are the same
pub prefix_both : {A : Type 0} (a b : List A) → IsPrefixOf a b → IsPrefixOf b a → a ≡ b
prefix_both {A} a b first second = by first.0 first.1 where
  by : (more : List A) → b ≡ a ++ more → a ≡ b
  by [] is = sym (is ∙ append-nil a)
  by (x ∷ more) is =
      let short = prefix_short b a second in
      absurd (omega (arith, short, ap length is, length-append a (x ∷ more)))

-- of two lists with which the same list begins, the longer begins with the other
pub prefix_within : {A : Type 0} (a b whole : List A) → IsPrefixOf a whole → IsPrefixOf b whole
    → length a ≤ length b → IsPrefixOf a b
prefix_within {A} a b whole one other short =
    let front : take (length a) b ≡ a =
    sym (take-append-le (length a) b other.0 short)
    ∙ ap (λ (xs : List A). take (length a) xs) (sym other.1 ∙ one.1)
    ∙ take-append_seam a one.0 in (
      drop (length a) b,
      sym (take-append-drop (length a) b)
          ∙ ap (λ (xs : List A). xs ++ drop (length a) b) front,
    )

-- with the same elements before both
pub prefix_behind : {A : Type 0} (before a b : List A) → IsPrefixOf a b
    → IsPrefixOf (before ++ a) (before ++ b)
prefix_behind {A} before a b begins = (
  begins.0,
  ap (λ (xs : List A). before ++ xs) begins.1 ∙ sym (append_assoc before a begins.0),
)

pub prefix_onto : {A : Type 0} (first : Option A) (a b : List A) → IsPrefixOf a b
    → IsPrefixOf (cons_option first a) (cons_option first b)
prefix_onto None a b begins = begins
prefix_onto {A} (Some x) a b begins = (begins.0, ap (λ (xs : List A). x ∷ xs) begins.1)
