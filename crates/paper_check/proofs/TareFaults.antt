-- Where tares and packs don't go together, by the keys of both.
use Rattle.std.proofs.Common.{◌≡◌, ◌==◌, ◌+◌, ◌&&◌, ℕ, ℤ, pos, negsuc, int_le, nat_le, Bool, true, false, not, List, unsigned_abs, Option, Some, None, option_map, position, IsPermutation, sym, ap, inl, inr, ◌∙◌, arith}
use Rattle.std.specs.Option.{option_or}
use Rattle.std.specs.List.{position_from}
use Rattle.std.proofs.lemmas.Bool.{cases_Bool, cases_lt, and_parts, and_from, and_left, and_right, le-leb, lt-leb, eqb-true, eq-eqb}
use Rattle.std.proofs.lemmas.List.Sorted.{list_any-IsPermutation}
use Rattle.pack_judge.specs.declared.tares.DatedTare.{DatedTare}
use Rattle.book_words.specs.Desks.{same_number}
use Rattle.book_words.specs.Refusals.{is_within}
use Rattle.hall_limits.specs.declared.TheConstants.{MAX_DAY, MAX_TARE, MAX_GROSS}
use Rattle.paper_form.specs.declared.types.Pack as packs
use Rattle.paper_form.specs.Papers.{PaperData, is_row, is_tare_in_range, is_pack_in_range}
use Rattle.paper_check.specs.Keys.{is_missing}
use Rattle.paper_form.specs.Ranges.{days_of, IsListed}
use Rattle.paper_check.specs.Keyed.{pack_days_of}
use Rattle.paper_check.specs.Faults.{tares_line, packs_line, has_pack_of, has_tare_of, tare_fault}
use Rattle.paper_check.proofs.Lookups.{position-from, position_from-map, position_from-same, list_any-same, list_any-map}

same_naturals : (a b : ℕ) → (nat_le a b && nat_le b a) ≡ (a == b)
same_naturals a b = elim (cases_Bool (a == b)) [
  | inl is ↦
      let e : a ≡ b = eqb-true a b is in
      and_from (nat_le a b) (nat_le b a) (le-leb a b (omega (arith, e)))
      (le-leb b a (omega (arith, e)))
      ∙ sym is
  | inr other ↦ elim (cases_lt a b) [
    | inl less ↦ and_right (nat_le a b) (nat_le b a) (lt-leb b a less) ∙ sym other
    | inr more ↦ elim (cases_lt b a) [
      | inl greater ↦ and_left (nat_le a b) (nat_le b a) (lt-leb a b greater) ∙ sym other
      | inr le ↦
          let e : a ≡ b = omega (arith, more, le) in
          let same : (a == b) ≡ true = eq-eqb a b e in
          cc
    ]
  ]
]

-- two days that aren't negative are the same where their keys are
pub same_days : (a b : ℤ) → int_le (pos 0) a ≡ true → int_le (pos 0) b ≡ true
    → (unsigned_abs a == unsigned_abs b) ≡ same_number a b
same_days (pos a) (pos b) la lb = sym (same_naturals a b)
same_days (pos a) (negsuc b) la lb = let never : false ≡ true = lb in cc
same_days (negsuc a) b la lb = let never : false ≡ true = la in cc

pub tare_day : (dated : DatedTare) → is_tare_in_range dated ≡ true → int_le (pos 0) dated.day ≡ true
tare_day dated range =
    (and_parts _ _
    ((and_parts (is_within (pos 0) MAX_DAY dated.day) (is_within (pos 0) MAX_TARE dated.tare)
    range).0)).0

pub pack_day : (pack : packs.Pack) → is_pack_in_range pack ≡ true → int_le (pos 0) pack.day ≡ true
pack_day pack range =
    (and_parts _ _ ((and_parts (is_row pack.number) (is_within (pos 0) MAX_DAY pack.day)
    ((and_parts (is_row pack.number && is_within (pos 0) MAX_DAY pack.day)
    (is_within (pos 0) MAX_GROSS pack.gross) range).0)).1)).0

missing_pack : (paper : PaperData) (sorted : List ℕ) → IsListed paper
    → IsPermutation (pack_days_of paper.packs) sorted → (dated : DatedTare)
    → is_tare_in_range dated ≡ true
    → is_missing sorted (unsigned_abs dated.day) ≡ not (has_pack_of paper.packs dated)
missing_pack paper sorted listed permuted dated range =
    let test : ℕ → Bool = λ each. each == unsigned_abs dated.day in
    ap not (sym (list_any-IsPermutation test (pack_days_of paper.packs) sorted permuted)
    ∙ list_any-map test (λ (pack : packs.Pack). unsigned_abs pack.day) paper.packs
    ∙ list_any-same is_pack_in_range (λ pack. unsigned_abs pack.day == unsigned_abs dated.day)
    (λ pack. same_number pack.day dated.day) paper.packs
    (λ pack inside. same_days pack.day dated.day (pack_day pack inside) (tare_day dated range))
    listed.packs.range)

missing_tare : (paper : PaperData) → IsListed paper → (pack : packs.Pack)
    → is_pack_in_range pack ≡ true
    → is_missing (days_of paper.tares) (unsigned_abs pack.day) ≡ not (has_tare_of paper.tares pack)
missing_tare paper listed pack range =
    let test : ℕ → Bool = λ each. each == unsigned_abs pack.day in
    ap not (list_any-map test (λ (dated : DatedTare). unsigned_abs dated.day) paper.tares
    ∙ list_any-same is_tare_in_range (λ dated. unsigned_abs dated.day == unsigned_abs pack.day)
    (λ dated. same_number dated.day pack.day) paper.tares
    (λ dated inside. same_days dated.day pack.day (tare_day dated inside) (pack_day pack range))
    listed.tares.range)

-- the first tare whose day no pack has
pub unused_is : (paper : PaperData) (sorted days : List ℕ) → IsListed paper
    → IsPermutation (pack_days_of paper.packs) sorted → days ≡ days_of paper.tares
    → position_from (is_missing sorted) tares_line days
    ≡ option_map (λ place. tares_line + place)
    (position (λ dated. not (has_pack_of paper.packs dated)) paper.tares)
unused_is paper sorted days listed permuted are =
    ap (position_from (is_missing sorted) tares_line) are
    ∙ position_from-map (is_missing sorted)
    (λ (dated : DatedTare). unsigned_abs dated.day) tares_line paper.tares
    ∙ position_from-same is_tare_in_range (λ dated. is_missing sorted (unsigned_abs dated.day))
    (λ dated. not (has_pack_of paper.packs dated)) tares_line paper.tares
    (missing_pack paper sorted listed permuted) listed.tares.range
    ∙ position-from (λ dated. not (has_pack_of paper.packs dated)) tares_line paper.tares

-- the first pack whose day has no tare
pub tareless_is : (paper : PaperData) (days packs : List ℕ) (line : ℕ) → IsListed paper
    → days ≡ days_of paper.tares → packs ≡ pack_days_of paper.packs → line ≡ packs_line paper
    → position_from (is_missing days) line packs
    ≡ option_map (λ place. packs_line paper + place)
    (position (λ pack. not (has_tare_of paper.tares pack)) paper.packs)
tareless_is paper days wanted line listed are wanted_are at =
    ap (λ (d : List ℕ). position_from (is_missing d) line wanted) are
    ∙ ap (position_from (is_missing (days_of paper.tares)) line) wanted_are
    ∙ ap (λ (n : ℕ). position_from (is_missing (days_of paper.tares)) n (pack_days_of paper.packs))
    at
    ∙ position_from-map (is_missing (days_of paper.tares))
    (λ (pack : packs.Pack). unsigned_abs pack.day)
    (packs_line paper) paper.packs
    ∙ position_from-same is_pack_in_range
    (λ pack. is_missing (days_of paper.tares) (unsigned_abs pack.day))
    (λ pack. not (has_tare_of paper.tares pack)) (packs_line paper) paper.packs
    (missing_tare paper listed) listed.packs.range
    ∙ position-from (λ pack. not (has_tare_of paper.tares pack)) (packs_line paper) paper.packs

-- a tare that no pack uses is the first fault
pub fault_of_tare : (paper : PaperData) (found : Option ℕ) (line : ℕ)
    → found ≡ option_map (λ place. tares_line + place)
    (position (λ dated. not (has_pack_of paper.packs dated)) paper.tares)
    → found ≡ Some line → Some line ≡ tare_fault paper
fault_of_tare paper found line is at =
    ap (λ (o : Option ℕ). option_or o
    (option_map (λ place. packs_line paper + place)
    (position (λ pack. not (has_tare_of paper.tares pack)) paper.packs))) (sym at ∙ is)

-- where all are used, a pack without a tare is
pub fault_of_pack : (paper : PaperData) (found other : Option ℕ)
    → found ≡ option_map (λ place. tares_line + place)
    (position (λ dated. not (has_pack_of paper.packs dated)) paper.tares)
    → found ≡ None
    → other ≡ option_map (λ place. packs_line paper + place)
    (position (λ pack. not (has_tare_of paper.tares pack)) paper.packs)
    → other ≡ tare_fault paper
fault_of_pack paper found other is none next =
    next ∙ ap (λ (o : Option ℕ). option_or o
    (option_map (λ place. packs_line paper + place)
    (position (λ pack. not (has_tare_of paper.tares pack)) paper.packs))) (sym none ∙ is)
