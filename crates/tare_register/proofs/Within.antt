use Rattle.std.proofs.Common.{◌≡◌, ℕ, ℤ, true, false, ◌==◌, cond, List, [], ◌∷◌, ◌++◌, Some, refl, sym, ◌∙◌, ap, arith, inl, inr}
use Rattle.std.proofs.lemmas.Int.{ints}
use Rattle.std.proofs.lemmas.Bool.{cases_Bool, eqb-true, and_parts}
use Rattle.std.specs.List.{list_all}
use Rattle.std.specs.Option.{option_map, option_map_or}
use Rattle.std.specs.Prelude.{int_le, int_lt}
use Rattle.pack_judge.specs.declared.tares.DatedTare.{DatedTare}
use Rattle.tare_register.specs.declared.types.ProductTare.{ProductTare}
use Rattle.pack_judge.specs.Tares.{dated_by, covers, latest, tare_by_rule}
use Rattle.tare_register.specs.Tares.{days_after, next_day, tares_of, entry_of, span_of, DecidesWithin, HasOneTareWithin}
use Rattle.pack_judge.proofs.Latest.{none_greater}
use Rattle.tare_register.proofs.Steps.{deciding_tare-append, tares_of-append}
use Rattle.tare_register.proofs.Least.{int_lt-least_day}

int_le_false : (x y : ℤ) → int_le x y ≡ false → int_lt y x ≡ true
int_le_false x y h = grind (arith, ints)

int_le_true : (x y : ℤ) → int_le x y ≡ true → int_lt y x ≡ false
int_le_true x y h = grind (arith, ints)

int_lt_true : (x y : ℤ) → int_lt x y ≡ true → int_le y x ≡ false
int_lt_true x y h = grind (arith, ints)

int_le_chain : (x y z : ℤ) → int_le x y ≡ true → int_le y z ≡ true → int_le x z ≡ true
int_le_chain x y z h k = grind (arith, ints)

-- no later day is reached by then, exactly where no tare dated by then has a greater day
pub later_days_reached : (tares : List DatedTare) (dated : DatedTare) (later : ℤ)
    → int_le dated.day later ≡ true →
    list_all (λ day. int_lt later day) (days_after tares dated.day)
    ≡ none_greater (dated_by tares later) dated
later_days_reached [] dated later h = refl
later_days_reached (x ∷ xs) dated later h =
    let rest = later_days_reached xs dated later h in
    elim (cases_Bool (int_le x.day dated.day)) [
      | inl old ↦ rw (
        int_le_true x.day dated.day old,
        int_le_chain x.day dated.day later old h,
        old,
      ) rest
      | inr new ↦ rw (int_le_false x.day dated.day new) (elim (cases_Bool (int_le x.day later)) [
        | inl reached ↦ rw (reached, new, int_le_true x.day later reached) refl
        | inr ahead ↦ rw (ahead, int_le_false x.day later ahead) rest
      ])
    ]

-- a tare put last decides on the days of its span, and on no other
tare_decides : (tares : List DatedTare) (dated : DatedTare) (day : ℤ) →
    tare_by_rule (tares ++ dated ∷ []) day ≡
    cond (covers (record { from = dated.day; until = next_day tares dated.day }) day)
    (Some dated.tare) (tare_by_rule tares day)
tare_decides tares dated day =
    rw (deciding_tare-append tares dated day) (elim (cases_Bool (int_le dated.day day)) [
      | inl reached ↦ rw (
        reached,
        int_lt-least_day day (days_after tares dated.day),
        later_days_reached tares dated day reached,
      )
          (elim (cases_Bool (none_greater (dated_by tares day) dated))
          [ inl h ↦ rw h refl | inr h ↦ rw h refl ])
      | inr ahead ↦ rw ahead refl
    ])

-- an entry put last decides the tare of its product on the days of its span, and no other tare
pub span_decides : (entries : List ProductTare) (product : ℕ) (day : ℤ)
    → DecidesWithin (span_of entries product day) entries product day
span_decides entries product day tare other_product other_day =
    let entry : ProductTare = entry_of product day tare in
    elim (cases_Bool (product == other_product)) [
      | inl same ↦ rw (tares_of-append, same, ← eqb-true product other_product same)
          (tare_decides (tares_of entries product) entry.dated other_day)
      | inr other ↦ rw (tares_of-append, other) refl
    ]

-- up to a day before the later ones, the same tares are dated
dated_by_same : (tares : List DatedTare) (from later : ℤ) → int_le from later ≡ true →
    list_all (λ day. int_lt later day) (days_after tares from) ≡ true
    → dated_by tares later ≡ dated_by tares from
dated_by_same [] from later h all = refl
dated_by_same (x ∷ xs) from later h all = elim (cases_Bool (int_le x.day from)) [
  | inl old ↦
      let rest = dated_by_same xs from later h (rw (int_le_true x.day from old) at all) in
      rw (old, int_le_chain x.day from later old h) (ap (λ es. x ∷ es) rest)
  | inr new ↦
      let parts = and_parts (int_lt later x.day)
      (list_all (λ day. int_lt later day) (days_after xs from))
      (rw (int_le_false x.day from new) at all) in
      rw (new, int_lt_true later x.day parts.0) (dated_by_same xs from later h parts.1)
]

-- on each day of a span a product has the tare of its first
pub span_constant : (entries : List ProductTare) (product : ℕ) (day : ℤ)
    → HasOneTareWithin (span_of entries product day) entries product
span_constant entries product from day within =
    let tares = tares_of entries product in
    let parts = and_parts (int_le from day)
    (option_map_or (λ until. int_lt day until) (next_day tares from) true) within in
    ap (λ es. option_map (λ (dated : DatedTare). dated.tare) (latest es))
    (dated_by_same tares from day parts.0
    (sym (int_lt-least_day day (days_after tares from)) ∙ parts.1))
