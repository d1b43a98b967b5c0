use Rattle.std.proofs.Common.{◌≡◌, ℕ, ℤ, Bool, true, ◌&&◌, ◌==◌, cond, List, [], ◌∷◌, ◌++◌, Option, Some, refl, sym, ◌∙◌, ap, inl, inr}
use Rattle.std.proofs.lemmas.Bool.{cases_Bool}
use Rattle.std.proofs.lemmas.List.{append-nil, map-append}
use Rattle.std.proofs.lemmas.List.Elements.{filter-append}
use Rattle.std.specs.Prelude.{map}
use Rattle.std.specs.Option.{option_map_or}
use Rattle.std.specs.Prelude.{int_le, int_lt}
use Rattle.pack_judge.specs.declared.tares.DatedTare.{DatedTare}
use Rattle.tare_register.specs.declared.types.ProductTare.{ProductTare}
use Rattle.pack_judge.specs.Tares.{dated_by, latest, deciding_tare}
use Rattle.tare_register.specs.Tares.{decides}
use Rattle.tare_register.specs.Tares.{days_after, least_day, next_day, tares_of}
use Rattle.pack_judge.proofs.Latest.{none_greater, latest-append, latest_tells}
use Rattle.tare_register.proofs.Least.{least_day-append}

-- with one more tare, that one decides where it is dated by the day and none of the others has a
-- greater day
pub deciding_tare-append : (tares : List DatedTare) (dated : DatedTare) (day : ℤ) →
    deciding_tare (tares ++ dated ∷ []) day ≡
    cond (int_le dated.day day && none_greater (dated_by tares day) dated) (Some dated)
    (deciding_tare tares day)
deciding_tare-append tares dated day =
    let test : DatedTare → Bool = λ e. int_le e.day day in
    let others : List DatedTare = dated_by tares day in
    ap latest (filter-append test tares (dated ∷ [])) ∙ elim (cases_Bool (test dated)) [
      | inl h ↦ rw h (latest-append others dated)
      | inr h ↦ rw h (ap latest (append-nil others))
    ]

-- the same in a walk, where the tare that decides so far is known
pub decides_next : (tares : List DatedTare) (dated : DatedTare) (day : ℤ) (known : Option DatedTare) →
    known ≡ deciding_tare tares day →
    cond (decides dated day known) (Some dated) known ≡ deciding_tare (tares ++ dated ∷ []) day
decides_next tares dated day known is =
    rw (is, latest_tells (dated_by tares day) dated) (sym (deciding_tare-append tares dated day))

-- the tares of a product among some entries and one more
pub tares_of-append : (entries : List ProductTare) (entry : ProductTare) (product : ℕ) →
    tares_of (entries ++ entry ∷ []) product ≡
    cond (entry.product == product) (tares_of entries product ++ entry.dated ∷ [])
    (tares_of entries product)
tares_of-append entries entry product =
    let own : ProductTare → Bool = λ e. e.product == product in
    ap (λ es. map (λ e. e.dated) es) (filter-append own entries (entry ∷ []))
    ∙ elim (cases_Bool (own entry)) [
      | inl h ↦ rw (h, map-append) refl
      | inr h ↦ rw (h, append-nil) refl
    ]

-- one more entry of any product in a walk
pub deciding_step : (entries : List ProductTare) (entry : ProductTare) (product : ℕ) (day : ℤ)
    (known : Option DatedTare) →
    known ≡ deciding_tare (tares_of entries product) day →
    cond ((entry.product == product) && decides entry.dated day known) (Some entry.dated) known ≡
    deciding_tare (tares_of (entries ++ entry ∷ []) product) day
deciding_step entries entry product day known is = elim (cases_Bool (entry.product == product)) [
  | inl h ↦ rw (tares_of-append, h) (decides_next (tares_of entries product) entry.dated day known is)
  | inr h ↦ rw (tares_of-append, h) is
]

-- with one more tare, its day is the next where it comes after the day and before the next one of
-- the others
next_more : (tares : List DatedTare) (dated : DatedTare) (day : ℤ) (known : Option ℤ) →
    known ≡ next_day tares day →
    cond (int_lt day dated.day && option_map_or (λ next. int_lt dated.day next) known true)
    (Some dated.day) known ≡
    next_day (tares ++ dated ∷ []) day
next_more tares dated day known is =
    let later : DatedTare → Bool = λ e. int_lt day e.day in
    let days : List ℤ = days_after tares day in
    rw is (sym (ap (λ es. least_day (map (λ e. e.day) es)) (filter-append later tares (dated ∷ []))
    ∙ elim (cases_Bool (later dated)) [
      | inl h ↦ rw (h, map-append) (least_day-append days dated.day)
      | inr h ↦ rw (h, append-nil) refl
    ]))

-- one more entry of any product in a walk
pub next_step : (entries : List ProductTare) (entry : ProductTare) (product : ℕ) (day : ℤ)
    (known : Option ℤ) →
    known ≡ next_day (tares_of entries product) day →
    cond ((entry.product == product)
    && (int_lt day entry.dated.day
    && option_map_or (λ next. int_lt entry.dated.day next) known true))
    (Some entry.dated.day) known ≡
    next_day (tares_of (entries ++ entry ∷ []) product) day
next_step entries entry product day known is = elim (cases_Bool (entry.product == product)) [
  | inl h ↦ rw (tares_of-append, h) (next_more (tares_of entries product) entry.dated day known is)
  | inr h ↦ rw (tares_of-append, h) is
]
