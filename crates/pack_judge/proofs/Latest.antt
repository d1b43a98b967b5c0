use Rattle.std.proofs.Common.{◌≡◌, ℤ, Bool, true, false, ◌&&◌, cond, List, [], ◌∷◌, ◌++◌, Option, Some, None, refl, sym, ◌∙◌, ap, inl, inr, arith, append_assoc}
use Rattle.std.proofs.lemmas.Int.{ints}
use Rattle.std.proofs.lemmas.Bool.{and_cases, and_parts, and_from, cases_Bool}
use Rattle.std.proofs.lemmas.List.{append-nil}
use Rattle.std.proofs.lemmas.List.Elements.{filter-append, filter_agree}
use Rattle.std.specs.List.{last_or, list_all, filter}
use Rattle.std.specs.Option.{option_map_or}
use Rattle.std.specs.Prelude.{int_le}
use Rattle.pack_judge.specs.declared.tares.DatedTare.{DatedTare}
use Rattle.pack_judge.specs.Tares.{latest}

-- no dated of the list has a greater day than this one
abbrev pub none_greater : List DatedTare → DatedTare → Bool
none_greater tares dated = list_all (λ other. int_le other.day dated.day) tares

last_or-append : {A : Type 0} (o : Option A) (xs : List A) (x : A) → last_or o (xs ++ x ∷ []) ≡ Some x
last_or-append o [] x = refl
last_or-append o (y ∷ ys) x = last_or-append (Some y) ys x

int_le_itself : (x : ℤ) → int_le x x ≡ true
int_le_itself x = grind (arith, ints)

int_le_chain : (x y z : ℤ) → int_le x y ≡ true → int_le y z ≡ true → int_le x z ≡ true
int_le_chain x y z h k = grind (arith, ints)

-- what is not below the greater is above it
int_le_past : (x y z : ℤ) → int_le x y ≡ false → int_le x z ≡ true → int_le y z ≡ true
int_le_past x y z h k = grind (arith, ints)

none_greater-append : (tares : List DatedTare) (dated x : DatedTare)
    → none_greater (tares ++ dated ∷ []) x ≡ (none_greater tares x && int_le dated.day x.day)
none_greater-append [] dated x =
    elim (int_le dated.day x.day) as (λ b. (b && true) ≡ b) [ true ↦ refl | false ↦ refl ]
none_greater-append (e ∷ es) dated x =
    ap (λ b. int_le e.day x.day && b) (none_greater-append es dated x)
    ∙ elim (int_le e.day x.day) as
    (λ b. (b && (none_greater es x && int_le dated.day x.day))
    ≡ ((b && none_greater es x) && int_le dated.day x.day)) [ true ↦ refl | false ↦ refl ]

-- where some dated has a greater day than one, and none a greater day than another, the other's day
-- is no less
pub not_less : (tares : List DatedTare) (dated x : DatedTare) → none_greater tares dated ≡ false
    → none_greater tares x ≡ true → int_le dated.day x.day ≡ true
not_less [] dated x h k = cc
not_less (e ∷ es) dated x h k =
    let parts = and_parts (int_le e.day x.day) (none_greater es x) k in
    elim (and_cases (int_le e.day dated.day) (none_greater es dated) h) [
      | inl a ↦ int_le_past e.day dated.day x.day a parts.0
      | inr b ↦
          not_less es dated x b parts.1
    ]

-- where none has a greater day than one, none has a greater day than another that is no less
pub none_greater_up : (tares : List DatedTare) (dated x : DatedTare)
    → none_greater tares dated ≡ true → int_le dated.day x.day ≡ true → none_greater tares x ≡ true
none_greater_up [] dated x h k = refl
none_greater_up (e ∷ es) dated x h k =
    let parts = and_parts (int_le e.day dated.day) (none_greater es dated) h in
    and_from (int_le e.day x.day) (none_greater es x) (int_le_chain e.day dated.day x.day parts.0 k)
    (none_greater_up es dated x parts.1 k)

-- of more tares, the one put last is the latest, unless one of the others has a greater day
pub latest-append : (tares : List DatedTare) (dated : DatedTare)
    → latest (tares ++ dated ∷ []) ≡ cond (none_greater tares dated) (Some dated) (latest tares)
unfolding latest
latest-append tares dated =
    let p : DatedTare → Bool = λ x. none_greater tares x in
    let q : DatedTare → Bool = λ x. none_greater (tares ++ dated ∷ []) x in
    let split : filter q (tares ++ dated ∷ []) ≡ filter q tares ++ filter q (dated ∷ []) =
    filter-append q tares (dated ∷ []) in
    let own : q dated ≡ (none_greater tares dated && int_le dated.day dated.day) =
    none_greater-append tares dated dated in
    let itself : int_le dated.day dated.day ≡ true = int_le_itself dated.day in
    elim (cases_Bool (none_greater tares dated)) [
      | inl h ↦
          let here : q dated ≡ true = own ∙ and_from _ _ h itself in
          let end : filter q (dated ∷ []) ≡ dated ∷ [] = rw here refl in
          rw h (ap (last_or None) (split ∙ ap (λ t. filter q tares ++ t) end)
          ∙ last_or-append None (filter q tares) dated)
      | inr h ↦
          let here : q dated ≡ false = own ∙ rw h refl in
          let end : filter q (dated ∷ []) ≡ [] = rw here refl in
          let same : filter q tares ≡ filter p tares =
          filter_agree q p (λ x. none_greater-append tares dated x ∙ stays tares dated x h)
          tares in
          rw h (ap (last_or None) (split ∙ ap (λ t. filter q tares ++ t) end
          ∙ append-nil (filter q tares) ∙ same))
    ]
  where
    stays : (es : List DatedTare) (e x : DatedTare) → none_greater es e ≡ false
        → (none_greater es x && int_le e.day x.day) ≡ none_greater es x
    stays es e x h = elim (cases_Bool (none_greater es x))
        [ inl t ↦ and_from _ _ t (not_less es e x h t) ∙ sym t | inr f ↦ rw f refl ]

-- the latest dated has no greater day than an dated exactly where none of them has
abbrev pub LatestTells : List DatedTare → Type 0
LatestTells tares = (dated : DatedTare)
    → option_map_or (λ before. int_le before.day dated.day) (latest tares) true
    ≡ none_greater tares dated

latest_tells_more : (tares : List DatedTare) (x : DatedTare) → LatestTells tares
    → LatestTells (tares ++ x ∷ [])
latest_tells_more tares x known dated =
    rw latest-append (elim (cases_Bool (none_greater tares x)) [
      | inl h ↦ rw h (taken h)
      | inr h ↦ rw h (known dated ∙ kept h)
    ] ∙ sym (none_greater-append tares x dated))
  where
    taken : none_greater tares x ≡ true
        → int_le x.day dated.day ≡ (none_greater tares dated && int_le x.day dated.day)
    taken h = elim (cases_Bool (int_le x.day dated.day)) [
      | inl t ↦ t ∙ sym (and_from _ _ (none_greater_up tares x dated h t) t)
      | inr f ↦
          rw f (grind arith)
    ]

    kept : none_greater tares x ≡ false
        → none_greater tares dated ≡ (none_greater tares dated && int_le x.day dated.day)
    kept h = elim (cases_Bool (none_greater tares dated))
        [ inl t ↦ t ∙ sym (and_from _ _ t (not_less tares x dated h t)) | inr f ↦ rw f refl ]

latest_tells_from : (before after : List DatedTare) → LatestTells before → LatestTells (before ++ after)
latest_tells_from before [] known = rw append-nil known
latest_tells_from before (x ∷ after) known =
    let e : (before ++ x ∷ []) ++ after ≡ before ++ (x ∷ after) = append_assoc before (x ∷ []) after in
    rw (← e) (latest_tells_from (before ++ x ∷ []) after (latest_tells_more before x known))

latest_tells_nothing : LatestTells []
unfolding latest
latest_tells_nothing dated = refl

pub latest_tells : (tares : List DatedTare) → LatestTells tares
latest_tells tares = latest_tells_from [] tares latest_tells_nothing

pub latest_nothing : None ≡ latest []
unfolding latest
latest_nothing = refl
