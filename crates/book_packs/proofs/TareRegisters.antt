-- The tares of a number are those that were put for its product.
use Rattle.std.proofs.Common.{◌≡◌, ℕ, zero, suc, ℤ, ◌+◌, ◌-◌, ◌<◌, ◌≤◌, ◌==◌, true, false, cond, List, [], ◌∷◌, map, Option, Some, None, option_map, refl, sym, ◌∙◌, ap, arith, inl, inr}
use Rattle.std.specs.List.{filter, cons_option, range_with_len, slice_index_or}
use Rattle.std.proofs.lemmas.Bool.{cases_Bool}
use Rattle.hall_limits.specs.declared.TheConstants.{MAX_LANE}
use Rattle.pack_judge.specs.declared.tares.DatedTare.{DatedTare}
use Rattle.tare_register.specs.declared.types.ProductTare.{ProductTare}
use Rattle.pack_judge.specs.Tares.{tare_by_rule}
use Rattle.tare_register.specs.Tares.{tares_of, entry_of, tare_of}
use Rattle.book_words.specs.declared.name.Name.{Name}
use Rattle.book_words.specs.declared.act.Act.{Act}
use Rattle.book_words.specs.declared.act.Act.TheVariants.{PutTare}
use Rattle.book_words.specs.declared.act.Entry.{Entry}
use Rattle.book_words.specs.Names.{same_name}
use Rattle.book_words.specs.Acts.{said}
use Rattle.book_words.specs.Order.{product_number, product_named}
use Rattle.book_words.specs.Tares.{tare_put, tare_of_product}
use Rattle.book_words.proofs.NameLemmas.{same_name_is}
use Rattle.book_packs.specs.Stand.{tare_entry, tares_in, unsettled_number, unsettled_in}
use Rattle.book_words.proofs.PlaceLemmas.{same_place}

module _ (entries : List Entry) (name : Name) (number : ℕ)
    (is : product_number entries name ≡ Some number) where
  one : (xs : List ProductTare) (ys : List DatedTare) (product : Name) (day tare : ℤ) (o : Option ℕ)
      → product_number entries product ≡ o → tares_of xs number ≡ ys
      → tares_of (cons_option (option_map (λ n. entry_of n day tare) o) xs) number
      ≡ cons_option (tare_put name (PutTare product day tare)) ys
  one xs ys product day tare None unknown h = elim (cases_Bool (same_name product name)) [
    | inl t ↦ absurd (let known : product_number entries product ≡ Some number =
        ap (product_number entries) (same_name_is product name t) ∙ is in cc)
    | inr f ↦ h ∙ sym
        (ap (λ b. cons_option (cond b (Some (record { day = day; tare = tare })) None) ys) f)
  ]
  one xs ys product day tare (Some k) known h =
      ap (λ b. map (λ (entry : ProductTare). entry.dated)
      (cond b (entry_of k day tare ∷ filter (λ entry. entry.product == number) xs)
      (filter (λ entry. entry.product == number) xs)))
      (same_place (said product_named entries) product name k number known is)
      ∙ elim (same_name product name) as
      (λ b. map (λ (entry : ProductTare). entry.dated)
      (cond b (entry_of k day tare ∷ filter (λ entry. entry.product == number) xs)
      (filter (λ entry. entry.product == number) xs))
      ≡ cons_option (cond b (Some (record { day = day; tare = tare })) None) ys) [
        | true ↦ ap (λ zs. record { day = day; tare = tare } ∷ zs) h
        | false ↦ h
      ]

  each : (xs : List ProductTare) (ys : List DatedTare) (act : Act) → tares_of xs number ≡ ys
      → tares_of (cons_option (tare_entry entries act) xs) number
      ≡ cons_option (tare_put name act) ys
  each xs ys (PutTare product day tare) h =
      one xs ys product day tare (product_number entries product) refl h
  each xs ys act h = h

  among : (some : List Entry) → tares_of (said (tare_entry entries) some) number
      ≡ said (tare_put name) some
  among [] = refl
  among (e ∷ es) = each (said (tare_entry entries) es) (said (tare_put name) es) e.act (among es)

  pub tare_is : (day : ℤ) → tare_of (tares_in entries) number day ≡ tare_of_product entries name day
  tare_is day = ap (λ tares. tare_by_rule tares day) (among entries)

range_at : {A : Type 0} (f : ℕ → A) (d : A) (from many k : ℕ) → k < many
    → slice_index_or (map f (range_with_len from many)) k d ≡ f (from + k)
range_at f d from zero k h = absurd (omega arith)
range_at f d from (suc many) zero h = ap f (let same : from ≡ from + 0 = omega arith in same)
range_at f d from (suc many) (suc k) h = range_at f d (from + 1) many k (omega arith)
    ∙ ap f (let same : (from + 1) + k ≡ from + suc k = omega arith in same)

-- the unsettled reading of a lane stands at its place
pub lane_at : (entries : List Entry) (lane : ℕ) → 1 ≤ lane → lane ≤ MAX_LANE
    → slice_index_or (unsettled_in entries) (lane - 1) None ≡ unsettled_number entries lane
lane_at entries lane least greatest =
    range_at (unsettled_number entries) None 1 MAX_LANE (lane - 1) (omega arith)
    ∙ ap (unsettled_number entries) (let same : 1 + (lane - 1) ≡ lane = omega arith in same)
