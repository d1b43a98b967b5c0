-- The tares of a legal list are within their limit.
use Rattle.std.proofs.Common.{ℤ, Bool, true, false, cond, List, [], ◌∷◌, Option, Some, None, IfSome, option_map, sym, subst, arith}
use Rattle.std.specs.Prelude.{pos, int_le}
use Rattle.std.proofs.lemmas.Int.{ints}
use Rattle.std.specs.List.{AllByRecursion, filter, last_or, cons_option, list_all}
use Rattle.std.specs.Option.{option_and_then, unwrap_or}
use Rattle.std.proofs.lemmas.List.Elements.{filter_map-append}
use Rattle.hall_limits.specs.declared.TheConstants.{MAX_TARE}
use Rattle.batch_sums.specs.Changes.{IsUpTo}
use Rattle.pack_judge.specs.declared.tares.DatedTare.{DatedTare}
use Rattle.pack_judge.specs.Tares.{latest, dated_by, of_greatest_day, deciding_tare}
use Rattle.book_words.specs.declared.name.Name.{Name}
use Rattle.book_words.specs.declared.act.Act.{Act}
use Rattle.book_words.specs.declared.act.Act.TheVariants.{PutTare}
use Rattle.book_words.specs.declared.act.Entry.{Entry}
use Rattle.book_words.specs.Names.{same_name}
use Rattle.book_words.specs.Acts.{product_of}
use Rattle.book_words.specs.Tares.{tare_put, tares_put, tare_of_product}
use Rattle.book_words.specs.Readings.{tare_of_reading}
use Rattle.book_words.specs.Answers.{IsLegal}
use Rattle.book_packs.proofs.Lists.{all-append}
use Rattle.book_words.proofs.LegalLemmas.{legal_steps}
use Rattle.book_words.proofs.AllowedActs.{IsAllowed, allowed, put_tare_tells}
use Rattle.book_packs.proofs.Known.{up_to}

abbrev Light : List DatedTare → Type 0
Light tares = AllByRecursion (λ (dated : DatedTare). IsUpTo MAX_TARE dated.tare) tares

light_filter : (test : DatedTare → Bool) (tares : List DatedTare) → Light tares
    → Light (filter test tares)
light_filter test [] all = tt
light_filter test (dated ∷ tares) all =
    elim (test dated) as (λ b. Light (cond b (dated ∷ filter test tares) (filter test tares)))
    [ true ↦ (all.0, light_filter test tares all.1) | false ↦ light_filter test tares all.1 ]

light_last : (o : Option DatedTare) (tares : List DatedTare)
    → IfSome o (λ dated. IsUpTo MAX_TARE dated.tare) → Light tares
    → IfSome (last_or o tares) (λ dated. IsUpTo MAX_TARE dated.tare)
light_last o [] h all = h
light_last o (dated ∷ tares) h all = light_last (Some dated) tares all.0 all.1

light_latest : (tares : List DatedTare) → Light tares
    → IfSome (latest tares) (λ dated. IsUpTo MAX_TARE dated.tare)
unfolding latest
light_latest tares all = light_last None (of_greatest_day tares) tt
    (light_filter (λ dated. list_all (λ other. int_le other.day dated.day) tares) tares all)

light_act : (entries : List Entry) (act : Act) → IsAllowed entries act → (product : Name)
    → Light (cons_option (tare_put product act) [])
light_act entries (PutTare name day tare) h product =
    elim (same_name name product) as
    (λ b. Light (cons_option (cond b (Some (record { day = day; tare = tare })) None) [])) [
      | true ↦ (up_to MAX_TARE tare (put_tare_tells entries name day tare h).range, tt)
      | false ↦
          tt
    ]
light_act entries act h product = tt

light_from : (product : Name) (entries : List Entry) → IsLegal entries
    → Light (tares_put entries product)
light_from product =
    legal_steps (λ entries. Light (tares_put entries product)) tt
    (λ before e legal lawful light.
    subst Light (sym (filter_map-append (λ (x : Entry). tare_put product x.act) before (e ∷ [])))
    (all-append _ (tares_put before product) (cons_option (tare_put product e.act) []) light
    (light_act before e.act (allowed before e lawful) product)))

either_zero : (o : Option DatedTare) → IfSome o (λ dated. IsUpTo MAX_TARE dated.tare)
    → IsUpTo MAX_TARE (unwrap_or (option_map (λ (dated : DatedTare). dated.tare) o) (pos 0))
either_zero None h = (grind (arith, ints), grind (arith, ints))
either_zero (Some dated) h = h

-- the tare of a reading, or 0
pub light_reading : (entries : List Entry) → IsLegal entries
    → (batch : Option Name) (day : Option ℤ)
    → IsUpTo MAX_TARE (unwrap_or (tare_of_reading entries batch day) (pos 0))
light_reading entries legal None day = either_zero None tt
light_reading entries legal (Some batch) None = either_zero None tt
light_reading entries legal (Some batch) (Some day) = of_product (product_of entries batch)
  where
    of_product : (o : Option Name)
        → IsUpTo MAX_TARE
        (unwrap_or (option_and_then (λ product. tare_of_product entries product day) o) (pos 0))
    of_product None = either_zero None tt
    of_product (Some product) =
        either_zero (deciding_tare (tares_put entries product) day)
        (light_latest (dated_by (tares_put entries product) day)
        (light_filter (λ dated. int_le dated.day day) (tares_put entries product)
        (light_from product entries legal)))
