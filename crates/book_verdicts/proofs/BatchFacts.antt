-- What is there of the batches of a legal list.
use Rattle.std.proofs.Common.{◌≡◌, ℕ, ◌≤◌, Bool, true, false, not, cond, nat_le, List, Option, Some, None, option_map, is_some, IfSome, length, sym, ◌∙◌, ap, subst, arith}
use Rattle.std.proofs.lemmas.Bool.{and_parts}
use Rattle.std.proofs.lemmas.Bool.Decides.{nat_tests}
use Rattle.std.specs.Option.{option_or, option_and_then}
use Rattle.hall_limits.specs.declared.TheConstants.{MIN_DENSITY, MAX_DENSITY}
use Rattle.annex_tables.specs.declared.types.Limits.{Limits}
use Rattle.book_words.specs.declared.name.Name.{Name}
use Rattle.book_words.specs.declared.act.Unit as units
use Rattle.book_words.specs.declared.act.Unit.TheVariants.{Volume}
use Rattle.book_words.specs.declared.act.Act.{Act}
use Rattle.book_words.specs.declared.act.Act.TheVariants.{PutProduct, OpenBatch}
use Rattle.book_words.specs.declared.act.Entry.{Entry}
use Rattle.book_words.specs.declared.refusal.Refusal.TheVariants as why
use Rattle.book_words.specs.Names.{same_name}
use Rattle.book_words.specs.Acts.{product_given, density_given, unit_put, nominal_of, unit_of, product_of, density_of}
use Rattle.book_words.specs.Refusals.{refused_if, suits_unit}
use Rattle.book_words.specs.Answers.{IsLegal}
use Rattle.book_words.proofs.LastSaid.{last_said-push}
use Rattle.book_words.proofs.RefusalLemmas.{not_refused}
use Rattle.book_words.proofs.LegalLemmas.{legal_steps}
use Rattle.book_words.specs.declared.views.TheConstants.{MAX_DRAWN}
use Rattle.book_words.specs.Samples.{Sample, sample_of}
use Rattle.book_words.specs.Verdicts.{second_packs}
use Rattle.book_words.specs.Ranges.{IsSampleInRange}
use Rattle.book_laws.proofs.RangeLaws.{sample_within}
use Rattle.book_laws.proofs.KnownLaws.{put_apart}
use Rattle.book_words.proofs.AllowedActs.{IsAllowed, allowed, open_batch_tells}
use Rattle.book_laws.proofs.TareLaws.{IsTared, tared_of}
use Rattle.std.proofs.lemmas.Option.{same_Some}

-- what is there isn't found missing
pub never_none : {A : Type 0} (o r : Option A) → is_some o ≡ true → r ≡ o → r ≡ None → ⊥
never_none o r there same nothing = let wrong : true ≡ false = sym there
    ∙ ap is_some (sym same ∙ nothing) in cc

-- limits that are told of a batch that is there
pub told_limits : (o : Option Name) (x limits : Limits)
    → Some limits ≡ option_map (λ (product : Name). x) o → limits ≡ x
told_limits None x limits h = absurd (cc)
told_limits (Some product) x limits h = same_Some limits x h

-- the product of a batch has a nominal quantity
pub nominal_there : (entries : List Entry) (batch product : Name) → IsLegal entries
    → product_of entries batch ≡ Some product → is_some (nominal_of entries product) ≡ true
nominal_there entries batch product legal given = (tared_of entries legal).products batch product given

-- the density of a batch suits the unit of its product
abbrev DensitiesSuit : List Entry → Type 0
DensitiesSuit entries =
    (batch product : Name) (density : ℕ) (unit : units.Unit)
    → product_of entries batch ≡ Some product → density_of entries batch ≡ Some density
    → unit_of entries product ≡ Some unit
    → suits_unit unit density ≡ true

not_unsuited : (unit : units.Unit) (o : Option units.Unit) (density : ℕ) → o ≡ Some unit
    → option_and_then (λ (u : units.Unit). refused_if (not (suits_unit u density)) why.DensityRange)
    o ≡ None → suits_unit unit density ≡ true
not_unsuited unit o density is free =
    not_refused (suits_unit unit density) why.DensityRange
    (sym (ap (option_and_then (λ (u : units.Unit). refused_if
    (not (suits_unit u density)) why.DensityRange)) is) ∙ free)

suits_by_act : (entries : List Entry) (act : Act) → IsTared entries → DensitiesSuit entries
    → IsAllowed entries act → (batch product : Name) (density : ℕ) (unit : units.Unit)
    → option_or (product_given batch act) (product_of entries batch) ≡ Some product
    → option_or (density_given batch act) (density_of entries batch) ≡ Some density
    → option_or (unit_put product act) (unit_of entries product) ≡ Some unit
    → suits_unit unit density ≡ true
suits_by_act entries (OpenBatch name other dense) tared suits h batch product density unit given
    recorded measured = each (same_name name batch) given recorded
  where
    each : (b : Bool) → option_or (cond b (Some other) None) (product_of entries batch)
        ≡ Some product → option_or (cond b (Some dense) None) (density_of entries batch)
        ≡ Some density → suits_unit unit density ≡ true
    each false p q = suits batch product density unit p q measured
    each true p q =
        let same : other ≡ product = same_Some other product p in
        let found : unit_of entries other ≡ Some unit = ap (unit_of entries) same ∙ measured in
        subst (λ n. suits_unit unit n ≡ true) (same_Some dense density q)
        (not_unsuited unit (unit_of entries other) dense found
        (open_batch_tells entries name other dense h).suits)
suits_by_act entries (PutProduct name nominal put) tared suits h batch product density unit given
    recorded measured =
    let other = put_apart entries name product nominal put h (tared.products batch product given) in
    suits batch product density unit given recorded
    (sym (ap (λ b. option_or (cond b (Some put) None) (unit_of entries product)) other)
    ∙ measured)
suits_by_act entries act tared suits h batch product density unit given recorded measured =
    suits batch product density unit given recorded measured

-- so it is in each legal list
pub density_suits : (entries : List Entry) → IsLegal entries → DensitiesSuit entries
density_suits =
    legal_steps DensitiesSuit (λ batch product density unit given recorded measured. absurd (cc))
    (λ before entry legal lawful suits batch product density unit given recorded measured.
    suits_by_act before entry.act (tared_of before legal) suits
    (allowed before entry lawful) batch product density unit
    (sym (last_said-push (product_given batch) before entry) ∙ given)
    (sym (last_said-push (density_given batch) before entry) ∙ recorded)
    (sym (last_said-push (unit_put product) before entry) ∙ measured))

-- a density that suits goods by volume is within its limits
pub volume_within : (unit : units.Unit) (density : ℕ) → unit ≡ Volume
    → suits_unit unit density ≡ true → (MIN_DENSITY ≤ density) × (density ≤ MAX_DENSITY)
volume_within unit density is suits =
    let parts = and_parts (nat_le MIN_DENSITY density) (nat_le density MAX_DENSITY)
    (sym (ap (λ (u : units.Unit). suits_unit u density) is) ∙ suits) in (
      (let least : MIN_DENSITY ≤ density = grind (arith, nat_tests) in least),
      (let greatest : density ≤ MAX_DENSITY = grind (arith, nat_tests) in greatest),
    )

-- the second sample of a batch has no more packs than a test asks for
pub second_few : (entries : List Entry) (batch : Name) (sample : Sample)
    → sample_of entries batch ≡ Some sample → length (second_packs sample) ≤ MAX_DRAWN
second_few entries batch sample is =
    let both = subst (λ (o : Option Sample). IfSome
    (option_map (λ (s : Sample). record
    { batch = batch; first = s.first; second = second_packs s }) o) IsSampleInRange) is
    (sample_within entries batch) in
    omega (arith, both)
