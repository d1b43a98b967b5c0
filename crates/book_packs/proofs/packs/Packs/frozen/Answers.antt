use Rattle.std.proofs.Common.{◌≡◌, ℤ, Bool, true, false, List, Option, Some, None, refl, sym, subst, ap, ◌∙◌, w32, w64, true≢false}
use Rattle.std.specs.Ordering.{int_eq}
use Rattle.std.specs.Option.{option_eq}
use Rattle.std.proofs.lemmas.Int.{to_z-of_z}
use Rattle.std.proofs.lemmas.Bool.Decides.{Decides-int_eq}
use Rattle.tare_register.specs.declared.types.ProductTare.{ProductTare}
use Rattle.pack_judge.specs.declared.tares.Span.{Span}
use Rattle.tare_register.specs.Tares.{tare_of, span_of, DecidesWithin, HasOneTareWithin}
use Rattle.batch_sums.specs.Totals.{Terms}
use Rattle.batch_sums.specs.declared.types.Pack.{Pack}
use Rattle.batch_sums.specs.Changes.{concerned}
use Rattle.batch_sums.specs.Asked.{chosen_batches, IsLeast}
use Rattle.book_packs.specs.Stand.{IsPacksOf, tares_in, opened_terms, packs_in}
use Rattle.book_packs.specs.Told.{closed_in}
use Rattle.book_packs.proofs.Known.{known_of}
use Rattle.book_packs.proofs.FrozenBatch.{none_frozen, least_frozen}
use Rattle.book_packs.proofs.packs.Packs.frozen.Goals as goal

is_tare : (o : Option ℤ) (tare : ℤ) → option_eq int_eq o (Some tare) ≡ true → o ≡ Some tare
is_tare None tare h = absurd (cc)
is_tare (Some a) tare h = ap Some ((Decides-int_eq a tare).0 h)

is_other : (o : Option ℤ) (tare : ℤ) → option_eq int_eq o (Some tare) ≡ false → o ≡ Some tare → ⊥
is_other o tare h same = true≢false
    (sym ((Decides-int_eq tare tare).1 refl) ∙ sym (ap (λ x. option_eq int_eq x (Some tare)) same)
    ∙ h)

pub returns-then-eq : goal.returns-then-eq
returns-then-eq c entries name is legal number closed =
    let day = to_z-of_z w32 c.args.day c.ranges.day in
    let tare = to_z-of_z w64 c.args.tare c.ranges.tare in
    let here = subst (IsPacksOf entries) (sym c.self.view_is) is in
    let at : c.at.result ≡ tare_of (tares_in entries) c.args.product c.args.day =
    (rw day at c.at.ensures) ∙ ap (λ some. tare_of some c.args.product c.args.day) here.tares in
    let same : c.at.result ≡ Some c.args.tare =
    is_tare c.at.result c.args.tare
    (ap (λ z. option_eq int_eq c.at.result (Some z)) (sym tare) ∙ sym c.eq.ensures
    ∙ c.if-eq.true) in
    let span : c.span-span.result ≡ span_of (tares_in entries) c.args.product c.args.day =
    (rw day at c.span-span.ensures.value)
    ∙ ap (λ some. span_of some c.args.product c.args.day) here.tares in
    let decides : DecidesWithin (span_of (tares_in entries) c.args.product c.args.day)
    (tares_in entries) c.args.product c.args.day =
    subst (λ (s : Span). DecidesWithin s (tares_in entries) c.args.product c.args.day) span
    (subst (λ (some : List ProductTare).
    DecidesWithin c.span-span.result some c.args.product c.args.day) here.tares
    (rw day at c.span-span.ensures.decided)) in
    let constant : HasOneTareWithin (span_of (tares_in entries) c.args.product c.args.day)
    (tares_in entries) c.args.product =
    subst (λ (s : Span). HasOneTareWithin s (tares_in entries) c.args.product) span
    (subst (λ (some : List ProductTare).
    HasOneTareWithin c.span-span.result some c.args.product) here.tares
    c.span-span.ensures.constant) in
    none_frozen entries (known_of entries legal) c.args.product c.args.day c.args.tare name number
    decides constant (sym at ∙ same)

pub returns : goal.returns
returns c entries name is legal number closed =
    let day = to_z-of_z w32 c.args.day c.ranges.day in
    let tare = to_z-of_z w64 c.args.tare c.ranges.tare in
    let here = subst (IsPacksOf entries) (sym c.self.view_is) is in
    let at : c.at.result ≡ tare_of (tares_in entries) c.args.product c.args.day =
    (rw day at c.at.ensures) ∙ ap (λ some. tare_of some c.args.product c.args.day) here.tares in
    let span : c.span-span.result ≡ span_of (tares_in entries) c.args.product c.args.day =
    (rw day at c.span-span.ensures.value)
    ∙ ap (λ some. span_of some c.args.product c.args.day) here.tares in
    let decides : DecidesWithin (span_of (tares_in entries) c.args.product c.args.day)
    (tares_in entries) c.args.product c.args.day =
    subst (λ (s : Span). DecidesWithin s (tares_in entries) c.args.product c.args.day) span
    (subst (λ (some : List ProductTare).
    DecidesWithin c.span-span.result some c.args.product c.args.day) here.tares
    (rw day at c.span-span.ensures.decided)) in
    let constant : HasOneTareWithin (span_of (tares_in entries) c.args.product c.args.day)
    (tares_in entries) c.args.product =
    subst (λ (s : Span). HasOneTareWithin s (tares_in entries) c.args.product) span
    (subst (λ (some : List ProductTare).
    HasOneTareWithin c.span-span.result some c.args.product) here.tares
    c.span-span.ensures.constant) in
    let other = is_other c.at.result c.args.tare
    (ap (λ z. option_eq int_eq c.at.result (Some z)) (sym tare) ∙ sym c.eq.ensures
    ∙ c.if-eq.false) in
    let least : IsLeast (chosen_batches (closed_in entries)
    (concerned (opened_terms entries) c.args.product
    (span_of (tares_in entries) c.args.product c.args.day) (packs_in entries)))
    c.first_concerned.result =
    subst (λ (flags : List Bool). IsLeast
    (chosen_batches flags (concerned (opened_terms entries) c.args.product
    (span_of (tares_in entries) c.args.product c.args.day) (packs_in entries)))
    c.first_concerned.result) closed
    (subst (λ (some : List Pack). IsLeast
    (chosen_batches c.args.closed.now
    (concerned (opened_terms entries) c.args.product
    (span_of (tares_in entries) c.args.product c.args.day) some)) c.first_concerned.result)
    here.packs
    (subst (λ (some : List Terms). IsLeast
    (chosen_batches c.args.closed.now
    (concerned some c.args.product
    (span_of (tares_in entries) c.args.product c.args.day) c.self.inside.sums.packs))
    c.first_concerned.result) here.batches
    (subst (λ (s : Span). IsLeast (chosen_batches c.args.closed.now
    (concerned c.self.inside.sums.batches c.args.product s c.self.inside.sums.packs))
    c.first_concerned.result) span c.first_concerned.ensures))) in
    least_frozen entries (known_of entries legal) c.args.product c.args.day c.args.tare name number
    decides constant (λ same. other (at ∙ same)) c.first_concerned.result least
