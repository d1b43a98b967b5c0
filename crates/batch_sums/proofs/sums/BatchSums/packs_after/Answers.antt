use Rattle.std.proofs.Common.{◌≡◌, List, take, length, map, Some, refl, ap, sym, subst, ◌∙◌, arith}
use Rattle.std.specs.Prelude.{IfOk, Result, Ok, Err}
use Rattle.std.specs.List.{slice_get}
use Rattle.std.proofs.lemmas.List.{length-map}
use Rattle.std.proofs.lemmas.Option.{slice_get_read}
use Rattle.pack_groups.specs.Groups.{faces}
use Rattle.batch_sums.specs.declared.types.Held.{Held}
use Rattle.batch_sums.specs.Totals.{Sums, of_batch}
use Rattle.batch_sums.specs.Asked.{numbers_after}
use Rattle.batch_sums.specs.Chains.{Chain, Reaches, packs_in}
use Rattle.batch_sums.specs.Kept.{terms_of, seen}
use Rattle.batch_sums.proofs.ChainLemmas.{of_batch-reach}
use Rattle.batch_sums.proofs.ChainSteps.{reach_as}
use Rattle.batch_sums.proofs.Chained.{newest_of, chain_of, reached}
use Rattle.batch_sums.proofs.sums.BatchSums.packs_after.Goals as goal

if_ok : {T E : Type 0} (P Q : T → Type 0) (r : Result T E) → IfOk r P → ((x : T) → P x → Q x) → IfOk r Q
if_ok P Q (Ok x) h k = k x h
if_ok P Q (Err e) h k = tt

pub numbers_behind-requires : goal.numbers_behind-requires
numbers_behind-requires c =
    let sums = c.self.inside in
    let settled = c.self.invariant.settled in
    let bs = sums.batches.items in
    let fs = faces sums.groups.items in
    let long : length bs ≡ length c.args.self.now.batches = sym (length-map bs terms_of)
    ∙ ap (λ (s : Sums). length s.batches) c.self.view_is in
    let at : slice_get bs c.args.batch ≡ Some c.index.result.now =
    slice_get_read bs (length bs) c.args.batch c.index.result.now refl
    (omega (arith, long, c.requires)) c.index.ensures in
    let newest = newest_of bs fs sums.packs.items settled.chained c.args.batch c.index.result.now at in
    reached bs fs sums.packs.items settled.chained c.deref.result.now c.deref.ensures.value
    settled.rising c.args.batch c.index.result.now.reach newest

pub returns : goal.returns
returns c =
    let sums = c.self.inside in
    let settled = c.self.invariant.settled in
    let bs = sums.batches.items in
    let held = sums.packs.items in
    let fs = faces sums.groups.items in
    let packs = map (seen fs) held in
    let view : packs ≡ c.args.self.now.packs = ap (λ (s : Sums). s.packs) c.self.view_is in
    let long : length bs ≡ length c.args.self.now.batches = sym (length-map bs terms_of)
    ∙ ap (λ (s : Sums). length s.batches) c.self.view_is in
    let at : slice_get bs c.args.batch ≡ Some c.index.result.now =
    slice_get_read bs (length bs) c.args.batch c.index.result.now refl
    (omega (arith, long, c.requires)) c.index.ensures in
    let reach = c.index.result.now.reach in
    let newest = newest_of bs fs held settled.chained c.args.batch c.index.result.now at in
    let chain = chain_of bs fs held settled.chained settled.rising c.args.batch in
    let told = subst (λ (ps : List Held). (some : Chain ps) → Reaches ps some reach
    → IfOk c.numbers_behind.result (λ v. v.items ≡ numbers_after c.args.after c.args.most
    (of_batch some.batch (take reach (packs_in ps some))))) c.deref.ensures.value
    c.numbers_behind.ensures chain (reach_as held chain reach newest) in
    if_ok _ _ c.numbers_behind.result told
    (λ v is. is ∙ ap (λ n. numbers_after c.args.after c.args.most
    (of_batch c.args.batch (take n packs))) newest
    ∙ ap (numbers_after c.args.after c.args.most) (of_batch-reach c.args.batch packs
    ∙ ap (of_batch c.args.batch) view))
