-- What the asks of a caller that has a store for itself make of the store, as a step of a run.
use Rattle.std.proofs.Common.{◌≡◌, ◌⊎◌, inl, inr, ⊎_elim, ℕ, ◌≤◌, List, [], ◌∷◌, ◌++◌, length, Option, Some, None, Ok, Err, refl, sym, ap, ◌∙◌, subst, arith, append-nil, length-append}
use Rattle.std.proofs.lemmas.Bool.{cases_lt}
use Rattle.device_facts.specs.Count.{Rose}
use Rattle.device_facts.specs.Prefix.{IsPrefixOf}
use Rattle.disk_core.specs.Disk.{WhereTold}
use Rattle.disk_core.specs.declared.disk.Disk as disk
use Rattle.book_words.specs.declared.act.Ask.{Ask}
use Rattle.book_words.specs.declared.act.Entry.{Entry}
use Rattle.book_words.specs.Answers.{added}
use Rattle.book_store.specs.declared.store.Store.{Store}
use Rattle.book_store.specs.Callers.{CallerView, IsAskedFor, MayStandBehind, LeavesRows, IsReachedBy}
use Rattle.book_store.specs.Images.{HoldsBook}
use Rattle.book_store.specs.Kept.{with_offered, CrashLeaves, HasKept, KeepsOn}
use Rattle.book_store.specs.Stores.{entries_of, limit_of, held_of, HangsWith}
use Rattle.book_store.proofs.CallerSteps.{crash_between}
use Rattle.book_store.proofs.KeptLemmas.{same_begins, begins_on, begins_short, leaves_front, kept_on}
use Rattle.book_store.proofs.StoreFacts.{images_hold}
use Rattle.store_runs.specs.declared.stop.Offer.TheVariants as offering
use Rattle.store_runs.specs.declared.stop.Stop.TheVariants.{Finished, DiskFault}
use Rattle.store_runs.specs.Runs.{HasAddedRows, Goes}
use Rattle.store_runs.proofs.StoreSteps.{on_unfinished}

-- lists that begin with each other are the same
pub same_list : (a b : List Entry) → IsPrefixOf a b → length b ≤ length a → b ≡ a
same_list a b (more, parts) few = parts ∙ ap (λ (es : List Entry). a ++ es) (nothing more less) ∙ append-nil a
  where
    less : length more ≤ 0
    less = omega (arith, few, ap length parts, length-append a more)

    nothing : (es : List Entry) → length es ≤ 0 → es ≡ []
    nothing [] none = refl
    nothing (e ∷ es) none = absurd (omega (arith, none))

-- the only ask of one
only_ask : (next ask : Ask) (before after : List Ask) → next ∷ [] ≡ before ++ ask ∷ after → ask ≡ next
only_ask next ask [] after parts = let same : ask ≡ next = cc (parts) in same
only_ask next ask (b ∷ before) after parts =
    absurd (omega (arith, ap length parts, length-append before (ask ∷ after)))

-- few rows were added where the store has none more than its disk held
few_rows : {D : Type 0} (old new : Store D) → held_of new ≡ held_of old → held_of old ≤ length (entries_of old) → ¬ HasAddedRows new → length (entries_of new) ≤ length (entries_of old)
few_rows old new held few small = ⊎_elim
    (λ grown. absurd (small grown)) (λ less. omega (arith, held, few, less)) (cases_lt (held_of new) (length (entries_of new)))

module _ {D : Type 0} (g : disk.Ghosts D) (reads_image : (d : D) → WhereTold (g.reads d) (g.image d))
    (only_now : (d : D) (c : List ℕ) → g.since d (g.time d) c → g.image d c) where
  -- ---- asks without a fault

  module _ (old new : CallerView D) (asks : List Ask) (reached : IsReachedBy g old new asks)
      (calm : old.faults ≡ 0) (calm_now : new.faults ≡ 0) where
    no_rise : Rose old.faults new.faults → ⊥
    no_rise rose = omega (arith, rose, calm, calm_now)

    -- what may stand behind rows hung before, and nothing did
    none_stands : {A : Type 0} (held : List Entry) (start : D) (rows : List Entry) (entry : Entry)
        → HasKept g held start None old.store → MayStandBehind g old new asks rows entry → A
    none_stands held start rows entry was stands = ⊎_elim
        (λ asked. absurd (no_rise asked.0))
        (λ hung. absurd (let none : None ≡ Some entry = was.hung entry hung.0 in cc))
        stands

    leaves_calm : (held : List Entry) (start : D) (c : List ℕ) → HasKept g held start None old.store
        → LeavesRows g old new asks c → CrashLeaves held (entries_of new.store) c
    leaves_calm held start c was left = ⊎_elim
        (λ is. leaves_front held left.rows (entries_of new.store) c
        (begins_on held (entries_of old.store) left.rows was.begins left.least) left.most is)
        (λ is. none_stands held start left.rows is.0 was is.1)
        left.holds

    kept_calm : KeepsOn g None old.store new.store
    kept_calm held start was =
        let keeps = reached.keeps was.has in
        let hung : (entry : Entry) → HangsWith g new.store entry → None ≡ Some entry =
        λ entry hangs. none_stands held start (entries_of new.store) entry was (keeps.hung entry hangs) in
        kept_on g held start None old.store new.store (LeavesRows g old new asks) was keeps.has reached.begins hung
        (λ c left. leaves_calm held start c was left)
        (record { later = keeps.later; each = crash_between g reads_image only_now old new asks reached was.has; before = keeps.moments })
        (λ c image. ⊎_elim (λ holds. inl holds)
        (λ hangs. absurd (let none : None ≡ Some hangs.0 = hung hangs.0 hangs.1 in cc))
        (images_hold g reads_image only_now new.store keeps.has c image))

    pub goes_reached : {T : Type 0} (done : T) → Goes g (Ok done) old.store new.store
    goes_reached done =
        record {
          limit = reached.limit;
          held = reached.held;
          begins = reached.begins;
          kept = kept_calm;
          cause = ⊎_elim (λ same. same.0)
              (λ rose. absurd (omega (arith, rose.1, rose.3, calm, calm_now))) reached.alike;
          calm = λ quiet hung. ⊎_elim (λ was. was) (λ rose. absurd (no_rise rose)) (reached.hangs hung);
          still = λ quiet few small. reached.still
              (few_rows old.store new.store reached.held few small) (omega (arith, calm, calm_now));
          snapshot = λ finished. absurd (on_unfinished done finished);
        }

  -- ---- an ask at which the disk fails

  module _ (old new : CallerView D) (next : Ask) (reached : IsReachedBy g old new (next ∷ []))
      (calm : old.faults ≡ 0) (failed : new.faults ≡ 1) (same : entries_of new.store ≡ entries_of old.store)
      (by : ℕ) (is_by : old.by ≡ by) where
    -- what it offered
    abbrev offered : Option Entry
    offered = added (limit_of new.store) (entries_of new.store) by next

    offers : (rows : List Entry) (entry : Entry) → rows ≡ entries_of new.store
        → IsAskedFor (limit_of old.store) old.by (next ∷ []) rows entry → offered ≡ Some entry
    offers rows entry all asked =
        let one : asked.ask ≡ next = only_ask next asked.ask asked.before asked.after asked.parts in
        (λ i. added (reached.limit i) (sym all i) (sym is_by i) (sym one i)) ∙ asked.adds

    stands_offered : (held : List Entry) (start : D) (rows : List Entry) (entry : Entry)
        → rows ≡ entries_of new.store → HasKept g held start None old.store
        → MayStandBehind g old new (next ∷ []) rows entry → offered ≡ Some entry
    stands_offered held start rows entry all was stands = ⊎_elim
        (λ asked. offers rows entry all asked.1)
        (λ hung. absurd (let none : None ≡ Some entry = was.hung entry hung.0 in cc))
        stands

    with_entry : (entry : Entry) → offered ≡ Some entry
        → with_offered (entries_of new.store) offered ≡ entries_of new.store ++ entry ∷ []
    with_entry entry is = ap (with_offered (entries_of new.store)) is

    begins_all : IsPrefixOf (entries_of new.store) (with_offered (entries_of new.store) offered)
    begins_all = by_offer offered
      where
        by_offer : (o : Option Entry) → IsPrefixOf (entries_of new.store) (with_offered (entries_of new.store) o)
        by_offer None = same_begins (entries_of new.store) (entries_of new.store) refl
        by_offer (Some entry) = (entry ∷ [], refl)

    leaves_failed : (held : List Entry) (start : D) (c : List ℕ) → HasKept g held start None old.store
        → LeavesRows g old new (next ∷ []) c
        → CrashLeaves held (with_offered (entries_of new.store) offered) c
    leaves_failed held start c was left =
        let least = begins_short _ _ left.least in
        let all : entries_of new.store ≡ left.rows =
        same_list left.rows (entries_of new.store) left.most (omega (arith, least, ap length same)) in
        let front = begins_on held (entries_of old.store) left.rows was.begins left.least in
        let most = begins_on left.rows (entries_of new.store) (with_offered (entries_of new.store) offered) left.most begins_all in
        ⊎_elim
        (λ is. leaves_front held left.rows (with_offered (entries_of new.store) offered) c front most is)
        (λ is.
        let more : offered ≡ Some is.0 = stands_offered held start left.rows is.0 (sym all) was is.1 in
        let rows : left.rows ++ is.0 ∷ [] ≡ with_offered (entries_of new.store) offered =
        ap (λ (es : List Entry). es ++ is.0 ∷ []) (sym all) ∙ sym (with_entry is.0 more) in
        leaves_front held (with_offered (entries_of new.store) offered) (with_offered (entries_of new.store) offered) c
        (begins_on held left.rows (with_offered (entries_of new.store) offered) front most)
        (same_begins _ _ refl) (subst (λ (es : List Entry). HoldsBook es c) rows is.2))
        left.holds

    kept_fault : KeepsOn g offered old.store new.store
    kept_fault held start was =
        let keeps = reached.keeps was.has in
        let hung : (entry : Entry) → HangsWith g new.store entry → offered ≡ Some entry =
        λ entry hangs. stands_offered held start (entries_of new.store) entry refl was (keeps.hung entry hangs) in
        kept_on g held start offered old.store new.store (LeavesRows g old new (next ∷ [])) was keeps.has reached.begins hung
        (λ c left. leaves_failed held start c was left)
        (record { later = keeps.later; each = crash_between g reads_image only_now old new (next ∷ []) reached was.has; before = keeps.moments })
        (λ c image. ⊎_elim (λ holds. inl holds)
        (λ hangs. inr (subst (λ (es : List Entry). HoldsBook es c)
        (sym (with_entry hangs.0 (hung hangs.0 hangs.1))) hangs.2))
        (images_hold g reads_image only_now new.store keeps.has c image))

    pub goes_failed : {T : Type 0} → Goes {T = T} g (Err (DiskFault (offering.Asked by next))) old.store new.store
    goes_failed =
        record {
          limit = reached.limit;
          held = reached.held;
          begins = reached.begins;
          kept = kept_fault;
          cause = ⊎_elim (λ none. absurd (omega (arith, none.1, calm, failed)))
              (λ rose. omega (arith, rose.2, rose.3, calm, failed)) reached.alike;
          calm = λ quiet hung. absurd quiet;
          still = λ quiet few small. absurd quiet;
          snapshot = λ finished. absurd (let other : DiskFault (offering.Asked by next) ≡ Finished = cc (finished) in cc);
        }
