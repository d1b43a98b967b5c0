-- What a cell gave, with one item more.
use Rattle.std.proofs.Common.{◌≡◌, ℕ, ℤ, false, List, [], ◌∷◌, ◌++◌, map, Option, option_map, Some, None, Ok, Err, refl, sym, ◌∙◌, ap, subst, append-nil}
use Rattle.std.proofs.lemmas.List.{map-append}
use Rattle.device_facts.specs.Count.{Counted}
use Rattle.disk_core.specs.declared.types.Failed.{Failed}
use Rattle.lane_worker.specs.declared.types.CellNext.{CellNext}
use Rattle.lane_worker.specs.declared.types.CellNext.TheVariants.{Gross}
use Rattle.lane_worker.specs.declared.ending.WeighingEnd.{WeighingEnd}
use Rattle.lane_worker.specs.declared.ending.WeighingEnd.TheVariants.{CellFailed, GateFailed}
use Rattle.lane_worker.specs.Cells.{Given, Feed, IsNext, AddsGiven, given_by, feed_behind, GivesNext, Gave}
use Rattle.lane_worker.specs.Endings.{last_items, cell_failed}
use Rattle.lane_worker.specs.Works.{Site, HasGiven}
use Rattle.lane_worker.specs.Steps.{TakesItem}

abbrev gross_items : List ℤ → List CellNext
gross_items grosses = map (λ gross. Gross gross) grosses

-- ---- one call

-- what was given, where it is told
adds_given : (was now : Option (List Given)) (more : List Given) → AddsGiven was now more → now ≡ option_map (λ given. given ++ more) was
adds_given None None more adds = refl
adds_given None (Some now) more adds = absurd adds
adds_given (Some was) None more adds = absurd adds
adds_given (Some was) (Some now) more adds = ap Some adds

-- nothing more was given
adds_none : (was now : Option (List Given)) → AddsGiven was now [] → now ≡ was
adds_none None None adds = refl
adds_none None (Some now) adds = absurd adds
adds_none (Some was) None adds = absurd adds
adds_none (Some was) (Some now) adds = ap Some (adds ∙ append-nil was)

-- a feed is what it tells
feed_is : (feed : Feed) (left : Option (List CellNext)) (given : Option (List Given)) → feed.left ≡ left → feed.given ≡ given → feed ≡ record { left = left; given = given }
feed_is feed left given left_is given_is = rw (sym left_is, sym given_is) refl

-- a call that gave an item
pub takes_item : (was now : Site) (found item : CellNext) → found ≡ item → GivesNext {E = Failed} was.feed now.feed (Ok found)
    → now.cell_faults ≡ was.cell_faults → now.opened ≡ was.opened → now.gate_faults ≡ was.gate_faults → TakesItem was now item
takes_item was now found item same gives cell opened gate = subst (TakesItem was now) same (record {
  next = gives.0.0;
  feed = feed_is now.feed (feed_behind was.feed found).left (feed_behind was.feed found).given gives.0.1 (adds_given was.feed.given now.feed.given (given_by found) gives.1);
  cell = cell;
  opened = opened;
  gate = gate;
})

-- a call that failed
pub feed_same : (was now : Feed) (why : Failed) → GivesNext {E = Failed} was now (Err why) → now ≡ was
feed_same was now why gives = feed_is now was.left was.given gives.0 (adds_none was.given now.given gives.1)

-- ---- all calls

gave_more : (was : Feed) (items : List CellNext) (now : Feed) (item : CellNext) → Gave was items now → IsNext now.left item → Gave was (items ++ item ∷ []) (feed_behind now item)
gave_more was [] now item gave next = (subst (λ (feed : Feed). IsNext feed.left item) gave next, ap (λ (feed : Feed). feed_behind feed item) gave)
gave_more was (first ∷ items) now item gave next = (gave.0, gave_more (feed_behind was first) items now item gave.1 next)

-- what was given, so far as no item ended it
gave_grosses : (was now : Site) (grosses : List ℤ) → HasGiven was now grosses None → Gave was.feed (gross_items grosses) now.feed
gave_grosses was now grosses given = subst (λ (items : List CellNext). Gave was.feed items now.feed) (append-nil (gross_items grosses)) given.items

gave_next : (was mid now : Site) (grosses : List ℤ) (item : CellNext) → HasGiven was mid grosses None → TakesItem mid now item → Gave was.feed (gross_items grosses ++ item ∷ []) now.feed
gave_next was mid now grosses item given takes =
    subst (λ (feed : Feed). Gave was.feed (gross_items grosses ++ item ∷ []) feed) (sym takes.feed)
    (gave_more was.feed (gross_items grosses) mid.feed item (gave_grosses was mid grosses given) takes.next)

-- a gross more
pub given_gross : (was mid now : Site) (grosses : List ℤ) (gross : ℤ) → HasGiven was mid grosses None → TakesItem mid now (Gross gross) → HasGiven was now (grosses ++ gross ∷ []) None
given_gross was mid now grosses gross given takes =
    let parts : gross_items grosses ++ Gross gross ∷ [] ≡ gross_items (grosses ++ gross ∷ []) ++ [] =
    sym (map-append (λ (g : ℤ). Gross g) grosses (gross ∷ [])) ∙ sym (append-nil (gross_items (grosses ++ gross ∷ []))) in
    record {
      items = subst (λ (items : List CellNext). Gave was.feed items now.feed) parts (gave_next was mid now grosses (Gross gross) given takes);
      faults = takes.cell ∙ given.faults;
    }

-- an item that ends the weighing
pub given_last : (was mid now : Site) (grosses : List ℤ) (item : CellNext) (ending : WeighingEnd) → last_items (Some ending) ≡ item ∷ [] → cell_failed (Some ending) ≡ false
    → HasGiven was mid grosses None → TakesItem mid now item → HasGiven was now grosses (Some ending)
given_last was mid now grosses item ending last calm given takes = record {
  items = subst (λ (items : List CellNext). Gave was.feed (gross_items grosses ++ items) now.feed) (sym last) (gave_next was mid now grosses item given takes);
  faults = rw calm (takes.cell ∙ given.faults);
}

-- a cell that failed gave nothing
pub given_none : (was mid now : Site) (grosses : List ℤ) → HasGiven was mid grosses None → now.feed ≡ mid.feed → Counted mid.cell_faults now.cell_faults 1 → HasGiven was now grosses (Some CellFailed)
given_none was mid now grosses given left failed = record {
  items = subst (λ (o : Feed). Gave was.feed (gross_items grosses ++ []) o) (sym left) given.items;
  faults = subst (λ (n : ℕ). Counted n now.cell_faults 1) given.faults failed;
}

-- nor did one that wasn't asked
pub given_same : (was mid now : Site) (grosses : List ℤ) → HasGiven was mid grosses None → now.feed ≡ mid.feed → now.cell_faults ≡ mid.cell_faults → HasGiven was now grosses None
given_same was mid now grosses given left faults = record {
  items = subst (λ (o : Feed). Gave was.feed (gross_items grosses ++ []) o) (sym left) given.items;
  faults = faults ∙ given.faults;
}

-- and where the gate failed
pub given_to_gate : (was mid now : Site) (grosses : List ℤ) → HasGiven was mid grosses None → now.feed ≡ mid.feed → now.cell_faults ≡ mid.cell_faults → HasGiven was now grosses (Some GateFailed)
given_to_gate was mid now grosses given left faults = record {
  items = subst (λ (o : Feed). Gave was.feed (gross_items grosses ++ []) o) (sym left) given.items;
  faults = faults ∙ given.faults;
}
