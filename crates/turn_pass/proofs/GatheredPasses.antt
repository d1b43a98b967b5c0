-- Passes that come back one by one, the last one first.
use Rattle.std.proofs.Common.{Some, ◌≡◌, ◌≢◌, ℕ, length, sum_by, AllPairs, subst, arith, List}
use Rattle.std.proofs.Common.{[], ◌∷◌, ◌++◌, map, All, ap, sym, ◌∙◌, refl, append_assoc}
use Rattle.std.proofs.lemmas.List.{append-nil}
use mathlib.Core.List.{map-append}
use Rattle.std.proofs.lemmas.List.Elements.{All-pop, All-head, All-tail}
use Rattle.std.proofs.lemmas.List.Sums.{sum_by-cons}
use Rattle.atomic_table.specs.Seated.{TableId}
use Rattle.atomic_table.specs.Table.{Me}
use Rattle.turn_pass.specs.declared.entries.Known.{Known}
use Rattle.turn_pass.specs.declared.rule.View.{View}
use Rattle.turn_pass.specs.declared.entries.Appended.{Appended}
use Rattle.turn_pass.specs.History.{PassState, Agrees, known_of}
use Rattle.turn_pass.specs.Rule.{with_ended}
use Rattle.turn_pass.proofs.Pairs.{All-unmap, pairs_unmap}

module _ {E : Type 0} where
  -- those that came back stand in the book seat's view, in their order, and with those that are
  -- left they are all
  pub record IsGathered (table : TableId) (all left : List (PassState E))
      (before now : Me (Unit {0}) (View E)) : Type 0 where
    pub back : List (Known E)
    pub tables : All (λ (p : PassState E). p.table ≡ table) left
    pub view : now ≡ (with_ended back before.0, [])
    pub whole : map known_of left ++ back ≡ map known_of all

  pub none_back : (table : TableId) (all : List (PassState E)) (v : View E)
      (me : Me (Unit {0}) (View E))
      → All (λ (p : PassState E). p.table ≡ table) all → me.1 ≡ [] → IsGathered table all all me me
  none_back table all v me tables no_slot = record {
    back = [];
    tables = tables;
    view = λ i. (me.0, no_slot i);
    whole = append-nil (map known_of all);
  }

  pub one_back : (table : TableId) (all left : List (PassState E)) (p : PassState E)
      (before now after : Me (Unit {0}) (View E))
      → IsGathered table all (left ++ p ∷ []) before now
      → after ≡ (with_ended (known_of p ∷ []) now.0, [])
      → IsGathered table all left before after
  one_back table all left p before now after is ended = record {
    back = known_of p ∷ is.back;
    tables = (All-pop (λ (p : PassState E). p.table ≡ table) (left ++ p ∷ []) left (Some p) refl
        is.tables).0;
    view = rw (is.view) at ended;
    whole = sym (append_assoc (map known_of left) (known_of p ∷ []) is.back) ∙
        (ap (λ ks. ks ++ is.back) (sym (map-append known_of left (p ∷ []))) ∙ is.whole);
  }

  -- what the book seat knows of those that came back is known of each pass
  pub all_agree : (v w : View E) (h : ℕ) (list : List (Appended E)) (passes : List (PassState E))
      → w ≡ with_ended (map known_of passes) v → v.ended ≡ [] → v.history ≡ h → v.known.seen ≡ list
      → All (Agrees w.history w.known.seen) w.ended
      → All (λ (p : PassState E). Agrees h list (known_of p)) passes
  all_agree v w h list passes is none began seen parts =
      let ended : w.ended ≡ map known_of passes = ap (λ u. u.ended) is ∙
      (ap (λ ks. map known_of passes ++ ks) none ∙ append-nil (map known_of passes)) in
      let began' : w.history ≡ h = ap (λ u. u.history) is ∙ began in
      let seen' : w.known.seen ≡ list = ap (λ u. u.known.seen) is ∙ seen in
      All-unmap (Agrees h list) known_of passes
      (subst (λ (x : (ℕ × List (Appended E)) × List (Known E)). All (Agrees x.0.0 x.0.1) x.1)
      (λ i. ((began' i, seen' i), ended i)) parts)

  pub all_apart : (v w : View E) (passes : List (PassState E))
      → w ≡ with_ended (map known_of passes) v → v.ended ≡ []
      → AllPairs (λ (j k : Known E). j.by ≢ k.by) w.ended
      → AllPairs (λ (p q : PassState E). p.by ≢ q.by) passes
  all_apart v w passes is none apart =
      let ended : w.ended ≡ map known_of passes = ap (λ u. u.ended) is ∙
      (ap (λ ks. map known_of passes ++ ks) none ∙ append-nil (map known_of passes)) in
      pairs_unmap (λ (j k : Known E). j.by ≢ k.by) known_of passes
      (subst (AllPairs (λ (j k : Known E). j.by ≢ k.by)) ended apart)

  -- where for each pass as many rows were booked as it has of its own
  pub rows_own : (passes : List (PassState E))
      → All (λ (p : PassState E). p.rows ≡ length p.mine) passes
      → sum_by (λ (p : PassState E). p.rows) passes ≡ sum_by (λ (p : PassState E). length p.mine)
      passes
  rows_own [] each = refl
  rows_own (p ∷ ps) each =
      let R : PassState E → ℕ = λ p. p.rows in
      let M : PassState E → ℕ = λ p. length p.mine in
      let here = All-head (λ p. R p ≡ M p) p ps each in
      let rest = rows_own ps (All-tail (λ p. R p ≡ M p) p ps each) in
      omega (arith, sum_by-cons R p ps, sum_by-cons M p ps)
