-- What is part of a list is part of each longer one, and of the longer of two.
use Rattle.std.proofs.Common.{◌≡◌, ℕ, ◌+◌, ◌<◌, ◌≤◌, ◌-◌, Bool, true, false}
use Rattle.std.proofs.Common.{List, [], length, nat_le, All, refl, subst, arith}
use Rattle.std.proofs.lemmas.Bool.Decides.{nat_tests}
use Rattle.std.proofs.lemmas.List.Elements.{All-weaker, All-head}
use Rattle.std.proofs.lemmas.Option.{slice_get_within}
use mathlib.Core.List.{IsPrefix}
use Rattle.turn_pass.specs.declared.entries.Appended.{Appended}
use Rattle.turn_pass.specs.declared.entries.Own.{Own}
use Rattle.turn_pass.specs.declared.entries.Known.{Known}
use Rattle.turn_pass.specs.declared.rule.View.{View}
use Rattle.turn_pass.specs.Rule.{Learns, hearing}
use Rattle.turn_pass.specs.History.{Agrees, StandsAt, Stand, AllBefore, appended}
use Rattle.turn_pass.specs.History.{longer}
use Rattle.turn_pass.proofs.Prefixes.{prefix_self, prefix_trans, prefix_shorter, prefix_get}

module _ {E : Type 0} where
  pub stand_later : (h by : ℕ) (xs ys : List (Appended E)) (mine : List (Own E)) → IsPrefix xs ys
      → Stand h by xs mine → Stand h by ys mine
  stand_later h by xs ys mine p st =
      All-weaker (λ (o : Own E). StandsAt h xs o.row (appended by o.entry))
      (λ (o : Own E). StandsAt h ys o.row (appended by o.entry))
      (λ o at. (at.0, prefix_get xs ys (o.row - h - 1) (appended by o.entry) p at.1)) mine st

  pub agrees_later : (h : ℕ) (xs ys : List (Appended E)) (k : Known E) → IsPrefix xs ys
      → Agrees h xs k → Agrees h ys k
  agrees_later h xs ys k p is = record {
    prefix = prefix_trans k.seen xs ys is.prefix p;
    stand = stand_later h k.by xs ys k.mine p is.stand;
    ascend = is.ascend;
  }

  pub all_agree_later : (h : ℕ) (xs ys : List (Appended E)) (ks : List (Known E)) → IsPrefix xs ys
      → All (Agrees h xs) ks → All (Agrees h ys) ks
  all_agree_later h xs ys ks p =
      All-weaker (Agrees h xs) (Agrees h ys) (λ k. agrees_later h xs ys k p) ks

  longer_is : (xs ys : List (Appended E)) (b : Bool) → nat_le (length xs) (length ys) ≡ b
      → (P : List (Appended E) → Type 0) → (length xs ≤ length ys → P ys)
      → (length ys ≤ length xs → P xs) → P (longer xs ys)
  longer_is xs ys true is P more less = rw is (more (grind (arith, nat_tests)))
  longer_is xs ys false is P more less = rw is (less (grind (arith, nat_tests)))

  -- of two beginnings of one list the longer one begins with both, and begins the list
  pub longer_first : (xs ys zs : List (Appended E)) → IsPrefix xs zs → IsPrefix ys zs
      → IsPrefix xs (longer xs ys)
  longer_first xs ys zs p q = longer_is xs ys _ refl (IsPrefix xs) (prefix_shorter xs ys zs p q)
      (λ _. prefix_self xs)

  pub longer_second : (xs ys zs : List (Appended E)) → IsPrefix xs zs → IsPrefix ys zs
      → IsPrefix ys (longer xs ys)
  longer_second xs ys zs p q = longer_is xs ys _ refl (IsPrefix ys) (λ _. prefix_self ys)
      (prefix_shorter ys xs zs q p)

  pub longer_begins : (xs ys zs : List (Appended E)) → IsPrefix xs zs → IsPrefix ys zs
      → IsPrefix (longer xs ys) zs
  longer_begins xs ys zs p q = longer_is xs ys _ refl (λ l. IsPrefix l zs) (λ _. q) (λ _. p)

  -- an entry that stands has no later number
  pub stands_before : (h : ℕ) (list : List (Appended E)) (row : ℕ) (line : Appended E)
      → StandsAt h list row line → row < h + length list + 1
  stands_before h list row line at = let lt = slice_get_within list (row - h - 1) line at.1 in
      let h' = at.0 in omega arith

  pub all_before : (h : ℕ) (list : List (Appended E)) (k : Known E) (row : ℕ) → Agrees h list k
      → row ≡ h + length list + 1 → AllBefore row k.mine
  all_before h list k row is at =
      All-weaker (λ (o : Own E). StandsAt h list o.row (appended k.by o.entry))
      (λ (o : Own E). o.row < row)
      (λ o st. let lt = stands_before h list o.row (appended k.by o.entry) st in omega arith)
      k.mine is.stand

  -- what a look shows of the one pass that was heard
  pub heard_agrees : (v w now : View E) (h : ℕ) (list : List (Appended E)) (k : Known E)
      → now ≡ hearing v w → w.known ≡ k → v.history ≡ h → v.known.seen ≡ list → Learns now
      → Agrees h list k
  heard_agrees v w now h list k is same began seen learnt =
      let told : Learns (hearing v w) = subst Learns is learnt in
      let agrees = All-head (Agrees v.history v.known.seen) w.known [] told.heard in
      subst (λ (x : (ℕ × List (Appended E)) × Known E). Agrees x.0.0 x.0.1 x.1)
      (λ i. ((began i, seen i), same i)) agrees
