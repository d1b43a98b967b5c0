-- The own entries of a pass: they ascend, and once they are as many as the lines of its number they
-- are these lines.
use Rattle.std.proofs.Common.{◌≡◌, ◌≢◌, ℕ, suc, ◌+◌, ◌-◌, ◌<◌, ◌≤◌, Bool, true, false}
use Rattle.std.proofs.Common.{List, [], ◌∷◌, ◌++◌, length, nat_le, nat_eq, cond}
use Rattle.std.proofs.Common.{if◌then◌else◌, Some, All, refl, ap, sym, ◌∙◌}
use Rattle.std.proofs.Common.{arith, ◌⊎◌, ⊎_elim, inl, inr, true≢false}
use Rattle.std.proofs.lemmas.Bool.Decides.{nat_tests}
use Rattle.std.proofs.lemmas.List.Elements.{All-weaker, All-nil, All-cons, All-head, All-tail}
use Rattle.turn_pass.specs.declared.entries.Appended.{Appended}
use Rattle.turn_pass.specs.declared.entries.Own.{Own}
use Rattle.turn_pass.specs.declared.entries.Known.{Known}
use Rattle.turn_pass.specs.History.{Agrees, StandsAt, Stand, Ascend, HasNoRow, AllBefore}
use Rattle.turn_pass.specs.History.{appended, own, with_own, own_of}
use Rattle.turn_pass.proofs.Pairs.{pairs_cons, pairs_head, pairs_tail}

module _ {E : Type 0} where
  -- the one stands before the other
  abbrev Below : Own E → Own E → Type 0
  Below o p = o.row < p.row

  -- what holds of all entries and of one more holds of them together
  pub all_with_own : (P : Own E → Type 0) (mine : List (Own E)) (new : Own E) → All P mine → P new
      → All P (with_own mine new)
  all_with_own P [] new each here = All-cons P new [] here each
  all_with_own P (o ∷ mine) new each here =
      at (nat_le o.row new.row) (all_with_own P mine new (All-tail P o mine each) here) where
        at : (b : Bool) → All P (with_own mine new)
            → All P (if b then o ∷ with_own mine new else new ∷ o ∷ mine)
        at true rest = All-cons P o (with_own mine new) (All-head P o mine each) rest
        at false rest = All-cons P new (o ∷ mine) here each

  pub ascend_more : (mine : List (Own E)) (new : Own E) → Ascend mine → HasNoRow mine new.row
      → Ascend (with_own mine new)
  ascend_more [] new up other = pairs_cons Below new [] (All-nil (Below new)) up
  ascend_more (o ∷ mine) new up other =
      at (nat_le o.row new.row) refl
      (ascend_more mine new (pairs_tail Below o mine up)
      (All-tail (λ (p : Own E). p.row ≢ new.row) o mine other)) where
        at : (b : Bool) → nat_le o.row new.row ≡ b → Ascend (with_own mine new)
            → Ascend (if b then o ∷ with_own mine new else new ∷ o ∷ mine)
        at true is rest =
            let apart = All-head (λ (p : Own E). p.row ≢ new.row) o mine other in
            let before : o.row < new.row = grind (arith, nat_tests) in
            pairs_cons Below o (with_own mine new)
            (all_with_own (Below o) mine new (pairs_head Below o mine up) before) rest
        at false is rest =
            let before : new.row < o.row = grind (arith, nat_tests) in
            pairs_cons Below new (o ∷ mine)
            (All-cons (Below new) o mine before
            (All-weaker (Below o) (Below new) (λ p lt. omega arith) mine
            (pairs_head Below o mine up))) up

  -- an entry behind all others is the last
  pub last_own : (mine : List (Own E)) (new : Own E) → AllBefore new.row mine
      → with_own mine new ≡ mine ++ new ∷ []
  last_own [] new before = refl
  last_own (o ∷ mine) new before =
      let here = All-head (λ (p : Own E). p.row < new.row) o mine before in
      let rest = last_own mine new (All-tail (λ (p : Own E). p.row < new.row) o mine before) in
      let low : nat_le o.row new.row ≡ true = grind (arith, nat_tests) in
      rw (low, rest) refl

  -- how many lines of the list have this number
  abbrev pub count_of : ℕ → List (Appended E) → ℕ
  count_of by [] = 0
  count_of by (line ∷ list) = cond (nat_eq line.by by) 1 0 + count_of by list

  -- where no own entry is the first line, all stand in the rest
  behind_first : (h by : ℕ) (line : Appended E) (list : List (Appended E)) (mine : List (Own E))
      → Stand h by (line ∷ list) mine → All (λ (o : Own E). h + 1 < o.row) mine
      → Stand (h + 1) by list mine
  behind_first h by line list mine stand late k d lt =
      later h by line list (late k d lt) (stand k d lt) where
        later : (h by : ℕ) (line : Appended E) (list : List (Appended E)) {row : ℕ} {x : Appended E}
            → h + 1 < row → StandsAt h (line ∷ list) row x → StandsAt (h + 1) list row x
        later h by line list {row} late at =
            let place : row - h - 1 ≡ suc (row - (h + 1) - 1) = omega arith in
            (late, rw place at at.1)

  -- the first own entry is the first line, or all own entries stand behind it
  first_or_behind : (h by : ℕ) (line : Appended E) (list : List (Appended E)) (o : Own E)
      (mine : List (Own E)) → Ascend (o ∷ mine) → Stand h by (line ∷ list) (o ∷ mine)
      → ((o ≡ own (h + 1) line.entry) × (nat_eq line.by by ≡ true) × Stand (h + 1) by list mine)
      ⊎ Stand (h + 1) by list (o ∷ mine)
  first_or_behind h by line list o mine up stand = look (nat_le o.row (h + 1)) refl where
    P : Own E → Type 0
    P p = StandsAt h (line ∷ list) p.row (appended by p.entry)

    here : StandsAt h (line ∷ list) o.row (appended by o.entry)
    here = All-head P o mine stand

    above : All (Below o) mine
    above = pairs_head Below o mine up

    look : (b : Bool) → nat_le o.row (h + 1) ≡ b
        → ((o ≡ own (h + 1) line.entry) × (nat_eq line.by by ≡ true) × Stand (h + 1) by list mine)
        ⊎ Stand (h + 1) by list (o ∷ mine)
    look true is =
        let at = here.0 in
        let row : o.row ≡ h + 1 = grind (arith, nat_tests) in
        let place : o.row - h - 1 ≡ 0 = omega arith in
        let same : Some line ≡ Some (appended by o.entry) = rw (place) at here.1 in
        let it : line ≡ appended by o.entry = cc same in
        let number : line.by ≡ by = ap (λ (l : Appended E). l.by) it in
        let entry : line.entry ≡ o.entry = ap (λ (l : Appended E). l.entry) it in
        inl (
          λ i. record { row = row i; entry = sym entry i },
          rw number (grind (arith, nat_tests)),
          behind_first h by line list mine (All-tail P o mine stand)
              (All-weaker (Below o) (λ (p : Own E). h + 1 < p.row) (λ p lt. omega arith) mine
              above),
        )
    look false is =
        let late : h + 1 < o.row = grind (arith, nat_tests) in
        inr (behind_first h by line list (o ∷ mine) stand
        (All-cons (λ (p : Own E). h + 1 < p.row) o mine late
        (All-weaker (Below o) (λ (p : Own E). h + 1 < p.row) (λ p lt. omega arith) mine above)))

  -- nothing stands in an empty list
  none_stand : (h by : ℕ) (o : Own E) (mine : List (Own E)) {P : Type 0} → Stand h by [] (o ∷ mine)
      → P
  none_stand h by o mine stand =
      let at = All-head (λ (p : Own E). StandsAt h [] p.row (appended by p.entry)) o mine stand in
      let no_line = at.1 in absurd cc

  own_at_most : (h by : ℕ) (list : List (Appended E)) (mine : List (Own E)) → Ascend mine
      → Stand h by list mine → length mine ≤ count_of by list
  own_at_most h by list [] up stand = omega arith
  own_at_most h by [] (o ∷ mine) up stand = none_stand h by o mine stand
  own_at_most h by (line ∷ list) (o ∷ mine) up stand =
      ⊎_elim (λ first. let rest = own_at_most (h + 1) by list mine (pairs_tail Below o mine up)
      first.2 in rw first.1 (omega arith))
      (λ behind. let rest = own_at_most (h + 1) by list (o ∷ mine) up behind in omega arith)
      (first_or_behind h by line list o mine up stand)

  -- own entries that are as many as the lines of their number are these lines
  own_is : (h by : ℕ) (list : List (Appended E)) (mine : List (Own E)) → Ascend mine
      → Stand h by list mine → length mine ≡ count_of by list → mine ≡ own_of by h list
  own_is h by [] [] up stand same = refl
  own_is h by [] (o ∷ mine) up stand same = none_stand h by o mine stand
  own_is h by (line ∷ list) mine up stand same =
      look (nat_eq line.by by) refl mine up stand same (own_is (h + 1) by list) where
        look : (b : Bool) → nat_eq line.by by ≡ b → (mine : List (Own E)) → Ascend mine
            → Stand h by (line ∷ list) mine → length mine ≡ cond b 1 0 + count_of by list
            → ((mine : List (Own E)) → Ascend mine → Stand (h + 1) by list mine
            → length mine ≡ count_of by list → mine ≡ own_of by (h + 1) list)
            → mine ≡ (if b then own (h + 1) line.entry ∷ own_of by (h + 1) list
            else own_of by (h + 1) list)
        look true is [] up stand same rest = absurd (omega arith)
        look false is [] up stand same rest =
            rest [] up
            (All-nil (λ (p : Own E). StandsAt (h + 1) list p.row (appended by p.entry)))
            (omega arith)
        look true is (o ∷ mine) up stand same rest =
            ⊎_elim (λ first. let others = rest mine (pairs_tail Below o mine up) first.2
            (omega arith) in λ i. first.0 i ∷ others i)
            (λ behind. let most = own_at_most (h + 1) by list (o ∷ mine) up behind in
            absurd (omega arith))
            (first_or_behind h by line list o mine up stand)
        look false is (o ∷ mine) up stand same rest =
            ⊎_elim (λ first. absurd (true≢false (sym first.1 ∙ is)))
            (λ behind. rest (o ∷ mine) up behind (omega arith))
            (first_or_behind h by line list o mine up stand)

  -- the same of what a pass knows
  pub known_at_most : (h : ℕ) (list : List (Appended E)) (k : Known E) → Agrees h list k
      → length k.mine ≤ count_of k.by list
  known_at_most h list k is = own_at_most h k.by list k.mine is.ascend is.stand

  pub known_is : (h : ℕ) (list : List (Appended E)) (k : Known E) → Agrees h list k
      → length k.mine ≡ count_of k.by list → k.mine ≡ own_of k.by h list
  known_is h list k is same = own_is h k.by list k.mine is.ascend is.stand same
