-- What is known of a journal where its disk tells.
use Rattle.std.proofs.Common.{◌≡◌, ◌≢◌, ◌⊎◌, inl, inr, ⊎_elim, ℕ, ◌+◌, ◌<◌, ◌≤◌, max, Bool, true, false, not, Option, Some, None, is_some, IsTrue, List, ◌∷◌, length, get_or, drop, refl, sym, ◌∙◌, ap, subst, arith}
use Rattle.std.proofs.lemmas.List.{drop_more}
use Rattle.std.proofs.lemmas.Bool.{cases_lt}
use Rattle.device_facts.specs.Known.{TellsAsBefore}
use Rattle.disk_core.specs.Disk.{WhereTold, Torn}
use Rattle.disk_core.specs.Devices.{IsUnmoved}
use Rattle.disk_core.specs.declared.disk.Disk as disk
use Rattle.book_snapshot.specs.declared.layout.TheConstants.{MARK, ROW_BYTES, OPEN}
use Rattle.book_journal.specs.Rows.{Recovers, rows_of, gate_behind, row_behind}
use Rattle.book_journal.specs.Journal.{StandsAs, HasGate, HasRows, RecoversOrHangs, ImagesKeepRows}
use Rattle.book_journal.specs.Appending.{TouchesSlot}
use Rattle.book_journal.specs.declared.journal.Journal.{Journal}
use Rattle.book_journal.proofs.Gates.{recovers_closed, mark_agrees}
use Rattle.book_journal.proofs.JournalSteps.{either_now}

-- a disk that tells now has told before
pub told_before : (old new : Option (List ℕ)) (now : List ℕ) → TellsAsBefore old new
    → new ≡ Some now → (b : List ℕ) × (old ≡ Some b)
told_before (Some b) new now tells told = (b, refl)
told_before None new now tells told = absurd (no_none tells told)
  where
    no_none : {new : Option (List ℕ)} {now : List ℕ} → is_some new ≡ false → new ≡ Some now → ⊥
    no_none none some = absurd cc

-- what a call leaves of told bytes holds of whatever is told now
pub told_on : (old new : Option (List ℕ)) → TellsAsBefore old new → (P : List ℕ → Type 0)
    → ((b : List ℕ) → old ≡ Some b → (now : List ℕ) × (new ≡ Some now) × P now) → WhereTold new P
told_on old new tells P after now told =
    let before = told_before old new now tells told in
    let left = after before.0 before.1 in
    let same : left.0 ≡ now = cc (left.1, told) in
    subst P same left.2

-- what holds of the bytes that are told holds of each that is
pub told_as : (told : Option (List ℕ)) (now : List ℕ) (P : List ℕ → Type 0) → told ≡ Some now
    → P now → WhereTold told P
told_as told now P is holds other at_other =
    let same : now ≡ other = cc (is, at_other) in
    subst P same holds

pub tells_on : (old mid new : Option (List ℕ)) → TellsAsBefore old mid → TellsAsBefore mid new
    → TellsAsBefore old new
tells_on old mid new first second = second ∙ first

pub tells_by : (old mid new : Option (List ℕ)) → TellsAsBefore old mid → new ≡ mid
    → TellsAsBefore old new
tells_by old mid new first same = ap (λ (o : Option (List ℕ)). is_some o) same ∙ first

pub told_after : (old new : Option (List ℕ)) (b : List ℕ) → TellsAsBefore old new → old ≡ Some b
    → (now : List ℕ) × (new ≡ Some now)
told_after old new b tells told = told_before new old b (sym tells) told

pub true_or_false : (b : Bool) → (b ≡ true) ⊎ (b ≡ false)
true_or_false true = inl refl
true_or_false false = inr refl

pub not_true : (b : Bool) → not b ≡ true → b ≡ false
not_true true is = absurd cc
not_true false is = refl

pub not_false : (b : Bool) → not b ≡ false → b ≡ true
not_false true is = refl
not_false false is = absurd cc

pub not_hangs : (b : Bool) → (IsTrue b → ⊥) → b ≡ false
not_hangs true calm = absurd (calm (yes_is_true))
  where
    yes_is_true : IsTrue true
    yes_is_true = refl
not_hangs false calm = refl

-- a row is its gate and the rest
pub row_is : (row : List ℕ) → length row ≡ ROW_BYTES → get_or row 0 0 ≡ OPEN → OPEN ∷ drop 1 row ≡ row
row_is row long gate =
    let split : drop 0 row ≡ get_or row 0 0 ∷ drop 1 row = drop_more row 0 0 (omega arith) in
    ap (λ (x : ℕ). x ∷ drop 1 row) (sym gate) ∙ sym split

-- a journal that stands so, stands so under equal names
pub stands_at : (count count' : ℕ) (hanging hanging' marked marked' : Bool) (b : List ℕ)
    (image : List ℕ → Type 0) → count ≡ count' → hanging ≡ hanging' → marked ≡ marked'
    → StandsAs count hanging marked b image → StandsAs count' hanging' marked' b image
stands_at count count' hanging hanging' marked marked' b image same same_hanging same_marked stands =
    subst (λ (n : ℕ). StandsAs n hanging' marked' b image) same
    (subst (λ (h : Bool). StandsAs count h marked' b image) same_hanging
    (subst (λ (m : Bool). StandsAs count hanging m b image) same_marked stands))

module _ {D : Type 0} (g : disk.Ghosts D)
    (reads_image : (d : D) (bytes : List ℕ) → g.reads d ≡ Some bytes → g.image d bytes)
    (only_now : (d : D) (c : List ℕ) → g.since d (g.time d) c → g.image d c) where
  -- every image of a journal recovers its rows, or these and the one that hangs
  pub image_keeps : (journal : Journal D) (rows : List (List ℕ)) → HasRows g journal rows
      → (c : List ℕ) → g.image journal.disk c → RecoversOrHangs g journal rows c
  image_keeps journal rows has c is =
      subst (λ (rs : List (List ℕ)). RecoversOrHangs g journal rs c) has.are
      (at (true_or_false journal.hanging))
    where
      at : (journal.hanging ≡ true) ⊎ (journal.hanging ≡ false)
          → RecoversOrHangs g journal (rows_of journal.count has.bytes) c
      at (inr calm) =
          let stands = stands_at journal.count journal.count journal.hanging false journal.marked
          journal.marked has.bytes (g.image journal.disk) refl calm refl has.stands in
          inl (recovers_closed journal.count has.bytes c stands.header stands.rows stands.numbered
          (mark_agrees journal.marked (rows_of journal.count has.bytes) (length has.bytes) c
          (stands.marks c is)) (stands.ends c is))
      at (inl hangs) =
          let stands = stands_at journal.count journal.count journal.hanging true journal.marked
          false has.bytes (g.image journal.disk) refl hangs
          (has.stands.hung hangs).unmarked has.stands in
          ⊎_elim (λ without. inl without)
          (λ with_it. inr (
            row_behind journal.count has.bytes,
            record {
              hangs = is_hanging hangs;
              bytes = has.bytes;
              told = has.told;
              stands =
                  refl;
            },
            with_it,
          ))
          (either_now g reads_image only_now journal.count journal.disk has.bytes has.told stands c is)
        where
          is_hanging : journal.hanging ≡ true → IsTrue journal.hanging
          is_hanging is = is

  pub images_keep : (journal : Journal D) → ImagesKeepRows g journal
  images_keep journal rows has c is = image_keeps journal rows has c is

  -- a journal that doesn't hang has no row that does
  pub none_hangs : (journal : Journal D) (rows : List (List ℕ)) (c : List ℕ)
      → journal.hanging ≡ false → RecoversOrHangs g journal rows c → Recovers c rows
  none_hangs journal rows c calm (inl without) = without
  none_hangs journal rows c calm (inr with_it) = absurd (no (with_it.1).hangs)
    where
      no : IsTrue journal.hanging → ⊥
      no is = absurd cc

-- a journal has the same rows after a call that only read
pub rows_on : {D : Type 0} (g : disk.Ghosts D) (journal : Journal D) (disk : D)
    (rows : List (List ℕ)) → IsUnmoved g journal.disk disk → HasRows g journal rows
    → HasRows g (record journal { disk = disk }) rows
rows_on g journal disk rows unmoved has = record {
  bytes = has.bytes;
  told = unmoved.reads ∙ has.told;
  are = has.are;
  stands = record {
    header = has.stands.header;
    rows = has.stands.rows;
    numbered = has.stands.numbered;
    ends = λ c is. has.stands.ends c (unmoved.images c is);
    marks = λ c is. has.stands.marks c (unmoved.images c is);
    hung = has.stands.hung;
  };
}

-- what a write leaves of the header and of a gate's place
pub gate_torn : (count place n most : ℕ) (b now : List ℕ) → Torn place n most b now → (place ≡ MARK)
    × (n ≡ 1) ⊎ (ROW_BYTES ≤ place) → HasGate count b → HasGate count now
gate_torn count place n most b now torn where_it gate =
    let long = gate.long in
    let longest = gate.header.long in
    let longer = torn.no_shorter in
    record {
      header = record {
        long = omega (arith, longest, longer);
        same = λ k lt other. torn.outside k (omega (arith, lt, longest))
            (outside k lt other where_it) ∙ gate.header.same k lt other;
      };
      long = omega (arith, long, longer);
    }
  where
    outside : (k : ℕ) → k < ROW_BYTES → k ≢ MARK → (place ≡ MARK) × (n ≡ 1) ⊎ (ROW_BYTES ≤ place)
        → (k < place) ⊎ (place + n ≤ k)
    outside k lt other (inl at_mark) =
        ⊎_elim (λ below. inl (omega (arith, below, at_mark.0)))
        (λ above. inr (omega (arith, above, at_mark.0, at_mark.1))) (apart k MARK other)
      where
        apart : (k m : ℕ) → k ≢ m → (k < m) ⊎ (m + 1 ≤ k)
        apart k m other = ⊎_elim (λ lt. inl lt) (λ le. inr (omega (arith, le, other))) (cases_lt k m)
    outside k lt other (inr beyond) = inl (omega (arith, lt, beyond))

-- nothing was written
pub touches_none : (count : ℕ) (b : List ℕ) → TouchesSlot count b b
touches_none count b = record {
  outside = λ k lt other where_k. refl;
  no_shorter = omega arith;
  no_longer = omega arith;
}

-- one write
pub touches_torn : (count place n most : ℕ) (b now : List ℕ) → Torn place n most b now
    → ((place ≡ MARK) × (n ≡ 1)) ⊎
    ((gate_behind count ≤ place) × (place + n ≤ gate_behind (count + 1) + 1))
    → most ≤ max (length b) (gate_behind (count + 1) + 1) → TouchesSlot count b now
touches_torn count place n most b now torn where_it small = record {
  outside = λ k lt other where_k. torn.outside k lt (outside k other where_k where_it);
  no_shorter = torn.no_shorter;
  no_longer = omega (arith, torn.no_longer, small);
}
  where
    outside : (k : ℕ) → k ≢ MARK → (k < gate_behind count) ⊎ (gate_behind (count + 1) < k)
        → ((place ≡ MARK) × (n ≡ 1)) ⊎
        ((gate_behind count ≤ place) × (place + n ≤ gate_behind (count + 1) + 1)) → (k < place)
        ⊎ (place + n ≤ k)
    outside k other where_k (inl at_mark) =
        ⊎_elim (λ below. inl (omega (arith, below, at_mark.0)))
        (λ above. inr (omega (arith, above, at_mark.0, at_mark.1))) (apart k MARK other)
      where
        apart : (k m : ℕ) → k ≢ m → (k < m) ⊎ (m + 1 ≤ k)
        apart k m other = ⊎_elim (λ lt. inl lt) (λ le. inr (omega (arith, le, other))) (cases_lt k m)
    outside k other where_k (inr in_slot) =
        ⊎_elim (λ below. inl (omega (arith, below, in_slot.0)))
        (λ above. inr (omega (arith, above, in_slot.1))) where_k

-- one after another
pub touches_on : (count : ℕ) (b mid now : List ℕ) → TouchesSlot count b mid
    → TouchesSlot count mid now → TouchesSlot count b now
touches_on count b mid now first second = record {
  outside = λ k lt other where_k. second.outside k
      (omega (arith, lt, first.no_shorter)) other where_k ∙ first.outside k lt other where_k;
  no_shorter = omega (arith, first.no_shorter, second.no_shorter);
  no_longer = omega (arith, first.no_longer, second.no_longer);
}
