-- What is known of a store from what is known of its journal.
use Rattle.std.proofs.Common.{◌≡◌, ◌⊎◌, inl, inr, ⊎_elim, ℕ, ◌+◌, List, [], ◌∷◌, ◌++◌, length, Some, Result, Ok, Err, OnOk, OnErr, refl, sym, ◌∙◌, ap, subst}
use Rattle.disk_core.specs.Devices.{LeavesOnly}
use Rattle.disk_core.specs.declared.disk.Disk as disk
use Rattle.book_words.specs.declared.act.Entry.{Entry}
use Rattle.book_words.specs.Answers.{IsLawful}
use Rattle.row_format.specs.Spelling.{new_layout, row_bytes}
use Rattle.row_format.specs.Rows.{CanBeSpelled, Spells, SpellsOneEntry}
use Rattle.book_journal.specs.declared.journal.Journal.{Journal}
use Rattle.book_journal.specs.Rows.{Recovers, row_behind}
use Rattle.book_journal.specs.Journal as journals
use Rattle.book_journal.specs.Journal.{HasRows, RecoversOrHangs}
use Rattle.book_journal.specs.Appending.{AppendsRow}
use Rattle.book_journal.proofs.Journals.{image_keeps}
use Rattle.book_journal.proofs.Moments.{started, leaves_in}
use Rattle.book_store.specs.declared.store.Store.{Store}
use Rattle.book_store.specs.Images.{spelled, CanAllBeSpelled, HoldsBook}
use Rattle.book_store.specs.Stores.{disk_of, entries_of, Hangs, HasBook, HangsWith, HoldsOrHangs, ImagesHoldBook, KeepsBook}
use Rattle.book_store.specs.Offers.{OffersEntry, LeavesDisk}
use Rattle.book_store.proofs.SpelledRows.{spelled_more, all_more}

-- the book with one entry more
pub holds_more : (entries : List Entry) (entry : Entry) (c : List ℕ) → CanAllBeSpelled entries
    → CanBeSpelled new_layout entry
    → Recovers c (spelled entries ++ row_bytes new_layout (length entries + 1) entry ∷ [])
    → HoldsBook (entries ++ entry ∷ []) c
holds_more entries entry c can more recovers = record {
  rows = subst (λ (rows : List (List ℕ)). Recovers c rows) (sym (spelled_more entries entry)) recovers;
  can = all_more entries entry can more;
}

-- what holds at an Ok, and at an error
pub done_at : {T E : Type 0} (result : Result T E) (value : T) → result ≡ Ok value → (P : Type 0)
    → OnOk result P → P
done_at (Ok x) value is P holds = holds
done_at (Err e) value is P holds = absurd (cc)

pub failed_at : {T E : Type 0} (result : Result T E) (why : E) → result ≡ Err why → (P : Type 0)
    → OnErr result P → P
failed_at (Ok x) why is P holds = absurd (cc)
failed_at (Err e) why is P holds = holds

module _ {D : Type 0} (g : disk.Ghosts D) where
  -- a journal hangs with one row
  pub one_row : (journal : Journal D) (row other : List ℕ) → journals.HangsWith g journal row
      → journals.HangsWith g journal other → row ≡ other
  one_row journal row other is at =
      let same : is.bytes ≡ at.bytes = cc (is.told, at.told) in
      sym is.stands ∙ ap (λ (bytes : List ℕ). row_behind journal.count bytes) same ∙ at.stands

  -- a store with the same journal and list hangs with the same entry
  pub hangs_on : (old new : Store D) (entry : Entry) → new.journal ≡ old.journal
      → entries_of new ≡ entries_of old → HangsWith g new entry → HangsWith g old entry
  hangs_on old new entry journal same hangs = record {
    row = subst (λ (j : Journal D). journals.HangsWith g j
        (row_bytes new_layout (length (entries_of old) + 1) entry)) journal
        (subst (λ (es : List Entry). journals.HangsWith g new.journal
        (row_bytes new_layout (length es + 1) entry)) same hangs.row);
    can = hangs.can;
  }

  -- and its disk has the same book
  pub has_on : (old new : Store D) → new.journal ≡ old.journal → entries_of new ≡ entries_of old
      → HasBook g old → HasBook g new
  has_on old new journal same has = record {
    rows = subst (λ (es : List Entry). HasRows g new.journal (spelled es)) (sym same)
        (subst (λ (j : Journal D). HasRows g j (spelled (entries_of old))) (sym journal) has.rows);
    can = subst CanAllBeSpelled (sym same) has.can;
    hung = λ hangs.
        let found = has.hung (subst (λ (j : Journal D). journals.Hangs j) journal hangs) in
        (found.0, hangs_on new old found.0 (sym journal) (sym same) found.1);
  }

  pub leaves_disk : (old new : Store D) → new.journal ≡ old.journal
      → entries_of new ≡ entries_of old → LeavesDisk g old new
  leaves_disk old new journal same = record {
    same = ap (λ (j : Journal D). j.disk) journal;
    has = has_on old new journal same;
    hung = λ hung hangs. hangs_on old new hung journal same hangs;
  }

  -- what recovers the rows, or one more, holds the book, or one entry more
  pub holds_or_hangs : (store : Store D) (c : List ℕ) → HasBook g store
      → RecoversOrHangs g store.journal (spelled (entries_of store)) c → HoldsOrHangs g store c
  holds_or_hangs store c has (inl without) = inl (record { rows = without; can = has.can })
  holds_or_hangs store c has (inr with_it) =
      let found = has.hung (with_it.1).hangs in
      let same : with_it.0 ≡ row_bytes new_layout (length (entries_of store) + 1) found.0 =
      one_row store.journal _ _ with_it.1 (found.1).row in
      inr (
        found.0,
        found.1,
        holds_more (entries_of store) found.0 c has.can (found.1).can
            (subst (λ (row : List ℕ). Recovers c (spelled (entries_of store) ++ row ∷ [])) same
            with_it.2),
      )

  -- the row that hangs, where one does
  pub row_hangs : (journal : Journal D) (rows : List (List ℕ)) → HasRows g journal rows
      → journals.Hangs journal → (row : List ℕ) × journals.HangsWith g journal row
  row_hangs journal rows has hangs = (
    row_behind journal.count has.bytes,
    record { hangs = hangs; bytes = has.bytes; told = has.told; stands = refl },
  )

  -- a row was appended
  module _ (old new : Store D) (entry : Entry) (row : List ℕ)
      (spells : Spells new_layout row (length (entries_of old) + 1) entry)
      (lawful : IsLawful (entries_of old) entry) (has : HasBook g old) where
    moments : {E : Type 0} (result : Result ℕ E)
        → AppendsRow g row result old.journal new.journal (spelled (entries_of old))
        → LeavesOnly g (disk_of old) (disk_of new)
        (λ c. HoldsOrHangs g old c ⊎ HoldsBook (entries_of old ++ entry ∷ []) c)
    moments result appends = leaves_in g (disk_of old) (disk_of new) _ _ appends.moments
        (λ c left. ⊎_elim
        (λ before. inl (holds_or_hangs old c has before))
        (λ more. inr (holds_more (entries_of old) entry c has.can spells.can
        (subst (λ (r : List ℕ). Recovers c (spelled (entries_of old) ++ r ∷ [])) spells.row
        more)))
        left)

    pub offers_done : {E : Type 0} (result : Result ℕ E) (number : ℕ) → result ≡ Ok number
        → AppendsRow g row result old.journal new.journal (spelled (entries_of old))
        → entries_of new ≡ entries_of old ++ entry ∷ [] → ¬ Hangs new → OffersEntry g entry old new
    offers_done result number is appends more calm = record {
      lawful = lawful;
      has = record {
        rows = subst (λ (es : List Entry). HasRows g new.journal (spelled es)) (sym more)
            (subst (λ (rows : List (List ℕ)). HasRows g new.journal rows)
            (sym (spelled_more (entries_of old) entry))
            (subst (λ (r : List ℕ). HasRows g new.journal (spelled (entries_of old) ++ r ∷ []))
            spells.row (done_at result number is _ appends.done)));
        can = subst CanAllBeSpelled (sym more) (all_more (entries_of old) entry has.can spells.can);
        hung = λ hangs. absurd (calm hangs);
      };
      hung = λ hung hangs. absurd (calm (hangs.row).hangs);
      moments = moments result appends;
    }

    pub offers_failed : {E : Type 0} (result : Result ℕ E) (why : E) → result ≡ Err why
        → SpellsOneEntry → AppendsRow g row result old.journal new.journal
        (spelled (entries_of old)) → entries_of new ≡ entries_of old → OffersEntry g entry old new
    offers_failed result why is one appends same =
        let rows = failed_at result why is _ appends.failed in
        record {
          lawful = lawful;
          has = record {
            rows = subst (λ (es : List Entry). HasRows g new.journal (spelled es)) (sym same) rows;
            can = subst CanAllBeSpelled (sym same) has.can;
            hung = λ hangs.
                let hung = row_hangs new.journal (spelled (entries_of old)) rows hangs in
                ⊎_elim (λ offered. (
                  entry,
                  with_row hung.0 entry hung.1
                      (offered ∙ spells.row) spells.can,
                ))
                (λ before.
                let found = has.hung before.hangs in (
                  found.0,
                  with_row hung.0 found.0 hung.1
                      (one_row old.journal _ _ before (found.1).row) (found.1).can,
                ))
                (failed_at result why is _ (appends.hung hung.0 hung.1));
          };
          hung = λ hung hangs.
              let at = subst (λ (es : List Entry). journals.HangsWith g new.journal
              (row_bytes new_layout (length es + 1) hung)) same hangs.row in
              ⊎_elim
              (λ offered. inl (one row (length (entries_of old) + 1) hung entry
              (record { row = sym offered; can = hangs.can }) spells))
              (λ before. inr (record { row = before; can = hangs.can }))
              (failed_at result why is _ (appends.hung
              (row_bytes new_layout (length (entries_of old) + 1) hung) at));
          moments = moments result appends;
        }
      where
        with_row : (r : List ℕ) (other : Entry) → journals.HangsWith g new.journal r
            → r ≡ row_bytes new_layout (length (entries_of old) + 1) other
            → CanBeSpelled new_layout other → HangsWith g new other
        with_row r other hangs is can = record {
          row = subst (λ (es : List Entry). journals.HangsWith g new.journal
              (row_bytes new_layout (length es + 1) other)) (sym same)
              (subst (λ (l : List ℕ). journals.HangsWith g new.journal l) is hangs);
          can = can;
        }

  -- an entry offered to a store with the same journal and list
  pub offers_from : (old mid new : Store D) (entry : Entry) → mid.journal ≡ old.journal
      → entries_of mid ≡ entries_of old → HasBook g old
      → (HasBook g mid → OffersEntry g entry mid new) → OffersEntry g entry old new
  offers_from old mid new entry journal same has offered =
      let offers = offered (has_on old mid journal same has) in
      record {
        lawful = subst (λ (es : List Entry). IsLawful es entry) same offers.lawful;
        has = offers.has;
        hung = λ hung hangs. ⊎_elim (λ is. inl is)
            (λ before. inr (hangs_on old mid hung journal same before)) (offers.hung hung hangs);
        moments = subst (λ (d : D). LeavesOnly g d (disk_of new)
            (λ c. HoldsOrHangs g old c ⊎ HoldsBook (entries_of old ++ entry ∷ []) c))
            (ap (λ (j : Journal D). j.disk) journal)
            (leaves_in g (disk_of mid) (disk_of new) _ _ offers.moments (λ c left. ⊎_elim
            (λ held. inl (held_on c held))
            (λ more. inr (subst (λ (es : List Entry). HoldsBook (es ++ entry ∷ []) c) same more))
            left));
      }
    where
      held_on : (c : List ℕ) → HoldsOrHangs g mid c → HoldsOrHangs g old c
      held_on c (inl without) = inl (subst (λ (es : List Entry). HoldsBook es c) same without)
      held_on c (inr with_it) = inr (
        with_it.0,
        hangs_on old mid with_it.0 journal same with_it.1,
        subst (λ (es : List Entry). HoldsBook (es ++ with_it.0 ∷ []) c) same with_it.2,
      )

  module _ (reads_image : (d : D) (bytes : List ℕ) → g.reads d ≡ Some bytes → g.image d bytes)
      (only_now : (d : D) (c : List ℕ) → g.since d (g.time d) c → g.image d c) where
    pub images_hold : (store : Store D) → ImagesHoldBook g store
    images_hold store has c is = holds_or_hangs store c has
        (image_keeps g reads_image only_now store.journal
        (spelled (entries_of store)) has.rows c is)

    -- an entry for which there was no memory
    pub offers_none : (old new : Store D) (entry : Entry) → new.journal ≡ old.journal
        → entries_of new ≡ entries_of old → IsLawful (entries_of old) entry → HasBook g old
        → OffersEntry g entry old new
    offers_none old new entry journal same lawful has = record {
      lawful = lawful;
      has = has_on old new journal same has;
      hung = λ hung hangs. inr (hangs_on old new hung journal same hangs);
      moments = subst (λ (j : Journal D). LeavesOnly g (disk_of old) j.disk
          (λ c. HoldsOrHangs g old c ⊎ HoldsBook (entries_of old ++ entry ∷ []) c)) (sym journal)
          (started g (disk_of old) _ (λ c was.
          inl (images_hold old has c (only_now (disk_of old) c was))));
    }

    -- a disk that isn't touched keeps the book
    pub keeps_none : (store : Store D) → HasBook g store → KeepsBook g store store
    keeps_none store has = record {
      has = has;
      hung = λ hung hangs. hangs;
      moments = started g (disk_of store) _
          (λ c was. images_hold store has c (only_now (disk_of store) c was));
    }
