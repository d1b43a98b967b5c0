-- What one slot makes of a migration.
use Rattle.std.proofs.Common.{◌≡◌, inl, inr, ⊎_elim, ℕ, ◌+◌, ◌-◌, ◌<◌, ◌≤◌, nat_le, true, if◌then◌else◌, List, [], ◌∷◌, ◌++◌, length, take, drop, None, slice_get, Ok, Err, refl, sym, ap, ◌∙◌, subst, arith, append_assoc, append-nil, length-append}
use Rattle.std.proofs.lemmas.Bool.Decides.{nat_tests}
use Rattle.std.proofs.lemmas.List.{length-take-le, nil_from_length, take-append-drop}
use Rattle.book_words.specs.declared.act.Entry.{Entry}
use Rattle.book_words.specs.Answers.{IsLawful}
use Rattle.book_state.specs.Known.{entry_numbered}
use Rattle.row_format.specs.Spelling.{old_layout}
use Rattle.row_format.specs.Rows.{Spells}
use Rattle.old_journal.specs.declared.types.OldPiece.{OldPiece}
use Rattle.old_journal.specs.declared.types.OldPiece.TheVariants.{Part, Header, Foreign, Row, Bad, Over}
use Rattle.old_journal.specs.OldJournal.{HasOldHeader, IsNotForeign, old_rows, AreOldRows}
use Rattle.old_journal.specs.Reader.{OldView, old_after, counted, Says, HasNextRow, SpellsOnly, HeaderStays}
use Rattle.old_journal.proofs.Headers.{header_by, by_header, header_on}
use Rattle.old_journal.proofs.OpenSlots.{rows_stay}
use Rattle.old_journal.proofs.ReaderPlaces.{none_counted}
use Rattle.store_runs.specs.declared.stop.Stop.{Stop}
use Rattle.store_runs.specs.declared.stop.Stop.TheVariants.{Finished, BadLine, ReadFault, WriteFault, DiskFault, NoMemory, Spent}
use Rattle.store_runs.specs.Carrying.{FailsToAdd, StopsAtEntry, IsLonger, MayCome}
use Rattle.store_runs.proofs.CarriedEntries.{longer_same, longer_more, not_another, not_unlawful, get_none, get_inside, numbered_next}
use Rattle.book_migration.specs.Migrated.{IsBadRow}
use Rattle.book_migration.specs.Migration.{HasNewRow, StopsAtSlot}
use Rattle.book_migration.specs.Carrying.{CarriesPiece, MigrationState, Carried, CarriesOn, StopsCarrying}
use Rattle.book_migration.proofs.CarriedRows.{are_more, spelled_many, bad_row, new_row}

nothing_before : (a b : List (List ℕ)) → a ++ b ≡ [] → a ≡ []
nothing_before [] b is = refl
nothing_before (x ∷ a) b is = absurd cc

-- nothing has come
same_rows : (held : List Entry) (taken now : List ℕ) (before after : MigrationState)
    → Carried held before taken → after.journal ≡ old_after now
    → after.journal.rows ≡ before.journal.rows → IsNotForeign now → old_rows now ≡ old_rows taken
    → after.rows ≡ before.rows → Carried held after now
same_rows held taken now before after stands journal count header same rows = record {
  journal = journal;
  all = record {
    header = header;
    carried = stands.all.carried;
    are = subst (AreOldRows stands.all.carried) (sym same) stands.all.are;
    longer = subst (IsLonger held stands.all.carried) (sym rows) stands.all.longer;
  };
  counted = count ∙ stands.counted;
}

-- a piece that goes on
piece_on : {T : Type 0} (done : T) (held : List Entry) (taken more : List ℕ)
    (before after : MigrationState) (piece : OldPiece) → Carried held before taken
    → after.journal ≡ old_after (taken ++ more)
    → after.journal.rows ≡ counted before.journal.rows piece
    → Says taken (taken ++ more) piece
    → CarriesPiece before.rows after.rows after.journal.rows piece (Ok done)
    → Carried held after (taken ++ more)
piece_on done held taken more before after Part stands journal count says same =
    same_rows held taken (taken ++ more) before after stands journal count says.0 says.1 same.0
piece_on done held taken more before after Header stands journal count says same =
    let stay = rows_stay taken more in
    let none : old_rows taken ≡ [] = nothing_before (old_rows taken) stay.0 (sym stay.1 ∙ says.1) in
    same_rows held taken (taken ++ more) before after stands journal count (λ long. says.0)
    (says.1 ∙ sym none) same.0
piece_on done held taken more before after Over stands journal count says same =
    same_rows held taken (taken ++ more) before after stands journal count
    (λ long. says.0) says.1 same.0
piece_on done held taken more before after Foreign stands journal count says (same, never) = absurd cc
piece_on done held taken more before after (Bad number) stands journal count says (same, never) =
    absurd cc
piece_on done held taken more before after (Row number entry) stands journal count
    (row, next, spells) carries =
    let place : after.journal.rows ≡ length stands.all.carried + 1 = count
    ∙ ap (λ n. n + 1) stands.counted in
    let there = numbered_next before.rows (length stands.all.carried) after.journal.rows place in
    record {
      journal = journal;
      all = record {
        header = λ long. next.header;
        carried = stands.all.carried ++ entry ∷ [];
        are = subst (AreOldRows (stands.all.carried ++ entry ∷ [])) (sym next.rows)
            (are_more stands.all.carried entry
            (old_rows taken) row number stands.all.are next.next spells.spells);
        longer = ⊎_elim
            (λ same. subst (IsLonger held (stands.all.carried ++ entry ∷ [])) (sym same.1)
            (longer_same held stands.all.carried before.rows entry stands.all.longer
            (sym there ∙ same.0)))
            (λ added. subst (IsLonger held (stands.all.carried ++ entry ∷ [])) (sym added.2)
            (longer_more held stands.all.carried before.rows entry stands.all.longer
            (get_none before.rows (length stands.all.carried) (sym there ∙ added.0))))
            carries;
      };
      counted = place ∙ sym (length-append stands.all.carried (entry ∷ []));
    }

-- nothing was carried of another's journal
pub untouched : (held carried rows : List Entry) → IsLonger held carried rows → length carried ≡ 0
    → rows ≡ held
untouched held carried rows (inl (front, is)) none = is
untouched held [] rows (inr (front, is)) none = is ∙ sym (nothing_held held front.0 (sym front.1))
  where
    nothing_held : (a b : List Entry) → a ++ b ≡ [] → a ≡ []
    nothing_held [] b is = refl
    nothing_held (x ∷ a) b is = absurd cc
untouched held (x ∷ carried) rows (inr (front, is)) none = absurd (omega (arith, none))

-- an entry wasn't added
fails_at_slot : (held rows : List Entry) (judged : List ℕ) (entry : Entry) (stop : Stop)
    → HasNewRow held judged rows entry → FailsToAdd entry stop → StopsAtSlot held rows judged stop
fails_at_slot held rows judged entry (DiskFault offer) new fails = (entry, new, fails)
fails_at_slot held rows judged entry NoMemory new fails = (entry, new, fails)
fails_at_slot held rows judged entry Finished new fails = absurd fails
fails_at_slot held rows judged entry (BadLine row) new fails = absurd fails
fails_at_slot held rows judged entry ReadFault new fails = absurd fails
fails_at_slot held rows judged entry WriteFault new fails = absurd fails
fails_at_slot held rows judged entry Spent new fails = absurd fails

-- a piece that stops
module _ (held : List Entry) (taken more : List ℕ) (before : MigrationState) (journal : OldView)
    (stands : Carried held before taken) where
  next_place : journal.rows ≡ before.journal.rows + 1 → journal.rows ≡ length stands.all.carried + 1
  next_place count = count ∙ ap (λ n. n + 1) stands.counted

  -- a row of which nothing may come
  at_bad : (number : ℕ) (row : List ℕ) → journal.rows ≡ before.journal.rows + 1
      → HasNextRow taken (taken ++ more) number row
      → ((entry : Entry) → Spells old_layout row number entry
      → ¬ MayCome (length stands.all.carried) held before.rows entry)
      → StopsAtSlot held before.rows (taken ++ more) (BadLine journal.rows)
  at_bad number row count next bad =
      let same : number ≡ journal.rows =
      omega (
        arith,
        next.next,
        ap length stands.all.are.are,
        spelled_many 1 stands.all.carried,
        next_place count,
      ) in
      inr (subst (λ n. IsBadRow held (taken ++ more) n before.rows) same
      (bad_row held stands.all.carried before.rows taken
      (taken ++ more) number row stands.all.are stands.all.longer next bad))

  -- a row that was to be added
  at_new : (number : ℕ) (entry : Entry) (row : List ℕ) → journal.rows ≡ before.journal.rows + 1
      → HasNextRow taken (taken ++ more) number row → SpellsOnly row number entry
      → entry_numbered before.rows journal.rows ≡ None → IsLawful before.rows entry
      → HasNewRow held (taken ++ more) before.rows entry
  at_new number entry row count next spells none lawful =
      let there = numbered_next before.rows (length stands.all.carried) journal.rows
      (next_place count) in
      new_row held stands.all.carried before.rows taken
      (taken ++ more) number row stands.all.are stands.all.longer next entry spells.spells
      (sym there ∙ none) lawful

  at_row : (number : ℕ) (entry : Entry) (stop : Stop) → journal.rows ≡ before.journal.rows + 1
      → Says taken (taken ++ more) (Row number entry)
      → StopsAtEntry before.rows journal.rows entry stop
      → StopsAtSlot held before.rows (taken ++ more) stop
  at_row number entry stop count (row, next, spells) (inl (is, refuses)) =
      let there = numbered_next before.rows (length stands.all.carried) journal.rows
      (next_place count) in
      let never : ¬ MayCome (length stands.all.carried) held before.rows entry = ⊎_elim
      (λ other. not_another held stands.all.carried before.rows entry other.0 stands.all.longer
      (sym there ∙ other.1) other.2)
      (λ none. not_unlawful held stands.all.carried before.rows entry stands.all.longer
      (sym there ∙ none.0) none.1)
      refuses in
      subst (StopsAtSlot held before.rows (taken ++ more)) (sym is)
      (at_bad number row count next (λ other spelled may. never
      (subst (MayCome (length stands.all.carried) held before.rows)
      (spells.only other spelled) may)))
  at_row number entry stop count (row, next, spells) (inr (none, lawful, fails)) =
      fails_at_slot held before.rows (taken ++ more) entry stop
      (at_new number entry row count next spells none lawful) fails

  at_foreign : Says taken (taken ++ more) Foreign
      → StopsAtSlot held before.rows (taken ++ more) (BadLine 0)
  at_foreign foreign =
      let none : ¬ HasOldHeader taken =
      λ has. foreign [] (stay (taken ++ more) [] (stay taken more has)) in
      let nothing : length stands.all.carried ≡ 0 = sym stands.counted
      ∙ ap (λ v. v.rows) stands.journal ∙ none_counted taken none in
      inl (refl, foreign, untouched held stands.all.carried before.rows stands.all.longer nothing)
    where
      stay : HeaderStays
      stay = λ bytes more has. header_by (bytes ++ more)
          (omega (arith, has.long, length-append bytes more))
          (header_on bytes more has.long ∙ by_header bytes has)

  piece_stops : (T : Type 0) (now : List Entry) (piece : OldPiece) (stop : Stop)
      → journal.rows ≡ counted before.journal.rows piece → Says taken (taken ++ more) piece
      → CarriesPiece {T = T} before.rows now journal.rows piece (Err stop)
      → StopsAtSlot held now (taken ++ more) stop
  piece_stops T now (Row number entry) stop count says (same, stops) =
      subst (λ es. StopsAtSlot held es (taken ++ more) stop) (sym same)
      (at_row number entry stop count says stops)
  piece_stops T now (Bad number) stop count (row, next, none) (same, bad) =
      let is : stop ≡ BadLine journal.rows = cc bad in
      subst (λ es. StopsAtSlot held es (taken ++ more) stop) (sym same)
      (subst (StopsAtSlot held before.rows (taken ++ more)) (sym is)
      (at_bad number row count next (λ other spelled may. none other spelled)))
  piece_stops T now Foreign stop count foreign (same, bad) =
      let is : stop ≡ BadLine 0 = cc bad in
      subst (λ es. StopsAtSlot held es (taken ++ more) stop) (sym same)
      (subst (StopsAtSlot held before.rows (taken ++ more)) (sym is) (at_foreign foreign))
  piece_stops T now Part stop count says (same, never) = absurd cc
  piece_stops T now Header stop count says (same, never) = absurd cc
  piece_stops T now Over stop count says (same, never) = absurd cc

-- the slot of some bytes
pub slot_on : {T : Type 0} (done : T) (before after : MigrationState) (bytes : List ℕ) (count : ℕ)
    (piece : OldPiece) → after.journal.rows ≡ counted before.journal.rows piece
    → ((taken : List ℕ) → before.journal ≡ old_after taken
    → after.journal ≡ old_after (taken ++ take count bytes))
    → ((taken : List ℕ) → before.journal ≡ old_after taken
    → Says taken (taken ++ take count bytes) piece)
    → CarriesPiece before.rows after.rows after.journal.rows piece (Ok done)
    → CarriesOn before after (take count bytes)
slot_on done before after bytes count piece rows journal says carries = λ held taken stands.
    piece_on done held taken (take count bytes) before after piece stands
    (journal taken stands.journal) rows (says taken stands.journal) carries

pub slot_stops : (T : Type 0) (before : MigrationState) (journal : OldView) (rows : List Entry)
    (bytes : List ℕ) (count : ℕ) (piece : OldPiece) (stop : Stop) → 0 < count → count ≤ length bytes
    → journal.rows ≡ counted before.journal.rows piece
    → ((taken : List ℕ) → before.journal ≡ old_after taken
    → Says taken (taken ++ take count bytes) piece)
    → CarriesPiece {T = T} before.rows rows journal.rows piece (Err stop)
    → StopsCarrying before rows bytes stop
slot_stops T before journal rows bytes count piece stop some within number says stops = record {
  judged = take count bytes;
  rest = drop count bytes;
  parts = sym (take-append-drop count bytes);
  some = omega (arith, some, length-take-le count bytes within);
  stops = λ held taken stands. piece_stops held taken
      (take count bytes) before journal stands T rows piece stop number
      (says taken stands.journal) stops;
}

-- the reader has no more rows than the book
pub few_on : {T : Type 0} (done : T) (before after : List Entry) (r n : ℕ) (piece : OldPiece)
    → r ≤ length before → n ≡ counted r piece → CarriesPiece before after n piece (Ok done)
    → n ≤ length after
few_on done before after r n Part few is same = omega (arith, few, is, ap length same.0)
few_on done before after r n Header few is same = omega (arith, few, is, ap length same.0)
few_on done before after r n Over few is same = omega (arith, few, is, ap length same.0)
few_on done before after r n Foreign few is (same, never) = absurd cc
few_on done before after r n (Bad number) few is (same, never) = absurd cc
few_on done before after r n (Row number entry) few is (inl (there, same)) =
    omega (
      arith,
      is,
      ap length same,
      get_inside before r entry (sym (numbered_next before r n is) ∙ there),
    )
few_on done before after r n (Row number entry) few is (inr (none, lawful, added)) =
    omega (arith, is, few, ap length added, length-append before (entry ∷ []))

-- ---- many slots

-- two steps are one
pub carries_both : (a b c : MigrationState) (first next : List ℕ) → CarriesOn a b first
    → CarriesOn b c next → CarriesOn a c (first ++ next)
carries_both a b c first next one two = λ held taken stands.
    subst (Carried held c) (append_assoc taken first next)
    (two held (taken ++ first) (one held taken stands))

-- a step that stops, behind one that didn't
pub stops_behind_step : (a b : MigrationState) (rows : List Entry) (first next : List ℕ)
    (stop : Stop) → CarriesOn a b first → StopsCarrying b rows next stop
    → StopsCarrying a rows (first ++ next) stop
stops_behind_step a b rows first next stop one two = record {
  judged = first ++ two.judged;
  rest = two.rest;
  parts = ap (λ (bytes : List ℕ). first ++ bytes) two.parts
      ∙ sym (append_assoc first two.judged two.rest);
  some = omega (arith, two.some, length-append first two.judged);
  stops = λ held taken stands.
      subst (λ (bytes : List ℕ). StopsAtSlot held rows bytes stop)
      (append_assoc taken first two.judged)
      (two.stops held (taken ++ first) (one held taken stands));
}

-- nothing was taken
pub carries_nothing : (state : MigrationState) → CarriesOn state state []
carries_nothing state = λ held taken stands. subst (Carried held state) (sym (append-nil taken)) stands

-- all but a rest of a piece was carried
pub record CarriedOver (before now : MigrationState) (piece rest : List ℕ) : Type 0 where
  pub first : List ℕ
  pub parts : piece ≡ first ++ rest
  pub on : CarriesOn before now first

pub over_more : (before now next : MigrationState) (piece rest part after : List ℕ)
    → CarriedOver before now piece rest → rest ≡ part ++ after → CarriesOn now next part
    → CarriedOver before next piece after
over_more before now next piece rest part after over parts on = record {
  first = over.first ++ part;
  parts = over.parts ∙ ap (λ (bytes : List ℕ). over.first ++ bytes) parts
      ∙ sym (append_assoc over.first part after);
  on = carries_both before now next over.first part over.on on;
}

-- nothing of it is left
pub over_all : (before now : MigrationState) (piece rest : List ℕ)
    → CarriedOver before now piece rest → length rest ≡ 0 → CarriesOn before now piece
over_all before now piece rest over none =
    subst (CarriesOn before now) (sym
    (over.parts ∙ ap (λ (bytes : List ℕ). over.first ++ bytes) (nil_from_length rest none)
    ∙ append-nil over.first)) over.on
