-- What a mounted journal is as a store.
use Rattle.std.proofs.Common.{◌≡◌, ◌⊎◌, inl, inr, ⊎_elim, ℕ, ◌+◌, ◌-◌, ◌<◌, ◌≤◌, List, ◌++◌, length, Option, Some, None, Result, Ok, Err, IfOk, IfErr, MatchResult, refl, sym, ◌∙◌, ap, subst, arith}
use Rattle.hall_limits.specs.declared.TheConstants.{MAX_ROWS}
use Rattle.device_facts.specs.Count.{Counted}
use Rattle.disk_core.specs.Disk.{WhereTold}
use Rattle.disk_core.specs.Devices.{IsUnmoved}
use Rattle.disk_core.specs.declared.disk.Disk as disk
use Rattle.book_words.specs.declared.act.Entry.{Entry}
use Rattle.book_words.specs.Answers.{IsLegal}
use Rattle.book_snapshot.specs.declared.types.Kept.{Kept}
use Rattle.book_snapshot.specs.Blocks.{EndsWithSnapshot}
use Rattle.book_journal.specs.declared.layout.TheConstants.{MAX_SLOTS, NEW_BYTES}
use Rattle.book_journal.specs.declared.journal.Journal.{Journal}
use Rattle.book_journal.specs.declared.types.JournalFault.{JournalFault}
use Rattle.book_journal.specs.declared.types.JournalFault.TheVariants as fault
use Rattle.book_journal.specs.Rows.{HasHeader, FitsSnapshot, FirstDiffersAt, Recovers, gate_behind}
use Rattle.book_journal.specs.Journal as journals
use Rattle.book_journal.specs.Mounting as mounting
use Rattle.book_journal.specs.Opening.{HasMounted, RecoversRows}
use Rattle.book_journal.proofs.AskedBytes.{one_fits}
use Rattle.book_journal.proofs.Fronts.{no_header}
use Rattle.book_journal.proofs.Moments.{unmoved_none}
use Rattle.book_mount.specs.declared.types.MountError.{MountError}
use Rattle.book_mount.specs.declared.types.MountError.TheVariants.{NotJournal, Damaged, DiskFault, NoMemory}
use Rattle.book_mount.specs.declared.types.Unmounted.{Unmounted}
use Rattle.book_store.specs.declared.store.Store.{Store}
use Rattle.book_mount.specs.Causes.{cause_of}
use Rattle.book_store.specs.Images.{spelled, CanAllBeSpelled, HoldsBook}
use Rattle.book_mount.specs.Listing.{Lists, IsOpenedAs, IsDamagedAt, snapshot_rows}
use Rattle.book_store.specs.Kept.{CrashLeaves, HasKept}
use Rattle.book_mount.specs.Mounting.{HasHeld, IsCauseOf, IsPassing, KeepsHeld, ReadsClosed, ReadsMounted, opening_bytes}
use Rattle.book_mount.specs.Opening.{IsReadable, rows_there, slots_from, StandsAtEnd, Stops, CountsRefusal, Opens, reading_cost}
use Rattle.book_store.specs.Stores.{journal_of, disk_of, entries_of, held_of, Hangs, IsSound}
use Rattle.book_store.proofs.KeptLemmas.{same_begins, leaves_front, keeps_in}
use Rattle.book_mount.proofs.Exits.{count_kept}
use Rattle.book_mount.proofs.ListedRows.{recovered_listed, slots_read, snapshot_same, closed_long, counts_first}
use Rattle.book_mount.proofs.OpenedRows.{listed, opened_as, damaged_at, read_same, not_damaged, legal_few, length_spelled}
use Rattle.book_mount.proofs.Walks.{slots_none}

-- what stands at the end of some bytes stands there still
still_ends : (kept : Option Kept) (bytes now : List ℕ) → mounting.IsSnapshotOf bytes kept
    → ((found : Kept) → kept ≡ Some found → now ≡ bytes) → StandsAtEnd kept now
still_ends None bytes now of still = tt
still_ends (Some kept) bytes now of still =
    subst (λ (l : List ℕ). EndsWithSnapshot kept.rows kept.bytes l) (sym (still kept refl)) of.ends

-- opening behind a snapshot asks for few bytes
cost_of : (kept : Kept) (count : ℕ)
    → mounting.opening_cost (Some kept) count + reading_cost (Some kept) count
    ≤ opening_bytes kept.rows kept.bytes count
cost_of kept count = omega arith

cost_within : (kept : Option Kept) (count rows size : ℕ) (bytes : List ℕ)
    → mounting.IsSnapshotOf bytes kept → FitsSnapshot rows size bytes
    → mounting.opening_cost kept count + reading_cost kept count ≤ opening_bytes rows size count
cost_within None count rows size bytes of fits = absurd (of rows size fits)
cost_within (Some kept) count rows size bytes of fits =
    let same = one_fits kept.rows kept.bytes rows size bytes of.ends fits.ends in
    subst (λ (n : ℕ). mounting.opening_cost (Some kept) count + reading_cost (Some kept) count
    ≤ opening_bytes n size count) same.0
    (subst (λ (n : ℕ). mounting.opening_cost (Some kept) count + reading_cost (Some kept) count
    ≤ opening_bytes kept.rows n count) same.1 (cost_of kept count))

rows_of_fitting : (kept : Option Kept) (bytes : List ℕ) (rows size : ℕ)
    → mounting.IsSnapshotOf bytes kept → FitsSnapshot rows size bytes
    → mounting.rows_before kept ≡ rows
rows_of_fitting None bytes rows size of fits = absurd (of rows size fits)
rows_of_fitting (Some kept) bytes rows size of fits =
    (one_fits kept.rows kept.bytes rows size bytes of.ends fits.ends).0

-- a disk that recovers rows is a journal, or short
not_foreign : (bytes : List ℕ) (rows : List (List ℕ)) (place : ℕ) → Recovers bytes rows
    → NEW_BYTES < length bytes → FirstDiffersAt bytes place → ⊥
not_foreign bytes rows place (inl is) long differs = no_header bytes place differs is.header
not_foreign bytes rows place (inr short) long differs = absurd (omega (arith, short.0, long))

-- a disk that lists damage has the header
lists_damage : (bytes : List ℕ) (row : ℕ) → ¬ HasHeader bytes → IsDamagedAt bytes row → ⊥
lists_damage bytes row foreign damaged = of damaged.listed
  where
    of : Lists bytes damaged.rows → ⊥
    of (inl lists) = foreign lists.header
    of (inr none) = absurd (omega (arith, damaged.inside, damaged.number, ap length none.none))

spelled_few : (entries : List Entry) → IsLegal entries → length (spelled entries) ≤ MAX_ROWS
spelled_few entries legal = omega (arith, length_spelled 1 entries, legal_few entries legal)

module _ {D : Type 0} (g : disk.Ghosts D) where
  -- what was kept since a sync is kept by calls that only read
  keeps_on : (old mid new : D) (P Q : List ℕ → Type 0)
      → ((d : D) (t : ℕ) (c : List ℕ) → t ≤ g.time d → g.image d c → g.since d t c)
      → mounting.KeepsFromSync g old mid P → IsUnmoved g mid new → ((c : List ℕ) → P c → Q c)
      → mounting.KeepsFromSync g old new Q
  keeps_on old mid new P Q counts_now keeps unmoved more =
      let moments = unmoved.moments in
      let now : (c : List ℕ) → g.image mid c → Q c =
      λ c is. more c (keeps.each c (counts_now mid keeps.synced c keeps.before is)) in
      record {
        synced = keeps.synced;
        after = keeps.after;
        before = omega (arith, keeps.before, moments.later);
        each = λ c was. ⊎_elim (λ past. more c (keeps.each c past)) (λ is. now c is)
            (moments.nothing_else keeps.synced c keeps.before was);
        handed_in = λ c was. ⊎_elim
            (λ past. ⊎_elim (λ image. inl image) (λ is. inr (more c is)) (keeps.handed_in c past))
            (λ is. inr (now c is))
            (moments.nothing_else (g.time old) c (omega (arith, keeps.after, keeps.before)) was);
        earlier = λ t c le was. ⊎_elim
            (λ past. ⊎_elim (λ since. inl since) (λ is. inr (more c is)) (keeps.earlier t c le past))
            (λ is. inr (now c is))
            (moments.nothing_else t c (omega (arith, le, keeps.after, keeps.before)) was);
      }

  -- what is read of a mounted journal, and what it lists
  record IsThere (bytes : List ℕ) (journal : Journal D) : Type 0 where
    pub now : List ℕ
    pub told : g.reads (journals.disk_of journal) ≡ Some now
    pub readable : IsReadable (journals.kept_of journal) (journals.count_of journal) now
    pub lists : Lists bytes (rows_there (journals.kept_of journal) (journals.count_of journal) now)

  there : (bytes : List ℕ) (journal : Journal D) → journals.count_of journal ≤ MAX_SLOTS
      → HasMounted g bytes journal → IsThere bytes journal
  there bytes journal most (inl finds) =
      let kept = journals.kept_of journal in
      let count = journals.count_of journal in
      let now = mounting.closed_behind (journals.count_of journal) bytes in
      record {
        now = mounting.closed_behind (journals.count_of journal) bytes;
        told = finds.reads;
        readable = record {
          ends = still_ends kept bytes now finds.snapshot finds.still;
          counted = counts_first bytes kept count finds.header finds.snapshot finds.slots most;
          long = closed_long bytes kept count finds.header finds.snapshot finds.slots most;
        };
        lists = inl (record {
          header = finds.header;
          kept = journals.kept_of journal;
          snapshot = finds.snapshot;
          are = ap (λ (l : List (Option (List ℕ))). l
              ++ slots_from (journals.count_of journal
              - mounting.rows_before (journals.kept_of journal))
              (mounting.rows_before (journals.kept_of journal) + 1)
              (mounting.closed_behind (journals.count_of journal) bytes))
              (snapshot_same kept bytes now finds.still)
              ∙ ap (λ (l : List (Option (List ℕ))). snapshot_rows (journals.kept_of journal) bytes
              ++ l) (slots_read bytes kept count finds.header finds.snapshot finds.slots most);
        });
      }
  there bytes journal most (inr makes) = record {
    now = mounting.new_journal;
    told = makes.reads;
    readable = record {
      ends = subst (λ (kept : Option Kept). StandsAtEnd kept mounting.new_journal)
          (sym makes.snapshot) tt;
      counted = subst (λ (kept : Option Kept). mounting.rows_before kept
          ≤ journals.count_of journal) (sym makes.snapshot) (omega arith);
      long = subst (λ (n : ℕ). gate_behind n ≤ length mounting.new_journal) (sym makes.slots)
          (omega arith);
    };
    lists = inr (record {
      foreign = makes.foreign;
      short = makes.short;
      none = ap (λ (kept : Option Kept). rows_there kept
          (journals.count_of journal) mounting.new_journal) makes.snapshot
          ∙ ap (λ (n : ℕ). rows_there None n mounting.new_journal) makes.slots
          ∙ slots_none 0 0 mounting.new_journal (omega arith);
    });
  }

  -- a store that was opened
  pub opened : (journal : Journal D) (limit : ℕ) (result : Result (Store D) (Unmounted D))
      (bytes : List ℕ) → journals.count_of journal ≤ MAX_SLOTS → HasMounted g bytes journal
      → Opens g journal limit result → IfOk result (λ store. IsOpenedAs bytes (entries_of store))
  opened journal limit (Ok store) bytes most mounted opens =
      let is = there bytes journal most mounted in
      opened_as bytes _ (entries_of store) is.lists (opens.listed is.now is.told is.readable)
  opened journal limit (Err refused) bytes most mounted opens = tt

  pub sound : (journal : Journal D) (limit : ℕ) (result : Result (Store D) (Unmounted D))
      → limit ≤ MAX_ROWS → (journals.count_of journal ≤ MAX_ROWS → journals.IsSound g journal)
      → Opens g journal limit result → IfOk result (λ store. IsSound g store)
  sound journal limit (Ok store) most is opens = record {
    journal = opens.read.sound (is
        (omega (arith, opens.count, legal_few (entries_of store) opens.legal)));
    count = count_kept g journal (journal_of store) opens.read ∙ opens.count;
    legal = opens.legal;
    most = subst (λ (n : ℕ). n ≤ MAX_ROWS) (sym opens.limited) most;
  }
  sound journal limit (Err refused) most is opens = tt

  pub counted : (journal : Journal D) (limit : ℕ) (result : Result (Store D) (Unmounted D))
      → Opens g journal limit result
      → IfOk result (λ store. held_of store ≡ length (entries_of store))
  counted journal limit (Ok store) opens = opens.held
  counted journal limit (Err refused) opens = tt

  still_reads : (kept : Option Kept) (bytes now : List ℕ) (rows size : ℕ)
      → mounting.IsSnapshotOf bytes kept → ((found : Kept) → kept ≡ Some found → now ≡ bytes)
      → FitsSnapshot rows size bytes → now ≡ bytes
  still_reads None bytes now rows size of still fits = absurd (of rows size fits)
  still_reads (Some kept) bytes now rows size of still fits = still kept refl

  -- where a snapshot fits, nothing is written
  pub unwritten : (journal : Journal D) (limit : ℕ) (result : Result (Store D) (Unmounted D))
      (bytes : List ℕ) (rows size : ℕ) → HasMounted g bytes journal
      → FitsSnapshot rows size bytes → Opens g journal limit result
      → IfOk result (λ store. g.reads (disk_of store) ≡ Some bytes)
  unwritten journal limit (Ok store) bytes rows size (inl finds) fits opens =
      opens.read.unmoved.reads ∙ finds.reads
      ∙ ap (λ (l : List ℕ). Some l) (still_reads (journals.kept_of journal) bytes
      (mounting.closed_behind (journals.count_of journal) bytes) rows size finds.snapshot
      finds.still fits)
  unwritten journal limit (Ok store) bytes rows size (inr makes) fits opens =
      absurd (makes.foreign fits.header)
  unwritten journal limit (Err refused) bytes rows size mounted fits opens = tt

  asked_of : (old : D) (journal : Journal D) (limit : ℕ) (store : Store D) (bytes : List ℕ)
      (rows size : ℕ) → HasMounted g bytes journal
      → g.asked (journals.disk_of journal) ≤ g.asked old
      + mounting.opening_cost (journals.kept_of journal) (journals.count_of journal)
      → FitsSnapshot rows size bytes → Opens g journal limit (Ok store)
      → g.asked (disk_of store) ≤ g.asked old
      + opening_bytes rows size (journals.count_of journal)
  asked_of old journal limit store bytes rows size (inl finds) cost fits opens =
      omega (
        arith,
        cost,
        opens.asked,
        cost_within (journals.kept_of journal)
            (journals.count_of journal) rows size bytes finds.snapshot fits,
      )
  asked_of old journal limit store bytes rows size (inr makes) cost fits opens =
      absurd (makes.foreign fits.header)

  pub asked : (old : D) (journal : Journal D) (limit : ℕ) (result : Result (Store D) (Unmounted D))
      (bytes : List ℕ) (rows size : ℕ) → HasMounted g bytes journal
      → g.asked (journals.disk_of journal) ≤ g.asked old
      + mounting.opening_cost (journals.kept_of journal) (journals.count_of journal)
      → FitsSnapshot rows size bytes → Opens g journal limit result
      → IfOk result (λ store. g.asked (disk_of store) ≤ g.asked old
      + opening_bytes rows size (length (entries_of store)))
  asked old journal limit (Ok store) bytes rows size mounted cost fits opens =
      subst (λ (n : ℕ). g.asked (disk_of store) ≤ g.asked old + opening_bytes rows size n)
      opens.count (asked_of old journal limit store bytes rows size mounted cost fits opens)
  asked old journal limit (Err refused) bytes rows size mounted cost fits opens = tt

  -- and what was asked of one that isn't opened
  pub asked_refused : (old : D) (journal : Journal D) (limit : ℕ)
      (result : Result (Store D) (Unmounted D)) (bytes : List ℕ) (rows size : ℕ)
      → HasMounted g bytes journal
      → g.asked (journals.disk_of journal) ≤ g.asked old
      + mounting.opening_cost (journals.kept_of journal) (journals.count_of journal)
      → FitsSnapshot rows size bytes → Opens g journal limit result
      → IfErr result (λ refused. g.asked refused.disk ≤ g.asked old
      + opening_bytes rows size (rows + mounting.slots_behind rows bytes))
  asked_refused old journal limit (Ok store) bytes rows size mounted cost fits opens = tt
  asked_refused old journal limit (Err refused) bytes rows size (inl finds) cost fits opens =
      subst (λ (n : ℕ). g.asked refused.disk ≤ g.asked old + opening_bytes rows size n)
      (finds.slots ∙ ap (λ (n : ℕ). n + mounting.slots_behind n bytes)
      (rows_of_fitting (journals.kept_of journal) bytes rows size finds.snapshot fits))
      (omega (
        arith,
        cost,
        opens.asked,
        cost_within (journals.kept_of journal)
            (journals.count_of journal) rows size bytes finds.snapshot fits,
      ))
  asked_refused old journal limit (Err refused) bytes rows size (inr makes) cost fits opens =
      absurd (makes.foreign fits.header)

  -- a disk that wasn't even a journal
  pub asked_unopened : (old new : D) (bytes : List ℕ) (rows size : ℕ)
      → mounting.AsksFew bytes (g.asked old) (g.asked new) → FitsSnapshot rows size bytes
      → g.asked new ≤ g.asked old + opening_bytes rows size (rows + mounting.slots_behind rows bytes)
  asked_unopened old new bytes rows size few fits = let most =
      few (Some (record { rows = rows; bytes = size })) fits in omega (arith, most)

  -- a journal that was mounted reads what it did, but for the gate behind its rows, or is a new one
  read_mounted : (journal : Journal D) (bytes : List ℕ) (new : D)
      → g.reads new ≡ g.reads (journals.disk_of journal) → HasMounted g bytes journal
      → ReadsMounted g bytes new
  read_mounted journal bytes new same (inl finds) =
      inl (record {
        kept = journals.kept_of journal;
        snapshot = finds.snapshot;
        reads = same ∙ finds.reads ∙ ap (λ (n : ℕ). Some (mounting.closed_behind n bytes)) finds.slots;
      })
  read_mounted journal bytes new same (inr makes) =
      inr (record { foreign = makes.foreign; short = makes.short; reads = same ∙ makes.reads })

  -- one with a damaged row isn't new
  closed : (journal : Journal D) (bytes : List ℕ) (row : ℕ) (new : D)
      → IsUnmoved g (journals.disk_of journal) new → HasMounted g bytes journal
      → IsDamagedAt bytes row → ReadsClosed g bytes new
  closed journal bytes row new unmoved mounted damaged = ⊎_elim
      (λ reads. reads)
      (λ made. absurd (lists_damage bytes row made.foreign damaged))
      (read_mounted journal bytes new unmoved.reads mounted)

  -- what the disk of a store reads
  pub reads_mounted : (journal : Journal D) (limit : ℕ) (result : Result (Store D) (Unmounted D))
      (bytes : List ℕ) → HasMounted g bytes journal → Opens g journal limit result
      → IfOk result (λ store. ReadsMounted g bytes (disk_of store))
  reads_mounted journal limit (Ok store) bytes mounted opens =
      read_mounted journal bytes (disk_of store) opens.read.unmoved.reads mounted
  reads_mounted journal limit (Err refused) bytes mounted opens = tt

  module _ (old : D) (journal : Journal D) (most : journals.count_of journal ≤ MAX_SLOTS)
      (mounted : WhereTold (g.reads old) (λ bytes. HasMounted g bytes journal)) where
    cause_by : (why : MountError) (new : D) → g.faults (journals.disk_of journal) ≡ g.faults old
        → IsUnmoved g (journals.disk_of journal) new
        → CountsRefusal (g.faults (journals.disk_of journal)) (g.faults new) why
        → WhereTold (g.reads (journals.disk_of journal))
        (λ bytes. IsReadable (journals.kept_of journal) (journals.count_of journal) bytes
        → Stops (rows_there (journals.kept_of journal) (journals.count_of journal) bytes) why)
        → IsCauseOf g why old new
    cause_by (NotJournal place) new calm unmoved counts stops = absurd counts
    cause_by (Damaged row) new calm unmoved counts stops = (
      λ bytes told.
          let is = there bytes journal most (mounted bytes told) in
          let damaged = damaged_at bytes _ row is.lists (stops is.now is.told is.readable) in
          (damaged, closed journal bytes row new unmoved (mounted bytes told) damaged),
      counts ∙ calm,
    )
    cause_by DiskFault new calm unmoved counts stops =
        subst (λ (n : ℕ). Counted n (g.faults new) 1) calm counts
    cause_by NoMemory new calm unmoved counts stops = (
      inr (λ bytes told. read_mounted journal bytes new unmoved.reads (mounted bytes told)),
      counts ∙ calm,
    )

    pub caused : (limit : ℕ) (result : Result (Store D) (Unmounted D))
        → g.faults (journals.disk_of journal) ≡ g.faults old → Opens g journal limit result
        → MatchResult result (λ store. g.faults (disk_of store) ≡ g.faults old)
        (λ refused. IsCauseOf g refused.why old refused.disk)
    caused limit (Ok store) calm opens = opens.calm ∙ calm
    caused limit (Err refused) calm opens =
        cause_by refused.why refused.disk calm opens.unmoved opens.counts opens.stops

    passing_by : (why : MountError) (before now : ℕ) (rows : List (Option (List ℕ)))
        (entries : List Entry) → CanAllBeSpelled entries → IsLegal entries
        → rows ≡ listed (spelled entries)
        → CountsRefusal before now why → Stops rows why → IsPassing why
    passing_by (NotJournal place) before now rows entries can legal are counts stops = absurd counts
    passing_by (Damaged row) before now rows entries can legal are counts stops =
        absurd (not_damaged rows entries row can legal are stops)
    passing_by DiskFault before now rows entries can legal are counts stops = tt
    passing_by NoMemory before now rows entries can legal are counts stops = tt

    pub held : (limit : ℕ) (result : Result (Store D) (Unmounted D)) (bytes : List ℕ)
        (entries : List Entry) → ((d : D) (t : ℕ) (c : List ℕ) → t ≤ g.time d → g.image d c
        → g.since d t c)
        → g.reads old ≡ Some bytes → HoldsBook entries bytes → IsLegal entries
        → (journals.Hangs journal → ⊥)
        → ((rows : List (List ℕ)) → Recovers bytes rows → length rows ≤ MAX_ROWS
        → RecoversRows g old journal rows)
        → Opens g journal limit result → KeepsHeld g old entries result
    held limit (Ok store) bytes entries counts_now told holds legal calm recovers opens =
        let few = spelled_few entries legal in
        let is = there bytes journal most (mounted bytes told) in
        let are = recovered_listed bytes (spelled entries) _ holds.rows few is.lists in
        let keeps = recovers (spelled entries) holds.rows few in
        let read = opens.listed is.now is.told is.readable in
        let same : entries_of store ≡ entries =
        read_same _ (entries_of store) entries holds.can are read in
        record {
          same = same;
          has = record {
            rows = subst (λ (l : List Entry). journals.HasRows g (journal_of store) (spelled l))
                (sym same) (opens.read.rows (spelled entries) keeps.has);
            can = read.can;
            hung = λ hangs. absurd
                (calm (subst (λ (j : Journal D). journals.Hangs j) opens.read.same hangs));
          };
          moments = keeps_on old (journals.disk_of journal) (disk_of store)
              (λ c. Recovers c (spelled entries))
              (HoldsBook entries) counts_now keeps.moments opens.read.unmoved
              (λ c rows. record { rows = rows; can = holds.can });
        }
    held limit (Err refused) bytes entries counts_now told holds legal calm recovers opens =
        let few = spelled_few entries legal in
        let is = there bytes journal most (mounted bytes told) in
        let are = recovered_listed bytes (spelled entries) _ holds.rows few is.lists in
        let keeps = recovers (spelled entries) holds.rows few in (
          passing_by refused.why _ _ _ entries holds.can legal are opens.counts
              (opens.stops is.now is.told is.readable),
          inl (keeps_on old (journals.disk_of journal) refused.disk
              (λ c. Recovers c (spelled entries))
              (HoldsBook entries) counts_now keeps.moments opens.unmoved
              (λ c rows. record { rows = rows; can = holds.can })),
        )

  -- a journal that isn't mounted
  cause_journal : (why : JournalFault) (old new : D) → mounting.IsCauseOf g why old new
      → IsCauseOf g (cause_of why) old new
  cause_journal fault.Failed old new is = is
  cause_journal (fault.NotJournal place) old new is = (
    λ bytes told. let named = is.named bytes told in
        record { long = named.0; differs = named.1 },
    is.calm,
    is.unmoved,
  )

  pub refused_cause : (why : JournalFault) (error : MountError) (old new : D) → error ≡ cause_of why
      → mounting.IsCauseOf g why old new → IsCauseOf g error old new
  refused_cause why error old new is caused =
      subst (λ (e : MountError). IsCauseOf g e old new) (sym is) (cause_journal why old new caused)

  passing_journal : (why : JournalFault) (old new : D) (bytes : List ℕ) (rows : List (List ℕ))
      → g.reads old ≡ Some bytes → Recovers bytes rows → mounting.IsCauseOf g why old new
      → IsPassing (cause_of why)
  passing_journal fault.Failed old new bytes rows told recovers is = tt
  passing_journal (fault.NotJournal place) old new bytes rows told recovers is = let named =
      is.named bytes told in absurd (not_foreign bytes rows place recovers named.0 named.1)

  pub refused_held : (why : JournalFault) (error : MountError) (old new : D) (bytes : List ℕ)
      (entries : List Entry) → ((d : D) (t : ℕ) (c : List ℕ) → t ≤ g.time d → g.image d c
      → g.since d t c)
      → error ≡ cause_of why → g.reads old ≡ Some bytes → HoldsBook entries bytes → IsLegal entries
      → mounting.IsCauseOf g why old new
      → ((rows : List (List ℕ)) → Recovers bytes rows → length rows ≤ MAX_ROWS
      → mounting.KeepsFromSync g old new (λ c. Recovers c rows) ⊎ IsUnmoved g old new)
      → IsPassing error × (mounting.KeepsFromSync g old new (HoldsBook entries) ⊎ IsUnmoved g old new)
  refused_held why error old new bytes entries counts_now is told holds legal caused recovers = (
    subst (λ (e : MountError). IsPassing e) (sym is)
        (passing_journal why old new bytes (spelled entries) told holds.rows caused),
    ⊎_elim
        (λ keeps. inl (keeps_on old new new (λ c. Recovers c (spelled entries))
        (HoldsBook entries) counts_now keeps (unmoved_none g new)
        (λ c rows. record { rows = rows; can = holds.can })))
        (λ unmoved. inr unmoved)
        (recovers (spelled entries) holds.rows (spelled_few entries legal)),
  )

  -- a store that was just mounted
  pub kept_mounted : ((disk : D) (t : ℕ) (c : List ℕ) → t ≤ g.time disk → g.image disk c
      → g.since disk t c) → (before : List Entry) (start : D) (store : Store D)
      → HasHeld g start before store → ¬ Hangs store
      → HasKept g before start None store
  kept_mounted counts_now before start store was calm =
      record {
        has = was.has;
        begins = same_begins before (entries_of store) was.same;
        hung = λ entry hangs. absurd (calm hangs.row.hangs);
        moments = keeps_in g start (disk_of store) (HoldsBook before) (CrashLeaves before (entries_of store))
            (λ c holds. leaves_front before before (entries_of store) c (same_begins before before refl)
            (same_begins before (entries_of store) was.same) holds) was.moments;
        images = λ c image. inl (subst (λ (es : List Entry). HoldsBook es c) (sym was.same)
            (was.moments.each c (counts_now
            (disk_of store) was.moments.synced c was.moments.before image)));
      }
