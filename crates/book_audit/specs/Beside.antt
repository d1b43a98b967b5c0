-- The snapshot beside the slots, compared with what they give.
use Rattle.std.specs.Prelude.{◌≡◌, ℕ, ◌+◌, ◌≤◌, List, length, take, Option, Some, None}
use Rattle.device_facts.specs.Prefix.{IsPrefixOf}
use Rattle.book_words.specs.declared.act.Entry.{Entry}
use Rattle.book_snapshot.specs.declared.types.Kept.{Kept}
use Rattle.book_snapshot.specs.Blocks.{snapshot_content}
use Rattle.book_journal.specs.Mounting.{IsSnapshotOf}
use Rattle.book_store.specs.Resting.{book_content}
use Rattle.book_audit.specs.declared.beside.Agreed.{Agreed}
use Rattle.book_audit.specs.declared.types.Beside.{Beside}
use Rattle.book_audit.specs.declared.types.Beside.TheVariants as beside

-- a snapshot that says it holds so many rows, and has this content, holds the first so many of these
-- entries
pub record AgreesTo (entries : List Entry) (says : ℕ) (held : List ℕ)
    (count : ℕ) : Type 0 where
  pub given : count ≤ length entries
  pub said : count ≤ says
  pub begins : IsPrefixOf (book_content (take count entries)) held

-- it holds these entries and nothing else
pub record IsSame (entries : List Entry) (says : ℕ) (held : List ℕ) : Type 0 where
  pub count : says ≡ length entries
  pub content : held ≡ book_content entries

-- it doesn't, and the first row that one of both lacks, or that they have otherwise, is this one
pub record DiffersAt (entries : List Entry) (says : ℕ) (held : List ℕ) (row : ℕ) : Type 0 where
  pub before : ℕ
  pub next : row ≡ before + 1
  pub agrees : AgreesTo entries says held before
  pub no_further : ¬ AgreesTo entries says held row
  pub other : ¬ IsSame entries says held

-- how it compares
abbrev pub IsBeside : List Entry → ℕ → List ℕ → Beside → Type 0
IsBeside entries says held beside.None = ⊥
IsBeside entries says held beside.Same = IsSame entries says held
IsBeside entries says held (beside.Differs row rows) =
    DiffersAt entries says held row × (rows ≡ says)

-- the same of the snapshot that fits a disk, if one does
abbrev pub SnapshotStands : List Entry → Option Kept → List ℕ → Beside → Type 0
SnapshotStands entries None bytes told = told ≡ beside.None
SnapshotStands entries (Some kept) bytes told =
    IsBeside entries kept.rows (snapshot_content kept.rows kept.bytes bytes) told

-- The snapshot beside the slots of a disk, which give these entries, is told so.
pub record SnapshotIs (entries : List Entry) (bytes : List ℕ) (told : Beside) : Type 0 where
  pub kept : Option Kept
  pub snapshot : IsSnapshotOf bytes kept
  pub beside : SnapshotStands entries kept bytes told

-- how far a walk found that it agrees: to so many rows, whose dense forms have so many bytes
pub record IsAgreed (entries : List Entry) (says : ℕ) (held : List ℕ)
    (agreed : Agreed) : Type 0 where
  pub agrees : AgreesTo entries says held agreed.rows
  pub no_further : ¬ AgreesTo entries says held (agreed.rows + 1)
  pub inside : agreed.bytes ≤ length held
  pub are : take agreed.bytes held ≡ book_content (take agreed.rows entries)

-- it agrees to its end: these are all of the rows that it says it holds, and that a book has, and all
-- of its bytes
abbrev pub AgreesAll : Agreed → ℕ → ℕ → ℕ → Type 0
AgreesAll agreed says rows size =
    (agreed.rows ≡ says) × (says ≡ rows) × (agreed.bytes ≡ size)
