-- Errors that are handed on, and calls that only read.
use Rattle.std.proofs.Common.{◌≡◌, ◌∙◌, Result, Err, refl, sym, ap, subst}
use Rattle.disk_core.specs.declared.disk.Disk as disk
use Rattle.book_journal.specs.declared.journal.Journal.{Journal}
use Rattle.book_journal.specs.Journal.{disk_of, count_of, kept_of}
use Rattle.book_journal.proofs.Moments.{unmoved_none, unmoved_on}
use Rattle.book_core.specs.View.{BookView}
use Rattle.book_mount.specs.Opening.{OnlyRead, Grows}

-- what holds of an error holds where it is handed on
pub handed_on : {T E : Type 0} (P : Result T E → Type 0) (result : Result T E) (error why : E)
    → result ≡ Err error → error ≡ why → P (Err why) → P result
handed_on P result error why is same holds = subst P (sym (is ∙ ap (λ e. Err e) same)) holds

-- a book that wasn't read on
pub grows_none : (book : BookView) → Grows book book
grows_none book = record { limit = refl; legal = λ legal. legal }

-- one walk after another
pub grows_on : (old mid new : BookView) → Grows old mid → Grows mid new → Grows old new
grows_on old mid new first second =
    record { limit = second.limit ∙ first.limit; legal = λ legal. second.legal (first.legal legal) }

module _ {D : Type 0} (g : disk.Ghosts D) where
  pub read_none : (old : Journal D) → OnlyRead g old old
  read_none old = record {
    same = refl;
    unmoved = unmoved_none g (disk_of old);
    rows =
        λ rows has. has;
    sound = λ sound. sound;
  }

  pub read_on : (old mid new : Journal D) → OnlyRead g old mid → OnlyRead g mid new → OnlyRead g old new
  read_on old mid new first second = record {
    same = second.same ∙ ap (λ (j : Journal D). record j { disk = disk_of new }) first.same;
    unmoved = unmoved_on g (disk_of old) (disk_of mid) (disk_of new) first.unmoved second.unmoved;
    rows = λ rows has. second.rows rows (first.rows rows has);
    sound = λ sound. second.sound (first.sound sound);
  }

  pub count_kept : (old new : Journal D) → OnlyRead g old new → count_of new ≡ count_of old
  count_kept old new read = ap (λ (j : Journal D). count_of j) read.same

  pub kept_kept : (old new : Journal D) → OnlyRead g old new → kept_of new ≡ kept_of old
  kept_kept old new read = ap (λ (j : Journal D). kept_of j) read.same
