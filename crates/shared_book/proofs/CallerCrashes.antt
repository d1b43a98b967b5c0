-- What a crash leaves between two states of a caller that has its store for itself.
use Rattle.std.proofs.Common.{◌≡◌, ⊎_elim, inl, inr, ℕ, List, ◌++◌, length, take, sym, ◌∙◌, ap, subst, arith, length-append}
use Rattle.std.proofs.Math.Seq.{take-append_seam}
use Rattle.device_facts.specs.Prefix.{IsPrefixOf}
use Rattle.disk_core.specs.declared.disk.Disk as disk
use Rattle.disk_core.specs.Disk.{WhereTold}
use Rattle.book_words.specs.declared.act.Ask.{Ask}
use Rattle.book_words.specs.declared.act.Entry.{Entry}
use Rattle.book_words.specs.Answers.{IsLawful}
use Rattle.book_store.specs.Callers.{CallerView, IsReachedBy, LeavesRows, MayStandBehind}
use Rattle.book_store.specs.Stores.{entries_of}
use Rattle.book_store.proofs.CallerSteps.{crash_between}
use Rattle.shared_book.specs.Alone.{HangsLawfully, KeepsLawful, LeavesSince}
use Rattle.shared_book.specs.Sessions.{HoldsOrOneMore, LeavesFrom}

-- some first rows are so many of all
first_rows : (rows all : List Entry) → IsPrefixOf rows all → rows ≡ take (length rows) all
first_rows rows all begins =
    sym (ap (take (length rows)) begins.1 ∙ take-append_seam rows begins.0)

module _ {D : Type 0} (g : disk.Ghosts D) where
  -- what may stand behind some rows is lawful there, where what hung before was
  stands_lawful : (old new : CallerView D) (asks : List Ask) → HangsLawfully g old.store
      → (rows : List Entry) (entry : Entry) → MayStandBehind g old new asks rows entry
      → IsLawful rows entry
  stands_lawful old new asks lawful rows entry stands = ⊎_elim
      (λ asked. asked.1.lawful)
      (λ hung. subst (λ (es : List Entry). IsLawful es entry) (sym hung.1) (lawful entry hung.0))
      stands

  left_lawful : (old new : CallerView D) (asks : List Ask) → HangsLawfully g old.store
      → (c : List ℕ) → LeavesRows g old new asks c
      → LeavesFrom (entries_of old.store) (entries_of new.store) c
  left_lawful old new asks lawful c left =
      record {
        count = length left.rows;
        least = omega (
          arith,
          ap length left.least.1,
          length-append (entries_of old.store) left.least.0,
        );
        most = omega (arith, ap length left.most.1, length-append left.rows left.most.0);
        holds = subst (λ (es : List Entry). HoldsOrOneMore es c)
            (first_rows left.rows (entries_of new.store) left.most)
            (⊎_elim (λ is. inl is)
            (λ is. inr (is.0, stands_lawful old new asks lawful left.rows is.0 is.1, is.2))
            left.holds);
      }

  pub leaves_since : ((d : D) → WhereTold (g.reads d) (g.image d))
      → ((d : D) (c : List ℕ) → g.since d (g.time d) c → g.image d c) → LeavesSince g
  leaves_since reads_image only_now old new asks reached has c was =
      crash_between g reads_image only_now old new asks reached has c was

  pub keeps_lawful : ((d : D) → WhereTold (g.reads d) (g.image d))
      → ((d : D) (c : List ℕ) → g.since d (g.time d) c → g.image d c) → KeepsLawful g
  keeps_lawful reads_image only_now old new asks reached has lawful =
      let keeps = reached.keeps has in
      record {
        has = keeps.has;
        hung = λ entry hangs. stands_lawful old new asks lawful (entries_of new.store) entry
            (keeps.hung entry hangs);
        moments = λ c was. left_lawful old new asks lawful c
            (crash_between g reads_image only_now old new asks reached has c was);
      }
