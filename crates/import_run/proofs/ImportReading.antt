-- What an import that wasn't read whole leaves of the store.
use Rattle.std.proofs.Common.{◌≡◌, Err, refl}
use Rattle.disk_core.specs.declared.disk.Disk as disk
use Rattle.book_store.specs.declared.store.Store.{Store}
use Rattle.text_streams.specs.declared.whole.Unread.{Unread}
use Rattle.text_streams.specs.declared.whole.Unread.TheVariants as unread
use Rattle.store_runs.specs.declared.stop.Stop.TheVariants.{BadLine, ReadFault, NoMemory}
use Rattle.store_runs.specs.Runs.{RunGoes}
use Rattle.store_runs.proofs.StoreSteps.{stays_same}
use Rattle.import_run.specs.Reading.{stop_unread}

-- the store is as it was
pub goes_unread : {D : Type 0} (g : disk.Ghosts D) (why : Unread) (old new : Store D) → new ≡ old
    → RunGoes g (stop_unread why) old new
goes_unread g unread.TooLong old new same =
    stays_same g (Err (BadLine 0)) old new same refl (λ is. absurd (cc))
goes_unread g unread.Failed old new same =
    stays_same g (Err ReadFault) old new same refl (λ is. absurd (cc))
goes_unread g unread.NoMemory old new same =
    stays_same g (Err NoMemory) old new same refl (λ is. absurd (cc))
