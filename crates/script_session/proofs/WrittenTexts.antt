-- A text that is written leaves the store.
use Rattle.std.proofs.Common.{◌≡◌, Result, Ok, Err, IfErr, sym, subst}
use Rattle.std.specs.Bool.{⊤}
use Rattle.disk_core.specs.declared.disk.Disk as disk
use Rattle.book_store.specs.declared.store.Store.{Store}
use Rattle.store_runs.specs.declared.stop.Stop.{Stop}
use Rattle.store_runs.specs.declared.stop.Stop.TheVariants.{WriteFault}
use Rattle.store_runs.specs.Runs.{Goes}
use Rattle.store_runs.proofs.StoreSteps.{goes_with}

-- a step that went on, and then wrote
pub goes_written : {D : Type 0} (g : disk.Ghosts D) (old new : Store D) (written : Result ⊤ Stop)
    → IfErr written (λ how. how ≡ WriteFault) → Goes {T = ⊤} g (Ok tt) old new
    → Goes g written old new
goes_written g old new (Ok done) fault goes = goes
goes_written g old new (Err stop) fault goes =
    subst (λ (s : Stop). Goes {T = ⊤} g (Err s) old new) (sym fault)
    (goes_with g tt (Err WriteFault) old new goes goes.cause (λ is. absurd (cc)))
