-- What is printed of a batch that isn't closed.
use Rattle.std.specs.Prelude.{◌≢◌}
use Rattle.std.proofs.Common.{◌≡◌, List, Some, refl, sym, subst}
use Rattle.book_words.specs.declared.name.Name.{Name}
use Rattle.book_words.specs.declared.act.BatchState.{BatchState}
use Rattle.book_words.specs.declared.act.BatchState.TheVariants.{Running, Ended, Drawn, Closed}
use Rattle.book_words.specs.declared.act.Entry.{Entry}
use Rattle.book_words.specs.declared.refusal.Refusal.TheVariants as refusal
use Rattle.book_words.specs.Acts.{state_of}
use Rattle.text_streams.specs.Streams.{Stream}
use Rattle.store_runs.specs.declared.stop.Stop.{Stop}
use Rattle.store_runs.specs.declared.stop.Stop.TheVariants.{Finished, BadLine, ReadFault, WriteFault, DiskFault, NoMemory, Spent}
use Rattle.report_run.specs.Printing.{SaysText}
use Rattle.paper_run.specs.Printing.{SaysPaper, SaysOf, IsPrintedOf, refused_line}

-- it is the line of its refusal
not_closed : (entries : List Entry) (batch : Name) (state : BatchState) → state ≢ Closed
    → IsPrintedOf entries batch (Some state) (refused_line entries (refusal.BatchState state))
not_closed entries batch Running differs = refl
not_closed entries batch Ended differs = refl
not_closed entries batch Drawn differs = refl
not_closed entries batch Closed differs = absurd (differs refl)

-- it went out or was cut
says_line : (entries : List Entry) (batch : Name) (state : BatchState) (before now : Stream)
    (stop : Stop) → state_of entries batch ≡ Some state → state ≢ Closed
    → SaysText before now (refused_line entries (refusal.BatchState state)) stop
    → SaysOf before now entries batch stop
says_line entries batch state before now stop found differs says =
    record {
      text = refused_line entries (refusal.BatchState state);
      printed = subst
          (λ o. IsPrintedOf entries batch o (refused_line entries (refusal.BatchState state)))
          (sym found) (not_closed entries batch state differs);
      says = says;
    }

-- that is what is to be said of it
pub says_refused : (entries : List Entry) (batch : Name) (state : BatchState) (before now : Stream)
    (stop : Stop) → state_of entries batch ≡ Some state → state ≢ Closed
    → SaysText before now (refused_line entries (refusal.BatchState state)) stop
    → SaysPaper entries batch before now stop
says_refused entries batch state before now NoMemory found differs says = says
says_refused entries batch state before now Finished found differs says =
    says_line entries batch state before now Finished found differs says
says_refused entries batch state before now WriteFault found differs says =
    says_line entries batch state before now WriteFault found differs says
says_refused entries batch state before now (BadLine n) found differs says = absurd says
says_refused entries batch state before now ReadFault found differs says = absurd says
says_refused entries batch state before now (DiskFault offer) found differs says = absurd says
says_refused entries batch state before now Spent found differs says = absurd says
