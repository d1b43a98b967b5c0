use Rattle.shared_book.proofs.CallerCrashes.{keeps_lawful, leaves_since}
use Rattle.shared_book.proofs.laws.caller_law.Goals as goal

pub returns : goal.returns
returns g c = record {
  since = leaves_since g.D.Disk g.met.D.Disk.reads_image g.met.D.Disk.only_now;
  lawful = keeps_lawful g.D.Disk g.met.D.Disk.reads_image g.met.D.Disk.only_now;
}
