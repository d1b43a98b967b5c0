use Rattle.shared_book.proofs.SessionLemmas.{kept_first}
use Rattle.shared_book.proofs.held.HeldStore.new.Goals as goal

pub invariant_of-result : goal.invariant_of-result
invariant_of-result g c =
    kept_first g.D.Disk g.N.Session g.met.D.Disk.only_now c.args.store c.requires.sound
    c.requires.begins
