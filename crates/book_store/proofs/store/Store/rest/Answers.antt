use Rattle.book_store.proofs.StoreFacts.{images_hold, keeps_none}
use Rattle.book_store.proofs.store.Store.rest.Goals as goal

-- there is nothing to keep
pub returns-then-len-eq0-clause-keeps : goal.returns-then-len-eq0-clause-keeps
returns-then-len-eq0-clause-keeps g c has =
    keeps_none g.D.Disk g.met.D.Disk.reads_image g.met.D.Disk.only_now c.args.self.now has

pub returns-then-len-eq0-clause-images : goal.returns-then-len-eq0-clause-images
returns-then-len-eq0-clause-images g c =
    images_hold g.D.Disk g.met.D.Disk.reads_image g.met.D.Disk.only_now c.args.self.now

-- there was no memory
pub returns-in_default-clause-keeps : goal.returns-in_default-clause-keeps
returns-in_default-clause-keeps g c has =
    keeps_none g.D.Disk g.met.D.Disk.reads_image g.met.D.Disk.only_now c.args.self.now has

pub returns-in_default-clause-images : goal.returns-in_default-clause-images
returns-in_default-clause-images g c =
    images_hold g.D.Disk g.met.D.Disk.reads_image g.met.D.Disk.only_now c.args.self.now

-- the snapshot was kept, or the disk failed
pub returns-in-Ok-keep-clause-images : goal.returns-in-Ok-keep-clause-images
returns-in-Ok-keep-clause-images g c =
    images_hold g.D.Disk g.met.D.Disk.reads_image g.met.D.Disk.only_now
    (record c.args.self.now { journal = c.keep.new.self })

pub returns-clause-images : goal.returns-clause-images
returns-clause-images g c =
    images_hold g.D.Disk g.met.D.Disk.reads_image g.met.D.Disk.only_now
    (record c.args.self.now { journal = c.keep.new.self })
