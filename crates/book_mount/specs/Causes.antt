-- Why a disk isn't mounted, where its journal isn't.
use Rattle.book_journal.specs.declared.types.JournalFault.{JournalFault}
use Rattle.book_journal.specs.declared.types.JournalFault.TheVariants as fault
use Rattle.book_mount.specs.declared.types.MountError.{MountError}
use Rattle.book_mount.specs.declared.types.MountError.TheVariants.{NotJournal, DiskFault}

-- the disk failed, or isn't a journal
abbrev pub cause_of : JournalFault → MountError
cause_of fault.Failed = DiskFault
cause_of (fault.NotJournal place) = NotJournal place
