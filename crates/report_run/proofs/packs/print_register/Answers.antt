use Rattle.pack_register.proofs.ReadBack.{reads_back}
use Rattle.book_store.specs.Stores.{entries_of}
use Rattle.report_run.specs.Reports.{weighed_packs}
use Rattle.report_run.proofs.packs.print_register.Goals as goal

pub returns-in_default-clause-reads_back : goal.returns-in_default-clause-reads_back
returns-in_default-clause-reads_back g c = reads_back (weighed_packs (entries_of c.args.store.now))

pub returns-in-Ok-write_text-clause-reads_back : goal.returns-in-Ok-write_text-clause-reads_back
returns-in-Ok-write_text-clause-reads_back g c =
    reads_back (weighed_packs (entries_of c.args.store.now))

pub returns-clause-reads_back : goal.returns-clause-reads_back
returns-clause-reads_back g c = reads_back (weighed_packs (entries_of c.args.store.now))
