use Rattle.std.proofs.Common.{◌∙◌, ap, arith}
use Rattle.book_words.proofs.LegalLemmas.{legal_few}
use Rattle.book_journal.proofs.Moments.{unmoved_on}
use Rattle.book_audit.specs.Audits.{fingerprint}
use Rattle.book_audit.proofs.whole.audit_slots.Goals as goal

pub returns-in_err-beside-clause-unmoved : goal.returns-in_err-beside-clause-unmoved
returns-in_err-beside-clause-unmoved g c =
    unmoved_on g.D.Disk c.args.disk.now c.read_slots.new.disk c.compare_snapshot.new.disk
    c.read_slots.ensures.unmoved c.compare_snapshot.ensures.unmoved

pub returns-clause-found : goal.returns-clause-found
returns-clause-found g c bytes told book snapshot = record {
  entries = c.read_slots.new.book.entries;
  book = book;
  slots = c.in_ok-whole.ensures.slots bytes told;
  rows = c.len.ensures;
  beside = record {
    kept = c.args.kept;
    snapshot = snapshot;
    beside = c.in_ok-beside.ensures.beside bytes (c.read_slots.ensures.unmoved.reads ∙ told) snapshot;
  };
  digest = c.fingerprint.ensures ∙ ap (fingerprint c.args.most) c.entries.ensures.value;
}

pub returns-clause-few : goal.returns-clause-few
returns-clause-few g c =
    omega (arith, c.len.ensures, legal_few c.read_slots.new.book.entries c.read_slots.ensures.legal)

pub returns-clause-unmoved : goal.returns-clause-unmoved
returns-clause-unmoved g c =
    unmoved_on g.D.Disk c.args.disk.now c.read_slots.new.disk c.compare_snapshot.new.disk
    c.read_slots.ensures.unmoved c.compare_snapshot.ensures.unmoved
