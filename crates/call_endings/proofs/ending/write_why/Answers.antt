use Rattle.std.proofs.Common.{◌≡◌, ℕ, [], OnOk, OnErr, subst, rules}
use Rattle.call_endings.specs.Texts.{damaged_row}
use Rattle.text_streams.specs.Streams.{output_at, WroteAll, IsCutIn}
use Rattle.call_endings.proofs.ending.write_why.Goals as goal

pub returns-in-NotJournal-clause-wrote : goal.returns-in-NotJournal-clause-wrote
returns-in-NotJournal-clause-wrote g c = rw c.in-NotJournal.is c.write_numbered.ensures.wrote

pub returns-in-NotJournal-clause-cut : goal.returns-in-NotJournal-clause-cut
returns-in-NotJournal-clause-cut g c = rw c.in-NotJournal.is c.write_numbered.ensures.cut

pub returns-in-Damaged-clause-wrote : goal.returns-in-Damaged-clause-wrote
returns-in-Damaged-clause-wrote g c =
    let number : c.from.result ≡ c.in-Damaged.row = search rules in
    rw c.in-Damaged.is (subst (λ (n : ℕ). OnOk c.write_numbered-in-Damaged.result (WroteAll
    (output_at g.K.Sink c.args.output.now) (output_at g.K.Sink
    c.write_numbered-in-Damaged.new.output) (damaged_row n))) number
    c.write_numbered-in-Damaged.ensures.wrote)

pub returns-in-Damaged-clause-cut : goal.returns-in-Damaged-clause-cut
returns-in-Damaged-clause-cut g c =
    let number : c.from.result ≡ c.in-Damaged.row = search rules in
    rw c.in-Damaged.is (subst (λ (n : ℕ). OnErr c.write_numbered-in-Damaged.result (IsCutIn
    (output_at g.K.Sink c.args.output.now) (output_at g.K.Sink
    c.write_numbered-in-Damaged.new.output) [] (damaged_row n))) number
    c.write_numbered-in-Damaged.ensures.cut)

pub returns-in-DiskFault-clause-wrote : goal.returns-in-DiskFault-clause-wrote
returns-in-DiskFault-clause-wrote g c = rw c.in-DiskFault.is c.write_text.ensures.wrote

pub returns-in-DiskFault-clause-cut : goal.returns-in-DiskFault-clause-cut
returns-in-DiskFault-clause-cut g c = rw c.in-DiskFault.is c.write_text.ensures.cut

pub returns-in-NoMemory-clause-wrote : goal.returns-in-NoMemory-clause-wrote
returns-in-NoMemory-clause-wrote g c = rw c.in-NoMemory.is c.write_text-in-NoMemory.ensures.wrote

pub returns-in-NoMemory-clause-cut : goal.returns-in-NoMemory-clause-cut
returns-in-NoMemory-clause-cut g c = rw c.in-NoMemory.is c.write_text-in-NoMemory.ensures.cut
