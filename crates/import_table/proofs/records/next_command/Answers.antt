use Rattle.std.proofs.Common.{◌≡◌, ◌≤◌, ◌<◌, true, false, Some, None, sym, ◌∙◌, inr, rules, arith}
use Rattle.csv.specs.Reading.{reader_state}
use Rattle.csv.specs.Records.{fields_of}
use Rattle.import_table.specs.Reading.{left, next_in}
use Rattle.import_table.specs.declared.types.TheConstants.{LAST_RECORD}
use Rattle.import_table.proofs.ImportSteps.{reads_command, reads_none, reads_too_many, with_found}
use Rattle.import_table.proofs.records.next_command.Goals as goal

pub returns-then-not-found : goal.returns-then-not-found
returns-then-not-found c =
    let none : c.in_ok-found.found ≡ false = search rules in
    let before = c.args.records.now.reader in
    let after = c.read_fields.new.reader in
    let fields = fields_of c.read_fields.new.row in
    reads_none c.args.records.now.number (reader_state before) (left before) fields
    (reader_state after) (left after) c.requires.number
    (with_found (next_in before) c.in_ok-found.found false fields (reader_state after) (left after)
    none c.in_ok-found.ensures.read)

pub returns-then-records-gt-LAST_RECORD : goal.returns-then-records-gt-LAST_RECORD
returns-then-records-gt-LAST_RECORD c =
    let one : c.in_ok-found.found ≡ true = search rules in
    let many : LAST_RECORD < c.args.records.now.number = search rules in
    let before = c.args.records.now.reader in
    let after = c.read_fields.new.reader in
    let fields = fields_of c.read_fields.new.row in
    inr (reads_too_many c.args.records.now.number (reader_state before) (left before) fields
    (reader_state after) (left after) c.requires.number
    (with_found (next_in before) c.in_ok-found.found true fields (reader_state after) (left after)
    one c.in_ok-found.ensures.read) many)

pub returns-in_default : goal.returns-in_default
returns-in_default c =
    let one : c.in_ok-found.found ≡ true = search rules in
    let few : c.args.records.now.number ≤ LAST_RECORD = search rules in
    let bad : c.in_ok-command.field-0 ≡ None = search rules in
    let before = c.args.records.now.reader in
    let after = c.read_fields.new.reader in
    let fields = fields_of c.read_fields.new.row in
    inr (reads_command c.args.records.now.number (reader_state before) (left before) fields
    (reader_state after) (left after) None c.requires.number
    (with_found (next_in before) c.in_ok-found.found true fields (reader_state after) (left after)
    one c.in_ok-found.ensures.read) few (sym bad ∙ c.in_ok-command.ensures))

pub returns : goal.returns
returns c =
    let one : c.in_ok-found.found ≡ true = search rules in
    let few : c.args.records.now.number ≤ LAST_RECORD = search rules in
    let asked = sym c.in-Some.is ∙ c.in_ok-command.ensures in
    let before = c.args.records.now.reader in
    let after = c.read_fields.new.reader in
    let fields = fields_of c.read_fields.new.row in (
      reads_command c.args.records.now.number (reader_state before) (left before) fields
          (reader_state after) (left after) (Some c.in-Some.command) c.requires.number
          (with_found (next_in before) c.in_ok-found.found true fields (reader_state after)
          (left after) one c.in_ok-found.ensures.read) few asked,
      record { opened = c.in_ok-found.ensures.open; number = omega arith },
    )
