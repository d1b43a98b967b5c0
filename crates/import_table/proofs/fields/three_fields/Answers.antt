use Rattle.std.proofs.Common.{◌≡◌, length, sym, rules, arith}
use Rattle.csv.specs.Records.{fields_of}
use Rattle.import_table.proofs.FieldPlaces.{field_there, three_are}
use Rattle.import_table.proofs.fields.three_fields.Goals as goal

pub returns-in_err-desk : goal.returns-in_err-desk
returns-in_err-desk c =
    let three : length (fields_of c.args.row.now) ≡ 3 = search rules in
    let absent = sym c.in_err-desk.ensures.value in
    absurd (field_there (fields_of c.args.row.now) 0 (omega arith) absent)

pub returns-in_err-request : goal.returns-in_err-request
returns-in_err-request c =
    let three : length (fields_of c.args.row.now) ≡ 3 = search rules in
    let absent = sym c.in_err-request.ensures.value in
    absurd (field_there (fields_of c.args.row.now) 1 (omega arith) absent)

pub returns-in_err-command : goal.returns-in_err-command
returns-in_err-command c =
    let three : length (fields_of c.args.row.now) ≡ 3 = search rules in
    let absent = sym c.in_err-command.ensures.value in
    absurd (field_there (fields_of c.args.row.now) 2 (omega arith) absent)

pub returns : goal.returns
returns c =
    let three : length (fields_of c.args.row.now) ≡ 3 = search rules in
    three_are (fields_of c.args.row.now) c.in_ok-desk.desk.now c.in_ok-request.request.now
    c.in_ok-command.command.now three (sym c.in_ok-desk.ensures.value)
    (sym c.in_ok-request.ensures.value) (sym c.in_ok-command.ensures.value)
