use Rattle.std.proofs.Common.{◌≡◌, ◌≤◌, ◌<◌, length, true, false, sym, ◌∙◌, inr, rules}
use Rattle.csv.specs.Reading.{reader_state}
use Rattle.csv.specs.Records.{fields_of}
use Rattle.import_table.specs.Reading.{left}
use Rattle.import_table.specs.declared.types.TheConstants.{MAX_IMPORT}
use Rattle.import_table.proofs.ImportSteps.{first_read, no_header, other_header, right_header, too_long}
use Rattle.import_table.proofs.records.open_records.Goals as goal

pub returns-then-bytes-gt-MAX_IMPORT-clause-error :
    goal.returns-then-bytes-gt-MAX_IMPORT-clause-error
returns-then-bytes-gt-MAX_IMPORT-clause-error c =
    let long : MAX_IMPORT < length c.args.bytes.now = search rules in
    inr (too_long c.args.bytes.now long)

pub returns-then-not-found-clause-error : goal.returns-then-not-found-clause-error
returns-then-not-found-clause-error c =
    let short : length c.args.bytes.now ≤ MAX_IMPORT = search rules in
    let none : c.in_ok-found.found ≡ false = search rules in
    let opened = c.open_reader-reader.ensures in
    let after = c.read_fields.new.reader in
    let fields = fields_of c.read_fields.new.row in
    inr (no_header c.args.bytes.now fields (reader_state after) (left after) short
    (first_read c.open_reader-reader.result c.args.bytes.now c.in_ok-found.found false fields
    (reader_state after) (left after) opened.state opened.left none c.in_ok-found.ensures.read))

pub returns-then-not-is_header-clause-error : goal.returns-then-not-is_header-clause-error
returns-then-not-is_header-clause-error c =
    let short : length c.args.bytes.now ≤ MAX_IMPORT = search rules in
    let one : c.in_ok-found.found ≡ true = search rules in
    let other : c.is_header.result ≡ false = search rules in
    let opened = c.open_reader-reader.ensures in
    let after = c.read_fields.new.reader in
    let fields = fields_of c.read_fields.new.row in
    inr (other_header c.args.bytes.now fields (reader_state after) (left after) short
    (first_read c.open_reader-reader.result c.args.bytes.now c.in_ok-found.found true fields
    (reader_state after) (left after) opened.state opened.left one c.in_ok-found.ensures.read)
    (sym c.is_header.ensures ∙ other))

pub returns-clause-left : goal.returns-clause-left
returns-clause-left c =
    let short : length c.args.bytes.now ≤ MAX_IMPORT = search rules in
    let one : c.in_ok-found.found ≡ true = search rules in
    let right : c.is_header.result ≡ true = search rules in
    let opened = c.open_reader-reader.ensures in
    let after = c.read_fields.new.reader in
    let fields = fields_of c.read_fields.new.row in
    right_header c.args.bytes.now fields (reader_state after) (left after) short
    (first_read c.open_reader-reader.result c.args.bytes.now c.in_ok-found.found true fields
    (reader_state after) (left after) opened.state opened.left one c.in_ok-found.ensures.read)
    (sym c.is_header.ensures ∙ right)
