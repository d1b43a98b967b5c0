-- What is left of the sheets and of the packs, row by row.
use Rattle.std.proofs.Common.{◌≡◌, ℕ, zero, suc, ◌+◌, ◌-◌, ◌<◌, ◌≤◌, nat_le, true, if◌then◌else◌, List, [], ◌∷◌, ◌++◌, length, drop, slice_get, Option, Some, None, refl, sym, ◌∙◌, ap, arith}
use Rattle.std.proofs.lemmas.Bool.Decides.{nat_tests}
use Rattle.std.proofs.lemmas.List.{drop_all}
use Rattle.std.specs.List.{flat_map, filter_map, range_with_len, cons_option}
use Rattle.std.specs.Option.{option_and_then}
use Rattle.book_words.specs.declared.name.Name.{Name}
use Rattle.book_words.specs.declared.act.Entry.{Entry}
use Rattle.book_words.specs.declared.act.Reading.{Reading}
use Rattle.book_words.specs.Acts.{said, batch_opened}
use Rattle.book_words.specs.Readings.{placed_reading}
use Rattle.book_words.specs.Views.{view_of_reading, pack_view}
use Rattle.book_laws.proofs.ReadingLaws.{reading_of-at}
use Rattle.pack_register.specs.Register.{record_text}
use Rattle.report_run.specs.Reports.{batch_text, sheets_text, weighed_packs, opened_at, text_if_there}

-- ---- sheets

-- the sheets of the batches that are opened behind so many rows
abbrev pub sheets_behind : List Entry → ℕ → List ℕ
sheets_behind entries before =
    flat_map (batch_text entries) (said batch_opened (drop before entries))

pub all_sheets : (entries : List Entry) → sheets_behind entries 0 ≡ sheets_text entries
all_sheets entries = refl

pub no_sheets : (entries : List Entry) (before : ℕ) → length entries ≤ before
    → sheets_behind entries before ≡ []
no_sheets entries before h =
    ap (λ (l : List Entry). flat_map (batch_text entries) (said batch_opened l))
    (drop_all before entries h)

-- the batch that an entry opens, where one is there
abbrev opened_by : Option Entry → Option Name
opened_by entry = option_and_then (λ (e : Entry). batch_opened e.act) entry

numbered_next : (entries : List Entry) (place : ℕ)
    → opened_at entries (place + 1) ≡ opened_by (slice_get entries place)
numbered_next entries place =
    let first : nat_le 1 (place + 1) ≡ true = grind (arith, nat_tests) in
    let same : place + 1 - 1 ≡ place = omega arith in
    ap (λ b. opened_by (if b then slice_get entries (place + 1 - 1) else None)) first
    ∙ ap (λ n. opened_by (slice_get entries n)) same

text_first : {A : Type 0} (f : A → List ℕ) (o : Option A) (things : List A)
    → flat_map f (cons_option o things) ≡ text_if_there f o ++ flat_map f things
text_first f None things = refl
text_first f (Some thing) things = refl

opened_first : (f : Name → List ℕ) (entries : List Entry) (place : ℕ) → place < length entries
    → flat_map f (said batch_opened (drop place entries))
    ≡ text_if_there f (opened_by (slice_get entries place))
    ++ flat_map f (said batch_opened (drop (suc place) entries))
opened_first f [] place h = absurd (omega arith)
opened_first f (entry ∷ entries) zero h =
    text_first f (batch_opened entry.act) (said batch_opened entries)
opened_first f (entry ∷ entries) (suc place) h = opened_first f entries place (omega (arith, h))

-- the sheet of the batch that the next row opens comes next
pub next_sheet : (entries : List Entry) (before : ℕ) → before < length entries
    → sheets_behind entries before
    ≡ text_if_there (batch_text entries) (opened_at entries (before + 1))
    ++ sheets_behind entries (before + 1)
next_sheet entries before h =
    opened_first (batch_text entries) entries before h
    ∙ ap (λ (o : Option Name). text_if_there (batch_text entries) o
    ++ sheets_behind entries (suc before)) (sym (numbered_next entries before))
    ∙ ap (λ n. text_if_there (batch_text entries) (opened_at entries (before + 1))
    ++ sheets_behind entries n) (let same : suc before ≡ before + 1 = omega arith in same)

-- ---- packs

-- the records of so many packs behind some rows
abbrev records_from : List Entry → ℕ → ℕ → List ℕ
records_from entries place many =
    flat_map record_text
    (filter_map (view_of_reading entries)
    (filter_map (placed_reading entries) (range_with_len place many)))

-- the records of the packs that are weighed behind so many rows
abbrev pub records_behind : List Entry → ℕ → List ℕ
records_behind entries before = records_from entries before (length entries - before)

pub all_records : (entries : List Entry)
    → records_behind entries 0 ≡ flat_map record_text (weighed_packs entries)
all_records entries = ap (records_from entries 0)
    (let same : length entries - 0 ≡ length entries = omega arith in same)

pub no_records : (entries : List Entry) (before : ℕ) → length entries ≤ before
    → records_behind entries before ≡ []
no_records entries before h = ap (records_from entries before)
    (let none : length entries - before ≡ 0 = omega (arith, h) in none)

record_first : (entries : List Entry) (o : Option Reading) (readings : List Reading)
    → flat_map record_text (filter_map (view_of_reading entries) (cons_option o readings))
    ≡ text_if_there record_text (option_and_then (view_of_reading entries) o)
    ++ flat_map record_text (filter_map (view_of_reading entries) readings)
record_first entries None readings = refl
record_first entries (Some reading) readings =
    text_first record_text (view_of_reading entries reading)
    (filter_map (view_of_reading entries) readings)

-- the record of the pack of the next row, where it is a weighing, comes next
pub next_record : (entries : List Entry) (before : ℕ) → before < length entries
    → records_behind entries before
    ≡ text_if_there record_text (pack_view entries (before + 1))
    ++ records_behind entries (before + 1)
next_record entries before h =
    ap (records_from entries before)
    (let more : length entries - before ≡ suc (length entries - (before + 1)) = omega (arith, h) in
    more)
    ∙ record_first entries (placed_reading entries before)
    (filter_map (placed_reading entries)
    (range_with_len (before + 1) (length entries - (before + 1))))
    ∙ ap (λ (o : Option Reading). text_if_there record_text
    (option_and_then (view_of_reading entries) o) ++ records_behind entries (before + 1))
    (sym (reading_of-at entries before h))
