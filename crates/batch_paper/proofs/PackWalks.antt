-- The packs of a population, as they are found number by number.
use Rattle.std.proofs.Common.{◌≡◌, ℕ, suc, ◌+◌, ◌-◌, ◌<◌, ◌≤◌, Bool, true, false, ◌&&◌, cond, List, [], ◌∷◌, ◌++◌, length, map, Option, Some, None, refl, sym, ◌∙◌, ap, arith}
use Rattle.std.specs.List.{cons_option, filter, filter_map, range_with_len}
use Rattle.std.specs.Option.{option_and_then}
use Rattle.book_words.specs.declared.name.Name.{Name}
use Rattle.book_words.specs.declared.act.Entry.{Entry}
use Rattle.book_words.specs.declared.act.Reading.{Reading}
use Rattle.book_words.specs.Readings.{placed_reading, readings, is_of_batch}
use Rattle.book_words.specs.Population.{is_counted}
use Rattle.book_laws.proofs.ReadingLaws.{reading_of-at}
use Rattle.paper_form.specs.declared.types.Pack as packs
use Rattle.batch_paper.specs.Written.{reading_pack, pack_where, pack_at, packs_of}

-- the packs of a batch among so many rows behind some
abbrev packs_from : List Entry → Name → ℕ → ℕ → List packs.Pack
packs_from entries batch place many =
    filter_map (pack_where batch) (filter_map (placed_reading entries) (range_with_len place many))

-- the packs of a batch behind so many rows
abbrev pub packs_behind : List Entry → Name → ℕ → List packs.Pack
packs_behind entries batch before = packs_from entries batch before (length entries - before)

where_counted : (batch : Name) (some : List Reading)
    → filter_map (pack_where batch) some
    ≡ map reading_pack (filter (λ (r : Reading). is_of_batch batch r && is_counted r) some)
where_counted batch [] = refl
where_counted batch (r ∷ rs) = each (is_of_batch batch r && is_counted r) (where_counted batch rs)
  where
    each : (b : Bool) → filter_map (pack_where batch) rs
        ≡ map reading_pack (filter (λ (q : Reading). is_of_batch batch q && is_counted q) rs)
        → cons_option (cond b (Some (reading_pack r)) None) (filter_map (pack_where batch) rs)
        ≡ map reading_pack (cond b (r ∷ filter (λ (q : Reading). is_of_batch batch q && is_counted q) rs)
        (filter (λ (q : Reading). is_of_batch batch q && is_counted q) rs))
    each true h = ap (λ ps. reading_pack r ∷ ps) h
    each false h = h

-- behind no row these are the packs of the population
pub all_packs : (entries : List Entry) (batch : Name)
    → packs_behind entries batch 0 ≡ packs_of entries batch
all_packs entries batch =
    ap (packs_from entries batch 0)
    (let same : length entries - 0 ≡ length entries = omega arith in same)
    ∙ where_counted batch (readings entries)

-- behind all rows there is none
pub no_packs : (entries : List Entry) (batch : Name) (before : ℕ) → length entries ≤ before
    → packs_behind entries batch before ≡ []
no_packs entries batch before h =
    ap (packs_from entries batch before)
    (let none : length entries - before ≡ 0 = omega (arith, h) in none)

pack_first : (batch : Name) (o : Option Reading) (rs : List Reading)
    → filter_map (pack_where batch) (cons_option o rs)
    ≡ cons_option (option_and_then (pack_where batch) o) [] ++ filter_map (pack_where batch) rs
pack_first batch None rs = refl
pack_first batch (Some r) rs = each (pack_where batch r)
  where
    each : (o : Option packs.Pack) → cons_option o (filter_map (pack_where batch) rs)
        ≡ cons_option o [] ++ filter_map (pack_where batch) rs
    each None = refl
    each (Some p) = refl

-- the pack of the next row comes next, where it is one
pub next_pack : (entries : List Entry) (batch : Name) (before : ℕ) → before < length entries
    → packs_behind entries batch before
    ≡ cons_option (pack_at entries batch (before + 1)) [] ++ packs_behind entries batch (before + 1)
next_pack entries batch before h =
    ap (packs_from entries batch before)
    (let more : length entries - before ≡ suc (length entries - (before + 1)) = omega (arith, h) in
    more)
    ∙ pack_first batch (placed_reading entries before)
    (filter_map (placed_reading entries)
    (range_with_len (before + 1) (length entries - (before + 1))))
    ∙ ap (λ (o : Option Reading). cons_option (option_and_then (pack_where batch) o) []
    ++ packs_behind entries batch (before + 1))
    (sym (reading_of-at entries before h))
