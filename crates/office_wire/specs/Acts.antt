-- What a desk asks for by the JSON of a body. Members that aren't named here are passed over.
use Rattle.std.specs.Prelude.{ℕ, ◌^◌, ◌-◌, ◌&&◌, ℤ, pos, List, nat_le, if◌then◌else◌, Option, Some, None, is_none, option_map, codes}
use Rattle.std.specs.Option.{option_and_then}
use Rattle.std.specs.Str.{bytes_eq, is_utf8}
use Rattle.serde_json.specs.Data.{Data}
use Rattle.serde_json.specs.Read.{read}
use Rattle.serde_json.specs.Find.{get, as_str, as_number, as_u64, as_i64}
use Rattle.hall_units.specs.Days.{day_of}
use Rattle.annex_tables.specs.declared.types.Mode.{Mode}
use Rattle.annex_tables.specs.declared.types.Mode.TheVariants.{Keep, Destroy}
use Rattle.book_words.specs.declared.name.Name.{Name}
use Rattle.book_words.specs.declared.act.Act.{Act}
use Rattle.book_words.specs.declared.act.Act.TheVariants.{NewDay, PutProduct, PutTare, OpenBatch, Void, EndRun, Draw, Measure, DrawSecond, Close}
use Rattle.book_words.specs.declared.act.Unit.TheVariants.{Mass, Volume}
use Rattle.book_words.specs.declared.act.Ask.{Ask}
use Rattle.book_words.specs.declared.act.Want.TheVariants as want
use Rattle.book_words.specs.Names.{name_of}

-- ---- members

-- a text
abbrev pub text_at : List ℕ → Data → Option (List ℕ)
text_at key json = option_and_then as_str (get key json)

-- a whole number that 64 bits hold, not negative
abbrev pub number_at : List ℕ → Data → Option ℕ
number_at key json = option_and_then as_u64 (option_and_then as_number (get key json))

-- a mass in mg, or a volume in microlitres: a whole number that 64 bits hold with its sign
abbrev pub mass_at : List ℕ → Data → Option ℤ
mass_at key json = option_and_then as_i64 (option_and_then as_number (get key json))

-- a number between two
abbrev pub between : ℕ → ℕ → ℕ → Option ℕ
between least greatest number =
    if nat_le least number && nat_le number greatest then Some number else None

-- the number of a desk
abbrev pub desk_at : Data → Option ℕ
desk_at json = option_and_then (between 1 (2 ^ 16 - 1)) (number_at (codes "desk") json)

-- a whole number that 32 bits hold, not negative
abbrev pub count_at : List ℕ → Data → Option ℕ
count_at key json = option_and_then (between 0 (2 ^ 32 - 1)) (number_at key json)

-- a name
abbrev pub name_at : List ℕ → Data → Option Name
name_at key json = option_and_then name_of (text_at key json)

-- a day
abbrev pub day_at : Data → Option ℤ
day_at json = option_and_then day_of (text_at (codes "day") json)

-- what becomes of the packs of a sample, by its word
abbrev pub mode_in : List ℕ → Option Mode
mode_in word =
    if bytes_eq word (codes "keep") then Some Keep
    else (if bytes_eq word (codes "destroy") then Some Destroy
    else None)

-- what becomes of the packs of a sample
abbrev pub mode_at : Data → Option Mode
mode_at json = option_and_then mode_in (text_at (codes "mode") json)

-- the mass of an empty pack in mg, 0 where it isn't told
abbrev pub empty_at : Data → Option ℤ
empty_at json =
    if is_none (get (codes "empty") json) then Some (pos 0) else mass_at (codes "empty") json

-- ---- acts

-- what two things make, where both are there
abbrev pub from_both : {A B C : Type 0} → (A → B → C) → Option A → Option B → Option C
from_both make a b = option_and_then (λ x. option_map (make x) b) a

-- what three things make, where all are there
abbrev pub from_three : {A B C D : Type 0} → (A → B → C → D)
    → Option A → Option B → Option C → Option D
from_three make a b c = option_and_then (λ x. from_both (make x) b c) a

abbrev pub day_act : Data → Option Act
day_act json = option_map (λ day. NewDay day) (day_at json)

-- `product`: goods by mass
abbrev pub product_act : Data → Option Act
product_act json =
    from_both (λ name nominal. PutProduct name nominal Mass)
    (name_at (codes "name") json) (mass_at (codes "nominal") json)

-- `product_ml`: goods by volume, of so many microlitres
abbrev pub product_ml_act : Data → Option Act
product_ml_act json =
    from_both (λ name nominal. PutProduct name nominal Volume)
    (name_at (codes "name") json) (mass_at (codes "nominal") json)

abbrev pub tare_act : Data → Option Act
tare_act json =
    from_three (λ product day tare. PutTare product day tare)
    (name_at (codes "product") json) (day_at json) (mass_at (codes "tare") json)

-- `open`: of goods by mass, which have no density
abbrev pub open_act : Data → Option Act
open_act json =
    from_both (λ batch product. OpenBatch batch product 0)
    (name_at (codes "batch") json) (name_at (codes "product") json)

-- `open_at`: of goods by volume, at a density in mg a litre
abbrev pub open_at_act : Data → Option Act
open_at_act json =
    from_three (λ batch product density. OpenBatch batch product density)
    (name_at (codes "batch") json) (name_at (codes "product") json)
    (count_at (codes "density") json)

abbrev pub void_act : Data → Option Act
void_act json = option_map (λ pack. Void pack) (count_at (codes "pack") json)

abbrev pub end_act : Data → Option Act
end_act json = option_map (λ batch. EndRun batch) (name_at (codes "batch") json)

abbrev pub draw_act : Data → Option Act
draw_act json =
    from_three (λ batch mode word. Draw batch mode word)
    (name_at (codes "batch") json) (mode_at json) (number_at (codes "word") json)

abbrev pub measure_act : Data → Option Act
measure_act json =
    from_three (λ pack gross empty. Measure pack gross empty)
    (count_at (codes "pack") json) (mass_at (codes "gross") json) (empty_at json)

abbrev pub second_act : Data → Option Act
second_act json =
    from_both (λ batch word. DrawSecond batch word)
    (name_at (codes "batch") json) (number_at (codes "word") json)

abbrev pub close_act : Data → Option Act
close_act json = option_map (λ batch. Close batch) (name_at (codes "batch") json)

-- the act of a word and the other members, where there is such an act
abbrev pub act_by : List ℕ → Data → Option Act
act_by word json =
    if bytes_eq word (codes "day") then day_act json
    else (if bytes_eq word (codes "product") then product_act json
    else (if bytes_eq word (codes "product_ml") then product_ml_act json
    else (if bytes_eq word (codes "tare") then tare_act json
    else (if bytes_eq word (codes "open") then open_act json
    else (if bytes_eq word (codes "open_at") then open_at_act json
    else (if bytes_eq word (codes "void") then void_act json
    else (if bytes_eq word (codes "end") then end_act json
    else (if bytes_eq word (codes "draw") then draw_act json
    else (if bytes_eq word (codes "measure") then measure_act json
    else (if bytes_eq word (codes "second") then second_act json
    else (if bytes_eq word (codes "close") then close_act json
    else None)))))))))))

-- the act of a body
abbrev pub act_of : Data → Option Act
act_of json = option_and_then (λ word. act_by word json) (text_at (codes "act") json)

-- what a desk asks for
abbrev pub ask_of : Data → Option Ask
ask_of json =
    from_three (λ desk request act. record { desk = desk; request = request; want = want.Act act })
    (desk_at json) (count_at (codes "request") json) (act_of json)

-- the JSON of a text of UTF-8
abbrev pub json_in : List ℕ → Option Data
json_in body = if is_utf8 body then read body else None

-- what the body of a request asks for, where it is an act of a desk
abbrev pub desk_ask : List ℕ → Option Ask
desk_ask body = option_and_then ask_of (json_in body)
