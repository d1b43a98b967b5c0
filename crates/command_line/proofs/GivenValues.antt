-- What items give to the options of a command, an item at a time.
use Rattle.std.proofs.Common.{if◌then◌else◌, ◌≡◌, ◌↔◌, ◌∙◌, ◌&&◌, ap, refl, sym, is_none, Bor, Bool, true, false, not, List, [], ◌∷◌, Option, Some, None, option_map, option_and_then, is_some, codes, ℕ, suc, ◌+◌, ◌<◌, length, drop, get_or, arith}
use Rattle.std.specs.List.{list_any}
use Rattle.std.proofs.Math.Seq.{drop-cons}
use Rattle.std.specs.Option.{option_map_or}
use Rattle.std.specs.Str.{bytes_eq}
use Rattle.command_line.specs.declared.types.Command.{Command}
use Rattle.command_line.specs.declared.types.WantsError.TheVariants.{NoMemory, Usage}
use Rattle.command_line.specs.declared.values.Values.{Values}
use Rattle.command_line.specs.Taken.{are_words_taken, bytes_in, is_read, texts_of}
use Rattle.command_line.specs.Words.{Form, Item, Wanted, are_given, are_taken, command_of, form_of, gives, is_among}
use Rattle.command_line.specs.Words.{items_in, read_items, taken_items, value_of, values_in, named_values}
use Rattle.command_line.specs.Words.{command_wanted, wanted_of, wanted_values, with_item}

-- ---- whether items are taken

and_false : (t : Bool) → (t && false) ≡ false
and_false true = refl
and_false false = refl

-- with one item before them
pub taken_more : (names : List (List ℕ)) (name value : List ℕ) (left : Option (List Item)) (t : Bool)
    → ((items : List Item) → left ≡ Some items → t ≡ (is_among names name && not (list_any
    (gives name) items)))
    → option_map_or (are_taken names) (with_item name value left) false ≡ (t && option_map_or
    (are_taken names) left false)
taken_more names name value None t is = sym (and_false t)
taken_more names name value (Some items) t is = rw (is items refl) refl

pub empty : {X : Type 0} (words : List X) → length words ≡ 0 → words ≡ []
empty [] none = refl
empty (word ∷ words) none = absurd (omega arith)

pub none_taken : (names words : List (List ℕ)) → words ≡ [] → are_words_taken names words ≡ true
unfolding read_items
none_taken names words none = rw none refl

-- ---- the value of an option

-- the value that items give, where words are items
abbrev pub value_in : List ℕ → Option (List Item) → Option (List ℕ)
value_in name = option_and_then (λ items. value_of items name)

pub none_given : (name : List ℕ) (words : List (List ℕ)) → words ≡ [] → value_in name
    (read_items None words) ≡ None
unfolding read_items
none_given name words none = rw none refl

pub value_some : (name : List ℕ) (items : List Item) → is_some (value_of items name) ≡ list_any
    (gives name) items
value_some name [] = refl
value_some name (item ∷ items) = go (bytes_eq item.name name) refl (value_some name items)
  where
    go : (t : Bool) → bytes_eq item.name name ≡ t → is_some (value_of items name) ≡ list_any
        (gives name) items
        → is_some (value_of (item ∷ items) name) ≡ list_any (gives name) (item ∷ items)
    go true same rest = rw same refl
    go false same rest = rw same rest

lacks_text : (found : Option (Bor (List ℕ))) → is_none found ≡ not (is_some (bytes_in found))
lacks_text None = refl
lacks_text (Some text) = refl

-- an option without a value is given by no item
pub none_found : (name : List ℕ) (items : List Item) (found : Option (Bor (List ℕ)))
    → bytes_in found ≡ value_of items name
    → is_none found ≡ not (list_any (gives name) items)
none_found name items found is =
    lacks_text found ∙ ap (λ text. not (is_some text)) is ∙ ap not (value_some name items)

pub with_item_some : (name value : List ℕ) (left : Option (List Item)) → is_some
    (with_item name value left) ≡ is_some left
with_item_some name value None = refl
with_item_some name value (Some items) = refl

pub value_found : (name other value : List ℕ) (left : Option (List Item))
    → bytes_eq other name ≡ true → is_some left ≡ true
    → value_in name (with_item other value left) ≡ Some value
value_found name other value None is some = cc
value_found name other value (Some items) is some = rw is refl

pub value_passed : (name other value : List ℕ) (left : Option (List Item)) → bytes_eq other name ≡ false
    → value_in name (with_item other value left) ≡ value_in name left
value_passed name other value None differs = refl
value_passed name other value (Some items) differs = rw differs refl

-- an option with a value is given by an item
pub some_found : (name : List ℕ) (items : List Item) (found : Option (Bor (List ℕ)))
    → bytes_in found ≡ value_of items name
    → is_some found ≡ list_any (gives name) items
some_found name items found is =
    has_text found ∙ ap (λ (text : Option (List ℕ)). is_some text) is ∙ value_some name items
  where
    has_text : (found : Option (Bor (List ℕ))) → is_some found ≡ is_some (bytes_in found)
    has_text None = refl
    has_text (Some text) = refl

-- all names from a place on are given where this one and those behind it are
given_from : (names : List (Bor (List ℕ))) (place : ℕ) (other : Bor (List ℕ))
    (items : List Item) → place < length names
    → are_given (texts_of (drop place names)) items
    ≡ (list_any (gives (get_or names place other).now) items
    && are_given (texts_of (drop (place + 1) names)) items)
given_from names place other items low =
    let one_on : suc place ≡ place + 1 = omega arith in
    ap (λ (left : List (Bor (List ℕ))). are_given (texts_of left) items)
    (drop-cons names place other low)
    ∙ ap (λ (next : ℕ). list_any (gives (get_or names place other).now) items
    && are_given (texts_of (drop next names)) items) one_on

pub not_given : (names : List (Bor (List ℕ))) (place : ℕ) (other : Bor (List ℕ))
    (items : List Item) (found : Option (Bor (List ℕ))) → place < length names
    → bytes_in found ≡ value_of items (get_or names place other).now → is_some found ≡ false
    → are_given (texts_of (drop place names)) items ≡ false
not_given names place other items found low is lacks =
    given_from names place other items low
    ∙ ap (λ (t : Bool). t && are_given (texts_of (drop (place + 1) names)) items)
    (sym (some_found (get_or names place other).now items found is) ∙ lacks)

pub also_given : (names : List (Bor (List ℕ))) (place : ℕ) (other : Bor (List ℕ))
    (items : List Item) (found : Option (Bor (List ℕ))) → place < length names
    → bytes_in found ≡ value_of items (get_or names place other).now → is_some found ≡ true
    → are_given (texts_of (drop place names)) items
    ≡ are_given (texts_of (drop (place + 1) names)) items
also_given names place other items found low is some =
    given_from names place other items low
    ∙ ap (λ (t : Bool). t && are_given (texts_of (drop (place + 1) names)) items)
    (sym (some_found (get_or names place other).now items found is) ∙ some)

-- ---- whether the words of a form are read

-- a name is given this text
abbrev Gives : Option (List Item) → List ℕ → Option (List ℕ) → Type 0
Gives left name text = (items : List Item) → left ≡ Some items → text ≡ value_of items name

-- what is read of the items that words are
abbrev pub read_of : Option (List Item) → Option Values
read_of = option_and_then (λ items. named_values (value_of items))

-- texts that are the values of their names say what these say
pub texts_read : (value : List ℕ → Option (List ℕ))
    (batch limit lanes doors port connections number count remote after rows shipments
    : Option (List ℕ)) → batch ≡ value (codes "batch") → limit ≡ value (codes "limit")
    → lanes ≡ value (codes "lanes") → doors ≡ value (codes "doors") → port ≡ value (codes "port")
    → connections ≡ value (codes "connections") → number ≡ value (codes "number")
    → count ≡ value (codes "count") → remote ≡ value (codes "remote")
    → after ≡ value (codes "after") → rows ≡ value (codes "rows")
    → shipments ≡ value (codes "shipments")
    → values_in batch limit lanes doors port connections number count remote after rows shipments
    ≡ named_values value
texts_read value batch limit lanes doors port connections number count remote after rows shipments
    b l n d p s u c r a o m = rw (b, l, n, d, p, s, u, c, r, a, o, m) refl

pub items_read : (left : Option (List Item))
    (batch limit lanes doors port connections number count remote after rows shipments
    : Option (List ℕ)) → is_some left ≡ true → Gives left (codes "batch") batch → Gives left (codes "limit") limit
    → Gives left (codes "lanes") lanes → Gives left (codes "doors") doors
    → Gives left (codes "port") port → Gives left (codes "connections") connections
    → Gives left (codes "number") number → Gives left (codes "count") count
    → Gives left (codes "remote") remote → Gives left (codes "after") after
    → Gives left (codes "rows") rows → Gives left (codes "shipments") shipments
    → is_some (values_in batch limit lanes doors port connections number count remote after rows
    shipments)
    ≡ is_some (read_of left)
items_read None batch limit lanes doors port connections number count remote after rows shipments
    is b l n d p s u c r a o m = cc
items_read (Some items) batch limit lanes doors port connections number count remote after rows
    shipments is b l n d p s u c r a o m =
    ap (λ (values : Option Values). is_some values)
    (texts_read (value_of items) batch limit lanes doors port connections number count remote after
    rows shipments
    (b items refl) (l items refl) (n items refl) (d items refl) (p items refl) (s items refl)
    (u items refl) (c items refl) (r items refl) (a items refl) (o items refl)
    (m items refl))

pub none_read : (left : Option (List Item)) → is_some left ≡ false
    → is_some (read_of left) ≡ false
none_read None is = refl
none_read (Some items) is = cc

pub taken_all : (names : List (List ℕ)) (left : Option (List Item))
    → option_map_or (are_taken names) left false ≡ true
    → option_and_then (taken_items names) left ≡ left
taken_all names None taken = cc
taken_all names (Some items) taken = rw taken refl

pub taken_some : (names : List (List ℕ)) (left : Option (List Item))
    → option_map_or (are_taken names) left false ≡ true → is_some left ≡ true
taken_some names None taken = cc
taken_some names (Some items) taken = refl

pub not_taken_read : (names : List (List ℕ)) (left : Option (List Item))
    → option_map_or (are_taken names) left false ≡ false
    → is_some (read_of (option_and_then (taken_items names) left)) ≡ false
not_taken_read names None taken = refl
not_taken_read names (Some items) taken = rw taken refl

some_mapped : {A B : Type 0} (f : A → B) (found : Option A)
    → is_some found ≡ is_some (option_map f found)
some_mapped f None = refl
some_mapped f (Some x) = refl

values_asked : (command : Command) (left : Option (List Item)) → is_some (read_of left)
    ≡ is_some (option_and_then (λ items. wanted_values command (value_of items)) left)
values_asked command None = refl
values_asked command (Some items) = some_mapped _ (named_values (value_of items))

-- words of a command's form are read where the command asks for something by them
pub read_asked : (command : Command) (form : Form) (words : List (List ℕ)) → form ≡ form_of command
    → is_read form words ≡ is_some (command_wanted command words)
read_asked command form words is = rw is (values_asked command (items_in (form_of command) words))

lacks_some : {A : Type 0} (found : Option A) → is_some found ≡ false → found ≡ None
lacks_some None is = refl
lacks_some (Some x) is = cc

-- words of options are items of these where all of them are taken
pub taken_there : (names : List (List ℕ)) (left : Option (List Item))
    → option_map_or (are_taken names) left false
    ≡ is_some (option_and_then (taken_items names) left)
taken_there names None = refl
taken_there names (Some items) = each (are_taken names items)
  where
    each : (t : Bool) → t ≡ is_some (if t then Some items else None)
    each true = refl
    each false = refl

-- words ask for nothing where those behind the command's aren't in its form
pub none_asked : (words : List (List ℕ)) (word : List ℕ) (rest : List (List ℕ)) (command : Command)
    → words ≡ word ∷ rest → command_of word ≡ Some command
    → is_some (items_in (form_of command) rest) ≡ false → wanted_of words ≡ None
none_asked words word rest command begins named lacks =
    ap wanted_of begins ∙ ap (option_and_then (λ c. command_wanted c rest)) named
    ∙ ap (option_and_then (λ items. wanted_values command (value_of items)))
    (lacks_some (items_in (form_of command) rest) lacks)

-- what a command asks for by items
abbrev pub asked_by : Command → Option (List Item) → Option Wanted
asked_by command left = option_and_then (λ items. wanted_values command (value_of items)) left

-- each name has the value that the items give it
abbrev pub AreGiven : Option (List Item) → (List ℕ → Option (List ℕ)) → Type 0
AreGiven left value = (items : List Item) → left ≡ Some items → value ≡ value_of items

-- a command asks for nothing where a value that it was given can't be read
pub values_none : (command : Command) (left : Option (List Item)) (value : List ℕ → Option (List ℕ))
    → AreGiven left value → named_values value ≡ None → asked_by command left ≡ None
values_none command None value given none = refl
values_none command (Some items) value given none =
    ap (wanted_values command) (sym (given items refl)) ∙ rw none refl

-- what a command asks for is what was read of the values that it was given
pub asks_read : (command : Command) (left : Option (List Item)) (value : List ℕ → Option (List ℕ))
    (values : Values) (book cells : Option (List ℕ)) → is_some left ≡ true → AreGiven left value
    → named_values value ≡ Some values → book ≡ value (codes "book") → cells ≡ value (codes "cells")
    → asked_by command left ≡ Some (record {
      command = command;
      book = book;
      batch = values.batch;
      limit = values.limit;
      lanes = values.lanes;
      doors = values.doors;
      cells = cells;
      port = values.port;
      connections = values.connections;
      number = values.number;
      count = values.count;
      remote = values.remote;
      after = values.after;
      rows = values.rows;
      shipments = values.shipments;
    })
asks_read command None value values book cells some given read b c = cc
asks_read command (Some items) value values book cells some given read b c =
    ap (wanted_values command) (sym (given items refl)) ∙ rw (read, b, c) refl

no_usage : (words asked : Option Wanted) (wanted : Wanted) → words ≡ asked
    → asked ≡ Some wanted → (NoMemory ≡ Usage) ↔ (words ≡ None)
no_usage words asked wanted same is =
    (λ usage. absurd (cc), λ none. absurd (let bad : None ≡ Some wanted = sym none ∙ same ∙ is in cc))

-- words are no faulty ones where the values that their command was given are read
pub not_faulty : (words : Option Wanted) (command : Command) (left : Option (List Item))
    (value : List ℕ → Option (List ℕ)) (values : Values) → words ≡ asked_by command left
    → is_some left ≡ true → AreGiven left value → named_values value ≡ Some values
    → (NoMemory ≡ Usage) ↔ (words ≡ None)
not_faulty words command left value values same some given read =
    no_usage words (asked_by command left) _ same
    (asks_read command left value values (value (codes "book")) (value (codes "cells")) some given
    read refl refl)
