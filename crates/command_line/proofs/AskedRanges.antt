-- The ranges of the numbers that words ask for.
use Rattle.std.proofs.Common.{◌≡◌, ℕ, ◌≤◌, ◌&&◌, ◌^◌, ◌-◌, nat_le, Bool, true, false, List, [], ◌∷◌, codes, if◌then◌else◌, Option, Some, None, IfSome, is_some, ◌∙◌, option_map, option_and_then, refl, subst, arith}
use Rattle.std.specs.Prelude.{⊤}
use Rattle.std.proofs.lemmas.Bool.{and_parts}
use Rattle.std.proofs.lemmas.Bool.Decides.{nat_tests}
use Rattle.hall_limits.specs.declared.TheConstants.{MAX_DOOR, MAX_LANE, MAX_ROWS, MAX_TRIAL}
use Rattle.book_words.specs.Names.{name_of}
use Rattle.book_words.specs.declared.name.Name.{Name}
use Rattle.hall_units.specs.Number.{bounded_number}
use Rattle.command_line.specs.declared.types.Command.{Command}
use Rattle.command_line.specs.declared.types.Command.TheVariants.{Paper, Trial}
use Rattle.command_line.specs.declared.table.NumberForm.{NumberForm}
use Rattle.command_line.specs.declared.table.TheConstants.{AFTER, CONNECTIONS, COUNT, DOORS, LANES, LIMIT, ROWS, SHIPMENTS}
use Rattle.command_line.specs.declared.table.TheConstants.{MAX_DOOR_CONNECTIONS, MAX_PORT, MAX_SHIPMENTS, NUMBER, PORT}
use Rattle.command_line.specs.declared.values.Values.{Values}
use Rattle.command_line.specs.Taken.{IsInRange}
use Rattle.command_line.specs.Words.{Item, Wanted, are_given, batch_in, command_of, form_of, given_items, given_number, in_range, items_in}
use Rattle.command_line.specs.Words.{number_in, placed_items, read_items, stands_alone, taken_items, value_of, values_in}
use Rattle.command_line.proofs.GivenValues.{value_some}
use Rattle.command_line.specs.Words.{named_values, command_wanted, wanted_of, wanted_values, with_item}

-- ---- steps that may find nothing

some_same : {A : Type 0} (x y : A) → Some x ≡ Some y → x ≡ y
some_same x y same = cc

-- what is found behind a first step is found from what that step found
then_gives : {A B : Type 0} (P : Type 0) (f : A → Option B) (first : Option A) (found : B)
    → option_and_then f first ≡ Some found → ((x : A) → first ≡ Some x → f x ≡ Some found → P) → P
then_gives P f None found is each = absurd cc
then_gives P f (Some x) found is each = each x refl is

map_gives : {A B : Type 0} (P : B → Type 0) (f : A → B) (first : Option A) (found : B)
    → option_map f first ≡ Some found → ((x : A) → first ≡ Some x → P (f x)) → P found
map_gives P f None found is each = absurd cc
map_gives P f (Some x) found is each = subst P (some_same (f x) found is) (each x refl)

-- ---- numbers

-- a number between these two
record IsWithin (least most number : ℕ) : Type 0 where
  from : least ≤ number
  to : number ≤ most

in_bounds : (form : NumberForm) (n number : ℕ) → in_range form n ≡ Some number
    → IsWithin form.least form.most number
in_bounds form n number is = go (nat_le form.least n) (nat_le n form.most) refl refl is
  where
    go : (a b : Bool) → nat_le form.least n ≡ a → nat_le n form.most ≡ b → (if
        (a && b) then Some n else None) ≡ Some number → IsWithin form.least form.most number
    go true true least most here = subst (IsWithin form.least form.most) (some_same n number here)
        (record { from = grind (arith, nat_tests, least); to = grind (arith, nat_tests, most) })
    go true false least most here = absurd cc
    go false b least most here = absurd cc

given_within : (form : NumberForm) (text : List ℕ) (number : ℕ)
    → number_in form (Some text) ≡ Some number → IsWithin form.least form.most number
given_within form text number is = then_gives (IsWithin form.least form.most number)
    (in_range form) (bounded_number 20 (2 ^ 64 - 1) text) number is
    (λ n read here. in_bounds form n number here)

-- where the number without a text is in the range too, each is
number_within : (form : NumberForm) (given : Option (List ℕ)) (number : ℕ)
    → form.least ≤ form.absent → form.absent ≤ form.most → number_in form given ≡ Some number
    → IsWithin form.least form.most number
number_within form None number least most is =
    subst (IsWithin form.least form.most) (some_same form.absent number is)
    (record { from = least; to = most })
number_within form (Some text) number least most is = given_within form text number is

-- how many packs are asked for: none, where no text says so
count_within : (given : Option (List ℕ)) (count : ℕ) → number_in COUNT given ≡ Some count
    → IsWithin 0 MAX_TRIAL count
count_within None count is = subst (IsWithin 0 MAX_TRIAL) (some_same 0 count is)
    (record { from = omega arith; to = omega arith })
count_within (Some text) count is =
    let within = given_within COUNT text count is in
    record { from = omega arith; to = within.to }

-- the port of a lane's cell, where one is given
abbrev PortWithin : Option ℕ → Type 0
PortWithin port = IfSome port (λ p. (1 ≤ p) × (p ≤ MAX_PORT))

remote_within : (given : Option (List ℕ)) (remote : Option ℕ) → given_number PORT given ≡ Some remote
    → PortWithin remote
remote_within None remote is = subst PortWithin (some_same None remote is) tt
remote_within (Some text) remote is = map_gives PortWithin _ (number_in PORT (Some text)) remote is
    (λ port port_is. let within = given_within PORT text port port_is in (within.from, within.to))

-- ---- the values of a command

-- the least number of packs by what is given
abbrev LeastPacks : Option (List ℕ) → ℕ → Type 0
LeastPacks None count = ⊤
LeastPacks (Some text) count = 1 ≤ count

least_packs : (given : Option (List ℕ)) (count : ℕ) → number_in COUNT given ≡ Some count
    → LeastPacks given count
least_packs None count is = tt
least_packs (Some text) count is = (given_within COUNT text count is).from

-- the batch where one is given
abbrev IsNamed : Option (List ℕ) → Option Name → Type 0
IsNamed None batch = ⊤
IsNamed (Some text) batch = is_some batch ≡ true

is_named : (given : Option (List ℕ)) (batch : Option Name) → batch_in given ≡ Some batch
    → IsNamed given batch
is_named None batch is = tt
is_named (Some text) batch is = map_gives (λ (b : Option Name). is_some b ≡ true) _
    (name_of text) batch is (λ name named. refl)

record AreWithin (batch given : Option (List ℕ)) (values : Values) : Type 0 where
  limit : IsWithin 1 MAX_ROWS values.limit
  lanes : IsWithin 0 MAX_LANE values.lanes
  doors : IsWithin 0 MAX_DOOR values.doors
  port : IsWithin 1 MAX_PORT values.port
  connections : IsWithin 1 MAX_DOOR_CONNECTIONS values.connections
  count : IsWithin 0 MAX_TRIAL values.count
  some : LeastPacks given values.count
  remote : PortWithin values.remote
  after : IsWithin 0 MAX_ROWS values.after
  rows : IsWithin 0 MAX_ROWS values.rows
  shipments : IsWithin 1 MAX_SHIPMENTS values.shipments
  named : IsNamed batch values.batch

values_within :
    (batch limit lanes doors port connections number count remote after rows shipments
    : Option (List ℕ)) (values : Values)
    → values_in batch limit lanes doors port connections number count remote after rows shipments
    ≡ Some values
    → AreWithin batch count values
values_within batch limit lanes doors port connections number count remote after rows shipments
    values is =
    then_gives (AreWithin batch count values) _ (batch_in batch) values is (λ b batch_is one.
    then_gives (AreWithin batch count values) _ (number_in LIMIT limit) values one (λ l limit_is two.
    then_gives (AreWithin batch count values) _ (number_in LANES lanes) values two (λ n lanes_is three.
    then_gives (AreWithin batch count values) _ (number_in DOORS doors) values three (λ d doors_is four.
    then_gives (AreWithin batch count values) _ (number_in PORT port) values four (λ p port_is five.
    then_gives (AreWithin batch count values) _ (number_in CONNECTIONS connections) values five
    (λ s connections_are six.
    then_gives (AreWithin batch count values) _ (number_in NUMBER number) values six
    (λ u number_is seven.
    then_gives (AreWithin batch count values) _ (number_in COUNT count) values seven (λ c count_is eight.
    then_gives (AreWithin batch count values) _ (given_number PORT remote) values eight
    (λ r remote_is nine.
    then_gives (AreWithin batch count values) _ (number_in AFTER after) values nine
    (λ a after_is ten.
    then_gives (AreWithin batch count values) _ (number_in ROWS rows) values ten (λ o rows_are eleven.
    map_gives (AreWithin batch count) _ (number_in SHIPMENTS shipments) values eleven
    (λ m shipments_are. record {
      limit = number_within LIMIT limit l (omega arith) (omega arith) limit_is;
      lanes = number_within LANES lanes n (omega arith) (omega arith) lanes_is;
      doors = number_within DOORS doors d (omega arith) (omega arith) doors_is;
      port = number_within PORT port p (omega arith) (omega arith) port_is;
      connections =
          number_within CONNECTIONS connections s (omega arith) (omega arith) connections_are;
      count = count_within count c count_is;
      some = least_packs count c count_is;
      remote = remote_within remote r remote_is;
      after = number_within AFTER after a (omega arith) (omega arith) after_is;
      rows = number_within ROWS rows o (omega arith) (omega arith) rows_are;
      shipments = number_within SHIPMENTS shipments m (omega arith) (omega arith) shipments_are;
      named = is_named batch b batch_is;
    }))))))))))))

-- the two words of a trial say how many packs it has
count_placed : (words : List (List ℕ)) (items : List Item)
    → items_in (form_of Trial) words ≡ Some items
    → (text : List ℕ) × (value_of items (codes "count") ≡ Some text)
count_placed [] items is = absurd cc
count_placed (number ∷ []) items is = absurd (go (stands_alone number) is)
  where
    go : (t : Bool) → (if t then with_item (codes "number") number None else None) ≡ Some items → ⊥
    go true here = cc
    go false here = cc
count_placed (number ∷ count ∷ words) items is =
    go (stands_alone number) (stands_alone count) words is
  where
    go : (a b : Bool) (left : List (List ℕ))
        → (if a then with_item (codes "number") number
        (if b then with_item (codes "count") count (placed_items [] left) else None) else None)
        ≡ Some items
        → (text : List ℕ) × (value_of items (codes "count") ≡ Some text)
    go true true [] here = (
      count,
      subst (λ (list : List Item).
          value_of list (codes "count") ≡ Some count) (some_same _ items here) refl,
    )
    go true true (word ∷ left) here = absurd cc
    go true false left here = absurd cc
    go false b left here = absurd cc

some_text : {A : Type 0} (found : Option A) → is_some found ≡ true → (x : A) × (found ≡ Some x)
some_text None is = absurd (cc)
some_text (Some x) is = (x, refl)

-- the options of a paper say which batch it is of
batch_given : (words : List (List ℕ)) (items : List Item)
    → items_in (form_of Paper) words ≡ Some items
    → (text : List ℕ) × (value_of items (codes "batch") ≡ Some text)
batch_given words items is = then_gives _ (given_items names)
    (option_and_then (taken_items names) (read_items None words)) items is
    (λ found found_is here. go found (are_given names found) refl here)
  where
    names : List (List ℕ)
    names = codes "book" ∷ codes "batch" ∷ []

    go : (found : List Item) (t : Bool) → are_given names found ≡ t
        → (if t then Some found else None) ≡ Some items
        → (text : List ℕ) × (value_of items (codes "batch") ≡ Some text)
    go found true given here =
        let parts = and_parts _ _ (and_parts _ _ given).1 in
        some_text (value_of items (codes "batch"))
        (subst (λ (list : List Item). is_some (value_of list (codes "batch")) ≡ true)
        (some_same found items here) (value_some (codes "batch") found ∙ parts.0))
    go found false given here = absurd cc

-- ---- what words ask for

by_values : (command : Command) (items : List Item) (wanted : Wanted)
    → (command ≡ Trial → (text : List ℕ) × (value_of items (codes "count") ≡ Some text))
    → (command ≡ Paper → (text : List ℕ) × (value_of items (codes "batch") ≡ Some text))
    → wanted_values command (value_of items) ≡ Some wanted → IsInRange wanted
by_values command items wanted given named is =
    map_gives IsInRange _ (named_values (value_of items)) wanted is (λ values values_are.
    let within = values_within (value_of items (codes "batch")) (value_of items (codes "limit"))
    (value_of items (codes "lanes")) (value_of items (codes "doors"))
    (value_of items (codes "port")) (value_of items (codes "connections"))
    (value_of items (codes "number")) (value_of items (codes "count"))
    (value_of items (codes "remote")) (value_of items (codes "after")) (value_of items (codes "rows"))
    (value_of items (codes "shipments")) values values_are in
    record {
      least = within.limit.from;
      most = within.limit.to;
      lanes = within.lanes.to;
      doors = within.doors.to;
      port_least = within.port.from;
      port_most = within.port.to;
      connections_least = within.connections.from;
      connections_most = within.connections.to;
      remote = within.remote;
      after = within.after.to;
      rows = within.rows.to;
      shipments_least = within.shipments.from;
      shipments_most = within.shipments.to;
      packs = within.count.to;
      some = λ trial.
          let text = given trial in
          subst (λ (o : Option (List ℕ)). LeastPacks o values.count) text.1 within.some;
      named = λ paper.
          let text = named paper in
          subst (λ (o : Option (List ℕ)). IsNamed o values.batch) text.1 within.named;
    })

by_command : (command : Command) (words : List (List ℕ)) (wanted : Wanted)
    → command_wanted command words ≡ Some wanted → IsInRange wanted
by_command command words wanted is =
    then_gives (IsInRange wanted) (λ items. wanted_values command (value_of items))
    (items_in (form_of command) words) wanted is (λ items items_are here.
    by_values command items wanted (λ trial. count_placed words items
    (subst (λ (c : Command). items_in (form_of c) words ≡ Some items) trial items_are))
    (λ paper. batch_given words items
    (subst (λ (c : Command). items_in (form_of c) words ≡ Some items) paper items_are)) here)

pub asked_in_range : (words : List (List ℕ)) (wanted : Wanted) → wanted_of words ≡ Some wanted
    → IsInRange wanted
asked_in_range [] wanted is = absurd cc
asked_in_range (word ∷ words) wanted is =
    then_gives (IsInRange wanted) (λ command. command_wanted command words) (command_of word) wanted is
    (λ command named here. by_command command words wanted here)
