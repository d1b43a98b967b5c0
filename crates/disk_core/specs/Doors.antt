-- What a door tells of its connections, and what its calls do to them.
use Rattle.std.specs.Prelude.{◌≡◌, ℕ, List, [], ◌∷◌, ◌++◌, length, drop, Bool, Option, Some, None, option_map, option_to_list, is_some, IfSome, Result, Ok, Err}
use Rattle.std.specs.Option.{option_map_or}

-- a connection: the bytes that it has left, those taken from it, and those written to it
pub record Connection : Type 0 where
  pub left : List ℕ
  pub taken : List ℕ
  pub written : List ℕ

-- the connections of a door: those that were served and left, in order; the present one, if there is
-- one; and those that wait, each with the bytes that it will give
pub record Connections : Type 0 where
  pub past : List Connection
  pub present : Option Connection
  pub waiting : List (List ℕ)

-- those that were served, the present one last
abbrev pub served : Connections → List Connection
served all = all.past ++ option_to_list all.present

-- a connection that begins: nothing was taken from it or written to it yet
abbrev pub new_connection : List ℕ → Connection
new_connection bytes = record { left = bytes; taken = []; written = [] }

-- the first of those that wait, as it begins, and those behind it
abbrev pub first_connection : List (List ℕ) → Option Connection
first_connection [] = None
first_connection (bytes ∷ others) = Some (new_connection bytes)

abbrev pub behind_first : List (List ℕ) → List (List ℕ)
behind_first [] = []
behind_first (bytes ∷ others) = others

-- the connections when the next is admitted: the present one is left, and the first that waits is
-- present now; where none waits none is present
abbrev pub next_connections : Connections → Connections
next_connections all = record {
  past = served all;
  present = first_connection all.waiting;
  waiting = behind_first all.waiting;
}

-- what `next` answers and does: the next connection is admitted, and the answer says whether one is
-- present now; where it fails, all stay as they were
abbrev pub AdmitsNext : {E : Type 0} → Option Connections → Option Connections → Result Bool E
    → Type 0
AdmitsNext was now (Ok found) = (now ≡ option_map next_connections was)
    × IfSome now (λ all. found ≡ is_some all.present)
AdmitsNext was now (Err error) = now ≡ was

-- what a connection has left, and what was written to it; nothing where there is none
abbrev pub connection_left : Option Connection → List ℕ
connection_left connection = option_map_or (λ (c : Connection). c.left) connection []

abbrev pub connection_written : Option Connection → List ℕ
connection_written connection = option_map_or (λ (c : Connection). c.written) connection []

-- the same of the present connection
abbrev pub left_now : Connections → List ℕ
left_now all = connection_left all.present

abbrev pub written_now : Connections → List ℕ
written_now all = connection_written all.present

-- a connection from which some bytes more were taken
abbrev pub add_taken : List ℕ → Connection → Connection
add_taken bytes c = record c { left = drop (length bytes) c.left; taken = c.taken ++ bytes }

-- a connection to which some bytes more were written
abbrev pub add_written : List ℕ → Connection → Connection
add_written bytes c = record c { written = c.written ++ bytes }

-- the connections when some bytes more were taken from the present one, or written to it
abbrev pub with_taken : List ℕ → Connections → Connections
with_taken bytes all = record all { present = option_map (add_taken bytes) all.present }

abbrev pub with_written : List ℕ → Connections → Connections
with_written bytes all = record all { present = option_map (add_written bytes) all.present }
