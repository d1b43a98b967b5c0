-- The rows of a caller that adds all rows of a list from some on.
use Rattle.std.proofs.Common.{◌≡◌, ℕ, ◌+◌, ◌-◌, ◌≤◌, List, [], ◌∷◌, ◌++◌, length, map, drop, slice_get, Some, refl, sym, ◌∙◌, ap, subst, arith}
use Rattle.std.proofs.lemmas.List.{drop_all, drop_at, drop_more}
use Rattle.std.proofs.lemmas.Option.{slice_get_within, get_or_from_slice_get}
use Rattle.std.specs.List.{AllByRecursion}
use Rattle.device_facts.specs.Prefix.{IsPrefixOf}
use Rattle.book_words.specs.declared.act.Entry.{Entry}
use Rattle.book_words.specs.Desks.{Row}
use Rattle.lane_worker.specs.Works.{StandBehind}
use Rattle.script_events.specs.LaneWorks.{AreNumbered}

-- ---- rows that stand behind so many entries

-- there is room for them
pub have_room : (entries : List Entry) (by number : ℕ) (rows : List Row) → number ≤ length entries
    → StandBehind entries by number rows → number + length rows ≤ length entries
have_room entries by number [] few stand = omega (arith, few)
have_room entries by number (row ∷ rows) few stand =
    let inside = slice_get_within entries (row.number - 1) row.entry stand.1 in
    let rest = have_room entries by row.number rows (omega (arith, stand.0, inside)) stand.3 in
    omega (arith, stand.0, rest)

-- where they fill the list, the first is the next
next_number : (entries : List Entry) (by number : ℕ) (row : Row) (rows : List Row)
    → StandBehind entries by number (row ∷ rows) → number + length (row ∷ rows) ≡ length entries
    → row.number ≡ number + 1
next_number entries by number row rows stand fills =
    let inside = slice_get_within entries (row.number - 1) row.entry stand.1 in
    let rest = have_room entries by row.number rows (omega (arith, stand.0, inside)) stand.3 in
    omega (arith, stand.0, rest, fills)

rest_stands : (entries : List Entry) (by number : ℕ) (row : Row) (rows : List Row)
    → StandBehind entries by number (row ∷ rows) → number + length (row ∷ rows) ≡ length entries
    → StandBehind entries by (number + 1) rows
rest_stands entries by number row rows stand fills =
    subst (λ (n : ℕ). StandBehind entries by n rows)
    (next_number entries by number row rows stand fills) stand.3

-- they are numbered on
pub are_numbered : (entries : List Entry) (by number : ℕ) (rows : List Row)
    → StandBehind entries by number rows → number + length rows ≡ length entries
    → AreNumbered number rows
are_numbered entries by number [] stand fills = tt
are_numbered entries by number (row ∷ rows) stand fills = (
  next_number entries by number row rows stand fills,
  are_numbered entries by (number + 1) rows
      (rest_stands entries by number row rows stand fills) (omega (arith, fills)),
)

-- they are the caller's
pub are_own : (entries : List Entry) (by number : ℕ) (rows : List Row)
    → StandBehind entries by number rows → AllByRecursion (λ row. row.entry.by ≡ by) rows
are_own entries by number [] stand = tt
are_own entries by number (row ∷ rows) stand =
    (stand.2, are_own entries by row.number rows stand.3)

-- their entries are those of the list from there on
pub are_all : (entries : List Entry) (by number : ℕ) (rows : List Row)
    → StandBehind entries by number rows → number + length rows ≡ length entries
    → drop number entries ≡ map (λ row. row.entry) rows
are_all entries by number [] stand fills = drop_all number entries (omega (arith, fills))
are_all entries by number (row ∷ rows) stand fills =
    let is = next_number entries by number row rows stand fills in
    let at : slice_get entries number ≡ Some row.entry =
    subst (λ (n : ℕ). slice_get entries n ≡ Some row.entry) (less row.number number is) stand.1 in
    drop_more entries number row.entry (slice_get_within entries number row.entry at)
    ∙ ap (λ (e : Entry). e ∷ drop (number + 1) entries)
    (get_or_from_slice_get entries number row.entry row.entry at)
    ∙ ap (λ (es : List Entry). row.entry ∷ es)
    (are_all entries by (number + 1) rows (rest_stands entries by number row rows stand fills)
    (omega (arith, fills)))
  where
    less : (a b : ℕ) → a ≡ b + 1 → a - 1 ≡ b
    less a b is = omega (arith, is)

-- a list that begins with another goes on by what is left without it
pub goes_by : (a b : List Entry) → IsPrefixOf a b → b ≡ a ++ drop (length a) b
goes_by a b (more, parts) = parts
    ∙ ap (λ (es : List Entry). a ++ es)
    (sym (ap (drop (length a)) parts ∙ drop_at a more (length a) refl))
