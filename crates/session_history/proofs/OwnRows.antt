-- The rows that bear a number stand in their list, each at its own number.
use Rattle.std.proofs.Common.{◌≡◌, ◌≢◌, ℕ, zero, suc, ◌+◌, ◌-◌, ◌<◌, ◌≤◌, ◌==◌, Bool, true, false, cond, List, [], ◌∷◌, ◌++◌, length, get_or, slice_get, take, drop, All, AllPairs, Option, Some, None, option_map, refl, sym, ◌∙◌, ap, subst, arith}
use Rattle.std.proofs.lemmas.Bool.{eqb-true}
use Rattle.std.proofs.lemmas.List.Elements.{All-cons, All-filter, All-nil, filter_passes}
use Rattle.std.proofs.lemmas.List.Kept.{AllPairs-cons, AllPairs-filter}
use Rattle.std.proofs.lemmas.Option.{none-some, same_Some}
use Rattle.std.specs.List.{cons_option, filter_map, range_with_len}
use Rattle.device_facts.specs.Prefix.{IsPrefixOf}
use Rattle.book_words.specs.declared.act.Entry.{Entry}
use Rattle.book_words.specs.Desks.{Row, rows_of}
use Rattle.book_words.specs.Population.{is_pass}
use Rattle.book_words.proofs.RowLemmas.{row_at}
use Rattle.book_store.specs.Callers.{own_rows}
use Rattle.lane_worker.specs.Asks.{passed_packs}
use Rattle.lane_worker.specs.Works.{AreOpened, StandBehind}
use Rattle.session_history.specs.Gates.{HasPassed}
use Rattle.session_history.specs.Rows.{StandsIn}
use Rattle.session_history.proofs.ManyLists.{all_left, all_right, pairs_none, pairs_right, pairs_weaker}

-- ---- the rows of a list

-- a row rises behind another
abbrev pub Rises : Row → Row → Type 0
Rises r s = r.number < s.number

module _ (entries : List Entry) where
  abbrev some_rows : ℕ → ℕ → List Row
  some_rows from many = filter_map (row_at entries) (range_with_len from many)

  stand_from : (from many : ℕ) → All (StandsIn entries) (some_rows from many)
  stand_from from zero = All-nil (StandsIn entries)
  stand_from from (suc many) =
      first (slice_get entries from) refl (stand_from (from + 1) many)
    where
      first : (o : Option Entry) → slice_get entries from ≡ o
          → All (StandsIn entries) (some_rows (from + 1) many)
          → All (StandsIn entries) (cons_option
          (option_map (λ (e : Entry). record { number = from + 1; entry = e }) o)
          (some_rows (from + 1) many))
      first None is rest = rest
      first (Some e) is rest =
          let place : from + 1 - 1 ≡ from = omega arith in
          All-cons (StandsIn entries) (record { number = from + 1; entry = e })
          (some_rows (from + 1) many)
          (omega arith, ap (slice_get entries) place ∙ is) rest

  above_from : (low from many : ℕ) → low ≤ from
      → All (λ (r : Row). low < r.number) (some_rows from many)
  above_from low from zero less = All-nil (λ (r : Row). low < r.number)
  above_from low from (suc many) less =
      first (slice_get entries from) (above_from low (from + 1) many (omega (arith, less)))
    where
      first : (o : Option Entry) → All (λ (r : Row). low < r.number) (some_rows (from + 1) many)
          → All (λ (r : Row). low < r.number) (cons_option
          (option_map (λ (e : Entry). record { number = from + 1; entry = e }) o)
          (some_rows (from + 1) many))
      first None rest = rest
      first (Some e) rest = All-cons (λ (r : Row). low < r.number)
          (record { number = from + 1; entry = e }) (some_rows (from + 1) many)
          (omega (arith, less)) rest

  rise_from : (from many : ℕ) → AllPairs Rises (some_rows from many)
  rise_from from zero = pairs_none Rises
  rise_from from (suc many) = first (slice_get entries from) (rise_from (from + 1) many)
    where
      first : (o : Option Entry) → AllPairs Rises (some_rows (from + 1) many)
          → AllPairs Rises (cons_option
          (option_map (λ (e : Entry). record { number = from + 1; entry = e }) o)
          (some_rows (from + 1) many))
      first None rest = rest
      first (Some e) rest = AllPairs-cons Rises (record { number = from + 1; entry = e })
          (some_rows (from + 1) many) (above_from (from + 1) (from + 1) many (omega arith)) rest

-- ---- those that bear a number

-- a row stands in a list, and bears a number
pub record StandsAs (entries : List Entry) (by : ℕ) (row : Row) : Type 0 where
  pub stands : StandsIn entries row
  pub bears : row.entry.by ≡ by

module _ (by : ℕ) (entries : List Entry) where
  own_stand : All (StandsAs entries by) (own_rows by entries)
  own_stand = λ k d inside. record {
    stands = All-filter (λ (row : Row). row.entry.by == by) (StandsIn entries) (rows_of entries)
        (stand_from entries 0 (length entries)) k d inside;
    bears = eqb-true (get_or (own_rows by entries) k d).entry.by by
        (filter_passes (λ (row : Row). row.entry.by == by) (rows_of entries) k d inside);
  }

  own_rise : AllPairs Rises (own_rows by entries)
  own_rise = AllPairs-filter Rises (λ (row : Row). row.entry.by == by) (rows_of entries)
      (rise_from entries 0 (length entries))

  -- so it is of the last of them
  module _ (before added : List Row) (parts : own_rows by entries ≡ before ++ added) where
    pub added_stand : All (StandsAs entries by) added
    added_stand = all_right (StandsAs entries by) before added
        (subst (All (StandsAs entries by)) parts own_stand)

    pub added_apart : AllPairs (λ (r s : Row). r.number ≢ s.number) added
    added_apart = pairs_weaker Rises (λ (r s : Row). r.number ≢ s.number)
        (λ r s less same. absurd (omega (arith, less, same))) added
        (pairs_right Rises before added (subst (AllPairs Rises) parts own_rise))

-- rows that bear different numbers stand at different ones
pub apart_by : (entries : List Entry) (by other : ℕ) → by ≢ other → (r s : Row)
    → StandsAs entries by r → StandsAs entries other s → r.number ≢ s.number
apart_by entries by other differ r s one two same =
    let entry : r.entry ≡ s.entry = same_Some r.entry s.entry
    (sym one.stands.1 ∙ (ap (λ n. slice_get entries (n - 1)) same ∙ two.stands.1)) in
    differ (sym one.bears ∙ (ap (λ (e : Entry). e.by) entry ∙ two.bears))

-- ---- rows behind others

slice_get_on : (entries more : List Entry) (place : ℕ) (entry : Entry)
    → slice_get entries place ≡ Some entry → slice_get (entries ++ more) place ≡ Some entry
slice_get_on [] more place entry is = absurd (none-some entry is)
slice_get_on (e ∷ es) more zero entry is = is
slice_get_on (e ∷ es) more (suc place) entry is = slice_get_on es more place entry is

-- an entry parts its list
pub parted : (entries : List Entry) (place : ℕ) (entry : Entry) → slice_get entries place ≡ Some entry
    → entries ≡ take place entries ++ entry ∷ drop (suc place) entries
parted [] place entry is = absurd (none-some entry is)
parted (e ∷ es) zero entry is = ap (λ (x : Entry). x ∷ es) (same_Some e entry is)
parted (e ∷ es) (suc place) entry is = ap (λ (xs : List Entry). e ∷ xs) (parted es place entry is)

-- rows stand in a list that goes on
pub stand_on : (entries others : List Entry) → IsPrefixOf entries others → (by number : ℕ)
    (rows : List Row) → StandBehind entries by number rows → StandBehind others by number rows
stand_on entries others begins by number [] stand = tt
stand_on entries others begins by number (row ∷ rows) stand = (
  stand.0,
  ap (λ (es : List Entry). slice_get es (row.number - 1)) begins.1
      ∙ slice_get_on entries begins.0 (row.number - 1) row.entry stand.1,
  stand.2,
  stand_on entries others begins by row.number rows stand.3,
)

-- ---- packs

passed_stand : (entries : List Entry) (by number : ℕ) (rows : List Row)
    → StandBehind entries by number rows → All (HasPassed entries by) (passed_packs rows)
passed_stand entries by number [] stand = All-nil (HasPassed entries by)
passed_stand entries by number (row ∷ rows) stand =
    first (is_pass row.entry.signal) refl (passed_stand entries by row.number rows stand.3)
  where
    first : (b : Bool) → is_pass row.entry.signal ≡ b → All (HasPassed entries by) (passed_packs rows)
        → All (HasPassed entries by)
        (cons_option (cond b (Some row.number) None) (passed_packs rows))
    first false is rest = rest
    first true is rest = All-cons (HasPassed entries by) row.number (passed_packs rows) (record {
      entry = row.entry;
      stands = (omega (arith, stand.0), stand.1);
      by = stand.2;
      passed = is;
    }) rest

-- the packs for which a gate opened have their rows
pub opened_stand : (entries : List Entry) (by number : ℕ) (rows : List Row) (failed : Bool)
    (opened : List ℕ) → StandBehind entries by number rows
    → AreOpened failed (passed_packs rows) opened → All (HasPassed entries by) opened
opened_stand entries by number rows false opened stand all =
    subst (All (HasPassed entries by)) all (passed_stand entries by number rows stand)
opened_stand entries by number rows true opened stand all =
    all_left (HasPassed entries by) opened (all.0 ∷ [])
    (subst (All (HasPassed entries by)) all.1 (passed_stand entries by number rows stand))
