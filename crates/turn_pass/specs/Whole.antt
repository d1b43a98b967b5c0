-- What the passes of a session make together, and what its close tells.
use Rattle.std.specs.Prelude.{◌≡◌, ◌≢◌, ℕ, ◌+◌, ◌-◌, ◌^◌, List, length, map, min}
use Rattle.std.specs.Prelude.{All, AllPairs, Contains}
use Rattle.std.specs.List.{sum_by}
use Rattle.turn_pass.specs.declared.entries.Appended.{Appended}
use Rattle.turn_pass.specs.History.{BookState, PassState, Agrees, known_of, own_of}

module _ {E : Type 0} where
  -- the own entries of all passes are the list: they are as many, those of each pass are all lines
  -- with its number, in order, and no line has another number
  pub record MakeAll (history : ℕ) (list : List (Appended E)) (passes : List (PassState E))
      : Type 0 where
    pub total : length list ≡ sum_by (λ (p : PassState E). length p.mine) passes
    pub each : All (λ (p : PassState E). p.mine ≡ own_of p.by history list) passes
    pub others :
        All (λ (l : Appended E). Contains (map (λ (p : PassState E). p.by) passes) l.by) list

  -- what `Turn::close` says, clause by clause
  pub record IsClosed (book : BookState E) (passes : List (PassState E)) (rows faults : ℕ)
      : Type 0 where
    pub count : rows ≡ book.history + length book.list
    pub counter : faults ≡ min book.faults (2 ^ 64 - 1)
    pub rows_booked : sum_by (λ (p : PassState E). p.rows) passes ≡ length book.list
    pub faults_booked : sum_by (λ (p : PassState E). p.faults) passes ≡ book.faults
    pub agree : All (λ (p : PassState E). Agrees book.history book.list (known_of p)) passes
    pub apart : AllPairs (λ (p q : PassState E). p.by ≢ q.by) passes
    pub whole : All (λ (p : PassState E). p.rows ≡ length p.mine) passes
        → MakeAll book.history book.list passes
