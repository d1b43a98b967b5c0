-- The requests of desks among the rows.
use Rattle.std.specs.Prelude.{◌≡◌, ◌==◌, ◌<◌, ℕ, List, length, map, filter}
use Rattle.std.specs.List.{range_with_len}
use Rattle.book_words.specs.declared.act.Entry.{Entry}

-- the numbers of the requests of a desk that were taken down, in the order of their rows
abbrev pub requests_of : List Entry → ℕ → List ℕ
requests_of rows desk = map (λ row. row.request) (filter (λ row. row.desk == desk) rows)

-- of each desk the requests 1, 2, 3 and so on were taken down, each once and in this order; so a
-- request that comes again acts once
abbrev pub RequestsOnce : List Entry → Type 0
RequestsOnce rows =
    (desk : ℕ) → 0 < desk
    → requests_of rows desk ≡ range_with_len 1 (length (requests_of rows desk))
