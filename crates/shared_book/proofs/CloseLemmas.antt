-- The rows that a session made are the own rows of its passes.
use Rattle.std.proofs.Common.{◌≡◌, ℕ, ◌+◌, nat_eq, ◌==◌, true, false, List, [], ◌∷◌, ◌++◌, length, map, All, Contains, AllPairs, ◌≢◌}
use Rattle.std.proofs.Common.{refl, sym, ap, ◌∙◌, subst, append_assoc, append-nil, length-append}
use Rattle.std.specs.List.{filter}
use Rattle.std.proofs.lemmas.List.{length-map}
use Rattle.std.proofs.lemmas.List.Elements.{All-head, All-tail, All-map, All-weaker, filter-append}
use Rattle.device_facts.specs.Prefix.{IsPrefixOf}
use Rattle.turn_pass.specs.declared.entries.Appended.{Appended}
use Rattle.turn_pass.specs.declared.entries.Own.{Own}
use Rattle.turn_pass.specs.History.{PassState, Agrees, known_of as known_in, own_of}
use Rattle.turn_pass.specs.Whole.{MakeAll}
use Rattle.book_words.specs.declared.act.Entry.{Entry}
use Rattle.book_words.specs.Desks.{Row, rows_of}
use Rattle.book_words.proofs.PlainLemmas.{in_both}
use Rattle.book_words.proofs.RowLemmas.{rows_push}
use Rattle.book_store.specs.Callers.{own_rows}
use Rattle.shared_book.specs.Closing.{MakeRows}
use Rattle.shared_book.specs.Passes.{entries_in, row_of}
use Rattle.shared_book.proofs.AskLemmas.{seen_begins}

-- each line bears the number that its entry bears
abbrev IsMarked : Appended Entry → Type 0
IsMarked line = line.by ≡ line.entry.by

-- the rows of a caller with one entry more
rows_with : (by : ℕ) (before : List Entry) (entry : Entry)
    → own_rows by (before ++ entry ∷ []) ≡ own_rows by before
    ++ filter (λ (row : Row). row.entry.by == by)
    (record { number = length before + 1; entry = entry } ∷ [])
rows_with by before entry =
    ap (filter (λ (row : Row). row.entry.by == by)) (rows_push before entry)
    ∙ filter-append (λ (row : Row). row.entry.by == by) (rows_of before)
    (record { number = length before + 1; entry = entry } ∷ [])

module _ (by : ℕ) (before : List Entry) (line : Appended Entry) (list : List (Appended Entry))
    (marked : IsMarked line)
    (rest : own_rows by ((before ++ line.entry ∷ []) ++ entries_in list)
    ≡ own_rows by (before ++ line.entry ∷ [])
    ++ map row_of (own_of by (length (before ++ line.entry ∷ [])) list)) where
  longer_by : length (before ++ line.entry ∷ []) ≡ length before + 1
  longer_by = length-append before (line.entry ∷ [])

  behind : own_rows by (before ++ entries_in (line ∷ list))
      ≡ own_rows by (before ++ line.entry ∷ [])
      ++ map row_of (own_of by (length before + 1) list)
  behind = ap (own_rows by) (sym (append_assoc before (line.entry ∷ []) (entries_in list)))
      ∙ (rest ∙ ap (λ (n : ℕ). own_rows by (before ++ line.entry ∷ [])
      ++ map row_of (own_of by n list)) longer_by)

  same_test : (line.entry.by == by) ≡ nat_eq line.by by
  same_test = ap (λ (n : ℕ). nat_eq n by) (sym marked)

  more_rows : own_rows by (before ++ entries_in (line ∷ list))
      ≡ own_rows by before ++ map row_of (own_of by (length before) (line ∷ list))
  more_rows = in_both (nat_eq line.by by)
      (λ is. let its : (line.entry.by == by) ≡ true = same_test ∙ is in
      behind ∙ (ap (λ (rows : List Row). rows ++ map row_of (own_of by (length before + 1) list))
      (rows_with by before line.entry ∙ rw its refl)
      ∙ (append_assoc (own_rows by before)
      (record { number = length before + 1; entry = line.entry } ∷ [])
      (map row_of (own_of by (length before + 1) list)) ∙ rw is refl)))
      (λ is. let its : (line.entry.by == by) ≡ false = same_test ∙ is in
      behind ∙ (ap (λ (rows : List Row). rows ++ map row_of (own_of by (length before + 1) list))
      (rows_with by before line.entry ∙ (rw its refl ∙ append-nil (own_rows by before)))
      ∙ rw is refl))

-- the rows of a caller behind those of before are the lines with its number
own_behind : (by : ℕ) (before : List Entry) (list : List (Appended Entry)) → All IsMarked list
    → own_rows by (before ++ entries_in list)
    ≡ own_rows by before ++ map row_of (own_of by (length before) list)
own_behind by before [] marked =
    ap (own_rows by) (append-nil before) ∙ sym (append-nil (own_rows by before))
own_behind by before (line ∷ list) marked =
    more_rows by before line list (All-head IsMarked line list marked)
    (own_behind by (before ++ line.entry ∷ []) list (All-tail IsMarked line list marked))

module _ (before rows : List Entry) (history : ℕ) (list : List (Appended Entry))
    (passes : List (PassState Entry)) (behind : history ≡ length before)
    (is : rows ≡ before ++ entries_in list) (marked : All IsMarked list) where
  own_in : (p : PassState Entry) → p.mine ≡ own_of p.by history list
      → own_rows p.by rows ≡ own_rows p.by before ++ map row_of p.mine
  own_in p mine =
      ap (own_rows p.by) is ∙ (own_behind p.by before list marked
      ∙ ap (λ (os : List (Own Entry)). own_rows p.by before ++ map row_of os)
      (sym (mine ∙ ap (λ (n : ℕ). own_of p.by n list) behind)))

  seen_in : (p : PassState Entry) → Agrees history list (known_in p)
      → IsPrefixOf (before ++ entries_in p.seen) rows
  seen_in p agrees =
      (entries_in agrees.prefix.0, seen_begins before rows list p.seen is agrees.prefix)

  -- what a session made, from what the close of its Turn tells
  pub make_rows : All (λ (p : PassState Entry). Agrees history list (known_in p)) passes
      → AllPairs (λ (p q : PassState Entry). p.by ≢ q.by) passes → MakeAll history list passes
      → MakeRows before rows passes
  make_rows agree apart whole =
      let bys = map (λ (p : PassState Entry). p.by) passes in
      let others : All (λ (line : Appended Entry). Contains bys line.entry.by) list =
      λ k d inside. subst (λ (n : ℕ). Contains bys n) (marked k d inside)
      (whole.others k d inside) in
      record {
        made = entries_in list;
        parts = is;
        total = length-map list (λ (line : Appended Entry). line.entry) ∙ whole.total;
        seen = All-weaker (λ (p : PassState Entry). Agrees history list (known_in p))
            (λ (p : PassState Entry). IsPrefixOf (before ++ entries_in p.seen) rows) seen_in passes
            agree;
        mine = All-weaker (λ (p : PassState Entry). p.mine ≡ own_of p.by history list)
            (λ (p : PassState Entry).
            own_rows p.by rows ≡ own_rows p.by before ++ map row_of p.mine) own_in passes
            whole.each;
        apart = apart;
        others = All-map (λ (e : Entry). Contains bys e.by)
            (λ (line : Appended Entry). line.entry) list others;
      }
