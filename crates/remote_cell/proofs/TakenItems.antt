-- What is taken of lines and what is written for them, with lines or connections more.
use Rattle.std.proofs.Common.{◌≡◌, ℕ, ◌+◌, Bool, cond, List, [], ◌∷◌, ◌++◌, length, sym, ◌∙◌, ap, subst, arith, append_assoc, append-nil, length-append}
use Rattle.std.specs.Prelude.{flat_map}
use Rattle.std.proofs.lemmas.Grind.{flat_map-append}
use Rattle.device_facts.specs.Prefix.{IsPrefixOf}
use Rattle.disk_core.specs.Doors.{Connection}
use Rattle.remote_cell.specs.declared.items.Item.{Item}
use Rattle.remote_cell.specs.Exchanges.{Line, heard, heard_items, line_items, acknowledgements}
use Rattle.remote_cell.specs.Lines.{whole_lines}
use Rattle.remote_cell.specs.WireLines.{acknowledgement}
use Rattle.remote_cell.specs.Told.{texts_on, connection_lines, given_items, line_acknowledgements, connection_acknowledgements, AreAnswered, is_done, undone}

-- how many are taken behind lines
abbrev count : ℕ → List Line → ℕ
count n lines = n + length (line_items n lines)

-- ---- lines more

given_both : (n : ℕ) (xs ys : List Line)
    → line_items n (xs ++ ys) ≡ line_items n xs ++ line_items (count n xs) ys
given_both n [] ys =
    let same : n ≡ n + 0 = omega arith in
    ap (λ (k : ℕ). line_items k ys) same
given_both n (line ∷ xs) ys =
    let t : List Item = heard_items (heard n line.0) line.1 in
    let m : ℕ = n + length t in
    let same : count m xs ≡ n + length (t ++ line_items m xs) =
    omega (arith, length-append t (line_items m xs)) in
    ap (λ (l : List Item). t ++ l) (given_both m xs ys)
    ∙ ap (λ (k : ℕ). t ++ (line_items m xs ++ line_items k ys)) same
    ∙ sym (append_assoc t (line_items m xs)
    (line_items (n + length (t ++ line_items m xs)) ys))

acknowledged_both : (n : ℕ) (xs ys : List Line) → line_acknowledgements n (xs ++ ys)
    ≡ line_acknowledgements n xs ++ line_acknowledgements (count n xs) ys
acknowledged_both n [] ys =
    let same : n ≡ n + 0 = omega arith in
    ap (λ (k : ℕ). line_acknowledgements k ys) same
acknowledged_both n (line ∷ xs) ys =
    let t : List Item = heard_items (heard n line.0) line.1 in
    let m : ℕ = n + length t in
    let a : List ℕ = flat_map acknowledgement (acknowledgements (heard n line.0) m) in
    let same : count m xs ≡ n + length (t ++ line_items m xs) =
    omega (arith, length-append t (line_items m xs)) in
    ap (λ (l : List ℕ). a ++ l) (acknowledged_both m xs ys)
    ∙ ap (λ (k : ℕ). a ++ (line_acknowledgements m xs ++ line_acknowledgements k ys)) same
    ∙ sym (append_assoc a (line_acknowledgements m xs)
    (line_acknowledgements (n + length (t ++ line_items m xs)) ys))

count_both : (n : ℕ) (xs ys : List Line) → count n (xs ++ ys) ≡ count (count n xs) ys
count_both n xs ys = omega (
  arith,
  ap length (given_both n xs ys),
  length-append (line_items n xs) (line_items (count n xs) ys),
)

-- one line more
pub one_given : (n m : ℕ) (lines : List Line) (line : Line) → m ≡ count n lines
    → line_items n (lines ++ line ∷ [])
    ≡ line_items n lines ++ heard_items (heard m line.0) line.1
one_given n m lines line is =
    given_both n lines (line ∷ [])
    ∙ ap (λ (l : List Item). line_items n lines ++ l)
    (append-nil (heard_items (heard (count n lines) line.0) line.1))
    ∙ ap (λ (k : ℕ). line_items n lines ++ heard_items (heard k line.0) line.1) (sym is)

pub one_acknowledged : (n m : ℕ) (lines : List Line) (line : Line) → m ≡ count n lines
    → line_acknowledgements n (lines ++ line ∷ []) ≡ line_acknowledgements n lines
    ++ flat_map acknowledgement (acknowledgements (heard m line.0)
    (m + length (heard_items (heard m line.0) line.1)))
one_acknowledged n m lines line is =
    acknowledged_both n lines (line ∷ [])
    ∙ ap (λ (l : List ℕ). line_acknowledgements n lines ++ l)
    (append-nil (flat_map acknowledgement (acknowledgements (heard (count n lines) line.0)
    (count n lines + length (heard_items (heard (count n lines) line.0) line.1)))))
    ∙ ap (λ (k : ℕ). line_acknowledgements n lines
    ++ flat_map acknowledgement (acknowledgements (heard k line.0)
    (k + length (heard_items (heard k line.0) line.1)))) (sym is)

-- ---- connections more

abbrev all_lines : (b : Bool) → List Connection → List Line
all_lines b p = flat_map (connection_lines b) p

lines_one_more : (b : Bool) (p : List Connection) (c : Connection)
    → all_lines b (p ++ c ∷ []) ≡ all_lines b p ++ connection_lines b c
lines_one_more b p c =
    flat_map-append (connection_lines b) p (c ∷ [])
    ∙ ap (λ (l : List Line). all_lines b p ++ l) (append-nil (connection_lines b c))

from_none : (b : Bool) (p : List Connection) → count 0 (all_lines b p) ≡ length (given_items b p)
from_none b p = omega arith

pub given_more : (b : Bool) (p : List Connection) (c : Connection) → given_items b (p ++ c ∷ [])
    ≡ given_items b p ++ line_items (length (given_items b p)) (connection_lines b c)
given_more b p c =
    ap (line_items 0) (lines_one_more b p c)
    ∙ given_both 0 (all_lines b p) (connection_lines b c)
    ∙ ap (λ (k : ℕ). given_items b p ++ line_items k (connection_lines b c)) (from_none b p)

pub texts_more : (p : List Connection) (c : Connection)
    → texts_on (p ++ c ∷ []) ≡ texts_on p ++ whole_lines c.taken
texts_more p c =
    flat_map-append (λ (x : Connection). whole_lines x.taken) p (c ∷ [])
    ∙ ap (λ (l : List (List ℕ)). texts_on p ++ l) (append-nil (whole_lines c.taken))

count_first : (b : Bool) (n : ℕ) (x : Connection) (p : List Connection)
    → count n (all_lines b (x ∷ p)) ≡ count (count n (connection_lines b x)) (all_lines b p)
count_first b n x p = count_both n (connection_lines b x) (all_lines b p)

answered_behind : (b : Bool) (n : ℕ) (p : List Connection) (c : Connection) → AreAnswered b n p
    → IsPrefixOf c.written (connection_acknowledgements b (count n (all_lines b p)) c)
    → AreAnswered b n (p ++ c ∷ [])
answered_behind b n [] c all begins =
    let same : n + 0 ≡ n = omega arith in
    (subst (λ (k : ℕ). IsPrefixOf c.written (connection_acknowledgements b k c)) same begins, tt)
answered_behind b n (x ∷ p) c all begins = (
  all.0,
  answered_behind b (count n (connection_lines b x)) p c all.1
      (subst (λ (k : ℕ). IsPrefixOf c.written (connection_acknowledgements b k c))
      (count_first b n x p) begins),
)

pub answered_more : (b : Bool) (p : List Connection) (c : Connection) → AreAnswered b 0 p
    → IsPrefixOf c.written (connection_acknowledgements b (length (given_items b p)) c)
    → AreAnswered b 0 (p ++ c ∷ [])
answered_more b p c all begins =
    answered_behind b 0 p c all
    (subst (λ (k : ℕ). IsPrefixOf c.written (connection_acknowledgements b k c)) (sym
    (from_none b p)) begins)

abbrev one_undone : (b : Bool) → ℕ → Connection → ℕ
one_undone b n c = cond (is_done b n c) 0 1

undone_behind : (b : Bool) (n : ℕ) (p : List Connection) (c : Connection)
    → undone b n (p ++ c ∷ []) ≡ undone b n p + one_undone b (count n (all_lines b p)) c
undone_behind b n [] c =
    let same : n + 0 ≡ n = omega arith in
    omega (arith, ap (λ (k : ℕ). one_undone b k c) same)
undone_behind b n (x ∷ p) c =
    let m : ℕ = count n (connection_lines b x) in
    omega (
      arith,
      undone_behind b m p c,
      ap (λ (k : ℕ). one_undone b k c) (count_first b n x p),
    )

pub undone_more : (b : Bool) (p : List Connection) (c : Connection)
    → undone b 0 (p ++ c ∷ []) ≡ undone b 0 p + cond (is_done b (length (given_items b p)) c) 0 1
undone_more b p c =
    undone_behind b 0 p c
    ∙ ap (λ (k : ℕ). undone b 0 p + one_undone b k c) (from_none b p)
