-- A head text stands where it is whatever follows.
use Rattle.std.proofs.Common.{◌≡◌, ℕ, suc, ◌+◌, ◌<◌, ◌≤◌, Bool, true, false, List, [], ◌∷◌, ◌++◌, length, drop, Option, Some, None, option_map, nat_eq, codes, if◌then◌else◌, refl, ap, ◌∙◌, inl, inr, arith, append_assoc, length-drop}
use Rattle.std.specs.Cmp.Lexicographic.{pointwise}
use Rattle.std.specs.List.{prefix_len, starts_with}
use Rattle.std.specs.Option.{option_or}
use Rattle.std.proofs.lemmas.Bool.{cases_Bool}
use Rattle.std.proofs.lemmas.Bool.Decides.{Decides-eqb}
use Rattle.std.proofs.lemmas.List.{take-append-le, drop-append-le}
use Rattle.std.proofs.lemmas.List.Prefix.{front_fits}
use Rattle.std.proofs.lemmas.Option.{same_Some, none-some}
use Rattle.std.proofs.lemmas.Slice.Eq.{starts_is}
use Rattle.office_wire.specs.HeadSize.{is_newline, empty_line_size, lines_size, head_size}

-- ---- an empty line

abbrev begins : List ℕ → List ℕ → Bool
begins bytes needle = starts_with nat_eq bytes needle

-- what bytes begin with stands at their front
front_is : (bytes needle : List ℕ) → begins bytes needle ≡ true
    → bytes ≡ needle ++ drop (length needle) bytes
front_is bytes needle is = (starts_is Decides-eqb bytes needle (begins bytes needle) refl).0 is

-- bytes begin with it whatever follows
begins_still : (bytes more needle : List ℕ) → begins bytes needle ≡ true
    → begins (bytes ++ more) needle ≡ true
begins_still bytes more needle is =
    (starts_is Decides-eqb (bytes ++ more) needle (begins (bytes ++ more) needle) refl).1
    (drop (length needle) bytes ++ more)
    (ap (λ xs. xs ++ more) (front_is bytes needle is)
    ∙ append_assoc needle (drop (length needle) bytes) more)

-- enough bytes begin with it, or not, whatever follows
begins_same : (bytes more needle : List ℕ) → length needle ≤ length bytes
    → begins (bytes ++ more) needle ≡ begins bytes needle
begins_same bytes more needle long =
    ap (λ front. pointwise nat_eq needle front) (take-append-le (length needle) bytes more long)

-- the size by the two tests
abbrev size_by : Bool → Bool → Option ℕ
size_by lf crlf = if lf then Some 2 else (if crlf then Some 3 else None)

-- an empty line has two bytes or three, which are there
empty_line_within : (bytes : List ℕ) (size : ℕ) → empty_line_size bytes ≡ Some size
    → (2 ≤ size) × (size ≤ length bytes)
empty_line_within bytes size is =
    by (begins bytes (codes "\n\n")) refl (begins bytes (codes "\n\r\n")) refl is
  where
    by : (lf : Bool) → begins bytes (codes "\n\n") ≡ lf
        → (crlf : Bool) → begins bytes (codes "\n\r\n") ≡ crlf
        → size_by lf crlf ≡ Some size → (2 ≤ size) × (size ≤ length bytes)
    by true h crlf k e =
        let two : 2 ≡ size = same_Some 2 size e in
        let fits : 2 ≤ length bytes =
        front_fits bytes (codes "\n\n") _ (front_is bytes (codes "\n\n") h) in
        (omega arith, omega arith)
    by false h true k e =
        let three : 3 ≡ size = same_Some 3 size e in
        let fits : 3 ≤ length bytes =
        front_fits bytes (codes "\n\r\n") _ (front_is bytes (codes "\n\r\n") k) in
        (omega arith, omega arith)
    by false h false k e = absurd (none-some size e)

-- three bytes say whether they begin with an empty line
empty_line_same : (bytes more : List ℕ) → 3 ≤ length bytes
    → empty_line_size (bytes ++ more) ≡ empty_line_size bytes
empty_line_same bytes more long =
    ap (λ lf. size_by lf (begins (bytes ++ more) (codes "\n\r\n")))
    (begins_same bytes more (codes "\n\n") (omega arith))
    ∙ ap (λ crlf. size_by (begins bytes (codes "\n\n")) crlf)
    (begins_same bytes more (codes "\n\r\n") long)

empty_line_still : (bytes more : List ℕ) (size : ℕ) → empty_line_size bytes ≡ Some size
    → empty_line_size (bytes ++ more) ≡ Some size
empty_line_still bytes more size is =
    by (begins bytes (codes "\n\n")) refl (begins bytes (codes "\n\r\n")) refl is
  where
    by : (lf : Bool) → begins bytes (codes "\n\n") ≡ lf
        → (crlf : Bool) → begins bytes (codes "\n\r\n") ≡ crlf
        → size_by lf crlf ≡ Some size → empty_line_size (bytes ++ more) ≡ Some size
    by true h crlf k e =
        ap (λ lf. size_by lf (begins (bytes ++ more) (codes "\n\r\n")))
        (begins_still bytes more (codes "\n\n") h) ∙ e
    by false h true k e =
        empty_line_same bytes more
        (front_fits bytes (codes "\n\r\n") _ (front_is bytes (codes "\n\r\n") k)) ∙ is
    by false h false k e = absurd (none-some size e)

-- ---- the first empty line

-- it ends within the bytes
pub lines_within : (bytes : List ℕ) (size : ℕ) → lines_size bytes ≡ Some size
    → (2 ≤ size) × (size ≤ length bytes)
lines_within [] size is = absurd (none-some size is)
lines_within (byte ∷ rest) size is =
    by (empty_line_size (byte ∷ rest)) refl (lines_size rest) refl is (lines_within rest)
  where
    by : (here : Option ℕ) → empty_line_size (byte ∷ rest) ≡ here
        → (after : Option ℕ) → lines_size rest ≡ after
        → option_or here (option_map (λ n. 1 + n) after) ≡ Some size
        → ((n : ℕ) → lines_size rest ≡ Some n → (2 ≤ n) × (n ≤ length rest))
        → (2 ≤ size) × (size ≤ length (byte ∷ rest))
    by (Some n) h after k e within = empty_line_within (byte ∷ rest) size (h ∙ e)
    by None h (Some n) k e within =
        let is_size : 1 + n ≡ size = same_Some (1 + n) size e in
        let inside = within n k in
        (omega (arith, inside.0), omega (arith, inside.1))
    by None h None k e within = absurd (none-some size e)

-- it ends there whatever follows
pub lines_still : (bytes more : List ℕ) (size : ℕ) → lines_size bytes ≡ Some size
    → lines_size (bytes ++ more) ≡ Some size
lines_still [] more size is = absurd (none-some size is)
lines_still (byte ∷ rest) more size is =
    by (empty_line_size (byte ∷ rest)) refl (lines_size rest) refl is (lines_still rest more)
  where
    by : (here : Option ℕ) → empty_line_size (byte ∷ rest) ≡ here
        → (after : Option ℕ) → lines_size rest ≡ after
        → option_or here (option_map (λ n. 1 + n) after) ≡ Some size
        → ((n : ℕ) → lines_size rest ≡ Some n → lines_size (rest ++ more) ≡ Some n)
        → lines_size (byte ∷ (rest ++ more)) ≡ Some size
    by (Some n) h after k e still =
        ap (λ here. option_or here (option_map (λ n. 1 + n) (lines_size (rest ++ more))))
        (empty_line_still (byte ∷ rest) more n h) ∙ e
    by None h (Some n) k e still =
        let inside = lines_within rest n k in
        ap (λ here. option_or here (option_map (λ n. 1 + n) (lines_size (rest ++ more))))
        (empty_line_same (byte ∷ rest) more (omega (arith, inside.0, inside.1)) ∙ h)
        ∙ ap (λ after. option_map (λ n. 1 + n) after) (still n k) ∙ e
    by None h None k e still = absurd (none-some size e)

-- ---- the head text

-- the first bytes that pass a test are the same whatever follows, where one doesn't pass
pub prefix_still : (test : ℕ → Bool) (bytes more : List ℕ)
    → prefix_len test bytes < length bytes
    → prefix_len test (bytes ++ more) ≡ prefix_len test bytes
prefix_still test [] more less = absurd (omega (arith, less))
prefix_still test (byte ∷ rest) more less = elim (cases_Bool (test byte)) [
  | inl h ↦
      rw h (ap (λ n. 1 + n) (prefix_still test rest more
      (let inside : 1 + prefix_len test rest < suc (length rest) =
      rw h at less in omega (arith, inside))))
  | inr h ↦ rw h refl
]

-- it ends within the bytes
pub head_within : (bytes : List ℕ) (size : ℕ) → head_size bytes ≡ Some size
    → (2 ≤ size) × (size ≤ length bytes) × (prefix_len is_newline bytes < length bytes)
head_within bytes size is =
    by (lines_size (drop (prefix_len is_newline bytes) bytes)) refl is
  where
    by : (found : Option ℕ) → lines_size (drop (prefix_len is_newline bytes) bytes) ≡ found
        → option_map (λ n. prefix_len is_newline bytes + n) found ≡ Some size
        → (2 ≤ size) × (size ≤ length bytes) × (prefix_len is_newline bytes < length bytes)
    by None h e = absurd (none-some size e)
    by (Some n) h e =
        let is_size : prefix_len is_newline bytes + n ≡ size =
        same_Some (prefix_len is_newline bytes + n) size e in
        let inside = lines_within (drop (prefix_len is_newline bytes) bytes) n h in
        let left = length-drop (prefix_len is_newline bytes) bytes in (
          omega (arith, inside.0, inside.1, left),
          omega (arith, inside.0, inside.1, left),
          omega (arith, inside.0, inside.1, left),
        )

-- it ends there whatever follows
pub head_still : (bytes more : List ℕ) (size : ℕ) → head_size bytes ≡ Some size
    → head_size (bytes ++ more) ≡ Some size
head_still bytes more size is =
    by (lines_size (drop (prefix_len is_newline bytes) bytes)) refl is
  where
    leading : prefix_len is_newline (bytes ++ more) ≡ prefix_len is_newline bytes
    leading = prefix_still is_newline bytes more (head_within bytes size is).2

    behind : drop (prefix_len is_newline (bytes ++ more)) (bytes ++ more)
        ≡ drop (prefix_len is_newline bytes) bytes ++ more
    behind =
        ap (λ n. drop n (bytes ++ more)) leading
        ∙ drop-append-le (prefix_len is_newline bytes) bytes more
        (let less = (head_within bytes size is).2 in omega (arith, less))

    by : (found : Option ℕ) → lines_size (drop (prefix_len is_newline bytes) bytes) ≡ found
        → option_map (λ n. prefix_len is_newline bytes + n) found ≡ Some size
        → head_size (bytes ++ more) ≡ Some size
    by None h e = absurd (none-some size e)
    by (Some n) h e =
        ap (λ lines. option_map (λ n. prefix_len is_newline (bytes ++ more) + n) lines)
        (ap lines_size behind
        ∙ lines_still (drop (prefix_len is_newline bytes) bytes) more n h)
        ∙ ap (λ k. Some (k + n)) leading ∙ e
