use Rattle.std.proofs.Common.{◌≡◌, ℕ, suc, ◌+◌, ◌<◌, ◌≤◌, Bool, List, [], ◌∷◌, length, take, drop, not, refl, ap, sym, inl, inr, ◌∙◌, arith}
use Rattle.std.specs.Prelude.{nat_lt, filter}
use Rattle.std.specs.List.{slice_split, prefix_len, position_or_len}
use Rattle.std.proofs.lemmas.Bool.{cases_Bool, lt-ltb}
use Rattle.std.proofs.lemmas.List.{length-take-le}
use Rattle.std.proofs.lemmas.List.Sums.{prefix_len-le-length}
use Rattle.script_lines.specs.Words.{is_blank, words_of}

-- the words between the bytes that pass a test: `words_of` for any test
abbrev words_by : (ℕ → Bool) → List ℕ → List (List ℕ)
words_by blank line = filter (λ word. nat_lt 0 (length word)) (slice_split blank line)

-- the blanks before the first word change no word
after_blanks : (blank : ℕ → Bool) (line : List ℕ) → words_by blank (drop (prefix_len blank line) line) ≡ words_by blank line
after_blanks blank [] = refl
after_blanks blank (byte ∷ line) = elim (cases_Bool (blank byte)) [
  | inl h ↦
      let one : 1 + prefix_len blank line ≡ suc (prefix_len blank line) = omega arith in
      rw (h, one) (after_blanks blank line)
  | inr h ↦ rw h (rw h refl)
]

-- after the blanks a word begins
begins : (blank : ℕ → Bool) (line : List ℕ) → 0 < length (drop (prefix_len blank line) line) → 0 < position_or_len blank (drop (prefix_len blank line) line)
begins blank [] some = absurd (omega (arith, some))
begins blank (byte ∷ line) some = elim (cases_Bool (blank byte)) [
  | inl h ↦
      let one : 1 + prefix_len blank line ≡ suc (prefix_len blank line) = omega arith in
      rw (h, one) (begins blank line (rw (h, one) at some))
  | inr h ↦ rw h (rw h (omega arith))
]

-- the parts between blanks: the bytes before the first blank, and then parts whose words are those
-- of what is left
record Parts (blank : ℕ → Bool) (line : List ℕ) : Type 0 where
  others : List (List ℕ)
  split : slice_split blank line ≡ take (position_or_len blank line) line ∷ others
  words : filter (λ word. nat_lt 0 (length word)) others ≡ words_by blank (drop (position_or_len blank line) line)

parts_of : (blank : ℕ → Bool) (line : List ℕ) → Parts blank line
parts_of blank [] = record { others = []; split = refl; words = refl }
parts_of blank (byte ∷ line) = elim (cases_Bool (blank byte)) [
  | inl h ↦ record { others = slice_split blank line; split = rw h refl; words = rw h (rw h refl) }
  | inr h ↦
      let rest = parts_of blank line in
      let one : 1 + position_or_len blank line ≡ suc (position_or_len blank line) = omega arith in
      record { others = rest.others; split = rw (h, one, rest.split) refl; words = rw (h, one) rest.words }
]

-- the words of a line that begins with a word
first_of : (blank : ℕ → Bool) (line : List ℕ) → 0 < position_or_len blank line → words_by blank line ≡ take (position_or_len blank line) line ∷ words_by blank (drop (position_or_len blank line) line)
first_of blank line some =
    let parts = parts_of blank line in
    let within : position_or_len blank line ≤ length line = prefix_len-le-length (λ byte. not (blank byte)) line in
    let long : 0 < length (take (position_or_len blank line) line) = omega (arith, some, length-take-le (position_or_len blank line) line within) in
    rw (parts.split, lt-ltb 0 (length (take (position_or_len blank line) line)) long, parts.words) refl

-- where nothing stands after the blanks, there is no word
pub words_of-wordless : (line text : List ℕ) → text ≡ drop (prefix_len is_blank line) line → length text ≡ 0 → words_of line ≡ []
words_of-wordless line [] is none = sym (after_blanks is_blank line) ∙ ap words_of (sym is)
words_of-wordless line (byte ∷ text) is none = absurd (omega (arith, none))

-- after the blanks stands the first word, and after it the others
pub words_of-first : (line text : List ℕ) → text ≡ drop (prefix_len is_blank line) line → 0 < length text → words_of line ≡ take (position_or_len is_blank text) text ∷ words_of (drop (position_or_len is_blank text) text)
words_of-first line text is some =
    let long : 0 < length (drop (prefix_len is_blank line) line) = rw is at some in
    rw is (sym (after_blanks is_blank line) ∙ first_of is_blank (drop (prefix_len is_blank line) line) (begins is_blank line long))
