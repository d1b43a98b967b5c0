-- What is left of the lines, act by act and number by number.
use Rattle.std.proofs.Common.{◌≡◌, ℕ, suc, ◌+◌, ◌-◌, ◌<◌, ◌≤◌, List, [], ◌∷◌, ◌++◌, length, drop, Option, Some, None, refl, ◌∙◌, ap, arith}
use Rattle.std.proofs.lemmas.List.{drop_all}
use Rattle.std.specs.List.{flat_map, filter_map, range_with_len, cons_option}
use Rattle.book_words.specs.declared.act.Entry.{Entry}
use Rattle.book_words.specs.Acts.{said}
use Rattle.report_run.specs.Reports.{text_if_there}
use Rattle.list_run.specs.declared.types.Line.{Line}
use Rattle.list_run.specs.declared.types.Section.{Section}
use Rattle.list_run.specs.Listing.{act_line}
use Rattle.list_run.specs.Texts.{line_text}

line_first : (o : Option Line) (lines : List Line)
    → flat_map line_text (cons_option o lines)
    ≡ text_if_there line_text o ++ flat_map line_text lines
line_first None lines = refl
line_first (Some line) lines = refl

-- the text of the lines of a section that some entries have
abbrev pub section_text : Section → List Entry → List Entry → List ℕ
section_text section entries some = flat_map line_text (said (act_line section entries) some)

-- the line of the first of them comes first
pub next_line : (section : Section) (entries some : List Entry) (entry : Entry)
    (others : List Entry)
    → some ≡ entry ∷ others
    → section_text section entries some
    ≡ text_if_there line_text (act_line section entries entry.act)
    ++ section_text section entries others
next_line section entries some entry others is =
    ap (section_text section entries) is
    ∙ line_first (act_line section entries entry.act) (said (act_line section entries) others)

-- behind all entries there is none
pub no_lines : (section : Section) (entries : List Entry) (place : ℕ) → length entries ≤ place
    → section_text section entries (drop place entries) ≡ []
no_lines section entries place h =
    ap (section_text section entries) (drop_all place entries h)

-- the text of the lines of the numbers from one on, up to another
abbrev pub numbers_text : (ℕ → Option Line) → ℕ → ℕ → List ℕ
numbers_text line number end =
    flat_map line_text (filter_map line (range_with_len number (end - number)))

-- the line of the first of them comes first
pub next_number : (line : ℕ → Option Line) (number end : ℕ) → number < end
    → numbers_text line number end
    ≡ text_if_there line_text (line number) ++ numbers_text line (number + 1) end
next_number line number end h =
    ap (λ n. flat_map line_text (filter_map line (range_with_len number n)))
    (let more : end - number ≡ suc (end - (number + 1)) = omega (arith, h) in more)
    ∙ line_first (line number)
    (filter_map line (range_with_len (number + 1) (end - (number + 1))))

-- from the end on there is none
pub no_numbers : (line : ℕ → Option Line) (number end : ℕ) → end ≤ number
    → numbers_text line number end ≡ []
no_numbers line number end h =
    ap (λ n. flat_map line_text (filter_map line (range_with_len number n)))
    (let none : end - number ≡ 0 = omega (arith, h) in none)
