-- How a paper is read on by one line more.
use Rattle.std.proofs.Common.{◌≡◌, ℕ, ◌+◌, Bool, List, [], ◌∷◌, Option, Some, Result, Ok, Err, IfOk, IfErr, subst, refl, sym, ap, inl, inr, ◌∙◌}
use Rattle.std.specs.Option.{option_map_or}
use Rattle.std.specs.List.{slice_split}
use Rattle.std.proofs.lemmas.Bool.{cases_Bool}
use Rattle.paper_form.specs.declared.types.PaperFault.{PaperFault}
use Rattle.paper_form.specs.declared.types.PaperFault.TheVariants as fault
use Rattle.paper_form.specs.Papers.{PaperData, is_line_end}
use Rattle.paper_form.specs.Form.{Draft, no_lines, next_text, ends_with, read_on, paper_in}
use Rattle.paper_form.specs.Drafts.{data_of, IsUntaken, IsUnread}
use Rattle.paper_form.specs.declared.reading.Paper.{Paper}

-- the first of the pieces of a text, and the others
record Parts (p : ℕ → Bool) (text : List ℕ) : Type 0 where
  first : List ℕ
  others : List (List ℕ)
  are : slice_split p text ≡ first ∷ others

parts_of : (p : ℕ → Bool) (text : List ℕ) → Parts p text
parts_of p [] = record { first = []; others = []; are = refl }
parts_of p (x ∷ text) = elim (cases_Bool (p x)) [
  | inl is ↦ record { first = []; others = slice_split p text; are = rw is refl }
  | inr other ↦
      let rest = parts_of p text in
      record { first = x ∷ rest.first; others = rest.others; are = rw (other, rest.are) refl }
]

by_parts : (line : ℕ) (draft : Draft) (text first : List ℕ) (others : List (List ℕ)) →
    read_on line draft (text ∷ first ∷ others)
    ≡ option_map_or
    (λ more. read_on (line + 1) more (first ∷ others)) (next_text draft text) (Err line)
unfolding read_on
by_parts line draft text first others = refl

-- a line is read, and then what follows it
pub read_on-line : (line : ℕ) (draft : Draft) (text after : List ℕ) →
    read_on line draft (text ∷ slice_split is_line_end after)
    ≡ option_map_or (λ more. read_on (line + 1) more (slice_split is_line_end after))
    (next_text draft text) (Err line)
read_on-line line draft text after =
    let parts = parts_of is_line_end after in
    rw parts.are (by_parts line draft text parts.first parts.others)

-- what stands behind the last LF ends the reading
pub read_on-end : (line : ℕ) (draft : Draft) (rest : List ℕ)
    → read_on line draft (rest ∷ []) ≡ ends_with line draft rest
unfolding read_on
read_on-end line draft rest = refl

pub paper_in-begins : (bytes : List ℕ) → read_on 1 no_lines (slice_split is_line_end bytes)
    ≡ paper_in bytes
unfolding paper_in
paper_in-begins bytes = refl

-- with a line taken the reading goes on
pub reads_next : (line : ℕ) (draft more : Draft) (rest text after : List ℕ)
    (whole : Result PaperData ℕ)
    → read_on line draft (slice_split is_line_end rest) ≡ whole
    → slice_split is_line_end rest ≡ text ∷ slice_split is_line_end after
    → next_text draft text ≡ Some more
    → read_on (line + 1) more (slice_split is_line_end after) ≡ whole
reads_next line draft more rest text after whole reads split taken =
    sym (ap (λ (o : Option Draft). option_map_or
    (λ m. read_on (line + 1) m (slice_split is_line_end after)) o (Err line)) taken)
    ∙ sym (read_on-line line draft text after)
    ∙ sym (ap (read_on line draft) split) ∙ reads

-- with a line that isn't taken it stops
pub unread_next : (line : ℕ) (draft : Draft) (rest text after : List ℕ) (whole : Result PaperData ℕ)
    (why : PaperFault)
    → read_on line draft (slice_split is_line_end rest) ≡ whole
    → slice_split is_line_end rest ≡ text ∷ slice_split is_line_end after
    → IsUntaken line (next_text draft text) why → IsUnread whole why
unread_next line draft rest text after whole (fault.Line at) reads split untaken =
    sym reads ∙ ap (read_on line draft) split ∙ read_on-line line draft text after
    ∙ ap (λ (o : Option Draft). option_map_or
    (λ m. read_on (line + 1) m (slice_split is_line_end after)) o (Err line)) untaken.1
    ∙ ap Err (sym untaken.0)
unread_next line draft rest text after whole fault.NoMemory reads split untaken = tt
unread_next line draft rest text after whole (fault.Tare at) reads split untaken = absurd untaken
unread_next line draft rest text after whole (fault.Draw at) reads split untaken = absurd untaken
unread_next line draft rest text after whole (fault.Verdict at) reads split untaken = absurd untaken

-- at the end
pub ends_read : (line : ℕ) (draft : Draft) (rest : List ℕ) (whole : Result PaperData ℕ)
    → read_on line draft (slice_split is_line_end rest) ≡ whole
    → slice_split is_line_end rest ≡ rest ∷ []
    → ends_with line draft rest ≡ whole
ends_read line draft rest whole reads split =
    sym (read_on-end line draft rest) ∙ sym (ap (read_on line draft) split) ∙ reads

pub ok_read : (r : Result Paper PaperFault) (end whole : Result PaperData ℕ) → end ≡ whole
    → IfOk r (λ paper. end ≡ Ok (data_of paper)) → IfOk r (λ paper. whole ≡ Ok (data_of paper))
ok_read (Ok paper) end whole same read = sym same ∙ read
ok_read (Err why) end whole same read = read

pub err_unread : (r : Result Paper PaperFault) (end whole : Result PaperData ℕ) → end ≡ whole
    → IfErr r (IsUnread end) → IfErr r (IsUnread whole)
err_unread (Ok paper) end whole same unread = unread
err_unread (Err why) end whole same unread =
    subst (λ (e : Result PaperData ℕ). IsUnread e why) same unread
