-- The fields of the lines of the book as text, and its columns.
use Rattle.std.proofs.Common.{◌≡◌, ℕ, ◌+◌, ◌^◌, ◌<◌, ◌≤◌, ◌==◌, not, nat_lt, nat_le, Bool, true, false, cond, List, [], ◌∷◌, ◌++◌, length, flat_map, Option, Some, None, decimal, codes, refl, ap, ◌∙◌, arith, append_assoc, length-append, ◌-◌, slice_get}
use Rattle.std.specs.Option.{unwrap_or}
use Rattle.std.specs.List.{All, list_all, slice_split, AllByRecursion}
use Rattle.std.proofs.lemmas.Bool.{and_parts, and_from, lt-ltb, ltb-true, ne_eqb}
use Rattle.std.proofs.lemmas.List.Elements.{All-nil, All-cons}
use Rattle.std.proofs.lemmas.List.Folds.{list_all-append}
use Rattle.std.proofs.lemmas.List.Splits.{slice_split_none, slice_split_at}
use Rattle.pack_judge.specs.declared.types.Cause.TheVariants.{Held, Full, Inadequate, Allowance}
use Rattle.pack_judge.specs.declared.types.Signal.{Signal}
use Rattle.pack_judge.specs.declared.types.Signal.TheVariants.{Pass, Reject}
use Rattle.book_words.specs.declared.act.Entry.{Entry}
use Rattle.book_words.specs.declared.views.Verdict.{Verdict}
use Rattle.book_words.specs.declared.views.Verdict.TheVariants.{Empty, Released, Withheld}
use Rattle.book_texts.specs.Words.{part_text, fails_text, signal_text, verdict_text}
use Rattle.hall_limits.specs.declared.TheConstants.{MAX_LANE, MAX_DOOR, MAX_ROWS}
use Rattle.paper_form.proofs.FieldTexts.{are_above, above_append, plain_number}
use Rattle.script_lines.specs.Lines.{ended_lines}
use Rattle.book_words.specs.declared.views.ActView.{ActView}
use Rattle.act_lines.specs.ActLines.{asked_line, by_text, answer_words, told_words, act_text}
use Rattle.act_lines.specs.ActViews.{view_behind, views_behind}
use Rattle.act_reads.specs.Commands.{FitsScript, script_of}
use Rattle.act_reads.proofs.Lines.{line_plain}
use Rattle.row_format.specs.Allowed.{FitsFields}
use Rattle.act_columns.specs.Columns.{field, column, told_lines}

-- ---- texts without a TAB or an LF

-- a text whose bytes are all above 31
abbrev IsText : List ℕ → Type 0
IsText text = are_above 31 text ≡ true

text_both : (a b : List ℕ) → IsText a → IsText b → IsText (a ++ b)
text_both a b = above_append 31 a b

text_either : (test : Bool) (a b : List ℕ) → IsText a → IsText b → IsText (cond test a b)
text_either true a b ha hb = ha
text_either false a b ha hb = hb

plain_text : (text : List ℕ) → are_above 32 text ≡ true → IsText text
plain_text [] h = refl
plain_text (b ∷ text) h =
    let parts = and_parts (nat_lt 32 b) (are_above 32 text) h in
    let above = ltb-true 32 b parts.0 in
    and_from (nat_lt 31 b) (are_above 31 text) (lt-ltb 31 b (omega (arith, above)))
    (plain_text text parts.1)

number_text : (n : ℕ) → n < 10 ^ 20 → IsText (decimal n)
number_text n few = plain_text (decimal n) (plain_number n few)

signal_plain : (signal : Signal) → IsText (signal_text signal)
signal_plain Pass = refl
signal_plain (Reject Held) = refl
signal_plain (Reject Full) = refl
signal_plain (Reject Inadequate) = refl
signal_plain (Reject Allowance) = refl

five_texts : (a b c d e : List ℕ) → IsText a → IsText b → IsText c → IsText d → IsText e
    → IsText (a ++ b ++ c ++ d ++ e)
five_texts a b c d e ha hb hc hd he =
    text_both (a ++ b ++ c ++ d) e
    (text_both (a ++ b ++ c) d (text_both (a ++ b) c (text_both a b ha hb) hc) hd) he

part_plain : (test : Bool) (words : List ℕ) → IsText words → IsText (part_text test words)
part_plain test words h = text_either test words [] h refl

verdict_plain : (verdict : Verdict) → IsText (verdict_text verdict)
verdict_plain Empty = refl
verdict_plain Released = refl
verdict_plain (Withheld fails) =
    text_both (codes "withheld") (fails_text fails) refl
    (five_texts (part_text fails.contents (codes " contents"))
    (part_text fails.mean (codes " mean")) (part_text fails.average (codes " average"))
    (part_text fails.allowance (codes " allowance"))
    (part_text fails.inadequate (codes " inadequate"))
    (part_plain fails.contents (codes " contents") refl)
    (part_plain fails.mean (codes " mean") refl)
    (part_plain fails.average (codes " average") refl)
    (part_plain fails.allowance (codes " allowance") refl)
    (part_plain fails.inadequate (codes " inadequate") refl))

answer_plain : (verdict : Option Verdict) (signal : Option Signal)
    → IsText (answer_words verdict signal)
answer_plain (Some verdict) signal = verdict_plain verdict
answer_plain None (Some signal) = signal_plain signal
answer_plain None None = refl

told_plain : (view : ActView) → view.row < 10 ^ 20 → IsText (told_words view)
told_plain view few =
    text_both (decimal view.row ++ codes " ") (answer_words view.verdict view.entry.signal)
    (text_both (decimal view.row) (codes " ") (number_text view.row few) refl)
    (answer_plain view.verdict view.entry.signal)

by_plain : (by : ℕ) → by < 2 ^ 16 → IsText (by_text by)
by_plain by few =
    text_either (by == 0) (codes "script") _ refl
    (text_either (nat_le by MAX_LANE) (codes "lane " ++ decimal by) _
    (text_both (codes "lane ") (decimal by) refl (number_text by (omega (arith, few))))
    (text_either (nat_le by (MAX_LANE + MAX_DOOR)) (codes "door " ++ decimal (by - MAX_LANE))
    (codes "caller " ++ decimal by)
    (text_both (codes "door ") (decimal (by - MAX_LANE)) refl
    (number_text (by - MAX_LANE) (omega (arith, few))))
    (text_both (codes "caller ") (decimal by) refl (number_text by (omega (arith, few))))))

-- ---- the fields of a line

-- the three fields of the line of an act hold no TAB and no LF
pub record IsCut (view : ActView) : Type 0 where
  pub told : IsText (told_words view)
  pub by : IsText (by_text view.entry.by)
  pub asked : IsText (asked_line view.entry)

abbrev line_of : ActView → List ℕ
line_of view = told_words view ++ 9 ∷ (by_text view.entry.by ++ 9 ∷ asked_line view.entry)

regroup : (a b c : List ℕ)
    → a ++ codes "\t" ++ b ++ codes "\t" ++ c ++ codes "\n" ≡ (a ++ 9 ∷ (b ++ 9 ∷ c)) ++ 10 ∷ []
regroup a b c = simp append_assoc

is_line : (view : ActView) → act_text view ≡ line_of view ++ 10 ∷ []
unfolding act_text
is_line view = regroup (told_words view) (by_text view.entry.by) (asked_line view.entry)

other_byte : (stop b : ℕ) → stop ≤ 31 → nat_lt 31 b ≡ true → (b == stop) ≡ false
other_byte stop b low h =
    let above = ltb-true 31 b h in ne_eqb b stop (λ e. omega (arith, above, e, low))

no_tab : (text : List ℕ) → IsText text → All (λ b. (b == 9) ≡ false) text
no_tab [] h = All-nil (λ (b : ℕ). (b == 9) ≡ false)
no_tab (b ∷ text) h =
    let parts = and_parts (nat_lt 31 b) (are_above 31 text) h in
    All-cons (λ (c : ℕ). (c == 9) ≡ false) b text (other_byte 9 b (omega arith) parts.0)
    (no_tab text parts.1)

three_fields : (a b c : List ℕ) → IsText a → IsText b → IsText c
    → slice_split (λ byte. byte == 9) (a ++ 9 ∷ (b ++ 9 ∷ c)) ≡ a ∷ b ∷ c ∷ []
three_fields a b c ha hb hc =
    slice_split_at (λ byte. byte == 9) a 9 (b ++ 9 ∷ c) (no_tab a ha) refl
    ∙ ap (λ (rest : List (List ℕ)). a ∷ rest)
    (slice_split_at (λ byte. byte == 9) b 9 c (no_tab b hb) refl
    ∙ ap (λ (rest : List (List ℕ)). b ∷ rest)
    (slice_split_none (λ byte. byte == 9) c (no_tab c hc)))

fields_of : (view : ActView) → IsCut view
    → slice_split (λ byte. byte == 9) (line_of view)
    ≡ told_words view ∷ by_text view.entry.by ∷ asked_line view.entry ∷ []
fields_of view cut =
    three_fields (told_words view) (by_text view.entry.by) (asked_line view.entry) cut.told cut.by
    cut.asked

-- ---- the lines of a text

abbrev has_no_end : List ℕ → Bool
has_no_end text = list_all (λ byte. not (byte == 10)) text

no_end : (text : List ℕ) → IsText text → has_no_end text ≡ true
no_end [] h = refl
no_end (b ∷ text) h =
    let parts = and_parts (nat_lt 31 b) (are_above 31 text) h in
    rw (other_byte 10 b (omega arith) parts.0) (no_end text parts.1)

no_end_both : (a b : List ℕ) → has_no_end a ≡ true → has_no_end b ≡ true
    → has_no_end (a ++ b) ≡ true
no_end_both a b ha hb =
    list_all-append (λ byte. not (byte == 10)) a b ∙ and_from (has_no_end a) (has_no_end b) ha hb

line_no_end : (view : ActView) → IsCut view → has_no_end (line_of view) ≡ true
line_no_end view cut =
    no_end_both (told_words view) (9 ∷ (by_text view.entry.by ++ 9 ∷ asked_line view.entry))
    (no_end (told_words view) cut.told)
    (no_end_both (by_text view.entry.by) (9 ∷ asked_line view.entry)
    (no_end (by_text view.entry.by) cut.by) (no_end (asked_line view.entry) cut.asked))

ended_first : (line rest : List ℕ) → has_no_end line ≡ true
    → ended_lines (line ++ 10 ∷ rest) ≡ line ∷ ended_lines rest
ended_first [] rest h = refl
ended_first (b ∷ line) rest h =
    let parts = and_parts (not (b == 10)) (has_no_end line) h in
    rw (fails (b == 10) parts.0, ended_first line rest parts.1) refl
  where
    fails : (test : Bool) → not test ≡ true → test ≡ false
    fails false h = refl
    fails true h = absurd (cc)

view_first : (view : ActView) (rest : List ℕ) → IsCut view
    → ended_lines (act_text view ++ rest) ≡ line_of view ∷ ended_lines rest
view_first view rest cut =
    ap (λ (text : List ℕ). ended_lines (text ++ rest)) (is_line view)
    ∙ ap ended_lines (append_assoc (line_of view) (10 ∷ []) rest)
    ∙ ended_first (line_of view) rest (line_no_end view cut)

-- ---- a column of the lines of some acts

column_is : (place : ℕ) (pick : ActView → List ℕ)
    → ((view : ActView) → IsCut view → field place (line_of view) ≡ pick view)
    → (views : List ActView) → AllByRecursion IsCut views
    → column place (flat_map act_text views) ≡ flat_map (λ view. pick view ++ 10 ∷ []) views
column_is place pick each [] cut = refl
column_is place pick each (view ∷ views) cut =
    ap (λ (lines : List (List ℕ)). flat_map (λ line. field place line ++ 10 ∷ []) lines)
    (view_first view (flat_map act_text views) cut.0)
    ∙ (λ i. (each view cut.0 i ++ 10 ∷ []) ++ column_is place pick each views cut.1 i)

pub first_column : (views : List ActView) → AllByRecursion IsCut views
    → column 1 (flat_map act_text views) ≡ told_lines views
first_column =
    column_is 1 (λ view. told_words view)
    (λ view cut. ap (λ (parts : List (List ℕ)). unwrap_or (slice_get parts 0) [])
    (fields_of view cut))

third_column : (views : List ActView) → AllByRecursion IsCut views
    → column 3 (flat_map act_text views) ≡ flat_map (λ view. asked_line view.entry ++ 10 ∷ []) views
third_column =
    column_is 3 (λ view. asked_line view.entry)
    (λ view cut. ap (λ (parts : List (List ℕ)). unwrap_or (slice_get parts 2) [])
    (fields_of view cut))

asked_views : (before rows : List Entry)
    → flat_map (λ view. asked_line view.entry ++ 10 ∷ []) (views_behind before rows)
    ≡ script_of rows
asked_views before [] = refl
asked_views before (entry ∷ rows) =
    ap (λ (rest : List ℕ). (asked_line entry ++ 10 ∷ []) ++ rest)
    (asked_views (before ++ entry ∷ []) rows)

-- the third column is the script that asks the acts
pub script_column : (before rows : List Entry) → AllByRecursion IsCut (views_behind before rows)
    → column 3 (flat_map act_text (views_behind before rows)) ≡ script_of rows
script_column before rows cut =
    third_column (views_behind before rows) cut ∙ asked_views before rows

-- the lines of a list of at most so many rows are cut so
pub views_cut : (before rows : List Entry) → length (before ++ rows) ≤ MAX_ROWS
    → AllByRecursion FitsFields rows → AllByRecursion FitsScript rows
    → AllByRecursion IsCut (views_behind before rows)
views_cut before [] few fields fit = tt
views_cut before (entry ∷ rows) few fields fit = (
  record {
    told = told_plain (view_behind before entry)
        (omega (arith, few, length-append before (entry ∷ rows)));
    by = by_plain entry.by fields.0.by;
    asked = line_plain entry fit.0;
  },
  views_cut (before ++ entry ∷ []) rows
      (omega (arith, few, ap length (append_assoc before (entry ∷ []) rows)))
      fields.1 fit.1,
)
