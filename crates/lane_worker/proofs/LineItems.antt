-- What the first line of some bytes gives, and what is left behind it.
use Rattle.std.proofs.Common.{◌≡◌, ℕ, suc, zero, ◌+◌, ◌<◌, nat_le, nat_lt, Bool, true, false, ◌==◌, List, [], ◌∷◌, ◌++◌, length, take, drop, get_or, eqb, Option, option_map, Some, None, refl, sym, ap, subst, inl, inr, ◌∙◌, arith, append_assoc, append-nil, length-append}
use Rattle.std.specs.List.{list_any, slice_split, onto_first}
use Rattle.std.specs.Io.KnownBytes.{IsAtEnd}
use Rattle.std.specs.Str.Lines.{strip_carriage_return}
use Rattle.std.proofs.lemmas.Bool.{cases_Bool, ltb-true}
use Rattle.std.proofs.lemmas.Bool.Decides.{nat_tests}
use Rattle.std.proofs.Math.Seq.{take-length}
use Rattle.std.proofs.lemmas.List.{drop_more, take-append-drop}
use Rattle.memchr.specs.Find.{Nowhere, Passes, is_byte}
use Rattle.lane_worker.specs.declared.cell_lines.TheConstants.{MAX_CELL_LINE}
use Rattle.lane_worker.specs.declared.types.CellNext.{CellNext}
use Rattle.lane_worker.specs.declared.types.CellNext.TheVariants.{End, Bad}
use Rattle.lane_worker.specs.Cells.{next_item, items_behind, IsNext}
use Rattle.lane_worker.specs.CellLines.{line_says, ended_says, last_says, next_line, parts_give, bytes_give, Held, is_known, behind_end, rest_gives, held_left}

abbrev has_end : List ℕ → Bool
has_end bytes = list_any (λ byte. byte == 10) bytes

abbrev parts : List ℕ → List (List ℕ)
parts bytes = slice_split (λ byte. byte == 10) bytes

-- ---- the first LF

-- there is no LF before a place before which none was found
no_end_before : (bytes : List ℕ) (place : ℕ) → Nowhere (Passes (is_byte 10) bytes) 0 place
    → has_end (take place bytes) ≡ false
no_end_before [] zero none = refl
no_end_before [] (suc place) none = refl
no_end_before (x ∷ bytes) zero none = refl
no_end_before (x ∷ bytes) (suc place) none = elim (cases_Bool (eqb x 10)) [
  | inl is ↦ absurd (none 0 (omega arith) (omega arith) is)
  | inr other ↦
      let later : Nowhere (Passes (is_byte 10) bytes) 0 place =
      λ k low high is. none (suc k) (omega arith) (omega arith) is in
      rw other (no_end_before bytes place later)
]

no_end_at_all : (bytes : List ℕ) → Nowhere (Passes (is_byte 10) bytes) 0 (length bytes)
    → has_end bytes ≡ false
no_end_at_all bytes none =
    ap has_end (sym (take-length bytes)) ∙ no_end_before bytes (length bytes) none

is_end : (byte : ℕ) → eqb byte 10 ≡ true → byte ≡ 10
is_end byte is = grind (arith, nat_tests, is)

-- an LF stands at a place
cut_at : (bytes : List ℕ) (place : ℕ) → place < length bytes → Passes (is_byte 10) bytes place
    → bytes ≡ take place bytes ++ 10 ∷ drop (place + 1) bytes
cut_at bytes place within is =
    let here : drop place bytes ≡ 10 ∷ drop (place + 1) bytes = drop_more bytes place 0 within
    ∙ ap (λ b. b ∷ drop (place + 1) bytes) (is_end (get_or bytes place 0) is) in
    sym (take-append-drop place bytes) ∙ ap (λ xs. take place bytes ++ xs) here

-- ---- the parts between LFs

-- the first part of some bytes, the others, and that these give what stands behind the first LF
record Parted (bytes : List ℕ) : Type 0 where
  first : List ℕ
  more : List (List ℕ)
  whole : parts bytes ≡ first ∷ more
  behind : (lines : ℕ) → bytes_give lines (behind_end bytes) ≡ parts_give lines more

parted : (bytes : List ℕ) → Parted bytes
parted [] = record { first = []; more = []; whole = refl; behind = λ lines. refl }
parted (x ∷ bytes) =
    let later = parted bytes in
    elim (cases_Bool (eqb x 10)) [
      | inl is ↦ record {
        first = [];
        more = parts bytes;
        whole = rw is refl;
        behind = λ lines. rw is refl;
      }
      | inr other ↦ record {
        first = x ∷ later.first;
        more = later.more;
        whole = rw other (ap (onto_first x) later.whole);
        behind = λ lines. rw other (later.behind lines);
      }
    ]

part_ended : (line rest : List ℕ) → has_end line ≡ false
    → parts (line ++ 10 ∷ rest) ≡ line ∷ parts rest
part_ended [] rest none = refl
part_ended (x ∷ line) rest none = elim (cases_Bool (eqb x 10)) [
  | inl is ↦ let never = rw is at none in absurd (cc)
  | inr other ↦ rw other (ap (onto_first x) (part_ended line rest (rw other at none)))
]

part_begun : (line rest first : List ℕ) (more : List (List ℕ)) → parts rest ≡ first ∷ more
    → has_end line ≡ false → parts (line ++ rest) ≡ (line ++ first) ∷ more
part_begun [] rest first more is none = is
part_begun (x ∷ line) rest first more is none = elim (cases_Bool (eqb x 10)) [
  | inl at ↦ let never = rw at at none in absurd (cc)
  | inr other ↦
      rw other (ap (onto_first x) (part_begun line rest first more is (rw other at none)))
]

one_part : (line : List ℕ) → has_end line ≡ false → parts line ≡ line ∷ []
one_part [] none = refl
one_part (x ∷ line) none = elim (cases_Bool (eqb x 10)) [
  | inl is ↦ let never = rw is at none in absurd (cc)
  | inr other ↦ rw other (ap (onto_first x) (one_part line (rw other at none)))
]

-- ---- what bytes give

gives_ended : (lines : ℕ) (line rest : List ℕ) → has_end line ≡ false
    → bytes_give lines (line ++ 10 ∷ rest)
    ≡ ended_says line (next_line lines) ∷ bytes_give (next_line lines) rest
gives_ended lines line rest none =
    let behind = parted rest in
    ap (parts_give lines) (part_ended line rest none ∙ ap (λ ps. line ∷ ps) behind.whole)
    ∙ sym (ap (λ ps. ended_says line (next_line lines) ∷ parts_give (next_line lines) ps)
    behind.whole)

gives_last : (lines : ℕ) (line : List ℕ) → 0 < length line → has_end line ≡ false
    → bytes_give lines line ≡ last_says line (next_line lines) ∷ []
gives_last lines [] some none = absurd (omega arith)
gives_last lines (x ∷ line) some none = ap (parts_give lines) (one_part (x ∷ line) none)

long_says : (line text : List ℕ) (number : ℕ) → MAX_CELL_LINE < length line
    → line_says line text number ≡ Bad number
long_says line text number long =
    let over : nat_le (length line) MAX_CELL_LINE ≡ false = grind (arith, nat_tests, long) in
    rw over refl

long_gives : (lines : ℕ) (part : List ℕ) (more : List (List ℕ)) → MAX_CELL_LINE < length part
    → parts_give lines (part ∷ more) ≡ Bad (next_line lines) ∷ parts_give (next_line lines) more
long_gives lines [] more long = absurd (omega arith)
long_gives lines (x ∷ part) [] long = ap (λ item. item ∷ [])
    (long_says (x ∷ part) (x ∷ part) (next_line lines) long)
long_gives lines (x ∷ part) (next ∷ more) long =
    ap (λ item. item ∷ parts_give (next_line lines) (next ∷ more))
    (long_says (x ∷ part) (strip_carriage_return (x ∷ part)) (next_line lines) long)

-- a line that is too long, whatever follows
gives_long : (lines : ℕ) (line rest : List ℕ) → MAX_CELL_LINE < length line → has_end line ≡ false
    → bytes_give lines (line ++ rest)
    ≡ Bad (next_line lines) ∷ bytes_give (next_line lines) (behind_end rest)
gives_long lines line rest long none =
    let cut = parted rest in
    let longer : MAX_CELL_LINE < length (line ++ cut.first) =
    omega (arith, long, length-append line cut.first) in
    ap (parts_give lines) (part_begun line rest cut.first cut.more cut.whole none)
    ∙ long_gives lines (line ++ cut.first) cut.more longer
    ∙ ap (λ items. Bad (next_line lines) ∷ items) (sym (cut.behind (next_line lines)))

-- ---- what is taken

-- an item is the next of what a cell that holds these bytes has left, where these follow, and what
-- was held then gives what is left behind it
abbrev Takes : Held → Held → CellNext → List ℕ → Type 0
Takes was now item rest =
    (item ≡ next_item (bytes_give was.lines (was.bytes ++ rest)))
    × (rest_gives now.passing now.lines (now.bytes ++ rest)
    ≡ items_behind (bytes_give was.lines (was.bytes ++ rest)))

takes : (was now : Held) (item : CellNext) (rest : List ℕ) (others : List CellNext)
    → bytes_give was.lines (was.bytes ++ rest) ≡ item ∷ others
    → rest_gives now.passing now.lines (now.bytes ++ rest) ≡ others → Takes was now item rest
takes was now item rest others first behind =
    (ap next_item (sym first), behind ∙ ap items_behind (sym first))

-- what is given by who passes over nothing
gives_plain : (now : Held) (bytes : List ℕ) → now.passing ≡ false
    → rest_gives now.passing now.lines bytes ≡ bytes_give now.lines bytes
gives_plain now bytes plain = ap (λ p. rest_gives p now.lines bytes) plain

-- a line whose LF was read
takes_line : (was now : Held) (item : CellNext) (rest : List ℕ) (place : ℕ)
    → place < length was.bytes → Passes (is_byte 10) was.bytes place
    → Nowhere (Passes (is_byte 10) was.bytes) 0 place
    → item ≡ ended_says (take place was.bytes) (next_line was.lines)
    → now.bytes ≡ drop (place + 1) was.bytes → now.lines ≡ next_line was.lines
    → now.passing ≡ false → Takes was now item rest
takes_line was now item rest place within is before says bytes lines plain =
    let line = take place was.bytes in
    let behind = drop (place + 1) was.bytes in
    let cut : was.bytes ++ rest ≡ line ++ 10 ∷ (behind ++ rest) =
    ap (λ xs. xs ++ rest) (cut_at was.bytes place within is)
    ∙ append_assoc line (10 ∷ behind) rest in
    let others = bytes_give (next_line was.lines) (behind ++ rest) in
    let first = ap (bytes_give was.lines) cut
    ∙ gives_ended was.lines line (behind ++ rest) (no_end_before was.bytes place before) in
    takes was now item rest others
    (first ∙ ap (λ i. i ∷ others) (sym says))
    (gives_plain now (now.bytes ++ rest) plain ∙ (λ i. bytes_give (lines i) (bytes i ++ rest)))

-- the last line, or one that is too long
takes_last : (was now : Held) (item : CellNext) (rest : List ℕ) → 0 < length was.bytes
    → Nowhere (Passes (is_byte 10) was.bytes) 0 (length was.bytes)
    → (is_known was.bytes ≡ false → rest ≡ []) → item ≡ last_says was.bytes (next_line was.lines)
    → now.bytes ≡ [] → now.lines ≡ next_line was.lines
    → now.passing ≡ nat_lt MAX_CELL_LINE (length was.bytes) → Takes was now item rest
takes_last was now item rest some before at_end says bytes lines passing =
    let none = no_end_at_all was.bytes before in
    elim (cases_Bool (nat_lt MAX_CELL_LINE (length was.bytes))) [
      | inl long ↦
          let over : MAX_CELL_LINE < length was.bytes = ltb-true _ _ long in
          let bad = long_says was.bytes was.bytes (next_line was.lines) over in
          let others = bytes_give (next_line was.lines) (behind_end rest) in
          takes was now item rest others
          (gives_long was.lines was.bytes rest over none
          ∙ ap (λ i. i ∷ others) (sym (says ∙ bad)))
          (ap (λ p. rest_gives p now.lines (now.bytes ++ rest)) (passing ∙ long)
          ∙ (λ i. bytes_give (lines i) (behind_end (bytes i ++ rest))))
      | inr short ↦
          let unknown : is_known was.bytes ≡ false = rw (short, none) refl in
          let nothing = at_end unknown in
          let all : was.bytes ++ rest ≡ was.bytes =
          ap (λ r. was.bytes ++ r) nothing ∙ append-nil was.bytes in
          let first = ap (bytes_give was.lines) all ∙ gives_last was.lines was.bytes some none in
          let empty : now.bytes ++ rest ≡ [] = rw (bytes, nothing) refl in
          takes was now item rest []
          (first ∙ ap (λ i. i ∷ []) (sym says))
          (gives_plain now (now.bytes ++ rest) (passing ∙ short)
          ∙ ap (bytes_give now.lines) empty)
    ]

-- ---- whatever the source has left

-- so, whatever a source has left: nothing, where the item wasn't known
abbrev pub TakesNext : Held → Held → CellNext → Type 0
TakesNext was now item = (left : Option (List ℕ)) → (is_known was.bytes ≡ false → IsAtEnd left)
    → IsNext (held_left was left) item
    × (held_left now left ≡ option_map items_behind (held_left was left))

takes_next : (was now : Held) (item : CellNext) → was.passing ≡ false
    → ((rest : List ℕ) → (is_known was.bytes ≡ false → rest ≡ []) → Takes was now item rest)
    → TakesNext was now item
takes_next was now item plain each None at_end = (tt, refl)
takes_next was now item plain each (Some rest) at_end =
    let here = each rest at_end in
    let same = sym (gives_plain was (was.bytes ++ rest) plain) in
    (here.0 ∙ ap next_item same, ap Some (here.1 ∙ ap items_behind same))

-- who holds bytes passes over nothing
holds_plain : (was : Held) → (was.passing ≡ true → was.bytes ≡ []) → 0 < length was.bytes
    → was.passing ≡ false
holds_plain was passed some = elim (cases_Bool was.passing) [
  | inl passing ↦ absurd (omega (arith, some, ap length (passed passing)))
  | inr plain ↦ plain
]

-- a line whose LF was read is the next item
pub line_next : (was seen now : Held) (item : CellNext) (place : ℕ) → was ≡ seen
    → (seen.passing ≡ true → seen.bytes ≡ [])
    → place < length was.bytes → Passes (is_byte 10) was.bytes place
    → Nowhere (Passes (is_byte 10) was.bytes) 0 place
    → item ≡ ended_says (take place was.bytes) (next_line was.lines)
    → now.bytes ≡ drop (place + 1) was.bytes → now.lines ≡ next_line was.lines
    → now.passing ≡ was.passing → TakesNext seen now item
line_next was seen now item place same passed within is before says bytes lines passing =
    let here : was.passing ≡ true → was.bytes ≡ [] =
    subst (λ (h : Held). h.passing ≡ true → h.bytes ≡ []) (sym same) passed in
    let plain = holds_plain was here (omega (arith, within)) in
    subst (λ (h : Held). TakesNext h now item) same (takes_next was now item plain
    (λ rest end. takes_line was now item rest place within is before says bytes lines
    (passing ∙ plain)))

-- and so is the last line, or one that is too long
pub last_next : (was seen now : Held) (item : CellNext) → was ≡ seen
    → (seen.passing ≡ true → seen.bytes ≡ []) → 0 < length was.bytes
    → Nowhere (Passes (is_byte 10) was.bytes) 0 (length was.bytes)
    → item ≡ last_says was.bytes (next_line was.lines)
    → now.bytes ≡ [] → now.lines ≡ next_line was.lines
    → now.passing ≡ nat_lt MAX_CELL_LINE (length was.bytes) → TakesNext seen now item
last_next was seen now item same passed some before says bytes lines passing =
    let here : was.passing ≡ true → was.bytes ≡ [] =
    subst (λ (h : Held). h.passing ≡ true → h.bytes ≡ []) (sym same) passed in
    subst (λ (h : Held). TakesNext h now item) same
    (takes_next was now item (holds_plain was here some)
    (λ rest end. takes_last was now item rest some before end says bytes lines passing))

-- where no byte is held comes the end, at each call
pub end_next : (seen : Held) → seen.bytes ≡ [] → TakesNext seen seen End
end_next seen empty None at_end = (tt, refl)
end_next seen empty (Some rest) at_end =
    let nothing : rest ≡ [] = at_end (ap is_known empty) in
    let none : seen.bytes ++ rest ≡ [] = rw (empty, nothing) refl in
    let gives : rest_gives seen.passing seen.lines (seen.bytes ++ rest) ≡ [] =
    ap (rest_gives seen.passing seen.lines) none ∙ nothing_gives seen.passing seen.lines in
    (sym (ap next_item gives), ap Some (gives ∙ sym (ap items_behind gives)))
  where
    nothing_gives : (passing : Bool) (lines : ℕ) → rest_gives passing lines [] ≡ []
    nothing_gives true lines = refl
    nothing_gives false lines = refl

-- ---- what is passed over

-- so many bytes give what those gave before, whatever a source has left
abbrev pub LeavesAll : Held → Held → Type 0
LeavesAll was now = (left : Option (List ℕ)) → held_left now left ≡ held_left was left

leaves_all : (was now : Held) → ((rest : List ℕ)
    → rest_gives now.passing now.lines (now.bytes ++ rest)
    ≡ rest_gives was.passing was.lines (was.bytes ++ rest)) → LeavesAll was now
leaves_all was now each None = refl
leaves_all was now each (Some rest) = ap Some (each rest)

behind_cut : (line rest : List ℕ) → has_end line ≡ false → behind_end (line ++ 10 ∷ rest) ≡ rest
behind_cut [] rest none = refl
behind_cut (x ∷ line) rest none = elim (cases_Bool (eqb x 10)) [
  | inl is ↦ let never = rw is at none in absurd (cc)
  | inr other ↦ rw other (behind_cut line rest (rw other at none))
]

behind_none : (line rest : List ℕ) → has_end line ≡ false
    → behind_end (line ++ rest) ≡ behind_end rest
behind_none [] rest none = refl
behind_none (x ∷ line) rest none = elim (cases_Bool (eqb x 10)) [
  | inl is ↦ let never = rw is at none in absurd (cc)
  | inr other ↦ rw other (behind_none line rest (rw other at none))
]

-- the rest of a line, up to its LF
pub passes_line : (was seen now : Held) (place : ℕ) → was ≡ seen → was.passing ≡ true
    → place < length was.bytes → Passes (is_byte 10) was.bytes place
    → Nowhere (Passes (is_byte 10) was.bytes) 0 place
    → now.bytes ≡ drop (place + 1) was.bytes → now.lines ≡ was.lines → now.passing ≡ false
    → LeavesAll seen now
passes_line was seen now place same passing within is before bytes lines plain =
    let line = take place was.bytes in
    let behind = drop (place + 1) was.bytes in
    let each : (rest : List ℕ) → rest_gives now.passing now.lines (now.bytes ++ rest)
    ≡ rest_gives was.passing was.lines (was.bytes ++ rest) = λ rest.
    let cut : was.bytes ++ rest ≡ line ++ 10 ∷ (behind ++ rest) =
    ap (λ xs. xs ++ rest) (cut_at was.bytes place within is)
    ∙ append_assoc line (10 ∷ behind) rest in
    let passed = ap behind_end cut
    ∙ behind_cut line (behind ++ rest) (no_end_before was.bytes place before) in
    gives_plain now (now.bytes ++ rest) plain
    ∙ (λ i. bytes_give (lines i) (bytes i ++ rest)) ∙ ap (bytes_give was.lines) (sym passed)
    ∙ ap (λ p. rest_gives p was.lines (was.bytes ++ rest)) (sym passing) in
    subst (λ (h : Held). LeavesAll h now) same (leaves_all was now each)

-- a piece of it without an LF
pub passes_piece : (was seen now : Held) → was ≡ seen → was.passing ≡ true
    → Nowhere (Passes (is_byte 10) was.bytes) 0 (length was.bytes)
    → now.bytes ≡ [] → now.lines ≡ was.lines → now.passing ≡ true → LeavesAll seen now
passes_piece was seen now same passing before bytes lines passes =
    let none = no_end_at_all was.bytes before in
    let each : (rest : List ℕ) → rest_gives now.passing now.lines (now.bytes ++ rest)
    ≡ rest_gives was.passing was.lines (was.bytes ++ rest) = λ rest.
    ap (λ p. rest_gives p now.lines (now.bytes ++ rest)) passes
    ∙ (λ i. bytes_give (lines i) (behind_end (bytes i ++ rest)))
    ∙ ap (bytes_give was.lines) (sym (behind_none was.bytes rest none))
    ∙ ap (λ p. rest_gives p was.lines (was.bytes ++ rest)) (sym passing) in
    subst (λ (h : Held). LeavesAll h now) same (leaves_all was now each)
