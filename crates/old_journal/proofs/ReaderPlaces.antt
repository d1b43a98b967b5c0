-- Where a reader stands, and where more bytes leave it.
use Rattle.std.proofs.Common.{◌≡◌, ◌⊎◌, inl, inr, ℕ, ◌+◌, ◌<◌, ◌≤◌, Bool, true, false, List, [], ◌∷◌, ◌++◌, length, if◌then◌else◌, sym, ◌∙◌, ap, subst, arith, length-append}
use Rattle.std.proofs.lemmas.Bool.{cases_lt, cases_Bool, lt-ltb, le-ltb}
use Rattle.book_snapshot.specs.declared.layout.TheConstants.{OLD_ROW_BYTES}
use Rattle.old_journal.specs.declared.types.Stage.{Stage}
use Rattle.old_journal.specs.declared.types.Stage.TheVariants as stages
use Rattle.old_journal.specs.declared.types.OldPiece.{OldPiece}
use Rattle.old_journal.specs.declared.types.OldPiece.TheVariants.{Part, Header, Foreign, Row, Bad, Over}
use Rattle.old_journal.specs.OldJournal.{HasOldHeader, begins_open, old_rows}
use Rattle.old_journal.specs.Reader.{OldView, is_old_header, behind_rows, behind_view, header_view, old_after, counted, HasNextRow, SpellsOnly, SpellsNone, Says, SlotSays, HeaderSays, SaysAtStage, stage_behind, GoesOn, IsWhole}
use Rattle.old_journal.proofs.Headers.{header_by, by_header, header_on}
use Rattle.old_journal.proofs.OpenSlots.{shut_by_cut, shut_on, no_rows, nothing_behind, rows_same, rest_longer, one_row, no_rest, rest_shut}

abbrev begins_view : List ℕ → OldView
begins_view taken = record { stage = stages.Header; rows = 0; begun = taken }

abbrev foreign_view : OldView
foreign_view = record { stage = stages.Foreign; rows = 0; begun = [] }

abbrev rows_view : ℕ → List ℕ → OldView
rows_view rows begun = record { stage = stages.Rows; rows = rows; begun = begun }

abbrev over_view : ℕ → OldView
over_view rows = record { stage = stages.Over; rows = rows; begun = [] }

abbrev choose : Bool → OldView → OldView → OldView
choose test x y = if test then x else y

-- the view by the bytes
view_begins : (taken : List ℕ) → length taken < OLD_ROW_BYTES → old_after taken ≡ begins_view taken
unfolding old_after
view_begins taken short = ap (λ b. choose b (begins_view taken) (header_view taken))
    (lt-ltb (length taken) OLD_ROW_BYTES short)

view_whole : (taken : List ℕ) → OLD_ROW_BYTES ≤ length taken → old_after taken ≡ header_view taken
unfolding old_after
view_whole taken long = ap (λ b. choose b (begins_view taken) (header_view taken))
    (le-ltb (length taken) OLD_ROW_BYTES long)

view_foreign : (taken : List ℕ) → OLD_ROW_BYTES ≤ length taken → is_old_header taken ≡ false
    → old_after taken ≡ foreign_view
view_foreign taken long foreign =
    view_whole taken long
    ∙ ap (λ b. choose b (behind_view (length (old_rows taken)) (behind_rows taken))
    foreign_view) foreign

view_behind : (taken : List ℕ) → OLD_ROW_BYTES ≤ length taken → is_old_header taken ≡ true
    → old_after taken ≡ behind_view (length (old_rows taken)) (behind_rows taken)
view_behind taken long is =
    view_whole taken long
    ∙ ap (λ b. choose b (behind_view (length (old_rows taken)) (behind_rows taken))
    foreign_view) is

view_rows : (rows : ℕ) (behind : List ℕ) → length behind < OLD_ROW_BYTES
    → behind_view rows behind ≡ rows_view rows behind
view_rows rows behind short = ap (λ b. choose b (rows_view rows behind) (over_view rows))
    (lt-ltb (length behind) OLD_ROW_BYTES short)

view_over : (rows : ℕ) (behind : List ℕ) → OLD_ROW_BYTES ≤ length behind
    → behind_view rows behind ≡ over_view rows
view_over rows behind long = ap (λ b. choose b (rows_view rows behind) (over_view rows))
    (le-ltb (length behind) OLD_ROW_BYTES long)

-- the four places at which a reader may stand
record Begins (taken : List ℕ) : Type 0 where
  short : length taken < OLD_ROW_BYTES
  view : old_after taken ≡ begins_view taken

record IsForeign (taken : List ℕ) : Type 0 where
  long : OLD_ROW_BYTES ≤ length taken
  foreign : is_old_header taken ≡ false
  view : old_after taken ≡ foreign_view

record InRows (taken : List ℕ) : Type 0 where
  long : OLD_ROW_BYTES ≤ length taken
  header : is_old_header taken ≡ true
  short : length (behind_rows taken) < OLD_ROW_BYTES
  view : old_after taken ≡ rows_view (length (old_rows taken)) (behind_rows taken)

record IsOver (taken : List ℕ) : Type 0 where
  long : OLD_ROW_BYTES ≤ length taken
  header : is_old_header taken ≡ true
  full : OLD_ROW_BYTES ≤ length (behind_rows taken)
  view : old_after taken ≡ over_view (length (old_rows taken))

begins_at : (taken : List ℕ) → length taken < OLD_ROW_BYTES → Begins taken
begins_at taken short = record { short = short; view = view_begins taken short }

foreign_at : (taken : List ℕ) → OLD_ROW_BYTES ≤ length taken → is_old_header taken ≡ false
    → IsForeign taken
foreign_at taken long foreign =
    record { long = long; foreign = foreign; view = view_foreign taken long foreign }

rows_at : (taken : List ℕ) → OLD_ROW_BYTES ≤ length taken → is_old_header taken ≡ true
    → length (behind_rows taken) < OLD_ROW_BYTES → InRows taken
rows_at taken long is short = record {
  long = long;
  header = is;
  short = short;
  view = view_behind taken long is ∙ view_rows (length (old_rows taken)) (behind_rows taken) short;
}

over_at : (taken : List ℕ) → OLD_ROW_BYTES ≤ length taken → is_old_header taken ≡ true
    → OLD_ROW_BYTES ≤ length (behind_rows taken) → IsOver taken
over_at taken long is full = record {
  long = long;
  header = is;
  full = full;
  view = view_behind taken long is ∙ view_over (length (old_rows taken)) (behind_rows taken) full;
}

abbrev Stands : List ℕ → Type 0
Stands taken = Begins taken ⊎ (IsForeign taken ⊎ (InRows taken ⊎ IsOver taken))

stands : (taken : List ℕ) → Stands taken
stands taken = elim (cases_lt (length taken) OLD_ROW_BYTES) [
  | inl short ↦ inl (begins_at taken short)
  | inr long ↦ elim (cases_Bool (is_old_header taken)) [
    | inl is ↦ elim (cases_lt (length (behind_rows taken)) OLD_ROW_BYTES) [
      | inl short ↦ inr (inr (inl (rows_at taken long is short)))
      | inr full ↦ inr (inr (inr (over_at taken long is full)))
    ]
    | inr foreign ↦ inr (inl (foreign_at taken long foreign))
  ]
]

-- a stage tells which it is
begins_by : (taken : List ℕ) → (old_after taken).stage ≡ stages.Header → Begins taken
begins_by taken is = elim (stands taken) [
  | inl here ↦ here
  | inr (inl here) ↦ let never : stages.Header ≡ stages.Foreign = sym is
      ∙ ap (λ v. v.stage) here.view in absurd cc
  | inr (inr (inl here)) ↦ let never : stages.Header ≡ stages.Rows = sym is
      ∙ ap (λ v. v.stage) here.view in absurd cc
  | inr (inr (inr here)) ↦ let never : stages.Header ≡ stages.Over = sym is
      ∙ ap (λ v. v.stage) here.view in absurd cc
]

foreign_by : (taken : List ℕ) → (old_after taken).stage ≡ stages.Foreign → IsForeign taken
foreign_by taken is = elim (stands taken) [
  | inl here ↦ let never : stages.Foreign ≡ stages.Header = sym is ∙ ap (λ v. v.stage) here.view in
      absurd cc
  | inr (inl here) ↦ here
  | inr (inr (inl here)) ↦ let never : stages.Foreign ≡ stages.Rows = sym is
      ∙ ap (λ v. v.stage) here.view in absurd cc
  | inr (inr (inr here)) ↦ let never : stages.Foreign ≡ stages.Over = sym is
      ∙ ap (λ v. v.stage) here.view in absurd cc
]

rows_by : (taken : List ℕ) → (old_after taken).stage ≡ stages.Rows → InRows taken
rows_by taken is = elim (stands taken) [
  | inl here ↦ let never : stages.Rows ≡ stages.Header = sym is ∙ ap (λ v. v.stage) here.view in
      absurd cc
  | inr (inl here) ↦ let never : stages.Rows ≡ stages.Foreign = sym is
      ∙ ap (λ v. v.stage) here.view in absurd cc
  | inr (inr (inl here)) ↦ here
  | inr (inr (inr here)) ↦ let never : stages.Rows ≡ stages.Over = sym is
      ∙ ap (λ v. v.stage) here.view in absurd cc
]

over_by : (taken : List ℕ) → (old_after taken).stage ≡ stages.Over → IsOver taken
over_by taken is = elim (stands taken) [
  | inl here ↦ let never : stages.Over ≡ stages.Header = sym is ∙ ap (λ v. v.stage) here.view in
      absurd cc
  | inr (inl here) ↦ let never : stages.Over ≡ stages.Foreign = sym is
      ∙ ap (λ v. v.stage) here.view in absurd cc
  | inr (inr (inl here)) ↦ let never : stages.Over ≡ stages.Rows = sym is
      ∙ ap (λ v. v.stage) here.view in absurd cc
  | inr (inr (inr here)) ↦ here
]

-- the header is there in two of them
pub header_in_rows : (taken : List ℕ) → (old_after taken).stage ≡ stages.Rows → HasOldHeader taken
header_in_rows taken is = let here = rows_by taken is in header_by taken here.long here.header

pub header_in_over : (taken : List ℕ) → (old_after taken).stage ≡ stages.Over → HasOldHeader taken
header_in_over taken is = let here = over_by taken is in header_by taken here.long here.header

pub header_stands : (taken : List ℕ) → HasOldHeader taken → ((old_after taken).stage ≡ stages.Rows)
    ⊎ ((old_after taken).stage ≡ stages.Over)
header_stands taken has = elim (stands taken) [
  | inl here ↦ absurd (omega (arith, has.long, here.short))
  | inr (inl here) ↦ let never : true ≡ false = sym (by_header taken has) ∙ here.foreign in absurd cc
  | inr (inr (inl here)) ↦ inl (ap (λ v. v.stage) here.view)
  | inr (inr (inr here)) ↦ inr (ap (λ v. v.stage) here.view)
]

-- where more bytes leave a reader, and what that says
pub record Leaves (taken more : List ℕ) (new : OldView) (piece : OldPiece) : Type 0 where
  pub stands : new ≡ old_after (taken ++ more)
  pub says : Says taken (taken ++ more) piece

long_on : (taken more : List ℕ) → OLD_ROW_BYTES ≤ length taken → OLD_ROW_BYTES ≤ length (taken ++ more)
long_on taken more long = omega (arith, long, length-append taken more)

still_header : (taken more : List ℕ) → OLD_ROW_BYTES ≤ length taken → is_old_header taken ≡ true
    → is_old_header (taken ++ more) ≡ true
still_header taken more long is = header_on taken more long ∙ is

foreign_whatever : (bytes : List ℕ) → OLD_ROW_BYTES ≤ length bytes → is_old_header bytes ≡ false
    → (more : List ℕ) → ¬ HasOldHeader (bytes ++ more)
foreign_whatever bytes long foreign = λ more has.
    let never : true ≡ false = sym (by_header (bytes ++ more) has) ∙ header_on bytes more long
    ∙ foreign in
    absurd cc

-- what is passed over
foreign_on : (taken more : List ℕ) → IsForeign taken → Leaves taken more foreign_view Foreign
foreign_on taken more here =
    let still : is_old_header (taken ++ more) ≡ false = header_on taken more here.long ∙ here.foreign in
    record {
      stands = sym (view_foreign (taken ++ more) (long_on taken more here.long) still);
      says = foreign_whatever (taken ++ more) (long_on taken more here.long) still;
    }

over_on : (taken more : List ℕ) → IsOver taken
    → Leaves taken more (over_view (length (old_rows taken))) Over
over_on taken more here =
    let shut : begins_open (behind_rows taken ++ more) ≡ false =
    shut_on (behind_rows taken) more here.full (rest_shut taken) in
    let long = long_on taken more here.long in
    let still = still_header taken more here.long here.header in
    let same = rows_same taken more here.long shut in
    let behind = rest_longer taken more here.long shut in
    let full : OLD_ROW_BYTES ≤ length (behind_rows (taken ++ more)) =
    omega (arith, here.full, ap length behind, length-append (behind_rows taken) more) in
    record {
      stands = sym ((over_at (taken ++ more) long still full).view
          ∙ ap (λ l. over_view (length l)) same);
      says = (header_by (taken ++ more) long still, same);
    }

pub foreign_stays : (taken more : List ℕ) (old : OldView) → old ≡ old_after taken
    → old.stage ≡ stages.Foreign → Leaves taken more old Foreign
foreign_stays taken more old at is =
    let here = foreign_by taken (sym (ap (λ v. v.stage) at) ∙ is) in
    subst (λ v. Leaves taken more v Foreign) (sym (at ∙ here.view)) (foreign_on taken more here)

pub over_stays : (taken more : List ℕ) (old : OldView) → old ≡ old_after taken
    → old.stage ≡ stages.Over → Leaves taken more old Over
over_stays taken more old at is =
    let here = over_by taken (sym (ap (λ v. v.stage) at) ∙ is) in
    subst (λ v. Leaves taken more v Over) (sym (at ∙ here.view)) (over_on taken more here)

-- a slot goes on
begins_on : (taken more : List ℕ) → length (taken ++ more) < OLD_ROW_BYTES
    → Leaves taken more (begins_view (taken ++ more)) Part
begins_on taken more cut = record {
  stands = sym (view_begins (taken ++ more) cut);
  says = (
    λ long. absurd (omega (arith, cut, long)),
    no_rows (taken ++ more) (omega (arith, cut))
        ∙ sym (no_rows taken (omega (arith, cut, length-append taken more))),
  );
}

rows_go_on : (taken more : List ℕ) → InRows taken
    → length (behind_rows taken ++ more) < OLD_ROW_BYTES
    → Leaves taken more (rows_view (length (old_rows taken)) (behind_rows taken ++ more)) Part
rows_go_on taken more here cut =
    let shut = shut_by_cut (behind_rows taken ++ more) cut in
    let long = long_on taken more here.long in
    let same = rows_same taken more here.long shut in
    let behind = rest_longer taken more here.long shut in
    record {
      stands = sym
          ((rows_at (taken ++ more) long (still_header taken more here.long here.header)
          (omega (arith, cut, ap length behind))).view
          ∙ ap (λ l. rows_view (length l) (behind_rows (taken ++ more))) same
          ∙ ap (λ b. rows_view (length (old_rows taken)) b) behind);
      says = (
        λ whole. header_by (taken ++ more) whole
            (still_header taken more here.long here.header),
        same,
      );
    }

-- the header is whole
header_whole : (taken more : List ℕ) (piece : OldPiece) → length (taken ++ more) ≡ OLD_ROW_BYTES
    → HeaderSays (taken ++ more) piece
    → Leaves taken more
    (record { stage = stage_behind stages.Header piece; rows = counted 0 piece; begun = [] })
    piece
header_whole taken more Header whole is =
    let long : OLD_ROW_BYTES ≤ length (taken ++ more) = omega (arith, whole) in
    let none = no_rows (taken ++ more) (omega (arith, whole)) in
    let nothing = nothing_behind (taken ++ more) (omega (arith, whole)) in
    record {
      stands = sym ((rows_at (taken ++ more) long is (omega (arith, ap length nothing))).view
          ∙ ap (λ l. rows_view (length l) (behind_rows (taken ++ more))) none
          ∙ ap (λ b. rows_view 0 b) nothing);
      says = (header_by (taken ++ more) long is, none);
    }
header_whole taken more Foreign whole foreign =
    let long : OLD_ROW_BYTES ≤ length (taken ++ more) = omega (arith, whole) in
    record {
      stands = sym (view_foreign (taken ++ more) long foreign);
      says = foreign_whatever (taken ++ more) long foreign;
    }
header_whole taken more Part whole never = absurd never
header_whole taken more (Row number entry) whole never = absurd never
header_whole taken more (Bad number) whole never = absurd never
header_whole taken more Over whole never = absurd never

-- a slot of the rows is whole, and open
module _ (taken more : List ℕ) (here : InRows taken)
    (whole : length (behind_rows taken ++ more) ≡ OLD_ROW_BYTES)
    (is : begins_open (behind_rows taken ++ more) ≡ true) where
  one_more : old_rows (taken ++ more) ≡ old_rows taken ++ (behind_rows taken ++ more) ∷ []
  one_more = one_row taken more here.long is whole

  counts_one : length (old_rows (taken ++ more)) ≡ length (old_rows taken) + 1
  counts_one = ap length one_more ∙ length-append (old_rows taken) ((behind_rows taken ++ more) ∷ [])

  open_stands : rows_view (length (old_rows taken) + 1) [] ≡ old_after (taken ++ more)
  open_stands =
      let nothing = no_rest taken more here.long is whole in
      sym ((rows_at (taken ++ more) (long_on taken more here.long)
      (still_header taken more here.long here.header) (omega (arith, ap length nothing))).view
      ∙ ap (λ n. rows_view n (behind_rows (taken ++ more))) counts_one
      ∙ ap (λ b. rows_view (length (old_rows taken) + 1) b) nothing)

  open_next : (number : ℕ) → number ≡ length (old_rows taken) + 1
      → HasNextRow taken (taken ++ more) number (behind_rows taken ++ more)
  open_next number next = record {
    header = header_by (taken ++ more) (long_on taken more here.long)
        (still_header taken more here.long here.header);
    next = next;
    rows = one_more;
  }

rows_whole : (taken more : List ℕ) (piece : OldPiece) → InRows taken
    → length (behind_rows taken ++ more) ≡ OLD_ROW_BYTES
    → SlotSays (behind_rows taken ++ more) (length (old_rows taken) + 1) piece
    → Leaves taken more
    (record {
      stage = stage_behind stages.Rows piece;
      rows =
          counted (length (old_rows taken)) piece;
      begun = [];
    }) piece
rows_whole taken more (Row number entry) here whole (next, is, spells) = record {
  stands = open_stands taken more here whole is;
  says = (
    behind_rows taken ++ more,
    open_next taken more here whole is number next,
    subst (λ n. SpellsOnly (behind_rows taken ++ more) n entry) (sym next) spells,
  );
}
rows_whole taken more (Bad number) here whole (next, is, none) = record {
  stands = open_stands taken more here whole is;
  says = (
    behind_rows taken ++ more,
    open_next taken more here whole is number next,
    subst (SpellsNone (behind_rows taken ++ more)) (sym next) none,
  );
}
rows_whole taken more Over here whole shut =
    let long = long_on taken more here.long in
    let still = still_header taken more here.long here.header in
    let same = rows_same taken more here.long shut in
    let behind = rest_longer taken more here.long shut in
    let full : OLD_ROW_BYTES ≤ length (behind_rows (taken ++ more)) =
    omega (arith, whole, ap length behind) in
    record {
      stands = sym ((over_at (taken ++ more) long still full).view
          ∙ ap (λ l. over_view (length l)) same);
      says = (header_by (taken ++ more) long still, same);
    }
rows_whole taken more Part here whole never = absurd never
rows_whole taken more Header here whole never = absurd never
rows_whole taken more Foreign here whole never = absurd never

-- a step from the two places at which slots count
abbrev Step : OldView → OldView → List ℕ → OldPiece → Type 0
Step old new part piece = GoesOn old new part piece ⊎ IsWhole old new part piece

from_header : (taken part : List ℕ) (new : OldView) (piece : OldPiece)
    → Step (begins_view taken) new part piece → Leaves taken part new piece
from_header taken part new piece step = elim step [
  | inl on ↦ subst (λ p. Leaves taken part new p) (sym on.says)
      (subst (λ v. Leaves taken part v Part) (sym on.view) (begins_on taken part on.cut))
  | inr done ↦ subst (λ v. Leaves taken part v piece) (sym done.view)
      (header_whole taken part piece done.whole done.says)
]

from_rows : (taken part : List ℕ) (new : OldView) (piece : OldPiece) → InRows taken
    → Step (rows_view (length (old_rows taken)) (behind_rows taken)) new part piece
    → Leaves taken part new piece
from_rows taken part new piece here step = elim step [
  | inl on ↦ subst (λ p. Leaves taken part new p) (sym on.says)
      (subst (λ v. Leaves taken part v Part) (sym on.view) (rows_go_on taken part here on.cut))
  | inr done ↦ subst (λ v. Leaves taken part v piece) (sym done.view)
      (rows_whole taken part piece here done.whole done.says)
]

pub step_leaves : (taken part : List ℕ) (old new : OldView) (piece : OldPiece)
    → (old.stage ≡ stages.Header) ⊎ (old.stage ≡ stages.Rows) → GoesOn old new part piece
    ⊎ IsWhole old new part piece → old ≡ old_after taken → Leaves taken part new piece
step_leaves taken part old new piece counts step at = elim counts [
  | inl is ↦
      let here = begins_by taken (sym (ap (λ v. v.stage) at) ∙ is) in
      from_header taken part new piece (subst (λ v. Step v new part piece) (at ∙ here.view) step)
  | inr is ↦
      let here = rows_by taken (sym (ap (λ v. v.stage) at) ∙ is) in
      from_rows taken part new piece here (subst (λ v. Step v new part piece) (at ∙ here.view) step)
]

-- a slot that is whole
pub whole_by : (old : OldView) (slot part : List ℕ) (piece : OldPiece) (stage : Stage) (rows : ℕ)
    → old.begun ++ part ≡ slot → length slot ≡ OLD_ROW_BYTES
    → SaysAtStage old.stage old.rows slot piece
    → stage ≡ stage_behind old.stage piece → rows ≡ counted old.rows piece
    → IsWhole old (record { stage = stage; rows = rows; begun = [] }) part piece
whole_by old slot part piece stage rows is whole says staged counts = record {
  whole = ap length is ∙ whole;
  says = subst (λ s. SaysAtStage old.stage old.rows s piece) (sym is) says;
  view = ap (λ s. record { stage = s; rows = rows; begun = [] }) staged
      ∙ ap (λ n. record { stage = stage_behind old.stage piece; rows = n; begun = [] }) counts;
}

-- no row is counted without the header
pub none_counted : (taken : List ℕ) → ¬ HasOldHeader taken → (old_after taken).rows ≡ 0
none_counted taken none = elim (stands taken) [
  | inl here ↦ ap (λ v. v.rows) here.view
  | inr (inl here) ↦ ap (λ v. v.rows) here.view
  | inr (inr (inl here)) ↦ absurd (none (header_by taken here.long here.header))
  | inr (inr (inr here)) ↦ absurd (none (header_by taken here.long here.header))
]
