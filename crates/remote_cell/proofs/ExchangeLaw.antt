-- The law of an exchange: what holds before an event holds behind it.
use Rattle.std.proofs.Common.{◌≡◌, ℕ, zero, suc, ◌+◌, ◌<◌, ◌≤◌, ◌==◌, nat_le, List, [], ◌∷◌, ◌++◌, length, Option, Some, None, refl, sym, ◌∙◌, ap, subst, arith, inl, inr, append_assoc, append-nil, length-append}
use Rattle.std.specs.Prelude.{All, slice_get}
use Rattle.std.proofs.lemmas.List.Elements.{All-nil, All-head, All-tail, All-push, All-weaker}
use Rattle.std.proofs.lemmas.Bool.{cases_Bool}
use Rattle.std.proofs.lemmas.Bool.Decides.{nat_tests}
use Rattle.device_facts.specs.Prefix.{IsPrefixOf}
use Rattle.remote_cell.specs.declared.items.Item.{Item}
use Rattle.remote_cell.specs.declared.receiver.Heard.{Heard}
use Rattle.remote_cell.specs.declared.receiver.Heard.TheVariants.{Take, Again, Ahead}
use Rattle.remote_cell.specs.Exchanges.{Line, heard, heard_items, line_items, acknowledgements, IsLineOf, said_by, is_said, Event, Says, LineArrives, AcknowledgementArrives, Exchange, begun, with_said, with_line, with_acknowledgement, with_event, exchanged_from, exchanged, IsFaithful}

-- ---- lists

-- what stands at a place stands within the list
pub is_within : {X : Type 0} (xs : List X) (place : ℕ) (x : X) → slice_get xs place ≡ Some x
    → place < length xs
is_within [] place x is = absurd (cc)
is_within (y ∷ xs) zero x is = omega arith
is_within (y ∷ xs) (suc place) x is = omega (arith, is_within xs place x is)

at_place : {X : Type 0} (P : X → Type 0) (xs : List X) (place : ℕ) (x : X)
    → slice_get xs place ≡ Some x → All P xs → P x
at_place P [] place x is all = absurd (cc)
at_place P (y ∷ xs) zero x is all =
    let same : y ≡ x = cc in
    subst P same (All-head P y xs all)
at_place P (y ∷ xs) (suc place) x is all = at_place P xs place x is (All-tail P y xs all)

at_seam : {X : Type 0} (front more : List X)
    → slice_get (front ++ more) (length front) ≡ slice_get more 0
at_seam [] more = refl
at_seam (x ∷ front) more = at_seam front more

one_more : {X : Type 0} (front whole more : List X) (x : X) → whole ≡ front ++ more
    → slice_get more 0 ≡ Some x → IsPrefixOf (front ++ x ∷ []) whole
one_more front whole [] x is next = absurd (cc)
one_more {X} front whole (y ∷ more) x is next =
    let same : y ≡ x = cc in (
      more,
      is ∙ ap (λ (z : X). front ++ z ∷ more) same ∙ sym (append_assoc front (x ∷ []) more),
    )

-- the first of a list, with the next behind them
prefix_more : {X : Type 0} (front whole : List X) (x : X) → IsPrefixOf front whole
    → slice_get whole (length front) ≡ Some x → IsPrefixOf (front ++ x ∷ []) whole
prefix_more {X} front whole x begins next =
    one_more front whole begins.0 x begins.1
    (sym (at_seam front begins.0)
    ∙ ap (λ (xs : List X). slice_get xs (length front)) (sym begins.1) ∙ next)

-- ---- what holds of an exchange

record Holds (items : List Item) (x : Exchange) : Type 0 where
  same : x.sending.items ≡ items
  said : All (IsLineOf items) x.said
  taken : IsPrefixOf x.taken items
  sent : All (λ number. number ≤ length x.taken) x.sent
  acknowledged : x.sending.acknowledged ≤ length x.taken

holds_begun : (items : List Item) → Holds items (begun items)
holds_begun items = record {
  same = refl;
  said = All-nil (IsLineOf items);
  taken = (items, refl);
  sent = All-nil (λ number. number ≤ 0);
  acknowledged = omega arith;
}

-- ---- the scale says its line

holds_said : (items : List Item) (x : Exchange) (found : Option Item)
    → slice_get items x.sending.acknowledged ≡ found → Holds items x
    → Holds items (with_said x (said_by x.sending))
holds_said items x None is holds =
    let none : slice_get x.sending.items x.sending.acknowledged ≡ None =
    ap (λ (xs : List Item). slice_get xs x.sending.acknowledged) holds.same ∙ is in
    rw none holds
holds_said items x (Some item) is holds =
    let some : slice_get x.sending.items x.sending.acknowledged ≡ Some item =
    ap (λ (xs : List Item). slice_get xs x.sending.acknowledged) holds.same ∙ is in
    let line : Line = (x.sending.acknowledged + 1, item) in
    rw some (record {
      same = holds.same;
      said = All-push (IsLineOf items) x.said line holds.said
          (record { place = x.sending.acknowledged; number = refl; item = is });
      taken = holds.taken;
      sent = holds.sent;
      acknowledged = holds.acknowledged;
    })

-- ---- a line arrives

pub is_take : (taken number : ℕ) → heard taken number ≡ Take → number ≡ taken + 1
is_take taken number is = elim (cases_Bool (number == taken + 1)) [
  | inl same ↦ grind (arith, nat_tests, same)
  | inr other ↦ elim (cases_Bool (nat_le number taken)) [
    | inl low ↦ absurd (let never : Again ≡ Take = rw (other, low) at is in cc)
    | inr high ↦ absurd (let never : Ahead ≡ Take = rw (other, high) at is in cc)
  ]
]

sent_more : (how : Heard) (was now : ℕ) (sent : List ℕ) → was ≤ now
    → All (λ number. number ≤ was) sent
    → All (λ number. number ≤ now) (sent ++ acknowledgements how now)
sent_more Take was now sent grows all =
    All-push (λ number. number ≤ now) sent now
    (All-weaker (λ number. number ≤ was) (λ number. number ≤ now)
    (λ number low. omega (arith, low, grows)) sent all) (omega arith)
sent_more Again was now sent grows all =
    All-push (λ number. number ≤ now) sent now
    (All-weaker (λ number. number ≤ was) (λ number. number ≤ now)
    (λ number low. omega (arith, low, grows)) sent all) (omega arith)
sent_more Ahead was now sent grows all =
    subst (λ (all : List ℕ). All (λ number. number ≤ now) all) (sym (append-nil sent))
    (All-weaker (λ number. number ≤ was) (λ number. number ≤ now)
    (λ number low. omega (arith, low, grows)) sent all)

-- the items taken are the first ones still
taken_more : (items taken : List Item) (line : Line) (how : Heard) → IsLineOf items line
    → heard (length taken) line.0 ≡ how → IsPrefixOf taken items
    → IsPrefixOf (taken ++ heard_items how line.1) items
taken_more items taken line Take of is begins =
    let next : length taken ≡ of.place =
    omega (arith, is_take (length taken) line.0 is, of.number) in
    prefix_more taken items line.1 begins
    (ap (λ (place : ℕ). slice_get items place) next ∙ of.item)
taken_more items taken line Again of is begins =
    subst (λ (xs : List Item). IsPrefixOf xs items) (sym (append-nil taken)) begins
taken_more items taken line Ahead of is begins =
    subst (λ (xs : List Item). IsPrefixOf xs items) (sym (append-nil taken)) begins

holds_heard : (items : List Item) (x : Exchange) (line : Line) → IsLineOf items line
    → Holds items x → Holds items (with_line x (Some line))
holds_heard items x line of holds =
    let how : Heard = heard (length x.taken) line.0 in
    let more : List Item = heard_items how line.1 in
    let grows : length x.taken ≤ length (x.taken ++ more) =
    omega (arith, length-append x.taken more) in
    record {
      same = holds.same;
      said = holds.said;
      taken = taken_more items x.taken line how of refl holds.taken;
      sent = sent_more how (length x.taken) (length (x.taken ++ more)) x.sent grows holds.sent;
      acknowledged = omega (arith, grows, holds.acknowledged);
    }

holds_line : (items : List Item) (x : Exchange) (found : Option Line)
    → ((line : Line) → found ≡ Some line → IsLineOf items line) → Holds items x
    → Holds items (with_line x found)
holds_line items x None of holds = holds
holds_line items x (Some line) of holds = holds_heard items x line (of line refl) holds

-- ---- an acknowledgement arrives

holds_acknowledged : (items : List Item) (x : Exchange) (found : Option ℕ)
    → ((number : ℕ) → found ≡ Some number → number ≤ length x.taken) → Holds items x
    → Holds items (with_acknowledgement x found)
holds_acknowledged items x None low holds = holds
holds_acknowledged items x (Some number) low holds =
    elim (cases_Bool (is_said x.sending number)) [
      | inl is ↦ rw is (record {
        same = holds.same;
        said = holds.said;
        taken = holds.taken;
        sent = holds.sent;
        acknowledged = low number refl;
      })
      | inr other ↦ rw other holds
    ]

-- ---- all events

holds_event : (items : List Item) (x : Exchange) (event : Event) → Holds items x
    → Holds items (with_event x event)
holds_event items x Says holds =
    holds_said items x (slice_get items x.sending.acknowledged) refl holds
holds_event items x (LineArrives place) holds =
    holds_line items x (slice_get x.said place)
    (λ line is. at_place (IsLineOf items) x.said place line is holds.said) holds
holds_event items x (AcknowledgementArrives place) holds =
    holds_acknowledged items x (slice_get x.sent place)
    (λ number is. at_place (λ n. n ≤ length x.taken) x.sent place number is holds.sent) holds

holds_from : (items : List Item) (x : Exchange) (events : List Event) → Holds items x
    → Holds items (exchanged_from x events)
holds_from items x [] holds = holds
holds_from items x (event ∷ events) holds =
    holds_from items (with_event x event) events (holds_event items x event holds)

pub is_faithful : (items : List Item) (events : List Event)
    → IsFaithful items (exchanged items events)
is_faithful items events =
    let holds = holds_from items (begun items) events (holds_begun items) in
    record { taken = holds.taken; acknowledged = holds.acknowledged }

-- ---- lines, one after another

-- what is taken of lines of a scale are the first of its items, where those taken before are
pub lines_taken : (items taken : List Item) (lines : List Line) → All (IsLineOf items) lines
    → IsPrefixOf taken items → IsPrefixOf (taken ++ line_items (length taken) lines) items
lines_taken items taken [] of begins =
    subst (λ (xs : List Item). IsPrefixOf xs items) (sym (append-nil taken)) begins
lines_taken items taken (line ∷ lines) of begins =
    let t : List Item = heard_items (heard (length taken) line.0) line.1 in
    let first = taken_more items taken line (heard (length taken) line.0)
    (All-head (IsLineOf items) line lines of) refl begins in
    let all = lines_taken items (taken ++ t) lines (All-tail (IsLineOf items) line lines of) first in
    let same : (taken ++ t) ++ line_items (length (taken ++ t)) lines
    ≡ taken ++ (t ++ line_items (length taken + length t) lines) =
    append_assoc taken t (line_items (length (taken ++ t)) lines)
    ∙ ap (λ (n : ℕ). taken ++ (t ++ line_items n lines)) (length-append taken t) in
    subst (λ (xs : List Item). IsPrefixOf xs items) same all
