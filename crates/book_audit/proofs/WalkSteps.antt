-- One slot more of a walk over slots.
use Rattle.std.proofs.Common.{◌≡◌, ◌≢◌, ℕ, suc, ◌+◌, ◌-◌, ◌<◌, ◌≤◌, Bool, true, false, List, [], ◌∷◌, ◌++◌, length, get_or, take, drop, refl, sym, ◌∙◌, ap, subst, arith, append_assoc, length-append}
use Rattle.std.proofs.lemmas.List.{drop-drop, drop_at, take_at, take-append-drop}
use Rattle.hall_limits.specs.declared.TheConstants.{MAX_ROWS}
use Rattle.device_facts.specs.Prefix.{IsPrefixOf}
use Rattle.book_words.specs.declared.act.Entry.{Entry}
use Rattle.book_words.specs.Answers.{IsLegal}
use Rattle.book_snapshot.specs.declared.layout.TheConstants.{ROW_BYTES, OPEN}
use Rattle.row_format.specs.Spelling.{new_layout, row_bytes}
use Rattle.book_journal.specs.declared.layout.TheConstants.{MAX_SLOTS}
use Rattle.book_journal.specs.Rows.{open_rows, starts_open, gate_behind}
use Rattle.book_journal.proofs.OpenRows.{open_by, shut_by_gate, shut_by_cut, open_rows-open, open_rows-shut, open_rows-none}
use Rattle.book_store.specs.Images.{spelled, CanAllBeSpelled}
use Rattle.book_store.proofs.SpelledRows.{spelled_more, all_more}
use Rattle.book_mount.proofs.OneMoreRow.{none_legal}
use Rattle.book_audit.specs.Slots.{slots_of, BeginWith, IsDamagedBehind, AreCutShort}
use Rattle.book_audit.specs.declared.slots.Walk.{Walk}
use Rattle.book_audit.specs.declared.slots.Walk.TheVariants.{On, End, Damaged}
use Rattle.book_audit.specs.Walking.{slots_behind, SlotsStand, EntersRow, IsEntered, WalksTo, walk_behind, at_end}

-- before the first slot
pub stands_first : (bytes : List ℕ) → SlotsStand bytes []
stands_first bytes = record { split = refl; can = tt; legal = none_legal }

-- at a slot that is cut or closed nothing is left
pub stands_end : (bytes : List ℕ) (entries : List Entry) → SlotsStand bytes entries
    → starts_open (drop (gate_behind (length entries)) bytes) ≡ false
    → BeginWith (slots_of bytes) entries []
stands_end bytes entries stands shut = subst (BeginWith (slots_of bytes) entries)
    (open_rows-shut (MAX_SLOTS - length entries) (drop (gate_behind (length entries)) bytes) shut)
    stands

-- all slots that count are entered
pub stands_full : (bytes : List ℕ) (entries : List Entry) → SlotsStand bytes entries
    → MAX_SLOTS ≤ length entries → BeginWith (slots_of bytes) entries []
stands_full bytes entries stands full =
    let none : MAX_SLOTS - length entries ≡ 0 = omega (arith, full) in
    subst (BeginWith (slots_of bytes) entries)
    (ap (λ (n : ℕ). open_rows n (drop (gate_behind (length entries)) bytes)) none
    ∙ open_rows-none (drop (gate_behind (length entries)) bytes)) stands

-- an open slot at a place is the next row
module _ (bytes slot : List ℕ) (entries : List Entry) (long : length slot ≡ ROW_BYTES)
    (few : length entries ≤ MAX_ROWS) (gate : get_or slot 0 0 ≡ OPEN)
    (here : IsPrefixOf slot (drop (gate_behind (length entries)) bytes))
    (stands : SlotsStand bytes entries) where
  abbrev there : List ℕ
  there = drop (gate_behind (length entries)) bytes

  abbrev left : ℕ
  left = MAX_SLOTS - (length entries + 1)

  slot_is : take ROW_BYTES there ≡ slot
  slot_is = ap (take ROW_BYTES) here.1 ∙ take_at slot here.0 ROW_BYTES long

  is_open : starts_open there ≡ true
  is_open = subst (λ (l : List ℕ). starts_open l ≡ true) (sym here.1)
      (open_by (slot ++ here.0) (omega (arith, long, length-append slot here.0))
      (at_front slot here.0 long gate))
    where
      at_front : (front more : List ℕ) → length front ≡ ROW_BYTES → get_or front 0 0 ≡ OPEN
          → get_or (front ++ more) 0 0 ≡ OPEN
      at_front [] more long gate = absurd (omega (arith, long))
      at_front (x ∷ xs) more long gate = gate

  next_slots : slots_behind (length entries) bytes
      ≡ slot ∷ slots_behind (length entries + 1) bytes
  next_slots =
      let count : MAX_SLOTS - length entries ≡ suc left = omega (arith, few) in
      let place : gate_behind (length entries) + ROW_BYTES ≡ gate_behind (length entries + 1) =
      omega arith in
      ap (λ (n : ℕ). open_rows n there) count ∙ open_rows-open left there is_open
      ∙ ap (λ (l : List ℕ). l ∷ open_rows left (drop ROW_BYTES there)) slot_is
      ∙ ap (λ (l : List ℕ). slot ∷ open_rows left l)
      (drop-drop ROW_BYTES (gate_behind (length entries)) bytes
      ∙ ap (λ (n : ℕ). drop n bytes) place)

  pub stands_on : (new : List Entry) → IsEntered slot entries new → IsLegal new → SlotsStand bytes new
  stands_on new is legal =
      let entry = is.entry in
      let rest = slots_behind (length entries + 1) bytes in
      let size : length entries + 1 ≡ length new =
      omega (arith, ap length is.more, length-append entries (entry ∷ [])) in
      let row : slot ∷ [] ≡ row_bytes new_layout (length entries + 1) entry ∷ [] =
      ap (λ (l : List ℕ). l ∷ []) is.spells.row in
      record {
        split = stands.split
            ∙ ap (λ (l : List (List ℕ)). spelled entries ++ l) next_slots
            ∙ sym (append_assoc (spelled entries) (slot ∷ []) rest)
            ∙ ap (λ (l : List (List ℕ)). (spelled entries ++ l) ++ rest) row
            ∙ ap (λ (l : List (List ℕ)). l ++ rest) (sym (spelled_more entries entry))
            ∙ ap (λ (l : List Entry). spelled l ++ rest) (sym is.more)
            ∙ ap (λ (n : ℕ). spelled new ++ slots_behind n bytes) size;
        can = subst CanAllBeSpelled (sym is.more) (all_more entries entry stands.can is.spells.can);
        legal = legal;
      }

  pub stands_cut : IsDamagedBehind entries slot → AreCutShort (slots_of bytes) entries
  stands_cut damaged = record {
    next = slot;
    left = slots_behind (length entries + 1) bytes;
    before = subst (BeginWith (slots_of bytes) entries) next_slots stands;
    damaged = damaged;
  }

-- where the slot isn't open nothing is left
pub stands_shut : (bytes slot : List ℕ) (entries : List Entry) → length slot ≡ ROW_BYTES
    → get_or slot 0 0 ≢ OPEN → IsPrefixOf slot (drop (gate_behind (length entries)) bytes)
    → SlotsStand bytes entries → BeginWith (slots_of bytes) entries []
stands_shut bytes slot entries long shut here stands =
    stands_end bytes entries stands
    (subst (λ (l : List ℕ). starts_open l ≡ false) (sym here.1)
    (shut_by_gate (slot ++ here.0) (at_front slot here.0 long shut)))
  where
    at_front : (front more : List ℕ) → length front ≡ ROW_BYTES → get_or front 0 0 ≢ OPEN
        → get_or (front ++ more) 0 0 ≢ OPEN
    at_front [] more long shut = absurd (omega (arith, long))
    at_front (x ∷ xs) more long shut = shut

-- at an open slot the walk goes on, or its row is damaged
module _ (bytes slot : List ℕ) (old new : List Entry) (long : length slot ≡ ROW_BYTES)
    (few : length old ≤ MAX_ROWS) (gate : get_or slot 0 0 ≡ OPEN) (legal : IsLegal new)
    (here : IsPrefixOf slot (drop (gate_behind (length old)) bytes))
    (stands : SlotsStand bytes old) where
  pub walks_behind : (entered : Bool) → EntersRow slot old new entered
      → WalksTo bytes new (walk_behind entered)
  walks_behind true is = stands_on bytes slot old long few gate here stands new is legal
  walks_behind false is = subst (λ (es : List Entry). AreCutShort (slots_of bytes) es) (sym is.0)
      (stands_cut bytes slot old long few gate here stands is.1)

-- it goes on with one entry more
pub one_more : (slot : List ℕ) (old new : List Entry) (entered : Bool)
    → EntersRow slot old new entered → walk_behind entered ≡ On → length new ≡ length old + 1
one_more slot old new true is on =
    omega (arith, ap length is.more, length-append old (is.entry ∷ []))
one_more slot old new false is on = absurd cc

-- at the end of the disk nothing is left
pub walks_end : (bytes : List ℕ) (entries : List Entry) (stands : Walk)
    → (stands ≡ On → length (drop (gate_behind (length entries)) bytes) < ROW_BYTES)
    → WalksTo bytes entries stands → WalksTo bytes entries (at_end stands)
walks_end bytes entries On short is = stands_end bytes entries is
    (shut_by_cut (drop (gate_behind (length entries)) bytes) (short refl))
walks_end bytes entries End short is = is
walks_end bytes entries Damaged short is = is

-- a piece that is read begins with a slot, and the others stand behind it
abbrev pub slot_here : (rest slot after bytes : List ℕ) → slot ≡ take ROW_BYTES rest
    → after ≡ drop ROW_BYTES rest → IsPrefixOf rest bytes → IsPrefixOf slot bytes
slot_here rest slot after bytes is behind here = (
  after ++ here.0,
  here.1 ∙ ap (λ (l : List ℕ). l ++ here.0)
      (sym (take-append-drop ROW_BYTES rest)
      ∙ ap (λ (l : List ℕ). l ++ drop ROW_BYTES rest) (sym is)
      ∙ ap (λ (l : List ℕ). slot ++ l) (sym behind))
      ∙ append_assoc slot after here.0,
)

pub others_here : (bytes rest slot after : List ℕ) (count now : ℕ) → slot ≡ take ROW_BYTES rest
    → after ≡ drop ROW_BYTES rest → length slot ≡ ROW_BYTES → now ≡ count + 1
    → IsPrefixOf rest (drop (gate_behind count) bytes)
    → IsPrefixOf after (drop (gate_behind now) bytes)
others_here bytes rest slot after count now is behind long next here =
    let first = slot_here rest slot after (drop (gate_behind count) bytes) is behind here in
    let place : gate_behind now ≡ gate_behind count + ROW_BYTES = omega (arith, next) in (
      here.0,
      ap (λ (n : ℕ). drop n bytes) place
          ∙ sym (drop-drop ROW_BYTES (gate_behind count) bytes)
          ∙ ap (λ (l : List ℕ). drop ROW_BYTES l) first.1
          ∙ drop_at slot (after ++ here.0) ROW_BYTES long,
    )
