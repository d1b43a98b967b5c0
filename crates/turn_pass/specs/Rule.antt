-- The rule of the one word: what holds of it and of what all seats know, between any two steps.
use Rattle.std.specs.Prelude.{◌≡◌, ◌≢◌, ℕ, ◌+◌, List, [], ◌∷◌, ◌++◌, length}
use Rattle.std.specs.Prelude.{All, AllPairs, Contains}
use mathlib.Core.Option.{some}
use mathlib.Core.List.{IsPrefix}
use lib.ListN.{get_elem?}
use Rattle.atomic_table.specs.Table.{State, Step, Me}
use Rattle.turn_pass.specs.declared.entries.Appended.{Appended}
use Rattle.turn_pass.specs.declared.entries.Own.{Own}
use Rattle.turn_pass.specs.declared.entries.Known.{Known}
use Rattle.turn_pass.specs.declared.rule.View.{View}
use Rattle.turn_pass.specs.declared.rule.Role.{Role}
use Rattle.turn_pass.specs.declared.rule.Role.TheVariants.{Book, Pass, Note, Spent}
use Rattle.turn_pass.specs.History.{Agrees, longer, with_own}

-- what there is: the list, the numbers of all passes that were made, and which seat each pass is, 0
-- once it has ended
pub record Truth (E : Type 0) : Type 0 where
  pub list : List (Appended E)
  pub bys : List ℕ
  pub seat_of : ℕ → ℕ

-- what a step tells: of the step, the seat before, the number found and the seat after
abbrev pub Tells : Type 0 → Type 1
Tells E = Step (Unit {0}) → Me (Unit {0}) (View E) → ℕ → Me (Unit {0}) (View E) → Type 0

module _ {E : Type 0} where
  -- a seat that isn't spent has seen a beginning of the list, and what it knows and what it heard
  -- agrees with what it has seen
  pub record IsLive (history : ℕ) (truth : Truth E) (v : View E) : Type 0 where
    pub began : v.history ≡ history
    pub seen : IsPrefix v.known.seen truth.list
    pub known : Agrees history v.known.seen v.known
    pub heard : All (Agrees history v.known.seen) v.heard

  -- a pass that has ended
  pub record IsEnded (history : ℕ) (truth : Truth E) (k : Known E) : Type 0 where
    pub agrees : Agrees history truth.list k
    pub recorded : Contains truth.bys k.by
    pub nowhere : truth.seat_of k.by ≡ 0

  -- there is one book seat, which has the whole list and has recorded each pass
  pub record IsBook (history : ℕ) (truth : Truth E) (seat : ℕ) (v : View E) : Type 0 where
    pub live : IsLive history truth v
    pub first : seat ≡ 0
    pub list : v.known.seen ≡ truth.list
    pub bys : v.bys ≡ truth.bys
    pub ended : All (IsEnded history truth) v.ended
    pub apart : AllPairs (λ (j k : Known E). j.by ≢ k.by) v.ended

  -- a pass was recorded, and no other seat has its number
  pub record IsPass (history : ℕ) (truth : Truth E) (seat : ℕ) (v : View E) : Type 0 where
    pub live : IsLive history truth v
    pub later : seat ≢ 0
    pub recorded : Contains truth.bys v.known.by
    pub only : truth.seat_of v.known.by ≡ seat

  pub record IsNote (history : ℕ) (truth : Truth E) (seat : ℕ) (v : View E) : Type 0 where
    pub live : IsLive history truth v
    pub later : seat ≢ 0

  abbrev pub IsRole : Role → ℕ → Truth E → ℕ → View E → Type 0
  IsRole Book history truth seat v = IsBook history truth seat v
  IsRole Pass history truth seat v = IsPass history truth seat v
  IsRole Note history truth seat v = IsNote history truth seat v
  IsRole Spent history truth seat v = seat ≢ 0

  -- the rule: the word is the rows before the session and the length of the list, and each seat is
  -- what its role says
  pub record IsKept (history : ℕ) (s : State (Unit {0}) (View E)) : Type 0 where
    pub truth : Truth E
    pub word : s.words ≡ (history + length truth.list) ∷ []
    pub each : (seat : ℕ) (v : View E)
        → get_elem? s.views seat ≡ some v → IsRole v.role history truth seat v

  -- who knows nothing
  abbrev pub nobody : Known E
  nobody = record { by = 0; seen = []; mine = [] }

  abbrev pub view_of : Role → ℕ → Known E → View E
  view_of role history known = record {
    role = role;
    history = history;
    known = known;
    bys = [];
    heard = [];
    ended = [];
  }

  -- the book seat as the session begins
  abbrev pub first_view : ℕ → View E
  first_view history = view_of Book history nobody

  -- a pass is made: the book seat records its number, and the pass has seen the whole list
  abbrev pub with_by : View E → ℕ → View E
  with_by v by = record v { bys = v.bys ++ by ∷ [] }

  abbrev pub pass_view : View E → ℕ → View E
  pass_view v by = view_of Pass v.history record { by = by; seen = v.known.seen; mine = [] }

  -- a note of what a seat knows
  abbrev pub note_view : View E → View E
  note_view v = view_of Note v.history v.known

  abbrev pub spent_view : View E
  spent_view = view_of Spent 0 nobody

  -- the book seat hears a note of a pass
  abbrev pub hearing : View E → View E → View E
  hearing v w = record v { heard = w.known ∷ [] }

  -- a pass meets a note, and takes the longer list
  abbrev pub meeting : View E → View E → View E
  meeting v w = record v {
    known = record v.known { seen = longer v.known.seen w.known.seen };
    heard = v.known ∷ w.known ∷ [];
  }

  -- passes end, and the book seat keeps what they knew
  abbrev pub with_ended : List (Known E) → View E → View E
  with_ended known v = record v { ended = known ++ v.ended }

  abbrev pub ending : View E → View E → View E
  ending v w = with_ended (w.known ∷ []) v

  -- what a seat learns of its own view
  pub record Learns (v : View E) : Type 0 where
    pub known : Agrees v.history v.known.seen v.known
    pub heard : All (Agrees v.history v.known.seen) v.heard

  abbrev pub with_lines : View E → List (Appended E) → View E
  with_lines v lines = record v { known = record v.known { seen = v.known.seen ++ lines } }

  abbrev pub with_each : List (Own E) → List (Own E) → List (Own E)
  with_each mine [] = mine
  with_each mine (o ∷ new) = with_each (with_own mine o) new

  abbrev pub with_mine : View E → List (Own E) → View E
  with_mine v mine = record v { known = record v.known { mine = with_each v.known.mine mine } }

  -- a load
  abbrev pub Looks : Tells E
  Looks s me found after = (after ≡ me) × Learns me.0

  -- an append finds the number of the last row
  abbrev pub Appends : List (Appended E) → Tells E
  Appends lines s me found after =
      (after ≡ (with_lines me.0 lines, me.1))
      × (found ≡ me.0.history + length me.0.known.seen)
      × Learns me.0

  -- a load by which entries become the pass's own
  abbrev pub Sees : List (Own E) → Tells E
  Sees mine s me found after = (after ≡ (with_mine me.0 mine, me.1)) × Learns (with_mine me.0 mine)
