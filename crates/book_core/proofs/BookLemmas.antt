-- What is kept of a book from one moment to the next.
use Rattle.std.proofs.Common.{◌≡◌, ℕ, ◌+◌, ◌<◌, ◌≤◌, List, [], ◌∷◌, ◌++◌, length, Option, Some, None, Ok, refl, sym, ◌∙◌, ap, subst, arith}
use Rattle.hall_limits.specs.declared.TheConstants.{MAX_ROWS}
use Rattle.pack_judge.specs.declared.types.Signal.{Signal}
use Rattle.book_words.specs.declared.act.Act.{Act}
use Rattle.book_words.specs.declared.act.Ask.{Ask}
use Rattle.book_words.specs.declared.act.Entry.{Entry}
use Rattle.book_words.specs.Signals.{recorded_signal}
use Rattle.book_words.specs.declared.reply.Reply.{Reply}
use Rattle.book_words.specs.Answers.{ask_of, reply_behind, act_answer, IsLawful, IsLegal}
use Rattle.book_words.proofs.LegalLemmas.{legal-push}
use Rattle.book_rules.specs.View.{StateView}
use Rattle.book_rules.specs.LaneNow.{LaneNow}
use Rattle.book_rules.specs.Lanes.{IsSeen}
use Rattle.book_rules.specs.Prepared.{Drawn, drawn_by}
use Rattle.book_core.specs.declared.pending.Pending.{Pending}
use Rattle.book_core.specs.View.{ReadyEntry}
use Rattle.book_core.specs.Steps.{decision}
use Rattle.book_core.specs.ReadyFacts.{IsReadyIn}
use Rattle.book_core.specs.BookInvariant.{pending_entry, IsKept}
use Rattle.book_core.proofs.DecisionLemmas.{is_free, has_room, all_rules, lawful_answer}

-- what is ready over a list is ready over the same list with at least as much room
ready_on : (old new : StateView) (ready : ReadyEntry) (seen : LaneNow) (drawn : Drawn)
    → new.entries ≡ old.entries → old.spare ≤ new.spare → IsReadyIn old ready seen drawn
    → IsReadyIn new ready seen drawn
ready_on old new ready seen drawn same more is =
    record {
      number = is.number ∙ ap (λ (es : List Entry). length es + 1) (sym same);
      lawful = subst (λ (es : List Entry). IsLawful es ready.entry) (sym same) is.lawful;
      room = let room = is.room in omega (arith, room, more);
      seen_is = subst (λ (es : List Entry). IsSeen es ready.entry.act seen) (sym same) is.seen_is;
      drawn_is = is.drawn_is ∙ ap (λ (es : List Entry). drawn_by es ready.entry.act) (sym same);
    }

-- so a book is kept where its list stays and its room doesn't shrink
pub kept_on : (old new : StateView) (limit : ℕ) (pending : Option Pending)
    → new.entries ≡ old.entries → old.spare ≤ new.spare → IsKept old limit pending
    → IsKept new limit pending
kept_on old new limit pending same more kept =
    record {
      legal = subst IsLegal (sym same) kept.legal;
      most = kept.most;
      ready = λ held is. ready_on old new held.ready held.seen held.drawn same more
          (kept.ready held is);
    }

some_is : {A : Type 0} {a b : A} → Some a ≡ Some b → a ≡ b
some_is h = cc

-- what is held is what was made ready
pub held_is : (state : StateView) (limit : ℕ) (pending : Option Pending) (held : Pending)
    (ready : ReadyEntry) → IsKept state limit pending → pending ≡ Some held
    → pending_entry pending ≡ Some ready
    → IsReadyIn state ready held.seen held.drawn
held_is state limit pending held ready kept is told =
    subst (λ (r : ReadyEntry). IsReadyIn state r held.seen held.drawn)
    (some_is (sym (ap pending_entry is) ∙ told)) (kept.ready held is)

-- a book with one lawful entry more, and nothing ready
pub entered : (new : StateView) (entries : List Entry) (entry : Entry) (limit : ℕ)
    (pending : Option Pending) → new.entries ≡ entries ++ entry ∷ [] → pending ≡ None
    → IsLegal entries → IsLawful entries entry → limit ≤ MAX_ROWS → IsKept new limit pending
entered new entries entry limit pending more none legal lawful most =
    record {
      legal = subst IsLegal (sym more) (legal-push entries entry legal lawful);
      most = most;
      ready = λ held is. absurd (never held (sym none ∙ is));
    }
  where
    never : (held : Pending) → None ≡ Some held → ⊥
    never held h = cc

-- an act that is decided to be new is lawful as the entry that it will be
pub new_is_lawful : (limit : ℕ) (entries : List Entry) (by : ℕ) (ask : Ask) (act : Act)
    (signal : Option Signal) → limit ≤ MAX_ROWS → decision limit entries ask act ≡ Ok None
    → signal ≡ recorded_signal entries act
    → IsLawful entries
    (record { by = by; desk = ask.desk; request = ask.request; act = act; signal = signal })
new_is_lawful limit entries by ask act signal most found is =
    let free = is_free limit entries ask act found in
    let room = has_room limit entries ask act free.free in
    record {
      room = omega (arith, room, most);
      new = free.new;
      rules = all_rules limit entries ask act free.free;
      signal = is;
    }

-- a book keeps a lawful entry ready for which it has room, has seen the lane and has drawn
pub holds : (state : StateView) (limit : ℕ) (held : Pending) (entry : Entry) → IsLegal state.entries
    → limit ≤ MAX_ROWS
    → held.ready ≡ record { number = length state.entries + 1; entry = entry }
    → IsLawful state.entries entry → 0 < state.spare
    → IsSeen state.entries entry.act held.seen → held.drawn ≡ drawn_by state.entries entry.act
    → IsKept state limit (Some held)
holds state limit held entry legal most same lawful room seen drawn =
    record {
      legal = legal;
      most = most;
      ready = λ other there. subst (λ (p : Pending). IsReadyIn state p.ready p.seen p.drawn)
          (some_is there)
          (subst (λ (r : ReadyEntry). IsReadyIn state r held.seen held.drawn) (sym same)
          (record {
            number = refl;
            lawful = lawful;
            room = room;
            seen_is = seen;
            drawn_is = drawn;
          }));
    }

-- what is entered is answered as in a book of the most rows
pub entered_answer : (state : StateView) (entries : List Entry) (ready : ReadyEntry) (seen : LaneNow)
    (drawn : Drawn) (entry : Entry) (number : ℕ) (reply : Reply) → IsReadyIn state ready seen drawn
    → state.entries ≡ entries
    → entry ≡ ready.entry → number ≡ ready.number → reply ≡ reply_behind state.entries entry.act
    → Ok (record { at = number; reply = reply })
    ≡ act_answer MAX_ROWS entries (ask_of ready.entry) ready.entry.act
entered_answer state entries ready seen drawn entry number reply is same entry_is number_is told =
    ap (λ n. Ok (record { at = n; reply = reply })) (number_is ∙ is.number)
    ∙ ap (λ (r : Reply). Ok (record { at = length state.entries + 1; reply = r }))
    (told ∙ ap (λ (e : Entry). reply_behind state.entries e.act) entry_is)
    ∙ sym (lawful_answer state.entries ready.entry is.lawful)
    ∙ ap (λ (es : List Entry). act_answer MAX_ROWS es (ask_of ready.entry) ready.entry.act) same
