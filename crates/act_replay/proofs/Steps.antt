-- The act of a lawful entry, asked again by a script, is accepted and adds that entry.
use Rattle.std.proofs.Common.{◌≡◌, ℕ, ◌<◌, nat_le, false, List, [], ◌∷◌, ◌++◌, length, Option, Some, None, Ok, refl, sym, ap, ◌∙◌, arith}
use Rattle.std.proofs.lemmas.Bool.Decides.{nat_tests}
use Rattle.std.proofs.lemmas.List.{length-map}
use Rattle.std.specs.Option.{option_or}
use Rattle.book_words.specs.declared.act.Act.{Act}
use Rattle.book_words.specs.declared.act.Act.TheVariants as acts
use Rattle.book_words.specs.declared.act.Want.TheVariants as want
use Rattle.book_words.specs.declared.act.Entry.{Entry}
use Rattle.book_words.specs.declared.refusal.Refusal.{Refusal}
use Rattle.book_words.specs.declared.refusal.Refusal.TheVariants.{BookFull}
use Rattle.book_words.specs.Desks.{desk_number}
use Rattle.book_words.specs.Refusals.{refused_if, book_full, first_refusal, desk_refusals, refusals_of, refusal_of}
use Rattle.book_words.specs.Answers.{accepted, answer, added, entry_for, entry_unless, desk_answer, ask_of, IsLawful}
use Rattle.book_words.proofs.RefusalLemmas.{none_of_two, none_of_parts}
use Rattle.caller_laws.specs.Alike.{unnamed, AreSameButBy}
use Rattle.caller_laws.proofs.Answers.{answered_alike, lawful_alike}
use Rattle.store_runs.specs.Books.{BookState}
use Rattle.script_events.specs.Asking.{want_at, ask_at, exchange_at, script_caller}
use Rattle.act_reads.specs.Commands.{verb_of, command_of}

-- the command of an act wants that act, whatever the book holds
wants_act : (entries : List Entry) (act : Act) → want_at entries (verb_of act) ≡ want.Act act
wants_act entries (acts.NewDay day) = refl
wants_act entries (acts.PutProduct name nominal unit) = refl
wants_act entries (acts.PutTare product day tare) = refl
wants_act entries (acts.OpenBatch batch product density) = refl
wants_act entries (acts.StartLane lane batch) = refl
wants_act entries (acts.Weigh lane gross prior) = refl
wants_act entries (acts.StopLane lane prior) = refl
wants_act entries (acts.Void pack) = refl
wants_act entries (acts.EndRun batch) = refl
wants_act entries (acts.Draw batch mode word) = refl
wants_act entries (acts.Measure pack gross empty) = refl
wants_act entries (acts.DrawSecond batch word) = refl
wants_act entries (acts.Close batch) = refl

asks_it : (entries : List Entry) (entry : Entry)
    → ask_at entries (command_of entry) ≡ ask_of entry
asks_it entries entry =
    λ i. record {
      desk = entry.desk;
      request = entry.request;
      want = wants_act entries entry.act i;
    }

-- ---- where there is room

both_none : (a b : List (Option Refusal)) → first_refusal a ≡ None → first_refusal b ≡ None
    → first_refusal (a ++ b) ≡ None
both_none [] b h k = k
both_none (None ∷ os) b h k = both_none os b h k
both_none (Some refusal ∷ os) b h k = absurd (cc)

unrefused : (limit : ℕ) (entries : List Entry) (entry : Entry) → IsLawful entries entry
    → length entries < limit → refusal_of limit entries (ask_of entry) entry.act ≡ None
unrefused limit entries entry lawful room =
    let ask = ask_of entry in
    let parts = none_of_parts (desk_refusals entries ask entry.act)
    (refusals_of entries entry.act) lawful.rules in
    let less : nat_le limit (length entries) ≡ false = grind (arith, nat_tests) in
    both_none (desk_refusals entries ask entry.act)
    (book_full limit entries ∷ refusals_of entries entry.act) parts.0
    (ap (λ b. option_or (refused_if b (BookFull limit))
    (first_refusal (refusals_of entries entry.act))) less ∙ parts.1)

right_desk : (entries : List Entry) (entry : Entry) → IsLawful entries entry
    → desk_number (ask_of entry) entry.act ≡ None
right_desk entries entry lawful =
    (none_of_two (desk_number (ask_of entry) entry.act) _
    (none_of_parts (desk_refusals entries (ask_of entry) entry.act)
    (refusals_of entries entry.act) lawful.rules).0).0

-- a lawful entry is accepted as its act is asked, and is added for whoever asks
pub is_accepted : (limit : ℕ) (entries : List Entry) (entry : Entry) → IsLawful entries entry
    → length entries < limit → answer limit entries (ask_of entry) ≡ Ok (accepted entries entry.act)
is_accepted limit entries entry lawful room =
    λ i. desk_answer entries entry.act (right_desk entries entry lawful i) (lawful.new i)
    (unrefused limit entries entry lawful room i)

pub is_added : (limit : ℕ) (entries : List Entry) (by : ℕ) (entry : Entry)
    → IsLawful entries entry → length entries < limit
    → added limit entries by (ask_of entry) ≡ Some (record entry { by = by })
is_added limit entries by entry lawful room =
    (λ i. entry_unless (lawful.new i) (unrefused limit entries entry lawful room i)
    (entry_for entries by (ask_of entry) entry.act))
    ∙ (λ i. Some (record {
      by = by;
      desk = entry.desk;
      request = entry.request;
      act = entry.act;
      signal = sym lawful.signal i;
    }))

-- ---- at a book that holds the entries before it

pub record Accepts (book : BookState) (before : List Entry) (entry : Entry) : Type 0 where
  pub answered : (exchange_at book (command_of entry)).answer ≡ Ok (accepted before entry.act)
  pub adds : (exchange_at book (command_of entry)).added ≡ Some (unnamed entry)

same_length : (some other : List Entry) → AreSameButBy some other → length some ≡ length other
same_length some other same =
    sym (length-map some unnamed) ∙ ap length same ∙ length-map other unnamed

pub accepts : (book : BookState) (before : List Entry) (entry : Entry)
    → AreSameButBy book.entries before → IsLawful before entry → length before < book.limit
    → Accepts book before entry
accepts book before entry same lawful room =
    let here = lawful_alike before book.entries entry entry (sym same) refl lawful in
    let many : length book.entries ≡ length before = same_length book.entries before same in
    record {
      answered = ap (answer book.limit book.entries) (asks_it book.entries entry)
          ∙ answered_alike book.entries before same book.limit (ask_of entry) refl
          ∙ is_accepted book.limit before entry lawful room;
      adds = ap (added book.limit book.entries script_caller) (asks_it book.entries entry)
          ∙ is_added book.limit book.entries script_caller entry here (omega (arith, many, room));
    }
