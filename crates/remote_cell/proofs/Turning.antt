-- What a call comes to, step by step, over any door.
use Rattle.std.proofs.Common.{◌≡◌, ℕ, zero, suc, ◌+◌, ◌≤◌, Bool, true, false, true≢false, List, [], ◌∷◌, ◌++◌, Option, Some, None, option_map, is_some, IfSome, Result, Ok, Err, is_ok, refl, sym, ◌∙◌, ap, subst, inl, inr, arith, append_assoc}
use Rattle.std.specs.Bool.{⊤}
use Rattle.device_facts.specs.Count.{Counted}
use Rattle.disk_core.specs.declared.types.Failed.{Failed}
use Rattle.disk_core.specs.Doors.{Connections, served, next_connections, with_taken, with_written, left_now}
use Rattle.lane_worker.specs.declared.types.CellNext.{CellNext}
use Rattle.lane_worker.specs.declared.types.CellNext.TheVariants as cell
use Rattle.lane_worker.specs.CellLines.{next_line}
use Rattle.remote_cell.specs.declared.items.Item.{Item}
use Rattle.remote_cell.specs.declared.items.Item.TheVariants.{Gross, Batch, End}
use Rattle.remote_cell.specs.declared.receiver.Heard as hears
use Rattle.remote_cell.specs.declared.receiver.Heard.TheVariants.{Take, Again, Ahead}
use Rattle.remote_cell.specs.declared.hearing.Hearing.{Hearing}
use Rattle.std.proofs.lemmas.Bool.{cases_Bool}
use Rattle.remote_cell.specs.declared.reading.LineEnd.{LineEnd}
use Rattle.remote_cell.specs.declared.reading.LineEnd.TheVariants.{Whole, TooLong, Cut}
use Rattle.remote_cell.specs.declared.turns.TheConstants.{MAX_TURNS}
use Rattle.remote_cell.specs.Exchanges.{Line, heard}
use Rattle.remote_cell.specs.WireLines.{line_said, acknowledgement}
use Rattle.remote_cell.specs.Told.{Port, Site, site, IsNothingMore, IsSound, Knows, given_items, silent}
use Rattle.remote_cell.specs.Heard.{FailedSoOften, HasTaken, IfBoth, Goes, items_of, over_behind, LastSays, Tells, ResultTells, HasHeard}
use Rattle.remote_cell.specs.Steps.{Sends, ReadsLine, bad_behind, spoilt, heard_line, item_given, heard_text, item_heard, Acknowledged, is_answered, AnsweredIf, IsReady, Gives, TurnsTo}
use Rattle.remote_cell.proofs.Knowing.{paid, failed, writes, still_says, leaving, Cuts, cuts, too_long, MayTell, may_items, hears_text, joining, joins, ends, none_taken, knows_none}

-- ---- told or not

lift : (was now : Option Connections) (f : Connections → Connections)
    (Q : Connections → Type 0) (h k : Hearing) (T : Connections → Type 0)
    (R : Connections → Connections → Type 0) → now ≡ option_map f was → IfSome now Q
    → IfSome was (Knows h)
    → ((all : Connections) → Knows h all → Q (f all) → Knows k (f all) × T (f all) × R all (f all))
    → IfSome now (Knows k) × IfSome now T × IfBoth was now R
lift None None f Q h k T R is q knows by = (tt, tt, tt)
lift None (Some b) f Q h k T R is q knows by = absurd (cc)
lift (Some a) None f Q h k T R is q knows by = absurd (cc)
lift (Some a) (Some b) f Q h k T R is q knows by =
    let same : f a ≡ b = cc in
    let got = by a knows (subst Q (sym same) q) in
    (subst (Knows k) same got.0, subst T same got.1, subst (R a) same got.2)

nothing_told : (was : Option Connections) → IfSome was (λ all. ⊤)
nothing_told None = tt
nothing_told (Some all) = tt

both_on : (x y z : Option Connections) (R S U : Connections → Connections → Type 0)
    → IfBoth x y R → IfBoth y z S
    → ((a b c : Connections) → R a b → S b c → U a c) → IfBoth x z U
both_on None None None R S U p q by = tt
both_on None None (Some c) R S U p q by = absurd q
both_on None (Some b) z R S U p q by = absurd p
both_on (Some a) None z R S U p q by = absurd p
both_on (Some a) (Some b) None R S U p q by = absurd q
both_on (Some a) (Some b) (Some c) R S U p q by = by a b c p q

both_same : (x : Option Connections) (R : Connections → Connections → Type 0)
    → ((a : Connections) → R a a) → IfBoth x x R
both_same None R by = tt
both_same (Some a) R by = by a

-- ---- counts

failed_both : (a b c j k m : ℕ) → m ≡ j + k → FailedSoOften a b j → FailedSoOften b c k
    → FailedSoOften a c m
failed_both a b c zero zero zero is p q = q ∙ p
failed_both a b c zero zero (suc m) is p q = absurd (omega (arith, is))
failed_both a b c zero (suc k) zero is p q = absurd (omega (arith, is))
failed_both a b c zero (suc k) (suc m) is p q = omega (arith, is, p, q)
failed_both a b c (suc j) zero zero is p q = absurd (omega (arith, is))
failed_both a b c (suc j) zero (suc m) is p q = omega (arith, is, p, q)
failed_both a b c (suc j) (suc k) zero is p q = absurd (omega (arith, is))
failed_both a b c (suc j) (suc k) (suc m) is p q = omega (arith, is, p, q)

-- ---- steps one after another

taken_both : (takes x y z : Bool) (g h given : List Item) (s t turns j k faults : ℕ)
    → given ≡ g ++ h → turns ≡ s + t → faults ≡ j + k → (a b c : Connections)
    → HasTaken takes x y g s j a b → HasTaken takes y z h t k b c
    → HasTaken takes x z given turns faults a c
taken_both takes x y z g h given s t turns j k faults given_is turns_is faults_is a b c p q = record {
  given_is = q.given_is ∙ ap (λ (l : List Item). l ++ h) p.given_is
      ∙ append_assoc (given_items takes (served a)) g h
      ∙ ap (λ (l : List Item). given_items takes (served a) ++ l) (sym given_is);
  turns_are = omega (arith, p.turns_are, q.turns_are, turns_is);
  undone_few = omega (arith, p.undone_few, q.undone_few, faults_is);
  faults_leave = omega (arith, p.faults_leave, q.faults_leave, faults_is);
}

pub goes_on : (a b c : Site) (g h given : List Item) (s t turns j k faults refused : ℕ)
    → given ≡ g ++ h → turns ≡ s + t → faults ≡ j + k → Goes a b g s j 0
    → Goes b c h t k refused → Goes a c given turns faults refused
goes_on a b c g h given s t turns j k faults refused given_is turns_is faults_is p q = record {
  sound = q.sound;
  same = q.same ∙ p.same;
  told = both_on a.door.connections b.door.connections c.door.connections
      (HasTaken a.hearing.batches a.hearing.connected b.hearing.connected g s j)
      (HasTaken a.hearing.batches b.hearing.connected c.hearing.connected h t k)
      (HasTaken a.hearing.batches a.hearing.connected c.hearing.connected given turns faults)
      p.told
      (subst (λ (takes : Bool). IfBoth b.door.connections c.door.connections
      (HasTaken takes b.hearing.connected c.hearing.connected h t k)) p.same q.told)
      (taken_both a.hearing.batches a.hearing.connected b.hearing.connected c.hearing.connected g h
      given s t turns j k faults given_is turns_is faults_is);
  faults_are = failed_both a.door.faults b.door.faults c.door.faults (j + 0) (k + refused)
      (faults + refused) (omega (arith, faults_is)) p.faults_are q.faults_are;
  missed_are = failed_both a.door.missed b.door.missed c.door.missed 0 refused refused
      (omega arith) p.missed_are q.missed_are;
}

pub stays : (here : Site) → IsSound here.door here.hearing → Goes here here [] 0 0 0
stays here sound = record {
  sound = sound;
  same = refl;
  told = both_same here.door.connections
      (HasTaken here.hearing.batches here.hearing.connected here.hearing.connected [] 0 0)
      (none_taken here.hearing.batches here.hearing.connected);
  faults_are = refl;
  missed_are = refl;
}

-- ---- an acknowledgement

pub owes_nothing : (here : Site) → IsSound here.door here.hearing → here.hearing.owes ≡ false
    → Acknowledged here here
owes_nothing here sound owes = record {
  faults = 0;
  goes = stays here sound;
  over = refl;
  taken = refl;
  paid = owes;
  says = λ line last. last;
}

says_on : (takes : Bool) (line : Line) (bytes : List ℕ) (was now : Option Connections)
    → now ≡ option_map (with_written bytes) was → IfSome was (LastSays takes line)
    → IfSome now (LastSays takes line)
says_on takes line bytes was None is last = tt
says_on takes line bytes None (Some b) is last = absurd (cc)
says_on takes line bytes (Some a) (Some b) is last =
    let same : with_written bytes a ≡ b = cc in
    subst (LastSays takes line) same (still_says takes line bytes a.past a.present a.waiting last)

sent_faults : {E : Type 0} (was now : Port) (text : List ℕ) (result : Result ⊤ E)
    → Sends was now text result → FailedSoOften was.faults now.faults (failed result + 0)
sent_faults was now text (Ok done) sent = sent.cause
sent_faults was now text (Err error) sent = sent.cause

pub pays : {E : Type 0} (door mid : Port) (h : Hearing) (result : Result ⊤ E) → IsSound door h
    → h.owes ≡ true → Sends door mid (acknowledgement h.receiver) result
    → Acknowledged (site door h) (site mid (paid h (is_ok result)))
pays door mid h result sound owes sent =
    let connected = sound.owing owes in
    let told = lift door.connections mid.connections (with_written sent.bytes) (λ all. ⊤) h
    (paid h (is_ok result)) (λ all. ⊤) (HasTaken h.batches true (is_ok result) [] 0 (failed result))
    sent.connections (nothing_told mid.connections) sound.told
    (λ all knows q.
    let done = writes h all.past all.present all.waiting sent.bytes result owes connected
    sent.sent knows in
    (done.0, tt, done.1)) in
    record {
      faults = failed result;
      goes = record {
        sound = record {
          unended = λ is. sent.ended ∙ sound.unended connected;
          owing = λ is. absurd (true≢false (sym is));
          over = sound.over;
          told = told.0;
        };
        same = refl;
        told = subst (λ (b : Bool). IfBoth door.connections mid.connections
            (HasTaken h.batches b (is_ok result) [] 0 (failed result))) (sym connected) told.2;
        faults_are = sent_faults door mid (acknowledgement h.receiver) result sent;
        missed_are = sent.missed;
      };
      over = refl;
      taken = refl;
      paid = refl;
      says = λ line last. says_on h.batches line sent.bytes door.connections mid.connections
          sent.connections last;
    }

-- ---- a whole line

line_connected : (h : Hearing) (how : hears.Heard) (item : Item)
    → (heard_line h how item).connected ≡ h.connected
line_connected h Take (Gross gross) = refl
line_connected h Take (Batch batch) = refl
line_connected h Take End = refl
line_connected h Again item = refl
line_connected h Ahead item = refl

text_connected : (h : Hearing) (said : Option Line)
    → (heard_text h said).connected ≡ h.connected
text_connected h None = refl
text_connected h (Some line) = line_connected h (heard h.receiver line.0) line.1

line_takes : (h : Hearing) (how : hears.Heard) (item : Item)
    → (heard_line h how item).batches ≡ h.batches
line_takes h Take (Gross gross) = refl
line_takes h Take (Batch batch) = refl
line_takes h Take End = refl
line_takes h Again item = refl
line_takes h Ahead item = refl

text_takes : (h : Hearing) (said : Option Line) → (heard_text h said).batches ≡ h.batches
text_takes h None = refl
text_takes h (Some line) = line_takes h (heard h.receiver line.0) line.1

abbrev may_over : Option CellNext → Option CellNext
may_over None = None
may_over (Some item) = over_behind item

line_over : (h : Hearing) (how : hears.Heard) (item : Item) → h.over ≡ None
    → (heard_line h how item).over ≡ may_over (item_given (next_line h.lines) how item)
line_over h Take (Gross gross) over = over
line_over h Take (Batch batch) over = over
line_over h Take End over = refl
line_over h Again item over = over
line_over h Ahead item over = over

text_over : (h : Hearing) (said : Option Line) → h.over ≡ None
    → (heard_text h said).over ≡ may_over (item_heard h said)
text_over h None over = refl
text_over h (Some line) over = line_over h (heard h.receiver line.0) line.1 over

-- where a cell goes on, nothing is said of what comes
nothing_more : (over : Option CellNext) → over ≡ None → IsNothingMore over
nothing_more over none = subst IsNothingMore (sym none) tt

line_nothing_more : (h : Hearing) (how : hears.Heard) (item : Item) → h.over ≡ None
    → IsNothingMore (heard_line h how item).over
line_nothing_more h Take (Gross gross) over = nothing_more h.over over
line_nothing_more h Take (Batch batch) over = nothing_more h.over over
line_nothing_more h Take End over = refl
line_nothing_more h Again item over = nothing_more h.over over
line_nothing_more h Ahead item over = nothing_more h.over over

text_nothing_more : (h : Hearing) (said : Option Line) → h.over ≡ None
    → IsNothingMore (heard_text h said).over
text_nothing_more h None over = refl
text_nothing_more h (Some line) over =
    line_nothing_more h (heard h.receiver line.0) line.1 over

-- what is owed where nothing is acknowledged at once
abbrev pub OwesBy : Option CellNext → Bool → Type 0
OwesBy (Some (cell.Gross gross)) owes = owes ≡ true
OwesBy (Some (cell.Batch batch line)) owes = owes ≡ true
OwesBy (Some (cell.Bad line)) owes = owes ≡ false
OwesBy item owes = Unit {0}

line_owes : (h : Hearing) (how : hears.Heard) (item : Item)
    → OwesBy (item_given (next_line h.lines) how item) (heard_line h how item).owes
line_owes h Take (Gross gross) = refl
line_owes h Take (Batch batch) = refl
line_owes h Take End = tt
line_owes h Again item = tt
line_owes h Ahead item = tt

text_owes : (h : Hearing) (said : Option Line) → h.owes ≡ false
    → OwesBy (item_heard h said) (heard_text h said).owes
text_owes h None owes = owes
text_owes h (Some line) owes = line_owes h (heard h.receiver line.0) line.1

line_unspent : (line : ℕ) (how : hears.Heard) (item : Item)
    → item_given line how item ≡ Some cell.Spent → ⊥
line_unspent line Take (Gross gross) is = absurd (cc)
line_unspent line Take (Batch batch) is = absurd (cc)
line_unspent line Take End is = absurd (cc)
line_unspent line Again item is = absurd (cc)
line_unspent line Ahead item is = absurd (cc)

text_unspent : (h : Hearing) (said : Option Line) → item_heard h said ≡ Some cell.Spent → ⊥
text_unspent h None is = absurd (cc)
text_unspent h (Some line) is =
    line_unspent (next_line h.lines) (heard h.receiver line.0) line.1 is

-- a whole line was read and heard
pub record Hears (was now : Site) (item : Option CellNext) : Type 0 where
  pub goes : Goes was now (may_items item) 1 0 0
  pub over : now.hearing.over ≡ may_over item
  pub owes : OwesBy item now.hearing.owes
  pub unspent : item ≡ Some cell.Spent → ⊥
  pub tells : IfSome now.door.connections
      (MayTell now.hearing.batches now.hearing.receiver item)

pub hears_line : (door mid : Port) (h : Hearing) (text : List ℕ) → IsReady (site door h)
    → h.connected ≡ true → ReadsLine door mid text Whole
    → Hears (site door h) (site mid (heard_text h (line_said h.batches text)))
    (item_heard h (line_said h.batches text))
hears_line door mid h text ready connected read =
    let said : Option Line = line_said h.batches text in
    let told = lift door.connections mid.connections (with_taken (text ++ 10 ∷ [])) (λ all. ⊤) h
    (heard_text h said) (MayTell h.batches (heard_text h said).receiver (item_heard h said))
    (HasTaken h.batches true true (may_items (item_heard h said)) 1 0) read.connections
    (nothing_told mid.connections) ready.sound.told
    (λ all knows q. hears_text h all.past all.present all.waiting text said refl ready.goes_on
    ready.paid connected read.plain read.ends.0 knows) in
    let still : (heard_text h said).connected ≡ true = text_connected h said ∙ connected in
    record {
      goes = record {
        sound = record {
          unended = λ is. read.ends.1;
          owing = λ is. still;
          over = text_nothing_more h said ready.goes_on;
          told = told.0;
        };
        same = text_takes h said;
        told = subst (λ (a : Bool). IfBoth door.connections mid.connections
            (HasTaken h.batches a (heard_text h said).connected (may_items
            (item_heard h said)) 1 0))
            (sym connected)
            (subst (λ (b : Bool). IfBoth door.connections mid.connections
            (HasTaken h.batches true b (may_items (item_heard h said)) 1 0)) (sym still) told.2);
        faults_are = read.ends.2;
        missed_are = read.missed;
      };
      over = text_over h said ready.goes_on;
      owes = text_owes h said ready.paid;
      unspent = text_unspent h said;
      tells = subst (λ (takes : Bool). IfSome mid.connections (MayTell takes
          (heard_text h said).receiver (item_heard h said))) (sym (text_takes h said)) told.1;
    }

told_end : (b : Bool) (was now : ℕ) (connections : Option Connections) → now ≡ was
    → IfSome connections (LastSays b (was, End)) → IfSome connections (Tells b now cell.End)
told_end b was now None is last = tt
told_end b was now (Some all) is last =
    subst (λ (n : ℕ). LastSays b (n, End) all) (sym is) last

pub turns_line : (was mid now : Site) (item : Option CellNext) → Hears was mid item
    → AnsweredIf (is_answered item) mid now → TurnsTo was now (Ok item)
turns_line was mid now None heard answered = (
  answered.faults,
  goes_on was mid now [] [] [] 1 0 1 0 answered.faults answered.faults 0 refl refl
      (omega arith) heard.goes answered.goes,
  record {
    sound = answered.goes.sound;
    goes_on = answered.over ∙ heard.over;
    paid = answered.paid;
  },
)
turns_line was mid now (Some (cell.Gross gross)) heard answered =
    subst (λ (x : Site). Gives was x (cell.Gross gross)) (sym answered) (record {
      turns = 1;
      faults = 0;
      goes = heard.goes;
      few = omega arith;
      over = heard.over;
      owes = heard.owes;
      unspent = λ is. cc;
      tells = heard.tells;
    })
turns_line was mid now (Some (cell.Batch batch line)) heard answered =
    subst (λ (x : Site). Gives was x (cell.Batch batch line)) (sym answered) (record {
      turns = 1;
      faults = 0;
      goes = heard.goes;
      few = omega arith;
      over = heard.over;
      owes = heard.owes;
      unspent = λ is. cc;
      tells = heard.tells;
    })
turns_line was mid now (Some cell.End) heard answered = record {
  turns = 1;
  faults = answered.faults;
  goes = goes_on was mid now (End ∷ []) [] (End ∷ []) 1 0 1 0 answered.faults answered.faults 0
      refl refl (omega arith) heard.goes answered.goes;
  few = omega arith;
  over = answered.over ∙ heard.over;
  owes = answered.paid;
  unspent = λ is. cc;
  tells = told_end now.hearing.batches mid.hearing.receiver now.hearing.receiver
      now.door.connections answered.taken
      (answered.says (mid.hearing.receiver, End) heard.tells);
}
turns_line was mid now (Some (cell.Bad line)) heard answered =
    subst (λ (x : Site). Gives was x (cell.Bad line)) (sym answered) (record {
      turns = 1;
      faults = 0;
      goes = heard.goes;
      few = omega arith;
      over = heard.over;
      owes = heard.owes;
      unspent = λ is. cc;
      tells = heard.tells;
    })
turns_line was mid now (Some cell.Spent) heard answered = absurd (heard.unspent refl)

-- ---- a line that is too long

pub turns_long : (door mid : Port) (h : Hearing) (line : List ℕ) → IsReady (site door h)
    → h.connected ≡ true → ReadsLine door mid line TooLong
    → TurnsTo (site door h) (site mid (spoilt h)) (Ok (Some (bad_behind h)))
turns_long door mid h line ready connected read =
    let told = lift door.connections mid.connections (with_taken line) (λ all. ⊤) h (spoilt h)
    (Tells h.batches h.receiver (bad_behind h))
    (HasTaken h.batches true true [] 0 0) read.connections
    (nothing_told mid.connections) ready.sound.told
    (λ all knows q. too_long h all.past all.present all.waiting line ready.goes_on connected
    read.plain read.ends.0 knows) in
    record {
      turns = 0;
      faults = 0;
      goes = record {
        sound = record {
          unended = λ is. read.ends.1;
          owing = λ is. connected;
          over = refl;
          told = told.0;
        };
        same = refl;
        told = subst (λ (a : Bool). IfBoth door.connections mid.connections
            (HasTaken h.batches a a [] 0 0)) (sym connected) told.2;
        faults_are = read.ends.2;
        missed_are = read.missed;
      };
      few = omega arith;
      over = refl;
      owes = ready.paid;
      unspent = λ is. cc;
      tells = told.1;
    }

-- ---- the next connection

admitted : (door mid : Port) (h : Hearing) → IsReady (site door h) → h.connected ≡ false
    → mid.connections ≡ option_map next_connections door.connections
    → IfSome mid.connections (λ all. true ≡ is_some all.present) → mid.ended ≡ false
    → mid.faults ≡ door.faults → mid.missed ≡ door.missed
    → Goes (site door h) (site mid (joining h)) [] 1 0 0
admitted door mid h ready left is found begins calm missed =
    let told = lift door.connections mid.connections next_connections
    (λ all. true ≡ is_some all.present) h (joining h) (λ all. ⊤)
    (HasTaken h.batches false true [] 1 0) is
    found ready.sound.told
    (λ all knows q. by all all.waiting refl knows q) in
    record {
      sound = record {
        unended = λ yes_is. begins;
        owing = λ owes. refl;
        over = nothing_more h.over ready.goes_on;
        told = told.0;
      };
      same = refl;
      told = subst (λ (a : Bool). IfBoth door.connections mid.connections
          (HasTaken h.batches a true [] 1 0)) (sym left) told.2;
      faults_are = calm;
      missed_are = missed;
    }
  where
    by : (all : Connections) (waiting : List (List ℕ)) → all.waiting ≡ waiting → Knows h all
        → true ≡ is_some (next_connections all).present
        → Knows (joining h) (next_connections all) × ⊤
        × HasTaken h.batches false true [] 1 0 all (next_connections all)
    by all [] waits knows q =
        let none : is_some (next_connections all).present ≡ false =
        ap (λ (ws : List (List ℕ)). is_some (next_connections
        (record { past = all.past; present = all.present; waiting = ws })).present) waits in
        absurd (true≢false (q ∙ none))
    by all (bytes ∷ others) waits knows q =
        let done = joins h all bytes others waits ready.goes_on ready.paid knows
        (next_connections all) refl in
        (done.0, tt, done.1)

pub turns_admitted : (door mid : Port) (h : Hearing) → IsReady (site door h)
    → h.connected ≡ false
    → mid.connections ≡ option_map next_connections door.connections
    → IfSome mid.connections (λ all. true ≡ is_some all.present) → mid.ended ≡ false
    → mid.faults ≡ door.faults → mid.missed ≡ door.missed
    → TurnsTo (site door h) (site mid (joining h)) (Ok None)
turns_admitted door mid h ready left is found begins calm missed =
    let goes = admitted door mid h ready left is found begins calm missed in (
      0,
      goes,
      record { sound = goes.sound; goes_on = ready.goes_on; paid = ready.paid },
    )

pub turns_ended : (door mid : Port) (h : Hearing) → IsReady (site door h) → h.connected ≡ false
    → mid.connections ≡ option_map next_connections door.connections
    → IfSome mid.connections (λ all. false ≡ is_some all.present)
    → mid.faults ≡ door.faults → mid.missed ≡ door.missed
    → TurnsTo (site door h) (site mid (spoilt h)) (Ok (Some (bad_behind h)))
turns_ended door mid h ready left is found calm missed =
    let told = lift door.connections mid.connections next_connections
    (λ all. false ≡ is_some all.present) h (spoilt h) (Tells h.batches h.receiver (bad_behind h))
    (HasTaken h.batches false false [] 0 0) is found ready.sound.told
    (λ all knows q. by all all.waiting refl knows q) in
    record {
      turns = 0;
      faults = 0;
      goes = record {
        sound = record {
          unended = λ yes_is. absurd (true≢false (sym yes_is ∙ left));
          owing = λ owes. absurd (true≢false (sym owes ∙ ready.paid));
          over = refl;
          told = told.0;
        };
        same = refl;
        told = subst (λ (a : Bool). IfBoth door.connections mid.connections
            (HasTaken h.batches a a [] 0 0)) (sym left) told.2;
        faults_are = calm;
        missed_are = missed;
      };
      few = omega arith;
      over = refl;
      owes = ready.paid;
      unspent = λ yes_is. cc;
      tells = told.1;
    }
  where
    by : (all : Connections) (waiting : List (List ℕ)) → all.waiting ≡ waiting → Knows h all
        → false ≡ is_some (next_connections all).present
        → Knows (spoilt h) (next_connections all)
        × Tells h.batches h.receiver (bad_behind h) (next_connections all)
        × HasTaken h.batches false false [] 0 0 all (next_connections all)
    by all [] waits knows q = ends h all waits left ready.goes_on knows (next_connections all) refl
    by all (bytes ∷ others) waits knows q =
        let some : is_some (next_connections all).present ≡ true =
        ap (λ (ws : List (List ℕ)). is_some (next_connections
        (record { past = all.past; present = all.present; waiting = ws })).present) waits in
        absurd (true≢false (sym some ∙ sym q))

kept_told : (was now : Option Connections) (h : Hearing) (R : Connections → Connections → Type 0)
    → now ≡ was → IfSome was (Knows h) → ((a : Connections) → R a a)
    → IfSome now (Knows h) × IfBoth was now R
kept_told was now h R is knows by =
    subst (λ (o : Option Connections). IfSome o (Knows h) × IfBoth was o R) (sym is)
    (knows, both_same was R by)

pub turns_refused : (door mid : Port) (h : Hearing) (error : Failed) → IsReady (site door h)
    → h.connected ≡ false → mid.connections ≡ door.connections
    → Counted door.faults mid.faults 1 → Counted door.missed mid.missed 1
    → TurnsTo (site door h) (site mid h) (Err error)
turns_refused door mid h error ready left is cause missed =
    let told = kept_told door.connections mid.connections h
    (HasTaken h.batches h.connected h.connected [] 0 0) is ready.sound.told
    (none_taken h.batches h.connected) in
    record {
      faults = 0;
      goes = record {
        sound = record {
          unended = λ yes_is. absurd (true≢false (sym yes_is ∙ left));
          owing = ready.sound.owing;
          over = ready.sound.over;
          told = told.0;
        };
        same = refl;
        told = told.1;
        faults_are = cause;
        missed_are = missed;
      };
      over = ready.goes_on;
      paid = ready.paid;
      left = left;
    }

-- ---- a line that is cut

-- how many reads failed
ended_told : (connections : Option Connections)
    → IfSome connections (λ all. left_now all ≡ []) → IfSome connections (λ all. Cuts all 0)
ended_told None ended = tt
ended_told (Some all) ended = inl (ended, refl)

one_told : (connections : Option Connections) → IfSome connections (λ all. Cuts all 1)
one_told None = tt
one_told (Some all) = inr refl

cut_goes : (door mid : Port) (h : Hearing) (line : List ℕ) (faults : ℕ) → IsReady (site door h)
    → h.connected ≡ true → ReadsLine door mid line Cut
    → IfSome mid.connections (λ all. Cuts all faults)
    → FailedSoOften door.faults mid.faults (faults + 0)
    → Goes (site door h) (site mid (leaving h)) [] 0 faults 0
cut_goes door mid h line faults ready connected read cut many =
    let told = lift door.connections mid.connections (with_taken line) (λ all. Cuts all faults) h
    (leaving h) (λ all. ⊤)
    (HasTaken h.batches true false [] 0 faults) read.connections cut ready.sound.told
    (λ all knows q.
    let done = cuts h all.past all.present all.waiting line faults ready.goes_on ready.paid
    connected read.plain read.ends.0 knows q in
    (done.0, tt, done.1)) in
    record {
      sound = record {
        unended = λ is. absurd (true≢false (sym is));
        owing = λ owes. absurd (true≢false (sym owes ∙ ready.paid));
        over = ready.sound.over;
        told = told.0;
      };
      same = refl;
      told = subst (λ (a : Bool). IfBoth door.connections mid.connections
          (HasTaken h.batches a false [] 0 faults)) (sym connected) told.2;
      faults_are = many;
      missed_are = read.missed;
    }

-- a connection is left
pub record Leaves (was now : Site) : Type 0 where
  pub faults : ℕ
  pub goes : Goes was now [] 0 faults 0
  pub ready : IsReady now

leaves_by : (door mid : Port) (h : Hearing) (faults : ℕ) → IsReady (site door h)
    → Goes (site door h) (site mid (leaving h)) [] 0 faults 0
    → Leaves (site door h) (site mid (leaving h))
leaves_by door mid h faults ready goes = record {
  faults = faults;
  goes = goes;
  ready = record { sound = goes.sound; goes_on = ready.goes_on; paid = ready.paid };
}

pub leaves_cut : (door mid : Port) (h : Hearing) (line : List ℕ) → IsReady (site door h)
    → h.connected ≡ true → ReadsLine door mid line Cut
    → Leaves (site door h) (site mid (leaving h))
leaves_cut door mid h line ready connected read = elim read.ends.1 [
  | inl ended ↦ leaves_by door mid h 0 ready
      (cut_goes door mid h line 0 ready connected read (ended_told mid.connections ended.0)
      ended.1)
  | inr one ↦ leaves_by door mid h 1 ready
      (cut_goes door mid h line 1 ready connected read (one_told mid.connections) one)
]

-- one was left before
same_hearing : (h : Hearing) → h.connected ≡ false → leaving h ≡ h
same_hearing h left = λ i. record h { connected = (sym left) i }

pub leaves_none : (door : Port) (h : Hearing) → IsReady (site door h) → h.connected ≡ false
    → Leaves (site door h) (site door (leaving h))
leaves_none door h ready left =
    subst (λ (k : Hearing). Leaves (site door h) (site door k)) (sym (same_hearing h left))
    (record {
      faults = 0;
      goes = stays (site door h) ready.sound;
      ready = ready;
    })

pub turns_behind : (was mid now : Site) (result : Result (Option CellNext) Failed)
    → Leaves was mid → TurnsTo mid now result → TurnsTo was now result
turns_behind was mid now (Ok None) left turned = (
  left.faults + turned.0,
  goes_on was mid now [] [] [] 0 1 1 left.faults turned.0 (left.faults + turned.0) 0 refl refl
      refl left.goes turned.1,
  turned.2,
)
turns_behind was mid now (Ok (Some item)) left turned = record {
  turns = turned.turns;
  faults = left.faults + turned.faults;
  goes = goes_on was mid now [] (items_of item) (items_of item) 0 turned.turns turned.turns
      left.faults turned.faults (left.faults + turned.faults) 0 refl (omega arith) refl left.goes
      turned.goes;
  few = turned.few;
  over = turned.over;
  owes = turned.owes;
  unspent = turned.unspent;
  tells = turned.tells;
}
turns_behind was mid now (Err error) left turned = record {
  faults = left.faults + turned.faults;
  goes = goes_on was mid now [] [] [] 0 0 0 left.faults turned.faults
      (left.faults + turned.faults) 1 refl refl refl left.goes turned.goes;
  over = turned.over;
  paid = turned.paid;
  left = turned.left;
}

-- ---- a call

-- a call took so many turns, and gave nothing yet
pub record Going (was now : Site) (turns : ℕ) : Type 0 where
  pub faults : ℕ
  pub goes : Goes was now [] turns faults 0
  pub ready : IsReady now

pub begins_call : (was now : Site) → was.hearing.over ≡ None → Acknowledged was now
    → Going was now 0
begins_call was now over done = record {
  faults = done.faults;
  goes = done.goes;
  ready = record {
    sound = done.goes.sound;
    goes_on = done.over ∙ over;
    paid = done.paid;
  };
}

pub goes_further : (was mid now : Site) (turns : ℕ) → Going was mid turns
    → TurnsTo mid now (Ok None) → Going was now (turns + 1)
goes_further was mid now turns going turned = record {
  faults = going.faults + turned.0;
  goes = goes_on was mid now [] [] [] turns 1 (turns + 1) going.faults turned.0
      (going.faults + turned.0) 0 refl refl refl going.goes turned.1;
  ready = turned.2;
}

pub gives_item : (was mid now : Site) (turns : ℕ) (item : CellNext) → turns + 1 ≤ MAX_TURNS
    → Going was mid turns → TurnsTo mid now (Ok (Some item))
    → HasHeard {E = Failed} was now (Ok item)
gives_item was mid now turns item few going turned = record {
  turns = turns + turned.turns;
  faults = going.faults + turned.faults;
  goes = goes_on was mid now [] (items_of item) (items_of item) turns turned.turns
      (turns + turned.turns) going.faults turned.faults (going.faults + turned.faults) 0 refl refl
      refl going.goes turned.goes;
  few = omega (arith, few, turned.few);
  spent = λ is. absurd (turned.unspent (cc));
  over = turned.over;
  owes = turned.owes;
  left = tt;
  tells = turned.tells;
}

error_told : {E : Type 0} (b : Bool) (taken : ℕ) (error : E) (connections : Option Connections)
    → IfSome connections (ResultTells b taken (Err error))
error_told b taken error None = tt
error_told b taken error (Some all) = tt

pub fails_so : (was mid now : Site) (turns : ℕ) (error : Failed) → turns ≤ MAX_TURNS
    → Going was mid turns → TurnsTo mid now (Err error) → HasHeard was now (Err error)
fails_so was mid now turns error few going turned = record {
  turns = turns;
  faults = going.faults + turned.faults;
  goes = goes_on was mid now [] [] [] turns 0 turns going.faults turned.faults
      (going.faults + turned.faults) 1 refl (omega arith) refl going.goes turned.goes;
  few = few;
  spent = λ is. absurd (cc);
  over = turned.over;
  owes = turned.paid;
  left = turned.left;
  tells = error_told now.hearing.batches now.hearing.receiver error now.door.connections;
}

spent_told : (b : Bool) (taken : ℕ) (connections : Option Connections)
    → IfSome connections (Tells b taken cell.Spent)
spent_told b taken None = tt
spent_told b taken (Some all) = tt

pub is_spent : (was now : Site) (turns : ℕ) → turns ≡ MAX_TURNS → Going was now turns
    → HasHeard {E = Failed} was now (Ok cell.Spent)
is_spent was now turns all going = record {
  turns = turns;
  faults = going.faults;
  goes = going.goes;
  few = omega (arith, all);
  spent = λ is. all;
  over = going.ready.goes_on;
  owes = going.ready.paid;
  left = tt;
  tells = spent_told now.hearing.batches now.hearing.receiver now.door.connections;
}

-- ---- a cell that begins

none_known : (batches : Bool) (connections : Option Connections)
    → IfSome connections (λ all. served all ≡ []) → IfSome connections (Knows (silent batches))
none_known batches None none = tt
none_known batches (Some all) none = knows_none batches all none

pub sound_none : (batches : Bool) (door : Port)
    → IfSome door.connections (λ all. served all ≡ []) → IsSound door (silent batches)
sound_none batches door none = record {
  unended = λ is. absurd (true≢false (sym is));
  owing = λ is. absurd (true≢false (sym is));
  over = tt;
  told = none_known batches door.connections none;
}

-- ---- as the code names them

pub is_connected : {X : Type 0} (connected : Bool) (end : LineEnd)
    → (connected ≡ false → (end ≡ Cut) × X) → (end ≡ Cut → ⊥) → connected ≡ true
is_connected true end waits other = refl
is_connected false end waits other = absurd (other (waits refl).0)

pub heard_by : (door mid : Port) (h k : Hearing) (line text : List ℕ) (item : Option CellNext)
    → text ≡ line → k ≡ heard_text h (line_said h.batches text) → item
    ≡ item_heard h (line_said h.batches text)
    → IsReady (site door h) → h.connected ≡ true → ReadsLine door mid line Whole
    → Hears (site door h) (site mid k) item
heard_by door mid h k line text item same after gives ready connected read =
    subst (λ (x : Option CellNext). Hears (site door h) (site mid k) x) (sym gives)
    (subst (λ (x : Hearing). Hears (site door h) (site mid x) (item_heard h
    (line_said h.batches text)))
    (sym after)
    (hears_line door mid h text ready connected
    (subst (λ (l : List ℕ). ReadsLine door mid l Whole) (sym same) read)))

pub gives_bad : (was : Site) (mid : Port) (h k : Hearing) (item : CellNext) → k ≡ spoilt h
    → item ≡ bad_behind h → TurnsTo was (site mid (spoilt h)) (Ok (Some (bad_behind h)))
    → Gives was (site mid k) item
gives_bad was mid h k item after gives turned =
    subst (λ (x : CellNext). Gives was (site mid k) x) (sym gives)
    (subst (λ (x : Hearing). Gives was (site mid x) (bad_behind h)) (sym after) turned)

pub leaves : (door mid : Port) (h : Hearing) (line : List ℕ) → IsReady (site door h)
    → (h.connected ≡ false → mid ≡ door) → (h.connected ≡ true → ReadsLine door mid line Cut)
    → Leaves (site door h) (site mid (leaving h))
leaves door mid h line ready waits reads = elim (cases_Bool h.connected) [
  | inl connected ↦ leaves_cut door mid h line ready connected (reads connected)
  | inr left ↦ subst (λ (x : Port). Leaves (site door h) (site x (leaving h)))
      (sym (waits left)) (leaves_none door h ready left)
]
