-- What a cell knows, behind each step that a call makes on a door that tells its connections.
use Rattle.std.proofs.Common.{◌≡◌, ◌⊎◌, ℕ, ◌+◌, ◌≤◌, Bool, true, false, true≢false, cond, List, [], ◌∷◌, ◌++◌, length, take, drop, Option, Some, None, is_some, Result, Ok, Err, is_ok, refl, sym, ◌∙◌, ap, subst, inl, inr, arith, append_assoc, append-nil, length-append}
use Rattle.std.specs.Prelude.{All, flat_map, filter_map, option_to_list}
use Rattle.std.specs.List.{cons_option}
use Rattle.std.specs.Bool.{⊤}
use Rattle.std.proofs.lemmas.Bool.Decides.{nat_tests}
use Rattle.std.proofs.lemmas.List.{take-append-drop}
use Rattle.std.proofs.lemmas.List.Elements.{All-push, All-same, filter_map-append}
use Rattle.device_facts.specs.Prefix.{IsPrefixOf}
use Rattle.disk_core.specs.Doors.{Connection, Connections, served, new_connection, next_connections, left_now, add_taken, add_written, with_taken, with_written}
use Rattle.lane_worker.specs.declared.types.CellNext.{CellNext}
use Rattle.lane_worker.specs.CellLines.{next_line}
use Rattle.remote_cell.specs.declared.items.Item.{Item}
use Rattle.remote_cell.specs.declared.items.Item.TheVariants.{Gross, Batch, End}
use Rattle.remote_cell.specs.declared.receiver.Heard as hears
use Rattle.remote_cell.specs.declared.receiver.Heard.TheVariants.{Take, Again, Ahead}
use Rattle.remote_cell.specs.declared.hearing.Hearing.{Hearing}
use Rattle.remote_cell.specs.declared.wire_lines.TheConstants.{MAX_LINE}
use Rattle.remote_cell.specs.Exchanges.{Line, heard, heard_items, line_items, acknowledgements}
use Rattle.remote_cell.specs.Lines.{has_end, whole_lines, part_of}
use Rattle.remote_cell.specs.WireLines.{line_said, acknowledgement}
use Rattle.remote_cell.specs.Told.{IsGood, IsGoodLine, texts_on, connection_lines, given_items, line_acknowledgements, connection_acknowledgements, AreAnswered, is_done, undone, those_left, left_undone, silent, numbered, owed, IsPresent, Knows}
use Rattle.remote_cell.specs.Heard.{HasTaken, EndsWith, LastSays, Tells, items_of}
use Rattle.remote_cell.specs.Steps.{IsSent, bad_behind, spoilt, heard_line, item_given, heard_text, item_heard}
use Rattle.remote_cell.proofs.ExchangeLaw.{is_take}
use Rattle.remote_cell.proofs.WholeLines.{lines_plain, part_plain, lines_ended, part_ended}
use Rattle.remote_cell.proofs.TakenItems.{one_given, one_acknowledged, given_more, texts_more, answered_more, undone_more}

-- the connections of a door, by their parts
abbrev all_of : List Connection → Option Connection → List (List ℕ) → Connections
all_of p present w = record { past = p; present = present; waiting = w }

-- how many items were taken on the connections before the present one
abbrev before : Bool → List Connection → ℕ
before b p = length (given_items b p)

never : {P : Type 0} (b : Bool) → b ≡ true → b ≡ false → P
never b yes_is no_is = absurd (true≢false (sym yes_is ∙ no_is))

abbrev one_unless : Bool → ℕ
one_unless b = cond b 0 1

one_most : (b : Bool) → one_unless b ≤ 1
one_most true = omega arith
one_most false = omega arith

-- ---- what was taken, with whole lines more on the present connection

lines_more : (b : Bool) (c d : Connection) (texts : List (List ℕ))
    → whole_lines d.taken ≡ whole_lines c.taken ++ texts
    → connection_lines b d ≡ connection_lines b c ++ filter_map (line_said b) texts
lines_more b c d texts is =
    ap (filter_map (line_said b)) is ∙ filter_map-append (line_said b) (whole_lines c.taken) texts

given_step : (b : Bool) (p : List Connection) (c d : Connection) (given : List Item)
    → line_items (before b p) (connection_lines b d)
    ≡ line_items (before b p) (connection_lines b c) ++ given
    → given_items b (p ++ d ∷ []) ≡ given_items b (p ++ c ∷ []) ++ given
given_step b p c d given is =
    given_more b p d
    ∙ ap (λ (l : List Item). given_items b p ++ l) is
    ∙ sym (append_assoc (given_items b p) (line_items (before b p) (connection_lines b c)) given)
    ∙ ap (λ (l : List Item). l ++ given) (sym (given_more b p c))

texts_step : (p : List Connection) (c d : Connection) (texts : List (List ℕ))
    → whole_lines d.taken ≡ whole_lines c.taken ++ texts
    → texts_on (p ++ d ∷ []) ≡ texts_on (p ++ c ∷ []) ++ texts
texts_step p c d texts is =
    texts_more p d
    ∙ ap (λ (l : List (List ℕ)). texts_on p ++ l) is
    ∙ sym (append_assoc (texts_on p) (whole_lines c.taken) texts)
    ∙ ap (λ (l : List (List ℕ)). l ++ texts) (sym (texts_more p c))

taken_step : (b : Bool) (now : Bool) (p : List Connection) (c d : Connection) (w : List (List ℕ))
    (given : List Item) (texts : List (List ℕ)) (turns faults : ℕ) → turns ≡ length texts
    → whole_lines d.taken ≡ whole_lines c.taken ++ texts
    → line_items (before b p) (connection_lines b d)
    ≡ line_items (before b p) (connection_lines b c) ++ given
    → left_undone b now (all_of p (Some d) w) ≤ undone b 0 p + faults
    → length p + faults ≤ length (those_left now (all_of p (Some d) w))
    → HasTaken b true now given turns faults (all_of p (Some c) w) (all_of p (Some d) w)
taken_step b now p c d w given texts turns faults many more same few leave = record {
  given_is = given_step b p c d given same;
  turns_are = omega (
    arith,
    many,
    ap length (texts_step p c d texts more),
    length-append (texts_on (p ++ c ∷ [])) texts,
    length-append p (c ∷ []),
    length-append p (d ∷ []),
  );
  undone_few = few;
  faults_leave = leave;
}

-- the same whole lines
same_lines : (b : Bool) (c d : Connection) → whole_lines d.taken ≡ whole_lines c.taken
    → connection_lines b d ≡ connection_lines b c
same_lines b c d same = ap (filter_map (line_said b)) same

same_step : (b : Bool) (now : Bool) (p : List Connection) (c d : Connection) (w : List (List ℕ))
    (faults : ℕ)
    → whole_lines d.taken ≡ whole_lines c.taken
    → left_undone b now (all_of p (Some d) w) ≤ undone b 0 p + faults
    → length p + faults ≤ length (those_left now (all_of p (Some d) w))
    → HasTaken b true now [] 0 faults (all_of p (Some c) w) (all_of p (Some d) w)
same_step b now p c d w faults same few leave =
    taken_step b now p c d w [] [] 0 faults refl (same ∙ sym (append-nil (whole_lines c.taken)))
    (ap (line_items (before b p)) (same_lines b c d same)
    ∙ sym (append-nil (line_items (before b p) (connection_lines b c)))) few leave

-- the connection that was present was left undone, or will be
left_one : (b : Bool) (p : List Connection) (d : Connection) (w : List (List ℕ))
    → left_undone b false (all_of p (Some d) w) ≤ undone b 0 p + 1
left_one b p d w = omega (arith, undone_more b p d, one_most (is_done b (before b p) d))

kept_one : (b : Bool) (p : List Connection) (d : Connection) (w : List (List ℕ)) (faults : ℕ)
    → left_undone b true (all_of p (Some d) w) ≤ undone b 0 p + faults
kept_one b p d w faults = omega arith

kept_none : (p : List Connection) (d : Connection) (w : List (List ℕ))
    → length p + 0 ≤ length (those_left true (all_of p (Some d) w))
kept_none p d w = omega arith

left_more : (p : List Connection) (d : Connection) (w : List (List ℕ)) (faults : ℕ) → faults ≤ 1
    → length p + faults ≤ length (those_left false (all_of p (Some d) w))
left_more p d w faults few = omega (arith, few, length-append p (d ∷ []))

-- a cell that takes batches just where another does
abbrev taking : Hearing → Hearing → Hearing
taking k h = record k { batches = h.batches }

taking_so : (k h : Hearing) → k.batches ≡ h.batches → taking k h ≡ k
taking_so k h same = λ i. record k { batches = (sym same) i }

-- a cell knows the same of a connection with the same whole lines
knows_same : (h k : Hearing) (p : List Connection) (c d : Connection) (w : List (List ℕ))
    → k.batches ≡ h.batches → whole_lines d.taken ≡ whole_lines c.taken
    → k.receiver ≡ h.receiver → (k.over ≡ None → (k.lines ≡ h.lines) × (h.over ≡ None))
    → Knows h (all_of p (Some c) w) → IsPresent k (before h.batches p) d
    → Knows k (all_of p (Some d) w)
knows_same h k p c d w takes same taken on knows present =
    let step = same_step h.batches true p c d w 0 same (kept_one h.batches p d w 0)
    (kept_none p d w) in
    let given : given_items h.batches (p ++ d ∷ []) ≡ given_items h.batches (p ++ c ∷ []) =
    step.given_is ∙ append-nil (given_items h.batches (p ++ c ∷ [])) in
    let texts : texts_on (p ++ d ∷ []) ≡ texts_on (p ++ c ∷ []) =
    texts_step p c d [] (same ∙ sym (append-nil (whole_lines c.taken)))
    ∙ append-nil (texts_on (p ++ c ∷ [])) in
    subst (λ (x : Hearing). Knows x (all_of p (Some d) w)) (taking_so k h takes) (record {
      taken_is = taken ∙ knows.taken_is ∙ ap length (sym given);
      lines_are = λ is. (on is).0 ∙ knows.lines_are (on is).1
          ∙ ap (λ (l : List (List ℕ)). numbered (length l)) (sym texts);
      answered = knows.answered;
      good = λ is. knows.good (on is).1;
      present = subst (λ (x : Hearing). IsPresent x (before h.batches p) d)
          (sym (taking_so k h takes)) present;
    })

-- ---- an acknowledgement is written

-- a cell behind an acknowledgement
abbrev pub paid : Hearing → Bool → Hearing
paid h connected = record h { owes = false; connected = connected }

-- how many writes failed
abbrev pub failed : {E : Type 0} → Result ⊤ E → ℕ
failed (Ok sent) = 0
failed (Err error) = 1

written_good : (b : Bool) (bytes : List ℕ) (c : Connection) → IsGood b c
    → IsGood b (add_written bytes c)
written_good b bytes c good = record { lines = good.lines; part = good.part }

whole_written : (h : Hearing) (taken : ℕ) (c : Connection) → h.owes ≡ true → h.connected ≡ true
    → IsPresent h taken c → c.written ++ acknowledgement h.receiver
    ≡ connection_acknowledgements h.batches taken c
whole_written h taken c owes connected on =
    ap (λ (b : Bool). c.written ++ cond b (acknowledgement h.receiver) []) (sym owes)
    ∙ on.answered connected

part_begins : (written part text whole : List ℕ) (n : ℕ) → written ++ text ≡ whole
    → part ≡ take n text → IsPrefixOf (written ++ part) whole
part_begins written part text whole n is of = (
  drop n text,
  sym is
      ∙ ap (λ (l : List ℕ). written ++ l) (sym (take-append-drop n text)
      ∙ ap (λ (l : List ℕ). l ++ drop n text) (sym of))
      ∙ sym (append_assoc written part (drop n text)),
)

pub writes : {E : Type 0} (h : Hearing) (p : List Connection) (present : Option Connection)
    (w : List (List ℕ)) (bytes : List ℕ) (result : Result ⊤ E) → h.owes ≡ true
    → h.connected ≡ true → IsSent (acknowledgement h.receiver) bytes result
    → Knows h (all_of p present w)
    → Knows (paid h (is_ok result)) (with_written bytes (all_of p present w))
    × HasTaken h.batches true (is_ok result) [] 0 (failed result) (all_of p present w)
    (with_written bytes (all_of p present w))
writes h p None w bytes result owes connected sent knows =
    never h.connected connected knows.present
writes h p (Some c) w bytes (Ok done) owes connected sent knows =
    let on : IsPresent h (before h.batches p) c = knows.present in
    let d : Connection = add_written bytes c in
    let whole : c.written ++ bytes ≡ connection_acknowledgements h.batches (before h.batches p) c =
    ap (λ (l : List ℕ). c.written ++ l) sent
    ∙ whole_written h (before h.batches p) c owes connected on in (
      knows_same h (paid h true) p c d w refl refl refl (λ is. (refl, is)) knows (record {
        begins = ([], sym whole ∙ sym (append-nil (c.written ++ bytes)));
        answered = λ is. append-nil (c.written ++ bytes) ∙ whole;
        good = λ is. written_good h.batches bytes c (on.good is);
        at_line = λ over is. on.at_line over connected;
      }),
      same_step h.batches true p c d w 0 refl (kept_one h.batches p d w 0) (kept_none p d w),
    )
writes h p (Some c) w bytes (Err error) owes connected sent knows =
    let on : IsPresent h (before h.batches p) c = knows.present in
    let d : Connection = add_written bytes c in
    let whole = whole_written h (before h.batches p) c owes connected on in (
      knows_same h (paid h false) p c d w refl refl refl (λ is. (refl, is)) knows (record {
        begins = part_begins c.written bytes (acknowledgement h.receiver)
            (connection_acknowledgements h.batches (before h.batches p) c) sent.0 whole sent.2;
        answered = λ is. absurd (true≢false (sym is));
        good = λ is. written_good h.batches bytes c (on.good is);
        at_line = λ over is. absurd (true≢false (sym is));
      }),
      same_step h.batches false p c d w 1 refl (left_one h.batches p d w) (left_more p d w 1
          (omega arith)),
    )

-- what is written leaves what the last line says
pub still_says : (b : Bool) (line : Line) (bytes : List ℕ) (p : List Connection)
    (present : Option Connection) (w : List (List ℕ)) → LastSays b line (all_of p present w)
    → LastSays b line (with_written bytes (all_of p present w))
still_says b line bytes p None w last = last
still_says b line bytes p (Some c) w last = record {
  text = last.text;
  ends = record {
    before = last.ends.before;
    lines = last.ends.lines;
    part = last.ends.part;
  };
  says = last.says;
}

-- ---- a part of a line is read

-- a cell that leaves its connection
abbrev pub leaving : Hearing → Hearing
leaving h = record h { connected = false }

unpaid : (h : Hearing) (taken : ℕ) (c : Connection) → h.owes ≡ false → h.connected ≡ true
    → IsPresent h taken c → c.written ≡ connection_acknowledgements h.batches taken c
unpaid h taken c owes connected on =
    sym (append-nil c.written)
    ∙ ap (λ (b : Bool). c.written ++ cond b (acknowledgement h.receiver) []) (sym owes)
    ∙ on.answered connected

part_good : (b : Bool) (c : Connection) (line : List ℕ) → has_end line ≡ false
    → length line ≤ MAX_LINE
    → part_of c.taken ≡ [] → IsGood b c → IsGood b (add_taken line c)
part_good b c line plain few at good =
    let part : part_of (c.taken ++ line) ≡ line =
    part_plain c.taken line plain ∙ ap (λ (l : List ℕ). l ++ line) at in
    record {
      lines = All-same (IsGoodLine b) (whole_lines (c.taken ++ line)) (whole_lines c.taken)
          (lines_plain c.taken line plain) good.lines;
      part = omega (arith, ap length part, few);
    }

-- an acknowledged connection is acknowledged still
same_answered : (b : Bool) (taken : ℕ) (c d : Connection) → whole_lines d.taken
    ≡ whole_lines c.taken
    → connection_acknowledgements b taken d ≡ connection_acknowledgements b taken c
same_answered b taken c d same = ap (line_acknowledgements taken) (same_lines b c d same)

present_same : (h k : Hearing) (taken : ℕ) (c d : Connection) → k.batches ≡ h.batches
    → whole_lines d.taken ≡ whole_lines c.taken → d.written ≡ c.written → owed k ≡ owed h
    → (k.connected ≡ true → h.connected ≡ true) → (k.over ≡ None → IsGood h.batches d)
    → (k.over ≡ None → k.connected ≡ true → part_of d.taken ≡ []) → IsPresent h taken c
    → IsPresent k taken d
present_same h k taken c d takes same written owes connected good at on =
    let all = same_answered h.batches taken c d same in
    subst (λ (x : Hearing). IsPresent x taken d) (taking_so k h takes) (record {
      begins = (
        on.begins.0,
        all ∙ on.begins.1 ∙ ap (λ (l : List ℕ). l ++ on.begins.0) (sym written),
      );
      answered = λ is. ap (λ (l : List ℕ). l ++ owed k) written
          ∙ ap (λ (l : List ℕ). c.written ++ l) owes ∙ on.answered (connected is) ∙ sym all;
      good = good;
      at_line = at;
    })

done_is : (b : Bool) (n : ℕ) (d : Connection) → length d.left ≡ 0
    → length d.written ≡ length (connection_acknowledgements b n d) → is_done b n d ≡ true
done_is b n d left written = grind (arith, nat_tests, left, written)

-- so many reads failed where a line was cut
abbrev pub Cuts : Connections → ℕ → Type 0
Cuts all faults = ((left_now all ≡ []) × (faults ≡ 0)) ⊎ (faults ≡ 1)

cut_few : (b : Bool) (p : List Connection) (d : Connection) (w : List (List ℕ)) (faults : ℕ)
    → d.written ≡ connection_acknowledgements b (before b p) d → Cuts (all_of p (Some d) w) faults
    → left_undone b false (all_of p (Some d) w) ≤ undone b 0 p + faults
cut_few b p d w faults written (inl ended) =
    let is = done_is b (before b p) d (ap length ended.0) (ap length written) in
    omega (arith, undone_more b p d, ap one_unless is)
cut_few b p d w faults written (inr one) =
    omega (arith, undone_more b p d, one_most (is_done b (before b p) d), one)

cut_one : (all : Connections) (faults : ℕ) → Cuts all faults → faults ≤ 1
cut_one all faults (inl ended) = omega (arith, ended.1)
cut_one all faults (inr one) = omega (arith, one)

pub cuts : (h : Hearing) (p : List Connection) (present : Option Connection) (w : List (List ℕ))
    (line : List ℕ) (faults : ℕ) → h.over ≡ None → h.owes ≡ false → h.connected ≡ true
    → has_end line ≡ false → length line ≤ MAX_LINE → Knows h (all_of p present w)
    → Cuts (with_taken line (all_of p present w)) faults
    → Knows (leaving h) (with_taken line (all_of p present w))
    × HasTaken h.batches true false [] 0 faults (all_of p present w)
    (with_taken line (all_of p present w))
cuts h p None w line faults over owes connected plain few knows cut =
    never h.connected connected knows.present
cuts h p (Some c) w line faults over owes connected plain few knows cut =
    let on : IsPresent h (before h.batches p) c = knows.present in
    let d : Connection = add_taken line c in
    let same = lines_plain c.taken line plain in
    let written = unpaid h (before h.batches p) c owes connected on
    ∙ sym (same_answered h.batches (before h.batches p) c d same) in (
      knows_same h (leaving h) p c d w refl same refl (λ is. (refl, is)) knows
          (present_same h (leaving h) (before h.batches p) c d refl same refl refl
          (λ is. absurd (true≢false (sym is)))
          (λ is. part_good h.batches c line plain few (on.at_line over connected) (on.good over))
          (λ is yes_is. absurd (true≢false (sym yes_is))) on),
      same_step h.batches false p c d w faults same (cut_few h.batches p d w faults written cut)
          (left_more p d w faults (cut_one (all_of p (Some d) w) faults cut)),
    )

-- a line is too long
over_none : {P : Type 0} (item : CellNext) → Some item ≡ None → P
over_none item is = absurd (cc)

pub too_long : (h : Hearing) (p : List Connection) (present : Option Connection)
    (w : List (List ℕ)) (line : List ℕ) → h.over ≡ None → h.connected ≡ true
    → has_end line ≡ false → length line ≡ MAX_LINE + 1 → Knows h (all_of p present w)
    → Knows (spoilt h) (with_taken line (all_of p present w))
    × Tells h.batches h.receiver (bad_behind h) (with_taken line (all_of p present w))
    × HasTaken h.batches true true [] 0 0 (all_of p present w) (with_taken line
    (all_of p present w))
too_long h p None w line over connected plain long knows =
    never h.connected connected knows.present
too_long h p (Some c) w line over connected plain long knows =
    let on : IsPresent h (before h.batches p) c = knows.present in
    let d : Connection = add_taken line c in
    let same = lines_plain c.taken line plain in
    let part : part_of (c.taken ++ line) ≡ line =
    part_plain c.taken line plain ∙ ap (λ (l : List ℕ). l ++ line) (on.at_line over connected) in
    let texts : texts_on (p ++ d ∷ []) ≡ texts_on (p ++ c ∷ []) =
    texts_step p c d [] (same ∙ sym (append-nil (whole_lines c.taken)))
    ∙ append-nil (texts_on (p ++ c ∷ [])) in
    let number : next_line h.lines ≡ numbered (length (texts_on (p ++ d ∷ [])) + 1) =
    omega (arith, knows.lines_are over, ap length texts) in (
      knows_same h (spoilt h) p c d w refl same refl (λ is. over_none (bad_behind h) is) knows
          (present_same h (spoilt h) (before h.batches p) c d refl same refl refl (λ is. is)
          (λ is. over_none (bad_behind h) is) (λ is yes_is. over_none (bad_behind h) is) on),
      inr (inl (ap length part ∙ long, number)),
      same_step h.batches true p c d w 0 same (kept_one h.batches p d w 0) (kept_none p d w),
    )

-- ---- a whole line is read

-- what ends a call, if something does
abbrev pub MayTell : (b : Bool) → ℕ → Option CellNext → Connections → Type 0
MayTell b taken None all = Unit {0}
MayTell b taken (Some item) all = Tells b taken item all

abbrev pub may_items : Option CellNext → List Item
may_items None = []
may_items (Some item) = items_of item

-- what is known behind a line that was heard so
record HeardLine (h : Hearing) (how : hears.Heard) (item : Item) : Type 0 where
  taken : (heard_line h how item).receiver ≡ h.receiver + length (heard_items how item)
  lines : (heard_line h how item).lines ≡ next_line h.lines
  connected : (heard_line h how item).connected ≡ h.connected
  owes : owed (heard_line h how item)
      ≡ flat_map acknowledgement (acknowledgements how (h.receiver + length (heard_items how item)))
  takes : (heard_line h how item).batches ≡ h.batches
  gives : may_items (item_given (next_line h.lines) how item) ≡ heard_items how item

owes_one : (n m : ℕ) → n ≡ m → acknowledgement n ≡ acknowledgement m ++ []
owes_one n m is = sym (append-nil (acknowledgement n))
    ∙ ap (λ (k : ℕ). acknowledgement k ++ []) is

heard_as : (h : Hearing) (how : hears.Heard) (item : Item) → h.owes ≡ false
    → HeardLine h how item
heard_as h Take (Gross gross) owes = record {
  taken = refl;
  lines = refl;
  connected = refl;
  owes = owes_one (h.receiver + 1) (h.receiver + 1) refl;
  takes = refl;
  gives = refl;
}
heard_as h Take (Batch batch) owes = record {
  taken = refl;
  lines = refl;
  connected = refl;
  owes = owes_one (h.receiver + 1) (h.receiver + 1) refl;
  takes = refl;
  gives = refl;
}
heard_as h Take End owes = record {
  taken = refl;
  lines = refl;
  connected = refl;
  owes = owes_one (h.receiver + 1) (h.receiver + 1) refl;
  takes = refl;
  gives = refl;
}
heard_as h Again item owes = record {
  taken = omega arith;
  lines = refl;
  connected = refl;
  owes = owes_one h.receiver (h.receiver + 0) (omega arith);
  takes = refl;
  gives = refl;
}
heard_as h Ahead item owes = record {
  taken = omega arith;
  lines = refl;
  connected = refl;
  owes = ap (λ (b : Bool). cond b (acknowledgement h.receiver) []) owes;
  takes = refl;
  gives = refl;
}

tells_line : (h : Hearing) (number : ℕ) (item : Item) (how : hears.Heard) (text : List ℕ)
    (all : Connections) → heard h.receiver number ≡ how → EndsWith text all
    → line_said h.batches text ≡ Some (number, item)
    → next_line h.lines ≡ numbered (length (texts_on (served all)))
    → MayTell h.batches (heard_line h how item).receiver (item_given
    (next_line h.lines) how item) all
tells_line h number (Gross gross) Take text all how ends is line = record {
  text = text;
  ends = ends;
  says = is ∙ ap (λ (n : ℕ). Some (n, Gross gross)) (is_take h.receiver number how);
}
tells_line h number (Batch batch) Take text all how ends is line = (
  record {
    text = text;
    ends = ends;
    says = is ∙ ap (λ (n : ℕ). Some (n, Batch batch)) (is_take h.receiver number how);
  },
  line,
)
tells_line h number End Take text all how ends is line = record {
  text = text;
  ends = ends;
  says = is ∙ ap (λ (n : ℕ). Some (n, End)) (is_take h.receiver number how);
}
tells_line h number item Again text all how ends is line = tt
tells_line h number item Ahead text all how ends is line = tt

line_good : (b : Bool) (c : Connection) (text : List ℕ) → part_of c.taken ≡ [] → has_end text
    ≡ false
    → length text ≤ MAX_LINE → is_some (line_said b text) ≡ true → IsGood b c
    → IsGood b (add_taken (text ++ 10 ∷ []) c)
line_good b c text at plain few says good = record {
  lines = All-same (IsGoodLine b) (whole_lines (c.taken ++ (text ++ 10 ∷ [])))
      (whole_lines c.taken ++ text ∷ []) (lines_ended c.taken text at plain)
      (All-push (IsGoodLine b) (whole_lines c.taken) text good.lines (few, says));
  part = omega (arith, ap length (part_ended c.taken text));
}

-- what was heard of a line of one of the forms
says_line : (h : Hearing) (p : List Connection) (c : Connection) (w : List (List ℕ))
    (text : List ℕ) (number : ℕ) (item : Item) → line_said h.batches text ≡ Some (number, item)
    → h.over ≡ None → h.owes ≡ false → h.connected ≡ true → has_end text ≡ false
    → length text ≤ MAX_LINE → Knows h (all_of p (Some c) w)
    → (k : Hearing) → k ≡ heard_line h (heard h.receiver number) item
    → Knows k (all_of p (Some (add_taken (text ++ 10 ∷ []) c)) w)
    × HasTaken h.batches true true (heard_items (heard h.receiver number) item) 1 0 (all_of p
    (Some c) w)
    (all_of p (Some (add_taken (text ++ 10 ∷ []) c)) w)
says_line h p c w text number item said over owes connected plain few knows k is =
    let on : IsPresent h (before h.batches p) c = knows.present in
    let d : Connection = add_taken (text ++ 10 ∷ []) c in
    let how : hears.Heard = heard h.receiver number in
    let line : Line = (number, item) in
    let known : HeardLine h how item = heard_as h how item owes in
    let texts : whole_lines d.taken ≡ whole_lines c.taken ++ text ∷ [] =
    lines_ended c.taken text (on.at_line over connected) plain in
    let lines : connection_lines h.batches d ≡ connection_lines h.batches c ++ line ∷ [] =
    lines_more h.batches c d (text ∷ []) texts
    ∙ ap (λ (o : Option Line). connection_lines h.batches c ++ cons_option o []) said in
    let taken : h.receiver
    ≡ before h.batches p + length (line_items (before h.batches p)
    (connection_lines h.batches c)) =
    knows.taken_is ∙ ap length (given_more h.batches p c)
    ∙ length-append (given_items h.batches p) (line_items (before h.batches p)
    (connection_lines h.batches c)) in
    let given : line_items (before h.batches p) (connection_lines h.batches d)
    ≡ line_items (before h.batches p) (connection_lines h.batches c) ++ heard_items how item =
    ap (line_items (before h.batches p)) lines
    ∙ one_given (before h.batches p) h.receiver (connection_lines h.batches c) line taken in
    let answers : connection_acknowledgements h.batches (before h.batches p) d
    ≡ connection_acknowledgements h.batches (before h.batches p) c
    ++ flat_map acknowledgement (acknowledgements how (h.receiver + length
    (heard_items how item))) =
    ap (line_acknowledgements (before h.batches p)) lines
    ∙ one_acknowledged (before h.batches p) h.receiver (connection_lines h.batches c) line taken in
    let step : HasTaken h.batches true true (heard_items how item) 1 0 (all_of p (Some c) w)
    (all_of p (Some d) w) = taken_step h.batches true p c d w (heard_items how item)
    (text ∷ []) 1 0 refl texts
    given (kept_one h.batches p d w 0) (kept_none p d w) in
    let behind : owed k ≡ flat_map acknowledgement (acknowledgements how
    (h.receiver + length (heard_items how item))) = ap owed is ∙ known.owes in
    let takes : k.batches ≡ h.batches = ap (λ (x : Hearing). x.batches) is ∙ known.takes in
    let whole : c.written ++ owed k ≡ connection_acknowledgements h.batches (before h.batches p) d =
    ap (λ (l : List ℕ). l ++ owed k) (unpaid h (before h.batches p) c owes connected on)
    ∙ ap (λ (l : List ℕ). connection_acknowledgements h.batches (before h.batches p) c ++ l) behind
    ∙ sym answers in (
      subst (λ (x : Hearing). Knows x (all_of p (Some d) w)) (taking_so k h takes) (record {
        taken_is = ap (λ (x : Hearing). x.receiver) is ∙ known.taken
            ∙ ap (λ (n : ℕ). n + length (heard_items how item)) knows.taken_is
            ∙ sym (length-append (given_items h.batches (p ++ c ∷ [])) (heard_items how item))
            ∙ ap length (sym step.given_is);
        lines_are = λ still. omega (
          arith,
          ap (λ (x : Hearing). x.lines) is,
          known.lines,
          knows.lines_are over,
          ap length (texts_step p c d (text ∷ []) texts),
          length-append (texts_on (p ++ c ∷ [])) (text ∷ []),
        );
        answered = knows.answered;
        good = λ still. knows.good over;
        present = record {
          begins = (owed k, sym whole);
          answered = λ still. whole;
          good = λ still. line_good h.batches c text (on.at_line over connected) plain few
              (ap is_some said) (on.good over);
          at_line = λ still yes_is. part_ended c.taken text;
        };
      }),
      step,
    )

-- what was heard of a line of no form
says_nothing : (h : Hearing) (p : List Connection) (c : Connection) (w : List (List ℕ))
    (text : List ℕ) → line_said h.batches text ≡ None → h.over ≡ None → h.connected ≡ true
    → has_end text ≡ false → Knows h (all_of p (Some c) w)
    → Knows (spoilt h) (all_of p (Some (add_taken (text ++ 10 ∷ []) c)) w)
    × Tells h.batches h.receiver (bad_behind h) (all_of p (Some (add_taken (text ++ 10 ∷ []) c)) w)
    × HasTaken h.batches true true [] 1 0 (all_of p (Some c) w)
    (all_of p (Some (add_taken (text ++ 10 ∷ []) c)) w)
says_nothing h p c w text said over connected plain knows =
    let on : IsPresent h (before h.batches p) c = knows.present in
    let d : Connection = add_taken (text ++ 10 ∷ []) c in
    let texts : whole_lines d.taken ≡ whole_lines c.taken ++ text ∷ [] =
    lines_ended c.taken text (on.at_line over connected) plain in
    let lines : connection_lines h.batches d ≡ connection_lines h.batches c =
    lines_more h.batches c d (text ∷ []) texts
    ∙ ap (λ (o : Option Line). connection_lines h.batches c ++ cons_option o []) said
    ∙ append-nil (connection_lines h.batches c) in
    let given : line_items (before h.batches p) (connection_lines h.batches d)
    ≡ line_items (before h.batches p) (connection_lines h.batches c) ++ [] =
    ap (line_items (before h.batches p)) lines
    ∙ sym (append-nil (line_items (before h.batches p) (connection_lines h.batches c))) in
    let answers : connection_acknowledgements h.batches (before h.batches p) d
    ≡ connection_acknowledgements h.batches (before h.batches p) c =
    ap (line_acknowledgements (before h.batches p)) lines in
    let step : HasTaken h.batches true true [] 1 0 (all_of p (Some c) w) (all_of p (Some d) w) =
    taken_step h.batches true p c d w [] (text ∷ []) 1 0 refl texts given
    (kept_one h.batches p d w 0) (kept_none p d w) in (
      record {
        taken_is = knows.taken_is
            ∙ ap length (sym (step.given_is ∙ append-nil (given_items h.batches (p ++ c ∷ []))));
        lines_are = λ is. over_none (bad_behind h) is;
        answered = knows.answered;
        good = λ is. over_none (bad_behind h) is;
        present = record {
          begins = (on.begins.0, answers ∙ on.begins.1);
          answered = λ is. on.answered is ∙ sym answers;
          good = λ is. over_none (bad_behind h) is;
          at_line = λ is yes_is. over_none (bad_behind h) is;
        };
      },
      inl (
        record {
          text = text;
          ends = record {
            before = whole_lines c.taken;
            lines = texts;
            part = part_ended c.taken text;
          };
          says = said;
        },
        omega (
          arith,
          knows.lines_are over,
          ap length (texts_step p c d (text ∷ []) texts),
          length-append (texts_on (p ++ c ∷ [])) (text ∷ []),
        ),
      ),
      step,
    )

pub hears_text : (h : Hearing) (p : List Connection) (present : Option Connection)
    (w : List (List ℕ)) (text : List ℕ) (said : Option Line) → line_said h.batches text ≡ said
    → h.over ≡ None → h.owes ≡ false → h.connected ≡ true → has_end text ≡ false
    → length text ≤ MAX_LINE → Knows h (all_of p present w)
    → Knows (heard_text h said) (with_taken (text ++ 10 ∷ []) (all_of p present w))
    × MayTell h.batches (heard_text h said).receiver (item_heard h said)
    (with_taken (text ++ 10 ∷ []) (all_of p present w))
    × HasTaken h.batches true true (may_items (item_heard h said)) 1 0 (all_of p present w)
    (with_taken (text ++ 10 ∷ []) (all_of p present w))
hears_text h p None w text said is over owes connected plain few knows =
    never h.connected connected knows.present
hears_text h p (Some c) w text None is over owes connected plain few knows =
    says_nothing h p c w text is over connected plain knows
hears_text h p (Some c) w text (Some line) is over owes connected plain few knows =
    let on : IsPresent h (before h.batches p) c = knows.present in
    let d : Connection = add_taken (text ++ 10 ∷ []) c in
    let how : hears.Heard = heard h.receiver line.0 in
    let known : HeardLine h how line.1 = heard_as h how line.1 owes in
    let both = says_line h p c w text line.0 line.1 is over owes connected plain few knows
    (heard_line h how line.1) refl in
    let ends : EndsWith text (all_of p (Some d) w) = record {
      before = whole_lines c.taken;
      lines = lines_ended c.taken text (on.at_line over connected) plain;
      part = part_ended c.taken text;
    } in
    let number : next_line h.lines ≡ numbered (length (texts_on (p ++ d ∷ []))) = omega (
      arith,
      knows.lines_are over,
      ap length (texts_step p c d (text ∷ []) ends.lines),
      length-append (texts_on (p ++ c ∷ [])) (text ∷ []),
    ) in (
      both.0,
      tells_line h line.0 line.1 how text (all_of p (Some d) w) refl ends is number,
      subst (λ (l : List Item). HasTaken h.batches true true l 1 0 (all_of p (Some c) w)
          (all_of p (Some d) w)) (sym known.gives) both.1,
    )

-- ---- the next connection

-- what is known of all connections that were served
all_answered : (h : Hearing) (p : List Connection) (present : Option Connection)
    (w : List (List ℕ)) → Knows h (all_of p present w)
    → AreAnswered h.batches 0 (p ++ option_to_list present)
all_answered h p None w knows = subst (AreAnswered h.batches 0) (sym (append-nil p)) knows.answered
all_answered h p (Some c) w knows =
    let on : IsPresent h (before h.batches p) c = knows.present in
    (answered_more h.batches) p c knows.answered on.begins

all_good : (h : Hearing) (p : List Connection) (present : Option Connection)
    (w : List (List ℕ)) → h.over ≡ None → Knows h (all_of p present w)
    → All (IsGood h.batches) (p ++ option_to_list present)
all_good h p None w over knows =
    All-same (IsGood h.batches) (p ++ []) p (append-nil p) (knows.good over)
all_good h p (Some c) w over knows =
    let on : IsPresent h (before h.batches p) c = knows.present in
    All-push (IsGood h.batches) p c (knows.good over) (on.good over)

-- a cell with its next connection
abbrev pub joining : Hearing → Hearing
joining h = record h { connected = true }

-- where one waits
pub joins : (h : Hearing) (all : Connections) (bytes : List ℕ) (others : List (List ℕ))
    → all.waiting ≡ bytes ∷ others → h.over ≡ None → h.owes ≡ false → Knows h all
    → (next : Connections) → next ≡ next_connections all
    → Knows (joining h) next × HasTaken h.batches false true [] 1 0 all next
joins h all bytes others waits over owes knows next is =
    let s : List Connection = served all in
    let new : Connection = new_connection bytes in
    let same : next ≡ all_of s (Some new) others =
    is ∙ ap (λ (ws : List (List ℕ)).
    next_connections (record { past = all.past; present = all.present; waiting = ws })) waits in
    let given : given_items h.batches (s ++ new ∷ []) ≡ given_items h.batches s
    ++ [] = given_more h.batches s new in
    let texts : texts_on (s ++ new ∷ []) ≡ texts_on s ++ [] = texts_more s new in
    let nothing : owed (joining h) ≡ [] =
    ap (λ (b : Bool). cond b (acknowledgement h.receiver) []) owes in
    subst (λ (x : Connections). Knows (joining h) x × HasTaken h.batches false true [] 1 0 all x)
    (sym same) (
      record {
        taken_is = knows.taken_is
            ∙ ap length (sym (given ∙ append-nil (given_items h.batches s)));
        lines_are = λ still. knows.lines_are still
            ∙ ap (λ (l : List (List ℕ)). numbered (length l))
            (sym (texts ∙ append-nil (texts_on s)));
        answered = all_answered h all.past all.present all.waiting knows;
        good = λ still. all_good h all.past all.present all.waiting over knows;
        present = record {
          begins = ([], refl);
          answered = λ still. nothing;
          good = λ still. record {
            lines = λ k x within. absurd (omega
                (arith, within));
            part = omega arith;
          };
          at_line = λ still yes_is. refl;
        };
      },
      record {
        given_is = given;
        turns_are = omega (
          arith,
          ap length (texts ∙ append-nil (texts_on s)),
          length-append s (new ∷ []),
        );
        undone_few = omega arith;
        faults_leave = omega arith;
      },
    )

-- where none waits
pub ends : (h : Hearing) (all : Connections) → all.waiting ≡ [] → h.connected ≡ false
    → h.over ≡ None → Knows h all
    → (next : Connections) → next ≡ next_connections all
    → Knows (spoilt h) next × Tells h.batches h.receiver (bad_behind h) next
    × HasTaken h.batches false false [] 0 0 all next
ends h all waits connected over knows next is =
    let s : List Connection = served all in
    let same : next ≡ all_of s None [] =
    is ∙ ap (λ (ws : List (List ℕ)).
    next_connections (record { past = all.past; present = all.present; waiting = ws })) waits in
    let still : s ++ [] ≡ s = append-nil s in
    subst (λ (x : Connections). Knows (spoilt h) x × Tells h.batches h.receiver (bad_behind h) x
    × HasTaken h.batches false false [] 0 0 all x) (sym same) (
      record {
        taken_is = knows.taken_is
            ∙ ap (λ (l : List Connection). length (given_items h.batches l)) (sym still);
        lines_are = λ none. over_none (bad_behind h) none;
        answered = all_answered h all.past all.present all.waiting knows;
        good = λ none. over_none (bad_behind h) none;
        present = connected;
      },
      inr (inr (
        refl,
        refl,
        omega (
          arith,
          knows.lines_are over,
          ap (λ (l : List Connection). length (texts_on l)) still,
        ),
      )),
      record {
        given_is = ap (given_items h.batches) still ∙ sym (append-nil (given_items h.batches s));
        turns_are = omega (
          arith,
          ap (λ (l : List Connection). length (texts_on l)) still,
          ap length still,
        );
        undone_few = omega (arith, ap (undone h.batches 0) still);
        faults_leave = omega (arith, ap length still);
      },
    )

-- nothing changed
pub none_taken : (b : Bool) (connected : Bool) (all : Connections)
    → HasTaken b connected connected [] 0 0 all all
none_taken b connected all = record {
  given_is = sym (append-nil (given_items b (served all)));
  turns_are = omega arith;
  undone_few = omega arith;
  faults_leave = omega arith;
}

-- a cell that begins
pub knows_none : (batches : Bool) (all : Connections) → served all ≡ []
    → Knows (silent batches) all
knows_none batches all none = by all.past all.present all.waiting none where
  by : (p : List Connection) (present : Option Connection) (w : List (List ℕ))
      → p ++ option_to_list present ≡ [] → Knows (silent batches) (all_of p present w)
  by [] None w is = record {
    taken_is = refl;
    lines_are = λ still. refl;
    answered = tt;
    good = λ still k x within. absurd (omega (arith, within));
    present = refl;
  }
  by [] (Some c) w is = absurd (cc)
  by (x ∷ p) present w is = absurd (cc)
