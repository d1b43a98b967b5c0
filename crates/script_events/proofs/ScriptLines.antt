-- Lemmas on the lines of a script that goes on.
use Rattle.std.proofs.Common.{◌≡◌, ℕ, ◌<◌, Bool, true, false, ◌&&◌, List, [], ◌∷◌, ◌++◌, length, map, nat_le, cond, eqb, refl, sym, ap, ◌∙◌, subst, arith, append_assoc, append-nil}
use Rattle.std.proofs.lemmas.Bool.Decides.{nat_tests}
use Rattle.std.proofs.lemmas.List.{length_push, length-map, map-append}
use Rattle.std.specs.Str.Lines.{strip_carriage_return}
use Rattle.script_lines.specs.declared.lines.TheConstants.{MAX_LINE}
use Rattle.script_lines.specs.declared.command.Allowed.{Allowed}
use Rattle.script_lines.specs.declared.command.Line.{Line}
use Rattle.script_lines.specs.declared.command.Line.TheVariants.{Nothing, Bad}
use Rattle.script_lines.specs.Lines.{has_end, ended_lines, rest_of, last_line}
use Rattle.script_lines.specs.Words.{words_of}
use Rattle.script_lines.specs.Script.{words_say, line_says, ended_says, last_says, is_good, all_good}
use Rattle.script_lines.proofs.LineLists.{ended_after, rest_after, last_line_is, ended_lines-append, rest_of-append, ended_with_part, ended_with_line, rest_with_part, rest_with_line}
use Rattle.store_runs.specs.Books.{BookState}
use Rattle.script_events.specs.Transcript.{Event, AreEventsOf}
use Rattle.script_events.proofs.EventLists.{events-nothing}
use Rattle.script_events.specs.Scripts.{every_command, ended_lines_of, lines_of, HasLine}

-- what a line says that has ended, and a last line
abbrev pub ended_line : ℕ → List ℕ → Line
ended_line lanes line = ended_says (every_command lanes) line

abbrev pub last_line_of : ℕ → List ℕ → Line
last_line_of lanes line = last_says (every_command lanes) line

-- what a line says where so many lanes were handed in
pub said_with : {L S : Type 0} (state : L → S) (lanes : List L) (allowed : Allowed) (said : Line)
    (bytes : List ℕ) → said ≡ ended_says allowed bytes → allowed ≡ every_command (length lanes)
    → said ≡ ended_line (length (map state lanes)) bytes
said_with state lanes allowed said bytes says is =
    says ∙ ap (λ (a : Allowed). ended_says a bytes) is
    ∙ ap (λ n. ended_line n bytes) (sym (length-map lanes state))

pub last_with : {L S : Type 0} (state : L → S) (lanes : List L) (allowed : Allowed) (said : Line)
    (bytes : List ℕ) → said ≡ last_says allowed bytes → allowed ≡ every_command (length lanes)
    → said ≡ last_line_of (length (map state lanes)) bytes
last_with state lanes allowed said bytes says is =
    says ∙ ap (λ (a : Allowed). last_says a bytes) is
    ∙ ap (λ n. last_line_of n bytes) (sym (length-map lanes state))

-- the lines after those that have ended, where the first of them has begun so
abbrev pub lines_after : ℕ → List ℕ → List ℕ → List Line
lines_after lanes begun more = map (ended_line lanes) (ended_after begun more)
    ++ map (last_line_of lanes) (last_line (rest_after begun more))

-- the lines of a script that goes on
pub lines_of-append : (lanes : ℕ) (taken more : List ℕ)
    → lines_of lanes (taken ++ more) ≡ ended_lines_of lanes taken ++ lines_after lanes
    (rest_of taken) more
lines_of-append lanes taken more =
    ap (λ ls. map (ended_line lanes) ls ++ map (last_line_of lanes) (last_line (rest_of
    (taken ++ more))))
    (ended_lines-append taken more)
    ∙ ap (λ begun. map (ended_line lanes) (ended_lines taken ++ ended_after (rest_of taken) more)
    ++ map (last_line_of lanes) (last_line begun)) (rest_of-append taken more)
    ∙ ap (λ (ls : List Line). ls ++ map (last_line_of lanes) (last_line (rest_after
    (rest_of taken) more)))
    (map-append (ended_line lanes) (ended_lines taken) (ended_after (rest_of taken) more))
    ∙ append_assoc (ended_lines_of lanes taken) (map (ended_line lanes) (ended_after
    (rest_of taken) more)) _

-- what the ended lines say when the text goes on with bytes without an LF, and when an LF ends one
-- more
pub ended_of_part : (lanes : ℕ) (taken part : List ℕ) → has_end part ≡ false
    → ended_lines_of lanes (taken ++ part) ≡ ended_lines_of lanes taken
ended_of_part lanes taken part none = ap (map (ended_line lanes)) (ended_with_part taken part none)

pub ended_of_line : (lanes : ℕ) (taken part : List ℕ) → has_end part ≡ false
    → ended_lines_of lanes (taken ++ (part ++ 10 ∷ [])) ≡ ended_lines_of lanes taken
    ++ ended_line lanes (rest_of taken ++ part) ∷ []
ended_of_line lanes taken part none = ap (map (ended_line lanes)) (ended_with_line taken part none)
    ∙ map-append (ended_line lanes) (ended_lines taken) ((rest_of taken ++ part) ∷ [])

-- a line has ended, whatever follows
pub line_ended : (lanes : ℕ) (taken part more : List ℕ) → has_end part ≡ false
    → HasLine lanes (ended_lines_of lanes taken) (ended_line lanes (rest_of taken ++ part))
    ((taken ++ (part ++ 10 ∷ [])) ++ more)
line_ended lanes taken part more none =
    record {
      more = lines_after lanes [] more;
      parts = lines_of-append lanes (taken ++ (part ++ 10 ∷ [])) more
          ∙ ap (λ begun. ended_lines_of lanes (taken ++ (part ++ 10 ∷ [])) ++ lines_after lanes
          begun more)
          (rest_with_line taken part)
          ∙ ap (λ (ls : List Line). ls ++ lines_after lanes [] more)
          (ended_of_line lanes taken part none)
          ∙ append_assoc (ended_lines_of lanes taken) (ended_line lanes (rest_of taken ++ part) ∷ [])
          (lines_after lanes [] more);
    }

pub too_long : (lanes : ℕ) (line text : List ℕ) → MAX_LINE < length line → line_says
    (every_command lanes) line text ≡ Bad
too_long lanes line text long =
    let over : nat_le (length line) MAX_LINE ≡ false = grind (arith, nat_tests) in
    ap (λ (b : Bool). cond b (words_say (every_command lanes) (words_of text)) Bad) over

-- a line that is too long stays so
record BeginsBad (lines : List Line) : Type 0 where
  others : List Line
  parts : lines ≡ Bad ∷ others

goes_bad : (lanes : ℕ) (begun more : List ℕ) → MAX_LINE < length begun → BeginsBad
    (lines_after lanes begun more)
goes_bad lanes begun [] long =
    record {
      others = [];
      parts = ap (map (last_line_of lanes)) (last_line_is begun (omega arith))
          ∙ ap (λ (l : Line). l ∷ []) (too_long lanes begun begun long);
    }
goes_bad lanes begun (x ∷ more) long =
    let longer = length_push begun x in
    let later = goes_bad lanes (begun ++ x ∷ []) more (omega arith) in
    elim (eqb x 10) as (λ b. BeginsBad
    (map (ended_line lanes) (cond b (begun ∷ ended_after [] more) (ended_after (begun ++ x ∷ []) more))
    ++ map (last_line_of lanes) (last_line
    (cond b (rest_after [] more) (rest_after (begun ++ x ∷ []) more))))) [
      | true ↦ record {
        others = lines_after lanes [] more;
        parts =
            ap (λ (l : Line). l ∷ lines_after lanes [] more)
            (too_long lanes begun (strip_carriage_return begun) long);
      }
      | false ↦ record { others = later.others; parts = later.parts }
    ]

-- a line that goes on and is too long is bad, whatever follows
pub line_too_long : (lanes : ℕ) (taken part more : List ℕ) → has_end part ≡ false
    → MAX_LINE < length (rest_of taken ++ part)
    → HasLine lanes (ended_lines_of lanes taken) Bad ((taken ++ part) ++ more)
line_too_long lanes taken part more none long =
    let bad = goes_bad lanes (rest_of taken ++ part) more long in
    record {
      more = bad.others;
      parts = lines_of-append lanes (taken ++ part) more
          ∙ ap (λ begun. ended_lines_of lanes (taken ++ part) ++ lines_after lanes begun more)
          (rest_with_part taken part none)
          ∙ ap (λ (ls : List Line). ls ++ lines_after lanes (rest_of taken ++ part) more)
          (ended_of_part lanes taken part none)
          ∙ ap (λ (ls : List Line). ended_lines_of lanes taken ++ ls) bad.parts;
    }

-- where no line has begun, those that have ended are all
lines_ended : (lanes : ℕ) (taken : List ℕ) → rest_of taken ≡ []
    → lines_of lanes taken ≡ ended_lines_of lanes taken
lines_ended lanes taken none = ap (λ begun. ended_lines_of lanes taken ++ map (last_line_of lanes)
    (last_line begun))
    none ∙ append-nil (ended_lines_of lanes taken)

-- a last line that lacks its end
pub line_last : (lanes : ℕ) (taken : List ℕ) → 0 < length (rest_of taken)
    → lines_of lanes taken ≡ ended_lines_of lanes taken ++ last_line_of lanes (rest_of taken) ∷ []
line_last lanes taken some = ap (λ ls. ended_lines_of lanes taken ++ map (last_line_of lanes) ls)
    (last_line_is (rest_of taken) some)

-- a line has ended, and nothing follows
pub line_ended_last : (lanes : ℕ) (taken part : List ℕ) → has_end part ≡ false
    → lines_of lanes (taken ++ (part ++ 10 ∷ [])) ≡ ended_lines_of lanes taken
    ++ ended_line lanes (rest_of taken ++ part) ∷ []
line_ended_last lanes taken part none =
    lines_ended lanes (taken ++ (part ++ 10 ∷ [])) (rest_with_line taken part)
    ∙ ended_of_line lanes taken part none

-- a line that is too long went on, and nothing follows
pub line_too_long_last : (lanes : ℕ) (taken part : List ℕ) → has_end part ≡ false
    → MAX_LINE < length (rest_of taken ++ part)
    → lines_of lanes (taken ++ part) ≡ ended_lines_of lanes taken ++ Bad ∷ []
line_too_long_last lanes taken part none long =
    let rest = rest_with_part taken part none in
    line_last lanes (taken ++ part) (omega (arith, ap length rest))
    ∙ ap (λ (ls : List Line). ls ++ last_line_of lanes (rest_of (taken ++ part)) ∷ [])
    (ended_of_part lanes taken part none)
    ∙ ap (λ begun. ended_lines_of lanes taken ++ last_line_of lanes begun ∷ []) rest
    ∙ ap (λ (l : Line). ended_lines_of lanes taken ++ l ∷ [])
    (too_long lanes (rest_of taken ++ part) (rest_of taken ++ part) long)

pub all_good-push : (lines : List Line) (line : Line) → all_good lines ≡ true → is_good line ≡ true
    → all_good (lines ++ line ∷ []) ≡ true
all_good-push [] line good is = ap (λ (b : Bool). b && true) is
all_good-push (Bad ∷ lines) line good is = absurd cc
all_good-push (x ∷ lines) line good is = grind (arith, all_good-push lines line)

-- what holds of the lines that have ended and of the last line holds of all lines, also where none
-- has begun
pub record LastLine (lanes : ℕ) (taken : List ℕ) : Type 0 where
  pub events : (book : BookState) (events : List Event)
      → AreEventsOf book (ended_lines_of lanes taken ++ last_line_of lanes (rest_of taken) ∷ []) events
      → AreEventsOf book (lines_of lanes taken) events
  pub good : all_good (ended_lines_of lanes taken) ≡ true → is_good (last_line_of lanes
      (rest_of taken)) ≡ true
      → all_good (lines_of lanes taken) ≡ true

last_line_at : (lanes : ℕ) (taken rest : List ℕ) → rest_of taken ≡ rest → LastLine lanes taken
last_line_at lanes taken [] none =
    let all = lines_ended lanes taken none in
    let says : last_line_of lanes (rest_of taken) ≡ Nothing = ap (last_line_of lanes) none in
    record {
      events = λ book events are. subst (λ (ls : List Line). AreEventsOf book ls events) (sym all)
          (events-nothing book (ended_lines_of lanes taken) events
          (subst (λ (l : Line). AreEventsOf book (ended_lines_of lanes taken ++ l ∷ []) events) says
          are));
      good = λ good is. ap all_good all ∙ good;
    }
last_line_at lanes taken (byte ∷ rest) is =
    let some : 0 < length (rest_of taken) = omega (arith, ap length is) in
    let all = line_last lanes taken some in
    record {
      events = λ book events are. subst (λ (ls : List Line). AreEventsOf book ls events) (sym all) are;
      good = λ good one. ap all_good all
          ∙ all_good-push (ended_lines_of lanes taken) (last_line_of lanes (rest_of taken)) good one;
    }

pub last_line_whole : (lanes : ℕ) (taken : List ℕ) → LastLine lanes taken
last_line_whole lanes taken = last_line_at lanes taken (rest_of taken) refl

and_false-is : (a b : Bool) → b ≡ false → (a && b) ≡ false
and_false-is true b h = h
and_false-is false b h = refl

-- a list with a bad line isn't all good
pub all_good-bad : (lines more : List Line) → all_good (lines ++ Bad ∷ more) ≡ false
all_good-bad [] more = refl
all_good-bad (x ∷ lines) more = and_false-is (is_good x) _ (all_good-bad lines more)
