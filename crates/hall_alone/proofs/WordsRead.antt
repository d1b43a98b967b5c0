-- Lemmas on what words ask for, and how that was read.
use Rattle.std.proofs.Common.{◌≡◌, ◌↔◌, ◌&&◌, ◌||◌, ℕ, Bool, true, false, not, cond, find, List, [], ◌∷◌, codes, Option, Some, None, Result, Ok, Err, IfOk, IfErr, option_map, bytes_eq, inl, inr, refl, sym, ap, ◌∙◌, subst}
use Rattle.std.specs.List.{list_all}
use Rattle.std.proofs.lemmas.Bool.{and_parts}
use Rattle.std.specs.Option.{option_and_then}
use Rattle.std.proofs.lemmas.Slice.Eq.{bytes_eq-Decides}
use Rattle.command_line.specs.declared.types.Command.{Command}
use Rattle.command_line.specs.declared.types.Wants.{Wants}
use Rattle.command_line.specs.declared.types.WantsError.{WantsError}
use Rattle.command_line.specs.declared.types.WantsError.TheVariants.{Usage, NoMemory}
use Rattle.command_line.specs.Words.{Item, Wanted, command_of, commands, items_in, form_of, value_of, named_values, wanted_values, command_wanted, wanted_of}
use Rattle.command_line.specs.Taken.{seen}
use Rattle.disk_core.specs.declared.disk.Disk as disk
use Rattle.book_journal.proofs.Moments.{unmoved_none}
use Rattle.book_mount.specs.declared.types.MountError.TheVariants as mount
use Rattle.script_run.specs.Outside.{Call}
use Rattle.hall_alone.specs.declared.ended.Outcome.{Outcome}
use Rattle.call_endings.specs.declared.ending.Ending.{Ending}
use Rattle.call_endings.specs.declared.ending.Ending.TheVariants as ending
use Rattle.hall_alone.specs.Asked.{is_serve, begins_serve, wanted_alone, refused_as, IsRead}
use Rattle.hall_alone.specs.Calls.{EndsAs}
use Rattle.hall_alone.proofs.OpenedBooks.{is_unopened}

-- ---- the command that words ask for

-- the command of a row serves only where the row is that of the word `serve`
abbrev is_named : List ℕ × Command → Bool
is_named row = not (is_serve row.1) || bytes_eq row.0 (codes "serve")

-- a word finds a command that serves in a table of such rows only where it is the word `serve`
serve_found : (word : List ℕ) (rows : List (List ℕ × Command)) (command : Command)
    → list_all is_named rows ≡ true
    → option_map (λ (row : List ℕ × Command). row.1) (find (λ row. bytes_eq word row.0) rows)
    ≡ Some command
    → is_serve command ≡ true → bytes_eq word (codes "serve") ≡ true
serve_found word [] command named found serves = absurd (cc)
serve_found word (row ∷ rows) command named found serves =
    go (bytes_eq word row.0) refl (and_parts (is_named row) (list_all is_named rows) named) found
    (λ all here. serve_found word rows command all here serves)
  where
    same_command : (a b : Command) → Some a ≡ Some b → a ≡ b
    same_command a b is = cc

    by_word : (serving named : Bool) → (not serving || named) ≡ true → serving ≡ true → named ≡ true
    by_word true true holds here = refl
    by_word true false holds here = absurd (cc)
    by_word false named holds here = absurd (cc)

    Behind : Type 0
    Behind = list_all is_named rows ≡ true
        → option_map (λ (row : List ℕ × Command). row.1) (find (λ row. bytes_eq word row.0) rows)
        ≡ Some command → bytes_eq word (codes "serve") ≡ true

    go : (t : Bool) → bytes_eq word row.0 ≡ t
        → (is_named row ≡ true) × (list_all is_named rows ≡ true)
        → option_map (λ (row : List ℕ × Command). row.1)
        (cond t (Some row) (find (λ row. bytes_eq word row.0) rows)) ≡ Some command
        → Behind → bytes_eq word (codes "serve") ≡ true
    go true is each here behind =
        ap (λ (text : List ℕ). bytes_eq text (codes "serve")) ((bytes_eq-Decides word row.0).0 is)
        ∙ by_word (is_serve row.1) (bytes_eq row.0 (codes "serve")) each.0
        (ap is_serve (same_command row.1 command here) ∙ serves)
    go false is each here behind = behind each.1 here

-- what is made of a found value has what is made of each
map_has : {A B : Type 0} (P : B → Type 0) (f : A → B) (first : Option A) (found : B)
    → ((x : A) → P (f x)) → option_map f first ≡ Some found → P found
map_has P f None found each is = absurd (cc)
map_has P f (Some x) found each is = subst P (some_same (f x) found is) (each x)
  where
    some_same : {C : Type 0} (a b : C) → Some a ≡ Some b → a ≡ b
    some_same a b same = cc

-- what a command asks for is that command
wanted_command : (command : Command) (words : List (List ℕ)) (wanted : Wanted)
    → command_wanted command words ≡ Some wanted → wanted.command ≡ command
wanted_command command words wanted = by_items (items_in (form_of command) words)
  where
    by_items : (items : Option (List Item))
        → option_and_then (λ is. wanted_values command (value_of is)) items ≡ Some wanted
        → wanted.command ≡ command
    by_items None same = absurd (cc)
    by_items (Some is) same = map_has (λ (w : Wanted). w.command ≡ command) _
        (named_values (value_of is)) wanted (λ values. refl) same

-- words whose first isn't `serve` don't ask for it
pub asks_alone : (words : List (List ℕ)) (wanted : Wanted) → begins_serve words ≡ false
    → wanted_of words ≡ Some wanted → is_serve wanted.command ≡ false
asks_alone [] wanted other asks = absurd (cc)
asks_alone (word ∷ words) wanted other asks = by_command (command_of word) refl asks
  where
    not_serve : (command : Command) → command_of word ≡ Some command → is_serve command ≡ false
    not_serve command is = go (is_serve command) refl
      where
        go : (t : Bool) → is_serve command ≡ t → is_serve command ≡ false
        go true serves = absurd (let clash : true ≡ false =
            sym (serve_found word commands command refl is serves) ∙ other in cc)
        go false serves = serves

    by_command : (found : Option Command) → command_of word ≡ found
        → option_and_then (λ command. command_wanted command words) found ≡ Some wanted
        → is_serve wanted.command ≡ false
    by_command None is same = absurd (cc)
    by_command (Some command) is same =
        subst (λ (c : Command). is_serve c ≡ false) (sym (wanted_command command words wanted same))
        (not_serve command is)

-- what is read of words whose first isn't `serve` doesn't ask for it
pub alone_read : (words : List (List ℕ)) (answer : Result Wants WantsError)
    → begins_serve words ≡ false → IfOk answer (λ wanted. wanted_of words ≡ Some (seen wanted))
    → IfOk answer (λ wanted. is_serve wanted.command ≡ false)
alone_read words (Ok wanted) other ok = asks_alone words (seen wanted) other ok
alone_read words (Err why) other ok = tt

-- ---- how words were read

-- why they weren't
abbrev why_of : Result Wants WantsError → WantsError
why_of (Ok wanted) = NoMemory
why_of (Err why) = why

-- words that ask for this were read as they are
pub read_right : (asked : Option Wanted) (answer : Result Wants WantsError)
    → IfOk answer (λ wanted. asked ≡ Some (seen wanted))
    → IfErr answer (λ why. (why ≡ Usage) ↔ (asked ≡ None)) → IsRead asked answer
read_right asked (Ok wanted) ok err =
    record {
      usage = (
        (λ is. absurd (cc)),
        (λ none. absurd (let clash : None ≡ Some (seen wanted) = sym none ∙ ok in cc)),
      );
      ok = ok;
    }
read_right asked (Err why) ok err =
    record {
      usage = (
        (λ is. err.0 (ap why_of is)),
        (λ none. ap (λ (e : WantsError). Err e) (err.1 none)),
      );
      ok = tt;
    }

-- words that ask for nothing are wrong words
pub read_none : (asked : Option Wanted) → asked ≡ None → IsRead asked (Err Usage)
read_none asked none = record {
  usage = ((λ is. none), (λ is. refl));
  ok = tt;
}

-- what words ask for whose first is `serve`, and of others
pub serve_none : (words : List (List ℕ)) → begins_serve words ≡ true → wanted_alone words ≡ None
serve_none words serves = ap (λ (b : Bool). cond b None (wanted_of words)) serves

pub other_same : (words : List (List ℕ)) → begins_serve words ≡ false
    → wanted_alone words ≡ wanted_of words
other_same words other = ap (λ (b : Bool). cond b None (wanted_of words)) other

-- what was read tells what was asked
pub read_ok : (asked : Option Wanted) (answer : Result Wants WantsError) (wanted : Wants)
    → IsRead asked answer → answer ≡ Ok wanted → asked ≡ Some (seen wanted)
read_ok asked answer wanted read is =
    subst (λ (a : Result Wants WantsError). IfOk a (λ w. asked ≡ Some (seen w))) is read.ok

-- words that ask for this ask for nothing else
pub same_asked : (asked : Option Wanted) (said wanted : Wanted) → asked ≡ Some said
    → asked ≡ Some wanted → said ≡ wanted
same_asked asked said wanted is asks = some_same said wanted (sym is ∙ asks)
  where
    some_same : (a b : Wanted) → Some a ≡ Some b → a ≡ b
    some_same a b same = cc

-- a command that serves and doesn't
pub both_ways : (asked : Option Wanted) (said wanted : Wanted) → asked ≡ Some said
    → asked ≡ Some wanted → is_serve said.command ≡ true → is_serve wanted.command ≡ false → ⊥
both_ways asked said wanted is asks serves other = absurd
    (let clash : true ≡ false = sym serves
    ∙ ap (λ (w : Wanted). is_serve w.command) (same_asked asked said wanted is asks) ∙ other in cc)

-- ---- words that weren't read

-- only wrong words are refused as such
refused_usage : (why : WantsError) → refused_as why ≡ ending.Usage → why ≡ Usage
refused_usage Usage same = refl
refused_usage NoMemory same = absurd (cc)

-- a call whose words weren't read ends as wrong words exactly where they ask for nothing
pub refused_right : (asked : Option Wanted) (answer : Result Wants WantsError) (why : WantsError)
    (end : Ending) → IsRead asked answer → answer ≡ Err why → end ≡ refused_as why
    → (end ≡ ending.Usage) ↔ (asked ≡ None)
refused_right asked answer why end read is ends = (
  (λ usage. read.usage.0 (is ∙ ap (λ (e : WantsError). Err e)
      (refused_usage why (sym ends ∙ usage)))),
  (λ none. ends ∙ ap refused_as (ap why_of (sym is ∙ read.usage.1 none))),
)

-- where they ask for something, there was no memory, and the disk wasn't opened
pub refused_ends : {S D : Type 0} (g : disk.Ghosts D) (asked : Option Wanted) (wanted : Wanted)
    (answer : Result Wants WantsError) (why : WantsError) (before : D) (outcome : Outcome D)
    (call : Call S) → IsRead asked answer → asked ≡ Some wanted → answer ≡ Err why
    → outcome.ending ≡ refused_as why → outcome.disk ≡ before → outcome.held ≡ 0
    → call.now.source ≡ call.before.source → call.now.outside ≡ call.before.outside
    → call.rows ≡ [] → EndsAs g wanted before outcome call
refused_ends g asked wanted answer Usage before outcome call read asks is ends same held unread quiet
    rows = absurd (let clash : None ≡ Some wanted = sym (read.usage.0 is) ∙ asks in cc)
refused_ends g asked wanted answer NoMemory before outcome call read asks is ends same held unread
    quiet rows =
    inr (inl record {
      unopened = is_unopened g before before mount.NoMemory outcome call
          (inl (unmoved_none g before), refl)
          (λ bytes told kept holds legal. (tt, inr (unmoved_none g before))) unread quiet rows same
          held ends;
      unaudited = λ audit. (ends, same);
    })
