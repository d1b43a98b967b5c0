-- What `clap` answers to the words of the grammar.
use Rattle.std.proofs.Common.{if◌then◌else◌, ◌≡◌, ◌∙◌, ap, sym, subst, refl, Bool, true, false, List, [], Option, Some, None}
use Rattle.std.specs.Prelude.{⊤}
use Rattle.std.specs.List.{list_all}
use Rattle.std.specs.Option.{option_and_then}
use Rattle.clap.proofs.WalkLemmas.{first_value-rows}
use Rattle.clap.specs.Matches.{first_value, found_of}
use Rattle.clap.specs.declared.parser.matches.ArgMatches.{ArgMatches}
use Rattle.clap.specs.Simple.{App, HasMatchesOf, built, names_of as subcommands_of}
use Rattle.clap.specs.Takes.{built_takes, default_passes, is_valid, settle_passes, takes}
use Rattle.clap.specs.Walk.{Held, Row, Text, finished, first_of, nothing_held, walk_from}
use Rattle.command_line.specs.declared.types.Command.{Command}
use Rattle.command_line.specs.Options.{app_by, app_for}
use Rattle.command_line.specs.Words.{Form, Item, are_given, are_taken, form_of, items_in, options, needed, places}
use Rattle.command_line.specs.Words.{given_items, read_items, taken_items, value_of}
use Rattle.command_line.specs.declared.types.Command.TheVariants.{Run, Serve, Report, Export, Check}
use Rattle.command_line.specs.declared.types.Command.TheVariants.{Import, Trial, Migrate, Ship, Follow}
use Rattle.command_line.specs.declared.types.Command.TheVariants.{Paper, Prove, Audit, Acts}
use Rattle.command_line.specs.declared.types.Command.TheVariants as verb
use Rattle.command_line.proofs.ManyOptions.{defaults_pass, finished_as, shape_for, simple, valid}
use Rattle.command_line.proofs.Rows.{first_given}
use Rattle.command_line.proofs.ClapPlaces.{ClapReads, two, two_placed}
use Rattle.command_line.proofs.ClapWalks.{Reads, Walks, both, reads_all}

built_ok : (app : App) (words : List Text) (end : Held) → subcommands_of app ≡ [] → Walks app.top
    (walk_from nothing_held) words end
    → settle_passes app.top.rules app.top.args_override_self end ≡ true
    → list_all default_passes app.top.rules ≡ true
    → ((rows : List Row) → is_valid app.top rows false ≡ true)
    → built_takes app nothing_held words ≡ true
built_ok app words end names walks settles defaults valid =
    rw (names, walks.ends) (both walks.passes (both settles (both defaults (valid
    (finished app.top.rules end)))))

options_read : (names : List Text) (words : List Text) (items : List Item)
    → Reads names nothing_held words items → ClapReads (app_by true names) words items
options_read names words items reads = record {
  simple = simple names;
  takes = both (simple names)
      (built_ok (built (app_by true names)) words reads.end refl reads.walks reads.settles
      (defaults_pass names) (valid names));
  rows = ap (λ walk. finished (shape_for names).rules walk.held) reads.walks.ends
      ∙ finished_as names reads.end ∙ reads.rows;
}

-- the words of a form
abbrev FormReads : Form → Type 0
FormReads form = (words : List Text) (items : List Item) → items_in form words ≡ Some items
    → ClapReads (app_for form) words items

by_taken : (names words : List Text) (items : List Item) (left : Option (List Item))
    → read_items None words ≡ left → option_and_then (taken_items names) left ≡ Some items
    → ClapReads (app_by true names) words items
by_taken names words items None reads is = cc
by_taken names words items (Some found) reads is = go (are_taken names found) refl is
  where
    go : (t : Bool) → are_taken names found ≡ t → (if t then Some found else None) ≡ Some items
        → ClapReads (app_by true names) words items
    go false taken here = cc
    go true taken here =
        let same : found ≡ items = cc in
        options_read names words items (reads_all names words nothing_held items
        (reads ∙ ap (λ (list : List Item). Some list) same)
        (subst (λ (list : List Item). are_taken names list ≡ true) same taken) refl refl)

by_options : (names : List Text) → FormReads (options names)
by_options names = λ words items is. by_taken names words items (read_items None words) refl is

-- what is left of items behind a test is these items
by_given : (names words : List Text) (items : List Item) (left : Option (List Item))
    → option_and_then (taken_items names) (read_items None words) ≡ left
    → option_and_then (given_items names) left ≡ Some items
    → ClapReads (app_by true names) words items
by_given names words items None taken is = cc
by_given names words items (Some found) taken is = go (are_given names found) is
  where
    go : (t : Bool) → (if t then Some found else None) ≡ Some items
        → ClapReads (app_by true names) words items
    go false here = cc
    go true here =
        by_options names words items (taken ∙ ap (λ (list : List Item). Some list) cc)

by_needed : (names : List Text) → FormReads (needed names)
by_needed names = λ words items is.
    by_given names words items (option_and_then (taken_items names) (read_items None words)) refl is

-- options have any names; the words of a form without options are two
abbrev IsKnown : Form → Type 0
IsKnown (options names) = ⊤
IsKnown (needed names) = ⊤
IsKnown (places names) = names ≡ two

is_known : (command : Command) → IsKnown (form_of command)
is_known Run = tt
is_known Serve = tt
is_known Report = tt
is_known Export = tt
is_known Check = tt
is_known Import = tt
is_known Trial = refl
is_known Migrate = tt
is_known Ship = tt
is_known Follow = tt
is_known Paper = tt
is_known Prove = tt
is_known verb.List = tt
is_known Audit = tt
is_known Acts = tt

by_known : (form : Form) → IsKnown form → FormReads form
by_known (options names) known = by_options names
by_known (needed names) known = by_needed names
by_known (places names) known =
    subst (λ (list : List Text). FormReads (places list)) (sym known) two_placed

by_form : (command : Command) → FormReads (form_of command)
by_form command = by_known (form_of command) (is_known command)

-- a command that was built as told, and the matches that a parse gave: each name has the value that
-- the items give it
pub matches_give : (command : Command) (words : List Text) (app : App) (matches : ArgMatches)
    → app ≡ app_for (form_of command) → HasMatchesOf app words matches
    → (items : List Item) → items_in (form_of command) words ≡ Some items
    → first_value (found_of matches) ≡ value_of items
matches_give command words app matches told has items is =
    let reads = by_form command words items is in
    let has_rows = (subst (λ (a : App). HasMatchesOf a words matches) told has reads.simple).0 in
    let each : (name : Text) → first_value (found_of matches) name ≡ value_of items name =
    λ name. first_value-rows (found_of matches) name ∙ ap (first_of name) (has_rows ∙ reads.rows)
    ∙ first_given name items in
    (λ i. (λ (name : Text). each name i))

pub takes_items : (command : Command) (words : List Text) (app : App)
    → app ≡ app_for (form_of command)
    → (items : List Item) → items_in (form_of command) words ≡ Some items → takes app words ≡ true
takes_items command words app told items is = rw told (by_form command words items is).takes
