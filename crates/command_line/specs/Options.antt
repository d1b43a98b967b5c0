-- What `clap` is told of the form of a command.
use Rattle.std.specs.Prelude.{ℕ, Bool, true, false, List, ◌++◌, map, Some, codes}
use Rattle.clap.specs.Simple.{App, new_app, new_rule, on_top}
use Rattle.clap.specs.Walk.{Rule}
use Rattle.clap.specs.declared.builder.action.ArgAction.TheVariants.{Set}
use Rattle.command_line.specs.Words.{Form}
use Rattle.command_line.specs.Words.{options, needed, places}

-- one value, whose name is spelled before it or not
abbrev pub rule_by : Bool → List ℕ → Rule
rule_by true name = record (new_rule name) { long = Some name; action = Some Set }
rule_by false name = record (new_rule name) { action = Some Set }

-- a command with a value more for each of these names
abbrev pub with_options : Bool → App → List (List ℕ) → App
with_options spelled app names =
    on_top (λ shape. record shape { rules = shape.rules ++ map (rule_by spelled) names }) app

-- a command without values, help flag or version, and without a program's name among the words
abbrev pub bare_app : App
bare_app = on_top (λ shape. record shape { no_binary_name = true; disable_help_flag = true })
    (new_app (codes "hall"))

-- a command with a value for each of these names
abbrev pub app_by : Bool → List (List ℕ) → App
app_by spelled names = with_options spelled bare_app names

abbrev pub app_for : Form → App
app_for (options names) = app_by true names
app_for (needed names) = app_by true names
app_for (places names) = app_by false names
