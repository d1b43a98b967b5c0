-- What building makes of a command with any options.
use Rattle.std.proofs.Common.{◌≡◌, ◌||◌, ℕ, ◌∙◌, ap, refl, Bool, true, false, List, [], ◌∷◌, Some, map, find, if◌then◌else◌}
use Rattle.std.specs.Prelude.{is_some, not, ◌&&◌}
use Rattle.std.specs.List.{list_all, list_any, fold}
use Rattle.std.specs.Str.{bytes_eq}
use Rattle.std.proofs.lemmas.Slice.Eq.{bytes_eq-Decides}
use Rattle.std.proofs.lemmas.List.{append-nil, append_assoc}
use Rattle.clap.specs.Simple.{App, Shape, built, filled_from, is_simple, with_rule}
use Rattle.clap.specs.Takes.{default_passes, is_valid}
use Rattle.clap.specs.Walk.{Held, Row, Rule, Text, finished, has_long, has_row, is_early_multiple, settled, with_default}
use Rattle.command_line.specs.Options.{app_by, rule_by, with_options}
use Rattle.command_line.specs.Words.{is_among}
use Rattle.command_line.proofs.OneWord.{Knows, built_rule}

abbrev pub shape_for : List Text → Shape
shape_for names = (built (app_by true names)).top

rules_built : (names : List Text) → filled_from 1 (map (rule_by true) names) ≡ map built_rule names
rules_built [] = refl
rules_built (name ∷ names) = ap (λ rules. built_rule name ∷ rules) (rules_built names)

-- ---- each option is known by its name

same_name : (name : Text) → bytes_eq name name ≡ true
same_name name = (bytes_eq-Decides name name).1 refl

found_by : (test : Rule → Bool) (names : List Text) (name : Text) → ((other : Text) → test
    (built_rule other) ≡ bytes_eq other name)
    → is_among names name ≡ true → find test (map built_rule names) ≡ Some (built_rule name)
found_by test [] name tests among = cc
found_by test (other ∷ names) name tests among = go (bytes_eq other name) refl among
    (found_by test names name tests)
  where
    go : (t : Bool) → bytes_eq other name ≡ t → (t || is_among names name) ≡ true
        → (is_among names name ≡ true → find test (map built_rule names) ≡ Some (built_rule name))
        → find test (map built_rule (other ∷ names)) ≡ Some (built_rule name)
    go true is h rest = rw (tests other, is) (ap (λ (text : Text). Some (built_rule text))
        ((bytes_eq-Decides other name).0 is))
    go false is h rest = rw (tests other, is) (rest h)

or_false : (t : Bool) → (t || false) ≡ t
or_false true = refl
or_false false = refl

pub knows : (names : List Text) (name : Text) → is_among names name ≡ true → Knows
    (shape_for names) name
knows names name among = record {
  long = rw (rules_built names) (found_by (λ a. not (is_some a.index) && has_long a name) names
      name (λ other. or_false (bytes_eq other name)) among);
  id = rw (rules_built names) (found_by (λ a. bytes_eq a.id name) names name (λ other. refl) among);
  same = same_name name;
}

-- ---- none has a default or a rule of its own

all_built : (test : Rule → Bool) → ((name : Text) → test (built_rule name) ≡ true) →
    (names : List Text) → list_all test (map built_rule names) ≡ true
all_built test passes [] = refl
all_built test passes (name ∷ names) = rw (passes name) (all_built test passes names)

no_multiple : (n : ℕ) (names : List Text) → list_any (is_early_multiple n)
    (map built_rule names) ≡ false
no_multiple n [] = refl
no_multiple n (name ∷ names) = no_multiple n names

all_told : (names : List Text)
    → list_all (λ (a : Rule). a.is_simple) (map (rule_by true) names) ≡ true
all_told [] = refl
all_told (name ∷ names) = all_told names

pub simple : (names : List Text) → is_simple (app_by true names) ≡ true
simple names = rw (
  rules_built names,
  all_told names,
  all_built (λ a. a.is_simple)
      (λ name. refl) names,
  no_multiple _ names,
) refl

pub defaults_pass : (names : List Text) → list_all default_passes (shape_for names).rules ≡ true
defaults_pass names = rw (rules_built names) (all_built default_passes (λ name. refl) names)

pub valid : (names : List Text) (rows : List Row) → is_valid (shape_for names) rows false ≡ true
valid names rows = rw (rules_built names, all_built (λ a. a.is_free) (λ name. refl) names)
    (all_built _ (λ name. refl) names)

either : {X : Type 0} (t : Bool) (x : X) → (if t then x else x) ≡ x
either true x = refl
either false x = refl

no_defaults : (names : List Text) (rows : List Row) → fold with_default rows
    (map built_rule names) ≡ rows
no_defaults [] rows = refl
no_defaults (name ∷ names) rows =
    ap (λ left. fold with_default left (map built_rule names)) (either (has_row name rows) rows)
    ∙ no_defaults names rows

pub finished_as : (names : List Text) (held : Held) → finished (shape_for names).rules held ≡
    (settled (shape_for names).rules held).rows
finished_as names held =
    let rows = (settled (shape_for names).rules held).rows in
    ap (λ rules. fold with_default rows rules) (rules_built names) ∙ no_defaults names rows

-- ---- one value after another

pub values_none : (spelled : Bool) (app : App) → with_options spelled app [] ≡ app
values_none spelled app = λ i. record app {
  top = record app.top {
    rules = append-nil app.top.rules i;
  };
}

pub values_more : (spelled : Bool) (app : App) (name : Text) (names : List Text)
    → with_options spelled (with_rule app (rule_by spelled name)) names
    ≡ with_options spelled app (name ∷ names)
values_more spelled app name names = λ i. record app {
  top = record app.top {
    rules = append_assoc
        app.top.rules (rule_by spelled name ∷ []) (map (rule_by spelled) names) i;
  };
}
