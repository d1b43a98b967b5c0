-- What `clap` makes of one word of an option with one value.
use Rattle.std.proofs.Common.{◌≡◌, ◌==◌, refl, subst, Bool, true, false, not, List, [], ◌∷◌, Option, Some, None}
use Rattle.std.specs.Str.{bytes_eq}
use Rattle.std.proofs.lemmas.Slice.Eq.{bytes_eq-Decides}
use Rattle.clap.specs.Lexer.{long_of, short_of}
use Rattle.clap.specs.Simple.{Shape, filled}
use Rattle.clap.specs.Walk.{Held, Rule, Row, Text, Walk, walk_from, walked, settled, reacted, used, arg_by_long, arg_by_id, has_row, option}
use Rattle.clap.specs.Takes.{turn_passes, settle_passes, react_passes, use_passes}
use Rattle.command_line.specs.Words.{stands_alone}
use Rattle.command_line.specs.Options.{rule_by}

-- an option as building leaves it
abbrev pub built_rule : Text → Rule
built_rule name = filled (rule_by true name)

abbrev pub dashes : Text
dashes = 45 ∷ 45 ∷ []

-- the option is the first of its name, by its long name and by its id
pub record Knows (shape : Shape) (name : Text) : Type 0 where
  pub long : arg_by_long shape.rules name ≡ Some (built_rule name)
  pub id : arg_by_id shape.rules name ≡ Some (built_rule name)
  pub same : bytes_eq name name ≡ true

-- a word with a name is more than two dashes
pub no_dashes : (word : Text) (found : Text × Option Text) → long_of word ≡ Some found
    → bytes_eq word dashes ≡ false
no_dashes word found is = go (bytes_eq word dashes) refl
  where
    go : (t : Bool) → bytes_eq word dashes ≡ t → t ≡ false
    go true same =
        let bad : None ≡ Some found = subst (λ (text : Text). long_of text ≡ Some found)
        ((bytes_eq-Decides word dashes).0 same) is in cc
    go false same = refl

-- where a walk stands behind a name that waits for its value
abbrev pub waits : Shape → Text → Held → Walk
waits shape name held =
    record (walk_from (record (settled shape.rules held) {
      pending = Some
          (name, []);
    })) { waiting = option name }

-- what is held behind the value
abbrev pub given : Shape → Text → Text → Held → Held
given shape name value held = record (settled shape.rules held) { pending = Some (name, value ∷ []) }

pub attached_walk : (shape : Shape) (name value word : Text) (held : Held) → Knows shape name
    → long_of word ≡ Some (name, Some value) → bytes_eq word dashes ≡ false
    → walked shape.rules [] (walk_from held) word ≡ walk_from (reacted shape.rules
    (built_rule name) (value ∷ []) held)
unfolding walked
attached_walk shape name value word held knows long plain = rw (plain, long, knows.long) refl

pub named_walk : (shape : Shape) (name word : Text) (held : Held) → Knows shape name
    → long_of word ≡ Some (name, None) → bytes_eq word dashes ≡ false
    → walked shape.rules [] (walk_from held) word ≡ waits shape name held
unfolding walked
named_walk shape name word held knows long plain = rw (plain, long, knows.long) refl

-- a word that is no flag
pub record IsPlain (word : Text) : Type 0 where
  pub dashes : bytes_eq word dashes ≡ false
  pub long : long_of word ≡ None
  pub short : short_of word ≡ None

pub plain_word : (word : Text) → stands_alone word ≡ true → IsPlain word
plain_word [] alone = cc
plain_word (byte ∷ word) alone = go (byte == 45) refl alone
  where
    go : (t : Bool) → (byte == 45) ≡ t → not t ≡ true → IsPlain (byte ∷ word)
    go true is h = cc
    go false is h = record { dashes = rw is refl; long = rw is refl; short = rw is refl }

pub value_walk : (shape : Shape) (name word : Text) (held : Held) → Knows shape name → IsPlain word
    → walked shape.rules [] (waits shape name held) word ≡ walk_from (given shape name word held)
unfolding walked
value_walk shape name word held knows plain = rw (
  plain.dashes,
  plain.long,
  plain.short,
  knows.id,
  knows.same,
) refl

pub attached_passes : (shape : Shape) (name value word : Text) (held : Held) → Knows shape name
    → long_of word ≡ Some (name, Some value) → bytes_eq word dashes ≡ false
    → react_passes shape.rules shape.args_override_self (built_rule name) (value ∷ []) held ≡ true
    → turn_passes shape [] (walk_from held) word ≡ true
attached_passes shape name value word held knows long plain passes = rw
    (plain, long, knows.long) rw passes refl

pub named_passes : (shape : Shape) (name word : Text) (held : Held) → Knows shape name
    → long_of word ≡ Some (name, None) → bytes_eq word dashes ≡ false
    → settle_passes shape.rules shape.args_override_self held ≡ true
    → turn_passes shape [] (walk_from held) word ≡ true
named_passes shape name word held knows long plain passes = rw (plain, long, knows.long) rw passes refl

pub value_passes : (shape : Shape) (name word : Text) (held : Held) → Knows shape name → IsPlain word
    → turn_passes shape [] (waits shape name held) word ≡ true
value_passes shape name word held knows plain = rw (plain.dashes, plain.long, plain.short) refl

-- a use of an option that wasn't used before passes
pub use_ok : (shape : Shape) (name value : Text) (rows : List Row) → has_row name rows ≡ false
    → use_passes shape.args_override_self (built_rule name) (value ∷ []) rows ≡ true
use_ok shape name value rows fresh = rw fresh refl

pub given_settles : (shape : Shape) (name value : Text) (held : Held) → Knows shape name
    → has_row name (settled shape.rules held).rows ≡ false
    → settle_passes shape.rules shape.args_override_self (given shape name value held) ≡ true
given_settles shape name value held knows fresh = rw knows.id (use_ok shape name value
    (settled shape.rules held).rows fresh)

pub given_rows : (shape : Shape) (name value : Text) (held : Held) → Knows shape name
    → (settled shape.rules (given shape name value held)).rows ≡ used (built_rule name)
    (value ∷ []) (settled shape.rules held).rows
given_rows shape name value held knows = rw knows.id refl
