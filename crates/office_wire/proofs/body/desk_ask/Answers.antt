use Rattle.std.proofs.Common.{◌≡◌, ◌∙◌, sym, ap, refl, subst, List, ℕ, Bool, true, false, Some, None}
use Rattle.std.specs.Prelude.{if◌then◌else◌, IsUtf8}
use Rattle.std.specs.Option.{option_and_then}
use Rattle.std.specs.Str.{is_utf8}
use Rattle.std.proofs.lemmas.Str.{IsUtf8-from_is_utf8, is_utf8-from_IsUtf8}
use Rattle.serde_json.specs.Data.{Data}
use Rattle.serde_json.specs.Read.{read}
use Rattle.serde_json.specs.View.{view}
use Rattle.office_wire.specs.Acts.{ask_of, desk_ask}
use Rattle.office_wire.proofs.body.desk_ask.Goals as goal

-- bytes that aren't a text are no act
no_ask : (body : List ℕ) → ¬ (IsUtf8 body) → None ≡ desk_ask body
no_ask body not = by_test (is_utf8 body) refl where
  by_test : (test : Bool) → is_utf8 body ≡ test
      → None ≡ option_and_then ask_of (if test then read body else None)
  by_test true is = absurd (not (IsUtf8-from_is_utf8 body is))
  by_test false is = refl

-- the act of a text is that of its JSON
this_ask : (body : List ℕ) (json : Data) → IsUtf8 body → read body ≡ Some json
    → ask_of json ≡ desk_ask body
this_ask body json is reads =
    sym (ap (λ test. option_and_then ask_of (if test then read body else None))
    (is_utf8-from_IsUtf8 body is)
    ∙ ap (option_and_then ask_of) reads)

pub returns-in_default : goal.returns-in_default
returns-in_default c = no_ask c.args.body.now c.in_default.ensures.cases.0

pub returns-in-Ok-from_str : goal.returns-in-Ok-from_str
returns-in-Ok-from_str c =
    c.ask_of.ensures ∙ this_ask c.args.body.now (view c.in-Ok-from_str.json) c.in-Ok.ensures.cases.1
    (subst (λ text. read text ≡ Some (view c.in-Ok-from_str.json)) c.in-Ok.ensures.cases.0
    c.in-Ok-from_str.ensures.ok)
