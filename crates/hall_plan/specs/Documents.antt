-- Which bytes are plans.
use Rattle.std.specs.Prelude.{◌≡◌, ◌≤◌, ℕ, List, length, IsUtf8, Some}
use Rattle.toml.specs.Data.{Members}
use Rattle.toml.specs.Parse.{parse_document}
use Rattle.hall_plan.specs.declared.types.Plan.{Plan}
use Rattle.hall_plan.specs.declared.types.TheConstants.{MAX_PLAN}
use Rattle.hall_plan.specs.Plans.{plan_said}

-- a text in UTF-8 of at most 65 536 bytes
pub record IsShortText (bytes : List ℕ) : Type 0 where
  pub short : length bytes ≤ MAX_PLAN
  pub utf8 : IsUtf8 bytes

-- a short text that is a document in TOML, of this table
pub record IsDocument (bytes : List ℕ) (document : Members) : Type 0 where
  pub text : IsShortText bytes
  pub parsed : parse_document bytes ≡ Some document

-- a document that is a plan of so many lanes, and says this
pub record IsPlan (count : ℕ) (bytes : List ℕ) (plan : Plan) : Type 0 where
  pub document : Members
  pub is_document : IsDocument bytes document
  pub says : plan_said count document ≡ Some plan
