-- What is known of the end where no request is whole.
use Rattle.std.proofs.Common.{◌≡◌, ◌<◌, ℕ, Bool, true, false, List, length, subst}
use Rattle.office_wire.specs.declared.limits.TheConstants.{REQUEST_ROOM}
use Rattle.office_wire.specs.declared.types.Frame.TheVariants.{More, Nothing}
use Rattle.office_wire.specs.Frames.{IsFrame, TellsFrame}
use Rattle.office_wire.proofs.FrameLaws.{more_wanted, nothing_alone}
use Rattle.office_wire.proofs.FrameSteps.{told_more, told_nothing}

-- where a read is wanted there is room for it, and the end wasn't given
pub record Wants (bytes : List ℕ) (ended : Bool) : Type 0 where
  pub more : IsFrame bytes false More
  pub unended : ended ≡ false
  pub room : length bytes < REQUEST_ROOM

pub wants : (bytes : List ℕ) (ended : Bool) → TellsFrame bytes ended More → Wants bytes ended
wants bytes ended tells =
    let is = told_more bytes ended tells in
    let wanted = more_wanted bytes ended is in
    record {
      more = subst (λ (e : Bool). IsFrame bytes e More) wanted.1 is;
      unended = wanted.1;
      room = wanted.0;
    }

-- where none begins the end was given
pub ends_with_none : (bytes : List ℕ) (ended : Bool) → TellsFrame bytes ended Nothing
    → IsFrame bytes true Nothing × (ended ≡ true)
ends_with_none bytes ended tells =
    let is = told_nothing bytes ended tells in
    let end = (nothing_alone bytes ended is).0 in
    (subst (λ (e : Bool). IsFrame bytes e Nothing) end is, end)
