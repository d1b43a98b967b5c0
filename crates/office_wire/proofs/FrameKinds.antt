-- A frame is of one kind.
use Rattle.std.proofs.Common.{◌≡◌, Bool, true, false, sym, ap}
use Rattle.std.proofs.lemmas.Bool.{true≢false}
use Rattle.office_wire.specs.declared.types.Framed.{Framed}
use Rattle.office_wire.specs.declared.types.Frame.{Frame}
use Rattle.office_wire.specs.declared.types.Frame.TheVariants.{Whole, More, Nothing}

abbrev is_whole : Frame → Bool
is_whole (Whole framed) = true
is_whole More = false
is_whole Nothing = false

abbrev is_more : Frame → Bool
is_more (Whole framed) = false
is_more More = true
is_more Nothing = false

pub more_not_whole : (framed : Framed) → More ≡ Whole framed → ⊥
more_not_whole framed is = true≢false (sym (ap is_whole is))

pub nothing_not_whole : (framed : Framed) → Nothing ≡ Whole framed → ⊥
nothing_not_whole framed is = true≢false (sym (ap is_whole is))

pub whole_not_more : (framed : Framed) → Whole framed ≡ More → ⊥
whole_not_more framed is = true≢false (ap is_whole is)

pub nothing_not_more : Nothing ≡ More → ⊥
nothing_not_more is = true≢false (sym (ap is_more is))

-- the request of a frame
abbrev framed_or : Framed → Frame → Framed
framed_or other (Whole framed) = framed
framed_or other More = other
framed_or other Nothing = other

pub same_framed : (a b : Framed) → Whole a ≡ Whole b → a ≡ b
same_framed a b is = ap (framed_or a) is
