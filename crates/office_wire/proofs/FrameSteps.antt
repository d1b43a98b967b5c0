-- What each part of a frame tells is told of the whole.
use Rattle.std.proofs.Common.{◌≡◌, ℕ, ◌+◌, Bool, true, false, List, length, take, drop, nat_le, Option, Some, None, Result, Ok, Err, if◌then◌else◌, refl, sym, ap, subst, ◌∙◌, inl, inr, true≢false}
use Rattle.httparse.specs.Grammar.{RequestHead}
use Rattle.office_wire.specs.declared.limits.TheConstants.{MAX_HEAD}
use Rattle.office_wire.specs.declared.types.Bad.{Bad}
use Rattle.office_wire.specs.declared.types.Bad.TheVariants as bad
use Rattle.office_wire.specs.declared.types.OfficeAsk.{OfficeAsk}
use Rattle.office_wire.specs.declared.types.Framed.{Framed}
use Rattle.office_wire.specs.declared.types.Frame.{Frame}
use Rattle.office_wire.specs.declared.types.Frame.TheVariants.{Whole, More, Nothing}
use Rattle.office_wire.specs.declared.request_heads.Said.{Said}
use Rattle.office_wire.specs.HeadSize.{head_size}
use Rattle.office_wire.specs.Routes.{route_of}
use Rattle.office_wire.specs.Frames.{IsFrame, IsFrameWithHead, IsSplitFrame, IsHeadOf, MayTell, MayFrame, MayTellRouted, MayFrameRouted, TellsFrame, TellsRoutedFrame, TellsSplitRoutedFrame, office_ask, body_size, last_fault, whole_request, part_of_body, frame_by_size, frame_by_head, frame_without_head}
use Rattle.office_wire.specs.HeadParts.{Says, SaysHeadOf}
use Rattle.office_wire.proofs.FrameKinds.{more_not_whole, nothing_not_whole, whole_not_more, nothing_not_more, same_framed}

-- a frame may be told as it is
pub told_same : (routed : Bool) (frame told : Frame) → told ≡ frame → MayFrameRouted routed frame told
told_same routed (Whole framed) told is = (framed.what, inl (inl refl), is)
told_same routed More told is = is
told_same routed Nothing told is = is

-- bytes that hold no head text
pub tells_without_head : (routed : Bool) (bytes : List ℕ) (ended : Bool) (told : Frame)
    → head_size (take MAX_HEAD bytes) ≡ None → told ≡ frame_without_head bytes ended
    → TellsRoutedFrame routed bytes ended told
tells_without_head routed bytes ended told none is = (
  frame_without_head bytes ended,
  subst (λ found. IsFrameWithHead found bytes ended (frame_without_head bytes ended)) (sym none) refl,
  told_same routed (frame_without_head bytes ended) told is,
)

-- bytes that hold one
pub tells_with_head : (routed : Bool) (bytes text rest : List ℕ) (size : ℕ) (ended : Bool) (told : Frame)
    → head_size (take MAX_HEAD bytes) ≡ Some size → text ≡ take size bytes → rest ≡ drop size bytes
    → TellsSplitRoutedFrame routed text rest ended told → TellsRoutedFrame routed bytes ended told
tells_with_head routed bytes text rest size ended told found front back tells = (
  tells.0,
  subst (λ place. IsFrameWithHead place bytes ended tells.0) (sym found)
      (subst (λ (t : List ℕ). IsSplitFrame t (drop size bytes) ended tells.0) front
      (subst (λ (r : List ℕ). IsSplitFrame text r ended tells.0) back tells.1)),
  tells.2,
)

-- a head text that isn't a head
pub tells_no_head : (routed : Bool) (text rest : List ℕ) (ended : Bool) (told : Frame)
    → IsHeadOf text None → told ≡ last_fault (length text) bad.Head
    → TellsSplitRoutedFrame routed text rest ended told
tells_no_head routed text rest ended told none is = (
  last_fault (length text) bad.Head,
  (None, none, refl),
  told_same routed (last_fault (length text) bad.Head) told is,
)

-- a head text that is one
pub tells_head : (routed : Bool) (text rest : List ℕ) (ended : Bool) (told : Frame) (said : Said)
    → SaysHeadOf text said
    → ((head : RequestHead) → Says said head
    → MayFrameRouted routed (frame_by_size said.size head (length text) rest ended) told)
    → TellsSplitRoutedFrame routed text rest ended told
tells_head routed text rest ended told said of tells = (
  frame_by_head (Some of.0) (length text) rest ended,
  (Some of.0, of.1, refl),
  subst (λ size. MayFrameRouted routed (frame_by_size size of.0 (length text) rest ended) told) of.2.size
      (tells of.0 of.2),
)

-- a fault of the headers
pub tells_fault : (routed : Bool) (said : Result (Option ℕ) Bad) (fault : Bad) (head : RequestHead) (size : ℕ)
    (rest : List ℕ) (ended : Bool) (told : Frame)
    → said ≡ Err fault → told ≡ last_fault size fault
    → MayFrameRouted routed (frame_by_size said head size rest ended) told
tells_fault routed said fault head size rest ended told is same =
    subst (λ s. MayFrameRouted routed (frame_by_size s head size rest ended) told) (sym is)
    (told_same routed (last_fault size fault) told same)

-- a body that is there
pub tells_whole : (routed : Bool) (said : Result (Option ℕ) Bad) (given : Option ℕ) (head : RequestHead) (size : ℕ)
    (rest body : List ℕ) (ended : Bool) (told : Frame)
    → said ≡ Ok given → nat_le (body_size given) (length rest) ≡ true
    → body ≡ take (body_size given) rest
    → MayFrameRouted routed (whole_request head size given body) told
    → MayFrameRouted routed (frame_by_size said head size rest ended) told
tells_whole routed said given head size rest body ended told is there front tells =
    subst (λ s. MayFrameRouted routed (frame_by_size s head size rest ended) told) (sym is)
    (subst (λ all. MayFrameRouted routed (if all then whole_request head size given (take (body_size given) rest)
    else part_of_body size rest ended) told) (sym there)
    (subst (λ (b : List ℕ). MayFrameRouted routed (whole_request head size given b) told) front tells))

-- a body that isn't there
pub tells_part : (routed : Bool) (said : Result (Option ℕ) Bad) (given : Option ℕ) (head : RequestHead) (size : ℕ)
    (rest : List ℕ) (ended : Bool) (told : Frame)
    → said ≡ Ok given → nat_le (body_size given) (length rest) ≡ false
    → told ≡ part_of_body size rest ended
    → MayFrameRouted routed (frame_by_size said head size rest ended) told
tells_part routed said given head size rest ended told is there same =
    subst (λ s. MayFrameRouted routed (frame_by_size s head size rest ended) told) (sym is)
    (subst (λ all. MayFrameRouted routed (if all then whole_request head size given (take (body_size given) rest)
    else part_of_body size rest ended) told) (sym there)
    (told_same routed (part_of_body size rest ended) told same))

-- a request
pub tells_request : (routed : Bool) (said : Said) (head : RequestHead) (size : ℕ) (given : Option ℕ) (body : List ℕ)
    (what : OfficeAsk) (told : Frame)
    → Says said head → MayTellRouted routed (office_ask (route_of said.target.now) said.method.now given body) what
    → told ≡ Whole (record { taken = size + length body; what = what; last = said.last })
    → MayFrameRouted routed (whole_request head size given body) told
tells_request routed said head size given body what told says asks is = (
  what,
  subst (λ (method : List ℕ). MayTellRouted routed (office_ask (route_of head.target) method given body) what)
      says.method
      (subst (λ (target : List ℕ). MayTellRouted routed (office_ask (route_of target) said.method.now given body)
      what) says.target asks),
  is ∙ (λ i. Whole (record { taken = size + length body; what = what; last = says.last i })),
)

-- ---- with routes and without

-- with routes it is told as `MayFrame` says
pub may_routed : (frame told : Frame) → MayFrameRouted true frame told → MayFrame frame told
may_routed (Whole framed) told (what, inl may, is) = (what, may, is)
may_routed (Whole framed) told (what, inr none, is) = absurd (true≢false none.0)
may_routed More told is = is
may_routed Nothing told is = is

-- what is told with routes may also be told without
pub may_unrouted : (frame told : Frame) → MayFrameRouted true frame told → MayFrameRouted false frame told
may_unrouted (Whole framed) told (what, inl may, is) = (what, inl may, is)
may_unrouted (Whole framed) told (what, inr none, is) = absurd (true≢false none.0)
may_unrouted More told is = is
may_unrouted Nothing told is = is

-- ---- what is told is what bytes begin with

-- a request that is told
pub record IsTold (bytes : List ℕ) (ended : Bool) (told : Framed) : Type 0 where
  pub meant : Framed
  pub is : IsFrame bytes ended (Whole meant)
  pub taken : told.taken ≡ meant.taken
  pub last : told.last ≡ meant.last
  pub what : MayTell meant.what told.what

pub told_whole : (bytes : List ℕ) (ended : Bool) (told : Framed)
    → TellsFrame bytes ended (Whole told) → IsTold bytes ended told
told_whole bytes ended told tells = by tells.0 tells.1 tells.2 where
  by : (frame : Frame) → IsFrame bytes ended frame → MayFrame frame (Whole told)
      → IsTold bytes ended told
  by (Whole meant) is may =
      let same = same_framed told (record meant { what = may.0 }) may.2 in record {
        meant = meant;
        is = is;
        taken = ap (λ (f : Framed). f.taken) same;
        last = ap (λ (f : Framed). f.last) same;
        what = subst (λ what. MayTell meant.what what) (sym (ap (λ (f : Framed). f.what) same))
            may.1;
      }
  by More is may = absurd (whole_not_more told may)
  by Nothing is may = absurd (nothing_not_whole told (sym may))

pub told_more : (bytes : List ℕ) (ended : Bool) → TellsFrame bytes ended More
    → IsFrame bytes ended More
told_more bytes ended tells = by tells.0 tells.1 tells.2 where
  by : (frame : Frame) → IsFrame bytes ended frame → MayFrame frame More → IsFrame bytes ended More
  by (Whole meant) is may = absurd (more_not_whole (record meant { what = may.0 }) may.2)
  by More is may = is
  by Nothing is may = absurd (nothing_not_more (sym may))

pub told_nothing : (bytes : List ℕ) (ended : Bool) → TellsFrame bytes ended Nothing
    → IsFrame bytes ended Nothing
told_nothing bytes ended tells = by tells.0 tells.1 tells.2 where
  by : (frame : Frame) → IsFrame bytes ended frame → MayFrame frame Nothing
      → IsFrame bytes ended Nothing
  by (Whole meant) is may = absurd (nothing_not_whole (record meant { what = may.0 }) may.2)
  by More is may = absurd (nothing_not_more may)
  by Nothing is may = is
