-- Which bytes are a request, which fault of form it has first, and what it asks. `ended` says that
-- the input has no more bytes. Behind a response that is last no byte is read.
use Rattle.std.specs.Prelude.{◌≡◌, ℕ, ◌+◌, ◌<◌, ◌≤◌, ◌⊎◌, Bool, true, false, ◌||◌, ◌==◌, List, [], length, take, drop, map, if◌then◌else◌, nat_le, Option, Some, None, Result, Ok, Err, codes}
use Rattle.std.specs.List.{list_all}
use Rattle.std.specs.Option.{unwrap_or}
use Rattle.std.specs.Str.{bytes_eq}
use Rattle.httparse.specs.Grammar.{RequestHead, ReadsRequest}
use Rattle.httparse.specs.Spans.{name_and_value}
use Rattle.book_words.specs.declared.act.Ask.{Ask}
use Rattle.book_words.specs.declared.act.Question.{Question}
use Rattle.book_words.specs.declared.act.Want.{Want}
use Rattle.book_words.specs.declared.act.Want.TheVariants as want
use Rattle.office_wire.specs.declared.limits.TheConstants.{MAX_HEAD, MAX_HEADERS, MAX_BODY}
use Rattle.office_wire.specs.declared.types.Bad.{Bad}
use Rattle.office_wire.specs.declared.types.Bad.TheVariants as bad
use Rattle.office_wire.specs.declared.types.Route.{Route}
use Rattle.office_wire.specs.declared.types.Route.TheVariants as route
use Rattle.office_wire.specs.declared.types.OfficeAsk.{OfficeAsk}
use Rattle.office_wire.specs.declared.types.OfficeAsk.TheVariants as asked
use Rattle.office_wire.specs.declared.types.Frame.{Frame}
use Rattle.office_wire.specs.declared.types.Frame.TheVariants.{Whole, More, Nothing}
use Rattle.office_wire.specs.HeadSize.{is_newline, head_size}
use Rattle.office_wire.specs.Headers.{Header, is_coded, is_closing, size_given}
use Rattle.office_wire.specs.Acts.{desk_ask}
use Rattle.office_wire.specs.Routes.{route_of}

-- ---- what is asked

-- a question is asked as desk 0, request 0
abbrev pub question_ask : Question → Ask
question_ask question =
    record { desk = 0; request = 0; want = want.Question question }

-- what the body of an act asks
abbrev pub body_ask : Option Ask → OfficeAsk
body_ask None = asked.Bad bad.Body
body_ask (Some ask) = asked.Ask ask

-- what an act with this length and this body asks
abbrev pub act_ask : Option ℕ → List ℕ → OfficeAsk
act_ask None body = asked.Bad bad.NoLength
act_ask (Some size) body = body_ask (desk_ask body)

-- what is asked at a route by a method, with this length and this body
abbrev pub office_ask : Option Route → List ℕ → Option ℕ → List ℕ → OfficeAsk
office_ask None method given body = asked.Bad bad.Path
office_ask (Some route.Acts) method given body =
    if bytes_eq method (codes "POST") then act_ask given body
    else asked.Bad (bad.Method true)
office_ask (Some (route.Question question)) method given body =
    if bytes_eq method (codes "GET") then asked.Ask (question_ask question)
    else asked.Bad (bad.Method false)

-- ---- the head

-- a text is this head, with no more headers than there may be; where there is none it isn't one
abbrev pub IsHeadOf : List ℕ → Option RequestHead → Type 0
IsHeadOf text (Some head) = ReadsRequest text head [] × (length head.fields ≤ MAX_HEADERS)
IsHeadOf text None =
    (head : RequestHead) → ReadsRequest text head [] → MAX_HEADERS < length head.fields

-- the headers of a head
abbrev pub headers_of : RequestHead → List Header
headers_of head = map name_and_value head.fields

-- the connection ends behind the response
abbrev pub is_last : RequestHead → Bool
is_last head = head.minor == 0 || is_closing (headers_of head)

-- a length that a body may have
abbrev pub allowed_size : Option (Option ℕ) → Result (Option ℕ) Bad
allowed_size None = Err bad.Length
allowed_size (Some None) = Ok None
allowed_size (Some (Some size)) = if nat_le size MAX_BODY then Ok (Some size) else Err bad.Large

-- the length of the body, where one is given, or what is wrong with it
abbrev pub size_of : List Header → Result (Option ℕ) Bad
size_of headers = if is_coded headers then Err bad.Coding else allowed_size (size_given headers)

-- how many bytes the body has: none without a length
abbrev pub body_size : Option ℕ → ℕ
body_size given = unwrap_or given 0

-- ---- the request

-- a fault of so many bytes, behind which the connection ends
abbrev pub last_fault : ℕ → Bad → Frame
last_fault taken fault =
    Whole (record { taken = taken; what = asked.Bad fault; last = true })

-- the request of a head of so many bytes and of its body
abbrev pub whole_request : RequestHead → ℕ → Option ℕ → List ℕ → Frame
whole_request head size given body = Whole (record {
  taken = size + length body;
  what = office_ask (route_of head.target) head.method given body;
  last = is_last head;
})

-- a head of so many bytes, and behind it a part of its body
abbrev pub part_of_body : ℕ → List ℕ → Bool → Frame
part_of_body size rest true = last_fault (size + length rest) bad.Short
part_of_body size rest false = More

-- a head of so many bytes, and the bytes behind it
abbrev pub frame_by_size : Result (Option ℕ) Bad → RequestHead → ℕ → List ℕ → Bool → Frame
frame_by_size (Err fault) head size rest ended = last_fault size fault
frame_by_size (Ok given) head size rest ended =
    if nat_le (body_size given) (length rest)
    then whole_request head size given (take (body_size given) rest)
    else part_of_body size rest ended

-- a head text of so many bytes, by the head that it is, and the bytes behind it
abbrev pub frame_by_head : Option RequestHead → ℕ → List ℕ → Bool → Frame
frame_by_head None size rest ended = last_fault size bad.Head
frame_by_head (Some head) size rest ended =
    frame_by_size (size_of (headers_of head)) head size rest ended

-- bytes at the end of the input that hold no head text
abbrev pub frame_at_end : List ℕ → Frame
frame_at_end bytes =
    if list_all is_newline bytes then Nothing else last_fault (length bytes) bad.Head

-- bytes that hold no head text where one would have to be
abbrev pub frame_without_head : List ℕ → Bool → Frame
frame_without_head bytes ended =
    if nat_le MAX_HEAD (length bytes) then last_fault MAX_HEAD bad.Head
    else (if ended then frame_at_end bytes
    else More)

-- a head text and the bytes behind it
abbrev pub IsSplitFrame : List ℕ → List ℕ → Bool → Frame → Type 0
IsSplitFrame text rest ended frame =
    (head : Option RequestHead) × IsHeadOf text head
    × (frame ≡ frame_by_head head (length text) rest ended)

-- bytes whose head text has so many bytes, where they hold one
abbrev pub IsFrameWithHead : Option ℕ → List ℕ → Bool → Frame → Type 0
IsFrameWithHead None bytes ended frame = frame ≡ frame_without_head bytes ended
IsFrameWithHead (Some size) bytes ended frame =
    IsSplitFrame (take size bytes) (drop size bytes) ended frame

-- what bytes begin with; a head text lies within the first 8 192 of them
abbrev pub IsFrame : List ℕ → Bool → Frame → Type 0
IsFrame bytes ended frame = IsFrameWithHead (head_size (take MAX_HEAD bytes)) bytes ended frame

-- ---- want of memory

-- an ask that is told without memory: an act isn't read
abbrev pub ask_without_memory : Ask → Want → OfficeAsk
ask_without_memory ask (want.Act act) = asked.NoMemory
ask_without_memory ask (want.Question question) = asked.Ask ask

-- what is told without memory: a question is told, and so is a fault that needs no body
abbrev pub without_memory : OfficeAsk → OfficeAsk
without_memory (asked.Ask ask) = ask_without_memory ask ask.want
without_memory (asked.Bad bad.Body) = asked.NoMemory
without_memory told = told

-- what is asked may be told so: as it is, or without memory
abbrev pub MayTell : OfficeAsk → OfficeAsk → Type 0
MayTell meant told = (told ≡ meant) ⊎ (told ≡ without_memory meant)

-- a frame may be told so: only what is asked is told without memory
abbrev pub MayFrame : Frame → Frame → Type 0
MayFrame (Whole framed) told =
    (what : OfficeAsk) × MayTell framed.what what × (told ≡ Whole (record framed { what = what }))
MayFrame frame told = told ≡ frame

-- a head text and the bytes behind it, as they may be told
abbrev pub TellsSplitFrame : List ℕ → List ℕ → Bool → Frame → Type 0
TellsSplitFrame text rest ended told =
    (frame : Frame) × IsSplitFrame text rest ended frame × MayFrame frame told

-- what bytes begin with, as it may be told
abbrev pub TellsFrame : List ℕ → Bool → Frame → Type 0
TellsFrame bytes ended told = (frame : Frame) × IsFrame bytes ended frame × MayFrame frame told

-- ---- want of memory for the routes

-- what is asked may be told so with routes or without: without them, that there was no memory
abbrev pub MayTellRouted : Bool → OfficeAsk → OfficeAsk → Type 0
MayTellRouted routed meant told = MayTell meant told ⊎ ((routed ≡ false) × (told ≡ asked.NoMemory))

-- a frame may be told so with routes or without
abbrev pub MayFrameRouted : Bool → Frame → Frame → Type 0
MayFrameRouted routed (Whole framed) told =
    (what : OfficeAsk) × MayTellRouted routed framed.what what
    × (told ≡ Whole (record framed { what = what }))
MayFrameRouted routed frame told = told ≡ frame

-- a head text and the bytes behind it, as they may be told with routes or without
abbrev pub TellsSplitRoutedFrame : Bool → List ℕ → List ℕ → Bool → Frame → Type 0
TellsSplitRoutedFrame routed text rest ended told =
    (frame : Frame) × IsSplitFrame text rest ended frame × MayFrameRouted routed frame told

-- what bytes begin with, as it may be told with routes or without
abbrev pub TellsRoutedFrame : Bool → List ℕ → Bool → Frame → Type 0
TellsRoutedFrame routed bytes ended told =
    (frame : Frame) × IsFrame bytes ended frame × MayFrameRouted routed frame told
