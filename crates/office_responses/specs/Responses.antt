-- The responses of the office: a head, whose lines end in CR LF, and a body.
use Rattle.std.specs.Prelude.{ℕ, Bool, true, false, List, [], ◌++◌, length, if◌then◌else◌, codes, decimal, Result, Ok, Err}
use Rattle.book_words.specs.declared.caller.AskError.{AskError}
use Rattle.book_words.specs.declared.caller.AskError.TheVariants.{Refused, DiskFault, NoMemory}
use Rattle.book_words.specs.declared.reply.Answered.{Answered}
use Rattle.book_words.specs.declared.reply.Refused as refusals
use Rattle.book_words.specs.declared.reply.Reply.{Reply}
use Rattle.book_words.specs.declared.reply.Reply.TheVariants as reply
use Rattle.book_words.specs.Numbers.{refusal_number, refusal_name}
use Rattle.book_words.specs.Soundness.{IsAnswer, IsRefusal}
use Rattle.batch_reports.specs.Texts.{verdict_text, kept_text, reply_text}
use Rattle.office_wire.specs.declared.types.Bad.{Bad}
use Rattle.office_wire.specs.declared.types.Bad.TheVariants as bad
use Rattle.office_responses.specs.declared.types.Status.{Status}
use Rattle.office_responses.specs.declared.types.Status.TheVariants as status
use Rattle.office_responses.specs.declared.types.Media.{Media}
use Rattle.office_responses.specs.declared.types.Media.TheVariants.{Json, Plain, Octets}
use Rattle.office_responses.specs.declared.types.Extra.{Extra}
use Rattle.office_responses.specs.declared.types.Extra.TheVariants.{Nothing, BookRow, Allow}
use Rattle.office_responses.specs.declared.types.Head.{Head}

-- ---- heads

-- the code of a status and its phrase
abbrev pub status_text : Status → List ℕ
status_text status.Ok = codes "200 OK"
status_text status.BadRequest = codes "400 Bad Request"
status_text status.NotFound = codes "404 Not Found"
status_text status.MethodNotAllowed = codes "405 Method Not Allowed"
status_text status.Conflict = codes "409 Conflict"
status_text status.LengthRequired = codes "411 Length Required"
status_text status.PayloadTooLarge = codes "413 Payload Too Large"
status_text status.InternalServerError = codes "500 Internal Server Error"
status_text status.ServiceUnavailable = codes "503 Service Unavailable"

-- the type of a body
abbrev pub media_text : Media → List ℕ
media_text Json = codes "application/json"
media_text Plain = codes "text/plain"
media_text Octets = codes "application/octet-stream"

-- a method that a route takes
abbrev pub method_text : Bool → List ℕ
method_text true = codes "POST"
method_text false = codes "GET"

-- a line of a head
abbrev pub head_line : List ℕ → List ℕ → List ℕ
head_line label value = label ++ value ++ codes "\r\n"

-- the line that not every head has
abbrev pub extra_line : Extra → List ℕ
extra_line Nothing = []
extra_line (BookRow at) = head_line (codes "Book-Row: ") (decimal at)
extra_line (Allow post) = head_line (codes "Allow: ") (method_text post)

-- the line that ends a connection
abbrev pub closing_line : Bool → List ℕ
closing_line last = if last then codes "Connection: close\r\n" else []

-- the head before a body of so many bytes
unfoldable pub head_text : Head → ℕ → List ℕ
head_text head size =
    head_line (codes "HTTP/1.1 ") (status_text head.status)
    ++ head_line (codes "Content-Type: ") (media_text head.media)
    ++ head_line (codes "Content-Length: ") (decimal size)
    ++ extra_line head.extra ++ closing_line head.last ++ codes "\r\n"

-- a head and its body
abbrev pub response : Head → List ℕ → List ℕ
response head body = head_text head (length body) ++ body

-- ---- bodies

-- what a request can't be answered for
abbrev pub bad_body : List ℕ → List ℕ
bad_body word = codes "{\"bad\":\"" ++ word ++ codes "\"}"

-- the row of an accepted act
abbrev pub done_body : ℕ → List ℕ
done_body row = codes "{\"row\":" ++ decimal row ++ codes "}"

-- the row of an accepted closing, and the verdict
abbrev pub closed_body : ℕ → List ℕ → List ℕ
closed_body row verdict =
    codes "{\"row\":" ++ decimal row ++ codes ",\"verdict\":\"" ++ verdict ++ codes "\"}"

-- an accepted act is told as JSON, the answer to a question as its text, which of a shipment is
-- bytes
abbrev pub answer_body : Reply → List ℕ
answer_body (reply.Done row) = done_body row
answer_body (reply.Closed row verdict) = closed_body row (verdict_text verdict)
answer_body told = reply_text told

-- the length of the list, what the refusal keeps, its name and its number
unfoldable pub refusal_body : refusals.Refused → List ℕ
refusal_body refused =
    codes "{\"at\":" ++ decimal refused.at
    ++ codes ",\"kept\":\"" ++ kept_text [] refused.refusal
    ++ codes "\",\"name\":\"" ++ refusal_name refused.refusal
    ++ codes "\",\"refused\":" ++ decimal (refusal_number refused.refusal) ++ codes "}"

-- ---- responses to what the book answers

-- the type of the body of an answer
abbrev pub answer_media : Reply → Media
answer_media (reply.Done row) = Json
answer_media (reply.Closed row verdict) = Json
answer_media (reply.ShipmentIs view) = Octets
answer_media told = Plain

-- the head of the response to an answer; where the disk failed or there was no memory, nothing is
-- said of the list
abbrev pub reply_head : Result Answered AskError → Bool → Head
reply_head (Ok answered) last = record {
  status = status.Ok;
  media = answer_media answered.reply;
  extra = BookRow answered.at;
  last = last;
}
reply_head (Err (Refused refused)) last = record {
  status = status.Conflict;
  media = Json;
  extra = BookRow refused.at;
  last = last;
}
reply_head (Err DiskFault) last =
    record { status = status.InternalServerError; media = Json; extra = Nothing; last = last }
reply_head (Err NoMemory) last =
    record { status = status.ServiceUnavailable; media = Json; extra = Nothing; last = last }

-- the body of that response
abbrev pub reply_body : Result Answered AskError → List ℕ
reply_body (Ok answered) = answer_body answered.reply
reply_body (Err (Refused refused)) = refusal_body refused
reply_body (Err DiskFault) = bad_body (codes "disk")
reply_body (Err NoMemory) = bad_body (codes "memory")

-- the response to what the book answers
abbrev pub reply_response : Result Answered AskError → Bool → List ℕ
reply_response answer last = response (reply_head answer last) (reply_body answer)

-- an answer or a refusal that the book gives
abbrev pub IsBookAnswer : Result Answered AskError → Type 0
IsBookAnswer (Ok answered) = IsAnswer answered
IsBookAnswer (Err (Refused refused)) = IsRefusal refused
IsBookAnswer (Err _) = Unit {0}

-- ---- responses to a fault of form

-- the status of a fault
abbrev pub bad_status : Bad → Status
bad_status bad.Head = status.BadRequest
bad_status bad.Coding = status.LengthRequired
bad_status bad.Length = status.BadRequest
bad_status bad.Large = status.PayloadTooLarge
bad_status bad.Short = status.BadRequest
bad_status bad.Path = status.NotFound
bad_status (bad.Method post) = status.MethodNotAllowed
bad_status bad.NoLength = status.LengthRequired
bad_status bad.Body = status.BadRequest

-- the word for a fault
abbrev pub bad_word : Bad → List ℕ
bad_word bad.Head = codes "head"
bad_word bad.Coding = codes "coding"
bad_word bad.Length = codes "length"
bad_word bad.Large = codes "large"
bad_word bad.Short = codes "short"
bad_word bad.Path = codes "path"
bad_word (bad.Method post) = codes "method"
bad_word bad.NoLength = codes "nolength"
bad_word bad.Body = codes "body"

-- another method is answered with the one that is taken
abbrev pub bad_extra : Bad → Extra
bad_extra (bad.Method post) = Allow post
bad_extra _ = Nothing

-- the head of the response to a fault
abbrev pub bad_head : Bad → Bool → Head
bad_head fault last = record {
  status = bad_status fault;
  media = Json;
  extra = bad_extra fault;
  last = last;
}

-- the response to a fault
abbrev pub bad_response : Bad → Bool → List ℕ
bad_response fault last = response (bad_head fault last) (bad_body (bad_word fault))
