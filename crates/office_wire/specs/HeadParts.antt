-- The parts of a head in its text, and what they say.
use Rattle.std.specs.Prelude.{◌≡◌, ◌≤◌, ℕ, List, length, Some}
use Rattle.httparse.specs.declared.spans.HeaderSpan.{HeaderSpan}
use Rattle.httparse.specs.declared.spans.RequestSpans.{RequestSpans}
use Rattle.httparse.specs.Grammar.{RequestHead}
use Rattle.httparse.specs.Spans.{IsRequestWithin, IsRequestOf}
use Rattle.office_wire.specs.declared.limits.TheConstants.{MAX_HEADERS}
use Rattle.office_wire.specs.declared.request_heads.Said.{Said}
use Rattle.office_wire.specs.Frames.{IsHeadOf, headers_of, is_last, size_of}

-- the whole text is a head, with no more headers than there may be, and these are its parts
pub record IsWholeHead (text : List ℕ) (room : List HeaderSpan) (spans : RequestSpans) : Type 0
  where
    pub within : IsRequestWithin text room spans
    pub parts : IsRequestOf text room spans
    pub whole : spans.len ≡ length text
    pub few : spans.headers ≤ MAX_HEADERS

-- what a head says
pub record Says (said : Said) (head : RequestHead) : Type 0 where
  pub method : said.method.now ≡ head.method
  pub target : said.target.now ≡ head.target
  pub size : said.size ≡ size_of (headers_of head)
  pub last : said.last ≡ is_last head

-- what the head says that a text is
abbrev pub SaysHeadOf : List ℕ → Said → Type 0
SaysHeadOf text said = (head : RequestHead) × IsHeadOf text (Some head) × Says said head
