-- A text on its way to a sink: what went out of it, and what waits.
use Rattle.std.specs.Prelude.{◌≡◌, ℕ, ◌+◌, ◌*◌, ◌<◌, List, ◌++◌, length, take}
use Rattle.std.specs.Io.KnownBytes.{Appends}
use Rattle.hall_limits.specs.declared.TheConstants.{MAX_ROWS}
use Rattle.disk_core.specs.declared.types.Partly.{Partly}
use Rattle.book_snapshot.specs.declared.layout.TheConstants.{ROW_BYTES}
use Rattle.text_streams.specs.Streams.{Stream, IsCalm, HasFailed}
use Rattle.standby_hall.specs.declared.head.TheConstants.{HEAD_BYTES}

-- how many bytes went out, and those that wait
pub record PageView : Type 0 where
  pub sent : ℕ
  pub waiting : List ℕ

-- how many bytes were put
abbrev pub put_bytes : PageView → ℕ
put_bytes page = page.sent + length page.waiting

-- the longest shipment
abbrev pub MAX_PUT : ℕ
MAX_PUT = HEAD_BYTES + ROW_BYTES * MAX_ROWS

-- this text was put since a start: its first bytes went out, and the others wait
pub record HasPut (start now : Stream) (page : PageView) (text : List ℕ) : Type 0 where
  pub out : List ℕ
  pub went : Appends start.bytes now.bytes out
  pub sent : page.sent ≡ length out
  pub parts : text ≡ out ++ page.waiting
  pub calm : IsCalm start now

-- the sink failed: of a text only the first bytes went out, and so many are told
pub record IsCutAt (start now : Stream) (text : List ℕ) (partly : Partly) : Type 0 where
  pub out : Appends start.bytes now.bytes (take partly.done text)
  pub less : partly.done < length text
  pub failed : HasFailed start now
