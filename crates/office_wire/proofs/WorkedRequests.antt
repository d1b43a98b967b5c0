-- Parts of requests that were written down by hand, computed by the definitions.
use Rattle.std.proofs.Common.{◌≡◌, ◌∷◌, [], codes, None, Ok, Err, Some, true, refl}
use Rattle.book_words.specs.declared.act.Question.TheVariants as question
use Rattle.book_words.specs.Names.{name_of, name_with}
use Rattle.office_wire.specs.declared.types.Bad.TheVariants as bad
use Rattle.office_wire.specs.declared.types.Route.TheVariants as route
use Rattle.office_wire.specs.HeadSize.{head_size}
use Rattle.office_wire.specs.Headers.{is_closing}
use Rattle.office_wire.specs.Frames.{size_of}
use Rattle.office_wire.specs.Routes.{route_of}

-- ---- where a head text ends

post : head_size (codes "POST /acts HTTP/1.1\r\nHost: 127.0.0.1:8080\r\nContent-Length: 68\r\n\r\n{\"act\":\"")
    ≡ Some 65
post = refl

-- lines that end in LF, behind empty ones
bare : head_size (codes "\r\n\nGET /summary HTTP/1.1\n\nGET") ≡ Some 26
bare = refl

-- the empty line that would end it isn't whole
cut : head_size (codes "GET /summary HTTP/1.1\r\nHost: a\r\n\r") ≡ None
cut = refl

-- ---- what headers say

length_given : size_of ((codes "Host", codes "a") ∷ (codes "content-LENGTH", codes "68") ∷ [])
    ≡ Ok (Some 68)
length_given = refl

lengths_differ : size_of ((codes "Content-Length", codes "5") ∷ (
  codes "Content-Length",
  codes "6",
) ∷ [])
    ≡ Err bad.Length
lengths_differ = refl

coded_first : size_of ((codes "Content-Length", codes "x") ∷ (
  codes "Transfer-Encoding",
  codes "chunked",
) ∷ [])
    ≡ Err bad.Coding
coded_first = refl

closing : is_closing ((codes "connection", codes "Close") ∷ []) ≡ true
closing = refl

-- ---- what is found at a target

acts : route_of (codes "/acts?/summary") ≡ Some route.Acts
acts = refl

sheet : route_of (codes "/batches/A")
    ≡ Some (route.Question (question.Sheet (name_with (codes "A") refl)))
unfolding name_of
sheet = refl

sample : route_of (codes "/batches/A/sample?x/y")
    ≡ Some (route.Question (question.Sample (name_with (codes "A") refl)))
unfolding name_of
sample = refl

pack : route_of (codes "/packs/4294967295") ≡ Some (route.Question (question.Pack 4294967295))
pack = refl

no_pack : route_of (codes "/packs/4294967296") ≡ None
no_pack = refl

lane : route_of (codes "/lanes/17") ≡ Some (route.Question (question.Lane 17))
lane = refl

no_name : route_of (codes "/batches/") ≡ None
unfolding name_of
no_name = refl

no_slash : route_of (codes "summary") ≡ None
no_slash = refl
