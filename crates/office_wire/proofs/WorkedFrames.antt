-- Whole requests that were written down by hand, framed by the definitions.
use Rattle.std.proofs.Common.{◌≡◌, ◌<◌, ◌∷◌, ◌++◌, [], ℕ, List, length, codes, Some, pos, true, false, refl, lit<, lit≤}
use Rattle.std.specs.Prelude.{IsUtf8}
use Rattle.std.specs.List.{list_all}
use Rattle.std.specs.Str.{chars, is_utf8}
use Rattle.std.proofs.lemmas.List.Elements.{All-cons, All-nil}
use Rattle.std.proofs.lemmas.List.Sums.{AllPass-from_list_all}
use lib.Utf8.{encode}
use Rattle.httparse.specs.Grammar.{Field, IsField, IsRequestHead, RequestHead, ReadsRequest, crlf, is_token_byte, is_uri_byte, is_value_byte}
use Rattle.httparse.proofs.OnLiterals.{httparse_on_literals}
use Rattle.serde_json.proofs.OnLiterals.{serde_json_on_literals}
use Rattle.book_words.specs.declared.act.Act.TheVariants.{PutProduct}
use Rattle.book_words.specs.declared.act.Question.TheVariants as question
use Rattle.book_words.specs.declared.act.Unit.TheVariants.{Mass}
use Rattle.book_words.specs.declared.act.Want.TheVariants as want
use Rattle.book_words.specs.Names.{name_of, name_with}
use Rattle.office_wire.specs.declared.types.Bad.TheVariants as bad
use Rattle.office_wire.specs.declared.types.OfficeAsk.TheVariants as asked
use Rattle.office_wire.specs.declared.types.Frame.TheVariants.{Whole}
use Rattle.office_wire.specs.Frames.{IsFrame, question_ask}

-- ---- heads of version 1.1

abbrev field : List ℕ → List ℕ → Field
field name raw = record { name = name; raw = raw; end = crlf }

-- of bytes that a name and a value may have
field_is : (name raw : List ℕ) → 0 < length name → list_all is_token_byte name ≡ true
    → list_all is_value_byte raw ≡ true → IsField (field name raw)
field_is name raw some token value = record {
  name = (some, AllPass-from_list_all is_token_byte name token);
  raw = AllPass-from_list_all is_value_byte raw value;
}

abbrev head : List ℕ → List ℕ → List Field → RequestHead
head method target fields = record {
  blank = [];
  method = method;
  target = target;
  minor = 1;
  line_end = crlf;
  fields = fields;
  last = crlf;
}

-- of bytes that a method and a target may have, with two headers
head_is : (method target : List ℕ) (a b : Field) → 0 < length method
    → list_all is_token_byte method ≡ true → 0 < length target
    → list_all is_uri_byte target ≡ true → IsUtf8 target → IsField a → IsField b
    → IsRequestHead (head method target (a ∷ b ∷ []))
head_is method target a b some token long uri text first second = record {
  method = (some, AllPass-from_list_all is_token_byte method token);
  target = (long, AllPass-from_list_all is_uri_byte target uri);
  target_text = text;
  minor = lit≤ tt;
  fields = All-cons IsField a (b ∷ []) first (All-cons IsField b [] second (All-nil IsField));
}

-- ---- headers

abbrev host : Field
host = field (codes "Host") (codes " 127.0.0.1:8080")

host_is : IsField host
unfolding httparse_on_literals
host_is = field_is (codes "Host") (codes " 127.0.0.1:8080") (lit< tt) refl refl

abbrev agent : Field
agent = field (codes "User-Agent") (codes " curl/8.5.0")

agent_is : IsField agent
unfolding httparse_on_literals
agent_is = field_is (codes "User-Agent") (codes " curl/8.5.0") (lit< tt) refl refl

abbrev size : Field
size = field (codes "Content-Length") (codes " 68")

size_is : IsField size
unfolding httparse_on_literals
size_is = field_is (codes "Content-Length") (codes " 68") (lit< tt) refl refl

-- ---- the sheet of a batch

abbrev get : List ℕ
get =
    codes "GET /batches/A HTTP/1.1\r\n"
    ++ codes "Host: 127.0.0.1:8080\r\n"
    ++ codes "User-Agent: curl/8.5.0\r\n"
    ++ codes "\r\n"

abbrev get_head : RequestHead
get_head = head (codes "GET") (codes "/batches/A") (host ∷ agent ∷ [])

get_reads : ReadsRequest get get_head []
unfolding httparse_on_literals encode
get_reads = (
  head_is (codes "GET") (codes "/batches/A") host agent (lit< tt) refl (lit< tt) refl
      (codes "/batches/A", (refl, refl)) host_is agent_is,
  refl,
)

-- 73 bytes that ask for a sheet; the connection goes on
sheet_asked : IsFrame get false (Whole (record {
  taken = 73;
  what = asked.Ask (question_ask (question.Sheet (name_with (codes "A") refl)));
  last = false;
}))
unfolding httparse_on_literals name_of
sheet_asked = (Some get_head, (get_reads, lit≤ tt), refl)

-- ---- a product of a desk

abbrev post : List ℕ
post =
    codes "POST /acts HTTP/1.1\r\n"
    ++ codes "Host: 127.0.0.1:8080\r\n"
    ++ codes "Content-Length: 68\r\n"
    ++ codes "\r\n"

abbrev body : List ℕ
body = codes "{\"act\":\"product\",\"desk\":101,\"request\":1,\"name\":\"a\",\"nominal\":250000}"

abbrev post_head : RequestHead
post_head = head (codes "POST") (codes "/acts") (host ∷ size ∷ [])

post_reads : ReadsRequest post post_head []
unfolding httparse_on_literals encode
post_reads = (
  head_is (codes "POST") (codes "/acts") host size (lit< tt) refl (lit< tt) refl
      (codes "/acts", (refl, refl)) host_is size_is,
  refl,
)

-- 133 bytes that ask for a product; what stands behind them is passed over
product_asked : IsFrame (post ++ body ++ get) false (Whole (record {
  taken = 133;
  what = asked.Ask (record {
    desk = 101;
    request = 1;
    want = want.Act (PutProduct (name_with (codes "a") refl) (pos 250000) Mass);
  });
  last = false;
}))
unfolding httparse_on_literals serde_json_on_literals is_utf8 chars encode name_of
product_asked = (Some post_head, (post_reads, lit≤ tt), refl)

-- the input ends in the body
cut_in_the_body : IsFrame (post ++ codes "{") true
    (Whole (record { taken = 66; what = asked.Bad bad.Short; last = true }))
unfolding httparse_on_literals
cut_in_the_body = (Some post_head, (post_reads, lit≤ tt), refl)
