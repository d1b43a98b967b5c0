-- Responses that were written down by hand, computed by the definitions.
use Rattle.std.proofs.Common.{◌≡◌, pos, ◌++◌, codes, Some, Ok, Err, true, false, refl}
use Rattle.annex_tables.specs.declared.types.Mode.TheVariants.{Keep}
use Rattle.book_words.specs.declared.act.Unit.TheVariants.{Mass}
use Rattle.book_words.specs.declared.act.BatchState.TheVariants.{Closed}
use Rattle.book_words.specs.declared.views.Verdict.TheVariants.{Released}
use Rattle.book_words.specs.declared.views.Sheet.{Sheet}
use Rattle.book_words.specs.declared.caller.AskError.TheVariants as why
use Rattle.book_words.specs.declared.reply.Reply.TheVariants as reply
use Rattle.book_words.specs.declared.refusal.Refusal.TheVariants as refusal
use Rattle.book_words.specs.Names.{name_with}
use Rattle.std.specs.Fmt.{digits}
use Rattle.hall_units.specs.Grams.{gram_text}
use Rattle.batch_reports.specs.Texts.{sheet_text}
use Rattle.office_wire.specs.declared.types.Bad.TheVariants as bad
use Rattle.office_responses.specs.Responses.{head_text, refusal_body, reply_response, bad_response}

accepted : reply_response (Ok (record { at = 2; reply = reply.Done 2 })) false ≡
    codes "HTTP/1.1 200 OK\r\n"
    ++ codes "Content-Type: application/json\r\n"
    ++ codes "Content-Length: 9\r\n"
    ++ codes "Book-Row: 2\r\n"
    ++ codes "\r\n"
    ++ codes "{\"row\":2}"
unfolding head_text digits
accepted = refl

refused : reply_response (Err (why.Refused (record { at = 3; refusal = refusal.RequestOld 2 }))) true ≡
    codes "HTTP/1.1 409 Conflict\r\n"
    ++ codes "Content-Type: application/json\r\n"
    ++ codes "Content-Length: 51\r\n"
    ++ codes "Book-Row: 3\r\n"
    ++ codes "Connection: close\r\n"
    ++ codes "\r\n"
    ++ codes "{\"at\":3,\"kept\":\"2\",\"name\":\"RequestOld\",\"refused\":2}"
unfolding head_text refusal_body digits
refused = refl

unknown_lane : reply_response (Err (why.Refused (record { at = 0; refusal = refusal.LaneNumber })))
    false ≡
    codes "HTTP/1.1 409 Conflict\r\n"
    ++ codes "Content-Type: application/json\r\n"
    ++ codes "Content-Length: 51\r\n"
    ++ codes "Book-Row: 0\r\n"
    ++ codes "\r\n"
    ++ codes "{\"at\":0,\"kept\":\"\",\"name\":\"LaneNumber\",\"refused\":16}"
unfolding head_text refusal_body digits
unknown_lane = refl

-- 600 packs by mass, 50 of which were drawn and measured
abbrev closed_sheet : Sheet
closed_sheet = record {
  batch = name_with (codes "A") refl;
  product = name_with (codes "rice250") refl;
  nominal = pos 250000;
  unit = Mass;
  tne = pos 9000;
  density = 0;
  state = Closed;
  readings = record { count = 600; gross = pos 157200000 };
  passed = record { count = 550; gross = pos 144100000 };
  rejected = record { count = 0; gross = pos 0 };
  sampled = record { count = 50; gross = pos 13100000 };
  voided = record { count = 0; gross = pos 0 };
  population = 600;
  net = pos 150600000;
  nonstandard = 0;
  inadequate = 0;
  held = false;
  test = Some (record {
    mode = Keep;
    first = 50;
    measured1 = 50;
    d1 = 0;
    second = 0;
    measured2 = 0;
    d2 = 0;
  });
  verdict = Some Released;
}

sheet : reply_response (Ok (record { at = 664; reply = reply.SheetIs closed_sheet })) false ≡
    codes "HTTP/1.1 200 OK\r\n"
    ++ codes "Content-Type: text/plain\r\n"
    ++ codes "Content-Length: 317\r\n"
    ++ codes "Book-Row: 664\r\n"
    ++ codes "\r\n"
    ++ codes "batch A product rice250 nominal 250.000 tne 9.000\n"
    ++ codes "state closed\n"
    ++ codes "readings 600 gross 157200.000\n"
    ++ codes "passed 550 gross 144100.000\n"
    ++ codes "rejected 0 gross 0.000\n"
    ++ codes "sampled 50 gross 13100.000\n"
    ++ codes "voided 0 gross 0.000\n"
    ++ codes "population 600 net 150600.000 nonstandard 0 inadequate 0\n"
    ++ codes "held no\n"
    ++ codes "test keep first 50 measured 50 defective 0\n"
    ++ codes "verdict released\n"
unfolding head_text sheet_text gram_text digits
sheet = refl

closed : reply_response (Ok (record { at = 664; reply = reply.Closed 664 Released })) true ≡
    codes "HTTP/1.1 200 OK\r\n"
    ++ codes "Content-Type: application/json\r\n"
    ++ codes "Content-Length: 32\r\n"
    ++ codes "Book-Row: 664\r\n"
    ++ codes "Connection: close\r\n"
    ++ codes "\r\n"
    ++ codes "{\"row\":664,\"verdict\":\"released\"}"
unfolding head_text digits
closed = refl

disk_fault : reply_response (Err why.DiskFault) false ≡
    codes "HTTP/1.1 500 Internal Server Error\r\n"
    ++ codes "Content-Type: application/json\r\n"
    ++ codes "Content-Length: 14\r\n"
    ++ codes "\r\n"
    ++ codes "{\"bad\":\"disk\"}"
unfolding head_text digits
disk_fault = refl

another_method : bad_response (bad.Method true) false ≡
    codes "HTTP/1.1 405 Method Not Allowed\r\n"
    ++ codes "Content-Type: application/json\r\n"
    ++ codes "Content-Length: 16\r\n"
    ++ codes "Allow: POST\r\n"
    ++ codes "\r\n"
    ++ codes "{\"bad\":\"method\"}"
unfolding head_text digits
another_method = refl
