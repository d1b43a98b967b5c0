-- What was said on a connection since it began, with bytes more that were read or written, and with
-- one request more.
use Rattle.std.proofs.Common.{◌≡◌, ℕ, Bool, false, true≢false, List, [], ◌∷◌, ◌++◌, length, drop, Option, Some, None, option_map, refl, sym, ◌∙◌, ap, subst, append_assoc, append-nil, length-append}
use Rattle.std.proofs.lemmas.List.{map-append}
use Rattle.std.proofs.lemmas.List.Elements.{All-nil, All-push}
use Rattle.std.proofs.KnownBytes.{Consumes-nil, Consumes-trans}
use lib.Seq.{drop-drop}
use Rattle.std.specs.Io.KnownBytes.{Consumes, IsAtEnd}
use Rattle.disk_core.specs.Doors.{Connection, Connections, left_now, add_taken, add_written, with_taken, with_written}
use Rattle.office_wire.specs.declared.types.Frame.TheVariants.{Whole}
use Rattle.office_wire.specs.declared.types.Framed.{Framed}
use Rattle.office_wire.specs.Frames.{IsFrame}
use Rattle.office_wire.specs.Requests.{BeginWith}
use Rattle.office_wire.proofs.RequestLaws.{begin_more, begin_push}
use Rattle.office_door.specs.Exchanges.{Exchange}
use Rattle.office_door.specs.Served.{IsToldRight, requests_of}
use Rattle.office_door.specs.Doors.{Port, with_talk}
use Rattle.office_door.specs.Steps.{HeldView, HasRead, IsHeard}

-- ---- connections

talk_none : (present : Option Connection)
    → option_map (add_written []) (option_map (add_taken []) present) ≡ present
talk_none None = refl
talk_none (Some c) = λ i. Some (record {
  left = c.left;
  taken = append-nil c.taken i;
  written = append-nil c.written i;
})

-- nothing was taken or written yet
pub with_talk_none : (was : Option Connections) → was ≡ option_map (with_talk [] []) was
with_talk_none None = refl
with_talk_none (Some all) = λ i. Some (record all { present = sym (talk_none all.present) i })

talk_taken : (taken written more : List ℕ) (present : Option Connection)
    → option_map (add_taken more)
    (option_map (add_written written) (option_map (add_taken taken) present))
    ≡ option_map (add_written written) (option_map (add_taken (taken ++ more)) present)
talk_taken taken written more None = refl
talk_taken taken written more (Some c) =
    let left : drop (length more) (drop (length taken) c.left)
    ≡ drop (length (taken ++ more)) c.left =
    drop-drop (length more) (length taken) c.left
    ∙ ap (λ (n : ℕ). drop n c.left) (sym (length-append taken more)) in
    λ i. Some (record {
      left = left i;
      taken = append_assoc c.taken taken more i;
      written = c.written ++ written;
    })

-- bytes more were taken
pub with_talk_taken : (taken written more : List ℕ) (was : Option Connections)
    → option_map (with_taken more) (option_map (with_talk taken written) was)
    ≡ option_map (with_talk (taken ++ more) written) was
with_talk_taken taken written more None = refl
with_talk_taken taken written more (Some all) =
    λ i. Some (record all { present = talk_taken taken written more all.present i })

talk_written : (taken written more : List ℕ) (present : Option Connection)
    → option_map (add_written more)
    (option_map (add_written written) (option_map (add_taken taken) present))
    ≡ option_map (add_written (written ++ more)) (option_map (add_taken taken) present)
talk_written taken written more None = refl
talk_written taken written more (Some c) = λ i. Some (record {
  left = drop (length taken) c.left;
  taken = c.taken ++ taken;
  written = append_assoc c.written written more i;
})

-- bytes more were written
pub with_talk_written : (taken written more : List ℕ) (was : Option Connections)
    → option_map (with_written more) (option_map (with_talk taken written) was)
    ≡ option_map (with_talk taken (written ++ more)) was
with_talk_written taken written more None = refl
with_talk_written taken written more (Some all) =
    λ i. Some (record all { present = talk_written taken written more all.present i })

left_written : (present : Option Connection) (others : Connections) (bytes : List ℕ)
    → left_now (with_written bytes (record others { present = present }))
    ≡ left_now (record others { present = present })
left_written None others bytes = refl
left_written (Some c) others bytes = refl

-- what is written leaves what a connection has left
pub same_left : (was : Option Connections) (bytes : List ℕ)
    → option_map left_now (option_map (with_written bytes) was) ≡ option_map left_now was
same_left None bytes = refl
same_left (Some all) bytes =
    ap (λ (l : List ℕ). Some l) (left_written all.present all bytes)

-- ---- what was heard

-- a connection begins
pub heard_none : (was : Port) → was.ended ≡ false → IsHeard was was [] [] []
heard_none was begins = record {
  taken = [];
  bytes = Consumes-nil was.left;
  connections = with_talk_none was.connections;
  requests = refl;
  told = All-nil IsToldRight;
  at_end = λ ended. absurd (true≢false (sym ended ∙ begins));
}

-- bytes were read
pub heard_read : (start was now : Port) (xs : List Exchange) (written : List ℕ)
    (old new : HeldView) → was.ended ≡ false → HasRead was now old new
    → IsHeard start was xs written old.bytes → IsHeard start now xs written new.bytes
heard_read start was now xs written old new begins read heard =
    let bytes = read.bytes in
    let before : BeginWith false heard.taken (requests_of xs) old.bytes =
    subst (λ (e : Bool). BeginWith e heard.taken (requests_of xs) old.bytes) begins
    heard.requests in
    record {
      taken = heard.taken ++ bytes;
      bytes = Consumes-trans start.left was.left now.left heard.taken bytes heard.bytes
          read.consumed;
      connections = read.connections
          ∙ ap (option_map (with_taken bytes)) heard.connections
          ∙ with_talk_taken heard.taken written bytes start.connections;
      requests = subst
          (λ (h : List ℕ). BeginWith now.ended (heard.taken ++ bytes) (requests_of xs) h)
          (sym read.held)
          (begin_more now.ended heard.taken bytes (requests_of xs) old.bytes before);
      told = heard.told;
      at_end = λ ended. read.at_end (sym read.ended ∙ ended);
    }

-- bytes were written
pub heard_written : (start was now : Port) (xs : List Exchange) (written held bytes : List ℕ)
    → now.left ≡ was.left → now.ended ≡ was.ended
    → now.connections ≡ option_map (with_written bytes) was.connections
    → IsHeard start was xs written held → IsHeard start now xs (written ++ bytes) held
heard_written start was now xs written held bytes left ended connections heard = record {
  taken = heard.taken;
  bytes = subst (λ (l : Option (List ℕ)). Consumes start.left l heard.taken) (sym left) heard.bytes;
  connections = connections
      ∙ ap (option_map (with_written bytes)) heard.connections
      ∙ with_talk_written heard.taken written bytes start.connections;
  requests = subst (λ (e : Bool). BeginWith e heard.taken (requests_of xs) held) (sym ended)
      heard.requests;
  told = heard.told;
  at_end = λ is. subst IsAtEnd (sym left) (heard.at_end (sym ended ∙ is));
}

-- the next request was told
pub heard_request : (start was : Port) (xs : List Exchange) (written held : List ℕ) (x : Exchange)
    → IsFrame held was.ended (Whole x.request) → IsToldRight x
    → IsHeard start was xs written held
    → IsHeard start was (xs ++ x ∷ []) written (drop x.request.taken held)
heard_request start was xs written held x whole tells heard = record {
  taken = heard.taken;
  bytes = heard.bytes;
  connections = heard.connections;
  requests = subst
      (λ (fs : List Framed). BeginWith was.ended heard.taken fs (drop x.request.taken held))
      (sym (map-append (λ (e : Exchange). e.request) xs (x ∷ [])))
      (begin_push was.ended heard.taken (requests_of xs) held x.request heard.requests whole);
  told = All-push IsToldRight xs x heard.told tells;
  at_end = heard.at_end;
}
