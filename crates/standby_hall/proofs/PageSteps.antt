-- What a write makes of a text that waits on a page.
use Rattle.std.proofs.Common.{◌≡◌, ℕ, ◌+◌, ◌<◌, List, [], ◌++◌, length, take, refl, sym, ap, ◌∙◌, subst, arith, append_assoc, append-nil, length-append}
use Rattle.std.specs.Io.KnownBytes.{Appends}
use Rattle.std.proofs.KnownBytes.{Appends-trans}
use Rattle.std.proofs.Math.Seq.{take-append-add}
use Rattle.disk_core.specs.declared.types.Partly.{Partly}
use Rattle.text_streams.specs.Streams.{Stream, IsCalm, HasFailed}
use Rattle.standby_hall.specs.Pages.{PageView, HasPut, IsCutAt}

module _ (start before now : Stream) (old : PageView) (text : List ℕ)
    (put : HasPut start before old text) where
  -- all that waited went out
  pub flushed : (new : PageView) → Appends before.bytes now.bytes old.waiting → IsCalm before now
      → new.sent ≡ old.sent + length old.waiting → new.waiting ≡ [] → HasPut start now new text
  flushed new went calm sent empty = record {
    out = put.out ++ old.waiting;
    went = Appends-trans start.bytes before.bytes now.bytes put.out old.waiting put.went went;
    sent = omega (arith, sent, put.sent, length-append put.out old.waiting);
    parts = put.parts ∙ sym (append-nil (put.out ++ old.waiting))
        ∙ ap (λ (l : List ℕ). (put.out ++ old.waiting) ++ l) (sym empty);
    calm = calm ∙ put.calm;
  }

  -- only the first bytes of what waited went out
  pub cut_at : (done : ℕ) (partly : Partly) → Appends before.bytes now.bytes (take done old.waiting)
      → done < length old.waiting → HasFailed before now → partly.done ≡ old.sent + done
      → IsCutAt start now text partly
  cut_at done partly went less failed told =
      let place : partly.done ≡ length put.out + done = told ∙ ap (λ n. n + done) put.sent in
      let front : put.out ++ take done old.waiting ≡ take partly.done text =
      sym (take-append-add put.out old.waiting done)
      ∙ ap (λ (l : List ℕ). take (length put.out + done) l) (sym put.parts)
      ∙ ap (λ n. take n text) (sym place) in
      record {
        out = subst (Appends start.bytes now.bytes) front
            (Appends-trans start.bytes before.bytes now.bytes put.out (take done old.waiting) put.went went);
        less = omega (arith, place, less, ap length put.parts, length-append put.out old.waiting);
        failed = subst (λ n. HasFailed (record { bytes = start.bytes; faults = n }) now) put.calm failed;
      }

  -- bytes were put behind those that wait
  pub put_more : (new : PageView) (bytes : List ℕ) → now ≡ before → new.sent ≡ old.sent
      → new.waiting ≡ old.waiting ++ bytes → HasPut start now new (text ++ bytes)
  put_more new bytes same sent waits = record {
    out = put.out;
    went = subst (λ (s : Stream). Appends start.bytes s.bytes put.out) (sym same) put.went;
    sent = sent ∙ put.sent;
    parts = ap (λ (l : List ℕ). l ++ bytes) put.parts ∙ append_assoc put.out old.waiting bytes
        ∙ ap (λ (l : List ℕ). put.out ++ l) (sym waits);
    calm = ap (λ (s : Stream). s.faults) same ∙ put.calm;
  }
