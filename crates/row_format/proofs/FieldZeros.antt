-- Zeros behind the fields of a row that is being written.
use Rattle.std.proofs.Common.{◌≡◌, ℕ, zero, suc, ◌+◌, ◌-◌, ◌≤◌, List, [], ◌∷◌, ◌++◌, length, take, drop, replicate, sym, ◌∙◌, ap, arith}
use Rattle.std.proofs.lemmas.List.{drop-drop, drop-replicate, take-replicate}
use Rattle.std.proofs.Math.Seq.{take-nil}
use Rattle.std.proofs.lemmas.Slice.{drop-put_mid}
use borrow.Rule.Slice.PartMut.{put_mid}
use Rattle.book_snapshot.specs.declared.layout.TheConstants.{ROW_BYTES}
use Rattle.row_format.specs.Filling.{IsFilledUp}

-- zeros stand behind a later place too
pub filled_further : (place count : ℕ) (bytes : List ℕ) → IsFilledUp place bytes
    → place + count ≤ ROW_BYTES → IsFilledUp (place + count) bytes
filled_further place count bytes is room = record {
  inside = room;
  zeros = sym (drop-drop count place bytes) ∙ ap (drop count) is.zeros
      ∙ drop-replicate count (ROW_BYTES - place) 0 ∙ ap (λ n. replicate n 0) (omega arith);
}

-- and behind a field that was written
pub filled_behind : (place count : ℕ) (bytes field : List ℕ) → IsFilledUp place bytes
    → length bytes ≡ ROW_BYTES → length field ≡ count → place + count ≤ ROW_BYTES
    → IsFilledUp (place + count) (put_mid place (place + count - place) bytes field)
filled_behind place count bytes field is all long room = record {
  inside = room;
  zeros = drop-put_mid place (place + count - place) bytes field (place + count) (omega arith)
      (omega arith) (omega (arith, long)) ∙ (filled_further place count bytes is room).zeros;
}

-- a longer front is a front and what follows it
front_further : (place count : ℕ) (bytes : List ℕ)
    → take (place + count) bytes ≡ take place bytes ++ take count (drop place bytes)
front_further zero count bytes = ap (λ n. take n bytes) (omega arith)
front_further (suc place) count [] = take-nil (suc place + count) ∙ sym (take-nil count)
front_further (suc place) count (byte ∷ bytes) =
    let next : suc place + count ≡ suc (place + count) = omega arith in
    ap (λ n. take n (byte ∷ bytes)) next ∙ ap (λ l. byte ∷ l) (front_further place count bytes)

-- passing over zeros takes them in
pub zeros_taken : (place count : ℕ) (bytes : List ℕ) → IsFilledUp place bytes
    → place + count ≤ ROW_BYTES → take (place + count) bytes ≡ take place bytes ++ replicate count 0
zeros_taken place count bytes is room =
    front_further place count bytes
    ∙ ap (λ l. take place bytes ++ l)
    (ap (take count) is.zeros ∙ take-replicate count (ROW_BYTES - place) 0 (omega arith))
