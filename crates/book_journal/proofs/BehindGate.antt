-- Writes behind one another, from a place on.
use Rattle.std.proofs.Common.{◌≡◌, inl, inr, ℕ, zero, suc, ◌+◌, ◌-◌, ◌*◌, ◌/◌, ◌<◌, ◌≤◌, min, Some, Result, Ok, Err, OnOk, OnErr, IsErrAnd, List, [], ◌++◌, length, take, drop, refl, sym, ◌∙◌, ap, subst, arith, length-drop, length-take}
use Rattle.std.proofs.lemmas.List.{append-nil, take-append-drop, take_all, take-take, drop-take}
use Rattle.std.proofs.lemmas.Bool.{cases_lt}
use Rattle.disk_core.specs.Disk.{overwritten, Writes, Torn, Elapses}
use Rattle.disk_core.specs.Tears.{torn_by, length-overwritten}
use Rattle.disk_core.specs.declared.disk.Disk as disk
use Rattle.book_snapshot.specs.declared.layout.TheConstants.{BLOCK_CONTENT}
use Rattle.book_snapshot.specs.Layout.{blocks_for}
use Rattle.book_snapshot.specs.Blocks.{content_block, content_blocks}
use Rattle.book_snapshot.specs.BlockLaws.{content_blocks-none, content_blocks-first, content_blocks-join}
use Rattle.book_journal.specs.declared.blocks.TheConstants.{CALL_BLOCKS, BLOCKS_CONTENT}
use Rattle.book_journal.specs.Rows.{gate_behind}
use Rattle.book_journal.specs.Journal.{HasGate}
use Rattle.book_journal.specs.Laying.{KeptBefore, WritesBehind, all_done}
use Rattle.book_journal.proofs.ByteWrites.{overwritten_on}
use Rattle.book_journal.proofs.Moments.{elapses_in, elapses_on}
use Rattle.book_journal.proofs.Results.{ok_at_err, ok_in}

-- an image kept before a later place, and then before this one
kept_on : (image : List ℕ → Type 0) (place next : ℕ) (c : List ℕ) → place ≤ next
    → KeptBefore (KeptBefore image place) next c → KeptBefore image place c
kept_on image place next c le kept =
    let mid = kept.1 in (
      mid.0,
      mid.1,
      omega (arith, mid.2, kept.2),
      λ k lt inside. kept.3 k (omega (arith, lt, le)) (omega (arith, inside, mid.2))
          ∙ mid.3 k lt inside,
    )

kept_more : (image wider : List ℕ → Type 0) (place : ℕ) (c : List ℕ)
    → ((d : List ℕ) → image d → wider d) → KeptBefore image place c → KeptBefore wider place c
kept_more image wider place c more kept = (kept.0, more kept.0 kept.1, kept.2, kept.3)

-- a write, whatever it answered
torn_at : (place : ℕ) (bytes : List ℕ) {T E : Type 0} (result : Result T E) (there now : List ℕ)
    → OnOk result (now ≡ overwritten there place bytes)
    → OnErr result (Torn place (length bytes) (place + length bytes) there now)
    → Torn place (length bytes) (place + length bytes) there now
torn_at place bytes (Ok x) there now done cut =
    let whole : Torn place (length bytes) (place + length bytes) there
    (overwritten there place bytes) =
    torn_by there place (length bytes) (place + length bytes) bytes refl
    (omega (arith, length-overwritten there place bytes)) in
    subst (λ (f : List ℕ). Torn place (length bytes) (place + length bytes) there f) (sym done) whole
torn_at place bytes (Err e) there now done cut = cut

module _ {D : Type 0} (g : disk.Ghosts D) where
  -- no write
  pub behind_none : (place : ℕ) (there : List ℕ) (old : D) → g.reads old ≡ Some there
      → WritesBehind g place [] all_done there old old
  behind_none place there old told =
      let nothing : place + 0 ≡ place = omega arith in
      record {
        now = there;
        told = told;
        done = sym (ap (λ (l : List ℕ). l ++ drop (place + 0) there) (append-nil (take place there))
            ∙ ap (λ (n : ℕ). take place there ++ drop n there) nothing
            ∙ take-append-drop place there);
        longer = omega arith;
        same = λ k lt inside. refl;
        images = λ c is. (c, is, omega arith, λ k lt inside. refl);
        moments = record {
          later = omega arith;
          nothing_else = λ t c le was. inl was;
          keeps =
              λ t c le was. was;
        };
      }

  -- one write
  pub behind_one : (place : ℕ) (bytes : List ℕ) {T E : Type 0} (result : Result T E)
      (there : List ℕ) (old new : D)
      → Writes place bytes result there (g.reads new) (g.image old) (g.image new)
      → Elapses (g.time old) (g.time new) (g.since old) (g.since new) (g.image new)
      → WritesBehind g place bytes result there old new
  behind_one place bytes result there old new w elapses =
      let images : (c : List ℕ) → g.image new c → KeptBefore (g.image old) place c = λ c is.
      let torn = w.images c is in
      (torn.0, torn.1, torn.2.no_shorter, λ k lt inside. torn.2.outside k inside (inl lt)) in
      let torn = torn_at place bytes result there w.now w.done w.cut_short in
      record {
        now = w.now;
        told = w.told_now;
        done = w.done;
        longer = torn.no_shorter;
        same = λ k lt inside. torn.outside k inside (inl lt);
        images = images;
        moments = elapses_in (g.image new) (KeptBefore (g.image old) place) elapses images;
      }

  -- one after another
  pub behind_both : (place next : ℕ) (first second : List ℕ) {T E T' E' : Type 0}
      (done : Result T E) (result : Result T' E') (there : List ℕ) (old mid new : D)
      (w : WritesBehind g place first done there old mid) → w.now ≡ overwritten there place first
      → WritesBehind g next second result w.now mid new → next ≡ place + length first
      → place ≤ length there → WritesBehind g place (first ++ second) result there old new
  behind_both place next first second done result there old mid new w is w' next_is within = record {
    now = w'.now;
    told = w'.told;
    done = ok_in result _ _ (λ at_second. at_second
        ∙ ap (λ (l : List ℕ). overwritten l next second) is
        ∙ overwritten_on there place next first second within next_is) w'.done;
    longer = omega (arith, w.longer, w'.longer);
    same = λ k lt inside. w'.same k (omega (arith, lt, next_is)) (omega (arith, inside, w.longer))
        ∙ w.same k lt inside;
    images = λ c image. kept_on (g.image old) place next c (omega (arith, next_is))
        (kept_more (g.image mid) (KeptBefore (g.image old) place) next c w.images
        (w'.images c image));
    moments = elapses_on (KeptBefore (g.image old) place) w.moments
        (elapses_in (KeptBefore (g.image mid) next) (KeptBefore (g.image old) place) w'.moments
        (λ c kept. kept_on (g.image old) place next c (omega (arith, next_is))
        (kept_more (g.image mid) (KeptBefore (g.image old) place) next c w.images kept)));
  }

  -- a failure hides what was meant
  pub behind_err : (place : ℕ) (bytes wanted : List ℕ) {T E T' E' : Type 0} (result : Result T E)
      (answer : Result T' E') (Q : E' → Type 0) (there : List ℕ) (old new : D) → IsErrAnd answer Q
      → WritesBehind g place bytes result there old new
      → WritesBehind g place wanted answer there old new
  behind_err place bytes wanted result answer Q there old new err w = record {
    now = w.now;
    told = w.told;
    done = ok_at_err Q answer _ err;
    longer = w.longer;
    same = w.same;
    images = w.images;
    moments = w.moments;
  }

  -- the same under equal names
  pub behind_as : (place : ℕ) (bytes bytes' : List ℕ) {T E T' E' : Type 0} (result : Result T E)
      (answer : Result T' E') (there : List ℕ) (old new : D) → bytes ≡ bytes'
      → (w : WritesBehind g place bytes result there old new)
      → w.now ≡ overwritten there place bytes → WritesBehind g place bytes' answer there old new
  behind_as place bytes bytes' result answer there old new same w is = record {
    now = w.now;
    told = w.told;
    done = always answer _ (is ∙ ap (λ (l : List ℕ). overwritten there place l) same);
    longer = w.longer;
    same = w.same;
    images = w.images;
    moments = w.moments;
  }
    where
      always : {T E : Type 0} (result : Result T E) (P : Type 0) → P → OnOk result P
      always (Ok x) P holds = holds
      always (Err e) P holds = tt

-- blocks look no further than their content
pub content_blocks-take : (count size : ℕ) (content : List ℕ) → BLOCK_CONTENT * count ≤ size
    → content_blocks count (take size content) ≡ content_blocks count content
content_blocks-take zero size content long = content_blocks-none (take size content)
    ∙ sym (content_blocks-none content)
content_blocks-take (suc count) size content long =
    let split : BLOCK_CONTENT + (size - BLOCK_CONTENT) ≡ size = omega (arith, long) in
    let rest : drop BLOCK_CONTENT (take size content)
    ≡ take (size - BLOCK_CONTENT) (drop BLOCK_CONTENT content) =
    ap (λ (n : ℕ). drop BLOCK_CONTENT (take n content)) (sym split)
    ∙ drop-take BLOCK_CONTENT (size - BLOCK_CONTENT) content in
    content_blocks-first count (take size content)
    ∙ ap (λ (l : List ℕ). content_block l
    ++ content_blocks count (drop BLOCK_CONTENT (take size content)))
    (take-take BLOCK_CONTENT size content (omega (arith, long)))
    ∙ ap (λ (l : List ℕ). content_block (take BLOCK_CONTENT content) ++ content_blocks count l) rest
    ∙ ap (λ (l : List ℕ). content_block (take BLOCK_CONTENT content) ++ l)
    (content_blocks-take count (size - BLOCK_CONTENT) (drop BLOCK_CONTENT content)
    (omega (arith, long)))
    ∙ sym (content_blocks-first count content)

-- how many blocks are written before a piece
abbrev pub blocks_before : ℕ → ℕ → ℕ
blocks_before piece size = min (CALL_BLOCKS * piece) (blocks_for size)

-- a piece begins within the content
pub piece_within : (piece size : ℕ) → piece < (size + (BLOCKS_CONTENT - 1)) / BLOCKS_CONTENT
    → BLOCKS_CONTENT * piece < size
piece_within piece size lt = omega (arith, lt)

pub before_piece : (piece size : ℕ) → BLOCKS_CONTENT * piece < size
    → blocks_before piece size ≡ CALL_BLOCKS * piece
before_piece piece size lt = omega (arith, lt)

-- behind the last piece all blocks are written
pub behind_pieces : (pieces size : ℕ) → (size + (BLOCKS_CONTENT - 1)) / BLOCKS_CONTENT ≤ pieces
    → blocks_before pieces size ≡ blocks_for size
behind_pieces pieces size all = omega (arith, all)

-- one piece more
pub one_piece : (piece end : ℕ) (content : List ℕ) → BLOCKS_CONTENT * piece < length content
    → end ≡ min (BLOCKS_CONTENT * piece + BLOCKS_CONTENT) (length content)
    → content_blocks (blocks_before piece (length content)) content
    ++ content_blocks
    (blocks_for (length (take (end - BLOCKS_CONTENT * piece)
    (drop (BLOCKS_CONTENT * piece) content))))
    (take (end - BLOCKS_CONTENT * piece) (drop (BLOCKS_CONTENT * piece) content))
    ≡ content_blocks (blocks_before (piece + 1) (length content)) content
one_piece piece end content lt end_is =
    let left = length-drop (BLOCKS_CONTENT * piece) content in
    let part_size : length (take (end - BLOCKS_CONTENT * piece)
    (drop (BLOCKS_CONTENT * piece) content)) ≡ end - BLOCKS_CONTENT * piece =
    omega (
      arith,
      length-take (end - BLOCKS_CONTENT * piece)
          (drop (BLOCKS_CONTENT * piece) content),
      left,
      end_is,
      lt,
    ) in
    let count = blocks_for (end - BLOCKS_CONTENT * piece) in
    let before = before_piece piece (length content) lt in
    let sum : CALL_BLOCKS * piece + count ≡ blocks_before (piece + 1) (length content) =
    omega (arith, end_is, lt) in
    let start : BLOCK_CONTENT * (CALL_BLOCKS * piece) ≡ BLOCKS_CONTENT * piece = omega arith in
    let part : content_blocks count
    (take (end - BLOCKS_CONTENT * piece) (drop (BLOCKS_CONTENT * piece) content))
    ≡ content_blocks count (drop (BLOCKS_CONTENT * piece) content) =
    elim (cases_lt (BLOCKS_CONTENT * piece + BLOCKS_CONTENT) (length content)) [
      | inl inside ↦ content_blocks-take count (end - BLOCKS_CONTENT * piece)
          (drop (BLOCKS_CONTENT * piece) content) (omega (arith, inside, end_is))
      | inr last ↦ ap (λ (l : List ℕ). content_blocks count l)
          (take_all (end - BLOCKS_CONTENT * piece) (drop (BLOCKS_CONTENT * piece) content)
          (omega (arith, last, end_is, left)))
    ] in
    ap (λ (n : ℕ). content_blocks n content
    ++ content_blocks
    (blocks_for (length (take (end - BLOCKS_CONTENT * piece)
    (drop (BLOCKS_CONTENT * piece) content))))
    (take (end - BLOCKS_CONTENT * piece) (drop (BLOCKS_CONTENT * piece) content))) before
    ∙ ap (λ (n : ℕ). content_blocks (CALL_BLOCKS * piece) content
    ++ content_blocks (blocks_for n)
    (take (end - BLOCKS_CONTENT * piece) (drop (BLOCKS_CONTENT * piece) content))) part_size
    ∙ ap (λ (l : List ℕ). content_blocks (CALL_BLOCKS * piece) content ++ l)
    (part ∙ ap (λ (n : ℕ). content_blocks count (drop n content)) (sym start))
    ∙ sym (content_blocks-join (CALL_BLOCKS * piece) count content)
    ∙ ap (λ (n : ℕ). content_blocks n content) sum

-- writes under other names
pub behind_at : {D T E : Type 0} (g : disk.Ghosts D) (place place' : ℕ) (bytes bytes' : List ℕ)
    (result : Result T E) (there : List ℕ) (old new : D) → place ≡ place' → bytes ≡ bytes'
    → WritesBehind g place bytes result there old new
    → WritesBehind g place' bytes' result there old new
behind_at g place place' bytes bytes' result there old new at is w =
    subst (λ (p : ℕ). WritesBehind g p bytes' result there old new) at
    (subst (λ (l : List ℕ). WritesBehind g place l result there old new) is w)

-- the header and the gate stay before what is written behind the gate
pub gate_stays : {D T E : Type 0} (g : disk.Ghosts D) (count : ℕ) (bytes : List ℕ)
    (result : Result T E) (there : List ℕ) (old new : D)
    (w : WritesBehind g (gate_behind count + 1) bytes result there old new) → HasGate count there
    → HasGate count w.now
gate_stays g count bytes result there old new w gate =
    let long = gate.header.long in
    record {
      header = record {
        long = omega (arith, long, w.longer);
        same = λ k lt other. w.same k (omega (arith, lt)) (omega (arith, lt, long))
            ∙ gate.header.same k lt other;
      };
      long = omega (arith, gate.long, w.longer);
    }
