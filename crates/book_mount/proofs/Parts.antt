-- Content that is read in parts.
use Rattle.std.proofs.Common.{◌≡◌, ⊎_elim, ℕ, ◌+◌, ◌-◌, ◌*◌, ◌≤◌, min, false, List, ◌++◌, length, take, drop, Option, Some, Result, Ok, Err, sym, ◌∙◌, ap, subst, arith, length-drop, length-take}
use Rattle.std.specs.Result.{is_err}
use Rattle.std.proofs.Math.Seq.{take-add}
use Rattle.std.proofs.lemmas.List.{take_all}
use Rattle.std.proofs.lemmas.Bool.{cases_lt}
use Rattle.book_snapshot.specs.declared.types.Kept.{Kept}
use Rattle.book_snapshot.specs.Blocks.{EndsWithSnapshot, snapshot_content, block_content}
use Rattle.book_snapshot.specs.Layout.{blocks_for, snapshot_place}
use Rattle.book_snapshot.specs.declared.layout.TheConstants.{ROW_BYTES}
use Rattle.book_journal.specs.declared.blocks.TheConstants.{BLOCKS_CONTENT}
use Rattle.book_journal.specs.Reading.{ReadsContent}
use Rattle.book_journal.specs.Mounting.{rows_before}
use Rattle.book_mount.specs.Listing.{content_rows, snapshot_rows}
use Rattle.book_mount.specs.Opening.{StandsAtEnd}

-- what was read of a piece, where the disk didn't fail
read_count : {E : Type 0} (kept : Kept) (bytes : List ℕ) (from : ℕ) (result : Result ℕ E) (into : List ℕ)
    → ReadsContent (Some kept) bytes from result into → EndsWithSnapshot kept.rows kept.bytes bytes
    → is_err result ≡ false
    → take (min BLOCKS_CONTENT (kept.bytes - BLOCKS_CONTENT * from)) into
    ≡ take (min BLOCKS_CONTENT (kept.bytes - BLOCKS_CONTENT * from))
    (drop (BLOCKS_CONTENT * from) (snapshot_content kept.rows kept.bytes bytes))
read_count kept bytes from (Err error) into reads ends well = absurd cc
read_count kept bytes from (Ok count) into reads ends well =
    let there = reads ends in
    subst (λ (n : ℕ). take n into ≡ take n
    (drop (BLOCKS_CONTENT * from) (snapshot_content kept.rows kept.bytes bytes))) there.0
    there.1

pub part_read : {E : Type 0} (kept : Kept) (now : Option Kept) (bytes : List ℕ) (from count : ℕ)
    (result : Result ℕ E) (into : List ℕ) → now ≡ Some kept
    → count ≡ min (kept.bytes - BLOCKS_CONTENT * from) BLOCKS_CONTENT
    → ReadsContent now bytes from result into → EndsWithSnapshot kept.rows kept.bytes bytes
    → is_err result ≡ false
    → take count into ≡ take (min BLOCKS_CONTENT (kept.bytes - BLOCKS_CONTENT * from))
    (drop (BLOCKS_CONTENT * from) (snapshot_content kept.rows kept.bytes bytes))
part_read kept now bytes from count result into is count_is reads ends well =
    let same : count ≡ min BLOCKS_CONTENT (kept.bytes - BLOCKS_CONTENT * from) =
    omega (arith, count_is) in
    ap (λ (n : ℕ). take n into) same
    ∙ read_count kept bytes from result into
    (subst (λ (k : Option Kept). ReadsContent k bytes from result into) is reads) ends well

-- no more than is there
take_most : (n m : ℕ) (bytes : List ℕ) → length bytes ≤ m → take (min n m) bytes ≡ take n bytes
take_most n m bytes most = ⊎_elim
    (λ less. ap (λ (k : ℕ). take k bytes) (omega (arith, less)))
    (λ le. ap (λ (k : ℕ). take k bytes) (omega (arith, le)) ∙ take_all m bytes most
    ∙ sym (take_all n bytes (omega (arith, le, most))))
    (cases_lt n m)

-- one part more
pub part_joins : (from size : ℕ) (whole before now : List ℕ) → length whole ≤ size
    → before ≡ take (BLOCKS_CONTENT * from) whole
    → now ≡ before ++ take (min BLOCKS_CONTENT (size - BLOCKS_CONTENT * from))
    (drop (BLOCKS_CONTENT * from) whole)
    → now ≡ take (BLOCKS_CONTENT * (from + 1)) whole
part_joins from size whole before now most is joined =
    let next : BLOCKS_CONTENT * from + BLOCKS_CONTENT ≡ BLOCKS_CONTENT * (from + 1) = omega arith in
    joined
    ∙ ap (λ (l : List ℕ). l ++ take (min BLOCKS_CONTENT (size - BLOCKS_CONTENT * from))
    (drop (BLOCKS_CONTENT * from) whole)) is
    ∙ ap (λ (l : List ℕ). take (BLOCKS_CONTENT * from) whole ++ l)
    (take_most BLOCKS_CONTENT (size - BLOCKS_CONTENT * from)
    (drop (BLOCKS_CONTENT * from) whole)
    (omega (arith, most, length-drop (BLOCKS_CONTENT * from) whole)))
    ∙ sym (take-add (BLOCKS_CONTENT * from) BLOCKS_CONTENT whole)
    ∙ ap (λ (n : ℕ). take n whole) next

-- all parts are the whole
pub parts_all : (from size : ℕ) (whole content : List ℕ) → length whole ≤ size
    → size ≤ BLOCKS_CONTENT * from → content ≡ take (BLOCKS_CONTENT * from) whole → content ≡ whole
parts_all from size whole content most all is = is
    ∙ take_all (BLOCKS_CONTENT * from) whole (omega (arith, most, all))

pub content_most : (rows size : ℕ) (bytes : List ℕ) → length (snapshot_content rows size bytes) ≤ size
content_most rows size bytes =
    omega (
      arith,
      length-take size
          (block_content (blocks_for size) (drop (snapshot_place rows + ROW_BYTES) bytes)),
    )

-- the snapshot that is there
pub snapshot_ends : (now : Option Kept) (kept : Kept) (bytes : List ℕ) → now ≡ Some kept
    → StandsAtEnd now bytes → EndsWithSnapshot kept.rows kept.bytes bytes
snapshot_ends now kept bytes is ends = subst (λ (k : Option Kept). StandsAtEnd k bytes) is ends

-- its rows are those of its content
pub snapshot_listed : (now : Option Kept) (kept : Kept) (bytes content : List ℕ) (rows count : ℕ)
    → now ≡ Some kept → rows_before now ≤ count → rows ≡ min kept.rows count
    → content ≡ snapshot_content kept.rows kept.bytes bytes
    → snapshot_rows now bytes ≡ content_rows rows 1 content
snapshot_listed now kept bytes content rows count is counted rows_are content_is =
    let few : kept.rows ≤ count = subst (λ (k : Option Kept). rows_before k ≤ count) is counted in
    let all : kept.rows ≡ rows = omega (arith, few, rows_are) in
    ap (λ (k : Option Kept). snapshot_rows k bytes) is
    ∙ ap (λ (n : ℕ). content_rows n 1 (snapshot_content kept.rows kept.bytes bytes)) all
    ∙ ap (λ (l : List ℕ). content_rows rows 1 l) (sym content_is)
