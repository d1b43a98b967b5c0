use Rattle.std.proofs.Common.{◌≡◌, ◌∙◌, ◌+◌, ◌-◌, ◌*◌, ◌≤◌, min, ℕ, length, take, drop, replicate, ap, subst, arith}
use Rattle.std.proofs.lemmas.List.{length-take-le, take_at, length-replicate}
use Rattle.book_snapshot.specs.declared.layout.TheConstants.{ROW_BYTES}
use Rattle.book_snapshot.specs.Layout.{blocks_for, snapshot_place}
use Rattle.book_snapshot.specs.Blocks.{block_content}
use Rattle.book_journal.specs.declared.blocks.TheConstants.{BLOCKS_CONTENT}
use Rattle.book_journal.proofs.Contents.{content_from}
use Rattle.book_audit.specs.declared.content.TheConstants.{BLOCKS_BYTES}
use Rattle.book_audit.proofs.content.read_blocks.Goals as goal

part_of : (n : ℕ) → n ≤ BLOCKS_BYTES → length (take n (replicate {A = ℕ} BLOCKS_BYTES 0)) ≡ n
part_of n small = length-take-le n (replicate BLOCKS_BYTES 0)
    (omega (arith, small, length-replicate {A = ℕ} BLOCKS_BYTES 0))

pub returns-clause-content : goal.returns-clause-content
returns-clause-content g c b told ends =
    let kept = c.args.kept in
    let from = c.args.from in
    let count = c.min-count.result in
    let within = c.requires.from in
    let count_is : count ≡ min BLOCKS_CONTENT (kept.bytes - BLOCKS_CONTENT * from) =
    omega (arith, c.min-count.ensures) in
    let read = c.in_ok-read_at.ensures in
    let room : length (take count c.args.into.now) ≡ count =
    length-take-le count c.args.into.now (omega (arith, count_is, c.told-into)) in
    let taken = subst (λ (n : ℕ). c.content_of_blocks.new.into
    ≡ take n (block_content (blocks_for n) c.read_at.new.into)) room
    c.content_of_blocks.ensures in
    let size : length c.content_of_blocks.new.into ≡ count = c.content_of_blocks.auto.into ∙ room in
    let place : c.snapshot_place.result + ROW_BYTES + BLOCKS_BYTES * from ≡ snapshot_place kept.rows
    + ROW_BYTES + BLOCKS_BYTES * from =
    ap (λ (n : ℕ). n + ROW_BYTES + BLOCKS_BYTES * from) c.snapshot_place.ensures in
    let long : length c.read_at.new.into ≡ ROW_BYTES * blocks_for count = c.read_at.auto.into
    ∙ part_of (ROW_BYTES * c.blocks_for.result) (omega (arith, c.blocks_for.ensures, count_is))
    ∙ ap (λ (n : ℕ). ROW_BYTES * n) c.blocks_for.ensures in
    take_at c.content_of_blocks.new.into _ count size
    ∙ content_from kept.rows kept.bytes from b c.read_at.new.into c.content_of_blocks.new.into
    count c.in_ok-read_at.field-0 ends within count_is long
    (subst (λ (p : ℕ). c.in_ok-read_at.field-0
    ≡ min (length c.read_at.new.into) (length b - p)) place (read.count b told))
    (subst (λ (p : ℕ). take c.in_ok-read_at.field-0 c.read_at.new.into
    ≡ take c.in_ok-read_at.field-0 (drop p b)) place (read.bytes b told))
    taken
