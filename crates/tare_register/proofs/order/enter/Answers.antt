use Rattle.std.proofs.Common.{◌≡◌, length, arith, vec_len}
use Rattle.balanced_tree.specs.Trees.{items}
use Rattle.tare_register.specs.InOrder.{IsCut, entries_at, key_of}
use Rattle.tare_register.proofs.PlacedEntries.{index_put}
use Rattle.tare_register.proofs.order.enter.Goals as goal

pub returns-clause-index : goal.returns-clause-index
returns-clause-index c =
    let entries = c.args.entries.now.items in
    let order = c.args.order.now in
    let cut : IsCut (key_of c.args.entry.now) c.count_up_to-count.result
    (entries_at entries (items order)) = rw (c.deref.ensures.value, c.key_of.ensures) at
    c.count_up_to-count.ensures in
    let long : vec_len c.args.entries.now ≡ length entries = omega (arith, c.args.entries.now.ok.0) in
    let made = rw (c.replace.ensures.value, c.len.ensures, long) at c.insert.ensures.items in
    rw c.push_reserved.ensures.items
    (index_put entries order c.requires.index c.args.entry.now c.count_up_to-count.result cut
    c.insert.result c.insert.ensures.balanced made (omega (arith, c.requires.few, long)))
