use Rattle.std.proofs.Common.{ap, sym, ◌∙◌, arith}
use Rattle.std.proofs.lemmas.List.Edits.{length-remove}
use Rattle.balanced_tree.specs.Trees.{items}
use Rattle.pack_groups.specs.Rising.{mass_of}
use Rattle.pack_groups.proofs.OrderLemmas.{below, IsRising-remove}
use Rattle.pack_groups.proofs.GrossOrder.{within_order, taken_out}
use Rattle.pack_groups.proofs.grosses.Grosses.remove.Goals as goal

pub remove-rest-requires-clause-within : goal.remove-rest-requires-clause-within
remove-rest-requires-clause-within c =
    let old = items c.self.inside.tree in
    let at = c.place-place.ensures ∙ ap (below mass_of c.args.gross) (sym c.self.view_is) in
    let some = rw (← c.self.view_is) at c.requires.contained in
    rw c.replace-tree.ensures.value
    (within_order old old c.place-place.result c.args.gross c.self.invariant.1 some at)

pub invariant_of-self : goal.invariant_of-self
invariant_of-self c =
    let old = items c.self.inside.tree in
    let at = c.place-place.ensures ∙ ap (below mass_of c.args.gross) (sym c.self.view_is) in
    let some = rw (← c.self.view_is) at c.requires.contained in
    let within = within_order old old c.place-place.result c.args.gross c.self.invariant.1 some at in
    let made = rw c.replace-tree.ensures.value at c.remove-rest.ensures.items in
    let shorter = length-remove old c.place-place.result within in (
      c.remove-rest.ensures.balanced,
      rw made (IsRising-remove mass_of old c.place-place.result c.self.invariant.1),
      rw made (omega (arith, shorter, c.self.invariant.2)),
    )

pub returns : goal.returns
returns c =
    let old = items c.self.inside.tree in
    let at = c.place-place.ensures ∙ ap (below mass_of c.args.gross) (sym c.self.view_is) in
    let some = rw (← c.self.view_is) at c.requires.contained in
    let made = rw c.replace-tree.ensures.value at c.remove-rest.ensures.items in
    rw (← c.self.view_is) (taken_out old
    (items c.remove-rest.result.0) c.place-place.result c.args.gross c.self.invariant.1 some at
    made)
