use Rattle.std.proofs.Common.{◌∙◌, sym}
use Rattle.book_packs.specs.Entering.{IsTarePut}
use Rattle.book_state.proofs.EntryFacts.{there, tare_product}
use Rattle.book_state.proofs.entering.put_tare.Goals as goal

pub unreachable-requires : goal.unreachable-requires
unreachable-requires c =
    there _ (tare_product c.requires.next.0 c.requires.next.1 c.args.product.now
    c.args.dated.now.day c.args.dated.now.tare c.requires.next.2.next c.requires.next.3)
    (sym (c.product_number.ensures.number c.requires.next.0 c.requires.next.2.index) ∙ c.in_default.is)

pub put_counted-requires-clause-next : goal.put_counted-requires-clause-next
put_counted-requires-clause-next c =
    let put : IsTarePut c.requires.next.0 c.requires.next.1 c.in-Some.number c.args.dated.now.day
    c.args.dated.now.tare =
    record {
      next = c.requires.next.2.next;
      name = c.args.product.now;
      act = c.requires.next.3;
      number =
          sym (c.in-Some.ensures.number c.requires.next.0 c.requires.next.2.index);
    } in
    record {
      entries = c.requires.next.0;
      entry = c.requires.next.1;
      stands = c.requires.next.2.packs;
      is =
          put;
    }

pub returns-clause-kept : goal.returns-clause-kept
returns-clause-kept c =
    λ entries entry enters act.
    let put : IsTarePut entries entry c.in-Some.number c.args.dated.now.day
    c.args.dated.now.tare =
    record {
      next = enters.next;
      name = c.args.product.now;
      act = act;
      number =
          sym (c.in-Some.ensures.number entries enters.index);
    } in
    c.put_counted.ensures.kept entries entry enters.packs put
