use Rattle.std.proofs.Common.{◌≡◌, ◌<◌, [], ◌∷◌, ◌++◌, length, count_by, List, None, is_some, ap, sym, ◌∙◌, subst, arith}
use Rattle.balanced_tree.specs.Trees.{items}
use Rattle.book_words.specs.declared.name.Name.{Name}
use Rattle.book_words.specs.Order.{place_of}
use Rattle.book_words.proofs.PlaceLemmas.{apart_push}
use Rattle.name_table.specs.Named.{Named}
use Rattle.name_table.specs.Search.{precedes, AreApart}
use Rattle.name_table.proofs.NewNames.{order_made}
use Rattle.name_table.proofs.table.NameTable.push.Goals as goal

pub count_before-place-requires-clause-falls : goal.count_before-place-requires-clause-falls
count_before-place-requires-clause-falls c =
    rw c.deref.ensures.value (c.self.invariant.order.falls c.args.name.now)

pub invariant_of-self : goal.invariant_of-self
invariant_of-self c =
    let table = c.self.inside in
    let kept = c.self.invariant in
    let names = table.names.items in
    let name = c.args.name.now in
    let room : 0 < table.spare = omega
    (arith, c.requires.room, ap (λ (t : Named). t.spare) c.self.view_is) in
    let absent : place_of names name ≡ None =
    ap (λ (t : Named). place_of t.names name) c.self.view_is ∙ c.requires.absent in
    let pushed : c.push.new.self.items ≡ names ++ name ∷ [] = c.in-Ok.ensures.items in
    let made = rw c.replace.ensures.value at c.insert.ensures.items in
    let at = c.count_before-place.ensures
    ∙ ap (λ (ns : List Name). count_by (precedes ns name) (items table.order)) c.deref.ensures.value in
    let number : c.len-number.result ≡ length names =
    omega (arith, c.len-number.ensures, table.names.ok.0) in
    record {
      balanced = c.insert.ensures.balanced;
      order = order_made names c.push.new.self.items name (items table.order)
          (items c.insert.result) c.count_before-place.result c.len-number.result pushed made at
          number kept.order;
      apart = subst AreApart (sym pushed) (apart_push names name kept.apart (ap is_some absent));
      room = omega (arith, kept.room, room, c.in-Ok.ensures.len, c.in-Ok.ensures.capacity);
      few = omega (arith, kept.few, room, c.in-Ok.ensures.len);
      nodes = omega (arith, kept.nodes, room, c.in-Some.ensures.len);
    }
