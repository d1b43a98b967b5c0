use Rattle.std.proofs.Common.{◌≡◌, ◌-◌, ◌<◌, ◌≤◌, false, true≢false, [], ◌++◌, length, take, sym, ◌∙◌, ap, arith, append-nil, length-take-le, rules}
use Rattle.std.proofs.KnownBytes.{Consumes-nil, Consumes-kept}
use Rattle.std.proofs.lemmas.Bool.{eqb-true}
use Rattle.std.proofs.lemmas.List.{with_items_is, places}
use borrow.Rule.Slice.PartMut.{post_of}
use Rattle.office_door.specs.Steps.{HeldView}
use Rattle.office_door.proofs.HeldBytes.{read_behind, kept_front, end_known}
use Rattle.office_door.proofs.held.Held.read_from.Goals as goal

pub returns-in_err-count-clause-reads : goal.returns-in_err-count-clause-reads
returns-in_err-count-clause-reads g c =
    let buffer = c.self.inside.buffer in
    let count = c.self.inside.count in
    let lent = c.deref_mut.result.now in
    let post = post_of count (length lent - count) lent in
    let front = take count lent in
    let view : take count buffer.items ≡ c.args.self.now.bytes =
    ap (λ (h : HeldView). h.bytes) c.self.view_is in
    let inside : count ≤ length lent =
    omega (arith, c.self.invariant.0, c.self.invariant.1, ap length c.deref_mut.ensures.value) in
    let items = with_items_is buffer (front ++ (c.read.new.into ++ post))
    (search (rules, places)) in
    let none : c.self.inside.ended ≡ false =
    ap (λ (h : HeldView). h.ended) c.self.view_is ∙ c.requires.known in
    let kept = c.in_err-count.ensures.bytes in
    let left = g.O.Source.left c.args.door.now in
    let consumed = Consumes-kept left left (g.O.Source.left c.read.new.self) [] (Consumes-nil left)
    kept in
    record {
      bytes = [];
      held = kept_front front c.args.self.now.bytes (c.read.new.into ++ post) _ count
          (length-take-le count lent inside)
          (ap (take count) c.deref_mut.ensures.value ∙ view) items
          ∙ sym (append-nil c.args.self.now.bytes);
      consumed = consumed;
      connections = g.met.O.Door.read_adds c.args.door.now c.read.new.self [] c.read.ensures.rest
          consumed;
      ended = c.in_err-count.ensures.end ∙ sym none;
      at_end = λ end. absurd (true≢false (sym end ∙ none));
    }

pub returns-clause-reads : goal.returns-clause-reads
returns-clause-reads g c =
    let buffer = c.self.inside.buffer in
    let count = c.self.inside.count in
    let more = c.in_ok-count.count in
    let lent = c.deref_mut.result.now in
    let into = c.read.new.into in
    let post = post_of count (length lent - count) lent in
    let front = take count lent in
    let view : take count buffer.items ≡ c.args.self.now.bytes =
    ap (λ (h : HeldView). h.bytes) c.self.view_is in
    let inside : count ≤ length lent =
    omega (arith, c.self.invariant.0, c.self.invariant.1, ap length c.deref_mut.ensures.value) in
    let items = with_items_is buffer (front ++ (into ++ post)) (search (rules, places)) in
    let some : 0 < length into = search rules in
    let bytes = c.in_ok-count.ensures.bytes in
    record {
      bytes = take more into;
      held = read_behind front c.args.self.now.bytes into post _ count more
          (length-take-le count lent inside)
          (ap (take count) c.deref_mut.ensures.value ∙ view) c.in_ok-count.ensures.bound items;
      consumed = bytes.0;
      connections = g.met.O.Door.read_adds c.args.door.now c.read.new.self (take more into)
          c.read.ensures.rest bytes.0;
      ended = c.in_ok-count.ensures.end ∙ end_known more into some;
      at_end = λ end. bytes.1 (eqb-true more 0 end) some;
    }

pub returns-in_err-count-clause-missed : goal.returns-in_err-count-clause-missed
returns-in_err-count-clause-missed g c =
    g.met.O.Door.read_misses_none c.args.door.now c.read.new.self c.read.ensures.rest

pub returns-clause-missed : goal.returns-clause-missed
returns-clause-missed g c =
    g.met.O.Door.read_misses_none c.args.door.now c.read.new.self c.read.ensures.rest
