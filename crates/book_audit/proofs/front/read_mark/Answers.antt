use Rattle.std.proofs.Common.{◌≤◌, inl, inr, length, refl, arith}
use Rattle.book_snapshot.specs.declared.layout.TheConstants.{MARK, ROW_BYTES}
use Rattle.book_journal.proofs.Fronts.{header_read, difference_read, no_header}
use Rattle.book_audit.proofs.front.read_mark.Goals as goal

pub returns-in_default-difference-clause-front : goal.returns-in_default-difference-clause-front
returns-in_default-difference-clause-front g c b told size =
    let long : ROW_BYTES ≤ length b = omega (arith, size, c.if-size.false) in
    let same = c.in-Ok.ensures.front b told long in
    inl (header_read b c.in-Ok.front long same c.in_default-difference.ensures, same MARK (omega arith))

pub returns-then-size-2-clause-refused : goal.returns-then-size-2-clause-refused
returns-then-size-2-clause-refused g c b told size =
    let long : ROW_BYTES ≤ length b = omega (arith, size, c.if-size.false) in
    let same = c.in-Ok.ensures.front b told long in
    record {
      long = omega (arith, size, c.if-size-2.true);
      differs = difference_read b c.in-Ok.front c.in-Some.place same c.in-Some.ensures;
    }

pub returns-clause-front : goal.returns-clause-front
returns-clause-front g c b told size =
    let long : ROW_BYTES ≤ length b = omega (arith, size, c.if-size.false) in
    let same = c.in-Ok.ensures.front b told long in
    inr (
      record {
        foreign = no_header b c.in-Some.place
            (difference_read b c.in-Ok.front c.in-Some.place same c.in-Some.ensures);
        short = omega (arith, size, c.if-size-2.false);
      },
      refl,
    )
