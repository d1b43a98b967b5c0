use Rattle.std.proofs.Common.{length, refl}
use Rattle.book_audit.proofs.Agreeing.{differs_as}
use Rattle.book_audit.proofs.beside.compare.Goals as goal

pub returns : goal.returns
returns c = (
  differs_as c.args.book.now.entries c.args.says c.args.content.now c.agree-agreed.result
      c.len.result (length c.args.content.now) c.len.ensures refl c.agree-agreed.ensures
      (λ all.
      let yes = c.agrees_all.ensures.1 all in
      let shut = c.if-agrees_all.false in
      absurd cc),
  refl,
)
