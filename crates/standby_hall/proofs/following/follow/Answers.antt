use Rattle.std.proofs.Common.{rules, Err, refl}
use Rattle.std.proofs.lemmas.Result.{err_from_is_err_and}
use Rattle.book_store.specs.Stores.{entries_of}
use Rattle.text_streams.specs.Streams.{input_at}
use Rattle.standby_hall.specs.Several.{AnswersFollow}
use Rattle.standby_hall.proofs.SeveralSteps.{several_alone}
use Rattle.standby_hall.proofs.following.follow.Goals as goal

pub returns-in_err-follow_shipments-clause-answered :
    goal.returns-in_err-follow_shipments-clause-answered
returns-in_err-follow_shipments-clause-answered g c =
    let p = err_from_is_err_and c.from_residual.result c.from_residual.ensures.1 in
    let stop = c.in_err-follow_shipments.field-0.0 in
    rw (p.1, p.2) (record {
      result = Err stop;
      told = refl;
      explained = several_alone (entries_of c.args.store.now)
          (input_at g.S.Source c.args.input.now)
          (input_at g.S.Source c.follow_shipments.new.input)
          (entries_of c.follow_shipments.new.store) (Err stop)
          c.in_err-follow_shipments.ensures.explained;
      goes = c.in_err-follow_shipments.ensures.goes;
    })

pub returns-clause-answered : goal.returns-clause-answered
returns-clause-answered g c = record {
  result = c.follow_shipments.result;
  told = search rules;
  explained = several_alone (entries_of c.args.store.now) (input_at g.S.Source c.args.input.now)
      (input_at g.S.Source c.follow_shipments.new.input) (entries_of c.follow_shipments.new.store)
      c.follow_shipments.result c.follow_shipments.ensures.explained;
  goes = c.follow_shipments.ensures.goes;
}
