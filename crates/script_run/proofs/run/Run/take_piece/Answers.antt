use Rattle.std.proofs.Common.{◌≡◌, ℕ, List, ◌++◌, ◌∷◌, [], length, Ok, Err, sym, ap, ◌∙◌, append_assoc, length-append, subst, arith}
use Rattle.std.specs.Bool.{⊤}
use Rattle.std.proofs.lemmas.Result.{err_from_is_err_and}
use Rattle.script_session.specs.Sessions.{store_in, log_in, IsReady}
use Rattle.script_run.specs.Books.{run_state}
use Rattle.script_session.specs.declared.session.Session.{Session}
use Rattle.script_session.specs.Outside.{LogView, outside_at}
use Rattle.script_run.specs.Reached.{ReachedMore}
use Rattle.store_runs.proofs.StoreSteps.{goes_on}
use Rattle.script_run.proofs.LastCalls.{on_ok}
use Rattle.script_run.proofs.ByteSteps.{steps_on, steps_stop, steps_last}
use Rattle.script_run.proofs.run.Run.take_piece.Goals as goal

-- the rest of a piece is a line, its LF and what follows
line_first : (piece first rest part after : List ℕ) → piece ≡ first ++ rest
    → rest ≡ part ++ 10 ∷ after → piece ≡ first ++ ((part ++ 10 ∷ []) ++ after)
line_first piece first rest part after parts is = parts
    ∙ ap (λ bytes. first ++ bytes) (is ∙ sym (append_assoc part (10 ∷ []) after))

pub returns-in_err-end_line-clause-steps : goal.returns-in_err-end_line-clause-steps
returns-in_err-end_line-clause-steps g c =
    let p = err_from_is_err_and c.from_residual.result c.from_residual.ensures.1 in
    let over = c.loop-part.invariant.over in
    let part = c.in-Some.part.now in
    let after = c.in-Some.after.now in
    rw (p.1, p.2)
    (rw (line_first c.args.piece.now over.first c.loop-part.rest.now part after over.parts
    c.in-Some.ensures.0)
    (steps_stop _ _ _ (run_state c.args.self.now) (run_state c.loop-part.self) _ over.first
    (part ++ 10 ∷ []) after c.in_err-end_line.field-0.0 over.on
    c.in_err-end_line.ensures.steps))

pub loop-part-preserved : goal.loop-part-preserved
loop-part-preserved g c =
    let over = c.loop-part.invariant.over in
    let part = c.in-Some.part.now in
    let after = c.in-Some.after.now in
    record {
      over = record {
        first = over.first ++ (part ++ 10 ∷ []);
        parts = line_first c.args.piece.now over.first c.loop-part.rest.now part after over.parts
            c.in-Some.ensures.0 ∙ sym (append_assoc over.first (part ++ 10 ∷ []) after);
        on = steps_on _ _ _ (run_state c.args.self.now) (run_state c.loop-part.self)
            (run_state c.end_line.new.self) over.first
            (part ++ 10 ∷ []) over.on c.in_ok-end_line.ensures.steps;
      };
      goes = goes_on g.D.Disk tt (Ok tt) (store_in c.args.self.now.session)
          (store_in c.loop-part.self.session)
          (store_in c.end_line.new.self.session) c.loop-part.invariant.goes
          c.in_ok-end_line.ensures.goes;
      ready = c.in_ok-end_line.ensures.ready;
      lanes = c.end_line.auto.lanes ∙ c.loop-part.invariant.lanes;
      few = omega (
        arith,
        c.end_line.ensures.one,
        c.loop-part.invariant.few,
        ap length c.in-Some.ensures.0,
        length-append part (10 ∷ after),
      );
    }

pub returns-clause-steps : goal.returns-clause-steps
returns-clause-steps g c =
    let over = c.loop-part.invariant.over in
    let now = outside_at g.K.Sink g.L.Cell g.L.Gate c.loop-part.output c.loop-part.lanes
    (log_in c.begin_line.new.self.session) in
    let on = subst (λ (l : LogView). ReachedMore
    (outside_at g.K.Sink g.L.Cell g.L.Gate c.args.output.now c.args.lanes.now
    (log_in c.args.self.now.session))
    (outside_at g.K.Sink g.L.Cell g.L.Gate c.loop-part.output c.loop-part.lanes l)
    (run_state c.args.self.now) (run_state c.loop-part.self) over.first)
    (sym (ap (λ (s : Session _). log_in s) c.begin_line.ensures.session)) over.on in
    rw over.parts (steps_last {T = ⊤} _ now now (run_state c.args.self.now)
    (run_state c.loop-part.self) (run_state c.begin_line.new.self) over.first
    c.loop-part.rest.now c.begin_line.result on (c.begin_line.ensures.steps now))

pub returns-in_err-end_line-clause-goes : goal.returns-in_err-end_line-clause-goes
returns-in_err-end_line-clause-goes g c =
    let p = err_from_is_err_and c.from_residual.result c.from_residual.ensures.1 in
    rw (p.1, p.2) (goes_on g.D.Disk tt (Err c.in_err-end_line.field-0.0)
    (store_in c.args.self.now.session) (store_in c.loop-part.self.session)
    (store_in c.end_line.new.self.session) c.loop-part.invariant.goes
    c.in_err-end_line.ensures.goes)

pub returns-clause-goes : goal.returns-clause-goes
returns-clause-goes g c =
    goes_on g.D.Disk tt c.begin_line.result
    (store_in c.args.self.now.session) (store_in c.loop-part.self.session)
    (store_in c.begin_line.new.self.session) c.loop-part.invariant.goes c.begin_line.ensures.goes

pub returns-clause-ready : goal.returns-clause-ready
returns-clause-ready g c =
    on_ok c.begin_line.result
    (subst (λ (s : Session _). IsReady s) (sym c.begin_line.ensures.session)
    c.loop-part.invariant.ready)
