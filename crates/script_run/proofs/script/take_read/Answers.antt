use Rattle.std.proofs.lemmas.List.{nil_from_length}
use Rattle.std.proofs.Common.{rules, ◌≡◌, ◌<◌, List, ℕ, length, Ok, Err, refl, subst}
use Rattle.std.specs.Bool.{⊤}
use Rattle.std.proofs.lemmas.Result.{err_from_is_err_and}
use Rattle.store_runs.proofs.StoreSteps.{goes_as}
use Rattle.script_session.specs.Outside.{devices, outside_at}
use Rattle.script_session.specs.Sessions.{book_in, store_in, log_in}
use Rattle.script_run.specs.Books.{run_state}
use Rattle.script_run.specs.Reached.{Steps}
use Rattle.script_run.proofs.RunEnds.{explained_after, explained_last, read_whole, explained_unread, goes_unread}
use Rattle.script_run.proofs.script.take_read.Goals as goal

pub returns-in_err-read-clause-explained : goal.returns-in_err-read-clause-explained
returns-in_err-read-clause-explained g c = λ book before has most.
    let p = err_from_is_err_and c.from_residual.result c.from_residual.ensures.1 in
    rw (p.1, p.2) (explained_unread book before
    (devices g.S.Source c.args.input.now (outside_at g.K.Sink g.L.Cell g.L.Gate c.args.output.now
    c.args.lanes.now
    (log_in c.args.run.now.session)))
    (devices g.S.Source c.read.new.input (outside_at g.K.Sink g.L.Cell g.L.Gate c.args.output.now
    c.args.lanes.now
    (log_in c.args.run.now.session))) c.args.reader.now
    (run_state c.args.run.now) c.in_err-read.field-0.0
    has c.in_err-read.ensures.none most refl)

pub returns-in_err-read-clause-goes : goal.returns-in_err-read-clause-goes
returns-in_err-read-clause-goes g c =
    let p = err_from_is_err_and c.from_residual.result c.from_residual.ensures.1 in
    rw (p.1, p.2) (goes_unread g.D.Disk c.in_err-read.field-0.0 (store_in c.args.run.now.session))

pub returns-in_err-finish_line-clause-explained : goal.returns-in_err-finish_line-clause-explained
returns-in_err-finish_line-clause-explained g c = λ book before has most.
    let p = err_from_is_err_and c.from_residual-in_err-finish_line.result
    c.from_residual-in_err-finish_line.ensures.1 in
    let none : length c.read.new.self.piece ≡ 0 = search rules in
    let empty = nil_from_length c.read.new.self.piece none in
    rw (p.1, p.2) (explained_last book before
    (devices g.S.Source c.args.input.now (outside_at g.K.Sink g.L.Cell g.L.Gate c.args.output.now
    c.args.lanes.now
    (log_in c.args.run.now.session)))
    (devices g.S.Source c.read.new.input (outside_at g.K.Sink g.L.Cell g.L.Gate
    c.finish_line.new.output c.finish_line.new.lanes
    (log_in c.finish_line.new.self.session))) c.args.reader.now
    c.read.new.self
    (run_state c.args.run.now) (run_state c.finish_line.new.self) c.in_err-finish_line.field-0.0 has
    c.in_ok-read.ensures.takes empty (c.in_ok-read.ensures.at_end empty)
    (c.in_err-finish_line.ensures.stops book before.outside has.taken has.reached))

pub returns-in_err-finish_line-clause-goes : goal.returns-in_err-finish_line-clause-goes
returns-in_err-finish_line-clause-goes g c =
    let p = err_from_is_err_and c.from_residual-in_err-finish_line.result
    c.from_residual-in_err-finish_line.ensures.1 in
    rw (p.1, p.2) (goes_as g.D.Disk c.in_err-finish_line.field-0.0 (store_in c.args.run.now.session)
    (store_in c.finish_line.new.self.session) c.in_err-finish_line.ensures.goes)

pub returns-then-is_empty-clause-explained : goal.returns-then-is_empty-clause-explained
returns-then-is_empty-clause-explained g c = λ book before has most.
    let none : length c.read.new.self.piece ≡ 0 = search rules in
    let empty = nil_from_length c.read.new.self.piece none in
    read_whole book (book_in c.finish_line.new.self.session) before
    (devices g.S.Source c.args.input.now (outside_at g.K.Sink g.L.Cell g.L.Gate c.args.output.now
    c.args.lanes.now
    (log_in c.args.run.now.session)))
    (devices g.S.Source c.read.new.input (outside_at g.K.Sink g.L.Cell g.L.Gate
    c.finish_line.new.output c.finish_line.new.lanes
    (log_in c.finish_line.new.self.session))) c.args.reader.now
    c.read.new.self
    (run_state c.args.run.now) has c.in_ok-read.ensures.takes empty
    (c.in_ok-read.ensures.at_end empty)
    (c.in_ok-finish_line.ensures.whole book before.outside has.taken has.reached)

pub returns-in_err-take_piece-clause-explained : goal.returns-in_err-take_piece-clause-explained
returns-in_err-take_piece-clause-explained g c = λ book before has most.
    let p = err_from_is_err_and c.from_residual-in_err-take_piece.result
    c.from_residual-in_err-take_piece.ensures.1 in
    let some : 0 < length c.read.new.self.piece = search rules in
    let stop = c.in_err-take_piece.field-0.0 in
    rw (p.1, p.2) (explained_after {T = ⊤} book before
    (devices g.S.Source c.args.input.now (outside_at g.K.Sink g.L.Cell g.L.Gate c.args.output.now
    c.args.lanes.now
    (log_in c.args.run.now.session)))
    (devices g.S.Source c.read.new.input (outside_at g.K.Sink g.L.Cell g.L.Gate
    c.take_piece.new.output c.take_piece.new.lanes
    (log_in c.take_piece.new.self.session))) c.args.reader.now
    c.read.new.self
    (run_state c.args.run.now) (run_state c.take_piece.new.self)
    (Err stop) has c.in_ok-read.ensures.takes some
    (subst (λ (bytes : List ℕ). Steps (outside_at g.K.Sink g.L.Cell g.L.Gate c.args.output.now
    c.args.lanes.now
    (log_in c.args.run.now.session))
    (outside_at g.K.Sink g.L.Cell g.L.Gate c.take_piece.new.output c.take_piece.new.lanes
    (log_in c.take_piece.new.self.session)) (run_state c.args.run.now)
    (run_state c.take_piece.new.self) bytes {T = ⊤} (Err stop)) c.piece-piece.ensures
    c.in_err-take_piece.ensures.steps))

pub returns-in_err-take_piece-clause-goes : goal.returns-in_err-take_piece-clause-goes
returns-in_err-take_piece-clause-goes g c =
    let p = err_from_is_err_and c.from_residual-in_err-take_piece.result
    c.from_residual-in_err-take_piece.ensures.1 in
    rw (p.1, p.2) (goes_as g.D.Disk c.in_err-take_piece.field-0.0 (store_in c.args.run.now.session)
    (store_in c.take_piece.new.self.session) c.in_err-take_piece.ensures.goes)

pub returns-clause-explained : goal.returns-clause-explained
returns-clause-explained g c = λ book before has most.
    let some : 0 < length c.read.new.self.piece = search rules in
    explained_after {T = ⊤} book before
    (devices g.S.Source c.args.input.now (outside_at g.K.Sink g.L.Cell g.L.Gate c.args.output.now
    c.args.lanes.now
    (log_in c.args.run.now.session)))
    (devices g.S.Source c.read.new.input (outside_at g.K.Sink g.L.Cell g.L.Gate
    c.take_piece.new.output c.take_piece.new.lanes
    (log_in c.take_piece.new.self.session))) c.args.reader.now
    c.read.new.self
    (run_state c.args.run.now) (run_state c.take_piece.new.self)
    (Ok tt) has c.in_ok-read.ensures.takes some
    (subst (λ (bytes : List ℕ). Steps (outside_at g.K.Sink g.L.Cell g.L.Gate c.args.output.now
    c.args.lanes.now
    (log_in c.args.run.now.session))
    (outside_at g.K.Sink g.L.Cell g.L.Gate c.take_piece.new.output c.take_piece.new.lanes
    (log_in c.take_piece.new.self.session)) (run_state c.args.run.now)
    (run_state c.take_piece.new.self) bytes {T = ⊤} (Ok tt)) c.piece-piece.ensures
    c.in_ok-take_piece.ensures.steps)
