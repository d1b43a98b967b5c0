use Rattle.std.proofs.lemmas.List.{nil_from_length}
use Rattle.std.proofs.Common.{rules, ◌≡◌, ◌<◌, length, ◌∙◌}
use Rattle.std.proofs.lemmas.Result.{err_from_is_err_and}
use Rattle.text_streams.specs.Streams.{input_at}
use Rattle.text_streams.proofs.ReadingLemmas.{taken_whole}
use Rattle.text_streams.proofs.WholeReading.{unbegun, taken_next, stops_adding, stops_unread}
use Rattle.text_streams.proofs.whole.read_whole.Goals as goal

pub returns-in_default-clause-stops : goal.returns-in_default-clause-stops
returns-in_default-clause-stops g c = unbegun c.args.most (input_at g.S.Source c.args.input.now)

pub returns-in_err-read-clause-stops : goal.returns-in_err-read-clause-stops
returns-in_err-read-clause-stops g c =
    let p = err_from_is_err_and c.from_residual.result c.from_residual.ensures.1 in
    let inv = c.loop-bytes.invariant in
    rw (p.1, p.2) (stops_unread c.args.most (input_at g.S.Source c.args.input.now)
    (input_at g.S.Source c.loop-bytes.input) (input_at g.S.Source c.read.new.input)
    c.loop-bytes.reader c.loop-bytes.bytes.items c.in_err-read.field-0.0 inv.taken inv.most
    inv.short c.in_err-read.ensures.none)

pub returns-then-is_empty-clause-whole : goal.returns-then-is_empty-clause-whole
returns-then-is_empty-clause-whole g c =
    let none : length c.read.new.self.piece ≡ 0 = search rules in
    let empty = nil_from_length c.read.new.self.piece none in
    taken_whole (input_at g.S.Source c.args.input.now) (input_at g.S.Source c.loop-bytes.input)
    (input_at g.S.Source c.read.new.input) c.loop-bytes.reader c.read.new.self
    c.loop-bytes.reader.reads c.loop-bytes.bytes.items c.loop-bytes.invariant.taken
    c.in_ok-read.ensures.takes empty (c.in_ok-read.ensures.at_end empty)

pub returns-in_err-add_piece-clause-stops : goal.returns-in_err-add_piece-clause-stops
returns-in_err-add_piece-clause-stops g c =
    let p = err_from_is_err_and c.from_residual-in_err-add_piece.result
    c.from_residual-in_err-add_piece.ensures.1 in
    let some : 0 < length c.read.new.self.piece = search rules in
    rw (p.1, p.2) (stops_adding c.args.most (input_at g.S.Source c.args.input.now)
    (input_at g.S.Source c.loop-bytes.input) (input_at g.S.Source c.read.new.input)
    c.loop-bytes.reader c.read.new.self c.loop-bytes.bytes.items
    c.piece-in-loop-bytes.result.now c.in_err-add_piece.field-0.0 c.loop-bytes.invariant.taken
    c.in_ok-read.ensures.takes some c.piece-in-loop-bytes.ensures
    c.in_err-add_piece.ensures.stops)

pub loop-bytes-init : goal.loop-bytes-init
loop-bytes-init g c =
    let input = input_at g.S.Source c.args.input.now in
    record {
      taken = search rules;
      most = search rules;
      short = search rules;
      unended = c.requires.unended;
    }

pub loop-bytes-preserved : goal.loop-bytes-preserved
loop-bytes-preserved g c =
    let inv = c.loop-bytes.invariant in
    let takes = c.in_ok-read.ensures.takes in
    let some : 0 < length c.read.new.self.piece = search rules in
    record {
      taken = taken_next (input_at g.S.Source c.args.input.now)
          (input_at g.S.Source c.loop-bytes.input) (input_at g.S.Source c.read.new.input)
          c.loop-bytes.reader c.read.new.self c.loop-bytes.bytes.items
          c.piece-in-loop-bytes.result.now c.add_piece.new.bytes.items inv.taken takes some
          c.piece-in-loop-bytes.ensures c.in_ok-add_piece.ensures.added;
      most = takes.same ∙ inv.most;
      short = c.in_ok-add_piece.ensures.short;
      unended = search rules;
    }
