use Rattle.std.proofs.Common.{◌∙◌, ap, arith}
use Rattle.std.specs.List.{slice_split}
use Rattle.paper_form.specs.Papers.{is_line_end}
use Rattle.std.proofs.lemmas.Result.{err_from_is_err_and}
use Rattle.paper_form.specs.Form.{Draft, ends_with, read_on, paper_in}
use Rattle.paper_form.specs.Drafts.{draft_of, size_of}
use Rattle.paper_form.proofs.ReadingOn.{reads_next, unread_next, ends_read, ok_read, err_unread, paper_in-begins}
use Rattle.paper_form.proofs.WholePapers.{ok_paper, ok_lines}
use Rattle.paper_form.proofs.paper.read_paper.Goals as goal

pub loop-text-preserved : goal.loop-text-preserved
loop-text-preserved c =
    let inv = c.loop-text.invariant in
    record {
      reads = reads_next c.loop-text.line (draft_of c.loop-text.reading)
          (draft_of c.take_text.new.reading)
          c.loop-text.rest.now c.in-Some.text.now c.in-Some.after.now (paper_in c.args.bytes.now)
          inv.reads c.in-Some.ensures.pieces c.in_ok-take_text.ensures.taken;
      listed = c.in_ok-take_text.ensures.listed;
      size = omega (arith, inv.size, c.in_ok-take_text.ensures.longer);
      few = omega (arith, inv.few, c.in-Some.ensures.shorter);
    }

pub returns-in_err-take_text-clause-unread : goal.returns-in_err-take_text-clause-unread
returns-in_err-take_text-clause-unread c =
    let p = err_from_is_err_and c.from_residual.result c.from_residual.ensures.1 in
    rw (p.1, p.2) (unread_next c.loop-text.line (draft_of c.loop-text.reading) c.loop-text.rest.now
    c.in-Some.text.now c.in-Some.after.now (paper_in c.args.bytes.now) c.in_err-take_text.field-0.0
    c.loop-text.invariant.reads c.in-Some.ensures.pieces c.in_err-take_text.ensures.refused)

pub loop-text-init : goal.loop-text-init
loop-text-init c =
    record {
      reads = ap (λ (d : Draft). read_on 1 d (slice_split is_line_end c.args.bytes.now))
          c.begin-reading.ensures.value ∙ paper_in-begins c.args.bytes.now;
      listed = c.begin-reading.ensures.listed;
      size = omega (arith, ap size_of c.begin-reading.ensures.value);
      few = omega arith;
    }

pub returns-clause-read : goal.returns-clause-read
returns-clause-read c =
    ok_read c.end.result
    (ends_with c.loop-text.line (draft_of c.loop-text.reading) c.loop-text.rest.now)
    (paper_in c.args.bytes.now)
    (ends_read c.loop-text.line (draft_of c.loop-text.reading) c.loop-text.rest.now
    (paper_in c.args.bytes.now) c.loop-text.invariant.reads c.in_default.ensures.pieces)
    c.end.ensures.read

pub returns-clause-unread : goal.returns-clause-unread
returns-clause-unread c =
    err_unread c.end.result
    (ends_with c.loop-text.line (draft_of c.loop-text.reading) c.loop-text.rest.now)
    (paper_in c.args.bytes.now)
    (ends_read c.loop-text.line (draft_of c.loop-text.reading) c.loop-text.rest.now
    (paper_in c.args.bytes.now) c.loop-text.invariant.reads c.in_default.ensures.pieces)
    c.end.ensures.unread

pub returns-clause-paper : goal.returns-clause-paper
returns-clause-paper c =
    ok_paper c.args.bytes.now c.end.result (returns-clause-read c) c.end.ensures.listed

pub returns-clause-lines : goal.returns-clause-lines
returns-clause-lines c = ok_lines c.args.bytes.now c.end.result (returns-clause-read c)
