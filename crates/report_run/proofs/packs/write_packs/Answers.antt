use Rattle.std.proofs.Common.{rules, ◌+◌, ◌<◌, ◌≤◌, ◌++◌, List, ℕ, length, sym, ◌∙◌, ap, append_assoc, append-nil, arith}
use Rattle.book_words.specs.Views.{pack_view}
use Rattle.pack_register.specs.Register.{record_text}
use Rattle.pack_register.specs.Writing.{written}
use Rattle.report_run.specs.Reports.{text_if_there}
use Rattle.report_run.proofs.EachReading.{each_weighed}
use Rattle.report_run.proofs.Walks.{records_behind, all_records, next_record, no_records}
use Rattle.report_run.proofs.packs.write_packs.Goals as goal

pub loop-before-init : goal.loop-before-init
loop-before-init c = record {
  ready = c.requires;
  text = ap (λ (left : List ℕ). written c.args.register.now ++ left)
      (all_records c.args.book.now.entries);
  legal = λ some. absurd (omega (arith, some));
}

pub loop-before-preserved : goal.loop-before-preserved
loop-before-preserved c =
    let here = c.loop-before in
    let entries = c.args.book.now.entries in
    let inside : here.before < length entries = search rules in
    let told = text_if_there record_text (pack_view entries (here.before + 1)) in
    let left = records_behind entries (here.before + 1) in
    record {
      ready = c.in_ok-write_pack.ensures.ready;
      text = ap (λ (front : List ℕ). front ++ left) c.in_ok-write_pack.ensures.text
          ∙ append_assoc (written here.register) told left
          ∙ ap (λ (rest : List ℕ). written here.register ++ rest)
          (sym (next_record entries here.before inside))
          ∙ here.invariant.text;
      legal = λ some. c.write_pack.ensures.legal;
    }

pub returns-clause-text : goal.returns-clause-text
returns-clause-text c =
    let here = c.loop-before in
    let entries = c.args.book.now.entries in
    let all : length entries ≤ here.before = search rules in
    sym (append-nil (written here.register))
    ∙ ap (λ (left : List ℕ). written here.register ++ left) (sym (no_records entries here.before all))
    ∙ here.invariant.text

pub returns-clause-each : goal.returns-clause-each
returns-clause-each c =
    let here = c.loop-before in
    let entries = c.args.book.now.entries in
    let all : length entries ≤ here.before = search rules in
    each_weighed entries here.before all here.invariant.legal
