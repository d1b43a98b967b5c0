use Rattle.std.proofs.Common.{◌≡◌, ◌<◌, ◌++◌}
use Rattle.std.specs.List.{flat_map}
use Rattle.book_words.specs.Answers.{IsLegal}
use Rattle.pack_register.specs.Register.{record_text}
use Rattle.pack_register.specs.Writing.{IsReady, written}
use Rattle.report_run.specs.Reports.{weighed_packs}
use Rattle.report_run.proofs.Walks.{records_behind}
use Rattle.report_run.proofs.packs.write_packs.Given as goal

-- what was written, and the records of the packs that are weighed in the rows to come, are all
abbrev pub invariant-loop-before : goal.invariant-loop-before
invariant-loop-before l = record {
  ready : IsReady l.register;
  text : written l.register ++ records_behind l.book.entries l.before
      ≡ written l.fn.register ++ flat_map record_text (weighed_packs l.book.entries);
  legal : 0 < l.before → IsLegal l.book.entries;
}
