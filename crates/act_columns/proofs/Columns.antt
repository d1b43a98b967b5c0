-- The columns of the text of a legal list.
use Rattle.std.proofs.Common.{ℕ, List, ◌++◌, take, drop, sym, ap, ◌∙◌, subst}
use Rattle.std.proofs.lemmas.List.{take-append-drop}
use Rattle.std.specs.List.{AllByRecursion}
use Rattle.book_words.specs.declared.act.Entry.{Entry}
use Rattle.book_words.specs.Answers.{IsLegal}
use Rattle.book_words.proofs.LegalLemmas.{legal_few}
use Rattle.row_format.specs.Allowed.{FitsFields}
use Rattle.script_lines.specs.Script.{lines_in}
use Rattle.act_lines.specs.ActViews.{views_behind}
use Rattle.act_reads.specs.Commands.{FitsScript}
use Rattle.act_reads.proofs.Lines.{scripts_read}
use Rattle.act_columns.specs.Columns.{AreAnswersFirst, IsScriptThird}
use Rattle.act_columns.proofs.Fits.{behind_fit}
use Rattle.act_columns.proofs.Fields.{IsCut, first_column, script_column, views_cut}

module _ (after : ℕ) (rows : List Entry) (legal : IsLegal rows)
    (fields : AllByRecursion FitsFields (drop after rows)) where
  parted : IsLegal (take after rows ++ drop after rows)
  parted = subst IsLegal (sym (take-append-drop after rows)) legal

  asked : AllByRecursion FitsScript (drop after rows)
  asked = behind_fit (take after rows) (drop after rows) parted fields

  cut : AllByRecursion IsCut (views_behind (take after rows) (drop after rows))
  cut = views_cut (take after rows) (drop after rows)
      (legal_few (take after rows ++ drop after rows) parted) fields asked

pub answers_first : AreAnswersFirst
answers_first after rows legal fields =
    first_column (views_behind (take after rows) (drop after rows)) (cut after rows legal fields)

pub script_third : IsScriptThird
script_third after rows legal fields allowed =
    ap (lines_in allowed)
    (script_column (take after rows) (drop after rows) (cut after rows legal fields))
    ∙ scripts_read allowed (drop after rows) (asked after rows legal fields)
