use Rattle.std.proofs.Common.{rules, ◌≡◌, ◌<◌, ◌≤◌, length, get_or, subst}
use Rattle.std.proofs.lemmas.List.{take_all}
use Rattle.std.specs.List.{AllByRecursion}
use Rattle.row_format.specs.Allowed.{FitsFields}
use Rattle.acts_run.proofs.FieldSizes.{next_fits}
use Rattle.acts_run.proofs.sizes.fit_fields.Goals as goal

pub loop-entry-preserved : goal.loop-entry-preserved
loop-entry-preserved c =
    let here = c.loop-entry in
    let item = c.entry-item.result in
    let entries = c.args.entries.now in
    let inside : here.entry-index < length entries = search rules in
    let at : get_or entries here.entry-index item ≡ item = search rules in
    next_fits entries here.entry-index item inside at here.invariant c.fit_entry.ensures

pub returns : goal.returns
returns c =
    let here = c.loop-entry in
    let entries = c.args.entries.now in
    let all : length entries ≤ here.entry-index = search rules in
    subst (AllByRecursion FitsFields) (take_all here.entry-index entries all) here.invariant
