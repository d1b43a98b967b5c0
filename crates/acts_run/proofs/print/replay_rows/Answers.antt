use Rattle.std.proofs.Common.{subst}
use Rattle.std.specs.List.{AllByRecursion}
use Rattle.row_format.specs.Allowed.{FitsFields}
use Rattle.acts_run.proofs.FieldSizes.{rest_fits}
use Rattle.acts_run.proofs.print.replay_rows.Goals as goal

pub returns : goal.returns
returns c =
    let entries = c.args.state.now.entries in
    c.acts_replayed.ensures c.args.after entries c.len-rows.ensures.legal
    (rest_fits c.args.after entries
    (subst (AllByRecursion FitsFields) c.entries.ensures c.fit_fields.ensures))
