use Rattle.std.proofs.Common.{◌≡◌, Some, sym, ◌∙◌}
use Rattle.trial_run.specs.TrialScripts.{trial_product}
use Rattle.trial_run.proofs.TrialNames.{product_named}
use Rattle.trial_run.proofs.names.product_name.Goals as goal

pub returns : goal.returns
returns c =
    let is : Some c.unwrap.result ≡ Some trial_product =
    sym c.unwrap.ensures ∙ c.new.ensures.value ∙ product_named in
    cc (is)
