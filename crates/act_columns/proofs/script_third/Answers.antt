use Rattle.act_columns.proofs.Columns.{script_third}
use Rattle.act_columns.proofs.script_third.Goals as goal

pub returns : goal.returns
returns c = script_third
