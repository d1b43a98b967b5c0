use Rattle.act_columns.proofs.Columns.{answers_first}
use Rattle.act_columns.proofs.answers_first.Goals as goal

pub returns : goal.returns
returns c = answers_first
