use Rattle.row_format.proofs.Lawful.{allowed_where_lawful}
use Rattle.row_format.proofs.write.lawful_entries_are_allowed.Goals as goal

pub returns : goal.returns
returns c = allowed_where_lawful
