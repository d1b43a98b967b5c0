use Rattle.office_wire.proofs.RequestLaws.{requests_unique}
use Rattle.office_door.proofs.CutLaws.{requests_first}
use Rattle.office_door.proofs.laws.request_law.Goals as goal

pub returns : goal.returns
returns c = record { one = requests_unique; first = requests_first }
