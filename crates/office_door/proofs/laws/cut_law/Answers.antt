use Rattle.office_door.proofs.CutLaws.{cuts_alike, visits_alike}
use Rattle.office_door.proofs.laws.cut_law.Goals as goal

pub returns : goal.returns
returns c = record { visits = cuts_alike; doors = visits_alike }
