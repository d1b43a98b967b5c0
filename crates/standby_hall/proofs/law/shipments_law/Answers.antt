use Rattle.standby_hall.proofs.StandbyFronts.{stays_front, whole_arrives}
use Rattle.standby_hall.proofs.law.shipments_law.Goals as goal

pub returns-clause-front : goal.returns-clause-front
returns-clause-front c = stays_front

pub returns-clause-whole : goal.returns-clause-whole
returns-clause-whole c = whole_arrives
