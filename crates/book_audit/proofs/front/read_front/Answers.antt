use Rattle.book_journal.proofs.Fronts.{front_read}
use Rattle.book_audit.proofs.front.read_front.Goals as goal

pub returns-clause-front : goal.returns-clause-front
returns-clause-front g c b told long =
    front_read b c.read_at.new.into c.in_ok-read_at.field-0 c.read_at.auto.into long
    (c.in_ok-read_at.ensures.count b told) (c.in_ok-read_at.ensures.bytes b told)
