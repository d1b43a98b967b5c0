use Rattle.book_words.proofs.LegalLemmas.{legal_few}
use Rattle.lane_worker.proofs.AddedRows.{grows_if}
use Rattle.lane_worker.proofs.asking.ask_act.Goals as goal

pub returns-clause-grows : goal.returns-clause-grows
returns-clause-grows g c = grows_if _ _ c.args.act c.ask.result c.ask.ensures.asked

pub returns-clause-few : goal.returns-clause-few
returns-clause-few g c = legal_few _ c.ask.ensures.asked.legal
