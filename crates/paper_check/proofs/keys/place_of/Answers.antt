use Rattle.paper_check.proofs.Lookups.{search_answers}
use Rattle.paper_check.proofs.keys.place_of.Goals as goal

pub returns : goal.returns
returns c = rw c.ok.ensures.value
    (search_answers c.args.keys.now c.args.key c.binary_search.result c.requires.ascending
    c.binary_search.ensures.position)
