use Rattle.std.proofs.Common.{◌∙◌, rules}
use Rattle.std.proofs.lemmas.List.Sorted.{answers_always}
use Rattle.batch_sums.proofs.NumberPlaces.{place_found}
use Rattle.batch_sums.proofs.pool.place_of.Goals as goal

-- the closure gives a pack's number
pub returns : goal.returns
returns c rising =
    let facts = c.binary_search_by_key.ensures in
    let by_number = facts.position (λ held. held.number)
    (answers_always _ _ _ (λ f a r g called. search rules)) in
    c.ok.ensures.value
    ∙ place_found c.args.packs.now rising c.args.number c.binary_search_by_key.result facts.bound
    by_number
