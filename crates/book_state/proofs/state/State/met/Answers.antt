use Rattle.std.proofs.Common.{rules, ◌≡◌, pos, ◌∙◌, None, Some, nat_le, sym, ap, subst, ◌≤◌, option_map}
use Rattle.annex_tables.specs.declared.TheConstants.{MAX_POPULATION}
use Rattle.hall_limits.specs.declared.TheConstants.{MAX_LANE}
use Rattle.std.proofs.lemmas.Bool.{and_parts, leb-true}
use Rattle.book_packs.specs.declared.types.AtWeighing.{AtWeighing}
use Rattle.book_packs.specs.Told.{met_at}
use Rattle.book_words.specs.declared.act.Act.TheVariants.{Weigh}
use Rattle.book_words.specs.Acts.{lane_batch}
use Rattle.book_laws.proofs.BatchLaws.{orderly}
use Rattle.book_state.proofs.Parts.{parts_of}
use Rattle.book_state.proofs.PopulationLimits.{met_few}
use Rattle.book_state.proofs.OnLanes.{batch_on, lane_within, numbered, off_lane}
use Rattle.book_state.proofs.state.State.met.Goals as goal

pub returns-in_err-batch-clause-value : goal.returns-in_err-batch-clause-value
returns-in_err-batch-clause-value c gross =
    let entries = c.args.self.now.entries in
    let none : c.from_residual.result ≡ None = search rules in
    let unseen : None ≡ c.args.seen.now.batch = search rules in
    none ∙ ap (option_map (met_at entries (Weigh c.args.lane gross c.args.prior)))
    (off_lane (lane_batch entries c.args.lane) c.args.seen.now.batch unseen c.requires.idle)

pub totals_at-requires-clause-least : goal.totals_at-requires-clause-least
totals_at-requires-clause-least c =
    let entries = c.args.self.now.entries in
    let batch_seen : Some c.in_ok-batch.batch ≡ c.args.seen.now.batch = search rules in
    let stand = parts_of c.self.inside c.args.self.now c.self.invariant c.self.view_is in
    let on = batch_on entries (lane_batch entries c.args.lane) c.in_ok-batch.batch
    (batch_seen ∙ c.requires.batch) in
    let parts = and_parts (nat_le 1 c.args.lane) (nat_le c.args.lane MAX_LANE)
    ((orderly entries stand.legal).numbers c.args.lane on.0 on.1) in
    leb-true 1 c.args.lane parts.0

pub totals_at-requires-clause-greatest : goal.totals_at-requires-clause-greatest
totals_at-requires-clause-greatest c =
    let entries = c.args.self.now.entries in
    let batch_seen : Some c.in_ok-batch.batch ≡ c.args.seen.now.batch = search rules in
    let stand = parts_of c.self.inside c.args.self.now c.self.invariant c.self.view_is in
    let on = batch_on entries (lane_batch entries c.args.lane) c.in_ok-batch.batch
    (batch_seen ∙ c.requires.batch) in
    let parts = and_parts (nat_le 1 c.args.lane) (nat_le c.args.lane MAX_LANE)
    ((orderly entries stand.legal).numbers c.args.lane on.0 on.1) in
    leb-true c.args.lane MAX_LANE parts.1

pub totals_at-requires-clause-batch : goal.totals_at-requires-clause-batch
totals_at-requires-clause-batch c =
    let entries = c.args.self.now.entries in
    let batch_seen : Some c.in_ok-batch.batch ≡ c.args.seen.now.batch = search rules in
    let stand = parts_of c.self.inside c.args.self.now c.self.invariant c.self.view_is in
    lane_within entries c.self.inside.packs
    (lane_batch entries c.args.lane) c.in_ok-batch.batch stand.packs
    (batch_seen ∙ c.requires.batch)

pub returns-clause-value : goal.returns-clause-value
returns-clause-value c gross =
    let entries = c.args.self.now.entries in
    let batch_seen : Some c.in_ok-batch.batch ≡ c.args.seen.now.batch = search rules in
    let stand = parts_of c.self.inside c.args.self.now c.self.invariant c.self.view_is in
    let is = batch_seen ∙ c.requires.batch in
    let on = batch_on entries (lane_batch entries c.args.lane) c.in_ok-batch.batch is in
    ap (λ (met : AtWeighing). Some met)
    (c.totals_at.ensures entries on.0 gross stand.packs stand.legal
    (sym (numbered entries c.args.lane c.in_ok-batch.batch on.0 on.1 is)))
    ∙ sym (ap (option_map (met_at entries (Weigh c.args.lane gross c.args.prior))) on.1)

pub returns-clause-few : goal.returns-clause-few
returns-clause-few c =
    let entries = c.args.self.now.entries in
    let batch_seen : Some c.in_ok-batch.batch ≡ c.args.seen.now.batch = search rules in
    let stand = parts_of c.self.inside c.args.self.now c.self.invariant c.self.view_is in
    let number_is = batch_seen ∙ c.requires.batch in
    let on = batch_on entries (lane_batch entries c.args.lane) c.in_ok-batch.batch number_is in
    let is = c.totals_at.ensures entries on.0 (pos 0) stand.packs stand.legal
    (sym (numbered entries c.args.lane c.in_ok-batch.batch on.0 on.1 number_is)) in
    subst (λ (met : AtWeighing). (met.population ≤ MAX_POPULATION)
    × (met.nonstandard ≤ met.population)) (sym is)
    (met_few entries (Weigh c.args.lane (pos 0) c.args.prior) on.0 stand.legal)
