use Rattle.std.proofs.Common.{◌≡◌, sym, ◌∙◌, ap, subst}
use Rattle.pack_judge.specs.declared.types.Pile.TheVariants.{Passed, Rejected, Sampled, Voided}
use Rattle.pack_groups.specs.declared.types.Piles.{Piles}
use Rattle.book_words.specs.Readings.{readings}
use Rattle.book_words.specs.Piles.{tally}
use Rattle.book_views.specs.Tallies.{IsTally, all_of}
use Rattle.book_views.proofs.PileLemmas.{hall_tally, tally_of_piles}
use Rattle.book_views.proofs.views.summarize.Goals as goal

pub add_up-requires-clause-passed : goal.add_up-requires-clause-passed
add_up-requires-clause-passed c =
    subst (λ (some : Piles). IsTally some.passed) (sym c.piles-piles.ensures)
    (hall_tally c.args.state.now.entries Passed c.len.ensures.legal)

pub add_up-requires-clause-rejected : goal.add_up-requires-clause-rejected
add_up-requires-clause-rejected c =
    subst (λ (some : Piles). IsTally some.rejected) (sym c.piles-piles.ensures)
    (hall_tally c.args.state.now.entries Rejected c.len.ensures.legal)

pub add_up-requires-clause-sampled : goal.add_up-requires-clause-sampled
add_up-requires-clause-sampled c =
    subst (λ (some : Piles). IsTally some.sampled) (sym c.piles-piles.ensures)
    (hall_tally c.args.state.now.entries Sampled c.len.ensures.legal)

pub add_up-requires-clause-voided : goal.add_up-requires-clause-voided
add_up-requires-clause-voided c =
    subst (λ (some : Piles). IsTally some.voided) (sym c.piles-piles.ensures)
    (hall_tally c.args.state.now.entries Voided c.len.ensures.legal)

pub returns : goal.returns
returns c =
    let entries = c.args.state.now.entries in
    let told = c.piles-piles.ensures in
    let states = c.states-states.ensures in
    let all : c.add_up.result ≡ tally (readings entries) =
    c.add_up.ensures
    ∙ ap (λ (some : Piles). all_of some.passed some.rejected some.sampled some.voided) told
    ∙ tally_of_piles entries (readings entries) in
    λ i. record {
      rows = c.len.ensures.count i;
      readings = all i;
      passed = (told i).passed;
      rejected = (told i).rejected;
      sampled = (told i).sampled;
      voided = (told i).voided;
      running = states.running i;
      ended = states.ended i;
      drawn = states.drawn i;
      closed = states.closed i;
    }
