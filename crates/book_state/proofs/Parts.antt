-- The parts of the state, seen by the list that contracts speak of.
use Rattle.std.proofs.Common.{◌≡◌, List, subst}
use Rattle.book_words.specs.declared.act.Entry.{Entry}
use Rattle.book_index.specs.Known.{Known}
use Rattle.book_packs.specs.Stand.{Standing}
use Rattle.book_samples.specs.Kept.{Kept}
use Rattle.book_state.specs.declared.state.State.TheInside.{Inside}
use Rattle.book_state.specs.View.{StateView}
use Rattle.book_state.specs.Invariant.{StandFor, IsKept}
use Rattle.book_state.specs.contracts.state.State.{the_view}

-- the parts stand for the entries that contracts see
pub parts_of : (inside : Inside) (view : StateView) → IsKept inside → the_view inside ≡ view
    → StandFor view.entries inside.index inside.packs inside.samples
parts_of inside view kept is =
    subst (λ (v : StateView). StandFor v.entries inside.index inside.packs inside.samples) is kept.stand

-- the same list, so the same parts
pub same_list : (entries others : List Entry) (known : Known) (standing : Standing) (kept : Kept)
    → entries ≡ others → StandFor others known standing kept → StandFor entries known standing kept
same_list entries others known standing kept same stand =
    rw same stand
