-- What always holds of the parts of the state.
use Rattle.std.specs.Prelude.{◌+◌, ◌≤◌, List, vec_len, vec_capacity}
use Rattle.book_words.specs.declared.act.Entry.{Entry}
use Rattle.book_words.specs.Answers.{IsLegal}
use Rattle.book_index.specs.Known.{Known}
use Rattle.book_index.specs.Listed.{IsIndexOf}
use Rattle.book_packs.specs.Stand.{Standing, IsPacksOf}
use Rattle.book_samples.specs.Kept.{Kept, IsSamplesOf}
use Rattle.book_state.specs.declared.state.State.TheInside.{Inside}

-- a list is legal, and the three parts beside it stand for it
pub record StandFor (entries : List Entry) (known : Known) (standing : Standing) (kept : Kept)
    : Type 0 where
  pub legal : IsLegal entries
  pub index : IsIndexOf entries known
  pub packs : IsPacksOf entries standing
  pub samples : IsSamplesOf entries kept

-- the parts stand for the list of entries, and for as many more acts as are spare each has room
pub record IsKept (state : Inside) : Type 0 where
  pub stand : StandFor state.entries.items state.index state.packs state.samples
  pub index_room : state.spare ≤ state.index.spare
  pub packs_room : state.spare ≤ state.packs.spare
  pub samples_room : state.spare ≤ state.samples.spare
  pub list_room : vec_len state.entries + state.spare ≤ vec_capacity state.entries
