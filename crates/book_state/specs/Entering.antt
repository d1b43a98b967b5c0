-- An entry that comes next to the entries for which an index, and what is kept beside it, stand.
use Rattle.std.specs.Prelude.{List}
use Rattle.book_words.specs.declared.act.Entry.{Entry}
use Rattle.book_index.specs.Known.{Known}
use Rattle.book_index.specs.Listed.{IsIndexOf}
use Rattle.book_packs.specs.Stand.{Standing, IsPacksOf}
use Rattle.book_packs.specs.Entering.{IsNext}
use Rattle.book_samples.specs.Kept.{Kept, IsSamplesOf}

-- the entry comes next to the entries of an index and of packs
pub record EntersPacks (known : Known) (kept : Standing) (entries : List Entry) (entry : Entry)
    : Type 0 where
  pub index : IsIndexOf entries known
  pub packs : IsPacksOf entries kept
  pub next : IsNext entries entry

-- the entry comes next to the entries of an index and of samples
pub record EntersSamples (known : Known) (kept : Kept) (entries : List Entry) (entry : Entry)
    : Type 0 where
  pub index : IsIndexOf entries known
  pub samples : IsSamplesOf entries kept
  pub next : IsNext entries entry
