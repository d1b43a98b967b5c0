use Rattle.std.proofs.Common.{◌≡◌, ◌≤◌, ◌++◌, true, drop, length}
use Rattle.std.specs.List.{list_all}
use Rattle.paper_form.specs.Drafts.{data_of}
use Rattle.paper_check.specs.Keyed.{is_mass}
use Rattle.paper_check.specs.Judging.{contents_of_picks}
use Rattle.paper_check.proofs.contents.contents_of_picks.Given as goal

-- the contents so far, and then those of the packs that are left, are those of all
abbrev pub invariant-loop-pick : goal.invariant-loop-pick
invariant-loop-pick l =
    (l.masses.items ++ contents_of_picks (data_of l.paper) l.mode (drop l.pick-index l.picks)
    ≡ contents_of_picks (data_of l.paper) l.mode l.picks)
    × (list_all is_mass l.masses.items ≡ true) × (length l.masses.items ≤ l.pick-index)
