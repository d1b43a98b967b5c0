use Rattle.std.proofs.Common.{◌≡◌, ◌≤◌, ◌++◌, true, drop, length}
use Rattle.std.specs.List.{list_all}
use Rattle.paper_form.specs.Drafts.{data_of}
use Rattle.paper_check.specs.Keyed.{is_mass}
use Rattle.paper_check.specs.Judging.{nets_of}
use Rattle.paper_check.proofs.contents.nets_of.Given as goal

-- the nets so far, and then those of the packs that are left, are those of all
abbrev pub invariant-loop-pack : goal.invariant-loop-pack
invariant-loop-pack l =
    (l.nets.items ++ nets_of (data_of l.paper).tares (drop l.pack-index l.packs)
    ≡ nets_of (data_of l.paper).tares l.packs)
    × (list_all is_mass l.nets.items ≡ true) × (length l.nets.items ≤ l.pack-index)
