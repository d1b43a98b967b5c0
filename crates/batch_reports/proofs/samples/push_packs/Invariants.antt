use Rattle.std.proofs.Common.{◌≡◌, ◌+◌, ◌*◌, ◌≤◌, ◌++◌, drop, vec_len, vec_capacity}
use Rattle.batch_reports.specs.Texts.{packs_text}
use Rattle.batch_reports.proofs.samples.push_packs.Given as goal

-- what was appended so far, and what is left, are all packs; there is room for those that are left
abbrev pub invariant-loop-pack : goal.invariant-loop-pack
invariant-loop-pack l = record {
  items : l.to.items ++ packs_text (drop l.pack-index l.packs) ≡ l.fn.to.items ++ packs_text l.packs;
  long : vec_len l.to ≤ vec_len l.fn.to + 21 * l.pack-index;
  capacity : vec_capacity l.to ≡ vec_capacity l.fn.to;
}
