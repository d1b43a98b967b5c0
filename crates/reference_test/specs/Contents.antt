-- Annex II: what the numbers of defective packs say of a batch.
use Rattle.std.specs.Prelude.{ℕ, ◌+◌, nat_le, if◌then◌else◌, Option, None, Some}
use Rattle.annex_tables.specs.declared.types.Plan.{Plan}
use Rattle.reference_test.specs.declared.types.Contents.{Contents}
use Rattle.reference_test.specs.declared.types.Contents.TheVariants.{Accept, Reject, Second}

-- between c1 and r1 the second sample decides, by the defective packs of both
abbrev pub with_second : Plan → ℕ → Option ℕ → Contents
with_second plan d1 None = Second
with_second plan d1 (Some d2) = if nat_le (d1 + d2) plan.c2 then Accept else Reject

-- up to c1 defective packs in the first sample are accepted, and from r1 on they are rejected
abbrev pub contents_of : Plan → ℕ → Option ℕ → Contents
contents_of plan d1 d2 =
    if nat_le d1 plan.c1 then Accept else
    (if nat_le plan.r1 d1 then Reject else
    with_second plan d1 d2)
