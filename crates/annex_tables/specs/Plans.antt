-- Annex II: how many packs of a batch are tested, and what is accepted.
use Rattle.std.specs.Prelude.{ℕ, ◌+◌, ◌/◌, ◌==◌, nat_le, if◌then◌else◌, Result, Ok, Err}
use Rattle.annex_tables.specs.declared.types.Mode.{Mode}
use Rattle.annex_tables.specs.declared.types.Mode.TheVariants.{Keep, Destroy}
use Rattle.annex_tables.specs.declared.types.Plan.{Plan}
use Rattle.annex_tables.specs.declared.types.PlanRefusal.{PlanRefusal}
use Rattle.annex_tables.specs.declared.types.PlanRefusal.TheVariants.{Empty, Small}

-- a batch under 100 packs: all are measured, at most one in forty may be defective, and the mean
-- may not fall short
abbrev pub plan_of_all : ℕ → Plan
plan_of_all n =
    record {
      first = n;
      c1 = n / 40;
      r1 = n / 40 + 1;
      second = 0;
      c2 = 0;
      r2 = 0;
      mean_n = n;
      k1000 = 0;
    }

-- 100 to 500 packs, not destroyed
abbrev pub plan_to_500 : Plan
plan_to_500 =
    record {
      first = 30;
      c1 = 1;
      r1 = 3;
      second = 30;
      c2 = 4;
      r2 = 5;
      mean_n = 30;
      k1000 = 503;
    }

-- 501 to 3 200 packs, not destroyed
abbrev pub plan_to_3200 : Plan
plan_to_3200 =
    record {
      first = 50;
      c1 = 2;
      r1 = 5;
      second = 50;
      c2 = 6;
      r2 = 7;
      mean_n = 50;
      k1000 = 379;
    }

-- more than 3 200 packs, not destroyed
abbrev pub plan_above_3200 : Plan
plan_above_3200 =
    record {
      first = 80;
      c1 = 3;
      r1 = 7;
      second = 80;
      c2 = 8;
      r2 = 9;
      mean_n = 50;
      k1000 = 379;
    }

-- 100 packs or more, destroyed: one sample
abbrev pub plan_of_destruction : Plan
plan_of_destruction =
    record {
      first = 20;
      c1 = 1;
      r1 = 2;
      second = 0;
      c2 = 0;
      r2 = 0;
      mean_n = 20;
      k1000 = 640;
    }

-- the row of the table for so many packs that are kept
abbrev pub keeping_plan : ℕ → Plan
keeping_plan n =
    if nat_le n 99 then plan_of_all n else
    (if nat_le n 500 then plan_to_500 else
    (if nat_le n 3200 then plan_to_3200 else
    plan_above_3200))

-- the plan of a batch of so many packs, or why there is none
abbrev pub plan_of : ℕ → Mode → Result Plan PlanRefusal
plan_of n Keep = if n == 0 then Err Empty else Ok (keeping_plan n)
plan_of n Destroy =
    if n == 0 then Err Empty else
    (if nat_le n 99 then Err (Small n) else
    Ok plan_of_destruction)
