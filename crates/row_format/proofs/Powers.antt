-- Powers of 256.
use Rattle.std.proofs.Common.{◌≡◌, ℕ, ◌+◌, ◌*◌, ◌^◌, ◌≤◌, add-one, arith}
use Rattle.std.proofs.Math.Nat.{pow-suc, pow-le-pow_right}

-- one byte more
pub power_more : (count : ℕ) → 256 ^ (count + 1) ≡ 256 ^ count * 256
power_more count = rw add-one (pow-suc 256 count)

-- a power within so many bytes
pub record IsPower (power count : ℕ) : Type 0 where
  pub positive : 1 ≤ power
  pub most : power ≤ 256 ^ count

pub power_bounds : (count most : ℕ) → count ≤ most → IsPower (256 ^ count) most
power_bounds count most h =
    record {
      positive = pow-le-pow_right {n = 256} (omega arith) {i = 0} {j = count} (omega arith);
      most = pow-le-pow_right {n = 256} (omega arith) h;
    }
