-- Results of a last call, which are handed on.
use Rattle.std.proofs.Common.{Result, Ok, Err, OnOk}

-- what holds in any case holds where the result is Ok
pub on_ok : {T E P : Type 0} (result : Result T E) → P → OnOk result P
on_ok (Ok done) p = p
on_ok (Err why) p = tt

-- and what follows from two things that hold there
pub on_ok_both : {T E P Q R : Type 0} (result : Result T E) → (P → Q → R) → OnOk result P
    → OnOk result Q → OnOk result R
on_ok_both (Ok done) follows p q = follows p q
on_ok_both (Err why) follows p q = tt
