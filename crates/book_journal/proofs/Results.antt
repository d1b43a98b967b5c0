-- What holds at one of two answers.
use Rattle.std.proofs.Common.{Result, Ok, Err, IfOk, OnOk, OnErr, IsErrAnd, MatchResult}

-- nothing is asked of an Ok where the answer is an error
pub ok_at_err : {T E : Type 0} (Q : E → Type 0) (result : Result T E) (P : T → Type 0)
    → IsErrAnd result Q → IfOk result P
ok_at_err Q (Ok x) P is = absurd is
ok_at_err Q (Err e) P is = tt

-- what holds anyway holds at an error
pub err_at : {T E : Type 0} (result : Result T E) (P : Type 0) → P → OnErr result P
err_at (Ok x) P holds = tt
err_at (Err e) P holds = holds

-- what holds at an Ok may be said of less
pub ok_in : {T E : Type 0} (result : Result T E) (P Q : Type 0) → (P → Q) → OnOk result P → OnOk result Q
ok_in (Ok x) P Q less holds = less holds
ok_in (Err e) P Q less holds = tt

-- what holds anyway holds of the error
pub match_at_err : {T E : Type 0} (Q : E → Type 0) (result : Result T E) (P R : Type 0)
    → IsErrAnd result Q → R → MatchResult result (λ _. P) (λ _. R)
match_at_err Q (Ok x) P R is holds = absurd is
match_at_err Q (Err e) P R is holds = holds
