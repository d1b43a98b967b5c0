use Rattle.std.proofs.Common.{◌≡◌, Bool, true, false, List, ℕ, refl, sym, true≢false}
use Rattle.std.specs.Str.{bytes_eq}
use Rattle.std.proofs.lemmas.Slice.Eq.{bytes_eq-Decides}
use Rattle.office_wire.proofs.methods.is_method.Goals as goal

differs : (bytes method : List ℕ) → (bytes ≡ method → ⊥) → false ≡ bytes_eq bytes method
differs bytes method other = by (bytes_eq bytes method) refl where
  by : (same : Bool) → bytes_eq bytes method ≡ same → false ≡ same
  by false e = refl
  by true e = absurd (other ((bytes_eq-Decides bytes method).0 e))

pub returns-in-Err : goal.returns-in-Err
returns-in-Err c =
    differs c.args.bytes.now c.args.method.now
    (λ same. true≢false (sym (c.in-Err.ensures.no_memory_needed
    (rw same c.as_str-word.ensures.valid) (rw same c.requires))))
