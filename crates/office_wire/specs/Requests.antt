-- The requests of the bytes of a connection.
use Rattle.std.specs.Prelude.{◌≡◌, ℕ, Bool, true, false, List, [], ◌∷◌, drop}
use Rattle.office_wire.specs.declared.types.Framed.{Framed}
use Rattle.office_wire.specs.declared.types.Frame.TheVariants.{Whole, Nothing}
use Rattle.office_wire.specs.Frames.{IsFrame}

-- bytes begin with these requests, in order; what stands behind them. `ended` says that the input
-- has no more bytes
abbrev pub BeginWith : Bool → List ℕ → List Framed → List ℕ → Type 0
BeginWith ended bytes [] rest = bytes ≡ rest
BeginWith ended bytes (framed ∷ behind) rest =
    IsFrame bytes ended (Whole framed) × BeginWith ended (drop framed.taken bytes) behind rest

-- the requests of the whole bytes of a connection, in order, up to the first that is last
abbrev pub AreRequests : List ℕ → List Framed → Type 0
AreRequests bytes [] = IsFrame bytes true Nothing
AreRequests bytes (framed ∷ behind) =
    IsFrame bytes true (Whole framed) × (framed.last ≡ true → behind ≡ [])
    × (framed.last ≡ false → AreRequests (drop framed.taken bytes) behind)
