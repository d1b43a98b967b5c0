use Rattle.std.proofs.Common.{[], refl}
use Rattle.std.specs.Prelude.{flat_map}
use Rattle.remote_cell.specs.Told.{connection_lines}
use Rattle.remote_cell.proofs.ExchangeLaw.{lines_taken}
use Rattle.remote_cell.proofs.law.given_law.Goals as goal

pub returns : goal.returns
returns c = λ batches items connections of.
    lines_taken items [] (flat_map (connection_lines batches) connections) of (items, refl)
