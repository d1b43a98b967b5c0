-- What contracts see of a file that is opened when it is first used, and the files of a lane.
use Rattle.std.specs.Prelude.{ℕ, Bool, true, false, List, ◌++◌, codes, decimal}
use Rattle.lane_files.specs.declared.late_file.Opening.{Opening}
use Rattle.lane_files.specs.declared.late_file.Opening.TheVariants.{Untried, Open, Shut}

-- whether it can't be opened, as its first use has shown, and its path
pub record LateFile : Type 0 where
  pub is_shut : Bool
  pub path : List ℕ

-- the same of what came of opening it
abbrev pub is_shut : Opening → Bool
is_shut Untried = false
is_shut (Open file) = false
is_shut Shut = true

-- the paths of the cell and of the gate of a lane's number in a folder
abbrev pub cell_path : List ℕ → ℕ → List ℕ
cell_path folder number = folder ++ codes "/cell-" ++ decimal number ++ codes ".txt"

abbrev pub gate_path : List ℕ → ℕ → List ℕ
gate_path folder number = folder ++ codes "/gate-" ++ decimal number ++ codes ".txt"
