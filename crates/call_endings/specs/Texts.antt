-- The lines that the program prints of its own. Each ends in LF.
use Rattle.std.specs.Prelude.{ℕ, List, ◌++◌, codes, decimal}

-- the line of a number is outside the grammar
abbrev pub bad_line : ℕ → List ℕ
bad_line number = codes "bad line " ++ decimal number ++ codes "\n"

-- the input is no plan
abbrev pub bad_plan : List ℕ
bad_plan = codes "bad plan\n"

-- the words are no command
abbrev pub usage : List ℕ
usage = codes "usage: hall COMMAND [OPTIONS]\n"

-- the input failed
abbrev pub read_fault : List ℕ
read_fault = codes "read fault\n"

-- there is no memory
abbrev pub no_memory : List ℕ
no_memory = codes "no memory\n"

-- the disk failed
abbrev pub disk_fault : List ℕ
disk_fault = codes "disk fault\n"

-- the disk isn't a journal: its first byte that differs from a header
abbrev pub not_journal : ℕ → List ℕ
not_journal place = codes "not a journal at " ++ decimal place ++ codes "\n"

-- the row of a number is damaged
abbrev pub damaged_row : ℕ → List ℕ
damaged_row row = codes "damaged row " ++ decimal row ++ codes "\n"
