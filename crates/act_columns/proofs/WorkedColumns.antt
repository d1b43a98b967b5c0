-- The columns of a text written by hand, as `cut -f1` and `cut -f3` print them.
use Rattle.std.proofs.Common.{◌≡◌, codes, refl}
use Rattle.act_columns.specs.Columns.{column}

answers : column 1 (codes "1 ok\tscript\tday 2026-12-01\n2 7 reject full\tlane 3\tx\n")
    ≡ codes "1 ok\n2 7 reject full\n"
answers = refl

script : column 3 (codes "1 ok\tscript\tday 2026-12-01\n2 ok\tdoor 4\t@101 1 void 7\n")
    ≡ codes "day 2026-12-01\n@101 1 void 7\n"
script = refl

short_line : column 3 (codes "1 ok\tscript\n") ≡ codes "\n"
short_line = refl
