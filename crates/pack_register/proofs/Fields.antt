-- What the kit's `csv` writes of the header and of a pack.
use Rattle.std.proofs.Common.{◌≡◌, refl}
use Rattle.csv.specs.Writing.{default_writer, fields_text, is_blank, row_text}
use Rattle.pack_register.specs.Register.{column_names, header_text}

pub header_is : row_text default_writer column_names ≡ header_text
unfolding fields_text is_blank
header_is = refl
