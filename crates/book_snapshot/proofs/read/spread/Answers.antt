use Rattle.std.proofs.Common.{◌∙◌, get_or}
use Rattle.std.proofs.lemmas.List.{take_rest}
use Rattle.book_snapshot.proofs.DenseLemmas.{row_long, number_put, fields_put}
use Rattle.book_snapshot.proofs.read.spread.Goals as goal

pub returns : goal.returns
returns g c =
    let long = row_long g.row.Z c.requires.size in
    fields_put g.row.Z c.args.number c.args.form.now c.put_u32.new.bytes c.copy_from_slice.new.self
    long c.requires.some
    (c.put_u32.ensures ∙ number_put g.row.Z c.args.number (get_or c.args.form.now 0 0) long)
    (c.copy_from_slice.ensures.after ∙ take_rest c.args.form.now 1)
