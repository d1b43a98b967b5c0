use Rattle.std.proofs.Common.{◌≡◌, ◌+◌, ◌^◌, ◌<◌, length, arith}
use Rattle.hall_limits.specs.declared.TheConstants.{NAME_BYTES}
use Rattle.row_format.proofs.Readers.{IsBytes}
use Rattle.row_format.proofs.RowReaders.{row_is_told}
use Rattle.row_format.proofs.read.read_row.Goals as goal

pub returns : goal.returns
returns c =
    let long : length c.args.bytes.now ≡ 14 + 82 = omega arith in
    let are : IsBytes c.args.bytes.now = c.fits-bytes in
    let below : c.args.number < 2 ^ 32 = omega arith in
    let told = row_is_told 82 NAME_BYTES c.args.number c.args.bytes.now c.row_at.result
    (record {
      some = omega arith;
      short = omega arith;
      names = omega arith;
      name = omega arith;
      others = omega arith;
    }) below long are c.row_at.ensures in
    record { row = told.row; back = told.back; fault = told.fault }
