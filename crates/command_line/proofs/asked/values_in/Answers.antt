use Rattle.std.proofs.Common.{◌∙◌}
use Rattle.clap.specs.Words.{first_value, found_of}
use Rattle.command_line.proofs.GivenValues.{texts_read}
use Rattle.command_line.proofs.asked.values_in.Goals as goal

pub returns : goal.returns
returns c = c.read_values.ensures
    ∙ texts_read (first_value (found_of c.args.matches.now)) _ _ _ _ _ _ _ _ _ _ _ _
    c.get_str.ensures c.get_str-2.ensures c.get_str-3.ensures c.get_str-4.ensures
    c.get_str-5.ensures c.get_str-6.ensures c.get_str-7.ensures c.get_str-8.ensures
    c.get_str-9.ensures c.get_str-10.ensures c.get_str-11.ensures c.get_str-12.ensures
