use Rattle.std.proofs.Common.{sym, ◌∙◌}
use Rattle.command_line.specs.Words.{bytes_of}
use Rattle.hall_alone.proofs.WordsRead.{alone_read}
use Rattle.hall_alone.proofs.alone.read_alone.Goals as goal

pub returns-else-begins_serve-clause-alone : goal.returns-else-begins_serve-clause-alone
returns-else-begins_serve-clause-alone c =
    alone_read (bytes_of c.args.words.now) c.wants.result
    (sym c.begins_serve.ensures ∙ c.if-begins_serve.false) c.wants.ensures.ok
