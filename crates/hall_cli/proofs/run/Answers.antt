use Rattle.std.proofs.Common.{rules}
use Rattle.hall_cli.proofs.run.Goals as goal

pub returns-clause-called : goal.returns-clause-called
returns-clause-called g c = record {
  ended = c.hall-ended.result;
  answers = search rules;
  usage = c.hall-ended.ensures.usage;
  ends = c.hall-ended.ensures.ends;
  serves = c.hall-ended.ensures.serves;
}
