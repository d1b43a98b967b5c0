use Rattle.std.specs.Io.KnownBytes.{Keeps}
use Rattle.disk_core.proofs.standard.write_again.Given as goal

-- the writes so far put nothing out
abbrev pub invariant-loop-turn : goal.invariant-loop-turn
invariant-loop-turn g l = Keeps (g.W.Write.contents l.fn.writer) (g.W.Write.contents l.writer)
