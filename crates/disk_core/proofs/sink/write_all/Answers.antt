use Rattle.std.proofs.Common.{◌∙◌, arith}
use Rattle.std.proofs.KnownBytes.{Appends-trans}
use Rattle.disk_core.proofs.Pieces.{taken_further}
use Rattle.disk_core.proofs.sink.write_all.Goals as goal

pub loop-done-preserved : goal.loop-done-preserved
loop-done-preserved g c =
    let before = c.loop-done.invariant in
    let now = c.in-Ok.ensures in
    record {
      within = omega (arith, now.bound);
      written = rw taken_further at (Appends-trans _ _ _ _ _ before.written now.bytes);
      tells = now.tells ∙ before.tells;
      kept = now.cause ∙ before.kept;
      rest = g.met.K.Sink.frame.both _ _ _ before.rest now.rest;
    }
