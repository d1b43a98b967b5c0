use Rattle.session_jobs.proofs.begin.run_jobs.Goals as goal

pub returns : goal.returns
returns g c =
    let e = c.hold_session.ensures.ends in
    record {
      ran = e.ran;
      unbegun = e.unbegun;
      faults = e.faults;
      settled = e.settled;
      still = e.still;
      sound = e.sound;
      balanced = e.balanced;
      limit = e.limit;
      held = e.held;
      kept = e.kept;
    }
