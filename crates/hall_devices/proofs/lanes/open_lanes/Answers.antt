use Rattle.std.proofs.Common.{◌≡◌, ℕ, ◌+◌, List, [], ◌∷◌, ◌++◌, length, sym, ◌∙◌, ap, subst, arith, rules}
use Rattle.lane_files.specs.LateFile.{gate_path}
use Rattle.hall_devices.specs.Named.{LaneState, folder_of, IsCellOf, AreLanesOf}
use Rattle.hall_devices.proofs.Ports.{lanes_one_more}
use Rattle.hall_devices.proofs.lanes.open_lanes.Goals as goal

pub loop-place-preserved : goal.loop-place-preserved
loop-place-preserved c =
    let remote = c.args.wanted.now.remote in
    let folder = folder_of c.args.wanted.now.cells in
    let lanes = c.loop-place.lanes.items in
    let lane = c.in_ok-lane.lane in
    let pushed : c.push.new.self.items ≡ lanes ++ lane ∷ [] = search rules in
    let place : c.loop-place.place ≡ 0 + length lanes =
    omega (arith, c.loop-place.invariant.count) in
    record {
      count = search rules;
      named = subst (λ (all : List LaneState). AreLanesOf remote folder 0 all) (sym pushed)
          (lanes_one_more remote folder 0 lanes lane c.loop-place.invariant.named
          (subst (λ (n : ℕ). IsCellOf remote folder n lane.cell) place c.in_ok-lane.ensures.cell)
          (c.in_ok-lane.ensures.gate ∙ ap (λ (n : ℕ). gate_path folder (n + 1)) place));
    }
