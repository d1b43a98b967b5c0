-- Doors that listen one after another, and lanes, and one more.
use Rattle.std.proofs.Common.{◌≡◌, ℕ, ◌+◌, true, List, Option, [], ◌∷◌, ◌++◌, length, ap, ◌∙◌, subst, arith}
use Rattle.tcp_door.specs.OpenDoors.{OpenDoor}
use Rattle.lane_files.specs.LateFile.{gate_path}
use Rattle.hall_devices.specs.Named.{port_above, AreAtPorts, LaneState, IsCellOf, AreLanesOf}

-- the door behind all listens at the next port
pub at_one_more : (first number : ℕ) (doors : List OpenDoor) (door : OpenDoor)
    → AreAtPorts first number doors → door.listens ≡ true
    → door.asked_port ≡ port_above first (number + length doors)
    → AreAtPorts first number (doors ++ door ∷ [])
at_one_more first number [] door at listens port =
    let same : number + 0 ≡ number = omega arith in
    (listens, port ∙ ap (port_above first) same, tt)
at_one_more first number (one ∷ doors) door at listens port =
    let same : number + length (one ∷ doors) ≡ number + 1 + length doors = omega arith in (
      at.0,
      at.1,
      at_one_more first (number + 1) doors door at.2 listens
          (port ∙ ap (port_above first) same),
    )

-- the lane behind all is that of the next place
pub lanes_one_more : (remote : Option ℕ) (folder : List ℕ) (place : ℕ) (lanes : List LaneState)
    (lane : LaneState) → AreLanesOf remote folder place lanes
    → IsCellOf remote folder (place + length lanes) lane.cell
    → lane.gate.writer.writer.path ≡ gate_path folder (place + length lanes + 1)
    → AreLanesOf remote folder place (lanes ++ lane ∷ [])
lanes_one_more remote folder place [] lane are cell gate =
    let same : place + 0 ≡ place = omega arith in (
      subst (λ (n : ℕ). IsCellOf remote folder n lane.cell) same cell,
      gate ∙ ap (λ (n : ℕ). gate_path folder (n + 1)) same,
      tt,
    )
lanes_one_more remote folder place (one ∷ lanes) lane are cell gate =
    let same : place + length (one ∷ lanes) ≡ place + 1 + length lanes = omega arith in (
      are.0,
      are.1,
      lanes_one_more remote folder (place + 1) lanes lane are.2
          (subst (λ (n : ℕ). IsCellOf remote folder n lane.cell) same cell)
          (gate ∙ ap (λ (n : ℕ). gate_path folder (n + 1)) same),
    )
