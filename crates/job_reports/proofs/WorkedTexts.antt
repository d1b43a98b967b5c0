-- Lines that were written down by hand, computed by the definition.
use Rattle.std.proofs.Common.{◌≡◌, List, ℕ, codes, refl}
use Rattle.std.specs.Fmt.{digits}
use Rattle.book_words.specs.declared.refusal.Refusal.TheVariants as why
use Rattle.lane_worker.specs.declared.ending.LaneStop.TheVariants as stop
use Rattle.office_door.specs.declared.ending.DoorStop.TheVariants as stops
use Rattle.job_reports.specs.Texts.{lane_text, door_text}

done : lane_text 1 (record { opened = 2; stop = stop.Done }) ≡ codes "lane 1 opened 2 done\n"
unfolding lane_text digits
done = refl

gate_failed : lane_text 1 (record { opened = 0; stop = stop.Gate }) ≡ codes "lane 1 opened 0 gate\n"
unfolding lane_text digits
gate_failed = refl

bad_weight : lane_text 16 (record { opened = 12; stop = stop.Bad 13 })
    ≡ codes "lane 16 opened 12 bad 13\n"
unfolding lane_text digits
bad_weight = refl

idle : lane_text 3 (record { opened = 7; stop = stop.Idle 21 })
    ≡ codes "lane 3 opened 7 idle 21\n"
unfolding lane_text digits
idle = refl

refused : lane_text 2 (record {
  opened = 1;
  stop = stop.Refused (record { at = 8; refusal = why.GrossRange });
}) ≡ codes "lane 2 opened 1 refused 20 at 8\n"
unfolding lane_text digits
refused = refl

door_done : door_text 1 (record { served = 12; links = 0; stop = stops.Done })
    ≡ codes "door 1 served 12 links 0 done\n"
unfolding door_text digits
door_done = refl

door_failed : door_text 16 (record { served = 3; links = 2; stop = stops.Door })
    ≡ codes "door 16 served 3 links 2 door\n"
unfolding door_text digits
door_failed = refl
