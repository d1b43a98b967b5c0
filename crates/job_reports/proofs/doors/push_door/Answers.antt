use Rattle.std.proofs.Common.{◌≡◌, ◌++◌, ℕ, List, codes, decimal, append_assoc, ◌∙◌, arith, rules}
use Rattle.office_door.specs.declared.ending.DoorEnd.{DoorEnd}
use Rattle.job_reports.specs.Texts.{door_word, door_text}
use Rattle.job_reports.proofs.doors.push_door.Goals as goal

-- three labels with their numbers, and three parts more
labelled : (start a b c d e f g h i : List ℕ)
    → start ++ (a ++ b) ++ (c ++ d) ++ (e ++ f) ++ g ++ h ++ i
    ≡ start ++ (a ++ b ++ c ++ d ++ e ++ f ++ g ++ h ++ i)
labelled start a b c d e f g h i = simp append_assoc

in_line : (start : List ℕ) (door : ℕ) (end : DoorEnd)
    → start ++ (codes "door " ++ decimal door) ++ (codes " served " ++ decimal end.served)
    ++ (codes " links " ++ decimal end.links) ++ codes " " ++ door_word end.stop ++ codes "\n"
    ≡ start ++ door_text door end
unfolding door_text
in_line start door end =
    labelled start (codes "door ") (decimal door) (codes " served ") (decimal end.served)
    (codes " links ") (decimal end.links) (codes " ") (door_word end.stop) (codes "\n")

pub returns : goal.returns
returns c =
    let number : c.from.result ≡ c.args.door = search rules in
    record {
      items = rw (
        c.append-3.ensures.items,
        c.append-2.ensures.items,
        c.door_word.ensures.text,
        c.append.ensures.items,
        c.append_numbered-3.ensures.items,
        c.append_numbered-2.ensures.items,
        c.append_numbered.ensures.items,
        number,
      ) (in_line c.args.to.now.items c.args.door c.args.end.now);
      longest = omega arith;
      capacity = c.append-3.ensures.capacity ∙ c.append-2.ensures.capacity
          ∙ c.append.ensures.capacity ∙ c.append_numbered-3.ensures.capacity
          ∙ c.append_numbered-2.ensures.capacity ∙ c.append_numbered.ensures.capacity;
    }
