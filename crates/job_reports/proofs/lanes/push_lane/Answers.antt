use Rattle.std.proofs.Common.{◌≡◌, ◌++◌, ℕ, List, codes, decimal, append_assoc, ◌∙◌, arith, rules}
use Rattle.lane_worker.specs.declared.ending.LaneEnd.{LaneEnd}
use Rattle.job_reports.specs.Texts.{stop_text, lane_text}
use Rattle.job_reports.proofs.lanes.push_lane.Goals as goal

-- two labels with their numbers, and three parts more
labelled : (start a b c d e f g : List ℕ)
    → start ++ (a ++ b) ++ (c ++ d) ++ e ++ f ++ g
    ≡ start ++ (a ++ b ++ c ++ d ++ e ++ f ++ g)
labelled start a b c d e f g = simp append_assoc

in_line : (start : List ℕ) (lane : ℕ) (end : LaneEnd)
    → start ++ (codes "lane " ++ decimal lane) ++ (codes " opened " ++ decimal end.opened)
    ++ codes " " ++ stop_text end.stop ++ codes "\n"
    ≡ start ++ lane_text lane end
unfolding lane_text
in_line start lane end =
    labelled start (codes "lane ") (decimal lane) (codes " opened ") (decimal end.opened)
    (codes " ") (stop_text end.stop) (codes "\n")

pub returns : goal.returns
returns c =
    let number : c.from.result ≡ c.args.lane = search rules in
    record {
      items = rw (
        c.append-2.ensures.items,
        c.push_stop.ensures.items,
        c.append.ensures.items,
        c.append_numbered-2.ensures.items,
        c.append_numbered.ensures.items,
        number,
      ) (in_line c.args.to.now.items c.args.lane c.args.end.now);
      longest = omega arith;
      capacity = c.append-2.ensures.capacity ∙ c.push_stop.ensures.capacity
          ∙ c.append.ensures.capacity ∙ c.append_numbered-2.ensures.capacity
          ∙ c.append_numbered.ensures.capacity;
    }
