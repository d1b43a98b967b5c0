use Rattle.std.proofs.Common.{rules, ◌≡◌, ◌++◌, ◌∷◌, [], true}
use Rattle.paper_form.specs.Form.{is_later}
use Rattle.paper_form.proofs.Listed.{listed-tare}
use Rattle.paper_form.proofs.reading.add_tare.Goals as goal

pub returns-in-Ok-clause-listed : goal.returns-in-Ok-clause-listed
returns-in-Ok-clause-listed c =
    let passes : is_later c.args.tares.now.items c.args.dated.now ≡ true = search rules in
    let items : c.push.new.self.items ≡ c.args.tares.now.items ++ c.args.dated.now ∷ [] =
    search rules in
    rw items (listed-tare c.args.tares.now.items c.args.dated.now c.requires.listed c.requires.range
    passes)
