use Rattle.std.proofs.Common.{rules, ◌≡◌, ◌++◌, ◌∷◌, [], true}
use Rattle.paper_form.specs.Form.{is_next}
use Rattle.paper_form.proofs.Listed.{listed-pack}
use Rattle.paper_form.proofs.reading.add_pack.Goals as goal

pub returns-in-Ok-clause-listed : goal.returns-in-Ok-clause-listed
returns-in-Ok-clause-listed c =
    let passes : is_next c.args.packs.now.items c.args.pack.now ≡ true = search rules in
    let items : c.push.new.self.items ≡ c.args.packs.now.items ++ c.args.pack.now ∷ [] =
    search rules in
    rw items (listed-pack c.args.packs.now.items c.args.pack.now c.requires.listed c.requires.range
    passes)
