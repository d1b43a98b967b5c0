use Rattle.std.proofs.Common.{◌≡◌, ◌∷◌, List, ℕ, map, sym, subst, rules}
use Rattle.csv.specs.Reading.{AreRecords, default_config, strip_bom}
use Rattle.csv.specs.declared.parser.State.TheVariants.{StartRecord}
use Rattle.pack_register.specs.Register.{column_names, columns, register_text}
use Rattle.pack_register.proofs.ReadBack.{reads_back}
use Rattle.pack_register.proofs.table.register.Goals as goal

pub returns-clause-reads_back : goal.returns-clause-reads_back
returns-clause-reads_back c =
    let packs = c.args.packs.now in
    let rows : List (List (List ℕ)) = column_names ∷ map columns packs in
    let whole : c.in_ok-text.text.items ≡ register_text packs = search rules in
    subst (λ (text : List ℕ). AreRecords default_config StartRecord (strip_bom text) rows)
    (sym whole) (reads_back packs)
