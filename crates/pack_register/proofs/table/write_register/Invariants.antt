use Rattle.std.proofs.Common.{◌≡◌, ◌++◌, drop}
use Rattle.std.specs.List.{flat_map}
use Rattle.pack_register.specs.Register.{register_text, record_text}
use Rattle.pack_register.specs.Writing.{IsReady, written}
use Rattle.pack_register.proofs.table.write_register.Given as goal

-- what was written so far, and the records of the packs that are left, are the register
abbrev pub invariant-loop-pack : goal.invariant-loop-pack
invariant-loop-pack l = record {
  ready : IsReady l.register;
  text : written l.register ++ flat_map record_text (drop l.pack-index l.packs)
      ≡ register_text l.packs;
}
