-- Imports that were written down by hand, computed by the definitions.
use Rattle.std.proofs.Common.{◌≡◌, [], ◌∷◌, codes, Some, None, refl}
use Rattle.csv.proofs.OnLiterals.{csv_on_literals}
use Rattle.script_lines.specs.declared.command.Command.{Command}
use Rattle.script_lines.specs.declared.command.Verb.TheVariants.{Void}
use Rattle.import_table.specs.Imports.{import_in, stopped}
use Rattle.import_table.specs.declared.types.ImportError.TheVariants.{Bad}

abbrev pub void_six : Command
void_six = record { desk = 101; request = 1; verb = Void 6 }

two_forms : import_in (codes "desk,request,command\n101,1,void 6\r\n\n\"101\",1,\"void 6\"") ≡
    record { commands = void_six ∷ void_six ∷ []; error = None }
unfolding import_in csv_on_literals
two_forms = refl

question : import_in (codes "desk,request,command\n101,1,void 6\n101,2,summary\n") ≡
    record { commands = void_six ∷ []; error = Some (Bad 3) }
unfolding import_in csv_on_literals
question = refl

no_desk : import_in (codes "desk,request,command\n0,0,void 6\n") ≡
    record { commands = record void_six { desk = 0; request = 0 } ∷ []; error = None }
unfolding import_in csv_on_literals
no_desk = refl

other_names : import_in (codes "desk,request,act\n101,1,void 6\n") ≡ stopped (Bad 1)
unfolding import_in csv_on_literals
other_names = refl
