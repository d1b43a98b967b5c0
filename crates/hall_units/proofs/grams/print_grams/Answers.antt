use Rattle.hall_units.proofs.ReadBack.{milligrams_of-gram_text}
use Rattle.hall_units.proofs.grams.print_grams.Goals as goal

pub returns-in_err-make_room-clause-read_back : goal.returns-in_err-make_room-clause-read_back
returns-in_err-make_room-clause-read_back c = milligrams_of-gram_text c.args.mg

pub returns-clause-read_back : goal.returns-clause-read_back
returns-clause-read_back c = milligrams_of-gram_text c.args.mg
