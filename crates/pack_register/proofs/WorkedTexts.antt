-- Records that were written down by hand, computed by the definitions.
use Rattle.std.proofs.Common.{◌≡◌, pos, [], ◌∷◌, ◌++◌, codes, refl}
use Rattle.std.specs.Fmt.{digits}
use Rattle.csv.specs.Writing.{escaped, fields_text, is_blank}
use Rattle.hall_units.specs.Days.{date_after, day_text}
use Rattle.hall_units.specs.Grams.{gram_text}
use Rattle.pack_judge.specs.declared.types.Cause.TheVariants as cause
use Rattle.pack_judge.specs.declared.types.Class.TheVariants as classes
use Rattle.pack_judge.specs.declared.types.Pile.TheVariants.{Rejected, Voided}
use Rattle.pack_judge.specs.declared.types.Signal.TheVariants.{Pass, Reject}
use Rattle.book_words.specs.declared.views.PackView.{PackView}
use Rattle.book_words.specs.Names.{name_with}
use Rattle.pack_register.specs.Register.{record_text, register_text}

-- weighed on the day after 1970-01-01
abbrev pack_six : PackView
pack_six = record {
  pack = 6;
  batch = name_with (codes "A") refl;
  product = name_with (codes "rice250") refl;
  lane = 1;
  day = pos 1;
  gross = pos 243000;
  net = pos 231000;
  class = classes.Inadequate;
  signal = Pass;
  pile = Voided;
}

one_pack : register_text (pack_six ∷ []) ≡
    codes "pack,batch,product,lane,day,gross,net,class,signal,pile\n"
    ++ codes "6,A,rice250,1,1970-01-02,243.000,231.000,inadequate,pass,voided\n"
unfolding record_text fields_text is_blank digits gram_text day_text date_after
one_pack = refl

-- the same with other names, and rejected
abbrev quoted_pack : PackView
quoted_pack = record pack_six {
  batch = name_with (codes "a,b") refl;
  product = name_with (codes "\"") refl;
  signal = Reject cause.Held;
  pile = Rejected;
}

quoted_names : record_text quoted_pack ≡
    codes "6,\"a,b\",\"\"\"\",1,1970-01-02,243.000,231.000,inadequate,reject held,rejected\n"
unfolding record_text fields_text is_blank escaped digits gram_text day_text date_after
quoted_names = refl
