-- A number that isn't that of a lane has no unsettled reading.
use Rattle.std.proofs.Common.{◌≡◌, ℕ, false, List, Option, Some, None, refl, sym, ◌∙◌, ap}
use Rattle.book_words.specs.declared.act.Entry.{Entry}
use Rattle.book_words.specs.declared.act.Reading.{Reading}
use Rattle.book_words.specs.Acts.{lane_batch}
use Rattle.book_words.specs.Population.{unsettled_reading}
use Rattle.book_words.specs.Answers.{IsLegal}
use Rattle.book_index.specs.Listed.{is_lane}
use Rattle.book_index.proofs.LegalNames.{legal_named}
use Rattle.book_laws.proofs.UnsettledLaws.{Belongs, each_belongs, of_unsettled}

pub none_waits : (entries : List Entry) (lane : ℕ) → IsLegal entries → is_lane lane ≡ false
    → unsettled_reading entries lane ≡ None
none_waits entries lane legal off = each (unsettled_reading entries lane) refl
  where
    each : (o : Option Reading) → unsettled_reading entries lane ≡ o → o ≡ None
    each None is = refl
    each (Some reading) is =
        let found = of_unsettled (Belongs entries) entries lane reading
        (each_belongs entries legal) is in
        let runs : lane_batch entries lane ≡ Some found.2.batch =
        ap (lane_batch entries) (sym found.0) ∙ found.2.lane found.1 in
        absurd (let clash : None ≡ Some found.2.batch =
        sym ((legal_named entries legal).off_lanes lane off) ∙ runs in cc)
