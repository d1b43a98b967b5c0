-- The signal that is recorded, by what a weighing meets.
use Rattle.std.proofs.Common.{◌≡◌, ℕ, ℤ, nat_lt, Bool, true, false, List, Option, Some, None, is_some, option_map, refl, sym, ◌∙◌, ap, subst}
use Rattle.std.proofs.lemmas.Option.{same_Some}
use Rattle.annex_tables.specs.declared.types.Limits.{Limits}
use Rattle.pack_judge.specs.declared.types.Class.{Class}
use Rattle.pack_judge.specs.declared.types.Signal.{Signal}
use Rattle.pack_judge.specs.Judge.{signal_by_class, signal_of}
use Rattle.book_words.specs.declared.name.Name.{Name}
use Rattle.book_words.specs.declared.act.Prior.{Prior}
use Rattle.book_words.specs.declared.act.Act.{Act}
use Rattle.book_words.specs.declared.act.Act.TheVariants.{Weigh}
use Rattle.book_words.specs.declared.act.Entry.{Entry}
use Rattle.book_words.specs.Acts.{newest_day, lane_batch, last_batch}
use Rattle.book_words.specs.Readings.{net_of_gross}
use Rattle.book_words.specs.Classes.{class_by_density, limits_of_batch, density_of_batch}
use Rattle.book_words.specs.Signals.{judged_signal, recorded_signal}
use Rattle.book_verdicts.specs.Densities.{limits_at}
use Rattle.book_verdicts.specs.AtWeighing.{AtWeighing}
use Rattle.book_verdicts.specs.Told.{met_at}
use Rattle.book_verdicts.proofs.Below.{class_is}
use Rattle.book_words.proofs.AllowedActs.{IsAllowed, weigh_tells}
use Rattle.book_words.proofs.SaidTogether.{started_for_it}

-- the signal by the limits in mg is the one by the density
signal_is : (density : ℕ) (limits : Limits) (net : ℤ) (held : Bool) (population nonstandard : ℕ)
    → signal_of net (limits_at density limits) held population nonstandard
    ≡ signal_by_class (class_by_density density limits net) held population nonstandard
signal_is density limits net held population nonstandard =
    ap (λ (c : Class). signal_by_class c held population nonstandard) (class_is density limits net)

-- a signal by the net and what is met is the one of the gross
judged : (entries : List Entry) (batch : Name) (gross : ℤ) (act : Act) (met : AtWeighing) (net : ℤ)
    (signal : Signal)
    → net ≡ net_of_gross entries (Some batch) (newest_day entries) gross → met ≡ met_at entries act batch
    → signal ≡ signal_of net met.limits (nat_lt 0 met.inadequate) met.population met.nonstandard
    → signal ≡ judged_signal entries act gross batch
judged entries batch gross act met net signal by_net by_met is =
    let told = net_of_gross entries (Some batch) (newest_day entries) gross in
    is
    ∙ ap (λ (n : ℤ). signal_of n met.limits
    (nat_lt 0 met.inadequate) met.population met.nonstandard) by_net
    ∙ ap (λ (m : AtWeighing). signal_of told m.limits
    (nat_lt 0 m.inadequate) m.population m.nonstandard) by_met
    ∙ signal_is (density_of_batch entries batch) (limits_of_batch entries batch) told
    (nat_lt 0 (met_at entries act batch).inadequate) (met_at entries act batch).population
    (met_at entries act batch).nonstandard

-- where the lane has no batch nothing is judged
pub unjudged : (entries : List Entry) (batch : Option Name) (gross : ℤ) (act : Act)
    → None ≡ option_map (met_at entries act) batch
    → None ≡ option_map (judged_signal entries act gross) batch
unjudged entries None gross act none = refl
unjudged entries (Some batch) gross act none = absurd (cc)

-- and else the gross in its batch
pub judged_in : (entries : List Entry) (batch : Option Name) (gross : ℤ) (act : Act)
    (met : AtWeighing) (net : ℤ) (signal : Signal)
    → Some met ≡ option_map (met_at entries act) batch
    → net ≡ net_of_gross entries batch (newest_day entries) gross
    → signal ≡ signal_of net met.limits (nat_lt 0 met.inadequate) met.population met.nonstandard
    → Some signal ≡ option_map (judged_signal entries act gross) batch
judged_in entries None gross act met net signal by_met by_net is = absurd (cc)
judged_in entries (Some batch) gross act met net signal by_met by_net is =
    ap (λ (s : Signal). Some s) (judged entries batch gross act met net signal by_net
    (same_Some met (met_at entries act batch) by_met) is)

-- a weighing that no rule refuses is recorded with the signal of its gross
pub recorded : (entries : List Entry) (act : Act) (lane : ℕ) (gross : ℤ) (prior : Prior)
    (signal : Option Signal) → act ≡ Weigh lane gross prior → IsAllowed entries act
    → signal ≡ option_map (judged_signal entries (Weigh lane gross prior) gross)
    (lane_batch entries lane) → signal ≡ recorded_signal entries act
recorded entries act lane gross prior signal is free told =
    told ∙ both (lane_batch entries lane) refl ∙ sym (ap (recorded_signal entries) is)
  where
    runs : is_some (lane_batch entries lane) ≡ true
    runs = (weigh_tells entries lane gross prior (subst (IsAllowed entries) is free)).runs

    both : (o : Option Name) → lane_batch entries lane ≡ o
        → option_map (judged_signal entries (Weigh lane gross prior) gross) o
        ≡ option_map (judged_signal entries (Weigh lane gross prior) gross)
        (last_batch entries lane)
    both None none = absurd (let clash : true ≡ false = sym runs ∙ ap is_some none in cc)
    both (Some batch) on =
        sym (ap (option_map (judged_signal entries (Weigh lane gross prior) gross))
        (started_for_it entries lane batch on))
