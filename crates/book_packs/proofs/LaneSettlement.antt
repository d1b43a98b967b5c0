-- What an act of a lane does to the packs of the readings before it.
use Rattle.std.proofs.Common.{◌≡◌, ℕ, ◌==◌, Bool, true, false, ◌&&◌, ◌||◌, cond, List, [], ◌∷◌, ◌++◌, map, Option, Some, None, option_map, is_none, refl, sym, ◌∙◌, ap, inl, inr, ◌⊎◌}
use Rattle.std.specs.List.{AllByRecursion, filter, find, slice_get}
use Rattle.std.specs.Option.{option_or, option_and_then, option_map_or}
use Rattle.std.proofs.lemmas.Bool.{cases_Bool}
use Rattle.pack_judge.specs.declared.types.Pile.{Pile}
use Rattle.pack_judge.specs.declared.types.Signal.{Signal}
use Rattle.pack_judge.specs.declared.types.Signal.TheVariants.{Pass, Reject}
use Rattle.batch_sums.specs.declared.types.Pack.{Pack}
use Rattle.pack_groups.specs.Population as groups
use Rattle.batch_sums.specs.Changes.{moved}
use Rattle.book_words.specs.declared.act.Prior.{Prior}
use Rattle.book_words.specs.declared.act.Prior.TheVariants.{Nothing, Opened, Stayed, Unknown}
use Rattle.book_words.specs.declared.act.Entry.{Entry}
use Rattle.book_words.specs.declared.act.Reading.{Reading}
use Rattle.book_words.specs.Acts.{prior_told, is_void_of}
use Rattle.book_words.specs.Readings.{readings}
use Rattle.book_words.specs.Population.{settled_pile, is_pass, is_unsettled, unsettled_reading}
use Rattle.book_words.specs.Samples.{is_sampled}
use Rattle.book_words.specs.Piles.{pile_of, pile_with_sample}
use Rattle.book_words.proofs.OneMoreEntry.{advance}
use Rattle.book_packs.specs.Stand.{pack_of, packs_in, unsettled_number}
use Rattle.book_packs.specs.Settling.{takes_out, pile_left, if_counted, settled}
use Rattle.book_packs.proofs.Lists.{find-map, map-map, map-within, all_then}
use Rattle.book_words.proofs.AllowedActs.{IsAllowed}
use Rattle.book_packs.proofs.Known.{Known, IsWeighed, tare_named}
use Rattle.book_packs.proofs.Lone.{Tells, names, is_lane_unsettled, lone_unsettled}
use Rattle.book_packs.proofs.SampleNumbers.{is_draw, sampled_stays}
use Rattle.book_packs.proofs.StandingTerms.{pack_kept}
use Rattle.book_words.proofs.PlainLemmas.{eqb-swap, or_none}
use Rattle.std.proofs.Math.Bool.{or-false}
use Rattle.std.proofs.lemmas.Option.{same_Some}

-- the pile of a reading once its lane's next act told something, or another lane's did
settle_pile : (here voided : Bool) (signal : Option Signal) (next : Option Prior) (prior : Prior)
    (held : Bool)
    → pile_with_sample (settled_pile voided signal (option_or next (cond here (Some prior) None))) held
    ≡ cond (groups.is_counted (pile_with_sample (settled_pile voided signal next) held)
    && ((here && (is_pass signal && is_none next)) && takes_out prior)) (pile_left prior)
    (pile_with_sample (settled_pile voided signal next) held)
settle_pile false voided signal next prior held =
    ap (λ o. pile_with_sample (settled_pile voided signal o) held) (or_none next)
    ∙ sym (off (groups.is_counted (pile_with_sample (settled_pile voided signal next) held))
    (pile_left prior) (pile_with_sample (settled_pile voided signal next) held))
  where
    off : (b : Bool) (x y : Pile) → cond (b && false) x y ≡ y
    off true x y = refl
    off false x y = refl
settle_pile true true signal next prior held = refl
settle_pile true false None next prior true = refl
settle_pile true false None next prior false = refl
settle_pile true false (Some (Reject cause)) next prior held = refl
settle_pile true false (Some Pass) (Some Nothing) prior true = refl
settle_pile true false (Some Pass) (Some Nothing) prior false = refl
settle_pile true false (Some Pass) (Some Opened) prior true = refl
settle_pile true false (Some Pass) (Some Opened) prior false = refl
settle_pile true false (Some Pass) (Some Stayed) prior held = refl
settle_pile true false (Some Pass) (Some Unknown) prior held = refl
settle_pile true false (Some Pass) None Nothing true = refl
settle_pile true false (Some Pass) None Nothing false = refl
settle_pile true false (Some Pass) None Opened true = refl
settle_pile true false (Some Pass) None Opened false = refl
settle_pile true false (Some Pass) None Stayed true = refl
settle_pile true false (Some Pass) None Stayed false = refl
settle_pile true false (Some Pass) None Unknown true = refl
settle_pile true false (Some Pass) None Unknown false = refl

pub find-filter : {X : Type 0} (test : X → Bool) (xs : List X)
    → find test xs ≡ slice_get (filter test xs) 0
find-filter test [] = refl
find-filter test (x ∷ xs) = elim (test x) as
    (λ b. cond b (Some x) (find test xs)
    ≡ slice_get (cond b (x ∷ filter test xs) (filter test xs)) 0)
    [ true ↦ refl | false ↦ find-filter test xs ]

pub find-within : {X : Type 0} (p q : X → Bool) (xs : List X) → AllByRecursion (λ x. p x ≡ q x) xs
    → find p xs ≡ find q xs
find-within p q [] all = refl
find-within p q (x ∷ xs) all = ap (λ b. cond b (Some x) (find p xs)) all.0
    ∙ ap (λ o. cond (q x) (Some x) o) (find-within p q xs all.1)

both : {X : Type 0} {P Q R : X → Type 0} (h : (x : X) → P x → Q x → R x) (xs : List X)
    → AllByRecursion P xs → AllByRecursion Q xs → AllByRecursion R xs
both h [] p q = tt
both h (x ∷ xs) p q = (h x p.0 q.0, both h xs p.1 q.1)

-- an act of a lane that tells of the gate
pub record IsLaneAct (entry : Entry) (lane : ℕ) (prior : Prior) : Type 0 where
  pub told : (number : ℕ) → prior_told number entry.act ≡ cond (lane == number) (Some prior) None
  pub voids : (number : ℕ) → is_void_of number entry.act ≡ false
  pub draws : is_draw entry.act ≡ false
  pub tares : tare_named entry.act ≡ None

module _ (entries : List Entry) (entry : Entry) (lane : ℕ) (prior : Prior)
    (is : IsLaneAct entry lane prior) where
  pub pile_settled : (reading : Reading) → pile_of (entries ++ entry ∷ []) (advance entry.act reading)
      ≡ cond (groups.is_counted (pile_of entries reading)
      && (is_lane_unsettled lane reading && takes_out prior)) (pile_left prior)
      (pile_of entries reading)
  pile_settled reading =
      ap (λ b. pile_with_sample (settled_pile
      (reading.voided || is_void_of reading.number entry.act) reading.signal
      (option_or reading.next_prior (prior_told reading.lane entry.act))) b)
      (sampled_stays entries entry (advance entry.act reading) reading is.draws refl refl)
      ∙ ap (λ b. pile_with_sample (settled_pile (reading.voided || b) reading.signal
      (option_or reading.next_prior (prior_told reading.lane entry.act)))
      (is_sampled entries reading)) (is.voids reading.number)
      ∙ ap (λ b. pile_with_sample (settled_pile b reading.signal
      (option_or reading.next_prior (prior_told reading.lane entry.act)))
      (is_sampled entries reading)) (or-false reading.voided)
      ∙ ap (λ o. pile_with_sample (settled_pile reading.voided reading.signal
      (option_or reading.next_prior o)) (is_sampled entries reading)) (is.told reading.lane)
      ∙ settle_pile (lane == reading.lane) reading.voided reading.signal reading.next_prior prior
      (is_sampled entries reading)
      ∙ ap (λ b. cond (groups.is_counted (pile_of entries reading)
      && ((b && is_unsettled reading) && takes_out prior)) (pile_left prior)
      (pile_of entries reading)) (eqb-swap lane reading.lane)

  cond_off : (a b t : Bool) (x y : Pile) → t ≡ false → cond (a && (b && t)) x y ≡ y
  cond_off true true t x y h = ap (λ c. cond c x y) h
  cond_off true false t x y h = refl
  cond_off false b t x y h = refl

  cond_other : (a b t : Bool) (x y : Pile) → b ≡ false → cond (a && (b && t)) x y ≡ y
  cond_other true true t x y h = absurd (cc)
  cond_other true false t x y h = refl
  cond_other false b t x y h = refl

  cond_on : (a b t : Bool) (x y : Pile) → a ≡ true → b ≡ true → t ≡ true → cond (a && (b && t)) x y ≡ x
  cond_on true true true x y h k l = refl
  cond_on true true false x y h k l = absurd (cc)
  cond_on true false t x y h k l = absurd (cc)
  cond_on false b t x y h k l = absurd (cc)

  cond_first : (a b t : Bool) (x y : Pile) → a ≡ false → cond (a && (b && t)) x y ≡ y
  cond_first true b t x y h = absurd (cc)
  cond_first false b t x y h = refl

  module _ (known : Known entries) (rules : IsAllowed entries entry.act) where
    pack_settled : (reading : Reading) → IsWeighed entries reading
        → pack_of (entries ++ entry ∷ []) (advance entry.act reading)
        ≡ record (pack_of entries reading) {
          pile = cond (groups.is_counted (pile_of entries reading)
              && (is_lane_unsettled lane reading && takes_out prior)) (pile_left prior)
              (pile_of entries reading);
        }
    pack_settled reading w = pack_kept entries entry known rules is.tares reading w
        ∙ ap (λ (p : Pile). record (pack_of entries reading) { pile = p }) (pile_settled reading)

    kept_by : (reading : Reading) → IsWeighed entries reading
        → cond (groups.is_counted (pile_of entries reading)
        && (is_lane_unsettled lane reading && takes_out prior)) (pile_left prior)
        (pile_of entries reading) ≡ pile_of entries reading
        → pack_of entries reading ≡ pack_of (entries ++ entry ∷ []) (advance entry.act reading)
    kept_by reading w h = sym (pack_settled reading w
        ∙ ap (λ (p : Pile). record (pack_of entries reading) { pile = p }) h)

    all_kept : AllByRecursion (λ reading. cond
        (groups.is_counted (pile_of entries reading)
        && (is_lane_unsettled lane reading && takes_out prior)) (pile_left prior)
        (pile_of entries reading) ≡ pile_of entries reading) (readings entries)
        → packs_in entries ≡ map (λ reading. pack_of (entries ++ entry ∷ [])
        (advance entry.act reading)) (readings entries)
    all_kept all = map-within (pack_of entries)
        (λ reading. pack_of (entries ++ entry ∷ []) (advance entry.act reading)) (readings entries)
        (both kept_by (readings entries) known.weighed all)

    -- where the lane has this unsettled reading
    found : (v : Reading) → unsettled_reading entries lane ≡ Some v
        → find (λ (pack : Pack). pack.number == v.number) (packs_in entries)
        ≡ Some (pack_of entries v)
    found v there =
        find-map (λ (pack : Pack). pack.number == v.number) (pack_of entries) (readings entries)
        ∙ ap (option_map (pack_of entries))
        (find-within (λ reading. reading.number == v.number) (is_lane_unsettled lane) (readings entries)
        (all_then (λ reading tells. ap
        (λ o. names (option_map (λ (r : Reading). r.number) o) reading.number) (sym there)
        ∙ tells.named) (readings entries) (lone_unsettled entries lane))
        ∙ find-filter (is_lane_unsettled lane) (readings entries) ∙ there)

    with_reading : takes_out prior ≡ true → (v : Reading) → unsettled_reading entries lane ≡ Some v
        → (counted : Bool) → groups.is_counted (pile_of entries v) ≡ counted
        → option_map_or (λ (pack : Pack). moved pack.number (pile_left prior) (packs_in entries))
        (cond counted (Some (pack_of entries v)) None) (packs_in entries)
        ≡ map (λ reading. pack_of (entries ++ entry ∷ []) (advance entry.act reading)) (readings entries)
    with_reading out v there false counts =
        all_kept (all_then (λ reading tells. either reading tells
        (cases_Bool (is_lane_unsettled lane reading))) (readings entries)
        (lone_unsettled entries lane))
      where
        either : (reading : Reading) → Tells (is_lane_unsettled lane)
            (unsettled_reading entries lane) reading → (is_lane_unsettled lane reading ≡ true)
            ⊎ (is_lane_unsettled lane reading ≡ false)
            → cond (groups.is_counted (pile_of entries reading)
            && (is_lane_unsettled lane reading && takes_out prior)) (pile_left prior)
            (pile_of entries reading) ≡ pile_of entries reading
        either reading tells (inl t) =
            let same : v ≡ reading = same_Some _ _ (sym there ∙ tells.only t) in
            cond_first (groups.is_counted (pile_of entries reading)) (is_lane_unsettled lane reading)
            (takes_out prior) (pile_left prior) (pile_of entries reading)
            (ap (λ (r : Reading). groups.is_counted (pile_of entries r)) (sym same) ∙ counts)
        either reading tells (inr f) =
            cond_other (groups.is_counted (pile_of entries reading)) (is_lane_unsettled lane reading)
            (takes_out prior) (pile_left prior) (pile_of entries reading) f
    with_reading out v there true counts =
        map-map (λ (pack : Pack). cond (pack.number == v.number)
        (record pack { pile = pile_left prior }) pack) (pack_of entries) (readings entries)
        ∙ map-within (λ reading. cond (reading.number == v.number)
        (record (pack_of entries reading) { pile = pile_left prior }) (pack_of entries reading))
        (λ reading. pack_of (entries ++ entry ∷ []) (advance entry.act reading))
        (readings entries)
        (both (λ reading tells w. either reading tells w
        (cases_Bool (is_lane_unsettled lane reading))) (readings entries)
        (lone_unsettled entries lane) known.weighed)
      where
        either : (reading : Reading) → Tells (is_lane_unsettled lane)
            (unsettled_reading entries lane) reading → IsWeighed entries reading
            → (is_lane_unsettled lane reading ≡ true) ⊎ (is_lane_unsettled lane reading ≡ false)
            → cond (reading.number == v.number)
            (record (pack_of entries reading) { pile = pile_left prior })
            (pack_of entries reading) ≡ pack_of (entries ++ entry ∷ [])
            (advance entry.act reading)
        either reading tells w (inl t) =
            let same : v ≡ reading = same_Some _ _ (sym there ∙ tells.only t) in
            let here : (reading.number == v.number) ≡ true =
            ap (λ o. names (option_map (λ (r : Reading). r.number) o) reading.number)
            (sym there) ∙ tells.named ∙ t in
            ap (λ b. cond b (record (pack_of entries reading) { pile = pile_left prior })
            (pack_of entries reading)) here
            ∙ sym (pack_settled reading w ∙ ap
            (λ (p : Pile). record (pack_of entries reading) { pile = p })
            (cond_on (groups.is_counted (pile_of entries reading)) (is_lane_unsettled lane reading)
            (takes_out prior) (pile_left prior) (pile_of entries reading)
            (ap (λ (r : Reading). groups.is_counted (pile_of entries r)) (sym same) ∙ counts) t
            out))
        either reading tells w (inr f) =
            let here : (reading.number == v.number) ≡ false =
            ap (λ o. names (option_map (λ (r : Reading). r.number) o) reading.number)
            (sym there) ∙ tells.named ∙ f in
            ap (λ b. cond b (record (pack_of entries reading) { pile = pile_left prior })
            (pack_of entries reading)) here
            ∙ kept_by reading w (cond_other (groups.is_counted (pile_of entries reading))
            (is_lane_unsettled lane reading) (takes_out prior) (pile_left prior)
            (pile_of entries reading) f)

    by_reading : takes_out prior ≡ true → (o : Option Reading) → unsettled_reading entries lane ≡ o
        → option_map_or (λ (pack : Pack). moved pack.number (pile_left prior) (packs_in entries))
        (option_and_then (λ number. option_and_then if_counted
        (find (λ (pack : Pack). pack.number == number) (packs_in entries)))
        (option_map (λ (r : Reading). r.number) o)) (packs_in entries)
        ≡ map (λ reading. pack_of (entries ++ entry ∷ []) (advance entry.act reading)) (readings entries)
    by_reading out None there =
        all_kept (all_then (λ reading tells. cond_other (groups.is_counted (pile_of entries reading))
        (is_lane_unsettled lane reading) (takes_out prior) (pile_left prior)
        (pile_of entries reading) (sym
        (ap (λ o. names (option_map (λ (r : Reading). r.number) o) reading.number) (sym there)
        ∙ tells.named)))
        (readings entries) (lone_unsettled entries lane))
    by_reading out (Some v) there =
        ap (λ o. option_map_or (λ (pack : Pack). moved pack.number (pile_left prior)
        (packs_in entries)) (option_and_then if_counted o) (packs_in entries)) (found v there)
        ∙ with_reading out v there (groups.is_counted (pile_of entries v)) refl

    -- the packs that the code leaves are those of the readings behind the act
    pub settled_is : settled (unsettled_number entries lane) prior (packs_in entries)
        ≡ map (λ reading. pack_of (entries ++ entry ∷ []) (advance entry.act reading))
        (readings entries)
    settled_is = either (cases_Bool (takes_out prior))
      where
        either : (takes_out prior ≡ true) ⊎ (takes_out prior ≡ false)
            → settled (unsettled_number entries lane) prior (packs_in entries)
            ≡ map (λ reading. pack_of (entries ++ entry ∷ []) (advance entry.act reading))
            (readings entries)
        either (inl t) =
            ap (λ b. option_map_or (λ (pack : Pack). moved pack.number (pile_left prior)
            (packs_in entries))
            (cond b (option_and_then (λ number. option_and_then if_counted
            (find (λ (pack : Pack). pack.number == number) (packs_in entries)))
            (unsettled_number entries lane)) None) (packs_in entries)) t
            ∙ by_reading t (unsettled_reading entries lane) refl
        either (inr f) =
            ap (λ b. option_map_or (λ (pack : Pack). moved pack.number (pile_left prior)
            (packs_in entries))
            (cond b (option_and_then (λ number. option_and_then if_counted
            (find (λ (pack : Pack). pack.number == number) (packs_in entries)))
            (unsettled_number entries lane)) None) (packs_in entries)) f
            ∙ all_kept (all_then (λ reading w. cond_off (groups.is_counted (pile_of entries reading))
            (is_lane_unsettled lane reading) (takes_out prior) (pile_left prior)
            (pile_of entries reading) f) (readings entries) known.weighed)
