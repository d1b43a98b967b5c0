-- A lane has one unsettled reading at most, and its number is that of no other reading.
use Rattle.std.proofs.Common.{◌≡◌, ℕ, ℤ, ◌+◌, ◌<◌, ◌≤◌, ◌==◌, Bool, true, false, ◌&&◌, cond, List, [], ◌∷◌, ◌++◌, length, map, Option, Some, None, IfSome, option_map, is_none, refl, sym, ◌∙◌, ap, subst, arith, inl, inr, append-nil, append_assoc}
use Rattle.std.specs.List.{AllByRecursion, filter, cons_option, slice_get}
use Rattle.std.specs.Option.{option_or}
use Rattle.std.proofs.lemmas.Bool.{cases_Bool, eqb-true, eq-eqb}
use Rattle.std.proofs.lemmas.Bool.Decides.{nat_tests}
use Rattle.std.proofs.lemmas.List.{length-map}
use Rattle.std.proofs.lemmas.List.Elements.{filter-append}
use Rattle.pack_judge.specs.declared.types.Signal.{Signal}
use Rattle.book_words.specs.declared.act.Prior.{Prior}
use Rattle.book_words.specs.declared.act.Act.{Act}
use Rattle.book_words.specs.declared.act.Act.TheVariants.{Weigh}
use Rattle.book_words.specs.declared.act.Entry.{Entry}
use Rattle.book_words.specs.declared.act.Reading.{Reading}
use Rattle.book_words.specs.Acts.{prior_told, newest_day, last_batch}
use Rattle.book_words.specs.Readings.{readings, weighed_reading}
use Rattle.book_words.specs.Population.{is_pass, is_unsettled, unsettled_reading}
use Rattle.book_words.proofs.OneMoreEntry.{advance, own_reading, readings-push}
use Rattle.book_packs.specs.Stand.{unsettled_number}
use Rattle.book_packs.proofs.Lists.{filter-map}
use Rattle.book_words.specs.Samples.{numbers_of}
use Rattle.book_words.proofs.DrawnPacks.{AscendWithin, readings_ascend}
use Rattle.book_packs.proofs.NumberOrder.{later}
use Rattle.std.proofs.Math.Bool.{and-true, and-false}

-- whether a number is the one that is there, if any
abbrev pub names : Option ℕ → ℕ → Bool
names None number = false
names (Some there) number = number == there

-- the first of those that pass a test tells which they are
pub record Tells (test : Reading → Bool) (first : Option Reading) (reading : Reading) : Type 0 where
  pub named : names (option_map (λ (other : Reading). other.number) first) reading.number ≡ test reading
  pub only : test reading ≡ true → first ≡ Some reading

none_pass : (test : Reading → Bool) (some : List Reading) → length (filter test some) ≡ 0
    → AllByRecursion (λ reading. test reading ≡ false) some
none_pass test [] h = tt
none_pass test (reading ∷ some) h = elim (cases_Bool (test reading)) [
  | inl t ↦ absurd (let wrong : length (cond true (reading ∷ filter test some) (filter test some))
      ≡ 0 = sym (ap (λ b. length (cond b (reading ∷ filter test some) (filter test some))) t) ∙ h in
      omega (arith, wrong))
  | inr f ↦ (
    f,
    none_pass test some
        (sym (ap (λ b. length (cond b (reading ∷ filter test some) (filter test some))) f) ∙ h),
  )
]

first_above : (test : Reading → Bool) (low : ℕ) (some : List Reading)
    → AllByRecursion (λ reading. low < reading.number) some
    → IfSome (slice_get (filter test some) 0) (λ reading. low < reading.number)
first_above test low [] all = tt
first_above test low (reading ∷ some) all =
    elim (test reading) as (λ b. IfSome
    (slice_get (cond b (reading ∷ filter test some) (filter test some)) 0)
    (λ r. low < r.number)) [ true ↦ all.0 | false ↦ first_above test low some all.1 ]

both : {X : Type 0} {P Q R : X → Type 0} (h : (x : X) → P x → Q x → R x) (xs : List X)
    → AllByRecursion P xs → AllByRecursion Q xs → AllByRecursion R xs
both h [] p q = tt
both h (x ∷ xs) p q = (h x p.0 q.0, both h xs p.1 q.1)

differs : (a b : ℕ) → a < b → (b == a) ≡ false
differs a b h = grind (arith, nat_tests)

unnamed : (o : Option Reading) (number : ℕ) → IfSome o (λ (other : Reading). number < other.number)
    → names (option_map (λ (other : Reading). other.number) o) number ≡ false
unnamed None number h = refl
unnamed (Some other) number h = lower number other.number h
  where
    lower : (a b : ℕ) → a < b → (a == b) ≡ false
    lower a b h = grind (arith, nat_tests)

pub lone : (test : Reading → Bool) (low most : ℕ) (some : List Reading)
    → AscendWithin (low + 1) most (numbers_of some) → length (filter test some) ≤ 1
    → AllByRecursion (Tells test (slice_get (filter test some) 0)) some
lone test low most [] above few = tt
lone test low most (reading ∷ some) above few = elim (cases_Bool (test reading)) [
  | inl t ↦
      let whole : filter test (reading ∷ some) ≡ reading ∷ filter test some =
      ap (λ b. cond b (reading ∷ filter test some) (filter test some)) t in
      let short : length (reading ∷ filter test some) ≤ 1 =
      subst (λ (xs : List Reading). length xs ≤ 1) whole few in
      subst (λ (xs : List Reading). AllByRecursion (Tells test (slice_get xs 0)) (reading ∷ some))
      (sym whole) (
        record { named = eq-eqb reading.number reading.number refl ∙ sym t; only = λ h. refl },
        both (λ other after fails. record {
          named = differs reading.number other.number after ∙ sym fails;
          only =
              λ h. absurd (cc);
        }) some
            (later reading.number most some above.2) (none_pass test some (omega (arith, short))),
      )
  | inr f ↦
      let whole : filter test (reading ∷ some) ≡ filter test some =
      ap (λ b. cond b (reading ∷ filter test some) (filter test some)) f in
      subst (λ (xs : List Reading). AllByRecursion (Tells test (slice_get xs 0)) (reading ∷ some))
      (sym whole) (
        record {
          named = unnamed (slice_get (filter test some) 0) reading.number
              (first_above test reading.number some (later reading.number most some above.2)) ∙ sym f;
          only = λ h. absurd (cc);
        },
        lone test reading.number most some above.2
            (subst (λ (xs : List Reading). length xs ≤ 1) whole few),
      )
]

-- ---- one at most

-- whether a reading is an unsettled one of a lane
abbrev pub is_lane_unsettled : ℕ → Reading → Bool
is_lane_unsettled lane reading = (reading.lane == lane) && is_unsettled reading

spread : (a p : Bool) (next told other : Option Prior) → (a ≡ true → told ≡ other)
    → (a && (p && is_none (option_or next told))) ≡ ((a && (p && is_none next)) && is_none other)
spread false p next told other h = refl
spread true false next told other h = refl
spread true true None told other h = ap is_none (h refl)
spread true true (Some prior) told other h = refl

stays_unsettled : (lane : ℕ) (act : Act) (reading : Reading)
    → is_lane_unsettled lane (advance act reading)
    ≡ (is_lane_unsettled lane reading && is_none (prior_told lane act))
stays_unsettled lane act reading =
    spread (reading.lane == lane) (is_pass reading.signal) reading.next_prior
    (prior_told reading.lane act) (prior_told lane act)
    (λ t. ap (λ n. prior_told n act) (eqb-true reading.lane lane t))

all_fail : (some : List Reading) → filter (λ (reading : Reading). false) some ≡ []
all_fail [] = refl
all_fail (reading ∷ some) = all_fail some

module _ (lane : ℕ) (act : Act) (some : List Reading) where
  onward : filter (is_lane_unsettled lane) (map (advance act) some)
      ≡ map (advance act)
      (filter (λ reading. is_lane_unsettled lane reading && is_none (prior_told lane act)) some)
  onward =
      filter-map (is_lane_unsettled lane) (advance act) some
      ∙ ap (λ (test : Reading → Bool). map (advance act) (filter test some))
      (λ i reading. stays_unsettled lane act reading i)

  pub onward_kept : is_none (prior_told lane act) ≡ true
      → filter (is_lane_unsettled lane) (map (advance act) some)
      ≡ map (advance act) (filter (is_lane_unsettled lane) some)
  onward_kept h =
      onward ∙ ap (λ b. map (advance act)
      (filter (λ reading. is_lane_unsettled lane reading && b) some)) h
      ∙ ap (λ (test : Reading → Bool). map (advance act) (filter test some))
      (λ i reading. and-true (is_lane_unsettled lane reading) i)

  pub onward_settled : is_none (prior_told lane act) ≡ false
      → filter (is_lane_unsettled lane) (map (advance act) some) ≡ []
  onward_settled h =
      onward ∙ ap (λ b. map (advance act)
      (filter (λ reading. is_lane_unsettled lane reading && b) some)) h
      ∙ ap (λ (test : Reading → Bool). map (advance act) (filter test some))
      (λ i reading. and-false (is_lane_unsettled lane reading) i)
      ∙ ap (map (advance act)) (all_fail some)

at_most_one : (test : Reading → Bool) (o : Option Reading) → length (filter test (cons_option o [])) ≤ 1
at_most_one test None = omega arith
at_most_one test (Some reading) =
    elim (test reading) as (λ b. length (cond b (reading ∷ []) []) ≤ 1)
    [ true ↦ omega arith | false ↦ omega arith ]

abbrev own_of : ℕ → List Entry → ℕ → ℤ → Option Signal → Reading
own_of number before lane gross signal =
    record {
      number = number;
      lane = lane;
      gross = gross;
      signal = signal;
      day = newest_day before;
      batch = last_batch before lane;
      next_prior = None;
      voided = false;
    }

away : (prior : Prior) (rest : Bool) (own : Reading) (b : Bool)
    → is_none (cond b (Some prior) None) ≡ true → cond (b && rest) (own ∷ []) [] ≡ []
away prior rest own true h = absurd (cc)
away prior rest own false h = refl

-- the own reading of an act that doesn't settle a lane is none of the lane's
own_elsewhere : (lane number : ℕ) (before : List Entry) (act : Act) (signal : Option Signal)
    → is_none (prior_told lane act) ≡ true
    → filter (is_lane_unsettled lane) (cons_option (weighed_reading number before act signal []) [])
    ≡ []
own_elsewhere lane number before (Weigh other gross prior) signal h =
    away prior (is_pass signal && true) (own_of number before other gross signal) (other == lane) h
own_elsewhere lane number before act signal h = refl

module _ (entries : List Entry) (entry : Entry) (lane : ℕ) where
  both_parts : filter (is_lane_unsettled lane) (readings (entries ++ entry ∷ []))
      ≡ filter (is_lane_unsettled lane) (map (advance entry.act) (readings entries))
      ++ filter (is_lane_unsettled lane) (cons_option (own_reading entries entry) [])
  both_parts =
      ap (filter (is_lane_unsettled lane)) (readings-push entries entry)
      ∙ filter-append (is_lane_unsettled lane) (map (advance entry.act) (readings entries))
      (cons_option (own_reading entries entry) [])

  pub list_kept : is_none (prior_told lane entry.act) ≡ true
      → filter (is_lane_unsettled lane) (readings (entries ++ entry ∷ []))
      ≡ map (advance entry.act) (filter (is_lane_unsettled lane) (readings entries))
  list_kept h =
      both_parts
      ∙ ap (λ some. some ++ filter (is_lane_unsettled lane)
      (cons_option (own_reading entries entry) []))
      (onward_kept lane entry.act (readings entries) h)
      ∙ ap (λ some. map (advance entry.act) (filter (is_lane_unsettled lane) (readings entries))
      ++ some) (own_elsewhere lane (length entries + 1) entries entry.act entry.signal h)
      ∙ append-nil _

  pub list_settled : is_none (prior_told lane entry.act) ≡ false
      → filter (is_lane_unsettled lane) (readings (entries ++ entry ∷ []))
      ≡ filter (is_lane_unsettled lane) (cons_option (own_reading entries entry) [])
  list_settled h =
      both_parts ∙ ap (λ some. some ++ filter (is_lane_unsettled lane)
      (cons_option (own_reading entries entry) []))
      (onward_settled lane entry.act (readings entries) h)

  few-push : length (filter (is_lane_unsettled lane) (readings entries)) ≤ 1
      → length (filter (is_lane_unsettled lane) (readings (entries ++ entry ∷ []))) ≤ 1
  few-push few = elim (cases_Bool (is_none (prior_told lane entry.act))) [
    | inl t ↦ subst (λ n. n ≤ 1) (sym
        (ap length (list_kept t) ∙ length-map (filter (is_lane_unsettled lane) (readings entries))
        (advance entry.act))) few
    | inr f ↦ subst (λ (xs : List Reading). length xs ≤ 1) (sym (list_settled f))
        (at_most_one (is_lane_unsettled lane) (own_reading entries entry))
  ]

  -- the unsettled reading of a lane that the entry doesn't settle
  pub number_kept : is_none (prior_told lane entry.act) ≡ true
      → unsettled_number (entries ++ entry ∷ []) lane ≡ unsettled_number entries lane
  number_kept h = ap (λ some. option_map (λ (r : Reading). r.number) (slice_get some 0))
      (list_kept h) ∙ first (filter (is_lane_unsettled lane) (readings entries))
    where
      first : (some : List Reading) → option_map (λ (r : Reading). r.number)
          (slice_get (map (advance entry.act) some) 0)
          ≡ option_map (λ (r : Reading). r.number) (slice_get some 0)
      first [] = refl
      first (reading ∷ some) = refl

few_from : (before after : List Entry) (lane : ℕ)
    → length (filter (is_lane_unsettled lane) (readings before)) ≤ 1
    → length (filter (is_lane_unsettled lane) (readings (before ++ after))) ≤ 1
few_from before [] lane few = subst
    (λ (es : List Entry). length (filter (is_lane_unsettled lane) (readings es)) ≤ 1)
    (sym (append-nil before)) few
few_from before (e ∷ es) lane few =
    subst (λ (all : List Entry). length (filter (is_lane_unsettled lane) (readings all)) ≤ 1)
    (append_assoc before (e ∷ []) es)
    (few_from (before ++ e ∷ []) es lane (few-push before e lane few))

-- a lane has one at most
pub few_unsettled : (entries : List Entry) (lane : ℕ)
    → length (filter (is_lane_unsettled lane) (readings entries)) ≤ 1
few_unsettled entries lane = few_from [] entries lane (omega arith)

-- the unsettled reading of a lane tells which of the readings it is
pub lone_unsettled : (entries : List Entry) (lane : ℕ)
    → AllByRecursion (Tells (is_lane_unsettled lane) (unsettled_reading entries lane))
    (readings entries)
lone_unsettled entries lane = lone (is_lane_unsettled lane) 0 (length entries) (readings entries)
    (readings_ascend entries) (few_from [] entries lane (omega arith))
