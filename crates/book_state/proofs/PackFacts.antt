-- What is told of the pack of a number, and whether it waits on its lane.
use Rattle.std.proofs.Common.{◌≡◌, ℕ, ℤ, pos, ◌==◌, Bool, true, false, ◌&&◌, List, slice_get, IfSome, Option, Some, None, option_map, is_some, is_none, refl, sym, ◌∙◌, ap, subst, arith}
use Rattle.std.specs.Option.{option_and_then, option_map_or, unwrap_or}
use Rattle.std.proofs.lemmas.Bool.{eq-eqb}
use Rattle.std.proofs.lemmas.Int.{ints}
use Rattle.std.proofs.lemmas.List.Elements.{All-from_recursion}
use Rattle.hall_limits.specs.declared.TheConstants.{MAX_GROSS, MAX_TARE}
use Rattle.pack_judge.specs.declared.types.Signal.{Signal}
use Rattle.batch_sums.specs.declared.types.Pack.{Pack}
use Rattle.book_words.specs.declared.name.Name.{Name}
use Rattle.book_words.specs.declared.act.Entry.{Entry}
use Rattle.book_words.specs.declared.act.Reading.{Reading}
use Rattle.book_words.specs.declared.refusal.Refusal.TheVariants.{Unsettled}
use Rattle.book_words.specs.Acts.{said, batch_opened}
use Rattle.book_words.specs.Order.{batch_number}
use Rattle.book_words.specs.Readings.{readings, reading_of, tare_of_reading}
use Rattle.book_words.specs.Population.{is_unsettled, unsettled_reading}
use Rattle.book_words.specs.Piles.{pile_of}
use Rattle.book_words.specs.Refusals as rules
use Rattle.book_words.specs.Refusals.{refused_if}
use Rattle.book_words.specs.Ranges.{IsBetween}
use Rattle.book_words.specs.Answers.{IsLegal}
use Rattle.book_packs.specs.Stand.{pack_of}
use Rattle.book_packs.specs.Told.{pack_told}
use Rattle.book_packs.proofs.Known.{IsWeighed, known_of}
use Rattle.book_words.proofs.PlaceLemmas.{place_of-name}
use Rattle.book_laws.proofs.RangeLaws.{tare_within}
use Rattle.book_laws.proofs.ReadingLaws.{of_reading, found_is_one}
use Rattle.book_laws.proofs.UnsettledLaws.{waits_by_number}
use Rattle.book_state.specs.declared.types.KnownPack.{KnownPack}
use Rattle.book_state.specs.Known.{entry_numbered, put_together, known_record, known_reading}
use Rattle.book_state.proofs.ReadingRows.{IsSeen, seen}

-- what is put together for a reading, where there is one, and the signal of its entry
abbrev pub put_for : List Entry → Option Reading → Option Signal → Option KnownPack
put_for entries reading signal =
    put_together (option_map (pack_of entries) reading)
    (option_and_then (λ (pack : Pack). slice_get (said batch_opened entries) pack.batch)
    (option_map (pack_of entries) reading))
    (option_map (λ (r : Reading). r.lane) reading) signal

-- what is told of a reading, where there is one
pub record IsTold (entries : List Entry) (reading : Option Reading)
    (told : Option KnownPack) : Type 0 where
  pub value : told ≡ option_and_then (known_reading entries) reading
  pub there : is_none told ≡ is_none reading
  pub batch : option_map (λ (pack : KnownPack). pack.batch) told
      ≡ option_and_then (λ (r : Reading). r.batch) reading
  pub pile : option_map (λ (pack : KnownPack). pack.pile) told ≡ option_map (pile_of entries) reading
  pub gross : IfSome told (λ (pack : KnownPack). IsBetween (pos 0) MAX_GROSS pack.gross)
  pub tare : IfSome told (λ (pack : KnownPack). IsBetween (pos 0) MAX_TARE pack.tare)

tare_or_nothing : (o : Option ℤ) → IfSome o (IsBetween (pos 0) MAX_TARE)
    → IsBetween (pos 0) MAX_TARE (unwrap_or o (pos 0))
tare_or_nothing None h = (omega (arith, ints), omega (arith, ints))
tare_or_nothing (Some tare) h = h

some_told : (entries : List Entry) (r : Reading) (signal : Option Signal) → IsLegal entries
    → IsWeighed entries r → IsSeen signal r
    → IsTold entries (Some r) (put_for entries (Some r) signal)
some_told entries r signal legal weighed in_row = each r.signal refl in_row.told
  where
    batch : Name
    batch = weighed.batch

    numbered : unwrap_or (option_and_then (batch_number entries) r.batch) 0 ≡ weighed.number
    numbered = ap (λ (o : Option Name). unwrap_or (option_and_then (batch_number entries) o) 0)
        weighed.of_batch ∙ ap (λ (o : Option ℕ). unwrap_or o 0) weighed.numbered

    named : slice_get (said batch_opened entries)
        (unwrap_or (option_and_then (batch_number entries) r.batch) 0) ≡ Some batch
    named = ap (slice_get (said batch_opened entries)) numbered
        ∙ place_of-name (said batch_opened entries) batch weighed.number weighed.numbered

    on_day : unwrap_or r.day (pos 0) ≡ weighed.day
    on_day = ap (λ (o : Option ℤ). unwrap_or o (pos 0)) weighed.on_day

    pack_on : ℤ → Pack
    pack_on day = record (pack_of entries r) { day = day }

    told : (s : Signal) → r.signal ≡ Some s
        → put_for entries (Some r) signal ≡ Some (known_record entries r batch weighed.day s)
    told s is =
        ap (λ (name : Option Name). put_together (Some (pack_of entries r)) name
        (Some r.lane) signal) named
        ∙ ap (λ day. put_together (Some (pack_on day)) (Some batch) (Some r.lane) signal) on_day
        ∙ ap (put_together (Some (pack_on weighed.day)) (Some batch) (Some r.lane)) (in_row.same ∙ is)

    known : (s : Signal) → r.signal ≡ Some s
        → known_reading entries r ≡ Some (known_record entries r batch weighed.day s)
    known s is =
        ap (option_and_then (λ (b : Name). option_and_then
        (λ day. option_map (known_record entries r b day) r.signal) r.day)) weighed.of_batch
        ∙ ap (option_and_then (λ day. option_map (known_record entries r batch day) r.signal))
        weighed.on_day
        ∙ ap (option_map (known_record entries r batch weighed.day)) is

    whole : (s : Signal) → r.signal ≡ Some s
        → IsTold entries (Some r) (Some (known_record entries r batch weighed.day s))
    whole s is =
        record {
          value = sym (known s is);
          there = refl;
          batch = sym weighed.of_batch;
          pile = refl;
          gross = in_row.range;
          tare = tare_or_nothing (tare_of_reading entries r.batch r.day)
              (tare_within entries r.batch r.day legal);
        }

    each : (o : Option Signal) → r.signal ≡ o → is_some o ≡ true
        → IsTold entries (Some r) (put_for entries (Some r) signal)
    each None is h = absurd (let clash : false ≡ true = h in cc)
    each (Some s) is h = subst (IsTold entries (Some r)) (sym (told s is)) (whole s is)

-- what is told of the pack of a number
pub pack_is_told : (entries : List Entry) (number : ℕ) → IsLegal entries
    → IsTold entries (reading_of entries number)
    (put_for entries (reading_of entries number)
    (option_and_then (λ (e : Entry). e.signal) (entry_numbered entries number)))
pack_is_told entries number legal = each (reading_of entries number) refl
  where
    signal : Option Signal
    signal = option_and_then (λ (e : Entry). e.signal) (entry_numbered entries number)

    each : (o : Option Reading) → reading_of entries number ≡ o
        → IsTold entries o (put_for entries o signal)
    each None is = record {
      value = refl;
      there = refl;
      batch = refl;
      pile = refl;
      gross = tt;
      tare = tt;
    }
    each (Some r) is =
        let weighed =
        (of_reading (IsWeighed entries) entries number r
        (All-from_recursion (IsWeighed entries) (readings entries)
        (known_of entries legal).weighed) is).1 in
        some_told entries r signal legal weighed
        (seen entries number r weighed.batch legal weighed.of_batch is)

-- what the calls give, put together
pub put_is : (entries : List Entry) (number : ℕ) (pack : Option Pack) (batch : Option Name)
    (lane : Option ℕ) (signal : Option Signal) (told : Option KnownPack)
    → pack ≡ pack_told entries number
    → batch ≡ option_and_then (λ (p : Pack). slice_get (said batch_opened entries) p.batch) pack
    → lane ≡ option_map (λ (r : Reading). r.lane) (reading_of entries number)
    → signal ≡ option_and_then (λ (e : Entry). e.signal) (entry_numbered entries number)
    → told ≡ put_together pack batch lane signal
    → told ≡ put_for entries (reading_of entries number)
    (option_and_then (λ (e : Entry). e.signal) (entry_numbered entries number))
put_is entries number pack batch lane signal told packs batches lanes signals is =
    is ∙ (λ i. put_together (packs i)
    ((batches ∙ ap (option_and_then
    (λ (p : Pack). slice_get (said batch_opened entries) p.batch)) packs) i) (lanes i)
    (signals i))

-- ---- whether it waits on its lane

pub waits_told : (entries : List Entry) (number lane : ℕ) (waits : Bool)
    → waits ≡ option_map_or (λ other. other == number)
    (option_map (λ (r : Reading). r.number) (unsettled_reading entries lane)) false
    → Some lane ≡ option_map (λ (r : Reading). r.lane) (reading_of entries number)
    → refused_if waits (Unsettled lane) ≡ rules.unsettled entries number
waits_told entries number lane waits is on = each (reading_of entries number) refl on
  where
    by_number : (o : Option Reading) (n : ℕ)
        → option_map_or (λ other. other == n) (option_map (λ (r : Reading). r.number) o) false
        ≡ option_map_or (λ (r : Reading). r.number == n) o false
    by_number None n = refl
    by_number (Some r) n = refl

    same_number : (a b : ℕ) → Some a ≡ Some b → a ≡ b
    same_number a b h = cc

    each : (o : Option Reading) → reading_of entries number ≡ o
        → Some lane ≡ option_map (λ (r : Reading). r.lane) o
        → refused_if waits (Unsettled lane)
        ≡ option_and_then (λ (r : Reading). refused_if (is_unsettled r) (Unsettled r.lane)) o
    each None found h = absurd (let clash : Some lane ≡ None = h in cc)
    each (Some r) found h =
        let lane_is : lane ≡ r.lane = same_number lane r.lane h in
        let numbered : r.number ≡ number =
        (of_reading (λ (q : Reading). Unit {0}) entries number r (λ k d less. tt) found).0 in
        let own : ((r.lane == lane) && is_unsettled r)
        ≡ option_map_or (λ (q : Reading). q.number == r.number)
        (unsettled_reading entries lane) false =
        waits_by_number entries lane r (found_is_one entries number r found) in
        let alone : ((r.lane == lane) && is_unsettled r) ≡ is_unsettled r =
        ap (λ b. b && is_unsettled r) (eq-eqb r.lane lane (sym lane_is)) in
        let same : waits ≡ is_unsettled r =
        is ∙ by_number (unsettled_reading entries lane) number
        ∙ ap (λ n. option_map_or (λ (q : Reading). q.number == n)
        (unsettled_reading entries lane) false) (sym numbered)
        ∙ sym own ∙ alone in
        (λ i. refused_if (same i) (Unsettled (lane_is i)))
