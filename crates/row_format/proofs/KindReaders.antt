-- What the readers of the fields of each kind tell: the spelling of an act, by its kind.
use Rattle.std.proofs.Common.{◌≡◌, ℕ, ◌+◌, ◌-◌, ◌≤◌, List, [], ◌∷◌, ◌++◌, length, take, drop, replicate, Option, Some, None, Ok, refl, sym, ap, subst, ◌∙◌, append_assoc, arith}
use Rattle.std.specs.Prelude.{⊤, ℤ, pos, IsSome}
use Rattle.std.proofs.lemmas.List.{length-append, length-replicate}
use Rattle.annex_tables.specs.declared.TheConstants.{MIN_NOMINAL, MAX_NOMINAL}
use Rattle.hall_limits.specs.declared.TheConstants.{NAME_BYTES, MAX_GROSS, MAX_TARE, MAX_DAY}
use Rattle.pack_judge.specs.declared.types.Signal.{Signal}
use Rattle.book_words.specs.declared.act.Act.{Act}
use Rattle.book_words.specs.declared.act.Act.TheVariants.{NewDay, PutProduct, PutTare, OpenBatch, StartLane, Weigh, StopLane, Void, EndRun, Draw, Measure, DrawSecond, Close}
use Rattle.book_words.specs.declared.name.Name.{Name}
use Rattle.book_words.specs.Names.{bytes_of}
use Rattle.row_format.specs.declared.codes.Kind.{Kind}
use Rattle.row_format.specs.declared.codes.Kind.TheVariants as kinds
use Rattle.row_format.specs.declared.acts.RowAct.{RowAct}
use Rattle.row_format.specs.Spelling.{four, eight, four_field, eight_field, name_field, prior_code, mode_code, unit_code, fields_of, filled, kind_code}
use Rattle.row_format.specs.Allowed.{IsShort, IsActAllowed, HasSignal, FitsAct}
use Rattle.row_format.specs.Reading.{◌>>=◌, Reader, behind, row_act, ended, zeros_at, number_of_kind, name_at, act_at}
use Rattle.row_format.proofs.Readers.{Tells, IsReader, Within, Then, Image, behind_reads, image_reads, same_reader}
use Rattle.row_format.proofs.FieldReaders.{CodeField, ZeroField, zeros_read}
use Rattle.row_format.proofs.TypedReaders.{FourBytes, EightBytes, DensityField, LaneField, Four, Eight, code_of_signal, day_reads, gross_reads, tare_reads, nominal_reads, density_reads, lane_reads, prior_reads, signal_reads, mode_reads, unit_reads, any_four_reads, any_eight_reads}
use Rattle.row_format.proofs.NameReaders.{NameText, name_reads}

-- a row ends where its fields and the zeros behind them end
abbrev pub Fills : ℕ → ℕ → Type 0
Fills end size = end ≡ size

pub fills_within : (end size : ℕ) → Fills end size → end ≤ size
fills_within end size h = omega arith

-- ---- the fields of each kind

-- zeros alone, and what was told before
abbrev End : ℕ → RowAct → RowAct → List ℕ → Type 0
End size told = Image (λ (_ : ⊤). told) (ZeroField size)

abbrev Day : ℤ → List ℕ → Type 0
Day = FourBytes (pos 0) MAX_DAY

abbrev Gross : ℤ → List ℕ → Type 0
Gross = FourBytes (pos 0) MAX_GROSS

abbrev Tare : ℤ → List ℕ → Type 0
Tare = FourBytes (pos 0) MAX_TARE

abbrev Nominal : ℤ → List ℕ → Type 0
Nominal = EightBytes MIN_NOMINAL MAX_NOMINAL

-- the fields of each kind, one behind the other, and so many zeros
abbrev Fields : (width rest : ℕ) → Kind → RowAct → List ℕ → Type 0
Fields width rest kinds.NewDay = Then Day λ day. End rest (row_act (NewDay day) None)
Fields width rest kinds.PutProduct =
    Then (NameText width) λ name. Then Nominal λ nominal. Then (CodeField unit_code) λ unit.
    End rest (row_act (PutProduct name nominal unit) None)
Fields width rest kinds.PutTare =
    Then (NameText width) λ product. Then Day λ day. Then Tare λ tare. End rest
    (row_act (PutTare product day tare) None)
Fields width rest kinds.OpenBatch =
    Then (NameText width) λ batch. Then (NameText width) λ product. Then DensityField λ density.
    End rest (row_act (OpenBatch batch product density) None)
Fields width rest kinds.StartLane =
    Then LaneField λ lane. Then (NameText width) λ batch. End rest
    (row_act (StartLane lane batch) None)
Fields width rest kinds.Weigh =
    Then LaneField λ lane. Then Gross λ gross. Then (CodeField prior_code) λ prior. Then
    (CodeField code_of_signal) λ signal. End rest
    (row_act (Weigh lane gross prior) (Some signal))
Fields width rest kinds.StopLane =
    Then LaneField λ lane. Then (CodeField prior_code) λ prior. End rest
    (row_act (StopLane lane prior) None)
Fields width rest kinds.Void = Then Four λ pack. End rest (row_act (Void pack) None)
Fields width rest kinds.EndRun = Then (NameText width) λ batch. End rest (row_act (EndRun batch) None)
Fields width rest kinds.Draw =
    Then (NameText width) λ batch. Then (CodeField mode_code) λ mode. Then Eight λ word. End rest
    (row_act (Draw batch mode word) None)
Fields width rest kinds.Measure =
    Then Four λ pack. Then Gross λ gross. Then Tare λ empty. End rest
    (row_act (Measure pack gross empty) None)
Fields width rest kinds.DrawSecond =
    Then (NameText width) λ batch. Then Eight λ word. End rest
    (row_act (DrawSecond batch word) None)
Fields width rest kinds.Close = Then (NameText width) λ batch. End rest (row_act (Close batch) None)

-- how many bytes they have without the zeros
abbrev pub size_of : ℕ → Kind → ℕ
size_of width kinds.NewDay = 4
size_of width kinds.PutProduct = 1 + width + 8 + 1
size_of width kinds.PutTare = 1 + width + 4 + 4
size_of width kinds.OpenBatch = 1 + width + (1 + width) + 4
size_of width kinds.StartLane = 1 + (1 + width)
size_of width kinds.Weigh = 1 + 4 + 1 + 1
size_of width kinds.StopLane = 1 + 1
size_of width kinds.Void = 4
size_of width kinds.EndRun = 1 + width
size_of width kinds.Draw = 1 + width + (1 + 8)
size_of width kinds.Measure = 4 + 4 + 4
size_of width kinds.DrawSecond = 1 + width + 8
size_of width kinds.Close = 1 + width

-- ---- their readers

ended_reads : (size : ℕ) (told : RowAct) → IsReader Fills size (End size told) (ended told)
unfolding ended
ended_reads size told =
    let image = image_reads Within (λ (_ : ⊤). told) size (ZeroField size) (zeros_at size)
    (zeros_read size) in
    record {
      field = image.field;
      tells = λ place bytes fills are.
          let rest : size ≡ length bytes - place = omega (arith, fills) in
          subst (λ k. Tells (End size told) size (take size (drop place bytes)) place
          (zeros_at k place bytes >>= λ _. Ok told)) rest
          (image.tells place bytes (omega (arith, fills)) are);
    }

pub and_then : {A B : Type 0} {m n : ℕ} {F : A → List ℕ → Type 0} {S : A → B → List ℕ → Type 0}
    {f : Reader A} {k : A → Reader B} → IsReader Within m F f
    → ((a : A) → IsReader Fills n (S a) (k a)) → IsReader Fills (m + n) (Then F S) (behind m f k)
and_then first next = behind_reads fills_within first (λ a text is. next a)

sized : {B : Type 0} {m n : ℕ} {S : B → List ℕ → Type 0} {read : Reader B} → IsReader Fills m S read
    → m ≡ n → IsReader Fills n S read
sized {B} {m} {n} {S} {read} reads same = subst (λ k. IsReader Fills k S read) same reads

module _ (width rest : ℕ) (some : 1 ≤ width) (short : width ≤ NAME_BYTES) where
  named : IsReader Within (1 + width) (NameText width) (name_at width)
  named = name_reads width some short

  fields_read : (kind : Kind) → IsReader Fills (size_of width kind + rest) (Fields width rest kind)
      (act_at kind width)
  fields_read kinds.NewDay = sized
      (and_then day_reads λ day. ended_reads rest (row_act (NewDay day) None)) (omega arith)
  fields_read kinds.PutProduct =
      sized (and_then named λ name. and_then nominal_reads λ nominal. and_then unit_reads λ unit.
      ended_reads rest (row_act (PutProduct name nominal unit) None)) (omega arith)
  fields_read kinds.PutTare = sized
      (and_then named λ product. and_then day_reads λ day. and_then tare_reads λ tare.
      ended_reads rest (row_act (PutTare product day tare) None)) (omega arith)
  fields_read kinds.OpenBatch = sized
      (and_then named λ batch. and_then named λ product. and_then density_reads λ density.
      ended_reads rest (row_act (OpenBatch batch product density) None)) (omega arith)
  fields_read kinds.StartLane = sized
      (and_then lane_reads λ lane. and_then named λ batch. ended_reads rest
      (row_act (StartLane lane batch) None)) (omega arith)
  fields_read kinds.Weigh = sized
      (and_then lane_reads λ lane. and_then gross_reads λ gross. and_then prior_reads λ prior.
      and_then signal_reads λ signal. ended_reads rest
      (row_act (Weigh lane gross prior) (Some signal))) (omega arith)
  fields_read kinds.StopLane = sized
      (and_then lane_reads λ lane. and_then prior_reads λ prior. ended_reads rest
      (row_act (StopLane lane prior) None)) (omega arith)
  fields_read kinds.Void = sized
      (and_then any_four_reads λ pack. ended_reads rest (row_act (Void pack) None)) (omega arith)
  fields_read kinds.EndRun = sized
      (and_then named λ batch. ended_reads rest (row_act (EndRun batch) None)) (omega arith)
  fields_read kinds.Draw = sized
      (and_then named λ batch. and_then mode_reads λ mode. and_then any_eight_reads λ word.
      ended_reads rest (row_act (Draw batch mode word) None)) (omega arith)
  fields_read kinds.Measure = sized
      (and_then any_four_reads λ pack. and_then gross_reads λ gross. and_then tare_reads λ empty.
      ended_reads rest (row_act (Measure pack gross empty) None)) (omega arith)
  fields_read kinds.DrawSecond =
      sized (and_then named λ batch. and_then any_eight_reads λ word. ended_reads rest
      (row_act (DrawSecond batch word) None)) (omega arith)
  fields_read kinds.Close = sized
      (and_then named λ batch. ended_reads rest (row_act (Close batch) None)) (omega arith)

-- ---- the spelling of an act

-- the kind of an act
abbrev pub kind_for : Act → Kind
kind_for (NewDay day) = kinds.NewDay
kind_for (PutProduct name nominal unit) = kinds.PutProduct
kind_for (PutTare product day tare) = kinds.PutTare
kind_for (OpenBatch batch product density) = kinds.OpenBatch
kind_for (StartLane lane batch) = kinds.StartLane
kind_for (Weigh lane gross prior) = kinds.Weigh
kind_for (StopLane lane prior) = kinds.StopLane
kind_for (Void pack) = kinds.Void
kind_for (EndRun batch) = kinds.EndRun
kind_for (Draw batch mode word) = kinds.Draw
kind_for (Measure pack gross empty) = kinds.Measure
kind_for (DrawSecond batch word) = kinds.DrawSecond
kind_for (Close batch) = kinds.Close

pub kind_number : (act : Act) → number_of_kind (kind_for act) ≡ kind_code act
kind_number (NewDay day) = refl
kind_number (PutProduct name nominal unit) = refl
kind_number (PutTare product day tare) = refl
kind_number (OpenBatch batch product density) = refl
kind_number (StartLane lane batch) = refl
kind_number (Weigh lane gross prior) = refl
kind_number (StopLane lane prior) = refl
kind_number (Void pack) = refl
kind_number (EndRun batch) = refl
kind_number (Draw batch mode word) = refl
kind_number (Measure pack gross empty) = refl
kind_number (DrawSecond batch word) = refl
kind_number (Close batch) = refl

-- an act and its signal may stand in a row, and these are the bytes of their fields with so many
-- zeros
pub record IsAct (width rest : ℕ) (act : Act) (signal : Option Signal) (text : List ℕ) : Type 0 where
  pub allowed : IsActAllowed width act
  pub signalled : HasSignal act signal
  pub fits : FitsAct act
  pub spelled : text ≡ fields_of width act signal ++ replicate rest 0

abbrev IsActOf : (width rest : ℕ) → Kind → RowAct → List ℕ → Type 0
IsActOf width rest kind told text = (kind_for told.act ≡ kind)
    × IsAct width rest told.act told.signal text

two_fields : (a b z : List ℕ) → (a ++ b) ++ z ≡ a ++ (b ++ z)
two_fields a b z = append_assoc a b z

three_fields : (a b c z : List ℕ) → ((a ++ b) ++ c) ++ z ≡ a ++ (b ++ (c ++ z))
three_fields a b c z = append_assoc (a ++ b) c z ∙ append_assoc a b (c ++ z)

-- a field behind which another text stands
step : {A B : Type 0} {F : A → List ℕ → Type 0} {S : A → B → List ℕ → Type 0} {b : B} (a : A)
    (front rest : List ℕ) → F a front → S a b rest → Then F S b (front ++ rest)
step a front rest starts goes =
    record { first = a; front = front; rest = rest; starts = starts; goes = goes; parts = refl }

no_signal : (signal : Option Signal) → signal ≡ None → IsSome signal → ⊥
no_signal signal is some = absurd cc

module _ (width rest : ℕ) where
  told_as : (act : Act) (signal : Option Signal) (told : RowAct) (text : List ℕ)
      → told ≡ row_act act signal → IsAct width rest act signal text
      → IsActOf width rest (kind_for act) told text
  told_as act signal told text is spelled =
      subst (λ t. IsActOf width rest (kind_for act) t text) (sym is) (refl, spelled)

  -- the fields of a kind spell an act of that kind
  act_of_fields : (kind : Kind) (told : RowAct) (text : List ℕ) → Fields width rest kind told text
      → IsActOf width rest kind told text
  act_of_fields kinds.NewDay told text x =
      let end = x.goes in
      told_as (NewDay x.first) None told text end.is
      (record {
        allowed = x.starts.0;
        signalled = refl;
        fits = tt;
        spelled =
            rw (x.parts, x.starts.1, end.spelled) refl;
      })
  act_of_fields kinds.PutProduct told text x =
      let y = x.goes in
      let z = y.goes in
      let end = z.goes in
      told_as (PutProduct x.first y.first z.first) None told text end.is
      (record {
        allowed = (x.starts.0, y.starts.0);
        signalled = refl;
        fits = tt;
        spelled =
            rw (x.parts, x.starts.1, y.parts, y.starts.1, z.parts, z.starts, end.spelled)
            (sym (three_fields (name_field width x.first) (eight_field y.first)
            (unit_code z.first ∷ []) (replicate rest 0)));
      })
  act_of_fields kinds.PutTare told text x =
      let y = x.goes in
      let z = y.goes in
      let end = z.goes in
      told_as (PutTare x.first y.first z.first) None told text end.is
      (record {
        allowed = (x.starts.0, y.starts.0, z.starts.0);
        signalled = refl;
        fits = tt;
        spelled = rw (x.parts, x.starts.1, y.parts, y.starts.1, z.parts, z.starts.1, end.spelled)
            (sym (three_fields (name_field width x.first) (four_field y.first) (four_field z.first)
            (replicate rest 0)));
      })
  act_of_fields kinds.OpenBatch told text x =
      let y = x.goes in
      let z = y.goes in
      let end = z.goes in
      told_as (OpenBatch x.first y.first z.first) None told text end.is
      (record {
        allowed = (x.starts.0, y.starts.0, z.starts.0);
        signalled = refl;
        fits = tt;
        spelled = rw (x.parts, x.starts.1, y.parts, y.starts.1, z.parts, z.starts.1, end.spelled)
            (sym (three_fields (name_field width x.first) (name_field width y.first) (four z.first)
            (replicate rest 0)));
      })
  act_of_fields kinds.StartLane told text x =
      let y = x.goes in
      let end = y.goes in
      told_as (StartLane x.first y.first) None told text end.is
      (record {
        allowed = (x.starts.0, y.starts.0);
        signalled = refl;
        fits = tt;
        spelled =
            rw (x.parts, x.starts.1, y.parts, y.starts.1, end.spelled) refl;
      })
  act_of_fields kinds.Weigh told text x =
      let y = x.goes in
      let z = y.goes in
      let u = z.goes in
      let end = u.goes in
      told_as (Weigh x.first y.first z.first) (Some u.first) told text end.is
      (record {
        allowed = (x.starts.0, y.starts.0);
        signalled = refl;
        fits = tt;
        spelled =
            rw (
              x.parts,
              x.starts.1,
              y.parts,
              y.starts.1,
              z.parts,
              z.starts,
              u.parts,
              u.starts,
              end.spelled,
            ) refl;
      })
  act_of_fields kinds.StopLane told text x =
      let y = x.goes in
      let end = y.goes in
      told_as (StopLane x.first y.first) None told text end.is
      (record {
        allowed = x.starts.0;
        signalled = refl;
        fits = tt;
        spelled =
            rw (x.parts, x.starts.1, y.parts, y.starts, end.spelled) refl;
      })
  act_of_fields kinds.Void told text x =
      let end = x.goes in
      told_as (Void x.first) None told text end.is
      (record {
        allowed = tt;
        signalled = refl;
        fits = x.starts.below;
        spelled =
            rw (x.parts, x.starts.is, end.spelled) refl;
      })
  act_of_fields kinds.EndRun told text x =
      let end = x.goes in
      told_as (EndRun x.first) None told text end.is
      (record {
        allowed = x.starts.0;
        signalled = refl;
        fits = tt;
        spelled =
            rw (x.parts, x.starts.1, end.spelled) refl;
      })
  act_of_fields kinds.Draw told text x =
      let y = x.goes in
      let z = y.goes in
      let end = z.goes in
      told_as (Draw x.first y.first z.first) None told text end.is
      (record {
        allowed = x.starts.0;
        signalled = refl;
        fits = z.starts.below;
        spelled =
            rw (x.parts, x.starts.1, y.parts, y.starts, z.parts, z.starts.is, end.spelled)
            (sym (append_assoc (name_field width x.first) (mode_code y.first ∷ eight z.first)
            (replicate rest 0)));
      })
  act_of_fields kinds.Measure told text x =
      let y = x.goes in
      let z = y.goes in
      let end = z.goes in
      told_as (Measure x.first y.first z.first) None told text end.is
      (record {
        allowed = (y.starts.0, z.starts.0);
        signalled = refl;
        fits = x.starts.below;
        spelled = rw (x.parts, x.starts.is, y.parts, y.starts.1, z.parts, z.starts.1, end.spelled)
            refl;
      })
  act_of_fields kinds.DrawSecond told text x =
      let y = x.goes in
      let end = y.goes in
      told_as (DrawSecond x.first y.first) None told text end.is
      (record {
        allowed = x.starts.0;
        signalled = refl;
        fits = y.starts.below;
        spelled =
            rw (x.parts, x.starts.1, y.parts, y.starts.is, end.spelled)
            (sym (append_assoc (name_field width x.first) (eight y.first) (replicate rest 0)));
      })
  act_of_fields kinds.Close told text x =
      let end = x.goes in
      told_as (Close x.first) None told text end.is
      (record {
        allowed = x.starts.0;
        signalled = refl;
        fits = tt;
        spelled =
            rw (x.parts, x.starts.1, end.spelled) refl;
      })

  ending : (act : Act) (signal : Option Signal) → signal ≡ None
      → End rest (row_act act None) (row_act act signal) (replicate rest 0)
  ending act signal is = record { from = tt; spelled = refl; is = ap (row_act act) is }

  -- what spells an act has the fields of its kind
  fields_of_act : (act : Act) (signal : Option Signal) (text : List ℕ)
      → IsAct width rest act signal text
      → Fields width rest (kind_for act) (row_act act signal) text
  fields_of_act (NewDay day) signal text is =
      subst (Fields width rest kinds.NewDay (row_act (NewDay day) signal)) (sym (is.spelled))
      (step day (four_field day) _ (is.allowed, refl) (ending (NewDay day) signal is.signalled))
  fields_of_act (PutProduct name nominal unit) signal text is =
      subst (Fields width rest kinds.PutProduct (row_act (PutProduct name nominal unit) signal))
      (sym (is.spelled ∙ three_fields (name_field width name) (eight_field nominal)
      (unit_code unit ∷ []) (replicate rest 0)))
      (step name (name_field width name) _ (is.allowed.0, refl)
      (step nominal (eight_field nominal) _ (is.allowed.1, refl)
      (step unit (unit_code unit ∷ []) _ refl
      (ending (PutProduct name nominal unit) signal is.signalled))))
  fields_of_act (PutTare product day tare) signal text is =
      subst (Fields width rest kinds.PutTare (row_act (PutTare product day tare) signal))
      (sym (is.spelled ∙ three_fields (name_field width product) (four_field day)
      (four_field tare) (replicate rest 0)))
      (step product (name_field width product) _ (is.allowed.0, refl)
      (step day (four_field day) _ (is.allowed.1, refl)
      (step tare (four_field tare) _ (is.allowed.2, refl)
      (ending (PutTare product day tare) signal is.signalled))))
  fields_of_act (OpenBatch batch product density) signal text is =
      subst (Fields width rest kinds.OpenBatch (row_act (OpenBatch batch product density) signal))
      (sym (is.spelled ∙ three_fields (name_field width batch) (name_field width product)
      (four density) (replicate rest 0)))
      (step batch (name_field width batch) _ (is.allowed.0, refl)
      (step product (name_field width product) _ (is.allowed.1, refl)
      (step density (four density) _ (is.allowed.2, refl)
      (ending (OpenBatch batch product density) signal is.signalled))))
  fields_of_act (StartLane lane batch) signal text is =
      subst (Fields width rest kinds.StartLane (row_act (StartLane lane batch) signal))
      (sym (is.spelled)) (step lane (lane ∷ []) _ (is.allowed.0, refl)
      (step batch (name_field width batch) _ (is.allowed.1, refl)
      (ending (StartLane lane batch) signal is.signalled)))
  fields_of_act (Weigh lane gross prior) (Some signal) text is =
      subst (Fields width rest kinds.Weigh (row_act (Weigh lane gross prior) (Some signal)))
      (sym (is.spelled)) (step lane (lane ∷ []) _ (is.allowed.0, refl)
      (step gross (four_field gross) _ (is.allowed.1, refl)
      (step prior (prior_code prior ∷ []) _ refl
      (step signal (code_of_signal signal ∷ []) _ refl
      (record { from = tt; spelled = refl; is = refl })))))
  fields_of_act (Weigh lane gross prior) None text is = absurd (no_signal None refl is.signalled)
  fields_of_act (StopLane lane prior) signal text is =
      subst (Fields width rest kinds.StopLane (row_act (StopLane lane prior) signal))
      (sym (is.spelled)) (step lane (lane ∷ []) _ (is.allowed, refl)
      (step prior (prior_code prior ∷ []) _ refl
      (ending (StopLane lane prior) signal is.signalled)))
  fields_of_act (Void pack) signal text is =
      subst (Fields width rest kinds.Void (row_act (Void pack) signal)) (sym (is.spelled))
      (step pack (four pack) _ (record { below = is.fits; is = refl })
      (ending (Void pack) signal is.signalled))
  fields_of_act (EndRun batch) signal text is =
      subst (Fields width rest kinds.EndRun (row_act (EndRun batch) signal)) (sym (is.spelled))
      (step batch (name_field width batch) _ (is.allowed, refl)
      (ending (EndRun batch) signal is.signalled))
  fields_of_act (Draw batch mode word) signal text is =
      subst (Fields width rest kinds.Draw (row_act (Draw batch mode word) signal))
      (sym (is.spelled ∙ append_assoc (name_field width batch) (mode_code mode ∷ eight word)
      (replicate rest 0))) (step batch (name_field width batch) _ (is.allowed, refl)
      (step mode (mode_code mode ∷ []) _ refl
      (step word (eight word) _ (record { below = is.fits; is = refl })
      (ending (Draw batch mode word) signal is.signalled))))
  fields_of_act (Measure pack gross empty) signal text is =
      subst (Fields width rest kinds.Measure (row_act (Measure pack gross empty) signal))
      (sym (is.spelled)) (step pack (four pack) _ (record { below = is.fits; is = refl })
      (step gross (four_field gross) _ (is.allowed.0, refl)
      (step empty (four_field empty) _ (is.allowed.1, refl)
      (ending (Measure pack gross empty) signal is.signalled))))
  fields_of_act (DrawSecond batch word) signal text is =
      subst (Fields width rest kinds.DrawSecond (row_act (DrawSecond batch word) signal))
      (sym (is.spelled ∙ append_assoc (name_field width batch) (eight word) (replicate rest 0)))
      (step batch (name_field width batch) _ (is.allowed, refl)
      (step word (eight word) _ (record { below = is.fits; is = refl })
      (ending (DrawSecond batch word) signal is.signalled)))
  fields_of_act (Close batch) signal text is =
      subst (Fields width rest kinds.Close (row_act (Close batch) signal)) (sym (is.spelled))
      (step batch (name_field width batch) _ (is.allowed, refl)
      (ending (Close batch) signal is.signalled))

-- ---- in a row of so many bytes

-- names have so many bytes, and the fields of each kind have room in so many
pub record HasRoom (total width : ℕ) : Type 0 where
  pub some : 1 ≤ width
  pub short : width ≤ NAME_BYTES
  pub names : 1 + width + (1 + width) + 4 ≤ total
  pub name : 1 + width + 9 ≤ total
  pub others : 12 ≤ total

size_fits : (total width : ℕ) → HasRoom total width → (kind : Kind) → size_of width kind ≤ total
size_fits total width room kinds.NewDay = omega (arith, room.others)
size_fits total width room kinds.PutProduct = omega (arith, room.name)
size_fits total width room kinds.PutTare = omega (arith, room.name)
size_fits total width room kinds.OpenBatch = omega (arith, room.names)
size_fits total width room kinds.StartLane = omega (arith, room.name)
size_fits total width room kinds.Weigh = omega (arith, room.others)
size_fits total width room kinds.StopLane = omega (arith, room.others)
size_fits total width room kinds.Void = omega (arith, room.others)
size_fits total width room kinds.EndRun = omega (arith, room.name)
size_fits total width room kinds.Draw = omega (arith, room.name)
size_fits total width room kinds.Measure = omega (arith, room.others)
size_fits total width room kinds.DrawSecond = omega (arith, room.name)
size_fits total width room kinds.Close = omega (arith, room.name)

length_name : (width : ℕ) (name : Name) → IsShort width name → length (name_field width name) ≡ 1 + width
length_name width name short =
    omega (
      arith,
      length-append (bytes_of name) (replicate (width - length (bytes_of name)) 0),
      length-replicate {A = ℕ} (width - length (bytes_of name)) 0,
    )

length_behind : (width : ℕ) (name : Name) (rest : List ℕ) → IsShort width name
    → length (name_field width name ++ rest) ≡ 1 + width + length rest
length_behind width name rest short = length-append (name_field width name) rest
    ∙ ap (λ k. k + length rest) (length_name width name short)

-- how many bytes the fields of an act have
length_fields : (width : ℕ) (act : Act) (signal : Option Signal) → IsActAllowed width act
    → length (fields_of width act signal) ≡ size_of width (kind_for act)
length_fields width (PutProduct name nominal unit) signal is =
    length-append (name_field width name ++ eight_field nominal) (unit_code unit ∷ [])
    ∙ ap (λ k. k + 1) (length_behind width name (eight_field nominal) is.0)
length_fields width (PutTare product day tare) signal is =
    length-append (name_field width product ++ four_field day) (four_field tare)
    ∙ ap (λ k. k + 4) (length_behind width product (four_field day) is.0)
length_fields width (OpenBatch batch product density) signal is =
    length-append (name_field width batch ++ name_field width product) (four density)
    ∙ ap (λ k. k + 4) (length_behind width batch (name_field width product) is.0
    ∙ ap (λ k. 1 + width + k) (length_name width product is.1))
length_fields width (StartLane lane batch) signal is = omega (arith, length_name width batch is.1)
length_fields width (EndRun batch) signal is = length_name width batch is
length_fields width (Draw batch mode word) signal is =
    length_behind width batch (mode_code mode ∷ eight word) is
length_fields width (DrawSecond batch word) signal is = length_behind width batch (eight word) is
length_fields width (Close batch) signal is = length_name width batch is
length_fields width act signal is = refl

-- an act of this kind and its signal may stand in a row, and this is their text
pub record IsBody (total width : ℕ) (kind : Kind) (told : RowAct) (text : List ℕ) : Type 0 where
  pub of_kind : kind_for told.act ≡ kind
  pub allowed : IsActAllowed width told.act
  pub signalled : HasSignal told.act told.signal
  pub fits : FitsAct told.act
  pub spelled : text ≡ filled total (fields_of width told.act told.signal)

module _ (total width : ℕ) (kind : Kind) where
  zeros_behind : (told : RowAct) → kind_for told.act ≡ kind → IsActAllowed width told.act
      → fields_of width told.act told.signal ++ replicate (total - size_of width kind) 0
      ≡ filled total (fields_of width told.act told.signal)
  zeros_behind told is allowed =
      let long : size_of width kind ≡ length (fields_of width told.act told.signal) =
      ap (size_of width) (sym is) ∙ sym (length_fields width told.act told.signal allowed) in
      ap (λ k. fields_of width told.act told.signal ++ replicate (total - k) 0) long

  body_of_fields : (told : RowAct) (text : List ℕ)
      → Fields width (total - size_of width kind) kind told text → IsBody total width kind told text
  body_of_fields told text x =
      let act = act_of_fields width (total - size_of width kind) kind told text x in
      record {
        of_kind = act.0;
        allowed = act.1.allowed;
        signalled = act.1.signalled;
        fits =
            act.1.fits;
        spelled = act.1.spelled ∙ zeros_behind told act.0 act.1.allowed;
      }

  fields_of_body : (told : RowAct) (text : List ℕ) → IsBody total width kind told text
      → Fields width (total - size_of width kind) kind told text
  fields_of_body told text is =
      let spelled = is.spelled ∙ sym (zeros_behind told is.of_kind is.allowed) in
      let act : IsAct width (total - size_of width kind) told.act told.signal text =
      record {
        allowed = is.allowed;
        signalled = is.signalled;
        fits = is.fits;
        spelled =
            spelled;
      } in
      subst (λ k. Fields width (total - size_of width kind) k told text) is.of_kind
      (fields_of_act width (total - size_of width kind) told.act told.signal text act)

  -- the reader of the fields of a kind tells the acts of that kind
  pub act_reads : HasRoom total width
      → IsReader Fills total (IsBody total width kind) (act_at kind width)
  act_reads room =
      let whole = size_fits total width room kind in
      same_reader Fills (size_of width kind + (total - size_of width kind)) total
      (Fields width (total - size_of width kind) kind) (IsBody total width kind)
      (act_at kind width) (omega arith) body_of_fields fields_of_body
      (fields_read width (total - size_of width kind) room.some room.short kind)
