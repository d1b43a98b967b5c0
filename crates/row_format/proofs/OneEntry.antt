-- The bytes of a row spell one entry at most.
use Rattle.std.proofs.Common.{◌≡◌, ◌≢◌, ℕ, ℤ, pos, ◌-◌, ◌^◌, ◌<◌, ◌≤◌, ◌==◌, true, false, List, [], ◌∷◌, ◌++◌, length, take, drop, replicate, get_or, unsigned_abs, negsuc, ⊎_elim, Option, Some, None, IsSome, refl, sym, ◌∙◌, ap, arith, length-append}
use Rattle.std.proofs.lemmas.Bool.{eqb-false}
use Rattle.std.specs.Int.{w16, w32, w64, from_le_bytes}
use Rattle.std.proofs.lemmas.Nat.{from_le_bytes-to_le_bytes_2, from_le_bytes-to_le_bytes_4, from_le_bytes-to_le_bytes_8}
use Rattle.std.proofs.lemmas.List.{append_assoc, take_at, drop_at, length-replicate}
use Rattle.std.proofs.lemmas.Int.{ints}
use Rattle.std.proofs.lemmas.Slice.Eq.{bytes_eq-Decides}
use Rattle.annex_tables.specs.declared.TheConstants.{MIN_NOMINAL, MAX_NOMINAL}
use Rattle.hall_limits.specs.declared.TheConstants.{NAME_BYTES, MAX_DAY, MAX_GROSS, MAX_TARE}
use Rattle.annex_tables.specs.declared.types.Mode.{Mode}
use Rattle.annex_tables.specs.declared.types.Mode.TheVariants.{Keep, Destroy}
use Rattle.pack_judge.specs.declared.types.Cause.{Cause}
use Rattle.pack_judge.specs.declared.types.Cause.TheVariants.{Held, Full, Inadequate, Allowance}
use Rattle.pack_judge.specs.declared.types.Signal.{Signal}
use Rattle.pack_judge.specs.declared.types.Signal.TheVariants.{Pass, Reject}
use Rattle.book_words.specs.declared.act.Prior.{Prior}
use Rattle.book_words.specs.declared.act.Prior.TheVariants.{Nothing, Opened, Stayed, Unknown}
use Rattle.book_words.specs.declared.act.Unit as units
use Rattle.book_words.specs.declared.act.Unit.TheVariants.{Mass, Volume}
use Rattle.book_words.specs.declared.act.Act.{Act}
use Rattle.book_words.specs.declared.act.Act.TheVariants.{NewDay, PutProduct, PutTare, OpenBatch, StartLane, Weigh, StopLane, Void, EndRun, Draw, Measure, DrawSecond, Close}
use Rattle.book_words.specs.declared.name.Name.{Name}
use Rattle.book_words.specs.Names.{bytes_of}
use Rattle.book_words.specs.Ranges.{IsBetween}
use Rattle.book_words.proofs.NameLemmas.{same_name_is}
use Rattle.row_format.specs.Spelling.{new_layout, two, four, eight, four_field, eight_field, name_field, prior_code, signal_code, mode_code, unit_code, kind_code, fields_of, row_bytes}
use Rattle.row_format.specs.Allowed.{IsShort, IsDensity, IsActAllowed, HasSignal, FitsAct}
use Rattle.row_format.specs.Rows.{SpellsOneEntry}

-- a byte, and what stands behind it
byte_parts : (a b : ℕ) (xs ys : List ℕ) → a ∷ xs ≡ b ∷ ys → (a ≡ b) × (xs ≡ ys)
byte_parts a b xs ys h = (ap (λ (l : List ℕ). get_or l 0 0) h, ap (λ (l : List ℕ). drop 1 l) h)

-- a number of two, four or eight bytes
two_same : (a b : ℕ) → a < 2 ^ 16 → b < 2 ^ 16 → two a ≡ two b → a ≡ b
two_same a b small other h = sym (from_le_bytes-to_le_bytes_2 a small)
    ∙ ap (λ (l : List ℕ). from_le_bytes w16 l) h ∙ from_le_bytes-to_le_bytes_2 b other

four_parts : (a b : ℕ) (xs ys : List ℕ) → a < 2 ^ 32 → b < 2 ^ 32 → four a ++ xs ≡ four b ++ ys
    → (a ≡ b) × (xs ≡ ys)
four_parts a b xs ys small other h =
    let front : four a ≡ four b = ap (λ (l : List ℕ). take 4 l) h in (
      sym (from_le_bytes-to_le_bytes_4 a small) ∙ ap (λ (l : List ℕ). from_le_bytes w32 l) front
          ∙ from_le_bytes-to_le_bytes_4 b other,
      ap (λ (l : List ℕ). drop 4 l) h,
    )

eight_parts : (a b : ℕ) (xs ys : List ℕ) → a < 2 ^ 64 → b < 2 ^ 64 → eight a ++ xs ≡ eight b ++ ys
    → (a ≡ b) × (xs ≡ ys)
eight_parts a b xs ys small other h =
    let front : eight a ≡ eight b = ap (λ (l : List ℕ). take 8 l) h in (
      sym (from_le_bytes-to_le_bytes_8 a small) ∙ ap (λ (l : List ℕ). from_le_bytes w64 l) front
          ∙ from_le_bytes-to_le_bytes_8 b other,
      ap (λ (l : List ℕ). drop 8 l) h,
    )

-- whole numbers of four or eight bytes that aren't below 0
int_parts : (least most : ℕ) (a b : ℤ) (xs ys : List ℕ) → most < 2 ^ 32
    → IsBetween (pos least) (pos most) a → IsBetween (pos least) (pos most) b
    → four_field a ++ xs ≡ four_field b ++ ys → (a ≡ b) × (xs ≡ ys)
int_parts least most (pos n) (pos m) xs ys small within other h =
    let n_most : n ≤ most = omega (arith, ints, within.1) in
    let m_most : m ≤ most = omega (arith, ints, other.1) in
    let p = four_parts n m xs ys (omega (arith, small, n_most)) (omega (arith, small, m_most)) h in
    (ap pos p.0, p.1)
int_parts least most (pos n) (negsuc m) xs ys small within other h =
    absurd (omega (arith, ints, other.0))
int_parts least most (negsuc n) b xs ys small within other h = absurd (omega (arith, ints, within.0))

long_parts : (least most : ℕ) (a b : ℤ) (xs ys : List ℕ) → most < 2 ^ 64
    → IsBetween (pos least) (pos most) a → IsBetween (pos least) (pos most) b
    → eight_field a ++ xs ≡ eight_field b ++ ys → (a ≡ b) × (xs ≡ ys)
long_parts least most (pos n) (pos m) xs ys small within other h =
    let n_most : n ≤ most = omega (arith, ints, within.1) in
    let m_most : m ≤ most = omega (arith, ints, other.1) in
    let p = eight_parts n m xs ys (omega (arith, small, n_most)) (omega (arith, small, m_most)) h in
    (ap pos p.0, p.1)
long_parts least most (pos n) (negsuc m) xs ys small within other h =
    absurd (omega (arith, ints, other.0))
long_parts least most (negsuc n) b xs ys small within other h = absurd (omega (arith, ints, within.0))

-- a name, and what stands behind it
name_parts : (a b : Name) (xs ys : List ℕ) → IsShort NAME_BYTES a → IsShort NAME_BYTES b
    → name_field NAME_BYTES a ++ xs ≡ name_field NAME_BYTES b ++ ys → (a ≡ b) × (xs ≡ ys)
name_parts a b xs ys short other h =
    let la = length (bytes_of a) in
    let lb = length (bytes_of b) in
    let za : List ℕ = replicate (NAME_BYTES - la) 0 in
    let zb : List ℕ = replicate (NAME_BYTES - lb) 0 in
    let step = byte_parts la lb ((bytes_of a ++ za) ++ xs) ((bytes_of b ++ zb) ++ ys) h in
    let full : length (bytes_of a ++ za) ≡ NAME_BYTES =
    omega (
      arith,
      short,
      length-append (bytes_of a) za,
      length-replicate {A = ℕ} (NAME_BYTES - la) 0,
    ) in
    let full_b : length (bytes_of b ++ zb) ≡ NAME_BYTES =
    omega (
      arith,
      other,
      length-append (bytes_of b) zb,
      length-replicate {A = ℕ} (NAME_BYTES - lb) 0,
    ) in
    let front : bytes_of a ++ za ≡ bytes_of b ++ zb =
    sym (take_at (bytes_of a ++ za) xs NAME_BYTES full)
    ∙ ap (λ (l : List ℕ). take NAME_BYTES l) step.1
    ∙ take_at (bytes_of b ++ zb) ys NAME_BYTES full_b in
    let rest : xs ≡ ys = sym (drop_at (bytes_of a ++ za) xs NAME_BYTES full)
    ∙ ap (λ (l : List ℕ). drop NAME_BYTES l) step.1
    ∙ drop_at (bytes_of b ++ zb) ys NAME_BYTES full_b in
    let bytes : bytes_of a ≡ bytes_of b = sym (take_at (bytes_of a) za la refl)
    ∙ ap (λ (l : List ℕ). take la l) front ∙ ap (λ (n : ℕ). take n (bytes_of b ++ zb)) step.0
    ∙ take_at (bytes_of b) zb lb refl in
    (same_name_is a b ((bytes_eq-Decides (bytes_of a) (bytes_of b)).1 bytes), rest)

name_then : (a b : Name) (m n xs ys : List ℕ) → IsShort NAME_BYTES a → IsShort NAME_BYTES b
    → (name_field NAME_BYTES a ++ m) ++ xs ≡ (name_field NAME_BYTES b ++ n) ++ ys → (a ≡ b)
    × (m ++ xs ≡ n ++ ys)
name_then a b m n xs ys short other h =
    name_parts a b (m ++ xs) (n ++ ys) short other
    (sym (append_assoc (name_field NAME_BYTES a) m xs) ∙ h
    ∙ append_assoc (name_field NAME_BYTES b) n ys)

name_first : (a b : Name) (m n more others xs ys : List ℕ) → IsShort NAME_BYTES a
    → IsShort NAME_BYTES b → ((name_field NAME_BYTES a ++ m) ++ more) ++ xs
    ≡ ((name_field NAME_BYTES b ++ n) ++ others) ++ ys → (a ≡ b)
    × (m ++ (more ++ xs) ≡ n ++ (others ++ ys))
name_first a b m n more others xs ys short other h =
    name_then a b m n (more ++ xs) (others ++ ys) short other
    (sym (append_assoc (name_field NAME_BYTES a ++ m) more xs) ∙ h
    ∙ append_assoc (name_field NAME_BYTES b ++ n) others ys)

-- the codes of what isn't a number
prior_same : (a b : Prior) → prior_code a ≡ prior_code b → a ≡ b
prior_same Nothing Nothing h = refl
prior_same Opened Opened h = refl
prior_same Stayed Stayed h = refl
prior_same Unknown Unknown h = refl
prior_same a b h = absurd (cc)

unit_same : (a b : units.Unit) → unit_code a ≡ unit_code b → a ≡ b
unit_same Mass Mass h = refl
unit_same Volume Volume h = refl
unit_same a b h = absurd (cc)

mode_same : (a b : Mode) → mode_code a ≡ mode_code b → a ≡ b
mode_same Keep Keep h = refl
mode_same Destroy Destroy h = refl
mode_same a b h = absurd (cc)

abbrev signal_none : Option Signal
signal_none = None

no_signal : IsSome (signal_none) → ⊥
no_signal h = cc

cause_same : (a b : Cause) → signal_code (Some (Reject a)) ≡ signal_code (Some (Reject b)) → a ≡ b
cause_same Held Held h = refl
cause_same Full Full h = refl
cause_same Inadequate Inadequate h = refl
cause_same Allowance Allowance h = refl
cause_same a b h = absurd (cc)

no_cause : (a : Cause) → signal_code (Some (Reject a)) ≢ 0
no_cause Held h = absurd (cc)
no_cause Full h = absurd (cc)
no_cause Inadequate h = absurd (cc)
no_cause Allowance h = absurd (cc)

signal_same : (a b : Option Signal) → IsSome a → IsSome b → signal_code a ≡ signal_code b → a ≡ b
signal_same (Some Pass) (Some Pass) is at h = refl
signal_same (Some (Reject a)) (Some (Reject b)) is at h =
    ap (λ (c : Cause). Some (Reject c)) (cause_same a b h)
signal_same (Some Pass) (Some (Reject b)) is at h = absurd (no_cause b (sym h))
signal_same (Some (Reject a)) (Some Pass) is at h = absurd (no_cause a h)
signal_same None b is at h = absurd (no_signal is)
signal_same (Some a) None is at h = absurd (no_signal at)

density_small : (density : ℕ) → IsDensity density → density < 2 ^ 32
density_small density is = ⊎_elim (λ none. omega (arith, none)) (λ some. omega (arith, some.1)) is

-- the fields of an act
act_parts : (a b : Act) (s t : Option Signal) (xs ys : List ℕ) → IsActAllowed NAME_BYTES a
    → IsActAllowed NAME_BYTES b → HasSignal a s → HasSignal b t → FitsAct a → FitsAct b
    → kind_code a ≡ kind_code b
    → fields_of NAME_BYTES a s ++ xs ≡ fields_of NAME_BYTES b t ++ ys → (a ≡ b) × (s ≡ t)
act_parts (NewDay d) (NewDay e) s t xs ys can could si ti fits other kind h =
    let p = int_parts 0 (unsigned_abs MAX_DAY) d e xs ys (omega arith) can could h in
    (ap (λ (x : ℤ). NewDay x) p.0, si ∙ sym ti)
act_parts (PutProduct n q u) (PutProduct m r v) s t xs ys can could si ti fits other kind h =
    let p = name_first n m (eight_field q) (eight_field r) (unit_code u ∷ [])
    (unit_code v ∷ []) xs ys can.0 could.0 h in
    let o = long_parts (unsigned_abs MIN_NOMINAL) (unsigned_abs MAX_NOMINAL) q r (unit_code u ∷ xs)
    (unit_code v ∷ ys) (omega arith) can.1 could.1 p.1 in
    let w = unit_same u v (byte_parts (unit_code u) (unit_code v) xs ys o.1).0 in
    (λ i. PutProduct (p.0 i) (o.0 i) (w i), si ∙ sym ti)
act_parts (PutTare n d q) (PutTare m e r) s t xs ys can could si ti fits other kind h =
    let p = name_first n m (four_field d) (four_field e) (four_field q)
    (four_field r) xs ys can.0 could.0 h in
    let o = int_parts 0 (unsigned_abs MAX_DAY) d e (four_field q ++ xs) (four_field r ++ ys)
    (omega arith) can.1 could.1 p.1 in
    let w = int_parts 0 (unsigned_abs MAX_TARE) q r xs ys (omega arith) can.2 could.2 o.1 in
    (λ i. PutTare (p.0 i) (o.0 i) (w.0 i), si ∙ sym ti)
act_parts (OpenBatch n k d) (OpenBatch m l e) s t xs ys can could si ti fits other kind h =
    let p = name_first n m (name_field NAME_BYTES k) (name_field NAME_BYTES l) (four d)
    (four e) xs ys can.0 could.0 h in
    let o = name_parts k l (four d ++ xs) (four e ++ ys) can.1 could.1 p.1 in
    let w = four_parts d e xs ys (density_small d can.2) (density_small e could.2) o.1 in
    (λ i. OpenBatch (p.0 i) (o.0 i) (w.0 i), si ∙ sym ti)
act_parts (StartLane k n) (StartLane l m) s t xs ys can could si ti fits other kind h =
    let p = byte_parts k l (name_field NAME_BYTES n ++ xs) (name_field NAME_BYTES m ++ ys) h in
    let o = name_parts n m xs ys can.1 could.1 p.1 in
    (λ i. StartLane (p.0 i) (o.0 i), si ∙ sym ti)
act_parts (Weigh k q u) (Weigh l r v) s t xs ys can could si ti fits other kind h =
    let p = byte_parts k l (four_field q ++ prior_code u ∷ signal_code s ∷ xs)
    (four_field r ++ prior_code v ∷ signal_code t ∷ ys) h in
    let o = int_parts 0 (unsigned_abs MAX_GROSS) q r (prior_code u ∷ signal_code s ∷ xs)
    (prior_code v ∷ signal_code t ∷ ys) (omega arith) can.1 could.1 p.1 in
    let w = byte_parts (prior_code u) (prior_code v) (signal_code s ∷ xs) (signal_code t ∷ ys) o.1 in
    let z = byte_parts (signal_code s) (signal_code t) xs ys w.1 in
    let priors = prior_same u v w.0 in
    (λ i. Weigh (p.0 i) (o.0 i) (priors i), signal_same s t si ti z.0)
act_parts (StopLane k u) (StopLane l v) s t xs ys can could si ti fits other kind h =
    let p = byte_parts k l (prior_code u ∷ xs) (prior_code v ∷ ys) h in
    let priors = prior_same u v (byte_parts (prior_code u) (prior_code v) xs ys p.1).0 in
    (λ i. StopLane (p.0 i) (priors i), si ∙ sym ti)
act_parts (Void k) (Void l) s t xs ys can could si ti fits other kind h =
    (ap (λ (x : ℕ). Void x) (four_parts k l xs ys fits other h).0, si ∙ sym ti)
act_parts (EndRun n) (EndRun m) s t xs ys can could si ti fits other kind h =
    (ap (λ (x : Name). EndRun x) (name_parts n m xs ys can could h).0, si ∙ sym ti)
act_parts (Draw n u k) (Draw m v l) s t xs ys can could si ti fits other kind h =
    let p = name_then n m (mode_code u ∷ eight k) (mode_code v ∷ eight l) xs ys can could h in
    let o = byte_parts (mode_code u) (mode_code v) (eight k ++ xs) (eight l ++ ys) p.1 in
    let modes = mode_same u v o.0 in
    let w = eight_parts k l xs ys fits other o.1 in
    (λ i. Draw (p.0 i) (modes i) (w.0 i), si ∙ sym ti)
act_parts (Measure k q d) (Measure l r e) s t xs ys can could si ti fits other kind h =
    let p = four_parts k l (four_field q ++ four_field d ++ xs)
    (four_field r ++ four_field e ++ ys) fits other h in
    let o = int_parts 0 (unsigned_abs MAX_GROSS) q r (four_field d ++ xs) (four_field e ++ ys)
    (omega arith) can.0 could.0 p.1 in
    let w = int_parts 0 (unsigned_abs MAX_TARE) d e xs ys (omega arith) can.1 could.1 o.1 in
    (λ i. Measure (p.0 i) (o.0 i) (w.0 i), si ∙ sym ti)
act_parts (DrawSecond n k) (DrawSecond m l) s t xs ys can could si ti fits other kind h =
    let p = name_then n m (eight k) (eight l) xs ys can could h in
    let w = eight_parts k l xs ys fits other p.1 in
    (λ i. DrawSecond (p.0 i) (w.0 i), si ∙ sym ti)
act_parts (Close n) (Close m) s t xs ys can could si ti fits other kind h =
    (ap (λ (x : Name). Close x) (name_parts n m xs ys can could h).0, si ∙ sym ti)
act_parts a b s t xs ys can could si ti fits other kind h =
    absurd (eqb-false (kind_code a) (kind_code b) refl kind)

pub one_entry : SpellsOneEntry
one_entry bytes number entry other is at =
    let rows : row_bytes new_layout number entry ≡ row_bytes new_layout number other = sym is.row
    ∙ at.row in
    let kind : kind_code entry.act ≡ kind_code other.act = ap (λ (l : List ℕ). get_or l 1 0) rows in
    let by = two_same entry.by other.by is.can.fits.by at.can.fits.by
    (ap (λ (l : List ℕ). take 2 (drop 6 l)) rows) in
    let desk = two_same entry.desk other.desk is.can.fits.desk at.can.fits.desk
    (ap (λ (l : List ℕ). take 2 (drop 8 l)) rows) in
    let request = four_parts entry.request other.request _ _ is.can.fits.request at.can.fits.request
    (ap (λ (l : List ℕ). drop 10 l) rows) in
    let act = act_parts entry.act other.act entry.signal other.signal _ _ is.can.allowed.act
    at.can.allowed.act is.can.allowed.signal at.can.allowed.signal is.can.fits.act
    at.can.fits.act kind request.1 in
    λ i. record { by = by i; desk = desk i; request = request.0 i; act = act.0 i; signal = act.1 i }
