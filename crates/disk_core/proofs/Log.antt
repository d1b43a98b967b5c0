-- What is read, and what a crash leaves, after one call more.
use Rattle.std.proofs.Common.{◌≡◌, ◌⊎◌, inl, inr, ℕ, ◌+◌, ◌<◌, ◌≤◌, List, [], ◌∷◌, ◌++◌, length, get_or, take, replicate, refl, sym, ◌∙◌, ap, subst, arith, length-append}
use Rattle.std.proofs.lemmas.List.{take_all, take-append-le, take_more, length-replicate}
use Rattle.std.proofs.lemmas.Bool.{cases_eq}
use Rattle.disk_core.specs.Disk.{overwritten, Torn, Elapses}
use Rattle.disk_core.specs.DiskLog.{read_after, IsLeftAfter, IsImage, WasImage, pending_write, kept_after}
use Rattle.disk_core.specs.declared.disk_call.DiskCall.{DiskCall}
use Rattle.disk_core.specs.declared.disk_call.DiskCall.TheVariants.{Looked, Wrote, Synced}
use Rattle.disk_core.specs.declared.disk_types.Keep.{Keep}
use Rattle.disk_core.specs.declared.disk_types.Keep.TheVariants.{Earlier, Written, Fill}
use Rattle.disk_core.specs.Tears.{length-overwritten, torn_by, torn_none}

pub read_after-append : (calls : List DiskCall) (call : DiskCall) (now : List ℕ)
    → read_after (calls ++ call ∷ []) now ≡ read_after (call ∷ []) (read_after calls now)
read_after-append [] call now = refl
read_after-append (Looked ∷ calls) call now = read_after-append calls call now
read_after-append (Wrote place bytes ∷ calls) call now =
    read_after-append calls call (overwritten now place bytes.items)
read_after-append (Synced ∷ calls) call now = read_after-append calls call now

pub kept_after-append : (keep : Keep) (calls : List DiskCall) (call : DiskCall) (now image : List ℕ)
    → kept_after keep (calls ++ call ∷ []) now image
    ≡ kept_after keep (call ∷ []) (read_after calls now) (kept_after keep calls now image)
kept_after-append keep [] call now image = refl
kept_after-append keep (Looked ∷ calls) call now image = kept_after-append keep calls call now image
kept_after-append keep (Wrote place bytes ∷ calls) call now image =
    kept_after-append keep calls call (overwritten now place bytes.items)
    (pending_write keep image place bytes.items)
kept_after-append keep (Synced ∷ calls) call now image = kept_after-append keep calls call now now

-- after one call more a crash leaves a step more
pub left_looked : (calls : List DiskCall) (now : List ℕ) (left : List ℕ → Type 0) (c : List ℕ)
    → IsLeftAfter (calls ++ Looked ∷ []) now left c → IsLeftAfter calls now left c
left_looked [] now left c is = is
left_looked (Looked ∷ calls) now left c is = left_looked calls now left c is
left_looked (Wrote place bytes ∷ calls) now left c is =
    left_looked calls (overwritten now place bytes.items)
    (λ e. (d : List ℕ) × left d × Torn place (length bytes.items)
    (length (overwritten now place bytes.items)) d e) c is
left_looked (Synced ∷ calls) now left c is = left_looked calls now (λ e. e ≡ now) c is

pub left_synced : (calls : List DiskCall) (now : List ℕ) (left : List ℕ → Type 0) (c : List ℕ)
    → IsLeftAfter (calls ++ Synced ∷ []) now left c → c ≡ read_after calls now
left_synced [] now left c is = is
left_synced (Looked ∷ calls) now left c is = left_synced calls now left c is
left_synced (Wrote place bytes ∷ calls) now left c is =
    left_synced calls (overwritten now place bytes.items)
    (λ e. (d : List ℕ) × left d × Torn place (length bytes.items)
    (length (overwritten now place bytes.items)) d e) c is
left_synced (Synced ∷ calls) now left c is = left_synced calls now (λ e. e ≡ now) c is

pub left_wrote : (calls : List DiskCall) (place : ℕ) (bytes : _) (now : List ℕ)
    (left : List ℕ → Type 0) (c : List ℕ) → IsLeftAfter (calls ++ Wrote place bytes ∷ []) now left c
    → (d : List ℕ) × IsLeftAfter calls now left d
    × Torn place (length bytes.items)
    (length (overwritten (read_after calls now) place bytes.items)) d c
left_wrote [] place bytes now left c is = is
left_wrote (Looked ∷ calls) place bytes now left c is = left_wrote calls place bytes now left c is
left_wrote (Wrote p b ∷ calls) place bytes now left c is =
    left_wrote calls place bytes (overwritten now p b.items)
    (λ e. (d : List ℕ) × left d × Torn p (length b.items) (length (overwritten now p b.items)) d e)
    c is
left_wrote (Synced ∷ calls) place bytes now left c is =
    left_wrote calls place bytes now (λ e. e ≡ now) c is

-- what a crash leaves by any of the three ways is one of the images
longer : (keep : Keep) (now image : List ℕ) (place : ℕ) (bytes : List ℕ) → length image ≤ length now
    → length (pending_write keep image place bytes) ≤ length (overwritten now place bytes)
longer Earlier now image place bytes short = omega (arith, length-overwritten now place bytes)
longer Written now image place bytes short =
    omega (arith, length-overwritten now place bytes, length-overwritten image place bytes)
longer (Fill byte) now image place bytes short =
    omega (
      arith,
      length-overwritten now place bytes,
      length-overwritten image place (replicate (length bytes) byte),
      length-replicate (length bytes) byte,
    )

tears : (keep : Keep) (now image : List ℕ) (place : ℕ) (bytes : List ℕ) → length image ≤ length now
    → Torn place (length bytes) (length (overwritten now place bytes)) image
    (pending_write keep image place bytes)
tears Earlier now image place bytes short =
    torn_none image place (length bytes) (length (overwritten now place bytes))
tears Written now image place bytes short =
    torn_by image place (length bytes) (length (overwritten now place bytes)) bytes refl
    (omega (arith, longer Written now image place bytes short))
tears (Fill byte) now image place bytes short =
    torn_by image place (length bytes) (length (overwritten now place bytes))
    (replicate (length bytes) byte) (length-replicate (length bytes) byte)
    (omega (arith, longer (Fill byte) now image place bytes short))

kept_left : (keep : Keep) (calls : List DiskCall) (now image : List ℕ) (left : List ℕ → Type 0)
    → left image → length image ≤ length now
    → IsLeftAfter calls now left (kept_after keep calls now image)
kept_left keep [] now image left is short = is
kept_left keep (Looked ∷ calls) now image left is short = kept_left keep calls now image left is short
kept_left keep (Wrote place bytes ∷ calls) now image left is short =
    kept_left keep calls (overwritten now place bytes.items)
    (pending_write keep image place bytes.items)
    (λ e. (d : List ℕ) × left d × Torn place (length bytes.items)
    (length (overwritten now place bytes.items)) d e)
    (image, is, tears keep now image place bytes.items short)
    (longer keep now image place bytes.items short)
kept_left keep (Synced ∷ calls) now image left is short =
    kept_left keep calls now now (λ e. e ≡ now) refl (omega arith)

pub kept_is_image : (keep : Keep) (first : List ℕ) (calls : List DiskCall)
    → IsImage first calls (kept_after keep calls first first)
kept_is_image keep first calls = kept_left keep calls first first (λ e. e ≡ first) refl (omega arith)

-- no call was made
pub elapses_same : (first : List ℕ) (calls : List DiskCall)
    → Elapses (length calls) (length calls) (WasImage first calls) (WasImage first calls)
    (IsImage first calls)
elapses_same first calls = record
    { later = omega arith; nothing_else = λ t c le left. inl left; keeps = λ t c le left. left }

-- one call was made
pub elapses_more : (first : List ℕ) (calls : List DiskCall) (call : DiskCall)
    → Elapses (length calls) (length (calls ++ call ∷ [])) (WasImage first calls)
    (WasImage first (calls ++ call ∷ [])) (IsImage first (calls ++ call ∷ []))
elapses_more first calls call = record {
  later = omega (arith, size);
  nothing_else = λ t c le was. earlier_or_now t c was (cases_eq was.0 (length calls + 1));
  keeps = λ t c le was. (
    was.0,
    was.1,
    omega (arith, size, was.2),
    subst (λ (l : List DiskCall). IsImage first l c)
        (sym (take-append-le was.0 calls (call ∷ []) was.2)) was.3,
  );
}
  where
    more : List DiskCall
    more = calls ++ call ∷ []

    size : length (calls ++ call ∷ []) ≡ length calls + 1
    size = length-append calls (call ∷ [])

    earlier_or_now : (t : ℕ) (c : List ℕ) (was : WasImage first (calls ++ call ∷ []) t c)
        → (was.0 ≡ length calls + 1) ⊎ (was.0 ≡ length calls + 1 → ⊥) → WasImage first calls t c
        ⊎ IsImage first (calls ++ call ∷ []) c
    earlier_or_now t c was (inl is) =
        inr (subst (λ (l : List DiskCall). IsImage first l c)
        (take_all was.0 (calls ++ call ∷ []) (omega (arith, size, is))) was.3)
    earlier_or_now t c was (inr isnt) =
        let le : was.0 ≤ length calls = omega (arith, size, was.2, isnt) in
        inl (
          was.0,
          was.1,
          le,
          subst (λ (l : List DiskCall). IsImage first l c)
              (take-append-le was.0 calls (call ∷ []) le) was.3,
        )

-- the calls up to the next one
module _ (first : List ℕ) (calls : List DiskCall) (i : ℕ) (call : DiskCall)
    (within : i < length calls) (at_i : call ≡ get_or calls i call) where
  next : take (i + 1) calls ≡ take i calls ++ call ∷ []
  next = take_more calls i call within ∙ ap (λ (x : DiskCall). take i calls ++ x ∷ []) (sym at_i)

  pub next_read : (now new : List ℕ) → now ≡ read_after (take i calls) first
      → new ≡ read_after (call ∷ []) now → new ≡ read_after (take (i + 1) calls) first
  next_read now new was is =
      is ∙ ap (λ (b : List ℕ). read_after (call ∷ []) b) was
      ∙ sym (read_after-append (take i calls) call first)
      ∙ ap (λ (l : List DiskCall). read_after l first) (sym next)

  pub next_kept : (keep : Keep) (now image new : List ℕ) → now ≡ read_after (take i calls) first
      → image ≡ kept_after keep (take i calls) first first
      → new ≡ kept_after keep (call ∷ []) now image
      → new ≡ kept_after keep (take (i + 1) calls) first first
  next_kept keep now image new read kept is =
      is ∙ ap (λ (b : List ℕ). kept_after keep (call ∷ []) b image) read
      ∙ ap (λ (b : List ℕ). kept_after keep (call ∷ []) (read_after (take i calls) first) b)
      kept
      ∙ sym (kept_after-append keep (take i calls) call first first)
      ∙ ap (λ (l : List DiskCall). kept_after keep l first first) (sym next)
