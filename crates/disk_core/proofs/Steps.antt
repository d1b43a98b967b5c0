-- What one call does to a disk in memory.
use Rattle.std.proofs.Common.{◌≡◌, ◌⊎◌, inl, inr, ⊎_elim, ℕ, ◌+◌, ◌≤◌, List, [], ◌∷◌, ◌++◌, length, Some, Result, OnOk, Ok, Err, refl, sym, ◌∙◌, ap, subst, arith}
use Rattle.device_facts.specs.Count.{CountsFault}
use Rattle.disk_core.specs.Disk.{overwritten, Torn, AddsNoImage, Only, Follows, Writes}
use Rattle.disk_core.specs.DiskLog.{DiskLog, read_after, stored, IsImage, GoesOn, IsWrite, Remembers, faulted, Makes}
use Rattle.disk_core.specs.declared.disk_call.DiskCall.{DiskCall}
use Rattle.disk_core.specs.declared.disk_call.DiskCall.TheVariants.{Looked, Wrote, Synced}
use Rattle.disk_core.specs.Tears.{length-overwritten, torn_by, torn_none}
use Rattle.disk_core.proofs.Log.{read_after-append, left_looked, left_synced, left_wrote, elapses_same, elapses_more}

-- one call more was made, of which this holds, or none
pub record Stepped (Is : DiskCall → Type 0) (old new : DiskLog) : Type 0 where
  pub first : new.first ≡ old.first
  pub calls : (new.calls ≡ old.calls)
      ⊎ ((call : DiskCall) × Is call × (new.calls ≡ old.calls ++ call ∷ []))

more_calls : (Is Any : DiskCall → Type 0) (old from new : DiskLog)
    → ((call : DiskCall) → Is call → Any call) → from.first ≡ old.first → from.calls ≡ old.calls
    → Remembers Is from new → Stepped Any old new
more_calls Is Any old from new any first calls more = record {
  first = ap (λ (l : DiskLog). l.first) more.2 ∙ first;
  calls = inr (
    more.0,
    any more.0 more.1,
    ap (λ (l : DiskLog). l.calls) more.2
        ∙ ap (λ (cs : List DiskCall). cs ++ more.0 ∷ []) calls,
  );
}

-- a call was made, done or failed, or none was for want of memory
pub stepped : {T E : Type 0} (Done Failed : DiskCall → Type 0) (result : Result T E)
    (old new : DiskLog) → Makes Done Failed result old new
    → Stepped (λ call. Done call ⊎ Failed call) old new
stepped Done Failed (Ok x) old new makes =
    more_calls Done _ old old new (λ call is. inl is) refl refl makes.ok
stepped Done Failed (Err e) old new makes =
    ⊎_elim
    (λ more. more_calls Failed _ old (faulted old) new (λ call is. inr is) refl refl more)
    (λ none. record {
      first = ap (λ (l : DiskLog). l.first) none;
      calls =
          inl (ap (λ (l : DiskLog). l.calls) none);
    }) makes.err

pub made_counts : {T E : Type 0} (Done Failed : DiskCall → Type 0) (result : Result T E)
    (old new : DiskLog) → Makes Done Failed result old new
    → CountsFault old.faults new.faults result
made_counts Done Failed (Ok x) old new makes = ap (λ (l : DiskLog). l.faults) makes.ok.2
made_counts Done Failed (Err e) old new makes =
    ⊎_elim (λ more. ap (λ (l : DiskLog). l.faults) more.2)
    (λ none. ap (λ (l : DiskLog). l.faults) none) makes.err

pub made_asked : {T E : Type 0} (Done Failed : DiskCall → Type 0) (result : Result T E)
    (old new : DiskLog) → Makes Done Failed result old new → new.asked ≡ old.asked
made_asked Done Failed (Ok x) old new makes = ap (λ (l : DiskLog). l.asked) makes.ok.2
made_asked Done Failed (Err e) old new makes =
    ⊎_elim (λ more. ap (λ (l : DiskLog). l.asked) more.2)
    (λ none. ap (λ (l : DiskLog). l.asked) none) makes.err

pub goes_on : (Is : DiskCall → Type 0) (old new : DiskLog) → Stepped Is old new → GoesOn old new
goes_on Is old new step =
    subst (λ (f : List ℕ). GoesOn old (record new { first = f })) (sym step.first)
    (⊎_elim
    (λ same. subst (λ (cs : List DiskCall). GoesOn old
    (record new { first = old.first; calls = cs })) (sym same)
    (elapses_same old.first old.calls))
    (λ more. subst (λ (cs : List DiskCall). GoesOn old
    (record new { first = old.first; calls = cs })) (sym more.2)
    (elapses_more old.first old.calls more.0)) step.calls)

-- what is read stays where the call writes nothing
pub reads_on : (Is : DiskCall → Type 0) (old new : DiskLog)
    → ((call : DiskCall) → Is call → (bytes : List ℕ) → read_after (call ∷ []) bytes ≡ bytes)
    → Stepped Is old new → stored new ≡ stored old
reads_on Is old new none step =
    ap (λ (f : List ℕ). read_after new.calls f) step.first
    ∙ ⊎_elim
    (λ same. ap (λ (cs : List DiskCall). read_after cs old.first) same)
    (λ more. ap (λ (cs : List DiskCall). read_after cs old.first) more.2
    ∙ read_after-append old.calls more.0 old.first ∙ none more.0 more.1 (stored old)) step.calls

pub looks : (call : DiskCall) → (call ≡ Looked) ⊎ (call ≡ Looked) → (bytes : List ℕ)
    → read_after (call ∷ []) bytes ≡ bytes
looks call is bytes = ⊎_elim (λ one. ap (λ (x : DiskCall). read_after (x ∷ []) bytes) one)
    (λ one. ap (λ (x : DiskCall). read_after (x ∷ []) bytes) one) is

pub syncs : (call : DiskCall) → (call ≡ Synced) ⊎ (call ≡ Looked) → (bytes : List ℕ)
    → read_after (call ∷ []) bytes ≡ bytes
syncs call is bytes = ⊎_elim (λ one. ap (λ (x : DiskCall). read_after (x ∷ []) bytes) one)
    (λ one. ap (λ (x : DiskCall). read_after (x ∷ []) bytes) one) is

-- no image is added where the call adds none
adds_none : (Is : DiskCall → Type 0) (old new : DiskLog)
    → ((call : DiskCall) → Is call → (c : List ℕ) → IsImage old.first (old.calls ++ call ∷ []) c
    → IsImage old.first old.calls c) → Stepped Is old new
    → AddsNoImage (IsImage old.first old.calls) (IsImage new.first new.calls)
adds_none Is old new none step c is =
    let at_first = subst (λ (f : List ℕ). IsImage f new.calls c) step.first is in
    ⊎_elim
    (λ same. subst (λ (cs : List DiskCall). IsImage old.first cs c) same at_first)
    (λ more. none more.0 more.1 c (subst
    (λ (cs : List DiskCall). IsImage old.first cs c) more.2 at_first)) step.calls

none_looked : (old : DiskLog) (call : DiskCall) → call ≡ Looked → (c : List ℕ)
    → IsImage old.first (old.calls ++ call ∷ []) c → IsImage old.first old.calls c
none_looked old call one c is =
    left_looked old.calls old.first (λ e. e ≡ old.first) c
    (subst (λ (x : DiskCall). IsImage old.first (old.calls ++ x ∷ []) c) one is)

none_synced : (old : DiskLog) → IsImage old.first old.calls (stored old) → (call : DiskCall)
    → call ≡ Synced → (c : List ℕ) → IsImage old.first (old.calls ++ call ∷ []) c
    → IsImage old.first old.calls c
none_synced old reads call one c is =
    subst (λ (e : List ℕ). IsImage old.first old.calls e)
    (sym (left_synced old.calls old.first (λ e. e ≡ old.first) c
    (subst (λ (x : DiskCall). IsImage old.first (old.calls ++ x ∷ []) c) one is))) reads

pub looked_images : (old new : DiskLog)
    → Stepped (λ call. (call ≡ Looked) ⊎ (call ≡ Looked)) old new
    → AddsNoImage (IsImage old.first old.calls) (IsImage new.first new.calls)
looked_images old new step = adds_none _ old new
    (λ call is c. ⊎_elim (λ one. none_looked old call one c) (λ one. none_looked old call one c) is)
    step

pub synced_images : (old new : DiskLog) → IsImage old.first old.calls (stored old)
    → Stepped (λ call. (call ≡ Synced) ⊎ (call ≡ Looked)) old new
    → AddsNoImage (IsImage old.first old.calls) (IsImage new.first new.calls)
synced_images old new reads step =
    adds_none _ old new (λ call is c. ⊎_elim (λ one. none_synced old reads call one c)
    (λ one. none_looked old call one c) is) step

pub told_same : (now bytes : List ℕ) → Some now ≡ Some bytes → now ≡ bytes
told_same now bytes told = cc

pub synced_only : {T E : Type 0} (Failed : DiskCall → Type 0) (result : Result T E)
    (old new : DiskLog) (bytes : List ℕ) → Makes (λ done. done ≡ Synced) Failed result old new
    → Some (stored old) ≡ Some bytes → OnOk result (Only bytes (IsImage new.first new.calls))
synced_only Failed (Err e) old new bytes makes told = tt
synced_only Failed (Ok x) old new bytes makes told = λ c is.
    let more = makes.ok in
    let logged : new ≡ record old { calls = old.calls ++ Synced ∷ [] } = more.2
    ∙ ap (λ (call : DiskCall). record old { calls = old.calls ++ call ∷ [] }) more.1 in
    left_synced old.calls old.first (λ e. e ≡ old.first) c
    (subst (λ (l : DiskLog). IsImage l.first l.calls c) logged is) ∙ told_same _ _ told

-- a write that is remembered, whatever it answered
module _ (old new : DiskLog) (place : ℕ) (bytes there : List ℕ) (within : place ≤ length there)
    (told : Some (stored old) ≡ Some there) where
  is_there : stored old ≡ there
  is_there = told_same _ _ told

  wrote_now : (call : DiskCall) → IsWrite place bytes call → (was : List ℕ)
      → read_after (call ∷ []) was ≡ overwritten was place bytes
  wrote_now Looked is was = absurd is
  wrote_now Synced is was = absurd is
  wrote_now (Wrote at those) is was = ap (λ (p : ℕ). overwritten was p those.items) is.0
      ∙ ap (λ (b : List ℕ). overwritten was place b) is.1

  torn_from : List ℕ → Type 0
  torn_from c = (d : List ℕ) × IsImage old.first old.calls d
      × Torn place (length bytes) (length (overwritten (stored old) place bytes)) d c

  wrote_left : (call : DiskCall) → IsWrite place bytes call → (c : List ℕ)
      → IsImage old.first (old.calls ++ call ∷ []) c → (d : List ℕ) × IsImage old.first old.calls d
      × Torn place (length bytes) (length (overwritten (stored old) place bytes)) d c
  wrote_left Looked is c left = absurd is
  wrote_left Synced is c left = absurd is
  wrote_left (Wrote at those) is c left =
      let torn = left_wrote old.calls at those old.first (λ e. e ≡ old.first) c left in
      let at_place =
      subst (λ (p : ℕ). Torn p (length those.items)
      (length (overwritten (stored old) p those.items)) torn.0 c) is.0 torn.2 in (
        torn.0,
        torn.1,
        subst (λ (b : List ℕ). Torn place (length b)
            (length (overwritten (stored old) place b)) torn.0 c) is.1 at_place,
      )

  module _ (call : DiskCall) (is : IsWrite place bytes call) (first : new.first ≡ old.first)
      (calls : new.calls ≡ old.calls ++ call ∷ []) where
    now_told : Some (stored new) ≡ Some (overwritten (stored old) place bytes)
    now_told =
        ap (λ (f : List ℕ). Some (read_after new.calls f)) first
        ∙ ap (λ (cs : List DiskCall). Some (read_after cs old.first)) calls
        ∙ ap (λ (b : List ℕ). Some b) (read_after-append old.calls call old.first
        ∙ wrote_now call is (stored old))

    images : Follows (Torn place (length bytes) (length (overwritten (stored old) place bytes)))
        (IsImage old.first old.calls) (IsImage new.first new.calls)
    images c left = wrote_left call is c
        (subst (λ (cs : List DiskCall). IsImage old.first cs c) calls
        (subst (λ (f : List ℕ). IsImage f new.calls c) first left))

    pub write_done : {T E : Type 0} (x : T)
        → Writes {T = T} {E = E} place bytes (Ok x) there (Some (stored new))
        (IsImage old.first old.calls) (IsImage new.first new.calls)
    write_done x = record {
      now = overwritten (stored old) place bytes;
      told_now = now_told;
      done = ap (λ (o : List ℕ). overwritten o place bytes) is_there;
      cut_short = tt;
      images = images;
    }

    pub write_failed : {T E : Type 0} (e : E)
        → Writes {T = T} {E = E} place bytes (Err e) there (Some (stored new))
        (IsImage old.first old.calls) (IsImage new.first new.calls)
    write_failed e = record {
      now = overwritten (stored old) place bytes;
      told_now = now_told;
      done = tt;
      cut_short =
          subst (λ (o : List ℕ). Torn place (length bytes) (place + length bytes) there
          (overwritten o place bytes)) (sym is_there)
          (torn_by there place (length bytes) (place + length bytes) bytes refl
          (omega (arith, within, length-overwritten there place bytes)));
      images = images;
    }

  -- a write that memory refused
  write_refused : {T E : Type 0} (e : E) → new.first ≡ old.first → new.calls ≡ old.calls
      → Writes {T = T} {E = E} place bytes (Err e) there (Some (stored new))
      (IsImage old.first old.calls) (IsImage new.first new.calls)
  write_refused e first calls = record {
    now = there;
    told_now = ap (λ (f : List ℕ). Some (read_after new.calls f)) first
        ∙ ap (λ (cs : List DiskCall). Some (read_after cs old.first)) calls ∙ told;
    done = tt;
    cut_short = torn_none there place (length bytes) (place + length bytes);
    images = λ c left. (
      c,
      subst (λ (cs : List DiskCall). IsImage old.first cs c) calls
          (subst (λ (f : List ℕ). IsImage f new.calls c) first left),
      torn_none c place (length bytes) (length there),
    );
  }

  pub made_writes : {T E : Type 0} (result : Result T E)
      → Makes (IsWrite place bytes) (IsWrite place bytes) result old new
      → Writes place bytes result there (Some (stored new)) (IsImage old.first old.calls)
      (IsImage new.first new.calls)
  made_writes (Ok x) makes = write_done makes.ok.0 makes.ok.1
      (ap (λ (l : DiskLog). l.first) makes.ok.2) (ap (λ (l : DiskLog). l.calls) makes.ok.2) x
  made_writes (Err e) makes =
      ⊎_elim
      (λ more. write_failed more.0 more.1 (ap (λ (l : DiskLog). l.first) more.2)
      (ap (λ (l : DiskLog). l.calls) more.2) e)
      (λ none. write_refused e (ap (λ (l : DiskLog). l.first) none)
      (ap (λ (l : DiskLog). l.calls) none)) makes.err
