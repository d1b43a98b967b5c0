-- The closing that a row of a legal list holds: its batch is there, and its verdict is the one that
-- was told.
use Rattle.std.proofs.Common.{◌≡◌, ℕ, zero, suc, ◌+◌, ◌-◌, ◌<◌, ◌≤◌, Bool, true, false, cond, nat_le, List, [], ◌∷◌, ◌++◌, length, take, drop, slice_get, Option, Some, None, is_some, refl, sym, ◌∙◌, ap, subst, arith}
use Rattle.std.proofs.lemmas.Bool.Decides.{nat_tests}
use Rattle.std.proofs.lemmas.List.{length-take-le}
use Rattle.std.proofs.lemmas.List.Elements.{filter_map-append}
use Rattle.std.proofs.lemmas.Option.{slice_get_within, same_Some}
use Rattle.std.specs.List.{last_or}
use Rattle.book_words.specs.declared.name.Name.{Name}
use Rattle.book_words.specs.declared.act.Act.{Act}
use Rattle.book_words.specs.declared.act.Act.TheVariants.{Close}
use Rattle.book_words.specs.declared.act.Entry.{Entry}
use Rattle.book_words.specs.Acts.{said, product_given, product_of}
use Rattle.book_words.specs.Signals.{with_act}
use Rattle.book_words.specs.Verdicts.{verdict_of}
use Rattle.book_words.specs.Answers.{IsLegal}
use Rattle.book_words.proofs.AllowedActs.{IsAllowed, allowed, close_tells}
use Rattle.book_laws.proofs.VerdictLaws.{verdicts_stay}
use Rattle.book_state.specs.Known.{entry_numbered}
use Rattle.book_verdicts.proofs.ClosingLemmas.{close_keeps}

-- nothing isn't something
not_there : {A : Type 0} (x : A) → None ≡ Some x → ⊥
not_there x h = cc

-- a row holds an act
pub record HoldsAct (entries : List Entry) (row : ℕ) (act : Act) : Type 0 where
  pub entry : Entry
  pub numbered : entry_numbered entries row ≡ Some entry
  pub same : entry.act ≡ act

parted_at : (entries : List Entry) (place : ℕ) (entry : Entry)
    → slice_get entries place ≡ Some entry
    → entries ≡ take place entries ++ entry ∷ drop (suc place) entries
parted_at [] place entry h = absurd (not_there entry h)
parted_at (e ∷ es) zero entry h = ap (λ (x : Entry). x ∷ es) (same_Some e entry h)
parted_at (e ∷ es) (suc place) entry h = ap (λ xs. e ∷ xs) (parted_at es place entry h)

-- a row parts the list in the entries before it, its own, and those behind it
pub record PartsAt (entries : List Entry) (row : ℕ) (entry : Entry) : Type 0 where
  pub after : List Entry
  pub parts : entries ≡ take (row - 1) entries ++ entry ∷ after
  pub count : length (take (row - 1) entries) + 1 ≡ row

-- a row of the list parts it
pub parts_at : (entries : List Entry) (row : ℕ) (entry : Entry)
    → entry_numbered entries row ≡ Some entry → PartsAt entries row entry
parts_at entries row entry h = each (nat_le 1 row) refl h
  where
    each : (b : Bool) → nat_le 1 row ≡ b → cond b (slice_get entries (row - 1)) None ≡ Some entry
        → PartsAt entries row entry
    each false least k = absurd (not_there entry k)
    each true least k =
        let one : 1 ≤ row = grind (arith, nat_tests) in
        let within : row - 1 < length entries = slice_get_within entries (row - 1) entry k in
        let front : length (take (row - 1) entries) ≡ row - 1 =
        length-take-le (row - 1) entries (omega (arith, within)) in
        record {
          after = drop (suc (row - 1)) entries;
          parts = parted_at entries (row - 1) entry k;
          count = omega (arith, front, one);
        }

stays_some : {A : Type 0} (o : Option A) (xs : List A) → is_some o ≡ true → is_some (last_or o xs) ≡ true
stays_some o [] h = h
stays_some o (x ∷ xs) h = stays_some (Some x) xs refl

more_some : {A : Type 0} (o : Option A) (xs ys : List A) → is_some (last_or o xs) ≡ true
    → is_some (last_or o (xs ++ ys)) ≡ true
more_some o [] ys h = stays_some o ys h
more_some o (x ∷ xs) ys h = more_some (Some x) xs ys h

product_later : (before after : List Entry) (batch : Name)
    → is_some (product_of before batch) ≡ true → is_some (product_of (before ++ after) batch) ≡ true
product_later before after batch h =
    ap (λ (names : List Name). is_some (last_or None names))
    (filter_map-append (λ (e : Entry). product_given batch e.act) before after)
    ∙ more_some None (said (product_given batch) before) (said (product_given batch) after) h

-- a batch that an allowed act closes is there
pub closes_known : (entries : List Entry) (batch : Name) → IsAllowed entries (Close batch)
    → is_some (product_of entries batch) ≡ true
closes_known entries batch h = (close_tells entries batch h).known

-- a batch whose closing a legal list holds is there
pub held_known : (entries : List Entry) (row : ℕ) (act : Act) (batch : Name) → IsLegal entries
    → HoldsAct entries row act → act ≡ Close batch → is_some (product_of entries batch) ≡ true
held_known entries row act batch legal holds is =
    let at = parts_at entries row holds.entry holds.numbered in
    let before = take (row - 1) entries in
    let free = allowed before holds.entry (legal before holds.entry at.after at.parts) in
    let closing : IsAllowed before (Close batch) = subst (IsAllowed before) (holds.same ∙ is) free in
    subst (λ (es : List Entry). is_some (product_of es batch) ≡ true) (sym at.parts)
    (product_later before (holds.entry ∷ at.after) batch (closes_known before batch closing))

-- the verdict of a closing over the whole list is the one that its row was told
pub verdict_then : (entries : List Entry) (row : ℕ) (entry : Entry) (batch : Name)
    → IsLegal entries → PartsAt entries row entry → entry.act ≡ Close batch
    → verdict_of entries batch
    ≡ verdict_of (with_act (take (row - 1) entries) (Close batch)) batch
verdict_then entries row entry batch legal at same =
    let before = take (row - 1) entries in
    sym (verdicts_stay entries legal before entry at.after batch at.parts same)
    ∙ close_keeps before entry batch same batch
    ∙ sym (close_keeps before (record
    { by = 0; desk = 0; request = 0; act = Close batch; signal = None }) batch refl batch)
