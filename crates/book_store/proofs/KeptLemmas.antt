-- What a crash leaves of a book that goes on: steps of mounting, asks, adopted entries and snapshots.
use Rattle.std.proofs.Common.{◌≡◌, ◌⊎◌, inl, inr, ⊎_elim, ℕ, ◌≤◌, List, [], ◌∷◌, ◌++◌, length, take, Option, Some, None, IsSome, Result, Ok, Err, OnOk, refl, sym, ap, ◌∙◌, subst, arith, append_assoc, append-nil, length-append}
use Rattle.std.proofs.Math.Seq.{take-append_seam}
use Rattle.std.proofs.lemmas.List.{take_all, take-append-le}
use Rattle.std.proofs.lemmas.Bool.{cases_lt}
use Rattle.device_facts.specs.Prefix.{IsPrefixOf}
use Rattle.disk_core.specs.Devices.{LeavesOnly}
use Rattle.disk_core.specs.declared.disk.Disk as disk
use Rattle.book_words.specs.declared.act.Entry.{Entry}
use Rattle.book_words.specs.declared.caller.AskError.{AskError}
use Rattle.book_words.specs.declared.caller.AskError.TheVariants as error
use Rattle.book_words.specs.declared.reply.Answered.{Answered}
use Rattle.book_words.specs.declared.reply.Refused.{Refused}
use Rattle.book_words.specs.Answers.{IsLawful}
use Rattle.book_core.specs.View.{BookView}
use Rattle.book_journal.specs.Mounting.{KeepsFromSync}
use Rattle.book_store.specs.declared.store.Store.{Store}
use Rattle.book_store.specs.declared.types.AdoptError.{AdoptError}
use Rattle.book_store.specs.declared.types.AdoptError.TheVariants as adopt
use Rattle.book_store.specs.Adopting.{Adopts, list_adopted, offered_adopted}
use Rattle.book_store.specs.Images.{HoldsBook}
use Rattle.book_store.specs.Stores.{disk_of, book_of, entries_of, Hangs, HasBook, HangsWith, HoldsOrHangs, ImagesHoldBook, KeepsBook}
use Rattle.book_store.specs.Offers.{Offers, OffersEntry, LeavesDisk, list_behind, offered_behind}
use Rattle.book_store.specs.Kept.{with_offered, CrashLeaves, HasKept, KeepsOn}

-- ---- lists that go on

pub same_begins : (a b : List Entry) → b ≡ a → IsPrefixOf a b
same_begins a b same = ([], same ∙ sym (append-nil a))

pub begins_on : (a b c : List Entry) → IsPrefixOf a b → IsPrefixOf b c → IsPrefixOf a c
begins_on a b c first second = (
  first.0 ++ second.0,
  second.1 ∙ ap (λ (es : List Entry). es ++ second.0) first.1
      ∙ append_assoc a first.0 second.0,
)

pub begins_short : (a b : List Entry) → IsPrefixOf a b → length a ≤ length b
begins_short a b begins = omega (arith, ap length begins.1, length-append a begins.0)

-- the rows stand in front of what was offered
rows_begin : (rows : List Entry) (offered : Option Entry) → IsPrefixOf rows (with_offered rows offered)
rows_begin rows None = same_begins rows rows refl
rows_begin rows (Some entry) = (entry ∷ [], refl)

-- what a list behind an ask begins with
pub asked_begins : (result : Result Answered AskError) (entries next : List Entry)
    (new : Option Entry) → next ≡ list_behind result entries new → IsPrefixOf entries next
asked_begins (Ok answered) entries next (Some entry) is = (entry ∷ [], is)
asked_begins (Ok answered) entries next None is = same_begins entries next is
asked_begins (Err why) entries next (Some entry) is = same_begins entries next is
asked_begins (Err why) entries next None is = same_begins entries next is

-- and behind an entry that is adopted
pub adopted_begins : (result : Result ℕ AdoptError) (entries next : List Entry) (entry : Entry)
    → next ≡ list_adopted result entries entry → IsPrefixOf entries next
adopted_begins (Ok number) entries next entry is = (entry ∷ [], is)
adopted_begins (Err why) entries next entry is = same_begins entries next is

-- ---- what a crash leaves

-- the first rows of a list are the first of one that begins with it
front_of_more : (rows next : List Entry) (count : ℕ) → IsPrefixOf rows next → count ≤ length rows
    → take count next ≡ take count rows
front_of_more rows next count begins few = ap (take count) begins.1
    ∙ take-append-le count rows begins.0 few

-- all rows that a list begins with are among what it may leave
pub leaves_front : (held rows next : List Entry) (c : List ℕ) → IsPrefixOf held rows
    → IsPrefixOf rows next → HoldsBook rows c → CrashLeaves held next c
leaves_front held rows next c opened begins holds =
    record {
      count = length rows;
      least = begins_short held rows opened;
      holds = subst (λ (es : List Entry). HoldsBook es c)
          (sym (ap (take (length rows)) begins.1 ∙ take-append_seam rows begins.0)) holds;
    }

-- of fewer rows a crash leaves what it may leave of more
pub leaves_of_more : (held rows next : List Entry) (c : List ℕ) → IsPrefixOf held rows
    → IsPrefixOf rows next → CrashLeaves held rows c → CrashLeaves held next c
leaves_of_more held rows next c opened begins left = ⊎_elim
    (λ few. record {
      count = left.count;
      least = left.least;
      holds = subst (λ (es : List Entry). HoldsBook es c)
          (sym (front_of_more rows next left.count begins (omega (arith, few)))) left.holds;
    })
    (λ many. leaves_front held rows next c opened begins
    (subst (λ (es : List Entry). HoldsBook es c) (take_all left.count rows many) left.holds))
    (cases_lt left.count (length rows))

module _ {D : Type 0} (g : disk.Ghosts D) where
  -- moments since a sync may be said of more
  pub keeps_in : (start now : D) (P R : List ℕ → Type 0) → ((c : List ℕ) → P c → R c)
      → KeepsFromSync g start now P → KeepsFromSync g start now R
  keeps_in start now P R more kept =
      record {
        synced = kept.synced;
        after = kept.after;
        before = kept.before;
        each = λ c was. more c (kept.each c was);
        handed_in = λ c was. ⊎_elim (λ is. inl is) (λ is. inr (more c is)) (kept.handed_in c was);
        earlier = λ t c le was. ⊎_elim (λ is. inl is) (λ is. inr (more c is)) (kept.earlier t c le was);
      }

  -- a call more, after a sync
  pub synced_on : (start old new : D) (P Q R : List ℕ → Type 0) → ((c : List ℕ) → P c → R c)
      → ((c : List ℕ) → Q c → R c)
      → KeepsFromSync g start old P → LeavesOnly g old new Q → KeepsFromSync g start new R
  synced_on start old new P Q R so_far more kept leaves =
      record {
        synced = kept.synced;
        after = kept.after;
        before = omega (arith, kept.before, leaves.later);
        each = λ c was. ⊎_elim (λ past. so_far c (kept.each c past)) (more c)
            (leaves.before kept.synced c kept.before was);
        handed_in = λ c was.
            ⊎_elim (λ past. ⊎_elim (λ is. inl is) (λ is. inr (so_far c is)) (kept.handed_in c past))
            (λ is. inr (more c is))
            (leaves.before (g.time start) c (omega (arith, kept.after, kept.before)) was);
        earlier = λ t c le was.
            ⊎_elim (λ past. ⊎_elim (λ is. inl is) (λ is. inr (so_far c is))
            (kept.earlier t c le past)) (λ is. inr (more c is))
            (leaves.before t c (omega (arith, le, kept.after, kept.before)) was);
      }

  -- nothing hangs with a book that was kept with nothing offered, so an image has all rows
  holds_plain : (held : List Entry) (start : D) (store : Store D) (c : List ℕ)
      → HasKept g held start None store → HoldsOrHangs g store c → HoldsBook (entries_of store) c
  holds_plain held start store c kept (inl holds) = holds
  holds_plain held start store c kept (inr hangs) =
      absurd (let none : None ≡ Some hangs.0 = kept.hung hangs.0 hangs.1 in cc)

  -- a call over which a crash leaves what it may
  pub kept_on : (held : List Entry) (start : D) (offered : Option Entry) (old new : Store D)
      (Q : List ℕ → Type 0) → HasKept g held start None old → HasBook g new
      → IsPrefixOf (entries_of old) (entries_of new)
      → ((entry : Entry) → HangsWith g new entry → offered ≡ Some entry)
      → ((c : List ℕ) → Q c → CrashLeaves held (with_offered (entries_of new) offered) c)
      → LeavesOnly g (disk_of old) (disk_of new) Q
      → ((c : List ℕ) → g.image (disk_of new) c → HoldsBook (entries_of new) c
      ⊎ HoldsBook (with_offered (entries_of new) offered) c) → HasKept g held start offered new
  kept_on held start offered old new Q kept has begins hung more leaves images =
      let all = begins_on (entries_of old) (entries_of new)
      (with_offered (entries_of new) offered) begins (rows_begin (entries_of new) offered) in
      record {
        has = has;
        begins = begins_on held (entries_of old) (entries_of new) kept.begins begins;
        hung = hung;
        moments = synced_on start (disk_of old) (disk_of new) (CrashLeaves held (entries_of old)) Q
            (CrashLeaves held (with_offered (entries_of new) offered))
            (λ c is. leaves_of_more held (entries_of old)
            (with_offered (entries_of new) offered) c kept.begins all is) more kept.moments
            leaves;
        images = images;
      }

  -- a call that leaves disk and list as they were
  pub kept_still : (old new : Store D) → entries_of new ≡ entries_of old → LeavesDisk g old new
      → KeepsOn g None old new
  kept_still old new same leaves held start kept =
      record {
        has = leaves.has kept.has;
        begins = begins_on held (entries_of old) (entries_of new) kept.begins
            (same_begins (entries_of old) (entries_of new) same);
        hung = λ entry hangs. kept.hung entry (leaves.hung entry hangs);
        moments = subst (λ (d : D). KeepsFromSync g start d (CrashLeaves held (entries_of new)))
            (sym leaves.same)
            (subst (λ (es : List Entry). KeepsFromSync g start (disk_of old) (CrashLeaves held es))
            (sym same) kept.moments);
        images = λ c is. subst (λ (es : List Entry). HoldsBook es c ⊎ HoldsBook es c) (sym same)
            (kept.images c (subst (λ (d : D). g.image d c) leaves.same is));
      }

  -- what is kept where nothing was offered is kept whatever was
  pub keeps_offered : (offered : Option Entry) (old new : Store D) → KeepsOn g None old new → KeepsOn g offered old new
  keeps_offered offered old new keeps held start was =
      let kept = keeps held start was in
      let rows = entries_of new in
      record {
        has = kept.has;
        begins = kept.begins;
        hung = λ entry hangs. absurd (let none : None ≡ Some entry = kept.hung entry hangs in cc);
        moments = keeps_in start (disk_of new) (CrashLeaves held rows) (CrashLeaves held (with_offered rows offered))
            (λ c left. leaves_of_more held rows (with_offered rows offered) c kept.begins (rows_begin rows offered) left) kept.moments;
        images = λ c image. ⊎_elim (λ holds. inl holds) (λ holds. inl holds) (kept.images c image);
      }

  -- an entry was offered and added
  pub kept_added : (entry : Entry) (old new : Store D)
      → entries_of new ≡ entries_of old ++ entry ∷ []
      → (HasBook g old → OffersEntry g entry old new) → ¬ Hangs new → ImagesHoldBook g new
      → KeepsOn g None old new
  kept_added entry old new is offers calm images held start kept =
      let offer = offers kept.has in
      let begins : IsPrefixOf (entries_of old) (entries_of new) = (entry ∷ [], is) in
      kept_on held start None old new
      (λ c. HoldsOrHangs g old c ⊎ HoldsBook (entries_of old ++ entry ∷ []) c) kept offer.has
      begins
      (λ other hangs. absurd (calm hangs.row.hangs))
      (λ c left. ⊎_elim
      (λ was. leaves_front held (entries_of old) (entries_of new) c kept.begins begins
      (holds_plain held start old c kept was))
      (λ added. leaves_front held (entries_of new) (entries_of new) c
      (begins_on held (entries_of old) (entries_of new) kept.begins begins)
      (same_begins _ _ refl)
      (subst (λ (es : List Entry). HoldsBook es c) (sym is) added))
      left)
      offer.moments
      (λ c image. ⊎_elim (λ holds. inl holds) (λ hangs. absurd (calm hangs.1.row.hangs))
      (images offer.has c image))

  -- an entry was offered, and the disk failed
  pub kept_failed : (entry : Entry) (old new : Store D) → entries_of new ≡ entries_of old
      → (HasBook g old → OffersEntry g entry old new) → ImagesHoldBook g new
      → KeepsOn g (Some entry) old new
  kept_failed entry old new same offers images held start kept =
      let offer = offers kept.has in
      let begins = same_begins (entries_of old) (entries_of new) same in
      let hung : (other : Entry) → HangsWith g new other → Some entry ≡ Some other =
      λ other hangs. ⊎_elim (λ is. ap (λ (e : Entry). Some e) (sym is))
      (λ was. absurd (let none : None ≡ Some other = kept.hung other was in cc))
      (offer.hung other hangs) in
      kept_on held start (Some entry) old new
      (λ c. HoldsOrHangs g old c ⊎ HoldsBook (entries_of old ++ entry ∷ []) c) kept offer.has
      begins hung
      (λ c left. ⊎_elim
      (λ was. leaves_front held (entries_of old) (entries_of new ++ entry ∷ []) c kept.begins
      (begins_on (entries_of old) (entries_of new) (entries_of new ++ entry ∷ []) begins
      (entry ∷ [], refl)) (holds_plain held start old c kept was))
      (λ added. leaves_front held (entries_of new ++ entry ∷ []) (entries_of new ++ entry ∷ []) c
      (begins_on held (entries_of new) (entries_of new ++ entry ∷ [])
      (begins_on held (entries_of old) (entries_of new) kept.begins begins) (entry ∷ [], refl))
      (same_begins _ _ refl)
      (subst (λ (es : List Entry). HoldsBook (es ++ entry ∷ []) c) (sym same) added))
      left)
      offer.moments
      (λ c image. ⊎_elim
      (λ holds. inl holds)
      (λ hangs. inr (subst (λ (e : Entry). HoldsBook (entries_of new ++ e ∷ []) c)
      (let is : Some entry ≡ Some hangs.0 = hung hangs.0 hangs.1 in let one : hangs.0 ≡ entry =
      cc in one) hangs.2))
      (images offer.has c image))

  -- a snapshot
  pub kept_rested : (old new : Store D) → book_of new ≡ book_of old
      → (HasBook g old → KeepsBook g old new) → ImagesHoldBook g new → KeepsOn g None old new
  kept_rested old new same keeps images held start kept =
      let rested = keeps kept.has in
      let entries : entries_of new ≡ entries_of old = ap (λ (b : BookView). b.entries) same in
      let begins = same_begins (entries_of old) (entries_of new) entries in
      kept_on held start None old new (HoldsOrHangs g old) kept rested.has begins
      (λ other hangs. kept.hung other (rested.hung other hangs))
      (λ c was. leaves_front held (entries_of old) (entries_of new) c kept.begins begins
      (holds_plain held start old c kept was))
      rested.moments
      (λ c image. ⊎_elim
      (λ holds. inl holds)
      (λ hangs. absurd (let none : None ≡ Some hangs.0 =
      kept.hung hangs.0 (rested.hung hangs.0 hangs.1) in cc))
      (images rested.has c image))

  -- an ask, by what it offers: at a refusal nothing, and at a failure of the disk an entry
  pub kept_asked : (old new : Store D) (result : Result Answered AskError) (offered : Option Entry)
      → entries_of new ≡ list_behind result (entries_of old) offered → Offers g offered old new
      → ((refused : Refused) → result ≡ Err (error.Refused refused) → offered ≡ None)
      → (result ≡ Err error.DiskFault → IsSome offered)
      → (result ≡ Err error.NoMemory → LeavesDisk g old new)
      → (IsSome offered → OnOk result (¬ Hangs new)) → ImagesHoldBook g new
      → KeepsOn g (offered_behind result offered) old new
  kept_asked old new (Ok answered) None is offers refused failed lacks settled images =
      kept_still old new is offers
  kept_asked old new (Ok answered) (Some entry) is offers refused failed lacks settled images =
      kept_added entry old new is offers (settled refl) images
  kept_asked old new (Err (error.Refused why)) None is offers refused failed lacks settled images =
      kept_still old new is offers
  kept_asked old new (Err (error.Refused why))
      (Some entry) is offers refused failed lacks settled images =
      absurd (let none : Some entry ≡ None = refused why refl in cc)
  kept_asked old new (Err error.DiskFault) None is offers refused failed lacks settled images =
      absurd (cc (failed refl))
  kept_asked old new (Err error.DiskFault)
      (Some entry) is offers refused failed lacks settled images =
      kept_failed entry old new is offers images
  kept_asked old new (Err error.NoMemory) None is offers refused failed lacks settled images =
      kept_still old new is (lacks refl)
  kept_asked old new (Err error.NoMemory)
      (Some entry) is offers refused failed lacks settled images =
      kept_still old new is (lacks refl)

  -- an entry that is adopted
  pub kept_adopted : (old new : Store D) (entry : Entry) (result : Result ℕ AdoptError)
      → entries_of new ≡ list_adopted result (entries_of old) entry
      → Adopts (book_of old) entry result
      → (IsLawful (entries_of old) entry → HasBook g old → OffersEntry g entry old new)
      → (result ≡ Err adopt.Unlawful → LeavesDisk g old new)
      → (result ≡ Err adopt.NoMemory → LeavesDisk g old new)
      → OnOk result (¬ Hangs new) → ImagesHoldBook g new
      → KeepsOn g (offered_adopted result entry) old new
  kept_adopted old new entry (Ok number) is adopts offers unlawful lacks settled images =
      kept_added entry old new is (offers adopts.0) settled images
  kept_adopted old new entry (Err adopt.Unlawful) is adopts offers unlawful lacks settled images =
      kept_still old new is (unlawful refl)
  kept_adopted old new entry (Err adopt.DiskFault) is adopts offers unlawful lacks settled images =
      kept_failed entry old new is (offers adopts) images
  kept_adopted old new entry (Err adopt.NoMemory) is adopts offers unlawful lacks settled images =
      kept_still old new is (lacks refl)
