-- How a run of calls on a disk goes on.
use Rattle.std.proofs.Common.{◌≡◌, ◌∙◌, inl, inr, ⊎_elim, ℕ, List, refl, sym, subst, arith}
use Rattle.disk_core.specs.Disk.{Elapses, Only}
use Rattle.disk_core.specs.Devices.{IsUnmoved, LeavesOnly}
use Rattle.disk_core.specs.declared.disk.Disk as disk
use Rattle.book_journal.specs.Mounting.{KeepsFromSync}

-- the images of a time may be said of more
pub elapses_in : {before now : ℕ} {past since : ℕ → List ℕ → Type 0} (image wider : List ℕ → Type 0)
    → Elapses before now past since image → ((c : List ℕ) → image c → wider c)
    → Elapses before now past since wider
elapses_in image wider time more = record {
  later = time.later;
  nothing_else = λ t c le was. ⊎_elim (λ past. inl past) (λ is. inr (more c is))
      (time.nothing_else t c le was);
  keeps = time.keeps;
}

-- one call after another
pub elapses_on : {before mid now : ℕ} {past between since : ℕ → List ℕ → Type 0}
    (image : List ℕ → Type 0) → Elapses before mid past between image
    → Elapses mid now between since image → Elapses before now past since image
elapses_on image first second = record {
  later = omega (arith, first.later, second.later);
  nothing_else = λ t c le was. ⊎_elim (first.nothing_else t c le) (λ is. inr is)
      (second.nothing_else t c (omega (arith, le, first.later)) was);
  keeps = λ t c le was. second.keeps t c (omega (arith, le, first.later)) (first.keeps t c le was);
}

module _ {D : Type 0} (g : disk.Ghosts D) where
  -- before the first call
  pub started : (old : D) (P : List ℕ → Type 0) → ((c : List ℕ) → g.since old (g.time old) c → P c)
      → LeavesOnly g old old P
  started old P here = record { later = omega arith; each = here; before = λ t c le was. inl was }

  -- one call more, after which a crash leaves what has P
  pub goes_on : (old mid new : D) (P image : List ℕ → Type 0) → LeavesOnly g old mid P
      → Elapses (g.time mid) (g.time new) (g.since mid) (g.since new) image
      → ((c : List ℕ) → image c → P c) → LeavesOnly g old new P
  goes_on old mid new P image so_far elapses here = record {
    later = omega (arith, so_far.later, elapses.later);
    each = λ c was. ⊎_elim (so_far.each c) (here c)
        (elapses.nothing_else (g.time old) c so_far.later was);
    before = λ t c le was. ⊎_elim (so_far.before t c le) (λ is. inr (here c is))
        (elapses.nothing_else t c (omega (arith, le, so_far.later)) was);
  }

  -- a run said of more
  pub leaves_in : (old new : D) (P Q : List ℕ → Type 0) → LeavesOnly g old new P
      → ((c : List ℕ) → P c → Q c) → LeavesOnly g old new Q
  leaves_in old new P Q so_far more = record {
    later = so_far.later;
    each = λ c was. more c (so_far.each c was);
    before = λ t c le was. ⊎_elim (λ past. inl past) (λ is. inr (more c is)) (so_far.before t c le was);
  }

  -- one run after another
  pub leaves_on : (old mid new : D) (P : List ℕ → Type 0) → LeavesOnly g old mid P
      → LeavesOnly g mid new P → LeavesOnly g old new P
  leaves_on old mid new P first second = record {
    later = omega (arith, first.later, second.later);
    each = λ c was. ⊎_elim (first.each c) (λ is. is) (second.before (g.time old) c first.later was);
    before = λ t c le was. ⊎_elim (first.before t c le) (λ is. inr is)
        (second.before t c (omega (arith, le, first.later)) was);
  }

  -- no call
  pub unmoved_none : (old : D) → IsUnmoved g old old
  unmoved_none old = record {
    reads = refl;
    images = λ c is. is;
    moments =
        record {
          later = omega arith;
          nothing_else = λ t c le was. inl was;
          keeps =
              λ t c le was. was;
        };
  }

  -- a call that only read
  pub unmoved_by : (old new : D) → g.reads new ≡ g.reads old
      → ((c : List ℕ) → g.image new c → g.image old c)
      → Elapses (g.time old) (g.time new) (g.since old) (g.since new) (g.image new)
      → IsUnmoved g old new
  unmoved_by old new told images elapses =
      record {
        reads = told;
        images = images;
        moments =
            elapses_in (g.image new) (g.image old) elapses images;
      }

  -- one after another
  pub unmoved_on : (old mid new : D) → IsUnmoved g old mid → IsUnmoved g mid new → IsUnmoved g old new
  unmoved_on old mid new first second = record {
    reads = second.reads ∙ first.reads;
    images = λ c is. first.images c (second.images c is);
    moments = elapses_on (g.image old) first.moments
        (elapses_in (g.image mid) (g.image old) second.moments first.images);
  }

  -- a call that only read leaves what was there
  pub unmoved_leaves : (old new : D) (P : List ℕ → Type 0)
      → ((d : D) (c : List ℕ) → g.since d (g.time d) c → g.image d c) → IsUnmoved g old new
      → ((c : List ℕ) → g.image old c → P c) → LeavesOnly g old new P
  unmoved_leaves old new P only_now unmoved here =
      goes_on old old new P (g.image old)
      (started old P (λ c was. here c (only_now old c was))) unmoved.moments here

  -- a call that begins with a sync
  pub from_sync : (old mid new : D) (b : List ℕ) (P : List ℕ → Type 0)
      → ((d : D) (c : List ℕ) → g.since d (g.time d) c → g.image d c) → Only b (g.image mid)
      → ((c : List ℕ) → g.image mid c → g.image old c)
      → Elapses (g.time old) (g.time mid) (g.since old) (g.since mid) (g.image mid) → P b
      → LeavesOnly g mid new P → KeepsFromSync g old new P
  from_sync old mid new b P only_now only fewer elapses here leaves = record {
    synced = g.time mid;
    after = elapses.later;
    before = leaves.later;
    each = leaves.each;
    handed_in = λ c was. ⊎_elim
        (λ then_was. ⊎_elim (λ at_old. inl (only_now old c at_old)) (λ is. inl (fewer c is))
        (elapses.nothing_else (g.time old) c (omega arith) then_was))
        (λ is. inr is)
        (leaves.before (g.time old) c elapses.later was);
    earlier = λ t c le was. ⊎_elim
        (λ then_was. ⊎_elim (λ at_old. inl at_old) (λ is. inr (subst P (sym (only c is)) here))
        (elapses.nothing_else t c le then_was))
        (λ is. inr is)
        (leaves.before t c (omega (arith, le, elapses.later)) was);
  }
