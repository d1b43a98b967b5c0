-- A caller is reached from itself by no ask, and by two lists of asks one after the other.
use Rattle.std.proofs.Common.{◌≡◌, inl, inr, ⊎_elim, ℕ, ◌+◌, ◌≤◌, List, [], ◌∷◌, ◌++◌, length, refl, sym, ◌∙◌, ap, subst, arith, append_assoc, append-nil, length-append}
use Rattle.std.proofs.lemmas.List.Elements.{Contains-append_left, Contains-append_right}
use Rattle.device_facts.specs.Count.{Rose}
use Rattle.device_facts.specs.Prefix.{IsPrefixOf}
use Rattle.disk_core.specs.declared.disk.Disk as disk
use Rattle.book_words.specs.declared.act.Ask.{Ask}
use Rattle.book_words.specs.declared.act.Entry.{Entry}
use Rattle.book_words.specs.Callers.{IsReached}
use Rattle.book_store.specs.Stores.{disk_of, entries_of, limit_of}
use Rattle.book_store.specs.Callers.{CallerView, own_rows, IsAskedFor, MayStandBehind, LeavesRows, KeepsRows, FailsAlike, KeepsFailed, IsReachedBy}

begins_itself : (a : List Entry) → IsPrefixOf a a
begins_itself a = ([], sym (append-nil a))

begins_on : (a b c : List Entry) → IsPrefixOf a b → IsPrefixOf b c → IsPrefixOf a c
begins_on a b c first second = (
  first.0 ++ second.0,
  second.1 ∙ ap (λ (es : List Entry). es ++ second.0) first.1 ∙ append_assoc a first.0 second.0,
)

begins_short : (a b : List Entry) → IsPrefixOf a b → length a ≤ length b
begins_short a b begins = omega (arith, ap length begins.1, length-append a begins.0)

-- an ask of some is one of more
asked_before : (limit by : ℕ) (some more : List Ask) (rows : List Entry) (entry : Entry)
    → IsAskedFor limit by some rows entry → IsAskedFor limit by (some ++ more) rows entry
asked_before limit by some more rows entry is =
    record {
      before = is.before;
      ask = is.ask;
      after = is.after ++ more;
      parts = ap (λ (asks : List Ask). asks ++ more) is.parts
          ∙ append_assoc is.before (is.ask ∷ is.after) more;
      adds = is.adds;
      lawful = is.lawful;
    }

asked_behind : (limit by : ℕ) (some more : List Ask) (rows : List Entry) (entry : Entry)
    → IsAskedFor limit by more rows entry → IsAskedFor limit by (some ++ more) rows entry
asked_behind limit by some more rows entry is =
    record {
      before = some ++ is.before;
      ask = is.ask;
      after = is.after;
      parts = ap (λ (asks : List Ask). some ++ asks) is.parts
          ∙ sym (append_assoc some is.before (is.ask ∷ is.after));
      adds = is.adds;
      lawful = is.lawful;
    }

-- a count that rose in one of two steps rose in both
rose_before : (a b c : ℕ) → Rose a b → b ≤ c → Rose a c
rose_before a b c rose least = omega (arith, rose, least)

rose_behind : (a b c : ℕ) → a ≤ b → Rose b c → Rose a c
rose_behind a b c least rose = omega (arith, least, rose)

module _ {D : Type 0} (g : disk.Ghosts D) where
  pub reached_by_none : (caller : CallerView D) → IsReachedBy g caller caller []
  reached_by_none caller =
      record {
        begins = begins_itself (entries_of caller.store);
        limit = refl;
        held = refl;
        by = refl;
        counted = omega arith;
        alone = refl;
        alike = inl (refl, refl);
        failed = inl (refl, refl);
        hangs = λ hangs. inl hangs;
        still = λ few calm. refl;
        keeps = λ has. record {
          has = has;
          hung = λ entry hangs. inr (hangs, refl);
          later = omega arith;
          moments = λ t c le was. inl was;
        };
      }

  module _ (first second third : CallerView D) (some more : List Ask)
      (one : IsReachedBy g first second some) (two : IsReachedBy g second third more) where
    alike_both : FailsAlike g first third
    alike_both = ⊎_elim
        (λ stays. ⊎_elim
        (λ then. inl (then.0 ∙ stays.0, then.1 ∙ stays.1))
        (λ then. inr (
          then.0,
          then.1,
          omega (arith, stays.0, then.2),
          omega (arith, stays.1, then.3),
        ))
        two.alike)
        (λ rose. ⊎_elim
        (λ then. inr (
          rose.0,
          rose.1,
          omega (arith, rose.2, then.0),
          omega (arith, rose.3, then.1),
        ))
        (λ then. inr (
          rose.0 + then.0,
          omega (arith, rose.1),
          omega (arith, rose.2, then.2),
          omega (arith, rose.3, then.3),
        ))
        two.alike)
        one.alike

    failed_both : KeepsFailed first third (some ++ more)
    failed_both = ⊎_elim
        (λ stays. ⊎_elim
        (λ then. inl (stays.0 ∙ then.0, stays.1 ∙ then.1))
        (λ then. inr (
          subst (Rose first.faults) (sym stays.0) then.0,
          then.1,
          Contains-append_left some more then.1 then.2,
          stays.1 ∙ then.3,
        ))
        one.failed)
        (λ rose. inr (
          rose_behind _ _ _ one.counted rose.0,
          rose.1,
          Contains-append_right some more rose.1 rose.2,
          rose.3,
        ))
        two.failed

    -- what may stand behind rows after the first asks, or after the others
    stands_before : (rows : List Entry) (entry : Entry)
        → MayStandBehind g first second some rows entry
        → MayStandBehind g first third (some ++ more) rows entry
    stands_before rows entry stands = ⊎_elim
        (λ asked. inl (
          rose_before _ _ _ asked.0 two.counted,
          asked_before _ _ some more rows entry asked.1,
        ))
        (λ hung. inr hung)
        stands

    stands_behind : (rows : List Entry) (entry : Entry) → KeepsRows g first second some
        → MayStandBehind g second third more rows entry
        → MayStandBehind g first third (some ++ more) rows entry
    stands_behind rows entry keeps stands = ⊎_elim
        (λ asked. inl (
          rose_behind _ _ _ one.counted asked.0,
          asked_behind _ _ some more rows entry
              (subst (λ (n : ℕ). IsAskedFor n first.by more rows entry) one.limit
              (subst (λ (n : ℕ). IsAskedFor (limit_of second.store) n more rows entry)
              one.by asked.1)),
        ))
        (λ hung. stands_before rows entry
        (subst (λ (es : List Entry). MayStandBehind g first second some es entry)
        (sym hung.1) (keeps.hung entry hung.0)))
        stands

    leaves_before : (c : List ℕ) → LeavesRows g first second some c
        → LeavesRows g first third (some ++ more) c
    leaves_before c left =
        record {
          rows = left.rows;
          least = left.least;
          most = begins_on _ _ _ left.most two.begins;
          holds = ⊎_elim (λ is. inl is)
              (λ is. inr (is.0, stands_before left.rows is.0 is.1, is.2)) left.holds;
        }

    leaves_behind : (c : List ℕ) → KeepsRows g first second some → LeavesRows g second third more c
        → LeavesRows g first third (some ++ more) c
    leaves_behind c keeps left =
        record {
          rows = left.rows;
          least = begins_on _ _ _ one.begins left.least;
          most = left.most;
          holds = ⊎_elim (λ is. inl is)
              (λ is. inr (is.0, stands_behind left.rows is.0 keeps is.1, is.2)) left.holds;
        }

    keeps_both : KeepsRows g first second some → KeepsRows g second third more
        → KeepsRows g first third (some ++ more)
    keeps_both keeps then =
        record {
          has = then.has;
          hung = λ entry hangs.
              stands_behind (entries_of third.store) entry keeps (then.hung entry hangs);
          later = omega (arith, keeps.later, then.later);
          moments = λ t c le was. ⊎_elim
              (λ past. ⊎_elim (λ is. inl is) (λ is. inr (leaves_before c is))
              (keeps.moments t c le past))
              (λ is. inr (leaves_behind c keeps is))
              (then.moments t c (omega (arith, le, keeps.later)) was);
        }

    pub reached_by_both : IsReachedBy g first third (some ++ more)
    reached_by_both =
        record {
          begins = begins_on _ _ _ one.begins two.begins;
          limit = two.limit ∙ one.limit;
          held = two.held ∙ one.held;
          by = two.by ∙ one.by;
          alone =
              let own = λ (n : ℕ). length (entries_of third.store)
              + length (own_rows n (entries_of second.store))
              ≡ length (entries_of second.store) + length (own_rows n (entries_of third.store)) in
              omega (arith, one.alone, subst own one.by two.alone);
          counted = omega (arith, one.counted, two.counted);
          alike = alike_both;
          failed = failed_both;
          hangs = λ hangs. ⊎_elim
              (λ was. ⊎_elim (λ is. inl is) (λ rose. inr (rose_before _ _ _ rose two.counted))
              (one.hangs was))
              (λ rose. inr (rose_behind _ _ _ one.counted rose))
              (two.hangs hangs);
          still = λ few calm.
              let less = begins_short _ _ one.begins in
              let more = begins_short _ _ two.begins in
              two.still (omega (arith, few, less)) (omega (arith, calm, one.counted))
              ∙ one.still (omega (arith, few, more)) (omega (arith, calm, two.counted));
          keeps = λ has.
              let keeps = one.keeps has in
              keeps_both keeps (two.keeps keeps.has);
        }

pub is_reached : {D : Type 0} {g : disk.Ghosts D} → IsReached (IsReachedBy g)
is_reached {D} {g} = record { by_none = reached_by_none g; by_both = reached_by_both g }
