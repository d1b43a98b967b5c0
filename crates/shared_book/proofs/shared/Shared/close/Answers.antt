use Rattle.std.proofs.Common.{◌≡◌, ◌-◌, ◌^◌, ◌<◌, ℕ, List, All, length, min, ap, sym, ◌∙◌, subst}
use Rattle.std.proofs.lemmas.List.Elements.{All-weaker}
use Rattle.device_facts.specs.Count.{Counted}
use Rattle.turn_pass.specs.History.{PassState}
use Rattle.book_words.specs.declared.act.Entry.{Entry}
use Rattle.book_store.specs.Stores.{disk_of}
use Rattle.shared_book.proofs.SessionLemmas.{run_on}
use Rattle.shared_book.specs.Closing.{IsCalm}
use Rattle.shared_book.specs.Passes.{IsPassOf}
use Rattle.shared_book.proofs.CloseLemmas.{make_rows}
use Rattle.shared_book.proofs.shared.Shared.close.Goals as goal

pub returns : goal.returns
returns g c =
    let P : Type 0 = PassState Entry in
    let s = g.N.Session in
    let store = c.into_parts-store.result.0 in
    let seat = c.into_parts-store.result.1 in
    let keeps = c.into_parts-store.ensures.keeps in
    let closed = c.close-faults.ensures in
    let passes : List P = c.args.ends.items in
    let booked : All (λ (p : P). p.rows ≡ length p.mine) passes =
    All-weaker (IsPassOf s) (λ (p : P). p.rows ≡ length p.mine) (λ (p : P) is. is.booked) passes
    c.requires.ends in
    record {
      rows = make_rows s.before _ seat.history seat.list passes keeps.behind keeps.rows keeps.marked
          closed.agree closed.apart (closed.whole booked);
      counted = subst (λ (n : ℕ). 0 < n → Counted s.faults (g.D.Disk.faults (disk_of store)) n)
          (sym closed.faults_booked) keeps.faults;
      calm = subst (λ (n : ℕ). n ≡ 0 → IsCalm g.D.Disk s store) (sym closed.faults_booked)
          keeps.calm;
      faults = closed.faults ∙ ap (λ (n : ℕ). min n (2 ^ 64 - 1)) (sym closed.faults_booked);
      kept = c.into_parts-store.ensures.kept;
      run = λ held start first begins rests run. run_on g.D.Disk s held start first store begins
          rests c.into_parts-store.ensures.kept run;
    }

pub close-faults-requires-clause-passes : goal.close-faults-requires-clause-passes
close-faults-requires-clause-passes g c =
    λ k d inside. (c.requires.ends k d inside).same_table ∙ sym c.self.invariant.same_table
