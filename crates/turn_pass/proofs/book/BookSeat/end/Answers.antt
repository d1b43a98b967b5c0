use Rattle.std.proofs.Common.{rules, ◌≡◌, ◌+◌, ap, sym, ◌∙◌, length, arith, sum_by, All, AllPairs}
use Rattle.std.proofs.Common.{◌≢◌}
use Rattle.turn_pass.specs.History.{PassState, Agrees, known_of}
use Rattle.turn_pass.proofs.GatheredPasses.{all_agree, all_apart, rows_own}
use Rattle.turn_pass.proofs.RowCounts.{make_all}
use Rattle.turn_pass.proofs.book.BookSeat.end.Goals as goal

pub returns : goal.returns
returns g c =
    let b = c.self.inside in
    let book = c.args.self in
    let P = PassState g.row.E.Denot in
    let passes = c.args.passes.items in
    let before = b.place.me.0 in
    let after = c.gather.new.self.place.me.0 in
    let back = ap (λ m. m.0) c.gather.ensures.place.1 in
    let same_history : before.history ≡ book.history = ap (λ b. b.history) c.self.view_is in
    let same_list : before.known.seen ≡ book.list = ap (λ b. b.list) c.self.view_is in
    let row_parts : c.gather.new.self.rows.parts ≡ g.L.Ledger.parts =
    c.gather.ensures.row_parts ∙ (ap (λ b. length passes + b.row_parts) c.self.view_is ∙
    c.requires.all_rows) in
    let fault_parts : c.gather.new.self.faults.parts ≡ g.M.Ledger.parts =
    c.gather.ensures.fault_parts ∙ (ap (λ b. length passes + b.fault_parts) c.self.view_is ∙
    c.requires.all_faults) in
    let rows : c.gather.new.self.rows.amount ≡ b.rows.total = c.audit.ensures.whole row_parts in
    let faults : c.gather.new.self.faults.amount ≡ b.faults.total =
    c.audit-2.ensures.whole fault_parts in
    let no_rows : b.row_share.amount ≡ 0 = c.self.invariant.2.nothing in
    let no_faults : b.fault_share.amount ≡ 0 = c.self.invariant.3.nothing in
    let booked : b.rows.total ≡ length book.list = c.self.invariant.0.each_booked ∙
    ap length same_list in
    let rows_booked : sum_by (λ (p : P). p.rows) passes ≡ length book.list =
    omega (arith, c.gather.ensures.rows) in
    let agree : All (λ (p : P). Agrees book.history book.list (known_of p)) passes =
    all_agree before after book.history book.list passes back c.self.invariant.0.ended same_history
    same_list c.last_count.ensures.ended in
    let apart : AllPairs (λ (p q : P). p.by ≢ q.by) passes =
    all_apart before after passes back c.self.invariant.0.ended c.last_count.ensures.apart in
    record {
      count = c.last_count.ensures.count ∙
          (ap (λ v. v.history + length v.known.seen) back ∙
          ap (λ b. b.history + length b.list) c.self.view_is);
      counter = search rules;
      rows_booked = rows_booked;
      faults_booked = let total = ap (λ b. b.faults) c.self.view_is in
          omega (arith, c.gather.ensures.faults);
      agree = agree;
      apart = apart;
      whole = λ each. make_all book.history book.list passes agree apart (sym rows_booked ∙
          rows_own passes each);
    }
