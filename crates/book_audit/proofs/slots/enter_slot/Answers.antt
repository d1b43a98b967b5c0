use Rattle.std.proofs.Common.{rules, ◌≡◌, length, sym, subst, ◌∙◌}
use Rattle.book_snapshot.specs.declared.layout.TheConstants.{ROW_BYTES}
use Rattle.book_audit.specs.declared.slots.Walk.{Walk}
use Rattle.book_audit.specs.Walking.{WalksTo}
use Rattle.book_audit.proofs.WalkSteps.{walks_behind, one_more, stands_shut}
use Rattle.book_audit.proofs.slots.enter_slot.Goals as goal

pub returns-then-slot-ne-OPEN-clause-walks : goal.returns-then-slot-ne-OPEN-clause-walks
returns-then-slot-ne-OPEN-clause-walks c bytes stands here =
    let long : length c.args.slot.now ≡ ROW_BYTES = search rules in
    stands_shut bytes c.args.slot.now c.args.book.now.entries long c.if-slot-ne-OPEN.true here stands

pub returns-clause-walks : goal.returns-clause-walks
returns-clause-walks c bytes stands here =
    let long : length c.args.slot.now ≡ ROW_BYTES = search rules in
    subst (λ (w : Walk). WalksTo bytes c.enter_row.new.book.entries w) (sym c.behind.ensures)
    (walks_behind bytes c.args.slot.now c.args.book.now.entries c.enter_row.new.book.entries long
    c.requires.few c.if-slot-ne-OPEN.false c.enter_row.ensures.legal here stands
    c.in_ok-entered.entered c.in_ok-entered.ensures.enters)

pub returns-clause-count : goal.returns-clause-count
returns-clause-count c on =
    one_more c.args.slot.now c.args.book.now.entries c.enter_row.new.book.entries
    c.in_ok-entered.entered c.in_ok-entered.ensures.enters (sym c.behind.ensures ∙ on)
