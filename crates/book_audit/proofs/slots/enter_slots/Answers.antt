use Rattle.std.proofs.Common.{rules, ◌≡◌, ◌+◌, length, take, drop, ap, subst, arith, length-take}
use Rattle.book_snapshot.specs.declared.layout.TheConstants.{ROW_BYTES}
use Rattle.book_words.proofs.LegalLemmas.{legal_few}
use Rattle.book_audit.specs.declared.slots.Walk.{Walk}
use Rattle.book_audit.specs.Walking.{WalksTo}
use Rattle.book_audit.proofs.WalkSteps.{slot_here, others_here}
use Rattle.book_audit.proofs.slots.enter_slots.Goals as goal

pub loop-slot-preserved : goal.loop-slot-preserved
loop-slot-preserved c =
    let inv = c.loop-slot.invariant in
    let rest = c.loop-slot.rest.now in
    let slot = c.in-Some.slot.now in
    let after = c.in-Some.after.now in
    let old = c.loop-slot.book.entries in
    let new = c.enter_slot.new.book.entries in
    let step = c.in_ok-enter_slot.ensures in
    let slot_is : slot ≡ take ROW_BYTES rest = search rules in
    let after_is : after ≡ drop ROW_BYTES rest = search rules in
    let sizes : length after + ROW_BYTES ≡ length rest = search rules in
    let long : length slot ≡ ROW_BYTES =
    omega (arith, ap length slot_is, length-take ROW_BYTES rest, sizes) in
    let next = step.count c.in-On.is in
    record {
      few = legal_few new c.enter_slot.ensures.legal;
      legal = c.enter_slot.ensures.legal;
      walks = λ bytes stands here.
          let had = inv.walks bytes stands here in (
            subst (λ (w : Walk). WalksTo bytes new w) c.in-On.is
                (step.walks bytes had.0 (slot_here rest slot after _ slot_is after_is had.1)),
            others_here bytes rest slot after (length old) (length new) slot_is after_is long next
                had.1,
          );
      count = omega (arith, inv.count, next, sizes);
    }

pub returns-in-End-clause-walks : goal.returns-in-End-clause-walks
returns-in-End-clause-walks c bytes stands here =
    let rest = c.loop-slot.rest.now in
    let slot = c.in-Some.slot.now in
    let after = c.in-Some.after.now in
    let slot_is : slot ≡ take ROW_BYTES rest = search rules in
    let after_is : after ≡ drop ROW_BYTES rest = search rules in
    let had = c.loop-slot.invariant.walks bytes stands here in
    subst (λ (w : Walk). WalksTo bytes c.enter_slot.new.book.entries w) c.in-End.is
    (c.in_ok-enter_slot.ensures.walks bytes had.0
    (slot_here rest slot after _ slot_is after_is had.1))

pub returns-in-Damaged-clause-walks : goal.returns-in-Damaged-clause-walks
returns-in-Damaged-clause-walks c bytes stands here =
    let rest = c.loop-slot.rest.now in
    let slot = c.in-Some.slot.now in
    let after = c.in-Some.after.now in
    let slot_is : slot ≡ take ROW_BYTES rest = search rules in
    let after_is : after ≡ drop ROW_BYTES rest = search rules in
    let had = c.loop-slot.invariant.walks bytes stands here in
    subst (λ (w : Walk). WalksTo bytes c.enter_slot.new.book.entries w) c.in-Damaged.is
    (c.in_ok-enter_slot.ensures.walks bytes had.0
    (slot_here rest slot after _ slot_is after_is had.1))
