use Rattle.std.proofs.Common.{◌∙◌, subst, arith}
use Rattle.book_words.proofs.LegalLemmas.{legal_few}
use Rattle.book_journal.proofs.Moments.{unmoved_on}
use Rattle.book_audit.specs.declared.slots.Walk.{Walk}
use Rattle.book_audit.specs.Walking.{WalksTo}
use Rattle.book_audit.proofs.slots.read_slots.Goals as goal

pub returns-in-End-clause-slots : goal.returns-in-End-clause-slots
returns-in-End-clause-slots g c bytes told =
    let inv = c.loop-piece.invariant in
    subst (λ (w : Walk). WalksTo bytes c.read_piece.new.book.entries w) c.in-End.is
    (c.in_ok-read_piece.ensures.walks bytes (inv.unmoved.reads ∙ told) (inv.walks bytes told))

pub returns-in-Damaged-clause-slots : goal.returns-in-Damaged-clause-slots
returns-in-Damaged-clause-slots g c bytes told =
    let inv = c.loop-piece.invariant in
    subst (λ (w : Walk). WalksTo bytes c.read_piece.new.book.entries w) c.in-Damaged.is
    (c.in_ok-read_piece.ensures.walks bytes (inv.unmoved.reads ∙ told) (inv.walks bytes told))

pub loop-piece-preserved : goal.loop-piece-preserved
loop-piece-preserved g c =
    let inv = c.loop-piece.invariant in
    let step = c.in_ok-read_piece.ensures in
    let new = c.read_piece.new.book.entries in
    record {
      few = legal_few new c.read_piece.ensures.legal;
      legal = c.read_piece.ensures.legal;
      walks = λ bytes told.
          subst (λ (w : Walk). WalksTo bytes new w) c.in-On.is
          (step.walks bytes (inv.unmoved.reads ∙ told) (inv.walks bytes told));
      count = omega (arith, inv.count, step.count c.in-On.is);
      unmoved = unmoved_on g.D.Disk c.args.disk.now c.loop-piece.disk c.read_piece.new.disk
          inv.unmoved c.read_piece.ensures.unmoved;
      calm = step.cause ∙ inv.calm;
    }
