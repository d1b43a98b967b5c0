use Rattle.std.proofs.Common.{◌≡◌, ◌⊎◌, ◌∙◌, sym, ap, subst, take, length}
use Rattle.old_journal.specs.declared.types.Stage.TheVariants as stages
use Rattle.old_journal.proofs.ReaderPlaces.{step_leaves, foreign_stays, over_stays}
use Rattle.old_journal.proofs.reader.OldJournal.take.Goals as goal

pub returns-in-Header-clause-stands : goal.returns-in-Header-clause-stands
returns-in-Header-clause-stands c = λ taken at.
    let counts = subst (λ v. (v.stage ≡ stages.Header) ⊎ (v.stage ≡ stages.Rows)) c.self.view_is
    c.in-Header.is in
    (step_leaves taken (take c.take_slot.result.0 c.args.bytes.now) c.args.self.now
    c.take_slot.new.self c.take_slot.result.1 counts c.take_slot.ensures.step at).stands

pub returns-in-Header-clause-says : goal.returns-in-Header-clause-says
returns-in-Header-clause-says c = λ taken at.
    let counts = subst (λ v. (v.stage ≡ stages.Header) ⊎ (v.stage ≡ stages.Rows)) c.self.view_is
    c.in-Header.is in
    (step_leaves taken (take c.take_slot.result.0 c.args.bytes.now) c.args.self.now
    c.take_slot.new.self c.take_slot.result.1 counts c.take_slot.ensures.step at).says

pub returns-in-Foreign-clause-stands : goal.returns-in-Foreign-clause-stands
returns-in-Foreign-clause-stands c = λ taken at.
    (foreign_stays taken (take (length c.args.bytes.now) c.args.bytes.now) c.args.self.now at
    (sym (ap (λ v. v.stage) c.self.view_is) ∙ c.in-Foreign.is)).stands

pub returns-in-Foreign-clause-says : goal.returns-in-Foreign-clause-says
returns-in-Foreign-clause-says c = λ taken at.
    (foreign_stays taken (take (length c.args.bytes.now) c.args.bytes.now) c.args.self.now at
    (sym (ap (λ v. v.stage) c.self.view_is) ∙ c.in-Foreign.is)).says

pub returns-in-Over-clause-stands : goal.returns-in-Over-clause-stands
returns-in-Over-clause-stands c = λ taken at.
    (over_stays taken (take (length c.args.bytes.now) c.args.bytes.now) c.args.self.now at
    (sym (ap (λ v. v.stage) c.self.view_is) ∙ c.in-Over.is)).stands

pub returns-in-Over-clause-says : goal.returns-in-Over-clause-says
returns-in-Over-clause-says c = λ taken at.
    (over_stays taken (take (length c.args.bytes.now) c.args.bytes.now) c.args.self.now at
    (sym (ap (λ v. v.stage) c.self.view_is) ∙ c.in-Over.is)).says
