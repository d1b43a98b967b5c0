use Rattle.std.proofs.Common.{◌≤◌, [], ◌∷◌, refl, subst, arith}
use Rattle.book_words.specs.Answers.{added}
use Rattle.book_words.specs.Callers.{FAULTS_END, IsAsked}
use Rattle.book_store.specs.Callers.{CallerView, known_of, IsReachedBy}
use Rattle.book_store.specs.Kept.{KeepsOn}
use Rattle.book_store.specs.Offers.{offered_behind}
use Rattle.book_store.specs.Stores.{book_of, entries_of, limit_of}
use Rattle.book_store.proofs.KeptLemmas.{kept_asked}
use Rattle.book_store.proofs.CallerSteps.{is_asked, reached_by_ask, refused_adds, failed_adds}
use Rattle.book_store.proofs.one_caller.OneCallerCaller.ask.Goals as goal

pub returns-clause-asked : goal.returns-clause-asked
returns-clause-asked g c =
    let old : CallerView g.row.D.Denot =
    record {
      store = c.self.inside.store;
      by = c.self.inside.by;
      faults = c.self.inside.faults;
      failed = c.self.inside.failed;
    } in
    let new : CallerView g.row.D.Denot =
    record old {
      store = c.ask-given.new.self;
      faults = c.faults_behind-self-inside.result;
      failed = c.failed_last-self-inside.result;
    } in
    subst (λ (v : CallerView g.row.D.Denot). IsAsked (known_of v)
    (known_of new) c.args.ask.now c.ask-given.result) c.self.view_is
    (is_asked old new c.args.ask.now c.ask-given.ensures.limit refl c.ask-given.result
    c.ask-given.ensures.entries c.ask-given.ensures.answer c.ask-given.ensures.legal
    c.faults_behind-self-inside.ensures)

pub returns-clause-later : goal.returns-clause-later
returns-clause-later g c =
    let old : CallerView g.row.D.Denot =
    record {
      store = c.self.inside.store;
      by = c.self.inside.by;
      faults = c.self.inside.faults;
      failed = c.self.inside.failed;
    } in
    let new : CallerView g.row.D.Denot =
    record old {
      store = c.ask-given.new.self;
      faults = c.faults_behind-self-inside.result;
      failed = c.failed_last-self-inside.result;
    } in
    let range : c.self.inside.faults ≤ FAULTS_END = omega (arith, c.self.ranges.1.1.0.1) in
    subst (λ (v : CallerView g.row.D.Denot). IsReachedBy g.D.Disk v new (c.args.ask.now ∷ []))
    c.self.view_is
    (reached_by_ask g.D.Disk old new c.args.ask.now refl c.ask-given.result
    c.ask-given.ensures.entries c.ask-given.ensures.answer c.ask-given.ensures.offers
    c.ask-given.ensures.no_memory
    c.ask-given.ensures.hangs c.ask-given.ensures.settled c.ask-given.ensures.limit
    c.ask-given.ensures.held c.ask-given.ensures.cause range c.faults_behind-self-inside.ensures
    c.failed_last-self-inside.ensures)

pub returns-clause-kept : goal.returns-clause-kept
returns-clause-kept g c =
    subst (λ v. KeepsOn g.D.Disk (offered_behind c.ask-given.result
    (added (limit_of v.store) (entries_of v.store) v.by c.args.ask.now)) v.store
    c.ask-given.new.self) c.self.view_is
    (kept_asked g.D.Disk c.self.inside.store c.ask-given.new.self c.ask-given.result _
    c.ask-given.ensures.entries c.ask-given.ensures.offers
    (λ why told. refused_adds (book_of c.self.inside.store) c.self.inside.by c.args.ask.now
    c.ask-given.result why c.ask-given.ensures.answer told)
    (failed_adds (book_of c.self.inside.store) c.self.inside.by c.args.ask.now _ c.ask-given.result
    _ c.ask-given.ensures.answer)
    c.ask-given.ensures.no_memory c.ask-given.ensures.settled c.ask-given.ensures.images)
