use Rattle.std.proofs.Common.{◌≡◌, ◌⊎◌, ◌+◌, ◌≤◌, ℕ, Err, true, length, refl, subst}
use Rattle.device_facts.specs.Prefix.{IsPrefixOf}
use Rattle.book_words.specs.Answers.{answer, added}
use Rattle.book_words.specs.declared.caller.AskError.TheVariants as error
use Rattle.book_store.specs.declared.store.Store.{Store}
use Rattle.book_store.specs.Stores.{disk_of, book_of, entries_of, limit_of, Hangs}
use Rattle.book_store.specs.Offers.{CountsDiskFault, GivesAnswer, Offers, list_behind}
use Rattle.shared_book.specs.Sessions.{weighs}
use Rattle.shared_book.proofs.SessionLemmas.{asked_begins, kept_asked, no_memory, still_asked}
use Rattle.shared_book.proofs.held.HeldStore.ask.Goals as goal

pub invariant_of-self : goal.invariant_of-self
invariant_of-self g c =
    let old = c.self.inside.store in
    let offered = added (limit_of old) (entries_of old) c.args.by c.args.ask.now in
    kept_asked g.D.Disk g.N.Session c.args.by c.args.ask.now old c.ask.new.self c.ask.result offered
    refl c.ask.ensures.entries
    c.ask.ensures.offers c.ask.ensures.settled c.ask.ensures.images c.ask.ensures.hangs
    c.ask.ensures.cause c.ask.ensures.limit c.ask.ensures.held c.ask.ensures.spare
    c.ask.ensures.sound c.self.invariant

pub returns : goal.returns
returns g c =
    let S : Type 0 = Store g.row.D.Denot in
    let old : S = c.self.inside.store in
    let new : S = c.ask.new.self in
    let r = c.ask.result in
    let by = c.args.by in
    let asked = c.args.ask.now in
    let limit : limit_of old ≡ g.N.Session.limit = c.self.invariant.limit in
    let e = c.ask.ensures in
    record {
      answer = subst (λ (s : S). GivesAnswer (book_of s) by asked
          (added g.N.Session.limit (entries_of s) by asked) r
          (answer g.N.Session.limit (entries_of s) asked)) c.self.view_is
          (subst (λ (n : ℕ). GivesAnswer (book_of old) by asked (added n (entries_of old) by asked) r
          (answer n (entries_of old) asked)) limit e.answer);
      entries = subst (λ (s : S). entries_of new ≡ list_behind r (entries_of s)
          (added g.N.Session.limit (entries_of s) by asked)) c.self.view_is
          (subst (λ (n : ℕ). entries_of new ≡ list_behind r (entries_of old)
          (added n (entries_of old) by asked)) limit e.entries);
      limit = subst (λ (s : S). limit_of s ≡ g.N.Session.limit) c.self.view_is limit;
      legal = e.legal;
      begins = subst (λ (s : S). IsPrefixOf (entries_of s) (entries_of new)) c.self.view_is
          (asked_begins r (entries_of old) (entries_of new)
          (added (limit_of old) (entries_of old) by asked) e.entries);
      room = subst (λ (s : S). r ≡ Err error.NoMemory → weighs asked.want ≡ true
          → g.N.Session.spare + length g.N.Session.before ≤ length (entries_of s)) c.self.view_is
          (no_memory g.D.Disk g.N.Session old by asked
          (added (limit_of old) (entries_of old) by asked) r
          (answer (limit_of old) (entries_of old) asked) c.self.invariant e.answer);
      offers = subst (λ (s : S). Offers g.D.Disk (added g.N.Session.limit (entries_of s) by asked) s new)
          c.self.view_is
          (subst (λ (n : ℕ). Offers g.D.Disk (added n (entries_of old) by asked) old new) limit
          e.offers);
      still = subst (λ (s : S). length (entries_of new) ≤ length (entries_of s)
          → (r ≡ Err error.DiskFault) ⊎ (disk_of new ≡ disk_of s)) c.self.view_is
          (still_asked g.D.Disk old new by asked r (added (limit_of old) (entries_of old) by asked)
          refl e.entries e.offers e.no_memory e.answer);
      hangs = subst (λ (s : S). Hangs new → (r ≡ Err error.DiskFault) ⊎ Hangs s) c.self.view_is
          e.hangs;
      cause = subst (λ (s : S). CountsDiskFault (g.D.Disk.faults (disk_of s))
          (g.D.Disk.faults (disk_of new)) r) c.self.view_is e.cause;
    }
