use Rattle.std.proofs.Common.{◌≡◌, ◌+◌, ◌<◌, ℕ, length, Option, IfSome, ap, sym, ◌∙◌, subst}
use Rattle.hall_limits.specs.declared.TheConstants.{MAX_ROWS}
use Rattle.turn_pass.specs.History.{BookState, PassState}
use Rattle.book_words.specs.declared.act.Entry.{Entry}
use Rattle.book_words.specs.Answers.{answer, added}
use Rattle.book_words.specs.Callers.{IsAsked, faults_told}
use Rattle.book_state.specs.Known.{entry_numbered}
use Rattle.book_words.proofs.LegalLemmas.{legal_few}
use Rattle.book_store.specs.Offers.{GivesAnswer, Offers, list_behind}
use Rattle.book_store.specs.declared.store.Store.{Store}
use Rattle.book_store.specs.Stores.{book_of, entries_of}
use Rattle.shared_book.specs.Locked.{KeepsSeat, LockedView, seat_behind}
use Rattle.shared_book.specs.Passes.{known_of, room_of, HasUsedRoom}
use Rattle.shared_book.proofs.AskLemmas.{added_behind, found_behind, room_found, seat_kept, pass_asked, pass_booked, pass_noted, pass_uses}
use Rattle.shared_book.proofs.locked.LockedBook.ask.Goals as goal

pub invariant_of-self : goal.invariant_of-self
invariant_of-self g c =
    let old = c.self.inside.held in
    let new = c.ask-given.new.self in
    let seat = c.self.inside.seat in
    let r = c.ask-given.result in
    let found = c.entry-new.result in
    let kept = seat_kept g.D.Disk g.N.Session old new seat c.args.ask.now c.by.result
    c.self.invariant r found
    (c.entry-new.ensures ∙ ap (λ (n : ℕ). entry_numbered (entries_of new) (n + 1))
    c.len-next.ensures.len)
    c.ask-given.ensures.entries c.ask-given.ensures.cause c.ask-given.ensures.hangs
    c.ask-given.ensures.still in
    subst (λ (st : BookState Entry). KeepsSeat g.D.Disk g.N.Session new st)
    (sym c.tell.ensures.seat)
    (subst (λ (b : ℕ). KeepsSeat g.D.Disk g.N.Session new (seat_behind b found (faults_told r) seat))
    c.by.ensures kept)

pub returns-clause-asked : goal.returns-clause-asked
returns-clause-asked g c =
    let s = g.N.Session in
    let old = c.self.inside.held in
    let new = c.ask-given.new.self in
    let seat = c.self.inside.seat in
    let pass = c.args.pass.now in
    let ask = c.args.ask.now in
    let r = c.ask-given.result in
    let found = c.entry-new.result in
    let e = c.ask-given.ensures in
    subst (λ (p : PassState Entry). IsAsked (known_of s pass) (known_of s p) ask r)
    (sym c.tell.ensures.pass)
    (pass_asked s (book_of old) seat pass ask e.limit c.self.invariant.rows c.self.invariant.behind
    c.tell.ensures.seen r found (entries_of new)
    (c.entry-new.ensures ∙ ap (λ (n : ℕ). entry_numbered (entries_of new) (n + 1))
    c.len-next.ensures.len)
    (subst (λ (b : ℕ). GivesAnswer (book_of old) b ask (added s.limit (entries_of old) b ask) r
    (answer s.limit (entries_of old) ask)) c.by.ensures e.answer)
    (subst (λ (b : ℕ). entries_of new ≡ list_behind r (entries_of old)
    (added s.limit (entries_of old) b ask)) c.by.ensures e.entries)
    e.legal)

pub returns-clause-booked : goal.returns-clause-booked
returns-clause-booked g c =
    let s = g.N.Session in
    let old = c.self.inside.held in
    let new = c.ask-given.new.self in
    let seat = c.self.inside.seat in
    let pass = c.args.pass.now in
    let ask = c.args.ask.now in
    let r = c.ask-given.result in
    let found = c.entry-new.result in
    ap (λ (p : PassState Entry). p.faults) c.tell.ensures.pass
    ∙ pass_booked s (book_of old) seat pass ask c.ask-given.ensures.limit c.self.invariant.rows
    c.self.invariant.behind c.tell.ensures.seen r found (entries_of new)
    (c.entry-new.ensures ∙ ap (λ (n : ℕ). entry_numbered (entries_of new) (n + 1))
    c.len-next.ensures.len)
    (subst (λ (b : ℕ). entries_of new ≡ list_behind r (entries_of old)
    (added s.limit (entries_of old) b ask)) c.by.ensures c.ask-given.ensures.entries)

pub returns-clause-offers : goal.returns-clause-offers
returns-clause-offers g c =
    let s = g.N.Session in
    let S : Type 0 = Store g.row.D.Denot in
    let old : S = c.self.inside.held in
    let new : S = c.ask-given.new.self in
    let ask = c.args.ask.now in
    subst (λ (v : LockedView g.row.D.Denot). Offers g.D.Disk
    (added s.limit (entries_of v.store) c.args.pass.now.by ask) v.store new) c.self.view_is
    (subst (λ (b : ℕ). Offers g.D.Disk (added s.limit (entries_of old) b ask) old new) c.by.ensures
    c.ask-given.ensures.offers)

pub returns-clause-used : goal.returns-clause-used
returns-clause-used g c =
    let s = g.N.Session in
    let old = c.self.inside.held in
    let new = c.ask-given.new.self in
    let seat = c.self.inside.seat in
    let pass = c.args.pass.now in
    let ask = c.args.ask.now in
    let r = c.ask-given.result in
    let found = c.entry-new.result in
    let e = c.ask-given.ensures in
    subst (λ (p : PassState Entry). HasUsedRoom (room_of s) (known_of s pass) (known_of s p) ask)
    (sym c.tell.ensures.pass)
    (pass_uses s (book_of old) seat pass ask e.limit c.self.invariant.rows c.self.invariant.behind
    c.tell.ensures.seen (room_of s) r found (entries_of new)
    (c.entry-new.ensures ∙ ap (λ (n : ℕ). entry_numbered (entries_of new) (n + 1))
    c.len-next.ensures.len)
    (subst (λ (b : ℕ). GivesAnswer (book_of old) b ask (added s.limit (entries_of old) b ask) r
    (answer s.limit (entries_of old) ask)) c.by.ensures e.answer)
    (subst (λ (b : ℕ). entries_of new ≡ list_behind r (entries_of old)
    (added s.limit (entries_of old) b ask)) c.by.ensures e.entries)
    e.room)

pub returns-clause-noted : goal.returns-clause-noted
returns-clause-noted g c =
    ap (λ (p : PassState Entry). p.notes) c.tell.ensures.pass
    ∙ pass_noted g.N.Session (book_of c.self.inside.held) c.self.inside.seat c.args.pass.now
    c.args.ask.now c.ask-given.ensures.limit c.self.invariant.rows c.self.invariant.behind
    c.tell.ensures.seen c.entry-new.result (faults_told c.ask-given.result)

pub tell-requires-clause-room : goal.tell-requires-clause-room
tell-requires-clause-room g c =
    let s = g.N.Session in
    let old = c.self.inside.held in
    let new = c.ask-given.new.self in
    let seat = c.self.inside.seat in
    let r = c.ask-given.result in
    let e = c.ask-given.ensures in
    let offered = added s.limit (entries_of old) c.by.result c.args.ask.now in
    let found : c.entry-new.result ≡ added_behind r offered =
    c.entry-new.ensures
    ∙ (ap (λ (n : ℕ). entry_numbered (entries_of new) (n + 1)) c.len-next.ensures.len
    ∙ found_behind r (entries_of old) (entries_of new) offered e.entries) in
    subst (λ (o : Option Entry). IfSome o (λ (entry : Entry).
    seat.history + length seat.list < MAX_ROWS)) (sym found)
    (room_found s.before (entries_of old) (entries_of new) seat c.self.invariant.rows
    c.self.invariant.behind (legal_few (entries_of new) e.legal) r offered e.entries)
