use Rattle.std.proofs.Common.{[], ◌∷◌, arith, refl, subst}
use Rattle.book_words.specs.declared.act.Entry.{Entry}
use Rattle.turn_pass.specs.History.{PassState}
use Rattle.shared_book.specs.Passes.{known_of, room_of, HasUsedRoom, IsReachedBy}
use Rattle.shared_book.proofs.MetPasses.{asked_met}
use Rattle.shared_book.proofs.pass.PassCaller.ask.Goals as goal

pub returns-clause-later : goal.returns-clause-later
returns-clause-later g c =
    let s = g.N.Session in
    let old : PassState Entry = c.self.inside.seat in
    let new : PassState Entry = c.ask.new.pass in
    let e = c.ask.ensures in
    subst (λ (p : PassState Entry). IsReachedBy s p new (c.args.ask.now ∷ [])) c.self.view_is
    (record {
      asked = (
        known_of s new,
        asked_met (known_of s old) (known_of s new) c.args.ask.now c.ask.result e.asked,
        e.used,
        refl,
      );
      count = omega (arith, e.noted);
    })
