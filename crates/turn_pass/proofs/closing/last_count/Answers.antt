use Rattle.std.proofs.Common.{◌≡◌, ◌+◌, List, [], ◌∷◌, ℕ, length, ap, sym, ◌∙◌, arith}
use mathlib.Core.Option.{some, some-injective}
use lib.ListN.{get_elem?}
use Rattle.turn_pass.proofs.Moves.{at_close}
use Rattle.turn_pass.proofs.closing.last_count.Goals as goal

pub returns-clause-ended : goal.returns-clause-ended
returns-clause-ended g c =
    (at_close c.args.board.shared.key c.args.place.id c.args.place.me.0 _ _
    c.close_with-closed.ensures.values.2 c.requires.book).ended

pub returns-clause-apart : goal.returns-clause-apart
returns-clause-apart g c =
    (at_close c.args.board.shared.key c.args.place.id c.args.place.me.0 _ _
    c.close_with-closed.ensures.values.2 c.requires.book).apart

word_is : (words : List ℕ) (n m : ℕ) → words ≡ n ∷ [] → get_elem? words 0 ≡ some m → m ≡ n
word_is words n m is at =
    sym (some-injective n m (ap (λ (ws : List ℕ). get_elem? ws 0) (sym is) ∙ at))

pub overflow_cast-result : goal.overflow_cast-result
overflow_cast-result g c =
    let v = c.args.place.me.0 in
    let word : c.word-count.result ≡ v.history + length v.known.seen =
    word_is _ _ c.word-count.result (at_close c.args.board.shared.key c.args.place.id v _ _
    c.close_with-closed.ensures.values.2 c.requires.book).word c.word-count.ensures in
    omega arith

pub returns-clause-count : goal.returns-clause-count
returns-clause-count g c =
    let v = c.args.place.me.0 in
    word_is _ _ c.word-count.result (at_close c.args.board.shared.key c.args.place.id v _ _
    c.close_with-closed.ensures.values.2 c.requires.book).word c.word-count.ensures
