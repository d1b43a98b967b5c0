use Rattle.std.proofs.Common.{rules, ◌≡◌, length, arith}
use Rattle.book_words.proofs.LegalLemmas.{legal_few}
use Rattle.book_state.proofs.Parts.{parts_of}
use Rattle.book_state.proofs.state.State.len.Goals as goal

pub overflow_cast-result : goal.overflow_cast-result
overflow_cast-result c =
    let stand = parts_of c.self.inside c.args.self.now c.self.invariant c.self.view_is in
    let count : c.len.result ≡ length c.args.self.now.entries = search rules in
    let few = legal_few c.args.self.now.entries stand.legal in
    omega (arith, count, few)

pub returns-clause-few : goal.returns-clause-few
returns-clause-few c =
    let stand = parts_of c.self.inside c.args.self.now c.self.invariant c.self.view_is in
    let count : c.len.result ≡ length c.args.self.now.entries = search rules in
    let few = legal_few c.args.self.now.entries stand.legal in
    omega (arith, count, few)
