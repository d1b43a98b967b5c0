use Rattle.std.proofs.Common.{arith}
use Rattle.book_words.proofs.LegalLemmas.{legal_few}
use Rattle.book_store.specs.Stores.{entries_of}
use Rattle.shared_book.proofs.held.HeldStore.len.Goals as goal

pub returns-clause-most : goal.returns-clause-most
returns-clause-most g c =
    let few = legal_few (entries_of c.self.inside.store) c.self.invariant.sound.legal in
    omega (arith, c.len.ensures, few)
