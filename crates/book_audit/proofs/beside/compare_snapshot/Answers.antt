use Rattle.book_words.proofs.LegalLemmas.{legal_few}
use Rattle.book_audit.proofs.beside.compare_snapshot.Goals as goal

pub compare-requires-clause-few : goal.compare-requires-clause-few
compare-requires-clause-few g c = legal_few c.args.book.now.entries c.requires.legal
