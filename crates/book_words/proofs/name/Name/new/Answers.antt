use Rattle.std.proofs.Common.{rules, ◌≡◌, length, false}
use Rattle.book_words.specs.NamePlaces.{is_name_length}
use Rattle.book_words.proofs.NameLemmas.{name_of_bytes, no_name_of}
use Rattle.book_words.proofs.name.Name.new.Goals as goal

pub returns-then-is_empty-clause-value : goal.returns-then-is_empty-clause-value
returns-then-is_empty-clause-value c =
    let long : is_name_length (length c.args.bytes.now) ≡ false = search rules in
    no_name_of c.args.bytes.now long

pub returns-clause-value : goal.returns-clause-value
returns-clause-value c = name_of_bytes c.padded.result c.args.bytes.now c.padded.ensures
