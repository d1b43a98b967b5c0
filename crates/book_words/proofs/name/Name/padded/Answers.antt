use Rattle.std.proofs.Common.{rules, ◌≡◌, length, refl}
use Rattle.book_words.proofs.NameLemmas.{padded_over}
use Rattle.book_words.proofs.name.Name.padded.Goals as goal

pub invariant_of-result : goal.invariant_of-result
invariant_of-result c =
    let count : length c.copy_from_slice.new.self ≡ length c.args.bytes.now = search rules in
    record {
      padded = padded_over (length c.args.bytes.now) c.copy_from_slice.new.self _ count
          c.requires refl refl;
    }
