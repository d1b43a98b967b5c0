-- Two names are the same either way round.
use Rattle.std.proofs.Common.{◌≡◌, true, subst}
use Rattle.book_words.specs.declared.name.Name.{Name}
use Rattle.book_words.specs.Names.{same_name}
use Rattle.book_words.proofs.PlainLemmas.{bool_same}
use Rattle.book_words.proofs.NameLemmas.{same_name_is, same_name_itself}

pub same_name_swap : (a b : Name) → same_name a b ≡ same_name b a
same_name_swap a b = bool_same (same_name a b) (same_name b a) (one_way a b) (one_way b a)
  where
    one_way : (a b : Name) → same_name a b ≡ true → same_name b a ≡ true
    one_way a b h = subst (λ c. same_name c a ≡ true) (same_name_is a b h) (same_name_itself a)
