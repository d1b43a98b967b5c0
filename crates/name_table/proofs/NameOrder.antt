-- The laws of the order of names.
use Rattle.std.proofs.Common.{◌≡◌, true, false, refl, sym, ◌∙◌, ap, Ordering, Less, Equal, Greater, is_eq, is_lt, is_gt, nat_cmp}
use Rattle.std.proofs.lemmas.Cmp.{upto, tied_itself, nat_list_cmp_total}
use Rattle.std.proofs.lemmas.Map.Text.{is_eq-slice_cmp}
use Rattle.std.specs.Cmp.Lexicographic.{slice_cmp}
use Rattle.std.specs.Ordering.{ordering_reverse}
use Rattle.book_words.specs.declared.name.Name.{Name}
use Rattle.book_words.specs.Names.{bytes_of}
use Rattle.book_words.proofs.NameLemmas.{same_name_is}
use Rattle.name_table.specs.Search.{is_before}

-- how the bytes of two names compare
abbrev compared : Name → Name → Ordering
compared one other = slice_cmp nat_cmp (bytes_of one) (bytes_of other)

turned : (o : Ordering) → is_gt (ordering_reverse o) ≡ is_lt o
turned Less = refl
turned Equal = refl
turned Greater = refl

-- the one that is after another has it before itself
after : (one other : Name) → is_gt (compared other one) ≡ is_before one other
after one other = ap is_gt (nat_list_cmp_total.antisymm (bytes_of other) (bytes_of one))
    ∙ turned (compared one other)

-- no name stands before itself
pub not_itself : (name : Name) → is_before name name ≡ false
not_itself name = ap is_lt (tied_itself nat_list_cmp_total (bytes_of name))

-- not before one that isn't before a third
pub not_before : (a b c : Name) → is_before a b ≡ false → is_before b c ≡ false
    → is_before a c ≡ false
not_before a b c h k = sym (after a c)
    ∙ upto nat_list_cmp_total (bytes_of c) (bytes_of b) (bytes_of a) (after b c ∙ k) (after a b ∙ h)

is_less : (o : Ordering) → is_lt o ≡ true → o ≡ Less
is_less Less h = refl
is_less Equal h = absurd (let clash : false ≡ true = h in cc)
is_less Greater h = absurd (let clash : false ≡ true = h in cc)

-- before one that is before a third
pub before : (a b c : Name) → is_before a b ≡ true → is_before b c ≡ true → is_before a c ≡ true
before a b c h k = ap is_lt (nat_list_cmp_total.trans (bytes_of a) (bytes_of b) (bytes_of c)
    (is_less (compared a b) h) (is_less (compared b c) k))

level : (o : Ordering) → is_lt o ≡ false → is_gt o ≡ false → is_eq o ≡ true
level Less h k = absurd (let clash : true ≡ false = h in cc)
level Equal h k = refl
level Greater h k = absurd (let clash : true ≡ false = k in cc)

-- two names of which neither stands before the other are one
pub neither_before : (a b : Name) → is_before a b ≡ false → is_before b a ≡ false → a ≡ b
neither_before a b h k = same_name_is a b (sym (is_eq-slice_cmp (bytes_of a) (bytes_of b))
    ∙ level (compared a b) h (after b a ∙ k))
