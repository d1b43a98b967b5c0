-- The items of a list that two trees and a root hold, and how a turn of the tree keeps them.
use Rattle.std.proofs.Common.{◌≡◌, ◌+◌, List, ◌∷◌, ◌++◌, length, arith, length-append, ◌∙◌, sym, ap, append_assoc}

-- how many items stand on the two sides of a root
pub sides_count : {T : Type 0} (whole l : List T) (x : T) (r : List T) → whole ≡ l ++ x ∷ r
    → length whole ≡ length l + 1 + length r
sides_count whole l x r is = rw is (omega (arith, length-append l (x ∷ r)))

-- a turn to the right at one root
pub turned_right : {T : Type 0} (whole l a b r inner : List T) (x y : T)
    → whole ≡ a ++ y ∷ inner → inner ≡ b ++ x ∷ r → l ≡ a ++ y ∷ b → whole ≡ l ++ x ∷ r
turned_right whole l a b r inner x y is under top =
    rw (is, under, top) (sym (append_assoc a (y ∷ b) (x ∷ r)))

-- a turn to the left at one root
pub turned_left : {T : Type 0} (whole l b c r inner : List T) (x y : T)
    → whole ≡ inner ++ y ∷ c → inner ≡ l ++ x ∷ b → r ≡ b ++ y ∷ c → whole ≡ l ++ x ∷ r
turned_left whole l b c r inner x y is under top =
    rw (is, under, top) (append_assoc l (x ∷ b) (y ∷ c))

-- a turn at two roots, where the left side was the higher one
pub turned_right_twice : {T : Type 0} (whole l a m b c r p q : List T) (x y z : T)
    → whole ≡ p ++ z ∷ q → p ≡ a ++ y ∷ b → q ≡ c ++ x ∷ r → m ≡ b ++ z ∷ c → l ≡ a ++ y ∷ m
    → whole ≡ l ++ x ∷ r
turned_right_twice whole l a m b c r p q x y z is on_left on_right inner top =
    rw (is, on_left, on_right, top, inner) (
    append_assoc a (y ∷ b) (z ∷ c ++ x ∷ r)
    ∙ ap (λ u. a ++ y ∷ u) (sym (append_assoc b (z ∷ c) (x ∷ r)))
    ∙ sym (append_assoc a (y ∷ b ++ z ∷ c) (x ∷ r))
    )

-- a turn at two roots, where the right side was the higher one
pub turned_left_twice : {T : Type 0} (whole l b m c d r p q : List T) (x y z : T)
    → whole ≡ p ++ z ∷ q → p ≡ l ++ x ∷ b → q ≡ c ++ y ∷ d → m ≡ b ++ z ∷ c → r ≡ m ++ y ∷ d
    → whole ≡ l ++ x ∷ r
turned_left_twice whole l b m c d r p q x y z is on_left on_right inner top =
    rw (is, on_left, on_right, top, inner) (
    append_assoc l (x ∷ b) (z ∷ c ++ y ∷ d)
    ∙ ap (λ u. l ++ x ∷ u) (sym (append_assoc b (z ∷ c) (y ∷ d)))
    )
