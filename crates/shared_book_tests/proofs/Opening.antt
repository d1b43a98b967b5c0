-- A session of two passes, as it begins.
use Rattle.std.proofs.Common.{◌≡◌, ℕ, ◌+◌, List, [], ◌∷◌, ◌++◌, length, All, refl, sym, ap, ◌∙◌, subst, arith}
use Rattle.std.proofs.lemmas.List.Elements.{All-cons, All-nil}
use Rattle.book_words.specs.declared.act.Entry.{Entry}
use Rattle.shared_book.specs.declared.session.Session as session
use Rattle.shared_book.specs.Locked.{IsNewSeat}
use Rattle.shared_book.specs.Passes.{IsPassOf}
use Rattle.turn_pass.specs.History.{BookState, PassState, TurnState, newcomer, opening, with_pass}

-- the book seat, and the two passes that it made
module _ {N : Type 0} (session : session.Ghosts N) (turn : TurnState) (rows faults : ℕ)
    (first second last : BookState Entry) (opened : first ≡ opening turn rows faults)
    (one : second ≡ with_pass first 1) (two : last ≡ with_pass second 2)
    (table : turn.table ≡ session.table) (behind : turn.history ≡ length session.before) where
  pub new_seat : rows ≡ 3 → faults ≡ 3 → IsNewSeat session last
  new_seat row_parts fault_parts =
      let all : last ≡ with_pass (with_pass (opening turn rows faults) 1) 2 =
      two ∙ ap (λ (s : BookState Entry). with_pass s 2)
      (one ∙ ap (λ (s : BookState Entry). with_pass s 1) opened) in
      subst (IsNewSeat session) (sym all) (record {
        same_table = table;
        behind = behind;
        parts = (omega (arith, row_parts), omega (arith, fault_parts));
        appended = refl;
        booked = refl;
      })

  pub first_pass : (pass : PassState Entry) → pass ≡ newcomer first 1 → IsPassOf session pass
  first_pass pass is =
      subst (IsPassOf session)
      (sym (is ∙ ap (λ (s : BookState Entry). newcomer s 1) opened))
      (record { same_table = table; behind = behind; booked = refl })

  pub second_pass : (pass : PassState Entry) → pass ≡ newcomer second 2 → IsPassOf session pass
  second_pass pass is =
      subst (IsPassOf session)
      (sym (is ∙ ap (λ (s : BookState Entry). newcomer s 2)
      (one ∙ ap (λ (s : BookState Entry). with_pass s 1) opened)))
      (record { same_table = table; behind = behind; booked = refl })

-- two things that were put behind one another into an empty list
module _ {X : Type 0} (none some both : List X) (x y : X) (empty : none ≡ [])
    (first : some ≡ none ++ x ∷ []) (second : both ≡ some ++ y ∷ []) where
  both_are : both ≡ x ∷ y ∷ []
  both_are = second ∙ ap (λ (xs : List X). xs ++ y ∷ [])
      (first ∙ ap (λ (xs : List X). xs ++ x ∷ []) empty)

  pub all_both : (P : X → Type 0) → P x → P y → All P both
  all_both P px py = subst (λ (xs : List X). All P xs) (sym both_are)
      (All-cons P x (y ∷ []) px (All-cons P y [] py (All-nil P)))

  pub two_more : (parts : ℕ) → parts ≡ 3 → length both + 1 ≡ parts
  two_more parts is = omega (arith, is, ap length both_are)
