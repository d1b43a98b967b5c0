-- A pass is reached from itself by no ask, and by two lists of asks one after the other.
use Rattle.std.proofs.Common.{◌≡◌, ℕ, ◌+◌, ◌≤◌, min, List, [], ◌∷◌, ◌++◌, length, refl, sym, ◌∙◌, ap, subst, arith, length-append}
use Rattle.turn_pass.specs.History.{PassState}
use Rattle.book_words.specs.declared.act.Ask.{Ask}
use Rattle.book_words.specs.declared.act.Entry.{Entry}
use Rattle.book_words.specs.Callers.{FAULTS_END, IsReached, Known}
use Rattle.shared_book.specs.declared.session.Session as session
use Rattle.shared_book.specs.Passes.{HasAsked, IsReachedBy, known_of, noted, room_of}

asked_on : (room : ℕ) (first between last : Known) (some more : List Ask)
    → HasAsked room first some between → HasAsked room between more last
    → HasAsked room first (some ++ more) last
asked_on room first between last [] more one two =
    subst (λ (k : Known). HasAsked room k more last) one two
asked_on room first between last (ask ∷ some) more one two = (
  one.0,
  one.1,
  one.2,
  asked_on room one.0 between last some more one.3 two,
)

noted_on : (first between last one two : ℕ) → min between FAULTS_END ≡ noted first one
    → min last FAULTS_END ≡ noted between two → min last FAULTS_END ≡ noted first (one + two)
noted_on first between last one two some more = omega (arith, some, more)

none_noted : (notes : ℕ) → min notes FAULTS_END ≡ noted notes 0
none_noted notes = omega arith

pub is_reached : {N : Type 0} (session : session.Ghosts N)
    → IsReached {C = PassState Entry} (λ old new asks. IsReachedBy session old new asks)
is_reached session =
    record {
      by_none = λ pass. record { asked = refl; count = none_noted pass.notes };
      by_both = λ first between last some more one two. record {
        asked = asked_on (room_of session) (known_of session first) (known_of session between)
            (known_of session last) some more one.asked two.asked;
        count = noted_on first.notes between.notes last.notes (length some) (length more) one.count
            two.count
            ∙ ap (λ (n : ℕ). noted first.notes n) (sym (length-append some more));
      };
    }
