-- The piles of packs.
use Rattle.std.proofs.Common.{◌≡◌, Bool, true, false, Option, Some, None, refl}
use Rattle.pack_judge.specs.declared.types.Pile.{Pile}
use Rattle.pack_judge.specs.declared.types.Pile.TheVariants.{Passed, Rejected, Sampled, Voided}
use Rattle.pack_judge.specs.declared.types.Signal.{Signal}
use Rattle.pack_judge.specs.declared.types.Signal.TheVariants.{Pass, Reject}
use Rattle.pack_judge.specs.Piles.{same_pile}
use Rattle.book_words.specs.declared.act.Prior.{Prior}
use Rattle.book_words.specs.declared.act.Prior.TheVariants.{Nothing, Opened, Stayed, Unknown}
use Rattle.book_words.specs.Population.{settled_pile}

-- without a look at samples nothing lies among the sampled
pub unsampled : (voided : Bool) (signal : Option Signal) (next : Option Prior)
    → same_pile (settled_pile voided signal next) Sampled ≡ false
unsampled true signal next = refl
unsampled false None next = refl
unsampled false (Some Pass) None = refl
unsampled false (Some Pass) (Some Nothing) = refl
unsampled false (Some Pass) (Some Opened) = refl
unsampled false (Some Pass) (Some Stayed) = refl
unsampled false (Some Pass) (Some Unknown) = refl
unsampled false (Some (Reject cause)) next = refl

-- a pile is the same as itself
pub same_itself : (pile : Pile) → same_pile pile pile ≡ true
same_itself Passed = refl
same_itself Rejected = refl
same_itself Sampled = refl
same_itself Voided = refl

-- piles that are the same are one
pub same_pile_is : (a b : Pile) → same_pile a b ≡ true → a ≡ b
same_pile_is Passed Passed h = refl
same_pile_is Rejected Rejected h = refl
same_pile_is Sampled Sampled h = refl
same_pile_is Voided Voided h = refl
same_pile_is Passed Rejected h = absurd (cc)
same_pile_is Passed Sampled h = absurd (cc)
same_pile_is Passed Voided h = absurd (cc)
same_pile_is Rejected Passed h = absurd (cc)
same_pile_is Rejected Sampled h = absurd (cc)
same_pile_is Rejected Voided h = absurd (cc)
same_pile_is Sampled Passed h = absurd (cc)
same_pile_is Sampled Rejected h = absurd (cc)
same_pile_is Sampled Voided h = absurd (cc)
same_pile_is Voided Passed h = absurd (cc)
same_pile_is Voided Rejected h = absurd (cc)
same_pile_is Voided Sampled h = absurd (cc)
