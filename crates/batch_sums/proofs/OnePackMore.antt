-- One pack more among the packs: what it does to the sums of batches and to the grosses of groups,
-- in both directions.
use Rattle.std.proofs.Common.{◌≡◌, ℕ, zero, suc, ◌+◌, ◌<◌, Bool, true, false, cond, ◌&&◌, eqb, List, [], ◌∷◌, ◌++◌, length, get_or, set, refl, ap, sym, ◌∙◌, arith}
use Rattle.std.specs.List.{sum_by, count_by, remove}
use Rattle.std.proofs.lemmas.List.Sums.{sum_by-set, sum_by-remove, sum_by_push}
use Rattle.pack_judge.specs.declared.types.Pile.{Pile}
use Rattle.pack_groups.specs.declared.batch.Batch.{Batch}
use Rattle.pack_groups.specs.declared.grosses.Gross.{Gross}
use Rattle.batch_sums.specs.declared.types.Held.{Held}
use Rattle.pack_groups.specs.Population.{is_counted}
use Rattle.pack_judge.specs.Piles.{same_pile}
use Rattle.pack_groups.specs.Rising.{mass_of, HasMoreIf}
use Rattle.pack_groups.specs.Groups.{Face, nth_face, threshold}
use Rattle.pack_groups.specs.Running.{IsEntered, one_if_below}
use Rattle.batch_sums.specs.Kept.{AddsUp, belongs, added_count, added_gross, added_tare, added_below, is_member}

-- the packs `more` are those of `less` and one besides: whatever is summed
pub record Joins (less : List Held) (pack : Held) (more : List Held) : Type 0 where
  pub sum : (f : Held → ℕ) → sum_by f more ≡ sum_by f less + f pack

pub joins_push : (held : List Held) (pack : Held) → Joins held pack (held ++ pack ∷ [])
joins_push held pack = record { sum = λ f. sum_by_push f held pack }

pub joins_remove : (held : List Held) (place : ℕ) (other : Held) → place < length held
    → Joins (remove held place) (get_or held place other) held
joins_remove held place other within =
    record { sum = λ f. sym (sum_by-remove f held place other within) }

pub joins_set : (held : List Held) (place : ℕ) (other new : Held) → place < length held
    → Joins (remove held place) new (set held place new)
joins_set held place other new within =
    record {
      sum = λ f. omega (
        arith,
        sum_by-set f held place new other within,
        sum_by-remove f held place other within,
      );
    }

module _ (some : List Face) (number : ℕ) (less more : List Held) (pack : Held)
    (joins : Joins less pack more) where
  -- the pack is of the batch
  module _ (own : belongs some number pack ≡ true) (batch after : Batch)
      (entered : IsEntered batch after pack.pile pack.gross (nth_face some pack.group).tare) where
    count : (pile : Pile) → added_count some number pile pack ≡ cond (same_pile pack.pile pile) 1 0
    count pile = rw own refl

    gross : (pile : Pile) → added_gross some number pile pack
        ≡ cond (same_pile pack.pile pile) pack.gross 0
    gross pile = rw own refl

    tare : added_tare some number pack ≡ cond (is_counted pack.pile) (nth_face some pack.group).tare 0
    tare = rw own refl

    low : (limit : _) → added_below some number limit pack
        ≡ one_if_below pack.pile pack.gross (threshold limit (nth_face some pack.group).tare)
    low limit = rw own refl

    pub adds_up_in : AddsUp some less number batch → AddsUp some more number after
    adds_up_in sums =
        record {
          count = λ pile. omega (
            arith,
            entered.count pile,
            sums.count pile,
            joins.sum (added_count some number pile),
            count pile,
          );
          gross = λ pile. omega (
            arith,
            entered.gross pile,
            sums.gross pile,
            joins.sum (added_gross some number pile),
            gross pile,
          );
          tares = omega (arith, entered.tares, sums.tares, joins.sum (added_tare some number), tare);
          nonstandard = rw entered.limits
              (omega (
                arith,
                entered.nonstandard,
                sums.nonstandard,
                joins.sum (added_below some number batch.limits.t1),
                low batch.limits.t1,
              ));
          inadequate = rw entered.limits
              (omega (
                arith,
                entered.inadequate,
                sums.inadequate,
                joins.sum (added_below some number batch.limits.t2),
                low batch.limits.t2,
              ));
        }

    pub adds_up_out : AddsUp some more number after → AddsUp some less number batch
    adds_up_out sums =
        let first = rw entered.limits at sums.nonstandard in
        let second = rw entered.limits at sums.inadequate in
        record {
          count = λ pile. omega (
            arith,
            entered.count pile,
            sums.count pile,
            joins.sum (added_count some number pile),
            count pile,
          );
          gross = λ pile. omega (
            arith,
            entered.gross pile,
            sums.gross pile,
            joins.sum (added_gross some number pile),
            gross pile,
          );
          tares = omega (arith, entered.tares, sums.tares, joins.sum (added_tare some number), tare);
          nonstandard = omega (
            arith,
            entered.nonstandard,
            first,
            joins.sum (added_below some number batch.limits.t1),
            low batch.limits.t1,
          );
          inadequate = omega (
            arith,
            entered.inadequate,
            second,
            joins.sum (added_below some number batch.limits.t2),
            low batch.limits.t2,
          );
        }

  -- the pack is of another batch
  module _ (other : belongs some number pack ≡ false) (batch : Batch) where
    pub adds_up_in_other : AddsUp some less number batch → AddsUp some more number batch
    adds_up_in_other sums =
        record {
          count = λ pile. sums.count pile
              ∙ sym (joins.sum (added_count some number pile) ∙ rw other (omega arith));
          gross = λ pile. sums.gross pile
              ∙ sym (joins.sum (added_gross some number pile) ∙ rw other (omega arith));
          tares = sums.tares ∙ sym (joins.sum (added_tare some number) ∙ rw other (omega arith));
          nonstandard = sums.nonstandard
              ∙ sym (joins.sum (added_below some number batch.limits.t1) ∙ rw other (omega arith));
          inadequate = sums.inadequate ∙ sym
              (joins.sum (added_below some number batch.limits.t2) ∙ rw other (omega arith));
        }

    pub adds_up_out_other : AddsUp some more number batch → AddsUp some less number batch
    adds_up_out_other sums =
        record {
          count = λ pile. sums.count pile ∙ joins.sum (added_count some number pile)
              ∙ rw other (omega arith);
          gross = λ pile. sums.gross pile ∙ joins.sum (added_gross some number pile)
              ∙ rw other (omega arith);
          tares = sums.tares ∙ joins.sum (added_tare some number) ∙ rw other (omega arith);
          nonstandard = sums.nonstandard ∙ joins.sum (added_below some number batch.limits.t1)
              ∙ rw other (omega arith);
          inadequate = sums.inadequate ∙ joins.sum (added_below some number batch.limits.t2)
              ∙ rw other (omega arith);
        }

-- the grosses of a group are those of its packs in the population
abbrev pub HasGrosses : ℕ → List Held → List Gross → Type 0
HasGrosses place held grosses = (test : ℕ → Bool)
    → count_by (λ gross. test (mass_of gross)) grosses ≡ count_by (is_member place test) held

module _ (place : ℕ) (less more : List Held) (pack : Held) (joins : Joins less pack more) where
  -- the pack is of the group
  module _ (own : eqb pack.group place ≡ true) (few many : List Gross)
      (entered : HasMoreIf (is_counted pack.pile) pack.gross few many) where
    member : (test : ℕ → Bool) → is_member place test pack ≡ (is_counted pack.pile && test pack.gross)
    member test = rw own refl

    one : (test : ℕ → Bool) → cond (is_member place test pack) (suc zero) zero
        ≡ cond (is_counted pack.pile && test pack.gross) (suc zero) zero
    one test = ap (λ b. cond b (suc zero) zero) (member test)

    pub has_grosses_in : HasGrosses place less few → HasGrosses place more many
    has_grosses_in have test = omega (
      arith,
      have test,
      entered test,
      joins.sum (λ other. cond (is_member place test other) 1 0),
      one test,
    )

    pub has_grosses_out : HasGrosses place more many → HasGrosses place less few
    has_grosses_out have test = omega (
      arith,
      have test,
      entered test,
      joins.sum (λ other. cond (is_member place test other) 1 0),
      one test,
    )

  -- the pack is of another group
  module _ (other : eqb pack.group place ≡ false) (grosses : List Gross) where
    pub has_grosses_in_other : HasGrosses place less grosses → HasGrosses place more grosses
    has_grosses_in_other have test = have test
        ∙ sym (joins.sum (λ some. cond (is_member place test some) 1 0) ∙ rw other (omega arith))

    pub has_grosses_out_other : HasGrosses place more grosses → HasGrosses place less grosses
    has_grosses_out_other have test = have test
        ∙ joins.sum (λ some. cond (is_member place test some) 1 0) ∙ rw other (omega arith)
