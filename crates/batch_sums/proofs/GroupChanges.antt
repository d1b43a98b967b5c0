-- A pack comes into its group and its batch, or goes out of them.
use Rattle.std.proofs.Common.{◌≡◌, ℕ, zero, suc, ◌<◌, ◌≤◌, Bool, true, false, cond, ◌&&◌, eqb, List, [], ◌∷◌, length, set, Some, refl, ap, sym, subst, ◌∙◌, arith}
use Rattle.std.specs.Prelude.{ℤ, pos, ◌≤ℤ◌}
use Rattle.std.specs.List.{sum_by, count_by, All, slice_get}
use Rattle.std.proofs.lemmas.Bool.{eq-eqb, ne_eqb}
use Rattle.std.proofs.lemmas.List.Sums.{sum_by-cons, count_by-le-length}
use Rattle.hall_limits.specs.declared.TheConstants.{MAX_GROSS}
use Rattle.pack_judge.specs.declared.types.Pile.{Pile}
use Rattle.pack_judge.specs.declared.types.Pile.TheVariants.{Passed, Rejected, Sampled, Voided}
use Rattle.pack_groups.specs.declared.batch.Batch.{Batch}
use Rattle.pack_groups.specs.declared.grosses.Gross.{Gross}
use Rattle.pack_groups.specs.declared.group.Group.{Group}
use Rattle.batch_sums.specs.declared.types.Held.{Held}
use Rattle.pack_groups.specs.Population.{is_counted}
use Rattle.pack_judge.specs.Piles.{same_pile}
use Rattle.pack_groups.specs.Rising.{mass_of, HasMoreIf}
use Rattle.pack_groups.specs.Groups.{Face, face_of, faces, nth_face, threshold, IsJudged}
use Rattle.pack_groups.specs.Running.{IsEntered, HasRoom, Covers, pile_sum, one_if_below}
use Rattle.batch_sums.specs.Kept.{AddsUp, Sound, belongs, is_member, added_count, added_gross, added_tare, added_below}
use Rattle.batch_sums.proofs.OnePackMore.{Joins, HasGrosses, adds_up_in, adds_up_out, adds_up_in_other, adds_up_out_other, has_grosses_in, has_grosses_out, has_grosses_in_other, has_grosses_out_other}
use Rattle.batch_sums.proofs.SoundLemmas.{sound_after, face-found}

pub same_self : (pile : Pile) → same_pile pile pile ≡ true
same_self Passed = refl
same_self Rejected = refl
same_self Sampled = refl
same_self Voided = refl

one_le : (b : Bool) → cond b 1 0 ≤ 1
one_le true = omega arith
one_le false = omega arith

-- no more packs add to a count than there are
pub count-le-length : (f : Held → ℕ) (held : List Held) → ((h : Held) → f h ≤ 1)
    → sum_by f held ≤ length held
count-le-length f [] most = omega arith
count-le-length f (h ∷ held) most =
    omega (arith, sum_by-cons f h held, most h, count-le-length f held most)

pub count_by-all : {X : Type 0} (xs : List X) → count_by (λ x. true) xs ≡ length xs
count_by-all [] = refl
count_by-all (x ∷ xs) = omega (arith, sum_by-cons (λ y. cond true 1 0) x xs, count_by-all xs)

-- a group has no more grosses than there are packs
pub few_grosses : (place : ℕ) (held : List Held) (grosses : List Gross)
    → HasGrosses place held grosses → length grosses ≤ length held
few_grosses place held grosses have =
    omega (
      arith,
      have (λ mass. true),
      count_by-all grosses,
      count_by-le-length (is_member place (λ mass. true)) held,
    )

module _ (some : List Face) (number : ℕ) (held : List Held) (batch : Batch)
    (sums : AddsUp some held number batch) where
  count_le : (pile : Pile) → sum_by (added_count some number pile) held ≤ length held
  count_le pile = count-le-length (added_count some number pile) held
      (λ h. one_le (belongs some number h && same_pile h.pile pile))

  below_le : (limit : ℤ) → sum_by (added_below some number limit) held ≤ length held
  below_le limit = count-le-length (added_below some number limit) held
      (λ h. by (belongs some number h) (is_counted h.pile) h)
    where
      by : (b c : Bool) (h : Held) → cond b
          (one_if_below h.pile h.gross (threshold limit (nth_face some h.group).tare)) 0 ≤ 1
      by true c h = one_le _
      by false c h = omega arith

  pub room_for : (pile : Pile) → length held < 4294967295
      → (pile_sum batch pile).gross < 9223372036854775808 → batch.tares < 9223372036854775808
      → HasRoom batch pile
  room_for pile few gross tares =
      record {
        count = omega (arith, sums.count pile, count_le pile, few);
        gross = gross;
        tares = tares;
        nonstandard = omega (arith, sums.nonstandard, below_le batch.limits.t1, few);
        inadequate = omega (arith, sums.inadequate, below_le batch.limits.t2, few);
      }

  module _ (less : List Held) (pack : Held) (joins : Joins less pack held)
      (own : belongs some number pack ≡ true) where
    pub covered : Covers batch pack.pile pack.gross (nth_face some pack.group).tare
    covered =
        let count : added_count some number pack.pile pack ≡ 1 = rw (own, same_self pack.pile) refl in
        let gross : added_gross some number pack.pile pack ≡ pack.gross =
        rw (own, same_self pack.pile) refl in
        let tare : added_tare some number pack
        ≡ cond (is_counted pack.pile) (nth_face some pack.group).tare 0 = rw own refl in
        let low : (limit : ℤ) → added_below some number limit pack
        ≡ one_if_below pack.pile pack.gross (threshold limit (nth_face some pack.group).tare) =
        λ limit. rw own refl in
        record {
          count = omega (
            arith,
            sums.count pack.pile,
            joins.sum (added_count some number pack.pile),
            count,
          );
          gross = omega (
            arith,
            sums.gross pack.pile,
            joins.sum (added_gross some number pack.pile),
            gross,
          );
          tares = omega (arith, sums.tares, joins.sum (added_tare some number), tare);
          nonstandard = omega (
            arith,
            sums.nonstandard,
            joins.sum (added_below some number batch.limits.t1),
            low batch.limits.t1,
          );
          inadequate = omega (
            arith,
            sums.inadequate,
            joins.sum (added_below some number batch.limits.t2),
            low batch.limits.t2,
          );
        }

-- a pack of the population has its gross among those of its group
pub contained : (place : ℕ) (held less : List Held) (pack : Held) (grosses : List Gross)
    → Joins less pack held → pack.group ≡ place → HasGrosses place held grosses
    → is_counted pack.pile ≡ true → 0 < count_by (λ other. eqb (mass_of other) pack.gross) grosses
contained place held less pack grosses joins group have counted =
    let member : is_member place (λ mass. eqb mass pack.gross) pack ≡ true =
    rw (eq-eqb pack.group place group, counted, eq-eqb pack.gross pack.gross refl) refl in
    let one : cond (is_member place (λ mass. eqb mass pack.gross) pack) (suc zero) zero ≡ suc zero =
    ap (λ b. cond b (suc zero) zero) member in
    omega (
      arith,
      have (λ mass. eqb mass pack.gross),
      joins.sum (λ other. cond (is_member place (λ mass. eqb mass pack.gross) other) 1 0),
      one,
    )

module _ (batches : List Batch) (groups : List Group) (less more : List Held) (pack : Held)
    (joins : Joins less pack more)
    (group after : Group) (batch new : Batch) (at_group : slice_get groups pack.group ≡ Some group)
    (at_batch : slice_get batches group.key.batch ≡ Some batch)
    (face : face_of after ≡ face_of group) (judged : IsJudged new.limits after) where
  home : nth_face (faces groups) pack.group ≡ face_of group
  home = face-found groups pack.group group at_group

  pub own : belongs (faces groups) group.key.batch pack ≡ true
  own = eq-eqb _ _ (ap (λ (f : Face). f.key.batch) home)

  other : (number : ℕ) → (number ≡ group.key.batch → ⊥) → belongs (faces groups) number pack ≡ false
  other number differs = ne_eqb _ _ (λ same. differs (sym same ∙ ap (λ (f : Face). f.key.batch) home))

  pub sound_in : IsEntered batch new pack.pile pack.gross group.tare
      → HasMoreIf (is_counted pack.pile) pack.gross group.grosses after.grosses
      → All (λ h. h.group < length groups) more → All (λ h. pos h.gross ≤ℤ MAX_GROSS) more
      → length more < 4294967296
      → Sound batches groups less → Sound (set batches group.key.batch new)
      (set groups pack.group after) more
  sound_in entered grosses grouped light few sound =
      let there = subst (λ t. IsEntered batch new pack.pile pack.gross t)
      (sym (ap (λ (f : Face). f.tare) home)) entered in
      sound_after batches groups less sound pack.group group after batch new more at_group at_batch
      face entered.product entered.limits judged grouped light few
      (adds_up_in (faces groups) group.key.batch less more pack joins own batch new there
      (sound.batch group.key.batch batch at_batch))
      (λ number some differs. adds_up_in_other (faces groups) number less more pack joins
      (other number differs) some)
      (has_grosses_in pack.group less more pack joins
      (eq-eqb pack.group pack.group refl) group.grosses after.grosses grosses
      (sound.group pack.group group at_group).grosses)
      (λ place some differs. has_grosses_in_other place less more pack joins
      (ne_eqb pack.group place (λ same. differs (sym same))) some)

  pub sound_out : IsEntered new batch pack.pile pack.gross group.tare
      → HasMoreIf (is_counted pack.pile) pack.gross after.grosses group.grosses
      → All (λ h. h.group < length groups) less → All (λ h. pos h.gross ≤ℤ MAX_GROSS) less
      → length less < 4294967296
      → Sound batches groups more → Sound (set batches group.key.batch new)
      (set groups pack.group after) less
  sound_out entered grosses grouped light few sound =
      let there = subst (λ t. IsEntered new batch pack.pile pack.gross t)
      (sym (ap (λ (f : Face). f.tare) home)) entered in
      sound_after batches groups more sound pack.group group after batch new less at_group at_batch
      face (sym entered.product) (sym entered.limits) judged grouped light few
      (adds_up_out (faces groups) group.key.batch less more pack joins own new batch there
      (sound.batch group.key.batch batch at_batch))
      (λ number some differs. adds_up_out_other (faces groups) number less more pack joins
      (other number differs) some)
      (has_grosses_out pack.group less more pack joins
      (eq-eqb pack.group pack.group refl) after.grosses group.grosses grosses
      (sound.group pack.group group at_group).grosses)
      (λ place some differs. has_grosses_out_other place less more pack joins
      (ne_eqb pack.group place (λ same. differs (sym same))) some)
