-- Each step keeps the rule.
use Rattle.std.proofs.Common.{◌≡◌, ◌≢◌, ℕ, zero, suc, ◌+◌, ◌%◌, ◌^◌, ◌<◌, ◌==◌, cond, List, []}
use Rattle.std.proofs.Common.{◌∷◌, ◌++◌, length, set, slice_index, All, AllPairs, Contains}
use Rattle.std.proofs.Common.{refl, ap, sym, subst, ◌∙◌, arith, ◌⊎◌, ⊎_elim, inl, inr}
use Rattle.std.proofs.Common.{length-append}
use Rattle.std.proofs.lemmas.List.Elements.{All-weaker, All-nil, All-cons, All-contains}
use Rattle.std.proofs.lemmas.List.Elements.{Contains-append_left, Contains-push}
use Rattle.std.proofs.lemmas.Bool.Decides.{nat_tests}
use mathlib.Core.Option.{none, some, some-injective, some-ne-none}
use mathlib.Core.List.{IsPrefix}
use lib.ListN.{get_elem?}
use Rattle.atomic_table.specs.Table.{State, Me, step, keeps, Allows, Splits, Joins, Final, Seen}
use Rattle.atomic_table.proofs.Lists.{at_set, set_else}
use Rattle.turn_pass.specs.declared.entries.Appended.{Appended}
use Rattle.turn_pass.specs.declared.entries.Own.{Own}
use Rattle.turn_pass.specs.declared.entries.Known.{Known}
use Rattle.turn_pass.specs.declared.rule.View.{View}
use Rattle.turn_pass.specs.declared.rule.Role.{Role}
use Rattle.turn_pass.specs.declared.rule.Role.TheVariants.{Book, Pass, Note, Spent}
use Rattle.turn_pass.specs.History.{Agrees, StandsAt, HasNoRow, appended, own}
use Rattle.turn_pass.specs.History.{longer}
use Rattle.turn_pass.specs.Rule.{Truth, IsLive, IsEnded, IsBook, IsPass, IsNote, IsRole, IsKept}
use Rattle.turn_pass.specs.Rule.{Learns, Looks, Appends, Sees, first_view, with_by, pass_view}
use Rattle.turn_pass.specs.Rule.{note_view, spent_view, hearing, meeting, ending, with_lines}
use Rattle.turn_pass.specs.Rule.{with_mine}
use Rattle.turn_pass.proofs.Prefixes.{prefix_self, prefix_trans}
use Rattle.turn_pass.proofs.AgreementLemmas.{agrees_later, all_agree_later, stand_later}
use Rattle.turn_pass.proofs.AgreementLemmas.{longer_first, longer_second, longer_begins}
use Rattle.turn_pass.proofs.OwnEntries.{all_with_own, ascend_more}
use Rattle.turn_pass.proofs.Pairs.{pairs_cons, pairs_none}

module _ {A : Type 0} where
  -- what holds of the element that is set, and of each other one, holds of each
  pub each_set : (P : ℕ → A → Type 0) (xs : List A) (i : ℕ) (x : A) → P i x
      → ((j : ℕ) (y : A) → j ≢ i → get_elem? xs j ≡ some y → P j y) → (j : ℕ) (y : A)
      → get_elem? (set xs i x) j ≡ some y → P j y
  each_set P xs i x here others j y at =
      ⊎_elim (λ (t : (j ≡ i) × (x ≡ y)). subst (λ (p : ℕ × A). P p.0 p.1) (λ c. (sym t.0 c, t.1 c))
      here)
      (λ (t : (j ≢ i) × (get_elem? xs j ≡ some y)). others j y t.0 t.1) (at_set xs i j x y at)

  at_end : (xs : List A) (x y : A) (j : ℕ) → get_elem? (xs ++ x ∷ []) j ≡ some y
      → (get_elem? xs j ≡ some y) ⊎ ((length xs ≡ j) × (x ≡ y))
  at_end [] x y zero at = inr (refl, some-injective x y at)
  at_end [] x y (suc j) at = absurd (some-ne-none y (sym at))
  at_end (z ∷ xs) x y zero at = inl at
  at_end (z ∷ xs) x y (suc j) at =
      ⊎_elim inl (λ (t : (length xs ≡ j) × (x ≡ y)). inr (ap suc t.0, t.1)) (at_end xs x y j at)

  -- the same where an element is added at the end
  pub each_end : (P : ℕ → A → Type 0) (xs : List A) (x : A) → P (length xs) x
      → ((j : ℕ) (y : A) → get_elem? xs j ≡ some y → P j y) → (j : ℕ) (y : A)
      → get_elem? (xs ++ x ∷ []) j ≡ some y → P j y
  each_end P xs x here others j y at =
      ⊎_elim (others j y) (λ (t : (length xs ≡ j) × (x ≡ y)). subst (λ (p : ℕ × A). P p.0 p.1)
      (λ c. (t.0 c, t.1 c)) here) (at_end xs x y j at)

  pub at_within : (xs : List A) (i : ℕ) (x : A) → get_elem? xs i ≡ some x → i < length xs
  at_within [] i x at = absurd (some-ne-none x (sym at))
  at_within (y ∷ xs) zero x at = omega arith
  at_within (y ∷ xs) (suc i) x at = let lt = at_within xs i x at in omega arith

  pub length_set : (xs : List A) (i : ℕ) (x : A) → length (set xs i x) ≡ length xs
  length_set [] i x = refl
  length_set (y ∷ xs) zero x = refl
  length_set (y ∷ xs) (suc i) x = ap suc (length_set xs i x)

  not_first : (xs : List A) (i : ℕ) (x y : A) → get_elem? xs i ≡ some x → length (set xs i y) ≢ 0
  not_first xs i x y at e = let lt = at_within xs i x at in let len = length_set xs i y in
      absurd (omega arith)

other_number : (bys : List ℕ) (by b : ℕ) → All (λ b. b ≢ by) bys → Contains bys b → b ≢ by
other_number bys by b new in' = All-contains (λ b. b ≢ by) bys b new in'

-- the one word
word_set : (words : List ℕ) (n m : ℕ) → words ≡ n ∷ [] → set words 0 m ≡ m ∷ []
word_set words n m is = rw is refl

word_of : (words : List ℕ) (n : ℕ) → words ≡ n ∷ [] → slice_index words 0 ≡ n
word_of words n is = rw is refl

counted : (words : List ℕ) (n m : ℕ) → words ≡ n ∷ [] → n + 1 < 2 ^ 64 → m ≡ n + 1
    → set words 0 ((slice_index words 0 + 1) % 2 ^ 64) ≡ m ∷ []
counted words n m is fits one = rw (is, one) (ap (λ (k : ℕ). k ∷ []) (omega arith))

abbrev St : Type 0 → Type 0
St E = State (Unit {0}) (View E)

module _ {E : Type 0} (h : ℕ) where
  live_of : (role : Role) (t : Truth E) (seat : ℕ) (v : View E) → role ≢ Spent
      → IsRole role h t seat v → IsLive h t v
  live_of Book t seat v ne is = is.live
  live_of Pass t seat v ne is = is.live
  live_of Note t seat v ne is = is.live
  live_of Spent t seat v ne is = absurd (ne refl)

  learns : (t : Truth E) (v : View E) → IsLive h t v → Learns v
  learns t v live = record {
    known = subst (λ (n : ℕ). Agrees n v.known.seen v.known) (sym live.began) live.known;
    heard = subst (λ (n : ℕ). All (Agrees n v.known.seen) v.heard) (sym live.began) live.heard;
  }

  -- a load changes no word
  loaded : (s : St E) (r : IsKept h s)
      → set s.words 0 (slice_index s.words 0) ≡ (h + length r.truth.list) ∷ []
  loaded s r = rw (word_of s.words _ r.word) (word_set s.words _ _ r.word)

  pub looks : (slots id : ℕ) (me : Me (Unit {0}) (View E)) → me.0.role ≢ Spent
      → Allows (IsKept h) slots id me 0 (λ n. n) (Looks (step slots 0 0 0 none) me)
  looks slots id me ne s r deep at fits = (
    me.0,
    keeps,
    tt,
    record {
      truth = r.truth;
      word = loaded s r;
      each = each_set (λ seat v. IsRole v.role h r.truth seat v) s.views id me.0 (r.each id me.0 at)
          (λ j u ne at. r.each j u at);
    },
    (refl, learns r.truth me.0 (live_of me.0.role r.truth id me.0 ne (r.each id me.0 at))),
  )

  -- as the book seat has it, the list is what it has seen
  the_book : (s : St E) (r : IsKept h s) (id : ℕ) (v : View E) → get_elem? s.views id ≡ some v
      → v.role ≡ Book → IsBook h r.truth id v
  the_book s r id v at book = subst (λ (role : Role). IsRole role h r.truth id v) book
      (r.each id v at)

  the_pass : (s : St E) (r : IsKept h s) (id : ℕ) (v : View E) → get_elem? s.views id ≡ some v
      → v.role ≡ Pass → IsPass h r.truth id v
  the_pass s r id v at pass = subst (λ (role : Role). IsRole role h r.truth id v) pass
      (r.each id v at)

  the_note : (s : St E) (r : IsKept h s) (id : ℕ) (v : View E) → get_elem? s.views id ≡ some v
      → v.role ≡ Note → IsNote h r.truth id v
  the_note s r id v at note = subst (λ (role : Role). IsRole role h r.truth id v) note
      (r.each id v at)

  -- a pass sees an entry of its own
  seen_own : (v : View E) (row : ℕ) (entry : E) → Agrees h v.known.seen v.known
      → StandsAt h v.known.seen row (appended v.known.by entry) → HasNoRow v.known.mine row
      → Agrees h v.known.seen (with_mine v (own row entry ∷ [])).known
  seen_own v row entry is at new = record {
    prefix = is.prefix;
    stand = all_with_own (λ (o : Own E). StandsAt h v.known.seen o.row
        (appended v.known.by o.entry)) v.known.mine (own row entry) is.stand at;
    ascend = ascend_more v.known.mine (own row entry) is.ascend new;
  }

  own_pass : (t : Truth E) (seat : ℕ) (v : View E) (row : ℕ) (entry : E) → IsPass h t seat v
      → StandsAt h v.known.seen row (appended v.known.by entry) → HasNoRow v.known.mine row
      → IsPass h t seat (with_mine v (own row entry ∷ []))
  own_pass t seat v row entry is at new = record {
    live = record {
      began = is.live.began;
      seen = is.live.seen;
      known =
          seen_own v row entry is.live.known at new;
      heard = is.live.heard;
    };
    later = is.later;
    recorded = is.recorded;
    only = is.only;
  }

  pub sees : (slots id : ℕ) (me : Me (Unit {0}) (View E)) (row : ℕ) (entry : E) → me.0.role ≡ Pass
      → StandsAt me.0.history me.0.known.seen row (appended me.0.known.by entry)
      → HasNoRow me.0.known.mine row
      → Allows (IsKept h) slots id me 0 (λ n. n)
      (Sees (own row entry ∷ []) (step slots 0 0 0 none) me)
  sees slots id me row entry pass at new s r deep here fits =
      let is = the_pass s r id me.0 here pass in
      let at' = subst (λ (n : ℕ). StandsAt n me.0.known.seen row (appended me.0.known.by entry))
      is.live.began at in
      let w : View E = with_mine me.0 (own row entry ∷ []) in
      let is' : IsPass h r.truth id w = own_pass r.truth id me.0 row entry is at' new in (
        w,
        keeps,
        tt,
        record {
          truth = r.truth;
          word = loaded s r;
          each = each_set (λ seat v. IsRole v.role h r.truth seat v) s.views id w
              (subst (λ (role : Role). IsRole role h r.truth id w) (sym pass) is')
              (λ j u ne at. r.each j u at);
        },
        (refl, learns r.truth w is'.live),
      )

  -- the list grows
  abbrev longer_truth : Truth E → List (Appended E) → Truth E
  longer_truth t list = record t { list = list }

  live_longer : (t : Truth E) (list : List (Appended E)) (v : View E) → IsPrefix t.list list
      → IsLive h t v → IsLive h (longer_truth t list) v
  live_longer t list v p is =
      record {
        began = is.began;
        seen = prefix_trans v.known.seen t.list list is.seen p;
        known =
            is.known;
        heard = is.heard;
      }

  role_longer : (role : Role) (t : Truth E) (list : List (Appended E)) (seat : ℕ) (v : View E)
      → seat ≢ 0 → IsPrefix t.list list → IsRole role h t seat v
      → IsRole role h (longer_truth t list) seat v
  role_longer Book t list seat v ne p is = absurd (ne is.first)
  role_longer Pass t list seat v ne p is = record {
    live = live_longer t list v p is.live;
    later =
        is.later;
    recorded = is.recorded;
    only = is.only;
  }
  role_longer Note t list seat v ne p is = record {
    live = live_longer t list v p is.live;
    later =
        is.later;
  }
  role_longer Spent t list seat v ne p is = is

  book_longer : (t : Truth E) (seat : ℕ) (v : View E) (lines : List (Appended E))
      → IsBook h t seat v
      → IsBook h (longer_truth t (v.known.seen ++ lines)) seat (with_lines v lines)
  book_longer t seat v lines is =
      let xs : List (Appended E) = v.known.seen in
      let ys : List (Appended E) = v.known.seen ++ lines in
      let more : IsPrefix xs ys = (lines, refl) in
      let from_list : IsPrefix t.list ys = subst (λ (l : List (Appended E)). IsPrefix l ys) is.list
      more in record {
        live = record {
          began = is.live.began;
          seen = prefix_self ys;
          known = record {
            prefix = prefix_self ys;
            stand =
                stand_later h v.known.by xs ys v.known.mine more is.live.known.stand;
            ascend = is.live.known.ascend;
          };
          heard = all_agree_later h xs ys v.heard more is.live.heard;
        };
        first = is.first;
        list = refl;
        bys = is.bys;
        ended = All-weaker (IsEnded h t) (IsEnded h (longer_truth t ys))
            (λ k e. record {
              agrees = agrees_later h t.list ys k from_list e.agrees;
              recorded =
                  e.recorded;
              nowhere = e.nowhere;
            }) v.ended is.ended;
        apart = is.apart;
      }

  pub appends : (slots id : ℕ) (me : Me (Unit {0}) (View E)) (lines : List (Appended E))
      → me.0.role ≡ Book → length lines ≡ 1 → me.0.history + length me.0.known.seen + 1 < 2 ^ 64
      → Allows (IsKept h) slots id me 0 (λ n. (n + 1) % 2 ^ 64)
      (Appends lines (step slots 0 1 0 none) me)
  appends slots id me lines book one room s r deep at fits =
      let is = the_book s r id me.0 at book in
      let w : View E = with_lines me.0 lines in
      let t' : Truth E = longer_truth r.truth (me.0.known.seen ++ lines) in
      let same : me.0.known.seen ≡ r.truth.list = is.list in
      let more : IsPrefix r.truth.list (me.0.known.seen ++ lines) =
      subst (λ (l : List (Appended E)). IsPrefix l (me.0.known.seen ++ lines)) same
      (lines, refl) in
      let count : h + length r.truth.list ≡ me.0.history + length me.0.known.seen =
      rw (is.live.began, same) refl in (
        w,
        keeps,
        tt,
        record {
          truth = t';
          word = counted s.words (h + length r.truth.list) (h + length (me.0.known.seen ++ lines))
              r.word (omega arith)
              (omega (arith, length-append me.0.known.seen lines, ap length same));
          each = each_set (λ seat v. IsRole v.role h t' seat v) s.views id w
              (subst (λ (role : Role). IsRole role h t' id w) (sym book)
              (book_longer r.truth id me.0 lines is))
              (λ j u ne at. role_longer u.role r.truth (me.0.known.seen ++ lines) j u
              (λ e. ne (e ∙ sym is.first)) more (r.each j u at));
        },
        (
          refl,
          word_of s.words (h + length r.truth.list) r.word ∙ count,
          learns r.truth me.0 is.live,
        ),
      )

  -- a note is made
  note_live : (t : Truth E) (v : View E) → IsLive h t v → IsLive h t (note_view v)
  note_live t v is = record {
    began = is.began;
    seen = is.seen;
    known = is.known;
    heard =
        All-nil (Agrees h v.known.seen);
  }

  pub makes_note : (id : ℕ) (v : View E) → v.role ≢ Spent → Splits (IsKept h) id v v (note_view v)
  makes_note id v ne s r at =
      let live : IsLive h r.truth v = live_of v.role r.truth id v ne (r.each id v at) in record {
        truth = r.truth;
        word = r.word;
        each = each_end (λ seat u. IsRole u.role h r.truth seat u) (set s.views id v) (note_view v)
            (record { live = note_live r.truth v live; later = not_first s.views id v v at })
            (each_set (λ seat u. IsRole u.role h r.truth seat u) s.views id v (r.each id v at)
            (λ j u other at. r.each j u at));
      }

  -- a pass is made, whose number is new
  abbrev recorded_truth : Truth E → ℕ → ℕ → Truth E
  recorded_truth t by seat = record {
    list = t.list;
    bys = t.bys ++ by ∷ [];
    seat_of =
        λ b. cond (b == by) seat (t.seat_of b);
  }

  other_seat : (t : Truth E) (by seat b : ℕ) → b ≢ by
      → cond (b == by) seat (t.seat_of b) ≡ t.seat_of b
  other_seat t by seat b ne = grind (arith, nat_tests)

  role_recorded : (role : Role) (t : Truth E) (by seat j : ℕ) (v : View E) → j ≢ 0
      → All (λ b. b ≢ by) t.bys → IsRole role h t j v → IsRole role h (recorded_truth t by seat) j v
  role_recorded Book t by seat j v ne new is = absurd (ne is.first)
  role_recorded Pass t by seat j v ne new is = record {
    live = record {
      began = is.live.began;
      seen = is.live.seen;
      known = is.live.known;
      heard =
          is.live.heard;
    };
    later = is.later;
    recorded = Contains-append_left t.bys (by ∷ []) v.known.by is.recorded;
    only = other_seat t by seat v.known.by (other_number t.bys by v.known.by new is.recorded) ∙
        is.only;
  }
  role_recorded Note t by seat j v ne new is =
      record {
        live = record {
          began = is.live.began;
          seen = is.live.seen;
          known = is.live.known;
          heard = is.live.heard;
        };
        later = is.later;
      }
  role_recorded Spent t by seat j v ne new is = is

  book_recorded : (t : Truth E) (by seat id : ℕ) (v : View E) → All (λ b. b ≢ by) t.bys
      → IsBook h t id v → IsBook h (recorded_truth t by seat) id (with_by v by)
  book_recorded t by seat id v new is = record {
    live = record {
      began = is.live.began;
      seen = is.live.seen;
      known = is.live.known;
      heard =
          is.live.heard;
    };
    first = is.first;
    list = is.list;
    bys = ap (λ (bs : List ℕ). bs ++ by ∷ []) is.bys;
    ended = All-weaker (IsEnded h t) (IsEnded h (recorded_truth t by seat))
        (λ k e. record {
          agrees = e.agrees;
          recorded = Contains-append_left t.bys (by ∷ []) k.by e.recorded;
          nowhere = other_seat t by seat k.by (other_number t.bys by k.by new e.recorded) ∙
              e.nowhere;
        }) v.ended is.ended;
    apart = is.apart;
  }

  own_seat : (t : Truth E) (by seat : ℕ) → cond (by == by) seat (t.seat_of by) ≡ seat
  own_seat t by seat = grind (arith, nat_tests)

  new_pass : (t : Truth E) (by seat id : ℕ) (v : View E) → seat ≢ 0 → IsBook h t id v
      → IsPass h (recorded_truth t by seat) seat (pass_view v by)
  new_pass t by seat id v ne is = record {
    live = record {
      began = is.live.began;
      seen = is.live.seen;
      known = record {
        prefix = prefix_self v.known.seen;
        stand =
            All-nil (λ (o : Own E). StandsAt h v.known.seen o.row (appended by o.entry));
        ascend = pairs_none (λ (o p : Own E). o.row < p.row);
      };
      heard = All-nil (Agrees h v.known.seen);
    };
    later = ne;
    recorded = Contains-push t.bys by;
    only = own_seat t by seat;
  }

  pub makes_pass : (id : ℕ) (v : View E) (by : ℕ) → v.role ≡ Book → All (λ b. b ≢ by) v.bys
      → Splits (IsKept h) id v (with_by v by) (pass_view v by)
  makes_pass id v by book new s r at =
      let is = the_book s r id v at book in
      let seat : ℕ = length (set s.views id (with_by v by)) in
      let t' : Truth E = recorded_truth r.truth by seat in
      let new' : All (λ b. b ≢ by) r.truth.bys = subst (λ (bs : List ℕ). All (λ b. b ≢ by) bs)
      is.bys new in record {
        truth = t';
        word = r.word;
        each = each_end (λ j u. IsRole u.role h t' j u) (set s.views id (with_by v by))
            (pass_view v by) (new_pass r.truth by seat id v
            (not_first s.views id v (with_by v by) at) is)
            (each_set (λ j u. IsRole u.role h t' j u) s.views id (with_by v by)
            (subst (λ (role : Role). IsRole role h t' id (with_by v by)) (sym book)
            (book_recorded r.truth by seat id v new' is))
            (λ j u other there. role_recorded u.role r.truth by seat j u
            (λ e. other (e ∙ sym is.first)) new' (r.each j u there)));
      }

  -- a note is joined
  joined : (s : St E) (r : IsKept h s) (id : ℕ) (v : View E) (other : ℕ) (both : View E)
      → IsRole both.role h r.truth id both → other ≢ 0
      → IsKept h record {
        words = s.words;
        homes = s.homes;
        views =
            set (set s.views id both) other spent_view;
      }
  joined s r id v other both here ne = record {
    truth = r.truth;
    word = r.word;
    each = each_set (λ j u. IsRole u.role h r.truth j u) (set s.views id both) other spent_view ne
        (λ j u apart at. each_set (λ j u. IsRole u.role h r.truth j u) s.views id both here
        (λ j u apart at. r.each j u at) j u at);
  }

  there : (s : St E) (id other : ℕ) (w both : View E) → ¬ (other ≡ id)
      → get_elem? (set s.views id both) other ≡ some w → get_elem? s.views other ≡ some w
  there s id other w both apart at = sym (set_else s.views id other both apart) ∙ at

  -- what a seat knows is part of the list
  agrees_with_list : (t : Truth E) (w : View E) → IsLive h t w → Agrees h t.list w.known
  agrees_with_list t w is = agrees_later h w.known.seen t.list w.known is.seen is.known

  pub hears : (id : ℕ) (v : View E) (other : ℕ) (w : View E) → v.role ≡ Book → w.role ≡ Note
      → Joins (IsKept h) id v other w (hearing v w) spent_view
  hears id v other w book note s r at apart near =
      let is = the_book s r id v at book in
      let has = the_note s r other w (there s id other w (hearing v w) apart near) note in
      let part : Agrees h v.known.seen w.known =
      subst (λ (l : List (Appended E)). Agrees h l w.known) (sym is.list)
      (agrees_with_list r.truth w has.live) in
      let is' : IsBook h r.truth id (hearing v w) = record {
        live = record {
          began = is.live.began;
          seen = is.live.seen;
          known = is.live.known;
          heard =
              All-cons (Agrees h v.known.seen) w.known [] part (All-nil (Agrees h v.known.seen));
        };
        first = is.first;
        list = is.list;
        bys = is.bys;
        ended = is.ended;
        apart = is.apart;
      } in
      joined s r id v other (hearing v w)
      (subst (λ (role : Role). IsRole role h r.truth id (hearing v w)) (sym book) is') has.later

  met_pass : (t : Truth E) (id : ℕ) (v w : View E) → IsPass h t id v → IsLive h t w
      → IsPass h t id (meeting v w)
  met_pass t id v w is has =
      let xs : List (Appended E) = v.known.seen in
      let ys : List (Appended E) = w.known.seen in
      let zs : List (Appended E) = longer xs ys in
      let first : IsPrefix xs zs = longer_first xs ys t.list is.live.seen has.seen in
      let second : IsPrefix ys zs = longer_second xs ys t.list is.live.seen has.seen in
      let mine : Agrees h zs v.known = agrees_later h xs zs v.known first is.live.known in
      let theirs : Agrees h zs w.known = agrees_later h ys zs w.known second has.known in record {
        live = record {
          began = is.live.began;
          seen = longer_begins xs ys t.list is.live.seen has.seen;
          known = record { prefix = prefix_self zs; stand = mine.stand; ascend = mine.ascend };
          heard = All-cons (Agrees h zs) v.known (w.known ∷ []) mine
              (All-cons (Agrees h zs) w.known [] theirs (All-nil (Agrees h zs)));
        };
        later = is.later;
        recorded = is.recorded;
        only = is.only;
      }

  pub meets : (id : ℕ) (v : View E) (other : ℕ) (w : View E) → v.role ≡ Pass → w.role ≡ Note
      → Joins (IsKept h) id v other w (meeting v w) spent_view
  meets id v other w pass note s r at apart near =
      let is = the_pass s r id v at pass in
      let has = the_note s r other w (there s id other w (meeting v w) apart near) note in
      joined s r id v other (meeting v w)
      (subst (λ (role : Role). IsRole role h r.truth id (meeting v w)) (sym pass)
      (met_pass r.truth id v w is has.live)) has.later

  -- a pass ends
  abbrev ended_truth : Truth E → ℕ → Truth E
  ended_truth t by = record { list = t.list; bys = t.bys; seat_of = λ b. cond (b == by) 0 (t.seat_of b) }

  role_ended : (role : Role) (t : Truth E) (by j other : ℕ) (v : View E) → j ≢ 0 → j ≢ other
      → t.seat_of by ≡ other → IsRole role h t j v → IsRole role h (ended_truth t by) j v
  role_ended Book t by j other v ne apart at is = absurd (ne is.first)
  role_ended Pass t by j other v ne apart at is = record {
    live = record {
      began = is.live.began;
      seen = is.live.seen;
      known = is.live.known;
      heard =
          is.live.heard;
    };
    later = is.later;
    recorded = is.recorded;
    only = other_seat t by 0 v.known.by (λ e. apart (sym is.only ∙ (ap t.seat_of e ∙ at))) ∙
        is.only;
  }
  role_ended Note t by j other v ne apart at is =
      record {
        live = record {
          began = is.live.began;
          seen = is.live.seen;
          known = is.live.known;
          heard = is.live.heard;
        };
        later = is.later;
      }
  role_ended Spent t by j other v ne apart at is = is

  still_first : (t : Truth E) (by b : ℕ) → t.seat_of b ≡ 0 → cond (b == by) 0 (t.seat_of b) ≡ 0
  still_first t by b is = rw is (grind (arith, nat_tests))

  book_ended : (t : Truth E) (id other : ℕ) (v w : View E) → IsBook h t id v → IsPass h t other w
      → IsBook h (ended_truth t w.known.by) id (ending v w)
  book_ended t id other v w is has =
      let t' : Truth E = ended_truth t w.known.by in
      let it : IsEnded h t' w.known = record {
        agrees = agrees_with_list t w has.live;
        recorded =
            has.recorded;
        nowhere = own_seat t w.known.by 0;
      } in
      let others : All (IsEnded h t') v.ended = All-weaker (IsEnded h t) (IsEnded h t')
      (λ k e. record {
        agrees = e.agrees;
        recorded = e.recorded;
        nowhere =
            still_first t w.known.by k.by e.nowhere;
      }) v.ended is.ended in
      let differ : All (λ (k : Known E). w.known.by ≢ k.by) v.ended =
      All-weaker (IsEnded h t) (λ (k : Known E). w.known.by ≢ k.by)
      (λ k e same. has.later (sym has.only ∙ (ap t.seat_of same ∙ e.nowhere))) v.ended is.ended in
      record {
        live = record {
          began = is.live.began;
          seen = is.live.seen;
          known = is.live.known;
          heard =
              is.live.heard;
        };
        first = is.first;
        list = is.list;
        bys = is.bys;
        ended = All-cons (IsEnded h t') w.known v.ended it others;
        apart = pairs_cons (λ (j k : Known E). j.by ≢ k.by) w.known v.ended differ is.apart;
      }

  pub ends : (id : ℕ) (v : View E) (other : ℕ) (w : View E) → v.role ≡ Book → w.role ≡ Pass
      → Joins (IsKept h) id v other w (ending v w) spent_view
  ends id v other w book pass s r at apart near =
      let is = the_book s r id v at book in
      let has = the_pass s r other w (there s id other w (ending v w) apart near) pass in
      let t' : Truth E = ended_truth r.truth w.known.by in record {
        truth = t';
        word = r.word;
        each = each_set (λ j u. IsRole u.role h t' j u) (set s.views id (ending v w)) other
            spent_view has.later
            (λ j u not_other where_u. each_set (λ j u. j ≢ other → IsRole u.role h t' j u) s.views
            id (ending v w)
            (λ _. subst (λ (role : Role). IsRole role h t' id (ending v w)) (sym book)
            (book_ended r.truth id other v w is has))
            (λ j u not_id was apart_j. role_ended u.role r.truth w.known.by j other u
            (λ e. not_id (e ∙ sym is.first)) apart_j has.only (r.each j u was)) j u where_u
            not_other);
      }

  first_role : (t : Truth E) → t.list ≡ [] → t.bys ≡ [] → IsBook h t 0 (first_view h)
  first_role t no_list no_bys = record {
    live = record {
      began = refl;
      seen = (t.list, refl);
      known = record {
        prefix = prefix_self [];
        stand =
            All-nil (λ (o : Own E). StandsAt h [] o.row (appended 0 o.entry));
        ascend = pairs_none (λ (o p : Own E). o.row < p.row);
      };
      heard = All-nil (Agrees h []);
    };
    first = refl;
    list = sym no_list;
    bys = sym no_bys;
    ended = All-nil (IsEnded h t);
    apart = λ i j d lt in'. absurd (omega arith);
  }

  only_first : (P : ℕ → View E → Type 0) (x : View E) → P 0 x → (j : ℕ) (y : View E)
      → get_elem? (x ∷ []) j ≡ some y → P j y
  only_first P x here zero y at = subst (P 0) (some-injective x y at) here
  only_first P x here (suc j) y at = absurd (some-ne-none y (sym at))

  -- the table as it begins
  pub opens : IsKept {E = E} h record { words = h ∷ []; homes = []; views = first_view h ∷ [] }
  opens =
      let t : Truth E = record { list = []; bys = []; seat_of = λ _. 0 } in record {
        truth = t;
        word = ap (λ (n : ℕ). n ∷ []) (omega arith);
        each = only_first (λ j u. IsRole u.role h t j u) (first_view h) (first_role t refl refl);
      }

  -- what is known once the table is closed
  pub record Closes (v : View E) (words : List ℕ) : Type 0 where
    pub word : words ≡ (v.history + length v.known.seen) ∷ []
    pub ended : All (Agrees v.history v.known.seen) v.ended
    pub apart : AllPairs (λ (j k : Known E). j.by ≢ k.by) v.ended

  pub closes : (s : St E) (id : ℕ) (v : View E) → IsKept h s → get_elem? s.views id ≡ some v
      → v.role ≡ Book → Closes v s.words
  closes s id v r at book =
      let is = the_book s r id v at book in record {
        word = r.word ∙ ap (λ (n : ℕ). n ∷ []) (rw (is.live.began, is.list) refl);
        ended = subst (λ (n : ℕ). All (Agrees n v.known.seen) v.ended) (sym is.live.began)
            (All-weaker (IsEnded h r.truth) (Agrees h v.known.seen)
            (λ k e. subst (λ (l : List (Appended E)). Agrees h l k) (sym is.list) e.agrees) v.ended
            is.ended);
        apart = is.apart;
      }

  pub at_close : (id : ℕ) (v : View E) (words : List ℕ) (slots : List (Unit {0}))
      → Final (Seen (IsKept h) id v) words slots → v.role ≡ Book → Closes v words
  at_close id v words slots final book =
      subst (Closes v) final.2 (closes final.0 id v final.1.0 final.1.1 book)
