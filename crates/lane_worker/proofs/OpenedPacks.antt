-- The packs for which the gate opened, with one more, and what is said of it behind a row.
use Rattle.std.proofs.Common.{◌≡◌, ℕ, ℤ, ◌<◌, cond, subst, Bool, true, false, ◌||◌, ◌==◌, List, [], ◌∷◌, ◌++◌, Option, Some, None, refl, sym, ◌∙◌, ap, arith, append_assoc, append-nil, Contains}
use Rattle.std.proofs.lemmas.Bool.{eq-eqb}
use Rattle.std.proofs.lemmas.Option.{none-some}
use Rattle.std.proofs.lemmas.Bool.Decides.{nat_tests}
use Rattle.std.proofs.lemmas.List.Elements.{filter_map-append, Contains-push}
use Rattle.std.proofs.lemmas.List.Folds.{list_any-append}
use Rattle.std.specs.List.{cons_option}
use Rattle.book_words.specs.declared.act.Act.TheVariants.{Weigh}
use Rattle.book_words.specs.declared.act.Prior.{Prior}
use Rattle.book_words.specs.declared.act.Prior.TheVariants.{Nothing, Opened, Stayed}
use Rattle.book_words.specs.Desks.{Row}
use Rattle.book_words.specs.Population.{is_pass}
use Rattle.lane_worker.specs.Asks.{is_among, gate_did, prior_behind, passed_pack, passed_packs}
use Rattle.lane_worker.specs.Gates.{with_packs, HasPassed, is_weighing}
use Rattle.lane_worker.proofs.RightReplies.{passed_row}

-- one pack more for which the gate opened
pub packs_more : (opened : List ℕ) (pack : ℕ) (was mid now : Option (List ℕ)) → mid ≡ with_packs opened was → now ≡ with_packs (pack ∷ []) mid → now ≡ with_packs (opened ++ pack ∷ []) was
packs_more opened pack was mid now before then = then ∙ ap (with_packs (pack ∷ [])) before ∙ twice was
  where
    twice : (packs : Option (List ℕ)) → with_packs (pack ∷ []) (with_packs opened packs) ≡ with_packs (opened ++ pack ∷ []) packs
    twice None = refl
    twice (Some packs) = ap Some (append_assoc packs opened (pack ∷ []))

-- none more
pub packs_none : (was : Option (List ℕ)) → was ≡ with_packs [] was
packs_none None = refl
packs_none (Some packs) = ap Some (sym (append-nil packs))

-- a row more that passed, or not
pub passed_push : (rows : List Row) (row : Row) → passed_packs (rows ++ row ∷ []) ≡ passed_packs rows ++ cons_option (passed_pack row) []
passed_push rows row = filter_map-append passed_pack rows (row ∷ [])

-- a new number is none of the packs and of one before it
pub fresh_more : (opened : List ℕ) (pack number : ℕ) → is_among number opened ≡ false → pack < number → is_among number (opened ++ pack ∷ []) ≡ false
fresh_more opened pack number new less =
    let other : (pack == number) ≡ false = grind (arith, nat_tests) in
    list_any-append (λ (n : ℕ). n == number) opened (pack ∷ []) ∙ rw (new, other) refl

among_all : (opened more : List ℕ) (pack : ℕ) → is_among pack ((opened ++ pack ∷ []) ++ more) ≡ true
among_all [] more pack = rw (eq-eqb pack pack refl) refl
among_all (first ∷ opened) more pack = either (first == pack) (among_all opened more pack)
  where
    either : (b : Bool) → is_among pack ((opened ++ pack ∷ []) ++ more) ≡ true → b || is_among pack ((opened ++ pack ∷ []) ++ more) ≡ true
    either true h = refl
    either false h = h

-- behind a row where no pack passed nothing is said
pub says_nothing : (opened : List ℕ) (row : Row) → passed_pack row ≡ None → prior_behind opened row ≡ Nothing
says_nothing opened row h = by_signal (is_pass row.entry.signal) refl
  where
    by_signal : (b : Bool) → is_pass row.entry.signal ≡ b → prior_behind opened row ≡ Nothing
    by_signal false is = ap (λ (b : Bool). gate_did b (is_among row.number opened)) is
    by_signal true is = absurd (none-some row.number (sym h ∙ ap (λ (b : Bool). cond b (Some row.number) None) is))

passes : (row : Row) (pack : ℕ) → passed_pack row ≡ Some pack → is_pass row.entry.signal ≡ true
passes row pack h = ap is_pass (passed_row row pack h).0

-- behind a pack for which the gate opened that is said
pub says_opened : (opened more : List ℕ) (row : Row) (pack : ℕ) → passed_pack row ≡ Some pack → prior_behind ((opened ++ pack ∷ []) ++ more) row ≡ Opened
says_opened opened more row pack h =
    ap (λ (b : Bool). gate_did b (is_among row.number ((opened ++ pack ∷ []) ++ more))) (passes row pack h)
    ∙ ap (λ (n : ℕ). gate_did true (is_among n ((opened ++ pack ∷ []) ++ more))) (passed_row row pack h).1
    ∙ ap (gate_did true) (among_all opened more pack)

-- and behind one for which it didn't
pub says_stayed : (opened : List ℕ) (row : Row) (pack : ℕ) → passed_pack row ≡ Some pack → is_among row.number opened ≡ false → prior_behind opened row ≡ Stayed
says_stayed opened row pack h new =
    ap (λ (b : Bool). gate_did b (is_among row.number opened)) (passes row pack h)
    ∙ ap (gate_did true) new

-- the caller's own rows hold the pack that passed
pub holds_passed : (mine rows : List Row) (row : Row) (lane : ℕ) (gross : ℤ) (prior : Prior) (pack : ℕ) → mine ≡ rows ++ row ∷ [] → row.entry.act ≡ Weigh lane gross prior → passed_pack row ≡ Some pack
    → HasPassed mine pack
holds_passed mine rows row lane gross prior pack is act h = record {
  row = row;
  among = subst (λ (all : List Row). Contains all row) (sym is) (Contains-push rows row);
  number = (passed_row row pack h).1;
  weighing = ap is_weighing act;
  signal = (passed_row row pack h).0;
}
