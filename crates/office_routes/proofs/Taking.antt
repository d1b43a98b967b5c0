-- What a parameter takes of a path: alone, and before one of two suffixes that begin with a slash.
use Rattle.std.proofs.Common.{◌≡◌, ℕ, suc, ◌+◌, ◌-◌, ◌<◌, ◌≤◌, List, [], ◌∷◌, ◌++◌, length, drop, Some, None, true, false, ltb, leb, refl, sym, ap, ◌∙◌, arith, ◌==◌, length-append, append-nil}
use Rattle.std.proofs.lemmas.Bool.Decides.{nat_tests}
use Rattle.std.proofs.lemmas.List.{take_at, drop_at}
use Rattle.matchit.specs.Rows.{RowsOf, param_token}
use Rattle.matchit.specs.Seek.{own, seek, first, param_step, has_slash, segment, slash}
use Rattle.matchit.specs.Params.{walk, wild_from, wild_stop, part_of, after_token}
use Rattle.office_routes.proofs.Seeking.{seek_byte, seek_param, seek_empty, seek_drop, first_end, IsBytes}
use Rattle.office_routes.proofs.Cuts.{cuts_free, cuts_part, segment_free, segment_cut}

pub drop_all : (q : List ℕ) → drop (length q) q ≡ []
drop_all [] = refl
drop_all (b ∷ q) = drop_all q

-- the list begins with a byte, if with anything
abbrev pub IsHeadByte : List ℕ → Type 0
IsHeadByte [] = Unit {0}
IsHeadByte (b ∷ q) = b < 256

module _ {K : Type 0} where
  abbrev pub alone : K → RowsOf K
  alone k = (param_token ∷ [], k) ∷ []

  -- a parameter: before two suffixes `/..`, and alone
  abbrev pub three : List ℕ → K → List ℕ → K → K → RowsOf K
  three v t w s k =
      (param_token ∷ slash ∷ v, t) ∷ (param_token ∷ slash ∷ w, s) ∷ (param_token ∷ [], k) ∷ []

  -- what may stand behind that parameter and its slash
  abbrev pub suffixes : List ℕ → K → List ℕ → K → RowsOf K
  suffixes v t w s = (v, t) ∷ (w, s) ∷ []

  pub step_alone : (k : K) (p : List ℕ) → has_slash p ≡ false
      → param_step (([], k) ∷ []) p ≡ (length p, ([], k) ∷ [])
  unfolding param_step
  step_alone k p h = rw h refl

  pub step_alone_slash : (k : K) (p : List ℕ) → has_slash p ≡ true
      → param_step (([], k) ∷ []) p ≡ (0, [])
  unfolding param_step
  step_alone_slash k p h = rw h refl

  -- those rows, with their parameter gone
  abbrev pub three_behind : List ℕ → K → List ℕ → K → K → RowsOf K
  three_behind v t w s k = (slash ∷ v, t) ∷ (slash ∷ w, s) ∷ ([], k) ∷ []

  pub step_three : (v : List ℕ) (t : K) (w : List ℕ) (s k : K) (p : List ℕ) → has_slash p ≡ false
      → param_step (three_behind v t w s k) p ≡ (length p, three_behind v t w s k)
  unfolding param_step
  step_three v t w s k p h = rw (segment_free p h, cuts_free p h, h) refl

  pub step_three_empty : (v : List ℕ) (t : K) (w : List ℕ) (s k : K) (rest : List ℕ)
      → param_step (three_behind v t w s k) (slash ∷ rest) ≡ (0, [])
  unfolding param_step
  step_three_empty v t w s k rest = refl

  pub step_three_cut : (v : List ℕ) (t : K) (w : List ℕ) (s k : K) (b : ℕ) (part rest : List ℕ)
      → has_slash (b ∷ part) ≡ false
      → param_step (three_behind v t w s k) (b ∷ (part ++ slash ∷ rest))
      ≡ (length (b ∷ part), (slash ∷ v, t) ∷ (slash ∷ w, s) ∷ [])
  unfolding param_step
  step_three_cut v t w s k b part rest h =
      let n : length ((b ∷ part) ++ slash ∷ []) - 1 ≡ length (b ∷ part) =
      omega (arith, length-append (b ∷ part) (slash ∷ [])) in
      rw (segment_cut (b ∷ part) rest h, cuts_part b part, n) refl

  -- the rest of a path, behind what a parameter took
  pub seek_rest : (r : RowsOf K) (part q : List ℕ) (n : ℕ) → n ≡ suc (length part)
      → seek (n - 1) r (part ++ q) ≡ first r q
  seek_rest r part q n e =
      let m : n - 1 ≡ length part = omega (arith, e) in
      ap (λ i. seek i r (part ++ q)) m ∙ seek_drop (length part) r (part ++ q)
      ∙ ap (λ l. seek 0 r l) (drop_at part q (length part) refl)

  pub seek_all : (r : RowsOf K) (q : List ℕ) → seek (suc (length q) - 1) r q ≡ own r
  seek_all r q =
      let m : suc (length q) - 1 ≡ length q = omega arith in
      ap (λ i. seek i r q) m ∙ seek_drop (length q) r q ∙ ap (λ l. seek 0 r l) (drop_all q)
      ∙ first_end r

  pub first_alone : (k : K) (b : ℕ) (q : List ℕ) → b < 256 → has_slash (b ∷ q) ≡ false
      → first (alone k) (b ∷ q) ≡ Some k
  first_alone k b q l h =
      let n : (param_token == b) ≡ false = grind (arith, nat_tests) in
      seek_param (alone k) b q (rw n refl) refl
      ∙ ap (λ (x : ℕ × RowsOf K). seek (x.0 - 1) x.1 q) (step_alone k (b ∷ q) h)
      ∙ seek_all (([], k) ∷ []) q

  pub first_alone_slash : (k : K) (p : List ℕ) → IsHeadByte p → has_slash p ≡ true
      → first (alone k) p ≡ None
  first_alone_slash k [] l h = first_end (alone k)
  first_alone_slash k (b ∷ q) l h =
      let n : (param_token == b) ≡ false = grind (arith, nat_tests) in
      seek_param (alone k) b q (rw n refl) refl
      ∙ ap (λ (x : ℕ × RowsOf K). seek (x.0 - 1) x.1 q) (step_alone_slash k (b ∷ q) h)
      ∙ seek_empty _ q

  pub first_three : (v : List ℕ) (t : K) (w : List ℕ) (s k : K) (b : ℕ) (q : List ℕ) → b < 256
      → has_slash (b ∷ q) ≡ false → first (three v t w s k) (b ∷ q) ≡ Some k
  first_three v t w s k b q l h =
      let n : (param_token == b) ≡ false = grind (arith, nat_tests) in
      seek_param (three v t w s k) b q (rw n refl) refl
      ∙ ap (λ (x : ℕ × RowsOf K). seek (x.0 - 1) x.1 q) (step_three v t w s k (b ∷ q) h)
      ∙ seek_all (three_behind v t w s k) q

  pub first_three_empty : (v : List ℕ) (t : K) (w : List ℕ) (s k : K) (rest : List ℕ)
      → first (three v t w s k) (slash ∷ rest) ≡ None
  first_three_empty v t w s k rest =
      seek_param (three v t w s k) slash rest refl refl
      ∙ ap (λ (x : ℕ × RowsOf K). seek (x.0 - 1) x.1 rest) (step_three_empty v t w s k rest)
      ∙ seek_empty _ rest

  pub first_three_cut : (v : List ℕ) (t : K) (w : List ℕ) (s k : K) (b : ℕ) (part rest : List ℕ)
      → b < 256 → has_slash (b ∷ part) ≡ false
      → first (three v t w s k) (b ∷ (part ++ slash ∷ rest)) ≡ first (suffixes v t w s) rest
  first_three_cut v t w s k b part rest l h =
      let n : (param_token == b) ≡ false = grind (arith, nat_tests) in
      seek_param (three v t w s k) b (part ++ slash ∷ rest) (rw n refl) refl
      ∙ ap (λ (x : ℕ × RowsOf K). seek (x.0 - 1) x.1 (part ++ slash ∷ rest))
      (step_three_cut v t w s k b part rest h)
      ∙ seek_rest ((slash ∷ v, t) ∷ (slash ∷ w, s) ∷ []) part (slash ∷ rest) (length (b ∷ part))
      refl
      ∙ seek_byte ((slash ∷ v, t) ∷ (slash ∷ w, s) ∷ []) slash rest refl refl

-- where the first parameter is, behind literal bytes of a path that goes on
pub wild_from_literal : (w t : List ℕ) (len token at : ℕ) → IsBytes w → at + length w ≤ len
    → wild_from (w ++ param_token ∷ t) len token at ≡ (token + length w, at + length w)
wild_from_literal [] t len token at h l =
    let a : token + 0 ≡ token = omega arith in
    let b : at + 0 ≡ at = omega arith in
    rw (a, b) refl
wild_from_literal (x ∷ w) t len token at h l =
    let c : ltb x param_token ≡ true = grind (arith, nat_tests, h.0) in
    let d : ltb at len ≡ true = grind (arith, nat_tests, l) in
    let m : (at + 1) + length w ≤ len = omega (arith, l) in
    let a : token + suc (length w) ≡ (token + 1) + length w = omega arith in
    let b : at + suc (length w) ≡ (at + 1) + length w = omega arith in
    rw (c, d, a, b) (wild_from_literal w t len (token + 1) (at + 1) h.1 m)

-- the part of a path between two places
pub part_at : (w part rest : List ℕ) (i j : ℕ) → i ≡ length w → j ≡ length w + length part
    → part_of (w ++ (part ++ rest)) i j ≡ part
part_at w part rest i j e f =
    let n : length (w ++ (part ++ rest)) ≡ length w + (length part + length rest) =
    length-append w (part ++ rest) ∙ ap (λ x. length w + x) (length-append part rest) in
    let a : leb i j ≡ true = grind (arith, nat_tests, e, f) in
    let b : leb j (length (w ++ (part ++ rest))) ≡ true = grind (arith, nat_tests, e, f, n) in
    let m : j - i ≡ length part = omega (arith, e, f) in
    rw (a, b, m, drop_at w (part ++ rest) i (sym e)) (take_at part rest (length part) refl)

-- the last parameter of a route, at its end: behind literal bytes, from a place in the pattern and
-- one in the path
pub walk_end : (pattern text path lead rest w : List ℕ) (name : ℕ × ℕ) (token at : ℕ)
    → drop token pattern ≡ w ++ param_token ∷ [] → path ≡ lead ++ rest
    → at + length w ≡ length lead → IsBytes w
    → ((place : ℕ) → wild_stop pattern (token + length w) path place ≡ length path)
    → walk pattern text path (name ∷ []) token at ≡ (part_of text name.0 name.1, rest) ∷ []
walk_end pattern text path lead rest w name token at d e f h stop =
    let n : length path ≡ length lead + length rest = ap length e ∙ length-append lead rest in
    let wild : wild_from (drop token pattern) (length path) token at
    ≡ (token + length w, at + length w) =
    ap (λ l. wild_from l (length path) token at) d
    ∙ wild_from_literal w [] (length path) token at h (omega (arith, n, f)) in
    let part : part_of path (at + length w) (length path) ≡ rest =
    ap (λ l. part_of l (at + length w) (length path))
    (e ∙ ap (λ l. lead ++ l) (sym (append-nil rest)))
    ∙ part_at lead rest [] (at + length w) (length path) f n in
    ap (λ (x : ℕ × ℕ). (
      part_of text name.0 name.1,
      part_of path x.1 (wild_stop pattern x.0 path x.1),
    ) ∷ []) wild
    ∙ ap (λ j. (part_of text name.0 name.1, part_of path (at + length w) j) ∷ [])
    (stop (at + length w))
    ∙ ap (λ l. (part_of text name.0 name.1, l) ∷ []) part

-- the one parameter of a route, at its end
pub walk_last : (w text rest : List ℕ) (name : ℕ × ℕ) → IsBytes w
    → ((path : List ℕ) (at : ℕ)
    → wild_stop (w ++ param_token ∷ []) (length w) path at ≡ length path)
    → walk (w ++ param_token ∷ []) text (w ++ rest) (name ∷ []) 0 0
    ≡ (part_of text name.0 name.1, rest) ∷ []
walk_last w text rest name h stop =
    let a : 0 + length w ≡ length w = omega arith in
    walk_end (w ++ param_token ∷ []) text (w ++ rest) w rest w name 0 0 refl refl a h
    (λ place. ap (λ token. wild_stop (w ++ param_token ∷ []) token (w ++ rest) place) a
    ∙ stop (w ++ rest) place)

-- the first parameter of a route, before a suffix that begins with a slash: the others go on
-- behind what it took
pub walk_before : (w t text part rest : List ℕ) (name : ℕ × ℕ) (names : List (ℕ × ℕ)) → IsBytes w
    → has_slash part ≡ false
    → ((path : List ℕ) (at : ℕ)
    → wild_stop (w ++ param_token ∷ slash ∷ t) (length w) path at
    ≡ at + length (segment (drop at path)) - 1)
    → walk (w ++ param_token ∷ slash ∷ t) text (w ++ (part ++ slash ∷ rest)) (name ∷ names) 0 0
    ≡ (part_of text name.0 name.1, part)
    ∷ walk (w ++ param_token ∷ slash ∷ t) text (w ++ (part ++ slash ∷ rest)) names
    (after_token (length w)) (length w + length part)
walk_before w t text part rest name names h free stop =
    let path = w ++ (part ++ slash ∷ rest) in
    let pattern = w ++ param_token ∷ slash ∷ t in
    let n : length path ≡ length w + length (part ++ slash ∷ rest) =
    length-append w (part ++ slash ∷ rest) in
    let a : 0 + length w ≡ length w = omega arith in
    let e : wild_from pattern (length path) 0 0 ≡ (0 + length w, 0 + length w) =
    wild_from_literal w (slash ∷ t) (length path) 0 0 h (omega (arith, n)) in
    let f : wild_from pattern (length path) 0 0 ≡ (length w, length w) = rw a at e in
    let s : length (segment (drop (length w) path)) ≡ length part + 1 =
    ap (λ l. length (segment l)) (drop_at w (part ++ slash ∷ rest) (length w) refl)
    ∙ ap length (segment_cut part rest free) ∙ length-append part (slash ∷ []) in
    let j : length w + length (segment (drop (length w) path)) - 1 ≡ length w + length part =
    omega (arith, s) in
    ap (λ (x : ℕ × ℕ). (
      part_of text name.0 name.1,
      part_of path x.1 (wild_stop pattern x.0 path x.1),
    ) ∷ walk pattern text path names (after_token x.0) (wild_stop pattern x.0 path x.1)) f
    ∙ ap (λ j. (part_of text name.0 name.1, part_of path (length w) j)
    ∷ walk pattern text path names (after_token (length w)) j)
    (stop path (length w) ∙ j)
    ∙ ap (λ l. (part_of text name.0 name.1, l)
    ∷ walk pattern text path names (after_token (length w)) (length w + length part))
    (part_at w part (slash ∷ rest) (length w) (length w + length part) refl refl)
