-- A path up to its first slash, and behind it.
use Rattle.std.proofs.Common.{◌≡◌, ◌⊎◌, inl, inr, ℕ, zero, suc, ◌+◌, ◌-◌, ◌<◌, List, [], ◌∷◌, ◌++◌, length, drop, get_or, Bool, true, false, cond, ◌&&◌, ltb, refl, sym, ap, ◌∙◌, subst, arith, ◌==◌, true≢false, lit<, length-append}
use Rattle.std.proofs.lemmas.Bool.Decides.{nat_tests}
use Rattle.std.proofs.lemmas.List.{take_at, drop_at, get_or_at}
use Rattle.std.proofs.lemmas.Str.{IsUtf8-take, IsUtf8-drop, IsCharBoundary-before_ascii, IsCharBoundary-after_ascii}
use Rattle.std.specs.Str.{bytes_eq, IsUtf8}
use Rattle.matchit.specs.Seek.{has_slash, segment, slash, cuts}
use Rattle.office_routes.specs.Spots.{segments}
use Rattle.office_routes.proofs.Seeking.{Differs}

pub free_head : (b : ℕ) (p : List ℕ) → has_slash (b ∷ p) ≡ false → (b == slash) ≡ false
free_head b p h = by (b == slash) refl h
  where
    by : (v : Bool) → (b == slash) ≡ v → cond v true (has_slash p) ≡ false → (b == slash) ≡ false
    by true e h = absurd (true≢false h)
    by false e h = e

pub free_tail : (b : ℕ) (p : List ℕ) → has_slash (b ∷ p) ≡ false → has_slash p ≡ false
free_tail b p h = by (b == slash) h
  where
    by : (v : Bool) → cond v true (has_slash p) ≡ false → has_slash p ≡ false
    by true h = absurd (true≢false h)
    by false h = h

-- where a path has its first slash
pub record Cut (p : List ℕ) : Type 0 where
  pub word : List ℕ
  pub rest : List ℕ
  pub whole : p ≡ word ++ slash ∷ rest
  pub free : has_slash word ≡ false

pub cut : (p : List ℕ) → (has_slash p ≡ false) ⊎ Cut p
cut [] = inl refl
cut (b ∷ p) = by (b == slash) refl (cut p)
  where
    by : (v : Bool) → (b == slash) ≡ v → (has_slash p ≡ false) ⊎ Cut p
        → (has_slash (b ∷ p) ≡ false) ⊎ Cut (b ∷ p)
    by true e r =
        let s : b ≡ slash = grind (arith, nat_tests) in
        inr (record { word = []; rest = p; whole = ap (λ x. x ∷ p) s; free = refl })
    by false e (inl h) = inl (rw e h)
    by false e (inr c) =
        inr (record {
          word = b ∷ c.word;
          rest = c.rest;
          whole = ap (λ l. b ∷ l) c.whole;
          free = rw e c.free;
        })

pub segments_one : (p : List ℕ) → has_slash p ≡ false → segments p ≡ p ∷ []
segments_one [] h = refl
segments_one (b ∷ p) h = rw (free_head b p h, segments_one p (free_tail b p h)) refl

pub segments_more : (word rest : List ℕ) → has_slash word ≡ false
    → segments (word ++ slash ∷ rest) ≡ word ∷ segments rest
segments_more [] rest h = refl
segments_more (b ∷ word) rest h =
    rw (free_head b word h, segments_more word rest (free_tail b word h)) refl

pub segments_cut : (p : List ℕ) (c : Cut p) → segments p ≡ c.word ∷ segments c.rest
segments_cut p c = ap segments c.whole ∙ segments_more c.word c.rest c.free

-- there is a segment
pub segments_some : (p : List ℕ)
    → (first : List ℕ) × (others : List (List ℕ)) × (segments p ≡ first ∷ others)
segments_some p = elim (cut p) [
  | inl h ↦ (p, [], segments_one p h)
  | inr c ↦ (c.word, segments c.rest, segments_cut p c)
]

pub slash_in : (word rest : List ℕ) → has_slash (word ++ slash ∷ rest) ≡ true
slash_in [] rest = refl
slash_in (b ∷ word) rest = rw (slash_in word rest) (by (b == slash))
  where
    by : (v : Bool) → cond v true true ≡ true
    by true = refl
    by false = refl

-- the segment of matchit, with its slash
pub segment_free : (p : List ℕ) → has_slash p ≡ false → segment p ≡ p
segment_free [] h = refl
segment_free (b ∷ p) h = rw (free_head b p h) (ap (λ l. b ∷ l) (segment_free p (free_tail b p h)))

pub segment_cut : (word rest : List ℕ) → has_slash word ≡ false
    → segment (word ++ slash ∷ rest) ≡ word ++ slash ∷ []
segment_cut [] rest h = refl
segment_cut (b ∷ word) rest h =
    rw (free_head b word h) (ap (λ l. b ∷ l) (segment_cut word rest (free_tail b word h)))

pub free_drop : (n : ℕ) (p : List ℕ) → has_slash p ≡ false → has_slash (drop n p) ≡ false
free_drop zero p h = h
free_drop (suc n) [] h = refl
free_drop (suc n) (b ∷ p) h = free_drop n p (free_tail b p h)

pub free_no_slash : (p : List ℕ) → has_slash p ≡ false → bytes_eq (slash ∷ []) p ≡ false
free_no_slash [] h = refl
free_no_slash (b ∷ p) h =
    let e : (b == slash) ≡ false = free_head b p h in
    let f : (slash == b) ≡ false = grind (arith, nat_tests) in
    rw f refl

-- the suffix `/` cuts a segment that has a slash behind some bytes, and no other
pub cuts_free : (p : List ℕ) → has_slash p ≡ false → cuts p (slash ∷ []) ≡ false
cuts_free p h =
    rw (free_no_slash (drop (length p - 1) p) (free_drop (length p - 1) p h))
    (by (ltb 1 (length p)))
  where
    by : (v : Bool) → (v && false) ≡ false
    by true = refl
    by false = refl

pub cuts_part : (b : ℕ) (part : List ℕ) → cuts ((b ∷ part) ++ slash ∷ []) (slash ∷ []) ≡ true
cuts_part b part =
    let n : length (part ++ slash ∷ []) ≡ length part + 1 = search length-append in
    let l : ltb 1 (length ((b ∷ part) ++ slash ∷ [])) ≡ true = grind (arith, nat_tests) in
    let d : drop (length ((b ∷ part) ++ slash ∷ []) - 1) ((b ∷ part) ++ slash ∷ []) ≡ slash ∷ [] =
    drop_at (b ∷ part) (slash ∷ []) _ (omega arith) in
    rw (l, d) refl

-- bytes, none a slash
abbrev pub IsWord : List ℕ → Type 0
IsWord [] = Unit {0}
IsWord (x ∷ w) = (x < 256) × ((x == slash) ≡ false) × IsWord w

pub drop_behind : (word rest : List ℕ) → drop (length word + 1) (word ++ slash ∷ rest) ≡ rest
drop_behind [] rest = refl
drop_behind (b ∷ word) rest =
    let e : suc (length word) + 1 ≡ suc (length word + 1) = omega arith in
    rw e (drop_behind word rest)

-- a word that is not a literal word differs from it, as it ends and as more follows
pub differs_end : (word w : List ℕ) → IsWord w → bytes_eq word w ≡ false → Differs word w
differs_end [] [] h e = absurd (true≢false e)
differs_end [] (x ∷ w) h e = (h.0, h.1)
differs_end (b ∷ word) [] h e = tt
differs_end (b ∷ word) (x ∷ w) h e = (h.0, λ s. differs_end word w h.2 (by s e))
  where
    by : (x == b) ≡ true → bytes_eq (b ∷ word) (x ∷ w) ≡ false → bytes_eq word w ≡ false
    by s e =
        let t : (b == x) ≡ true = grind (arith, nat_tests) in
        rw t at e

pub differs_more : (word w t : List ℕ) → IsWord w → has_slash word ≡ false
    → bytes_eq word w ≡ false → Differs word (w ++ slash ∷ t)
differs_more [] [] t h f e = absurd (true≢false e)
differs_more [] (x ∷ w) t h f e = (h.0, h.1)
differs_more (b ∷ word) [] t h f e =
    let n : (b == slash) ≡ false = free_head b word f in (
      lit< tt,
      λ s. absurd (let m : (slash == b) ≡ false = grind (arith, nat_tests) in
          true≢false (sym s ∙ m)),
    )
differs_more (b ∷ word) (x ∷ w) t h f e =
    (h.0, λ s. differs_more word w t h.2 (free_tail b word f) (by s e))
  where
    by : (x == b) ≡ true → bytes_eq (b ∷ word) (x ∷ w) ≡ false → bytes_eq word w ≡ false
    by s e =
        let t : (b == x) ≡ true = grind (arith, nat_tests) in
        rw t at e

-- the parts of a text at a slash are texts
pub utf8_before : (word rest : List ℕ) → IsUtf8 (word ++ slash ∷ rest) → IsUtf8 word
utf8_before word rest u =
    let bs = word ++ slash ∷ rest in
    let g : get_or bs (length word) 0 ≡ 47 = get_or_at word slash rest 0 (length word) refl in
    let l : length bs ≡ length word + length (slash ∷ rest) = search length-append in
    subst IsUtf8 (take_at word (slash ∷ rest) (length word) refl)
    (IsUtf8-take bs (length word) u
    (IsCharBoundary-before_ascii bs (length word) (omega arith) (omega arith)))

pub utf8_behind : (word rest : List ℕ) → IsUtf8 (word ++ slash ∷ rest) → IsUtf8 rest
utf8_behind word rest u =
    let bs = word ++ slash ∷ rest in
    let g : get_or bs (length word) 0 ≡ 47 = get_or_at word slash rest 0 (length word) refl in
    let l : length bs ≡ length word + length (slash ∷ rest) = search length-append in
    let d : drop (length word + 1) bs ≡ rest = drop_behind word rest in
    subst IsUtf8 d
    (IsUtf8-drop bs (length word + 1) u
    (IsCharBoundary-after_ascii bs (length word) u (omega arith) (omega arith)))
