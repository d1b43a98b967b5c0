-- The router's answer at every path is what is found at its segments.
use Rattle.std.proofs.Common.{◌≡◌, ◌⊎◌, inl, inr, ℕ, suc, ◌+◌, ◌<◌, List, [], ◌∷◌, ◌++◌, get_or, drop, Option, Some, None, Bool, true, false, cond, refl, sym, ap, ◌∙◌, subst, arith, ◌==◌, codes, length, length-append, append_assoc}
use Rattle.std.proofs.lemmas.Bool.Decides.{nat_tests}
use Rattle.std.proofs.lemmas.Slice.Eq.{bytes_eq-Decides}
use Rattle.std.specs.Str.{bytes_eq, IsUtf8}
use Rattle.matchit.specs.Rows.{RowsOf, param_token}
use Rattle.matchit.specs.Seek.{step, first, has_slash, slash}
use Rattle.matchit.specs.Router.{RouteOf}
use Rattle.matchit.specs.Params.{walk, Shows}
use Rattle.matchit.proofs.OnLiterals.{matchit_on_literals}
use Rattle.office_routes.specs.declared.spot.Spot.{Spot}
use Rattle.office_routes.specs.declared.spot.Spot.TheVariants.{Sheet, Sample, Packs}
use Rattle.office_routes.specs.Spots.{segments, Found, find, found_at, found_part, found_detail, found_page, with_text}
use Rattle.office_routes.specs.Rows.{office_rows, rows_row, shipment_row, summary_row, sheet_row, sample_row, packs_row, pack_row, lane_row}
use Rattle.office_routes.proofs.Seeking.{plain_along, first_literal, first_single, first_differ, first_differ_more, AllDiffer, seek_byte, seek_empty, first_end}
use Rattle.office_routes.proofs.Cuts.{Cut, cut, segments_one, segments_more, segments_cut, segments_some, slash_in, differs_end, differs_more, utf8_before, utf8_behind}
use Rattle.office_routes.proofs.Taking.{alone, three, suffixes, first_alone, first_alone_slash, first_three, first_three_empty, first_three_cut, IsHeadByte, walk_end, walk_last, walk_before}

-- ---- what a row tells

-- what the parameters of a row took of a path, each with its name
abbrev pub taken_by : RouteOf Spot → List ℕ → List (List ℕ × List ℕ)
taken_by row path = walk row.pattern row.text path row.names 0 0

-- a text is what the first parameter took, and empty where there is none
abbrev pub TellsText : List ℕ → List (List ℕ × List ℕ) → Type 0
TellsText text [] = text ≡ []
TellsText text (pair ∷ others) = (pair.1 ≡ text) × IsUtf8 pair.1

-- two texts are what the first two took
abbrev pub TellsTexts : List ℕ → List ℕ → List (List ℕ × List ℕ) → Type 0
TellsTexts text more taken = TellsText text taken × TellsText more (drop 1 taken)

-- the row of a path tells what is found there
abbrev pub Tells : List ℕ → Option (RouteOf Spot) → Option Found → Type 0
Tells path None None = Unit {0}
Tells path None (Some found) = ⊥
Tells path (Some row) None = ⊥
Tells path (Some row) (Some found) =
    (row.value ≡ found.0) × TellsTexts found.1 found.2 (taken_by row path)

abbrev pub TellsAt : List ℕ → Type 0
TellsAt path = Tells path (first office_rows path) (find path)

-- the row and what is found, each told by an equation
tells_by : (path : List ℕ) (row : Option (RouteOf Spot)) (found : Option Found)
    → first office_rows path ≡ row → find path ≡ found → Tells path row found → TellsAt path
tells_by path row found d e t = rw (d, e) t

-- neither a row nor anything else
tells_none : (path : List ℕ) → first office_rows path ≡ None → find path ≡ None → TellsAt path
tells_none path d e = tells_by path None None d e tt

-- ---- words and bytes

same_bytes : (a b : List ℕ) → bytes_eq a b ≡ true → a ≡ b
same_bytes a b e = (bytes_eq-Decides a b).0 e

-- all of a list are bytes
abbrev pub InRange : List ℕ → Type 0
InRange path = (i : ℕ) → get_or path i 0 < 256

head_in_range : (p : List ℕ) → InRange p → IsHeadByte p
head_in_range [] r = tt
head_in_range (b ∷ p) r = r 0

range_behind : (word rest : List ℕ) → InRange (word ++ slash ∷ rest) → InRange rest
range_behind [] rest r = λ i. r (suc i)
range_behind (b ∷ word) rest r = range_behind word rest (λ i. r (suc i))

-- what follows a word
abbrev behind_word : List ℕ → List ℕ → List ℕ
behind_word word rest = slash ∷ (word ++ slash ∷ rest)

-- the rows behind the first slash
abbrev behind : RowsOf (RouteOf Spot)
behind = step slash office_rows

first_behind : (p : List ℕ) → first office_rows (slash ∷ p) ≡ first behind p
first_behind p = seek_byte office_rows slash p refl refl

-- nothing is found at six segments and more
longest : (word part detail q : List ℕ) → Cut q
    → found_at ([] ∷ word ∷ part ∷ detail ∷ segments q) ≡ None
longest word part detail q c =
    let some = segments_some c.rest in
    let is : segments q ≡ c.word ∷ some.0 ∷ some.1 =
    segments_cut q c ∙ ap (λ l. c.word ∷ l) some.2 in
    rw is refl

-- nor at five and more, where no fifth is found
longer : (word part detail q : List ℕ)
    → ((number : List ℕ) → found_page word part detail number ≡ None)
    → found_at ([] ∷ word ∷ part ∷ detail ∷ segments q) ≡ None
longer word part detail q page = elim (cut q) [
  | inl h ↦
      ap (λ l. found_at ([] ∷ word ∷ part ∷ detail ∷ l)) (segments_one q h) ∙ page q
  | inr c ↦ longest word part detail q c
]

too_long : (word part q : List ℕ) → Cut q
    → ((detail number : List ℕ) → found_page word part detail number ≡ None)
    → found_at ([] ∷ word ∷ part ∷ segments q) ≡ None
too_long word part q c page =
    ap (λ l. found_at ([] ∷ word ∷ part ∷ l)) (segments_cut q c)
    ∙ longer word part c.word c.rest (page c.word)

-- ---- one word

-- a word that is none of the six
others_differ : (word : List ℕ) → has_slash word ≡ false → bytes_eq word (codes "acts") ≡ false
    → bytes_eq word (codes "summary") ≡ false → bytes_eq word (codes "batches") ≡ false
    → bytes_eq word (codes "packs") ≡ false → bytes_eq word (codes "lanes") ≡ false
    → bytes_eq word (codes "rows") ≡ false → AllDiffer word behind
others_differ word h a s b p l w = (
  differs_more word (codes "acts") (param_token ∷ []) (search arith) h a,
  (
    differs_end word (codes "acts") (search arith) a,
    (
      differs_more word (codes "batches") (param_token ∷ (codes "/packs/" ++ param_token ∷ []))
          (search arith) h b,
      (
        differs_more word (codes "batches") (param_token ∷ codes "/sample") (search arith) h b,
        (
          differs_more word (codes "batches") (param_token ∷ []) (search arith) h b,
          (
            differs_more word (codes "lanes") (param_token ∷ []) (search arith) h l,
            (
              differs_more word (codes "packs") (param_token ∷ []) (search arith) h p,
              (
                differs_more word (codes "rows") (param_token ∷ []) (search arith) h w,
                (differs_end word (codes "summary") (search arith) s, tt),
              ),
            ),
          ),
        ),
      ),
    ),
  ),
)

tells_acts : TellsAt (codes "/acts")
unfolding matchit_on_literals
tells_acts = (refl, (refl, refl))

tells_summary : TellsAt (codes "/summary")
unfolding matchit_on_literals
tells_summary = (refl, (refl, refl))

tells_batches_alone : TellsAt (codes "/batches")
unfolding matchit_on_literals
tells_batches_alone = tt

tells_packs_alone : TellsAt (codes "/packs")
unfolding matchit_on_literals
tells_packs_alone = tt

tells_lanes_alone : TellsAt (codes "/lanes")
unfolding matchit_on_literals
tells_lanes_alone = tt

tells_rows_alone : TellsAt (codes "/rows")
unfolding matchit_on_literals
tells_rows_alone = tt

-- what holds at a word, and at every other, holds at a word
by_one : (P : List ℕ → Type 0) (word w : List ℕ) → P w → (bytes_eq word w ≡ false → P word)
    → P word
by_one P word w here else_here = by (bytes_eq word w) refl where
  by : (v : Bool) → bytes_eq word w ≡ v → P word
  by true e = subst P (sym (same_bytes word w e)) here
  by false e = else_here e

-- the same of six words
by_word : (P : List ℕ → Type 0) (word : List ℕ) → P (codes "acts") → P (codes "summary")
    → P (codes "batches") → P (codes "packs") → P (codes "lanes") → P (codes "rows")
    → (bytes_eq word (codes "acts") ≡ false → bytes_eq word (codes "summary") ≡ false
    → bytes_eq word (codes "batches") ≡ false → bytes_eq word (codes "packs") ≡ false
    → bytes_eq word (codes "lanes") ≡ false → bytes_eq word (codes "rows") ≡ false → P word)
    → P word
by_word P word acts summary batches packs lanes rows other =
    by_one P word (codes "acts") acts (λ a. by_one P word (codes "summary") summary
    (λ s. by_one P word (codes "batches") batches (λ b. by_one P word (codes "packs") packs
    (λ p. by_one P word (codes "lanes") lanes (λ l. by_one P word (codes "rows") rows
    (λ w. other a s b p l w))))))

-- one word alone
tells_word : (p : List ℕ) → has_slash p ≡ false → TellsAt (slash ∷ p)
tells_word p h =
    by_word (λ w. TellsAt (slash ∷ w)) p tells_acts tells_summary tells_batches_alone
    tells_packs_alone tells_lanes_alone tells_rows_alone
    (λ a s b k l w. tells_none (slash ∷ p)
    (first_behind p ∙ first_differ p behind (others_differ p h a s b k l w))
    (ap (λ q. found_at ([] ∷ q)) (segments_one p h) ∙ rw (a, s) refl))

-- ---- a word, and a parameter

-- a route that ends with its parameter, behind a word
module _ (row : RouteOf Spot) (word name : List ℕ)
    (reads : (rest : List ℕ) → first office_rows (behind_word word rest) ≡ first (alone row) rest)
    (free : has_slash word ≡ false)
    (part : (text : List ℕ) → found_part word text ≡ with_text row.value text)
    (detail : (text more : List ℕ) → found_detail word text more ≡ None)
    (page : (text more number : List ℕ) → found_page word text more number ≡ None)
    (walked : (rest : List ℕ) → taken_by row (behind_word word rest) ≡ (name, rest) ∷ []) where
  tells_alone : (rest : List ℕ) → IsUtf8 rest → IsHeadByte rest → TellsAt (behind_word word rest)
  tells_alone rest u r =
      by (cut rest) rest refl u r
      (let cuts : segments (behind_word word rest) ≡ [] ∷ word ∷ segments rest =
      ap (λ l. [] ∷ l) (segments_more word rest free) in cuts)
    where
      none : (text more : List ℕ) → (has_slash more ≡ false) ⊎ Cut more
          → found_at ([] ∷ word ∷ text ∷ segments more) ≡ None
      none text more (inl h) =
          ap (λ l. found_at ([] ∷ word ∷ text ∷ l)) (segments_one more h) ∙ detail text more
      none text more (inr c) = too_long word text more c (page text)

      by : (has_slash rest ≡ false) ⊎ Cut rest → (q : List ℕ) → rest ≡ q → IsUtf8 q → IsHeadByte q
          → segments (behind_word word rest) ≡ [] ∷ word ∷ segments rest
          → TellsAt (behind_word word rest)
      by (inl h) [] e u r s =
          tells_none (behind_word word rest)
          (reads rest ∙ ap (first (alone row)) e ∙ first_end (alone row))
          (ap found_at s ∙ ap (λ q. found_at ([] ∷ word ∷ segments q)) e ∙ part [])
      by (inl h) (b ∷ q) e u r s =
          tells_by (behind_word word rest) (Some row) (Some (row.value, b ∷ q, []))
          (reads rest ∙ ap (first (alone row)) e
          ∙ first_alone row b q r (subst (λ l. has_slash l ≡ false) e h))
          (ap found_at s ∙ ap (λ l. found_at ([] ∷ word ∷ l)) (segments_one rest h)
          ∙ ap (found_part word) e ∙ part (b ∷ q)) (
            refl,
            subst (TellsTexts (b ∷ q) []) (sym (walked rest)) ((e, subst IsUtf8 (sym e) u), refl),
          )
      by (inr c) q e u r s =
          let slashed : has_slash rest ≡ true = ap has_slash c.whole ∙ slash_in c.word c.rest in
          let cuts : segments rest ≡ c.word ∷ segments c.rest = segments_cut rest c in
          tells_none (behind_word word rest)
          (reads rest ∙ first_alone_slash row rest (subst IsHeadByte (sym e) r) slashed)
          (ap found_at s ∙ ap (λ l. found_at ([] ∷ word ∷ l)) cuts
          ∙ none c.word c.rest (cut c.rest))

tells_packs : (rest : List ℕ) → IsUtf8 rest → IsHeadByte rest → TellsAt (codes "/packs/" ++ rest)
tells_packs rest u r =
    tells_alone pack_row (codes "packs") (codes "number")
    (λ q. first_literal (codes "/packs/") office_rows q
    (plain_along (codes "/packs/") office_rows refl))
    refl (λ text. refl) (λ text more. refl) (λ text more number. refl)
    (λ q. walk_last (codes "/packs/") (codes "/packs/{number}") q (8, 14) (search arith)
    (λ path at. refl)) rest u r

tells_lanes : (rest : List ℕ) → IsUtf8 rest → IsHeadByte rest → TellsAt (codes "/lanes/" ++ rest)
tells_lanes rest u r =
    tells_alone lane_row (codes "lanes") (codes "number")
    (λ q. first_literal (codes "/lanes/") office_rows q
    (plain_along (codes "/lanes/") office_rows refl))
    refl (λ text. refl) (λ text more. refl) (λ text more number. refl)
    (λ q. walk_last (codes "/lanes/") (codes "/lanes/{number}") q (8, 14) (search arith)
    (λ path at. refl)) rest u r

tells_acts_more : (rest : List ℕ) → IsUtf8 rest → IsHeadByte rest → TellsAt (codes "/acts/" ++ rest)
tells_acts_more rest u r =
    tells_alone rows_row (codes "acts") (codes "number")
    (λ q. first_literal (codes "/acts/") office_rows q
    (plain_along (codes "/acts/") office_rows refl))
    refl (λ text. refl) (λ text more. refl) (λ text more number. refl)
    (λ q. walk_last (codes "/acts/") (codes "/acts/{number}") q (7, 13) (search arith)
    (λ path at. refl)) rest u r

tells_rows : (rest : List ℕ) → IsUtf8 rest → IsHeadByte rest → TellsAt (codes "/rows/" ++ rest)
tells_rows rest u r =
    tells_alone shipment_row (codes "rows") (codes "number")
    (λ q. first_literal (codes "/rows/") office_rows q
    (plain_along (codes "/rows/") office_rows refl))
    refl (λ text. refl) (λ text more. refl) (λ text more number. refl)
    (λ q. walk_last (codes "/rows/") (codes "/rows/{number}") q (7, 13) (search arith)
    (λ path at. refl)) rest u r

-- ---- batches

-- what is read behind a batch's name and a slash, and behind `/batches/`
abbrev pub behind_name : RowsOf (RouteOf Spot)
behind_name = suffixes (codes "packs/" ++ param_token ∷ []) packs_row (codes "sample") sample_row

abbrev pub at_name : RowsOf (RouteOf Spot)
at_name = three (codes "packs/" ++ param_token ∷ []) packs_row (codes "sample") sample_row sheet_row

reads_batches : (rest : List ℕ) → first office_rows (codes "/batches/" ++ rest)
    ≡ first at_name rest
reads_batches rest =
    first_literal (codes "/batches/") office_rows rest
    (plain_along (codes "/batches/") office_rows refl)

-- nothing is found at an empty name, nor behind it
no_name : (more : List ℕ) → found_at ([] ∷ codes "batches" ∷ [] ∷ segments more) ≡ None
no_name more = elim (cut more) [
  | inl h ↦
      ap (λ l. found_at ([] ∷ codes "batches" ∷ [] ∷ l)) (segments_one more h)
      ∙ by (bytes_eq more (codes "sample"))
  | inr n ↦
      too_long (codes "batches") [] more n (λ detail number. by (bytes_eq detail (codes "packs")))
]
  where
    by : (v : Bool) → cond {A = Option Found} v None None ≡ None
    by true = refl
    by false = refl

reads_sample : first behind_name (codes "sample") ≡ Some sample_row
unfolding matchit_on_literals
reads_sample = refl

reads_packs_alone : first behind_name (codes "packs") ≡ None
unfolding matchit_on_literals
reads_packs_alone = refl

reads_sample_more : (more : List ℕ) → first behind_name (codes "sample" ++ slash ∷ more) ≡ None
reads_sample_more more =
    first_literal (codes "sample") behind_name (slash ∷ more)
    (plain_along (codes "sample") behind_name refl)
    ∙ first_single [] sample_row (slash ∷ more) tt

reads_page : (number : List ℕ) → first behind_name (codes "packs/" ++ number)
    ≡ first (alone packs_row) number
reads_page number =
    first_literal (codes "packs/") behind_name number
    (plain_along (codes "packs/") behind_name refl)

-- a word behind the name that is neither of two
neither_differs : (word : List ℕ) → has_slash word ≡ false
    → bytes_eq word (codes "sample") ≡ false → bytes_eq word (codes "packs") ≡ false
    → AllDiffer word behind_name
neither_differs word h s p = (
  differs_more word (codes "packs") (param_token ∷ []) (search arith) h p,
  (differs_end word (codes "sample") (search arith) s, tt),
)

-- behind a name, which isn't empty
module _ (b : ℕ) (part : List ℕ) (byte : b < 256) (free : has_slash (b ∷ part) ≡ false)
    (text : IsUtf8 (b ∷ part)) where
  abbrev path_of : List ℕ → List ℕ
  path_of rest = codes "/batches/" ++ ((b ∷ part) ++ slash ∷ rest)

  reads_name : (rest : List ℕ) → first office_rows (path_of rest) ≡ first behind_name rest
  reads_name rest =
      reads_batches ((b ∷ part) ++ slash ∷ rest)
      ∙ first_three_cut (codes "packs/" ++ param_token ∷ []) packs_row (codes "sample") sample_row
      sheet_row b part rest byte free

  finds_name : (rest : List ℕ)
      → find (path_of rest) ≡ found_at ([] ∷ codes "batches" ∷ (b ∷ part) ∷ segments rest)
  finds_name rest =
      ap (λ l. found_at ([] ∷ codes "batches" ∷ l)) (segments_more (b ∷ part) rest free)

  none_behind_name : (rest : List ℕ) → first behind_name rest ≡ None
      → found_at ([] ∷ codes "batches" ∷ (b ∷ part) ∷ segments rest) ≡ None
      → TellsAt (path_of rest)
  none_behind_name rest d e =
      tells_none (path_of rest) (reads_name rest ∙ d) (finds_name rest ∙ e)

  -- the sample
  tells_sample : TellsAt (path_of (codes "sample"))
  tells_sample =
      tells_by (path_of (codes "sample")) (Some sample_row) (Some (Sample, b ∷ part, []))
      (reads_name (codes "sample") ∙ reads_sample) (finds_name (codes "sample")) (
        refl,
        subst (TellsTexts (b ∷ part) [])
            (sym (walk_before (codes "/batches/") (codes "sample") (codes "/batches/{name}/sample")
            (b ∷ part) (codes "sample") (10, 14) [] (search arith) free (λ path at. refl)))
            ((refl, text), refl),
      )

  -- one segment
  tells_detail : (rest : List ℕ) → has_slash rest ≡ false → TellsAt (path_of rest)
  tells_detail rest h =
      by_one (λ w. TellsAt (path_of w)) rest (codes "sample") tells_sample
      (λ s. by_one (λ w. TellsAt (path_of w)) rest (codes "packs")
      (none_behind_name (codes "packs") reads_packs_alone refl)
      (λ p. none_behind_name rest (first_differ rest behind_name (neither_differs rest h s p))
      (ap (λ l. found_at ([] ∷ codes "batches" ∷ (b ∷ part) ∷ l)) (segments_one rest h)
      ∙ rw s refl)))

  -- what the two parameters took
  page_taken : (number : List ℕ) → taken_by packs_row (path_of (codes "packs/" ++ number))
      ≡ (codes "name", b ∷ part) ∷ (codes "number", number) ∷ []
  page_taken number =
      let path = path_of (codes "packs/" ++ number) in
      let lead = codes "/batches/" ++ ((b ∷ part) ++ codes "/packs/") in
      let n : length ((b ∷ part) ++ codes "/packs/") ≡ length (b ∷ part) + 7 =
      length-append (b ∷ part) (codes "/packs/") in
      let m : length lead ≡ 9 + length ((b ∷ part) ++ codes "/packs/") =
      length-append (codes "/batches/") ((b ∷ part) ++ codes "/packs/") in
      let long : (9 + length (b ∷ part)) + 7 ≡ length lead = omega (arith, n, m) in
      walk_before (codes "/batches/") (codes "packs/" ++ param_token ∷ []) packs_row.text (b ∷ part)
      (codes "packs/" ++ number) (10, 14) ((23, 29) ∷ []) (search arith) free (λ path at. refl)
      ∙ ap (λ l. (codes "name", b ∷ part) ∷ l)
      (walk_end packs_row.pattern packs_row.text path lead number (codes "/packs/") (23, 29) 10
      (9 + length (b ∷ part)) refl
      (ap (λ l. codes "/batches/" ++ l) (sym (append_assoc (b ∷ part) (codes "/packs/") number)))
      long (search arith) (λ place. refl))

  -- the page of its packs
  tells_page : (number : List ℕ) → IsUtf8 number → IsHeadByte number
      → TellsAt (path_of (codes "packs/" ++ number))
  tells_page [] u r =
      none_behind_name (codes "packs/") (reads_page [] ∙ first_end (alone packs_row)) refl
  tells_page (d ∷ q) u r = by (cut (d ∷ q))
    where
      by : (has_slash (d ∷ q) ≡ false) ⊎ Cut (d ∷ q) → TellsAt (path_of (codes "packs/" ++ d ∷ q))
      by (inl h) =
          tells_by (path_of (codes "packs/" ++ d ∷ q)) (Some packs_row)
          (Some (Packs, b ∷ part, d ∷ q))
          (reads_name (codes "packs/" ++ d ∷ q) ∙ reads_page (d ∷ q)
          ∙ first_alone packs_row d q r h)
          (finds_name (codes "packs/" ++ d ∷ q)
          ∙ ap (λ l. found_at ([] ∷ codes "batches" ∷ (b ∷ part) ∷ codes "packs" ∷ l))
          (segments_one (d ∷ q) h)) (
            refl,
            subst (TellsTexts (b ∷ part) (d ∷ q)) (sym (page_taken (d ∷ q)))
                ((refl, text), (refl, u)),
          )
      by (inr c) =
          let slashed : has_slash (d ∷ q) ≡ true =
          ap has_slash c.whole ∙ slash_in c.word c.rest in
          none_behind_name (codes "packs/" ++ d ∷ q)
          (reads_page (d ∷ q) ∙ first_alone_slash packs_row (d ∷ q) r slashed)
          (longest (codes "batches") (b ∷ part) (codes "packs") (d ∷ q) c)

  -- a segment, and more
  tells_details : (word more : List ℕ) → has_slash word ≡ false → IsUtf8 more → IsHeadByte more
      → TellsAt (path_of (word ++ slash ∷ more))
  tells_details word more h u r =
      by_one (λ w. TellsAt (path_of (w ++ slash ∷ more))) word (codes "packs")
      (tells_page more u r)
      (λ p. by_one (λ w. TellsAt (path_of (w ++ slash ∷ more))) word (codes "sample")
      (none_behind_name (codes "sample" ++ slash ∷ more) (reads_sample_more more)
      (longer (codes "batches") (b ∷ part) (codes "sample") more (λ number. refl)))
      (λ s. none_behind_name (word ++ slash ∷ more)
      (first_differ_more word behind_name more (neither_differs word h s p))
      (ap (λ l. found_at ([] ∷ codes "batches" ∷ (b ∷ part) ∷ l)) (segments_more word more h)
      ∙ longer (codes "batches") (b ∷ part) word more (λ number. rw p refl))))

  -- all that may stand there
  tells_behind_name : (rest : List ℕ) → IsUtf8 rest → InRange rest → TellsAt (path_of rest)
  tells_behind_name rest u r = by (cut rest)
    where
      by : (has_slash rest ≡ false) ⊎ Cut rest → TellsAt (path_of rest)
      by (inl h) = tells_detail rest h
      by (inr c) =
          subst (λ l. TellsAt (path_of l)) (sym c.whole)
          (tells_details c.word c.rest c.free
          (utf8_behind c.word c.rest (subst IsUtf8 c.whole u))
          (head_in_range c.rest (range_behind c.word c.rest (subst InRange c.whole r))))

tells_name : (word more : List ℕ) → has_slash word ≡ false → IsUtf8 (word ++ slash ∷ more)
    → InRange (word ++ slash ∷ more) → TellsAt (codes "/batches/" ++ (word ++ slash ∷ more))
tells_name [] more h u r =
    tells_none (codes "/batches/" ++ slash ∷ more)
    (reads_batches (slash ∷ more)
    ∙ first_three_empty (codes "packs/" ++ param_token ∷ []) packs_row (codes "sample") sample_row
    sheet_row more)
    (no_name more)
tells_name (b ∷ part) more h u r =
    tells_behind_name b part (r 0) h (utf8_before (b ∷ part) more u) more
    (utf8_behind (b ∷ part) more u) (range_behind (b ∷ part) more r)

tells_batches : (rest : List ℕ) → IsUtf8 rest → InRange rest → TellsAt (codes "/batches/" ++ rest)
tells_batches [] u r =
    tells_none (codes "/batches/") (reads_batches [] ∙ first_end at_name) refl
tells_batches (b ∷ q) u r = by (cut (b ∷ q))
  where
    by : (has_slash (b ∷ q) ≡ false) ⊎ Cut (b ∷ q) → TellsAt (codes "/batches/" ++ b ∷ q)
    by (inl h) =
        tells_by (codes "/batches/" ++ b ∷ q) (Some sheet_row) (Some (Sheet, b ∷ q, []))
        (reads_batches (b ∷ q)
        ∙ first_three (codes "packs/" ++ param_token ∷ []) packs_row (codes "sample") sample_row
        sheet_row b q (r 0) h)
        (ap (λ l. found_at ([] ∷ codes "batches" ∷ l)) (segments_one (b ∷ q) h)) (
          refl,
          subst (TellsTexts (b ∷ q) [])
              (sym (walk_last (codes "/batches/") (codes "/batches/{name}") (b ∷ q) (10, 14)
              (search arith) (λ path at. refl)))
              ((refl, u), refl),
        )
    by (inr c) =
        subst (λ l. TellsAt (codes "/batches/" ++ l)) (sym c.whole)
        (tells_name c.word c.rest c.free (subst IsUtf8 c.whole u) (subst InRange c.whole r))

-- ---- every path

-- nothing is found behind a word that has no parameter
none_behind : (word rest : List ℕ) → bytes_eq word (codes "acts") ≡ false
    → bytes_eq word (codes "batches") ≡ false → bytes_eq word (codes "packs") ≡ false
    → bytes_eq word (codes "lanes") ≡ false → bytes_eq word (codes "rows") ≡ false
    → found_at ([] ∷ word ∷ segments rest) ≡ None
none_behind word rest a b p l w = elim (cut rest) [
  | inl h ↦ rw (segments_one rest h, b, p, l, a, w) refl
  | inr c ↦
      let e : segments rest ≡ c.word ∷ segments c.rest = segments_cut rest c in elim (cut c.rest) [
        | inl h ↦ rw (e, segments_one c.rest h, b) refl
        | inr n ↦ rw e (too_long word c.word c.rest n (λ detail number. rw b refl))
      ]
]

tells_summary_more : (rest : List ℕ) → TellsAt (codes "/summary" ++ slash ∷ rest)
tells_summary_more rest =
    tells_none (codes "/summary" ++ slash ∷ rest)
    (first_literal (codes "/summary") office_rows (slash ∷ rest)
    (plain_along (codes "/summary") office_rows refl)
    ∙ first_single [] summary_row (slash ∷ rest) tt)
    (none_behind (codes "summary") rest refl refl refl refl refl)

-- a word, and what is looked for behind it
tells_more : (word rest : List ℕ) → has_slash word ≡ false → IsUtf8 rest → InRange rest
    → TellsAt (behind_word word rest)
tells_more word rest h u r =
    let head = head_in_range rest r in
    by_word (λ w. TellsAt (behind_word w rest)) word (tells_acts_more rest u head)
    (tells_summary_more rest) (tells_batches rest u r) (tells_packs rest u head)
    (tells_lanes rest u head) (tells_rows rest u head)
    (λ a s b k l w. tells_none (behind_word word rest)
    (first_behind (word ++ slash ∷ rest)
    ∙ first_differ_more word behind rest (others_differ word h a s b k l w))
    (ap (λ q. found_at ([] ∷ q)) (segments_more word rest h) ∙ none_behind word rest a b k l w))

-- a path that doesn't begin with a slash
tells_other : (b : ℕ) (p : List ℕ) → (b == slash) ≡ false → TellsAt (b ∷ p)
tells_other b p e =
    let n : (slash == b) ≡ false = grind (arith, nat_tests) in
    let none : step b office_rows ≡ [] = rw n (refl {a = []}) in
    let some = segments_some p in
    let is : segments (b ∷ p) ≡ (b ∷ some.0) ∷ some.1 = rw (e, some.2) refl in
    tells_none (b ∷ p)
    (seek_byte office_rows b p refl refl ∙ ap (λ rows. first rows p) none ∙ seek_empty 0 p)
    (ap found_at is)

-- at every path of bytes that is a text
pub tells : (path : List ℕ) → IsUtf8 path → InRange path → TellsAt path
tells [] u r = tells_none [] (first_end office_rows) refl
tells (b ∷ p) u r = by (b == slash) refl
  where
    cuts : (has_slash p ≡ false) ⊎ Cut p → IsUtf8 (slash ∷ p) → TellsAt (slash ∷ p)
    cuts (inl h) u = tells_word p h
    cuts (inr c) u =
        let text : IsUtf8 ((slash ∷ c.word) ++ slash ∷ c.rest) =
        subst (λ l. IsUtf8 (slash ∷ l)) c.whole u in
        let range : InRange p = λ i. r (suc i) in
        subst (λ l. TellsAt (slash ∷ l)) (sym c.whole)
        (tells_more c.word c.rest c.free (utf8_behind (slash ∷ c.word) c.rest text)
        (range_behind c.word c.rest (subst InRange c.whole range)))

    by : (v : Bool) → (b == slash) ≡ v → TellsAt (b ∷ p)
    by true e =
        let is : b ≡ slash = grind (arith, nat_tests) in
        subst (λ x. TellsAt (x ∷ p)) (sym is) (cuts (cut p) (subst (λ x. IsUtf8 (x ∷ p)) is u))
    by false e = tells_other b p e

-- ---- what a row tells of what is found

pub told_none : (path : List ℕ) (found : Option Found) → Tells path None found
    → None ≡ found
told_none path None t = refl
told_none path (Some f) t = absurd t

-- a row without a parameter, with one, and with two
pub told_plain : (path : List ℕ) (row : RouteOf Spot) (found : Option Found)
    → Tells path (Some row) found → taken_by row path ≡ [] → Some (row.value, [], []) ≡ found
told_plain path row None t e = absurd t
told_plain path row (Some found) t e =
    let told : TellsTexts found.1 found.2 [] = subst (TellsTexts found.1 found.2) e t.1 in
    λ i. Some (t.0 i, sym told.0 i, sym told.1 i)

pub told_part : (path : List ℕ) (row : RouteOf Spot) (found : Option Found)
    (pair : List ℕ × List ℕ) (text : List ℕ) → Tells path (Some row) found
    → taken_by row path ≡ pair ∷ [] → Shows pair.1 text → Some (row.value, text, []) ≡ found
told_part path row None pair text t e s = absurd t
told_part path row (Some found) pair text t e s =
    let told : TellsTexts found.1 found.2 (pair ∷ []) =
    subst (TellsTexts found.1 found.2) e t.1 in
    λ i. Some (t.0 i, (s told.0.1 ∙ told.0.0) i, sym told.1 i)

pub told_parts : (path : List ℕ) (row : RouteOf Spot) (found : Option Found)
    (pair next : List ℕ × List ℕ) (others : List (List ℕ × List ℕ)) (text more : List ℕ)
    → Tells path (Some row) found → taken_by row path ≡ pair ∷ next ∷ others → Shows pair.1 text
    → Shows next.1 more → Some (row.value, text, more) ≡ found
told_parts path row None pair next others text more t e s m = absurd t
told_parts path row (Some found) pair next others text more t e s m =
    let told : TellsTexts found.1 found.2 (pair ∷ next ∷ others) =
    subst (TellsTexts found.1 found.2) e t.1 in
    λ i. Some (t.0 i, (s told.0.1 ∙ told.0.0) i, (m told.1.1 ∙ told.1.0) i)
