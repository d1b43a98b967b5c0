-- Steps of the walks over content and over slots.
use Rattle.std.proofs.Common.{◌≡◌, ◌⊎◌, inl, inr, ℕ, suc, ◌+◌, ◌-◌, ◌<◌, ◌≤◌, min, List, [], ◌∷◌, ◌++◌, length, drop, Option, Some, None, refl, sym, ◌∙◌, ap, subst, arith, length-drop}
use Rattle.std.proofs.lemmas.List.{drop-drop, drop_all}
use Rattle.book_words.specs.declared.act.Entry.{Entry}
use Rattle.book_snapshot.specs.declared.layout.TheConstants.{ROW_BYTES}
use Rattle.book_snapshot.specs.declared.types.Piece.{Piece}
use Rattle.book_snapshot.specs.declared.types.Piece.TheVariants.{Row, More, Fault}
use Rattle.book_snapshot.specs.Reading.{IsMore, IsFault, EndsEarly, IsFaulty}
use Rattle.book_mount.specs.Listing.{content_rows, behind_form}
use Rattle.book_mount.specs.Opening.{HasRead, HasDamage, slot_row, slots_from}
use Rattle.book_mount.proofs.Forms.{StandsFirst, content_rows-form, content_rows-bad, content_rows-none, content_rows-more, begins_none}

-- what isn't a row goes on behind the bytes or is faulty
pub piece_none : (piece : Piece ROW_BYTES)
    → ((row : List ℕ) (taken : ℕ) → piece ≡ Row row taken → ⊥) → IsMore piece ⊎ IsFault piece
piece_none (Row row taken) other = absurd (other row taken refl)
piece_none More other = inl tt
piece_none Fault other = inr tt

-- a place at which no row stands
pub none_there : (rows left : List (Option (List ℕ))) (entries : List Entry) (number : ℕ)
    → number ≡ length entries + 1 → HasRead rows entries (None ∷ left) → HasDamage rows number
none_there rows left entries number is read =
    record {
      before = entries;
      next = None;
      left = left;
      read = read;
      number = is;
      bad =
          λ entry lawful can same. absurd cc;
    }

-- content that begins with no form
pub form_damaged : (rows left : List (Option (List ℕ))) (entries : List Entry) (number more : ℕ)
    (bytes : List ℕ) → number ≡ length entries + 1
    → EndsEarly ROW_BYTES bytes ⊎ IsFaulty ROW_BYTES bytes
    → HasRead rows entries (content_rows (suc more) number bytes ++ left)
    → HasDamage rows number
form_damaged rows left entries number more bytes is bad read =
    none_there rows left entries number is
    (subst (λ (l : List (Option (List ℕ))). HasRead rows entries (l ++ left))
    (content_rows-bad more number bytes (begins_none bytes bad)) read)

-- content that begins with one
pub form_listed : (rows left : List (Option (List ℕ))) (entries : List Entry)
    (number more taken : ℕ) (bytes row : List ℕ)
    → StandsFirst number bytes row taken
    → HasRead rows entries (content_rows (suc more) number bytes ++ left)
    → HasRead rows entries (Some row ∷ (content_rows more (number + 1) (drop taken bytes) ++ left))
form_listed rows left entries number more taken bytes row first read =
    subst (λ (l : List (Option (List ℕ))). HasRead rows entries (l ++ left))
    (content_rows-form more number bytes first.is
    ∙ ap (λ (r : List ℕ). Some r ∷ content_rows more (number + 1) (behind_form bytes)) first.same
    ∙ ap (λ (l : List ℕ). Some row ∷ content_rows more (number + 1) l) first.behind)
    read

-- the rows of content from a place on
abbrev pub content_left : ℕ → ℕ → ℕ → List ℕ → List (Option (List ℕ))
content_left rows before place content = content_rows (rows - before) (before + 1) (drop place content)

pub content_next : (rows before place : ℕ) (content : List ℕ) → before < rows
    → content_left rows before place content
    ≡ content_rows (suc (rows - (before + 1))) (before + 1) (drop place content)
content_next rows before place content lt =
    let left : rows - before ≡ suc (rows - (before + 1)) = omega (arith, lt) in
    ap (λ (n : ℕ). content_rows n (before + 1) (drop place content)) left

pub content_on : (rows before place taken : ℕ) (content : List ℕ)
    → content_rows (rows - (before + 1)) (before + 1 + 1) (drop taken (drop place content))
    ≡ content_left rows (before + 1) (place + taken) content
content_on rows before place taken content =
    ap (λ (l : List ℕ). content_rows (rows - (before + 1)) (before + 1 + 1) l)
    (drop-drop taken place content)

-- the walk before a form and behind it
pub content_before : (listed left : List (Option (List ℕ))) (entries : List Entry)
    (rows before place : ℕ) (content rest : List ℕ) → before < rows → rest ≡ drop place content
    → HasRead listed entries (content_left rows before place content ++ left)
    → HasRead listed entries (content_rows (suc (rows - (before + 1))) (before + 1) rest
    ++ left)
content_before listed left entries rows before place content rest lt is read =
    subst (λ (l : List (Option (List ℕ))). HasRead listed entries (l ++ left))
    (content_next rows before place content lt
    ∙ ap (λ (l : List ℕ). content_rows (suc (rows - (before + 1))) (before + 1) l) (sym is))
    read

pub content_behind : (listed left : List (Option (List ℕ))) (entries : List Entry)
    (rows before place taken : ℕ) (content rest : List ℕ) → rest ≡ drop place content
    → HasRead listed entries (content_rows (rows - (before + 1)) (before + 1 + 1) (drop taken rest)
    ++ left) → HasRead listed entries
    (content_left rows (before + 1) (place + taken) content ++ left)
content_behind listed left entries rows before place taken content rest is read =
    subst (λ (l : List (Option (List ℕ))). HasRead listed entries (l ++ left))
    (ap (λ (l : List ℕ). content_rows (rows - (before + 1)) (before + 1 + 1) (drop taken l)) is
    ∙ content_on rows before place taken content) read

-- the content ends with its rows
pub content_ends : (rows before place : ℕ) (content : List ℕ) → rows ≤ before
    → length content ≤ place → content_left rows before place content ≡ []
content_ends rows before place content all end =
    let none : rows - before ≡ 0 = omega (arith, all) in
    ap (λ (n : ℕ). content_rows n (before + 1) (drop place content)) none
    ∙ ap (λ (l : List ℕ). content_rows 0 (before + 1) l) (drop_all place content end)
    ∙ content_rows-none (before + 1)

-- or goes on behind them
pub content_goes_on : (rows before place : ℕ) (content : List ℕ) → rows ≤ before
    → place < length content → content_left rows before place content ≡ None ∷ []
content_goes_on rows before place content all more =
    let none : rows - before ≡ 0 = omega (arith, all) in
    ap (λ (n : ℕ). content_rows n (before + 1) (drop place content)) none
    ∙ content_rows-more (before + 1) (drop place content)
    (omega (arith, more, length-drop place content))

-- from the first row on it is the whole content
pub content_whole : (rows : ℕ) (content : List ℕ)
    → content_left rows 0 0 content ≡ content_rows rows 1 content
content_whole rows content =
    let all : rows - 0 ≡ rows = omega arith in
    ap (λ (n : ℕ). content_rows n 1 content) all

-- the slots from a number on
pub slots_next : (count before : ℕ) (bytes : List ℕ) → before < count
    → slots_from (count - before) (before + 1) bytes ≡ Some (slot_row (before + 1) bytes)
    ∷ slots_from (count - (before + 1)) (before + 1 + 1) bytes
unfolding slots_from
slots_next count before bytes lt =
    let left : count - before ≡ suc (count - (before + 1)) = omega (arith, lt) in
    ap (λ (n : ℕ). slots_from n (before + 1) bytes) left

pub slots_none : (count before : ℕ) (bytes : List ℕ) → count ≤ before
    → slots_from (count - before) (before + 1) bytes ≡ []
unfolding slots_from
slots_none count before bytes all =
    let none : count - before ≡ 0 = omega (arith, all) in
    ap (λ (n : ℕ). slots_from n (before + 1) bytes) none

pub slots_first : (count first entries : ℕ) (bytes : List ℕ) → first ≡ entries
    → slots_from (count - entries) (entries + 1) bytes
    ≡ slots_from (count - first) (first + 1) bytes
slots_first count first entries bytes is = ap (λ (n : ℕ). slots_from (count - n) (n + 1) bytes) (sym is)

-- the slots behind the rows of a snapshot that are all read
pub slots_behind_snapshot : (count now first entries : ℕ) (bytes : List ℕ) → now ≡ count
    → entries ≡ min first count → first ≤ count
    → slots_from (count - first) (first + 1) bytes ≡ slots_from (now - entries) (entries + 1) bytes
slots_behind_snapshot count now first entries bytes same is all =
    let read : entries ≡ first = omega (arith, is, all) in
    slots_first count entries first bytes read
    ∙ ap (λ (n : ℕ). slots_from (n - entries) (entries + 1) bytes) (sym same)
