-- `clap` takes the words of the grammar, and keeps the values that the words give.
use Rattle.std.proofs.Common.{◌≡◌, ◌⊎◌, ◌≤◌, ◌∙◌, ◌++◌, ◌&&◌, ◌||◌, ap, sym, subst, refl, inl, inr, ℕ, zero, suc, Bool, true, false, not, List, [], ◌∷◌, Some, None, length, arith}
use Rattle.std.specs.List.{fold, list_all, list_any}
use Rattle.std.specs.Str.{bytes_eq}
use Rattle.std.proofs.lemmas.List.{append-nil, append_assoc, map-append}
use Rattle.std.proofs.lemmas.List.Folds.{list_any-append}
use Rattle.std.proofs.lemmas.Slice.Eq.{bytes_eq-Decides}
use Rattle.clap.specs.Lexer.{long_of}
use Rattle.clap.specs.Simple.{Shape}
use Rattle.clap.specs.Walk.{Held, Text, Walk, has_row, reacted, settled, walk_from, walked}
use Rattle.clap.specs.Takes.{settle_passes, turn_passes, walk_passes}
use Rattle.command_line.specs.Words.{Item, are_taken, gives, is_among, read_items, stands_alone}
use Rattle.command_line.proofs.OneWord.{Knows, attached_passes, attached_walk, built_rule, given, given_rows, given_settles, named_passes, named_walk, no_dashes, plain_word, use_ok, value_passes, value_walk, waits}
use Rattle.command_line.proofs.FirstItems.{Opened, opened}
use Rattle.command_line.proofs.ManyOptions.{knows, shape_for}
use Rattle.command_line.proofs.Rows.{has_given, row_for, rows_for, used_fresh}

pub both : {a b : Bool} → a ≡ true → b ≡ true → (a && b) ≡ true
both {a} {b} p q = rw (p, q) refl

-- the walk passes, ends with this held, and that passes too
pub record Walks (shape : Shape) (from : Walk) (words : List Text) (end : Held) : Type 0 where
  pub passes : walk_passes shape [] from words ≡ true
  pub ends : fold (walked shape.rules []) from words ≡ walk_from end

walks_on : (shape : Shape) (from next : Walk) (word : Text) (words : List Text) (end : Held)
    → turn_passes shape [] from word ≡ true → walked shape.rules [] from word ≡ next
    → Walks shape next words end
    → Walks shape from (word ∷ words) end
unfolding walk_passes
walks_on shape from next word words end turn step on = record {
  passes = both turn (rw step on.passes);
  ends = rw step on.ends;
}

nothing_walks : (shape : Shape) (held : Held) → Walks shape (walk_from held) [] held
unfolding walk_passes
nothing_walks shape held = record { passes = refl; ends = refl }

-- what is held passes
abbrev Settles : Shape → Held → Type 0
Settles shape held = settle_passes shape.rules shape.args_override_self held ≡ true

-- where a walk stands behind an item
record Behind (shape : Shape) (held : Held) (name value : Text) (words rest : List Text) : Type 0 where
  next : Held
  on : (end : Held) → Walks shape (walk_from next) rest end → Walks shape (walk_from held) words end
  settles : Settles shape next
  rows : (settled shape.rules next).rows ≡ (settled shape.rules held).rows ++ row_for name value ∷ []

module _ (shape : Shape) (name value word : Text) (rest : List Text) (held : Held)
    (known : Knows shape name)
    (settles : Settles shape held) (fresh : has_row name (settled shape.rules held).rows ≡ false) where
  behind_attached : long_of word ≡ Some (name, Some value) → Behind shape held name value
      (word ∷ rest) rest
  behind_attached long =
      let plain = no_dashes word _ long in
      let next = reacted shape.rules (built_rule name) (value ∷ []) held in
      record {
        next = next;
        on = λ end. walks_on shape (walk_from held) (walk_from next) word rest end
            (attached_passes shape name value word held known long plain
            (both settles (use_ok shape name value (settled shape.rules held).rows fresh)))
            (attached_walk shape name value word held known long plain);
        settles = refl;
        rows = used_fresh name value (settled shape.rules held).rows fresh;
      }

  behind_named : long_of word ≡ Some (name, None) → stands_alone value ≡ true
      → Behind shape held name value (word ∷ value ∷ rest) rest
  behind_named long alone =
      let plain = plain_word value alone in
      let dashes = no_dashes word _ long in
      record {
        next = given shape name value held;
        on = λ end left. walks_on shape (walk_from held) (waits shape name held) word (value ∷ rest) end
            (named_passes shape name word held known long dashes settles)
            (named_walk shape name word held known long dashes)
            (walks_on shape (waits shape name held) (walk_from
            (given shape name value held)) value rest end
            (value_passes shape name value held known plain)
            (value_walk shape name value held known plain) left);
        settles = given_settles shape name value held known fresh;
        rows = given_rows shape name value held known ∙ used_fresh name value
            (settled shape.rules held).rows fresh;
      }

behind_item : (shape : Shape) (name value word : Text) (words rest : List Text) (held : Held)
    → Knows shape name
    → Settles shape held → has_row name (settled shape.rules held).rows ≡ false
    → ((long_of word ≡ Some (name, Some value)) × (words ≡ rest))
    ⊎ ((long_of word ≡ Some (name, None)) × (words ≡ value ∷ rest) × (stands_alone value ≡ true))
    → Behind shape held name value (word ∷ words) rest
behind_item shape name value word words rest held known settles fresh (inl form) =
    rw form.1 (behind_attached shape name value word rest held known settles fresh form.0)
behind_item shape name value word words rest held known settles fresh (inr form) =
    rw form.1 (behind_named shape name value word rest held known settles fresh form.0 form.2)

-- ---- no item was given before

differs_back : (one other : Text) → bytes_eq one other ≡ false → bytes_eq other one ≡ false
differs_back one other differs = go (bytes_eq other one) refl
  where
    go : (t : Bool) → bytes_eq other one ≡ t → t ≡ false
    go true same =
        let back : bytes_eq one other ≡ true = (bytes_eq-Decides one other).1 (sym
        ((bytes_eq-Decides other one).0 same)) in cc
    go false same = refl

-- none of these items gives a value to an option that has one
abbrev are_fresh : List Item → List Item → Bool
are_fresh before items = list_all (λ item. not (list_any (gives item.name) before)) items

not_either : (a b : Bool) → not a ≡ true → b ≡ false → not (a || (b || false)) ≡ true
not_either true b fresh differs = cc
not_either false true fresh differs = cc
not_either false false fresh differs = refl

both_parts : (a b : Bool) → (a && b) ≡ true → (a ≡ true) × (b ≡ true)
both_parts true b h = (refl, h)
both_parts false b h = cc

neither_part : (a b : Bool) → not (a || b) ≡ true → (a ≡ false) × (not b ≡ true)
neither_part true b h = cc
neither_part false b h = (refl, h)

not_true : (t : Bool) → not t ≡ true → t ≡ false
not_true true h = cc
not_true false h = refl

fresh_more : (before : List Item) (item : Item) (items : List Item)
    → are_fresh before items ≡ true → not (list_any (gives item.name) items) ≡ true
    → are_fresh (before ++ item ∷ []) items ≡ true
fresh_more before item [] fresh once = refl
fresh_more before item (other ∷ items) fresh once =
    let is = both_parts (not (list_any (gives other.name) before)) (are_fresh before items) fresh in
    let differs = neither_part (bytes_eq other.name item.name) (list_any
    (gives item.name) items) once in
    both (rw (list_any-append (gives other.name) before (item ∷ []))
    (not_either (list_any (gives other.name) before) (bytes_eq item.name other.name) is.0
    (differs_back other.name item.name differs.0)))
    (fresh_more before item items is.1 differs.1)

-- ---- the walk over all words

-- `clap` walks over the words, and what it keeps is what the items give
pub record Reads (names : List Text) (held : Held) (words : List Text)
    (given : List Item) : Type 0 where
  pub end : Held
  pub walks : Walks (shape_for names) (walk_from held) words end
  pub settles : settle_passes (shape_for names).rules (shape_for names).args_override_self end ≡ true
  pub rows : (settled (shape_for names).rules end).rows ≡ rows_for given

-- what is held before some words: the rows of the items before them, none of which comes again
record Stands (names : List Text) (held : Held) (before items : List Item) : Type 0 where
  settles : Settles (shape_for names) held
  rows : (settled (shape_for names).rules held).rows ≡ rows_for before
  taken : are_taken names items ≡ true
  fresh : are_fresh before items ≡ true

abbrev ReadsEach : List Text → ℕ → Type 0
ReadsEach names most = (words : List Text) → length words ≤ most → (held : Held)
    (before items : List Item)
    → read_items None words ≡ Some items → Stands names held before items → Reads names held words
    (before ++ items)

reads_none : (names : List Text) (held : Held) (before items : List Item)
    → read_items None [] ≡ Some items → Stands names held before items
    → Reads names held [] (before ++ items)
unfolding read_items
reads_none names held before [] reads stands = record {
  end = held;
  walks = nothing_walks (shape_for names) held;
  settles = stands.settles;
  rows = stands.rows ∙ ap rows_for (sym (append-nil before));
}
reads_none names held before (item ∷ items) reads stands = cc

reads_item : (names : List Text) (most : ℕ) → ReadsEach names most
    → (word : Text) (words : List Text) → length (word ∷ words) ≤ suc most → (held : Held)
    (before : List Item) (name value : Text) (more : List Item)
    → (rest : List Text) → read_items None rest ≡ Some more
    → ((long_of word ≡ Some (name, Some value)) × (words ≡ rest))
    ⊎ ((long_of word ≡ Some (name, None)) × (words ≡ value ∷ rest) × (stands_alone value ≡ true))
    → Stands names held before (record { name = name; value = value } ∷ more)
    → Reads names held (word ∷ words) (before ++ record { name = name; value = value } ∷ more)
reads_item names most reads_rest word words low held before name value more rest reads form stands =
    let item : Item = record { name = name; value = value } in
    let shape = shape_for names in
    let takes = both_parts (is_among names name && not (list_any (gives name) more))
    (are_taken names more) stands.taken in
    let one = both_parts (is_among names name) (not (list_any (gives name) more)) takes.0 in
    let new = both_parts (not (list_any (gives name) before)) (are_fresh before more) stands.fresh in
    let fresh : has_row name (settled shape.rules held).rows ≡ false =
    ap (has_row name) stands.rows ∙ has_given name before ∙ not_true (list_any
    (gives name) before) new.0 in
    let step = behind_item shape name value word words rest held
    (knows names name one.0) stands.settles fresh form in
    let fewer : length rest ≤ most = elim form [
      | inl is ↦ let same : length words ≡ length rest = ap length is.1 in omega arith
      | inr is ↦ let same : length words ≡ suc (length rest) = ap length is.1 in omega arith
    ] in
    let left = reads_rest rest fewer step.next (before ++ item ∷ []) more reads (record {
      settles = step.settles;
      rows = step.rows ∙ ap (λ rows. rows ++ row_for name value ∷ []) stands.rows ∙ sym
          (map-append (λ (i : Item). row_for i.name i.value) before (item ∷ []));
      taken = takes.1;
      fresh = fresh_more before item more new.1 one.1;
    }) in
    record {
      end = left.end;
      walks = step.on left.end left.walks;
      settles = left.settles;
      rows = left.rows ∙ ap rows_for (append_assoc before (item ∷ []) more);
    }

reads_opened : (names : List Text) (most : ℕ) → ReadsEach names most
    → (word : Text) (words : List Text) → length (word ∷ words) ≤ suc most → (held : Held)
    (before items : List Item)
    → Opened word words items → Stands names held before items → Reads names held (word ∷ words)
    (before ++ items)
reads_opened names most rest word words low held before items o stands =
    subst (λ (list : List Item). Reads names held (word ∷ words) (before ++ list)) (sym o.is)
    (reads_item names most rest word words low held before o.name o.value o.more o.rest o.reads o.form
    (subst (Stands names held before) o.is stands))

reads_more : (names : List Text) (most : ℕ) → ReadsEach names most → ReadsEach names (suc most)
reads_more names most rest [] low held before items reads stands = reads_none names held before
    items reads stands
reads_more names most rest (word ∷ words) low held before items reads stands =
    reads_opened names most rest word words low held before items (opened word words items reads) stands

reads_zero : (names : List Text) → ReadsEach names zero
reads_zero names [] low held before items reads stands = reads_none names held before items reads stands
reads_zero names (word ∷ words) low held before items reads stands = absurd (omega arith)

reads_each : (names : List Text) (most : ℕ) → ReadsEach names most
reads_each names zero = reads_zero names
reads_each names (suc most) = reads_more names most (reads_each names most)

all_fresh : (items : List Item) → are_fresh [] items ≡ true
all_fresh [] = refl
all_fresh (item ∷ items) = all_fresh items

-- all words of the grammar, from nothing held
pub reads_all : (names : List Text) (words : List Text) (held : Held) (items : List Item)
    → read_items None words ≡ Some items → are_taken names items ≡ true
    → settle_passes (shape_for names).rules (shape_for names).args_override_self held ≡ true →
    (settled (shape_for names).rules held).rows ≡ []
    → Reads names held words items
reads_all names words held items reads taken settles none =
    reads_each names (length words) words (omega arith) held [] items reads
    (record { settles = settles; rows = none; taken = taken; fresh = all_fresh items })
