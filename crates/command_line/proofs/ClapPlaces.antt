-- What `clap` answers to two words that have no names.
use Rattle.std.proofs.Common.{if◌then◌else◌, ◌≡◌, refl, subst, Bool, true, false, List, [], ◌∷◌, Some, None, codes}
use Rattle.clap.specs.Simple.{App, is_simple, matches_of}
use Rattle.clap.specs.Takes.{takes, walk_passes}
use Rattle.clap.specs.Walk.{Text, walked}
use Rattle.command_line.specs.Options.{app_by}
use Rattle.command_line.specs.Words.{Item, placed_items, stands_alone, with_item}
use Rattle.command_line.proofs.OneWord.{IsPlain, plain_word}
use Rattle.command_line.proofs.Rows.{rows_for}

-- `clap` takes the words, and keeps what their items give
pub record ClapReads (app : App) (words : List Text) (items : List Item) : Type 0 where
  pub simple : is_simple app ≡ true
  pub takes : takes app words ≡ true
  pub rows : matches_of app words ≡ rows_for items

-- the names of the two words of a trial
abbrev pub two : List Text
two = codes "number" ∷ codes "count" ∷ []

abbrev pair : Text → Text → List Item
pair number count = record { name = codes "number"; value = number }
    ∷ record { name = codes "count"; value = count } ∷ []

pair_read : (number count : Text) → IsPlain number → IsPlain count
    → ClapReads (app_by false two) (number ∷ count ∷ []) (pair number count)
unfolding walk_passes walked
pair_read number count first second = record {
  simple = refl;
  takes = rw (first.dashes, first.long, first.short, second.dashes, second.long, second.short) refl;
  rows = rw (first.dashes, first.long, first.short, second.dashes, second.long, second.short) refl;
}

-- two words that stand alone, and no others
pub two_placed : (words : List Text) (items : List Item) → placed_items two words ≡ Some items
    → ClapReads (app_by false two) words items
two_placed [] items is = cc
two_placed (number ∷ []) items is = go (stands_alone number) is
  where
    go : (t : Bool) → (if t then with_item (codes "number") number None else None) ≡ Some items
        → ClapReads (app_by false two) (number ∷ []) items
    go true here = cc
    go false here = cc
two_placed (number ∷ count ∷ words) items is =
    go (stands_alone number) (stands_alone count) words refl refl is
  where
    go : (a b : Bool) (left : List Text) → stands_alone number ≡ a → stands_alone count ≡ b
        → (if a then with_item (codes "number") number
        (if b then with_item (codes "count") count (placed_items [] left) else None) else None)
        ≡ Some items
        → ClapReads (app_by false two) (number ∷ count ∷ left) items
    go true true [] first second here =
        let same : pair number count ≡ items = cc in
        subst (λ (list : List Item). ClapReads (app_by false two) (number ∷ count ∷ []) list) same
        (pair_read number count (plain_word number first) (plain_word count second))
    go true true (word ∷ left) first second here = cc
    go true false left first second here = cc
    go false b left first second here = cc
