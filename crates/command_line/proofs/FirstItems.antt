-- What the words are where they begin with an item.
use Rattle.std.proofs.Common.{if◌then◌else◌, ◌≡◌, ◌⊎◌, refl, inl, inr, ℕ, Bool, true, false, List, [], ◌∷◌, Option, Some, None, option_and_then}
use Rattle.clap.specs.Lexer.{long_of}
use Rattle.command_line.specs.Words.{Item, begin_item, is_empty, read_items, stands_alone, with_item}

-- the words begin with an item, which is one word or two
pub record Opened (word : List ℕ) (words : List (List ℕ)) (items : List Item) : Type 0 where
  pub name : List ℕ
  pub value : List ℕ
  pub rest : List (List ℕ)
  pub more : List Item
  pub is : items ≡ record { name = name; value = value } ∷ more
  pub reads : read_items None rest ≡ Some more
  pub form : ((long_of word ≡ Some (name, Some value)) × (words ≡ rest))
      ⊎ ((long_of word ≡ Some (name, None)) × (words ≡ value ∷ rest) × (stands_alone value ≡ true))

attached : (word name value : List ℕ) (words : List (List ℕ)) (items : List Item)
    → long_of word ≡ Some (name, Some value)
    → (left : Option (List Item)) → read_items None words ≡ left
    → with_item name value left ≡ Some items → Opened word words items
attached word name value words items is None reads given = cc
attached word name value words items is (Some more) reads given = record {
  name = name;
  value = value;
  rest = words;
  more = more;
  is = cc;
  reads = reads;
  form = inl (is, refl);
}

behind_name : (word name value : List ℕ) (rest : List (List ℕ)) (items : List Item)
    → long_of word ≡ Some (name, None) → stands_alone value ≡ true
    → (left : Option (List Item)) → read_items None rest ≡ left
    → with_item name value left ≡ Some items → Opened word (value ∷ rest) items
behind_name word name value rest items is alone None reads given = cc
behind_name word name value rest items is alone (Some more) reads given = record {
  name = name;
  value = value;
  rest = rest;
  more = more;
  is = cc;
  reads = reads;
  form = inr (is, refl, alone);
}

waiting : (word name : List ℕ) (words : List (List ℕ)) (items : List Item) → long_of word ≡ Some
    (name, None)
    → read_items (Some name) words ≡ Some items → Opened word words items
unfolding read_items
waiting word name [] items is reads = cc
waiting word name (value ∷ rest) items is reads = go (stands_alone value) refl reads
  where
    go : (t : Bool) → stands_alone value ≡ t
        → (if t then with_item name value (read_items None rest) else None) ≡ Some items
        → Opened word (value ∷ rest) items
    go true alone given = behind_name word name value rest items is alone
        (read_items None rest) refl given
    go false alone given = cc

by_value : (word name : List ℕ) (value : Option (List ℕ)) (words : List (List ℕ))
    (items : List Item) → long_of word ≡ Some (name, value)
    → begin_item name value (λ waits. read_items waits words) ≡ Some items → Opened word words items
by_value word name None words items is given = waiting word name words items is given
by_value word name (Some value) words items is given = go (is_empty value) given
  where
    go : (t : Bool) → (if t then None else with_item name value
        (read_items None words)) ≡ Some items → Opened word words items
    go true bad = cc
    go false here = attached word name value words items is (read_items None words) refl here

pub opened : (word : List ℕ) (words : List (List ℕ)) (items : List Item)
    → read_items None (word ∷ words) ≡ Some items → Opened word words items
unfolding read_items
opened word words items reads = go (long_of word) refl reads
  where
    go : (found : Option (List ℕ × Option (List ℕ))) → long_of word ≡ found
        → option_and_then (λ option. begin_item option.0 option.1
        (λ waits. read_items waits words)) found ≡ Some items
        → Opened word words items
    go None is given = cc
    go (Some option) is given = by_value word option.0 option.1 words items is given
