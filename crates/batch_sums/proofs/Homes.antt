-- The batches of packs, by the faces of their groups.
use Rattle.std.proofs.Common.{◌≡◌, ℕ, List, [], ◌∷◌, length, map, get_or, set, refl, ap, sym, subst, ◌∙◌, ◌<◌}
use Rattle.std.proofs.lemmas.List.{map-set, set-get_or, get_or-map}
use Rattle.batch_sums.specs.declared.types.Held.{Held}
use Rattle.batch_sums.specs.declared.types.Links.{Links}
use Rattle.pack_groups.specs.Groups.{Face, nth_face}
use Rattle.batch_sums.specs.Kept.{seen, IsChained}
use Rattle.batch_sums.specs.Invariant.{homes_of}

pub homes-seen : (some : List Face) (held : List Held)
    → homes_of (map (seen some) held) ≡ map (λ h. (nth_face some h.group).key.batch) held
homes-seen some [] = refl
homes-seen some (h ∷ held) = ap (λ ns. (nth_face some h.group).key.batch ∷ ns) (homes-seen some held)

-- faces with the same keys show the same batches
pub homes-keys : (before now : List Face)
    → ((place : ℕ) → (nth_face now place).key ≡ (nth_face before place).key) → (held : List Held)
    → homes_of (map (seen now) held) ≡ homes_of (map (seen before) held)
homes-keys before now key [] = refl
homes-keys before now key (h ∷ held) = λ i. (key h.group i).batch ∷ homes-keys before now key held i

-- a write that a function doesn't see
pub map-set_unseen : {X : Type 0} (f : Held → X) (held : List Held) (place : ℕ) (h new : Held)
    → h ≡ get_or held place h → place < length held → f new ≡ f h
    → map f (set held place new) ≡ map f held
map-set_unseen f held place h new read within same =
    map-set f held place new
    ∙ ap (λ x. set (map f held) place x)
    (same ∙ ap f read ∙ sym (get_or-map f held place h (f h) within))
    ∙ set-get_or (map f held) place (f h)

pub chained_as : (reaches homes new_reaches new_homes : List ℕ) (links new_links : List Links)
    → new_reaches ≡ reaches → new_homes ≡ homes → new_links ≡ links
    → IsChained reaches homes links → IsChained new_reaches new_homes new_links
chained_as reaches homes new_reaches new_homes links new_links first second third chained =
    subst (λ rs. IsChained rs new_homes new_links) (sym first)
    (subst (λ hs. IsChained reaches hs new_links) (sym second)
    (subst (λ (ls : List Links). IsChained reaches homes ls) (sym third) chained))
