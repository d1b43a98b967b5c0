-- What is found of the tares and the packs of a paper by their keys.
use Rattle.std.proofs.Common.{◌≡◌, ◌==◌, ◌<◌, ℕ, ℤ, pos, int_le, true, false, List, length, find, slice_index, get_or, unsigned_abs, Some, None, sym, ap, ◌∙◌, subst}
use Rattle.pack_judge.specs.declared.tares.DatedTare.{DatedTare}
use Rattle.book_words.specs.Desks.{same_number}
use Rattle.paper_form.specs.declared.types.Pack as packs
use Rattle.paper_form.specs.Papers.{PaperData, is_tare_in_range}
use Rattle.paper_check.specs.Keys.{has_key}
use Rattle.paper_form.specs.Ranges.{days_of, numbers_of, IsListed}
use Rattle.paper_check.specs.Judging.{pack_with}
use Rattle.paper_check.proofs.Lookups.{find_none, find_at, find-same}
use Rattle.paper_check.proofs.TareFaults.{same_days, tare_day}

by_key : (paper : PaperData) (day : ℤ) → IsListed paper → int_le (pos 0) day ≡ true
    → find (λ dated. unsigned_abs dated.day == unsigned_abs day) paper.tares
    ≡ find (λ dated. same_number dated.day day) paper.tares
by_key paper day listed natural =
    find-same is_tare_in_range (λ dated. unsigned_abs dated.day == unsigned_abs day)
    (λ dated. same_number dated.day day) paper.tares
    (λ dated inside. same_days dated.day day (tare_day dated inside) natural) listed.tares.range

-- the tare at the place of its day
pub found_tare : (paper : PaperData) (days : List ℕ) (day : ℤ) (place key : ℕ) (d : DatedTare)
    → IsListed paper → int_le (pos 0) day ≡ true → days ≡ days_of paper.tares
    → key ≡ unsigned_abs day → place < length days → slice_index days place ≡ key
    → Some (get_or paper.tares place d) ≡ find (λ dated. same_number dated.day day) paper.tares
found_tare paper days day place key d listed natural are is within there =
    sym (find_at
    (λ (dated : DatedTare). unsigned_abs dated.day) paper.tares (unsigned_abs day) place d
    listed.tares.ascend (subst (λ (xs : List ℕ). place < length xs) are within)
    (sym (ap (λ (xs : List ℕ). slice_index xs place) are) ∙ there ∙ is))
    ∙ by_key paper day listed natural

-- none where the day isn't there
pub no_tare : (paper : PaperData) (days : List ℕ) (day : ℤ) (key : ℕ)
    → IsListed paper → int_le (pos 0) day ≡ true → days ≡ days_of paper.tares
    → key ≡ unsigned_abs day → has_key days key ≡ false
    → None ≡ find (λ dated. same_number dated.day day) paper.tares
no_tare paper days day key listed natural are is missing =
    sym (find_none (λ (dated : DatedTare). unsigned_abs dated.day) paper.tares (unsigned_abs day)
    (sym (ap (λ (xs : List ℕ). has_key xs (unsigned_abs day)) are) ∙ sym (ap (has_key days) is)
    ∙ missing))
    ∙ by_key paper day listed natural

-- the pack at the place of its number
pub found_pack : (paper : PaperData) (numbers : List ℕ) (place key : ℕ) (d : packs.Pack)
    → IsListed paper → numbers ≡ numbers_of paper.packs → place < length numbers
    → slice_index numbers place ≡ key
    → Some (get_or paper.packs place d) ≡ pack_with paper.packs key
found_pack paper numbers place key d listed are within there =
    sym (find_at (λ (pack : packs.Pack). pack.number) paper.packs key place d
    listed.packs.ascend (subst (λ (xs : List ℕ). place < length xs) are within)
    (sym (ap (λ (xs : List ℕ). slice_index xs place) are) ∙ there))

-- none where the number isn't there
pub no_pack : (paper : PaperData) (numbers : List ℕ) (key : ℕ) → numbers ≡ numbers_of paper.packs
    → has_key numbers key ≡ false → None ≡ pack_with paper.packs key
no_pack paper numbers key are missing =
    sym (find_none (λ (pack : packs.Pack). pack.number) paper.packs key
    (sym (ap (λ (xs : List ℕ). has_key xs key) are) ∙ missing))
