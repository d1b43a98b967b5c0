-- The limits of what a paper says.
use Rattle.std.specs.Prelude.{◌≡◌, ℕ, ◌+◌, ◌≤◌, ◌^◌, Bool, true, ◌==◌, nat_lt, List, [], ◌∷◌, ◌++◌, length, map, unsigned_abs, Some, is_none, is_some}
use Rattle.std.specs.Option.{option_map_or}
use Rattle.std.specs.List.{list_all, slice_split}
use Rattle.std.specs.List.Sorted.{IsStrictlyIncreasing}
use Rattle.annex_tables.specs.declared.TheConstants.{MAX_POPULATION}
use Rattle.pack_judge.specs.declared.tares.DatedTare.{DatedTare}
use Rattle.paper_form.specs.declared.types.TheConstants.{MAX_PAPER}
use Rattle.paper_form.specs.declared.types.Pack as packs
use Rattle.paper_form.specs.declared.types.Pick.{Pick}
use Rattle.paper_form.specs.declared.types.Line as lines
use Rattle.paper_form.specs.declared.types.Line.TheVariants as line
use Rattle.paper_form.specs.Papers.{PaperData, is_line_end, lines_of, are_goods_in_range, is_tare_in_range, is_pack_in_range, is_pick_in_range, is_verdict_said}
use Rattle.paper_form.specs.Lines.{line_of}
use Rattle.paper_form.specs.Form.{Draft, is_pick_right}

-- the days of some tares, and the numbers of some packs
abbrev pub days_of : List DatedTare → List ℕ
days_of tares = map (λ dated. unsigned_abs dated.day) tares

abbrev pub numbers_of : List packs.Pack → List ℕ
numbers_of packs = map (λ pack. pack.number) packs

-- what a line says is within the limits
abbrev pub is_line_in_range : lines.Line → Bool
is_line_in_range (line.Goods goods) = are_goods_in_range goods
is_line_in_range (line.Tare dated) = is_tare_in_range dated
is_line_in_range (line.Pack pack) = is_pack_in_range pack
is_line_in_range (line.First pick) = is_pick_in_range pick
is_line_in_range (line.Second pick) = is_pick_in_range pick
is_line_in_range _ = true

-- the tares are within the limits, and each is for a later day than the one before it
pub record AreTaresListed (tares : List DatedTare) : Type 0 where
  pub range : list_all is_tare_in_range tares ≡ true
  pub ascend : IsStrictlyIncreasing (days_of tares)

-- the packs are within the limits, in ascending order, and not too many
pub record ArePacksListed (packs : List packs.Pack) : Type 0 where
  pub range : list_all is_pack_in_range packs ≡ true
  pub ascend : IsStrictlyIncreasing (numbers_of packs)
  pub few : length packs ≤ MAX_POPULATION

-- the packs of a sample are within the limits
abbrev pub ArePicksInRange : List Pick → Type 0
ArePicksInRange picks = list_all is_pick_in_range picks ≡ true

-- what the lines say so far is within the limits and in order
pub record IsDraftListed (draft : Draft) : Type 0 where
  pub goods : option_map_or are_goods_in_range draft.goods true ≡ true
  pub tares : AreTaresListed draft.tares
  pub packs : ArePacksListed draft.packs
  pub first : ArePicksInRange draft.first
  pub second : ArePicksInRange draft.second

-- so is what a paper says
pub record IsListed (paper : PaperData) : Type 0 where
  pub goods : are_goods_in_range paper.goods ≡ true
  pub tares : AreTaresListed paper.tares
  pub packs : ArePacksListed paper.packs
  pub first : ArePicksInRange paper.first
  pub second : ArePicksInRange paper.second

-- a word of a draw has 64 bits
abbrev pub is_word : ℕ → Bool
is_word word = nat_lt word (2 ^ 64)

-- a pack of the first sample is measured
abbrev pub is_measured : Pick → Bool
is_measured pick = is_some pick.weighed

-- the data of a paper: within the limits and in order, a draw just where there are packs, samples
-- only where they were drawn, the first one measured, no empty packs where packs are kept, and a
-- withheld verdict with what fails
pub record IsPaper (paper : PaperData) : Type 0 where
  pub listed : IsListed paper
  pub drawn : is_none paper.draw ≡ (length paper.packs == 0)
  pub word : option_map_or (λ draw. is_word draw.word) paper.draw true ≡ true
  pub second_word : option_map_or is_word paper.second_word true ≡ true
  pub measured : list_all is_measured paper.first ≡ true
  pub first_right : list_all (is_pick_right paper.draw) paper.first ≡ true
  pub second_right : list_all (is_pick_right paper.draw) paper.second ≡ true
  pub undrawn : is_none paper.draw ≡ true → (paper.first ≡ []) × (is_none paper.second_word ≡ true)
  pub no_second : is_none paper.second_word ≡ true → paper.second ≡ []
  pub verdict : is_verdict_said paper.verdict ≡ true

-- a text says just the lines of a paper, in order: what stands up to each LF is read as one of them,
-- and nothing stands behind the last LF
pub record SaysLines (bytes : List ℕ) (paper : PaperData) : Type 0 where
  pub texts : List (List ℕ)
  pub split : slice_split is_line_end bytes ≡ texts ++ [] ∷ []
  pub lines : map line_of texts ≡ map (λ line. Some line) (lines_of paper)

-- a paper has no more lines than it may have bytes
abbrev pub IsShort : PaperData → Type 0
IsShort paper =
    length paper.tares + length paper.packs + length paper.first + length paper.second ≤ MAX_PAPER
