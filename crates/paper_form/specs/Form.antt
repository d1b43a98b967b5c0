-- The form of a paper: which line may come next, and what the lines of a text say together.
use Rattle.std.specs.Prelude.{ℕ, ◌+◌, pos, Bool, true, ◌&&◌, nat_lt, int_lt, List, [], ◌∷◌, ◌++◌, length, if◌then◌else◌, Option, Some, None, option_and_then, Result, Ok, Err}
use Rattle.std.specs.Option.{option_map_or}
use Rattle.std.specs.List.{last_or, slice_split}
use Rattle.annex_tables.specs.declared.TheConstants.{MAX_POPULATION}
use Rattle.annex_tables.specs.declared.types.Mode.{Mode}
use Rattle.annex_tables.specs.declared.types.Mode.TheVariants.{Keep, Destroy}
use Rattle.pack_judge.specs.declared.tares.DatedTare.{DatedTare}
use Rattle.book_words.specs.Desks.{same_number}
use Rattle.book_words.specs.declared.views.Verdict as verdicts
use Rattle.paper_form.specs.declared.types.Goods as goods
use Rattle.paper_form.specs.declared.types.Pack as packs
use Rattle.paper_form.specs.declared.types.Draw as draws
use Rattle.paper_form.specs.declared.types.Weighed.{Weighed}
use Rattle.paper_form.specs.declared.types.Pick.{Pick}
use Rattle.paper_form.specs.declared.types.Line as lines
use Rattle.paper_form.specs.declared.types.Line.TheVariants as line
use Rattle.paper_form.specs.declared.types.Stage as stages
use Rattle.paper_form.specs.declared.types.Stage.TheVariants as stage
use Rattle.paper_form.specs.Papers.{PaperData, is_line_end}
use Rattle.paper_form.specs.Lines.{from_both, line_of}

-- what may come next behind a line that comes at a stage; none where the line may not come there
abbrev pub follows : stages.Stage → lines.Line → Option stages.Stage
follows stage.Title line.Title = Some stage.Goods
follows stage.Goods (line.Goods _) = Some stage.Tares
follows stage.Tares (line.Tare _) = Some stage.Tares
follows stage.Tares (line.Pack _) = Some stage.Packs
follows stage.Tares (line.Verdict _) = Some stage.End
follows stage.Packs (line.Pack _) = Some stage.Packs
follows stage.Packs (line.Mode _) = Some stage.First
follows stage.First (line.First _) = Some stage.First
follows stage.First (line.Word _) = Some stage.Second
follows stage.First (line.Verdict _) = Some stage.End
follows stage.Second (line.Second _) = Some stage.Second
follows stage.Second (line.Verdict _) = Some stage.End
follows _ _ = None

-- what the lines so far say, and what may come next
pub record Draft : Type 0 where
  pub stage : stages.Stage
  pub goods : Option goods.Goods
  pub tares : List DatedTare
  pub packs : List packs.Pack
  pub draw : Option draws.Draw
  pub first : List Pick
  pub second_word : Option ℕ
  pub second : List Pick
  pub verdict : Option verdicts.Verdict

-- nothing yet
abbrev pub no_lines : Draft
no_lines =
    record {
      stage = stage.Title;
      goods = None;
      tares = [];
      packs = [];
      draw = None;
      first = [];
      second_word = None;
      second = [];
      verdict = None;
    }

-- a tare is for a later day than those before it
abbrev pub is_later : List DatedTare → DatedTare → Bool
is_later tares dated =
    option_map_or (λ before. int_lt before.day dated.day)
    (last_or None tares) true

-- a pack has a greater number than those before it
abbrev pub is_greater : List packs.Pack → packs.Pack → Bool
is_greater packs pack =
    option_map_or (λ before. nat_lt before.number pack.number) (last_or None packs) true

-- it has, and those before it aren't as many as there may be
abbrev pub is_next : List packs.Pack → packs.Pack → Bool
is_next packs pack = is_greater packs pack && nat_lt (length packs) MAX_POPULATION

-- nothing is said of an empty pack where packs are kept
abbrev pub is_empty_right : Mode → Weighed → Bool
is_empty_right Keep weighed = same_number weighed.empty (pos 0)
is_empty_right Destroy weighed = true

-- so with a pack of a sample
abbrev pub is_pick_right : Option draws.Draw → Pick → Bool
is_pick_right draw pick =
    option_map_or (λ d. option_map_or (is_empty_right d.mode) pick.weighed true) draw true

-- what a line adds, where it may stand behind the lines of its kind
abbrev pub adds : Draft → lines.Line → Option Draft
adds draft line.Title = Some draft
adds draft (line.Goods goods) = Some (record draft { goods = Some goods })
adds draft (line.Tare dated) =
    if is_later draft.tares dated
    then Some (record draft { tares = draft.tares ++ dated ∷ [] }) else None
adds draft (line.Pack pack) =
    if is_next draft.packs pack
    then Some (record draft { packs = draft.packs ++ pack ∷ [] }) else None
adds draft (line.Mode draw) = Some (record draft { draw = Some draw })
adds draft (line.First pick) =
    if is_pick_right draft.draw pick
    then Some (record draft { first = draft.first ++ pick ∷ [] }) else None
adds draft (line.Word word) = Some (record draft { second_word = Some word })
adds draft (line.Second pick) =
    if is_pick_right draft.draw pick
    then Some (record draft { second = draft.second ++ pick ∷ [] }) else None
adds draft (line.Verdict verdict) = Some (record draft { verdict = Some verdict })

-- what the lines say with one more line, where it is the next one of a paper
abbrev pub next : Draft → lines.Line → Option Draft
next draft line =
    option_and_then (λ stage. adds (record draft { stage = stage }) line) (follows draft.stage line)

-- the same with the text of a line
abbrev pub next_text : Draft → List ℕ → Option Draft
next_text draft text = option_and_then (next draft) (line_of text)

-- what all lines of a paper say
abbrev pub whole_of : Draft → Option PaperData
whole_of draft =
    from_both (λ said verdict. record {
      goods = said;
      tares = draft.tares;
      packs = draft.packs;
      draw = draft.draw;
      first = draft.first;
      second_word = draft.second_word;
      second = draft.second;
      verdict = verdict;
    }) draft.goods draft.verdict

-- the data of a paper whose text ends with so many lines read, and these bytes behind the last LF
abbrev pub ends_with : ℕ → Draft → List ℕ → Result PaperData ℕ
ends_with line draft [] = option_map_or (λ paper. Ok paper) (whole_of draft) (Err line)
ends_with line draft _ = Err line

-- the data of a paper that goes on with these pieces, each but the last ended by an LF; or the
-- number of the first line that isn't the next one of a paper
unfoldable pub read_on : ℕ → Draft → List (List ℕ) → Result PaperData ℕ
read_on line draft [] = Err line
read_on line draft (piece ∷ []) = ends_with line draft piece
read_on line draft (piece ∷ after ∷ pieces) =
    option_map_or (λ more. read_on (line + 1) more (after ∷ pieces))
    (next_text draft piece) (Err line)

-- the data of a paper, or the number of its least bad line, from 1
unfoldable pub paper_in : List ℕ → Result PaperData ℕ
paper_in bytes = read_on 1 no_lines (slice_split is_line_end bytes)
