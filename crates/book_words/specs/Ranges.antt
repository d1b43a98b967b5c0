-- The ranges of masses and days that the book tells, and the most packs, with which they can be
-- printed.
use Rattle.std.specs.Prelude.{ℤ, pos, neg_ℤ, ◌*ℤ◌, ◌≤ℤ◌, ◌+◌, ◌≤◌, Bool, true, ◌&&◌, List, length}
use Rattle.std.specs.List.{AllPass, AllByRecursion}
use Rattle.annex_tables.specs.declared.TheConstants.{MIN_NOMINAL, MAX_NOMINAL}
use Rattle.hall_limits.specs.declared.TheConstants.{MAX_GROSS, MAX_TARE, MAX_DAY, MAX_ROWS}
use Rattle.pack_judge.specs.declared.types.Tally.{Tally}
use Rattle.book_words.specs.declared.act.Act.{Act}
use Rattle.book_words.specs.declared.act.Act.TheVariants.{NewDay, PutProduct, PutTare, Weigh, Measure}
use Rattle.book_words.specs.declared.act.Entry.{Entry}
use Rattle.book_words.specs.declared.views.Sheet.{Sheet}
use Rattle.book_words.specs.declared.views.PackView.{PackView}
use Rattle.book_words.specs.declared.views.SampleView.{SampleView}
use Rattle.book_words.specs.declared.views.SummaryView.{SummaryView}
use Rattle.book_words.specs.declared.views.ActView.{ActView}
use Rattle.book_words.specs.declared.views.RowsView.{RowsView}
use Rattle.book_words.specs.declared.views.PacksView.{PacksView}
use Rattle.book_words.specs.declared.views.TheConstants.{MAX_DRAWN, MAX_PAGE}
use Rattle.book_words.specs.declared.reply.Reply.{Reply}
use Rattle.book_words.specs.declared.reply.Reply.TheVariants.{SheetIs, PackIs, SampleIs, SummaryIs, RowsAre, ShipmentIs, PacksAre}
use Rattle.book_words.specs.declared.refusal.Refusal.{Refusal}
use Rattle.book_words.specs.declared.refusal.Refusal.TheVariants.{DayBack, MeasuredAlready}
use Rattle.book_words.specs.Refusals.{is_within}
use Rattle.book_words.specs.Answers.{IsLawful}

-- a whole number from one to another
abbrev pub IsBetween : ℤ → ℤ → ℤ → Type 0
IsBetween least greatest number = (least ≤ℤ number) × (number ≤ℤ greatest)

-- the greatest sum of grosses: the greatest gross for each row
abbrev pub MAX_SUM : ℤ
MAX_SUM = MAX_GROSS *ℤ pos MAX_ROWS

-- a sum of grosses is at most the greatest
abbrev pub IsGrossInRange : Tally → Type 0
IsGrossInRange tally = IsBetween (pos 0) MAX_SUM tally.gross

-- so are the sums of a summary: that of all readings, and those of the four piles
pub record IsSummaryInRange (view : SummaryView) : Type 0 where
  pub readings : IsGrossInRange view.readings
  pub passed : IsGrossInRange view.passed
  pub rejected : IsGrossInRange view.rejected
  pub sampled : IsGrossInRange view.sampled
  pub voided : IsGrossInRange view.voided

-- and those of a sheet; its nominal quantity is in the range of Annex I, the error is at most the
-- greatest such quantity, and the
-- nets together are at most the greatest sum, below or above 0
pub record IsSheetInRange (sheet : Sheet) : Type 0 where
  pub nominal : IsBetween MIN_NOMINAL MAX_NOMINAL sheet.nominal
  pub tne : IsBetween (pos 0) MAX_NOMINAL sheet.tne
  pub readings : IsGrossInRange sheet.readings
  pub passed : IsGrossInRange sheet.passed
  pub rejected : IsGrossInRange sheet.rejected
  pub sampled : IsGrossInRange sheet.sampled
  pub voided : IsGrossInRange sheet.voided
  pub net : IsBetween (neg_ℤ MAX_SUM) MAX_SUM sheet.net

-- the day and the masses of a pack are within their limits
pub record IsPackInRange (view : PackView) : Type 0 where
  pub day : IsBetween (pos 0) MAX_DAY view.day
  pub gross : IsBetween (pos 0) MAX_GROSS view.gross
  pub net : IsBetween (neg_ℤ MAX_TARE) MAX_GROSS view.net

-- no more packs are drawn than the test may ask for
abbrev pub IsSampleInRange : SampleView → Type 0
IsSampleInRange view = length view.first + length view.second ≤ MAX_DRAWN

-- a row that is told is lawful behind some list
abbrev pub IsLawfulSomewhere : ActView → Type 0
IsLawfulSomewhere view = (before : List Entry) × IsLawful before view.entry

-- so is each row of a page, which has no more than it may and lies within a book
pub record IsPageInRange (view : RowsView) : Type 0 where
  pub few : length view.acts ≤ MAX_PAGE
  pub inside : view.before + length view.acts ≤ MAX_ROWS
  pub lawful : AllByRecursion IsLawfulSomewhere view.acts

-- so is each pack of a page of packs, which has no more than it may
pub record ArePacksInRange (view : PacksView) : Type 0 where
  pub few : length view.packs ≤ MAX_PAGE
  pub each : AllByRecursion IsPackInRange view.packs

-- what a reply tells is in range
abbrev pub IsReplyInRange : Reply → Type 0
IsReplyInRange (SheetIs sheet) = IsSheetInRange sheet
IsReplyInRange (PackIs view) = IsPackInRange view
IsReplyInRange (SampleIs view) = IsSampleInRange view
IsReplyInRange (SummaryIs view) = IsSummaryInRange view
IsReplyInRange (RowsAre view) = IsPageInRange view
IsReplyInRange (ShipmentIs view) = IsPageInRange view
IsReplyInRange (PacksAre view) = ArePacksInRange view
IsReplyInRange _ = Unit {0}

-- the day or the mass that a refusal tells is within its limits
abbrev pub IsRefusalInRange : Refusal → Type 0
IsRefusalInRange (DayBack last) = IsBetween (pos 0) MAX_DAY last
IsRefusalInRange (MeasuredAlready value) = IsBetween (pos 0) MAX_GROSS value
IsRefusalInRange _ = Unit {0}

-- the masses and the day of an act are within their limits
abbrev pub is_act_in_range : Act → Bool
is_act_in_range (NewDay day) = is_within (pos 0) MAX_DAY day
is_act_in_range (PutProduct name nominal unit) = is_within MIN_NOMINAL MAX_NOMINAL nominal
is_act_in_range (PutTare product day tare) =
    is_within (pos 0) MAX_DAY day && is_within (pos 0) MAX_TARE tare
is_act_in_range (Weigh lane gross prior) = is_within (pos 0) MAX_GROSS gross
is_act_in_range (Measure pack gross empty) =
    is_within (pos 0) MAX_GROSS gross && is_within (pos 0) MAX_TARE empty
is_act_in_range _ = true

-- so are those of all entries
abbrev pub AllInRange : List Entry → Type 0
AllInRange entries = AllPass (λ entry. is_act_in_range entry.act) entries
