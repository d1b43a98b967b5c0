-- What the pages of a list are together, and what one of them is as a shipment.
use Rattle.std.specs.Prelude.{◌≡◌, ℕ, ◌+◌, ◌≤◌, List, [], ◌∷◌, length, take, flat_map, Ok}
use Rattle.book_words.specs.declared.act.Entry.{Entry}
use Rattle.book_words.specs.declared.act.Question.TheVariants.{Rows, Shipment}
use Rattle.book_words.specs.declared.reply.Reply.{Reply}
use Rattle.book_words.specs.declared.reply.Reply.TheVariants.{RowsAre, ShipmentIs}
use Rattle.book_words.specs.declared.views.RowsView.{RowsView}
use Rattle.book_words.specs.Views.{question_told}
use Rattle.act_lines.specs.ActViews.{acts_text}
use Rattle.batch_reports.specs.Texts.{reply_text}
use Rattle.standby_hall.specs.Shipments.{shipment}

-- how many rows a reply tells of
abbrev pub rows_told : Reply → ℕ
rows_told (RowsAre view) = length view.acts
rows_told _ = 0

-- these replies are told to questions for rows that are asked one after another, the first behind
-- so many rows, each other one behind the last row of the one before, up to the end of the list
abbrev pub AreAskedInTurn : List Entry → ℕ → List Reply → Type 0
AreAskedInTurn entries after [] = length entries ≤ after
AreAskedInTurn entries after (reply ∷ replies) =
    (question_told entries (Rows after) ≡ Ok reply)
    × AreAskedInTurn entries (after + rows_told reply) replies

-- A law: their texts, one behind the other, are the book as text.
abbrev pub ArePagesWhole : Type 0
ArePagesWhole =
    (entries : List Entry) (after : ℕ) (replies : List Reply)
    → AreAskedInTurn entries after replies
    → flat_map reply_text replies ≡ acts_text after entries

-- A law: a page that is told to be shipped is, byte for byte, the shipment behind so many rows of
-- the list up to its last row; where it has no row, of the whole list.
abbrev pub ArePagesShipped : Type 0
ArePagesShipped =
    (entries : List Entry) (after : ℕ) (view : RowsView)
    → question_told entries (Shipment after) ≡ Ok (ShipmentIs view)
    → reply_text (ShipmentIs view)
    ≡ shipment after (take (view.before + length view.acts) entries)
