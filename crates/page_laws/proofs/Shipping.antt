-- A page to be shipped is the shipment up to its last row.
use Rattle.std.proofs.Common.{◌≡◌, ℕ, suc, ◌+◌, ◌-◌, ◌≤◌, min, List, [], ◌∷◌, ◌++◌, codes, length, take, drop, flat_map, Result, Ok, refl, sym, ◌∙◌, ap, subst, arith, length-append}
use Rattle.std.proofs.lemmas.List.{length-take, length-take-le, length-drop, drop-take}
use Rattle.book_words.specs.declared.act.Entry.{Entry}
use Rattle.book_words.specs.declared.refusal.Refusal.{Refusal}
use Rattle.book_words.specs.declared.reply.Reply.{Reply}
use Rattle.book_words.specs.declared.reply.Reply.TheVariants.{ShipmentIs}
use Rattle.book_words.specs.declared.views.ActView.{ActView}
use Rattle.book_words.specs.declared.views.RowsView.{RowsView}
use Rattle.book_words.specs.declared.views.TheConstants.{MAX_PAGE}
use Rattle.book_words.specs.Pages.{view_behind, views_behind, views_after, page_after}
use Rattle.row_format.specs.Spelling.{four, new_layout, row_bytes}
use Rattle.batch_reports.specs.Texts.{row_of, rows_of, shipment_text}
use Rattle.standby_hall.specs.Shipments.{rows_from, shipment}
use Rattle.page_laws.specs.Whole.{ArePagesShipped}
use Rattle.page_laws.proofs.Parts.{taken, own}

same_view : (a b : RowsView) (told : Result Reply Refusal) → told ≡ Ok (ShipmentIs a)
    → told ≡ Ok (ShipmentIs b) → a ≡ b
same_view a b told is same = cc

views_length : (before entries : List Entry) → length (views_behind before entries) ≡ length entries
views_length before [] = refl
views_length before (entry ∷ entries) = ap suc (views_length (before ++ entry ∷ []) entries)

-- rows that are told, as they are shipped
rows_are : (before entries : List Entry) (number : ℕ) → length before + 1 ≡ number
    → flat_map row_of (views_behind before entries) ≡ rows_from number entries
rows_are before [] number is = refl
rows_are before (entry ∷ entries) number is =
    let next : length (before ++ entry ∷ []) + 1 ≡ number + 1 =
    omega (arith, is, length-append before (entry ∷ [])) in
    (λ i. row_bytes new_layout (is i) entry
    ++ rows_are (before ++ entry ∷ []) entries (number + 1) next i)

-- a head of these numbers and the rows behind the second of them
abbrev shape : ℕ → ℕ → List Entry → List ℕ
shape all passed rows =
    codes "AQHSHIP2" ++ four all ++ four passed ++ rows_from (passed + 1) (drop passed rows)

module _ (most after : ℕ) (entries : List Entry) where
  abbrev before : ℕ
  before = min after (length entries)

  abbrev acts : List ActView
  acts = take most (views_after before entries)

  abbrev last : ℕ
  last = before + length acts

  inside : last ≤ length entries
  inside =
      let views = views_length (take before entries) (drop before entries)
      ∙ length-drop before entries in
      let some = length-take most (views_after before entries) in
      omega (arith, views, some)

  -- of fewer rows than a page has, all are told
  all_told : min after last ≡ before
  all_told =
      let views = views_length (take before entries) (drop before entries)
      ∙ length-drop before entries in
      let some = length-take most (views_after before entries) in
      omega (arith, views, some)

  rows : rows_of acts ≡ rows_from (before + 1) (drop before (take last entries))
  rows =
      let count = length acts in
      ap rows_of (sym (own most (views_after before entries))
      ∙ taken count (take before entries) (drop before entries))
      ∙ rows_are (take before entries) (take count (drop before entries)) (before + 1)
      (ap (λ n. n + 1) (length-take-le before entries (omega arith)))
      ∙ ap (rows_from (before + 1)) (sym (drop-take before count entries))

  is_shipment : codes "AQHSHIP2" ++ four last ++ four before ++ rows_of acts
      ≡ shipment after (take last entries)
  is_shipment =
      let count : length (take last entries) ≡ last = length-take-le last entries inside in
      let passed : min after (length (take last entries)) ≡ before =
      ap (min after) count ∙ all_told in
      ap (λ t. codes "AQHSHIP2" ++ four last ++ four before ++ t) rows
      ∙ (λ i. shape (sym count i) (sym passed i) (take last entries))

page_shipped : (after : ℕ) (entries : List Entry) → let page = page_after after entries in
    shipment_text page ≡ shipment after (take (page.before + length page.acts) entries)
unfolding shipment_text
page_shipped after entries = is_shipment MAX_PAGE after entries

pub pages_are_shipped : ArePagesShipped
pages_are_shipped entries after view told =
    subst (λ (page : RowsView). shipment_text page
    ≡ shipment after (take (page.before + length page.acts) entries))
    (same_view (page_after after entries) view (Ok (ShipmentIs (page_after after entries))) refl
    told)
    (page_shipped after entries)
