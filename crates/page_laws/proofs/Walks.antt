-- Pages that are asked in turn, joined.
use Rattle.std.proofs.Common.{◌≡◌, ℕ, ◌+◌, ◌≤◌, List, [], ◌∷◌, ◌++◌, length, take, flat_map, Result, Ok, refl, sym, ◌∙◌, ap}
use Rattle.std.proofs.lemmas.Grind.{flat_map-append}
use Rattle.book_words.specs.declared.act.Entry.{Entry}
use Rattle.book_words.specs.declared.refusal.Refusal.{Refusal}
use Rattle.book_words.specs.declared.reply.Reply.{Reply}
use Rattle.book_words.specs.declared.reply.Reply.TheVariants.{RowsAre}
use Rattle.book_words.specs.declared.views.ActView.{ActView}
use Rattle.book_words.specs.declared.views.TheConstants.{MAX_PAGE}
use Rattle.book_words.specs.Pages.{views_after, page_after}
use Rattle.act_lines.specs.ActLines.{act_text}
use Rattle.act_lines.specs.ActViews.{acts_text}
use Rattle.batch_reports.specs.Texts.{reply_text}
use Rattle.page_laws.specs.Whole.{rows_told, AreAskedInTurn, ArePagesWhole}
use Rattle.page_laws.proofs.Parts.{parted_after, no_views, own, same_views}

same_reply : (a b : Reply) (told : Result Reply Refusal) → told ≡ Ok a → told ≡ Ok b → a ≡ b
same_reply a b told is same = cc

-- the lines of a page, and those behind its rows
joined : (most after : ℕ) (entries : List Entry)
    → flat_map act_text (take most (views_after after entries))
    ++ acts_text (after + length (take most (views_after after entries))) entries
    ≡ acts_text after entries
joined most after entries =
    let views = views_after after entries in
    let count = length (take most views) in
    ap (λ (vs : List ActView). flat_map act_text vs ++ acts_text (after + count) entries)
    (sym (own most views))
    ∙ sym (flat_map-append act_text (take count views) (views_after (after + count) entries))
    ∙ ap (flat_map act_text) (sym (parted_after count after entries))

pub pages_are_whole : ArePagesWhole
pages_are_whole entries after [] h = sym (ap (flat_map act_text) (no_views entries after h))
pages_are_whole entries after (reply ∷ replies) h =
    let views = views_after after entries in
    let is : reply ≡ RowsAre (page_after after entries) =
    same_reply reply (RowsAre (page_after after entries)) (Ok (RowsAre (page_after after entries)))
    h.0 refl in
    let count : rows_told reply ≡ length (take MAX_PAGE views) =
    ap rows_told is ∙ ap (λ (vs : List ActView). length (take MAX_PAGE vs)) (same_views after entries) in
    ap (λ (r : Reply). reply_text r ++ flat_map reply_text replies) is
    ∙ ap (λ (vs : List ActView). flat_map act_text (take MAX_PAGE vs)
    ++ flat_map reply_text replies) (same_views after entries)
    ∙ ap (λ (t : List ℕ). flat_map act_text (take MAX_PAGE views) ++ t)
    (pages_are_whole entries (after + rows_told reply) replies h.1)
    ∙ ap (λ n. flat_map act_text (take MAX_PAGE views) ++ acts_text (after + n) entries) count
    ∙ joined MAX_PAGE after entries
