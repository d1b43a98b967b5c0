-- The balance as an answer.
use Rattle.std.proofs.Common.{◌≡◌, ℕ, List, length, Ok, sym, ap, ◌∙◌}
use Rattle.book_words.specs.declared.act.Question.TheVariants.{Summary}
use Rattle.book_words.specs.declared.views.SummaryView.{SummaryView}
use Rattle.book_words.specs.declared.reply.Reply.TheVariants.{SummaryIs}
use Rattle.book_words.specs.declared.act.Entry.{Entry}
use Rattle.book_words.specs.Answers.{IsLegal}
use Rattle.book_words.specs.Soundness.{IsAnswer}
use Rattle.book_words.specs.Views.{summary}
use Rattle.store_runs.specs.Steps.{asked_question}

-- the balance of a legal list is an answer
pub is_summary : (limit : ℕ) (entries : List Entry) (at : ℕ) (view : SummaryView) → IsLegal entries
    → at ≡ length entries → view ≡ summary entries
    → IsAnswer (record { at = at; reply = SummaryIs view })
is_summary limit entries at view legal rows is =
    record {
      limit = limit;
      entries = entries;
      ask = asked_question Summary;
      legal = legal;
      given = ap (λ (n : ℕ). Ok (record { at = n; reply = SummaryIs (summary entries) })) (sym rows)
          ∙ ap (λ (v : SummaryView). Ok (record { at = at; reply = SummaryIs v })) (sym is);
    }
