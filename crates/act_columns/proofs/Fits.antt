-- What is lawful, and has numbers of the program's sizes, can be asked by a line of a script.
use Rattle.std.proofs.Common.{◌≡◌, ℕ, ◌^◌, ◌<◌, ◌==◌, Bool, true, false, cond, inl, inr, List, [], ◌∷◌, ◌++◌, Some, None, refl, sym, ap, ◌∙◌, subst, arith, append_assoc}
use Rattle.std.proofs.lemmas.Bool.{eqb-true}
use Rattle.std.specs.List.{AllByRecursion}
use Rattle.hall_limits.specs.declared.TheConstants.{NAME_BYTES}
use Rattle.book_words.specs.declared.act.Act.{Act}
use Rattle.book_words.specs.declared.act.Act.TheVariants as acts
use Rattle.book_words.specs.declared.act.Entry.{Entry}
use Rattle.book_words.specs.declared.refusal.Refusal.{Refusal}
use Rattle.book_words.specs.Desks.{is_desk_right, desk_number}
use Rattle.book_words.specs.Refusals.{desk_refusals, refusals_of}
use Rattle.book_words.specs.Answers.{ask_of, IsLawful, IsLegal}
use Rattle.book_words.proofs.AllowedActs.{IsAllowed, allowed, put_product_tells, put_tare_tells, open_batch_tells, start_lane_tells, end_run_tells, draw_tells, draw_second_tells, close_tells}
use Rattle.book_words.proofs.LegalLemmas.{legal-prefix}
use Rattle.book_words.proofs.RefusalLemmas.{none_of_two, none_of_parts}
use Rattle.row_format.specs.Allowed.{IsLane, IsDensity, IsActAllowed, FitsAct, FitsFields}
use Rattle.row_format.proofs.Lawful.{allowed_where_lawful}
use Rattle.act_reads.specs.Commands.{FitsLine, FitsScript}
use Rattle.act_columns.proofs.Names.{ProductsShaped, BatchesShaped, products_shaped, batches_shaped}

lane_fits : (lane : ℕ) → IsLane lane → lane < 2 ^ 8
lane_fits lane h = let few = h.1 in omega (arith, few)

density_fits : (density : ℕ) → IsDensity density → density < 2 ^ 32
density_fits density (inl none_said) = omega (arith, none_said)
density_fits density (inr h) = let few = h.1 in omega (arith, few)

act_fits : (entries : List Entry) (act : Act) → IsAllowed entries act
    → ProductsShaped entries → BatchesShaped entries → IsActAllowed NAME_BYTES act → FitsAct act
    → FitsLine act
act_fits entries (acts.NewDay day) h products batches stands fits = stands
act_fits entries (acts.PutProduct name nominal unit) h products batches stands fits =
    ((put_product_tells entries name nominal unit h).shape, stands.1)
act_fits entries (acts.PutTare product day tare) h products batches stands fits =
    (products product (put_tare_tells entries product day tare h).known, stands.1, stands.2)
act_fits entries (acts.OpenBatch batch product density) h products batches stands fits =
    let tells = open_batch_tells entries batch product density h in
    (tells.shape, products product tells.known, density_fits density stands.2)
act_fits entries (acts.StartLane lane batch) h products batches stands fits =
    (lane_fits lane stands.0, batches batch (start_lane_tells entries lane batch h).known)
act_fits entries (acts.Weigh lane gross prior) h products batches stands fits =
    (lane_fits lane stands.0, stands.1)
act_fits entries (acts.StopLane lane prior) h products batches stands fits = lane_fits lane stands
act_fits entries (acts.Void pack) h products batches stands fits = fits
act_fits entries (acts.EndRun batch) h products batches stands fits =
    batches batch (end_run_tells entries batch h).known
act_fits entries (acts.Draw batch mode word) h products batches stands fits =
    (batches batch (draw_tells entries batch mode word h).known, fits)
act_fits entries (acts.Measure pack gross empty) h products batches stands fits =
    (fits, stands.0, stands.1)
act_fits entries (acts.DrawSecond batch word) h products batches stands fits =
    (batches batch (draw_second_tells entries batch word h).known, fits)
act_fits entries (acts.Close batch) h products batches stands fits =
    batches batch (close_tells entries batch h).known

-- without a desk there is no request
right_by : (b : Bool) (refusal : Refusal) → cond b None (Some refusal) ≡ None → b ≡ true
right_by true refusal h = refl
right_by false refusal h = absurd (cc)

alone_by : (desk request : ℕ) (other : Bool) → cond (desk == 0) (request == 0) other ≡ true
    → desk ≡ 0 → request ≡ 0
alone_by desk request other h is =
    eqb-true request 0 (sym (ap (λ (d : ℕ). cond (d == 0) (request == 0) other) is) ∙ h)

alone : (entries : List Entry) (entry : Entry) → IsLawful entries entry → entry.desk ≡ 0
    → entry.request ≡ 0
alone entries entry lawful =
    let ask = ask_of entry in
    let parts = none_of_parts (desk_refusals entries ask entry.act)
    (refusals_of entries entry.act) lawful.rules in
    let desk = none_of_two (desk_number ask entry.act) _ parts.0 in
    alone_by entry.desk entry.request _ (right_by (is_desk_right ask entry.act) _ desk.0)

-- a lawful entry behind a legal list
entry_fits : (entries : List Entry) (entry : Entry) → IsLegal entries → IsLawful entries entry
    → FitsFields entry → FitsScript entry
entry_fits entries entry legal lawful fits =
    record {
      act = act_fits entries entry.act (allowed entries entry lawful)
          (products_shaped entries legal) (batches_shaped entries legal)
          (allowed_where_lawful entries entry lawful).act fits.act;
      desk = fits.desk;
      request = fits.request;
      alone = alone entries entry lawful;
    }

-- the entries of a legal list behind its first ones
pub behind_fit : (before rows : List Entry) → IsLegal (before ++ rows)
    → AllByRecursion FitsFields rows → AllByRecursion FitsScript rows
behind_fit before [] legal fit = fit
behind_fit before (entry ∷ rows) legal fit = (
  entry_fits before entry (legal-prefix before (entry ∷ rows) legal)
      (legal before entry rows refl) fit.0,
  behind_fit (before ++ entry ∷ []) rows
      (subst IsLegal (sym (append_assoc before (entry ∷ []) rows)) legal) fit.1,
)
