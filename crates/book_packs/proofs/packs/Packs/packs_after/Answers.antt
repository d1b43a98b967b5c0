use Rattle.std.proofs.Common.{◌∙◌, ap}
use Rattle.std.specs.Prelude.{IfOk, Result, Ok, Err}
use Rattle.batch_sums.specs.Totals as sums
use Rattle.batch_sums.specs.Asked as asked
use Rattle.book_words.specs.declared.views.TheConstants.{MAX_PAGE}
use Rattle.book_packs.specs.Stand.{Standing}
use Rattle.book_packs.proofs.Known.{known_of}
use Rattle.book_packs.proofs.PackTotals.{page_is}
use Rattle.book_packs.proofs.packs.Packs.packs_after.Goals as goal

if_ok : {T E : Type 0} (P Q : T → Type 0) (r : Result T E) → IfOk r P → ((x : T) → P x → Q x) → IfOk r Q
if_ok P Q (Ok x) h k = k x h
if_ok P Q (Err e) h k = tt

pub returns : goal.returns
returns c entries name is legal known =
    if_ok _ _ c.packs_after.result c.packs_after.ensures
    (λ v told. told
    ∙ ap (λ some. asked.numbers_after c.args.after MAX_PAGE (sums.of_batch c.args.batch some))
    (ap (λ (s : Standing). s.packs) c.self.view_is ∙ is.packs)
    ∙ page_is entries name c.args.batch c.args.after MAX_PAGE known (known_of entries legal).weighed)
