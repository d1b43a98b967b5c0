use Rattle.std.proofs.Common.{sym, subst, ◌∙◌, ap}
use Rattle.std.specs.Prelude.{IfOk, Result, Ok, Err}
use Rattle.batch_sums.specs.Totals as sums
use Rattle.batch_sums.specs.Asked as asked
use Rattle.book_packs.specs.Stand.{Standing}
use Rattle.std.specs.List.Sorted.{IsStrictlyIncreasing}
use Rattle.book_packs.proofs.NumberOrder.{population_increases}
use Rattle.book_packs.proofs.Known.{known_of}
use Rattle.book_packs.proofs.PackTotals.{numbers_are}
use Rattle.book_packs.proofs.packs.Packs.population.Goals as goal

if_ok : {T E : Type 0} (P Q : T → Type 0) (r : Result T E) → IfOk r P → ((x : T) → P x → Q x) → IfOk r Q
if_ok P Q (Ok x) h k = k x h
if_ok P Q (Err e) h k = tt

pub returns-clause-exact : goal.returns-clause-exact
returns-clause-exact c entries name is legal known =
    if_ok _ _ c.population.result c.population.ensures
    (λ v told. told
    ∙ ap (λ some. asked.numbers_of (sums.population (sums.of_batch c.args.batch some)))
    (ap (λ (s : Standing). s.packs) c.self.view_is ∙ is.packs)
    ∙ numbers_are entries name c.args.batch known (known_of entries legal).weighed)

pub returns-clause-ascending : goal.returns-clause-ascending
returns-clause-ascending c entries name is legal known =
    if_ok _ _ c.population.result c.population.ensures
    (λ v told. subst IsStrictlyIncreasing
    (sym (told ∙ ap (λ some. asked.numbers_of
    (sums.population (sums.of_batch c.args.batch some)))
    (ap (λ (s : Standing). s.packs) c.self.view_is ∙ is.packs)
    ∙ numbers_are entries name c.args.batch known (known_of entries legal).weighed))
    (population_increases entries name))
