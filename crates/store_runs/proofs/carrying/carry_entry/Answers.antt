use Rattle.std.proofs.Common.{◌≡◌, ◌∙◌, Some, inl, refl, sym, ap}
use Rattle.book_words.specs.contracts.act.EntryPartialEq.TheImpl as entries
use Rattle.store_runs.proofs.SameEntries.{found_equal, found_other}
use Rattle.store_runs.proofs.carrying.carry_entry.Goals as goal

pub returns-in-Some-clause-carries : goal.returns-in-Some-clause-carries
returns-in-Some-clause-carries g c =
    let told : c.eq.result ≡ entries.ghosts.eq c.in-Some.held c.args.entry.now = c.eq.ensures in
    inl (
      sym c.entry.ensures ∙ c.in-Some.is
          ∙ ap (λ e. Some e) (found_equal c.in-Some.held c.args.entry.now (sym told ∙ c.if-eq.true)),
      refl,
    )

pub returns-in-Some-2-clause-carries : goal.returns-in-Some-2-clause-carries
returns-in-Some-2-clause-carries g c =
    let told : c.eq.result ≡ entries.ghosts.eq c.in-Some.held c.args.entry.now = c.eq.ensures in (
      refl,
      inl (
        c.bad_row.ensures,
        inl (
          c.in-Some.held,
          sym c.entry.ensures
              ∙ c.in-Some.is,
          found_other c.in-Some.held c.args.entry.now (sym told ∙ c.if-eq.false),
        ),
      ),
    )
