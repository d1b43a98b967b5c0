use Rattle.std.proofs.Common.{rules, ◌≡◌, ◌∙◌, inl, inr, ap, false, FitsSigned, w64}
use Rattle.book_words.specs.declared.act.Act.TheVariants.{Measure}
use Rattle.book_state.specs.Prepared.{Drawn}
use Rattle.book_samples.specs.Kept.{is_of_samples}
use Rattle.book_samples.proofs.SampleLemmas.{stands_on}
use Rattle.book_state.proofs.EntryFacts.{read_again}
use Rattle.book_state.proofs.entering.enter_samples.Goals as goal

pub enter_first-requires : goal.enter_first-requires
enter_first-requires c = record {
  next = (
    c.requires.next.0,
    c.args.entry.now,
    c.in-Draw.mode,
    c.in-Draw.word,
    c.requires.next.1,
    c.in-Draw.is,
    ap (λ (drawn : Drawn). drawn.first) (c.drawn.view_is ∙ c.requires.next.2),
  );
}

pub enter_second-requires : goal.enter_second-requires
enter_second-requires c = record {
  next = (
    c.requires.next.0,
    c.args.entry.now,
    c.in-DrawSecond.word,
    c.requires.next.1,
    c.in-DrawSecond.is,
    ap (λ (drawn : Drawn). drawn.second) (c.drawn.view_is ∙ c.requires.next.2),
  );
}

pub returns-in-Draw-clause-kept : goal.returns-in-Draw-clause-kept
returns-in-Draw-clause-kept c = λ entries enters drawn_is.
    c.enter_first.ensures.kept entries c.args.entry.now c.in-Draw.mode c.in-Draw.word
    enters
    c.in-Draw.is (ap (λ (drawn : Drawn). drawn.first) (c.drawn.view_is ∙ drawn_is))

pub returns-in-DrawSecond-clause-kept : goal.returns-in-DrawSecond-clause-kept
returns-in-DrawSecond-clause-kept c = λ entries enters drawn_is.
    c.enter_second.ensures.kept entries c.args.entry.now c.in-DrawSecond.word
    enters
    c.in-DrawSecond.is (ap (λ (drawn : Drawn). drawn.second) (c.drawn.view_is ∙ drawn_is))

pub returns-in-Measure-clause-kept : goal.returns-in-Measure-clause-kept
returns-in-Measure-clause-kept c = λ entries enters drawn_is.
    let gross_fits : FitsSigned w64 c.in-Measure.gross = search rules in
    let empty_fits : FitsSigned w64 c.in-Measure.empty = search rules in
    c.measure.ensures.measured entries c.args.entry.now enters.samples enters.next.legal
    enters.next.lawful
    (c.in-Measure.is
    ∙ read_again (Measure c.in-Measure.pack) w64 w64 c.in-Measure.gross c.in-Measure.empty gross_fits
    empty_fits)

pub returns-in-OpenBatch-clause-kept : goal.returns-in-OpenBatch-clause-kept
returns-in-OpenBatch-clause-kept c = λ entries enters drawn_is.
    c.open_batch.ensures.opened entries c.args.entry.now enters.samples
    enters.next.legal enters.next.lawful
    (record {
      batch = c.in-OpenBatch.batch;
      product = c.in-OpenBatch.product;
      density =
          c.in-OpenBatch.density;
      act_is = c.in-OpenBatch.is;
    })

pub returns-in-NewDay-clause-kept : goal.returns-in-NewDay-clause-kept
returns-in-NewDay-clause-kept c = λ entries enters drawn_is.
    let other : is_of_samples c.args.entry.now.act ≡ false =
    elim c.in-NewDay.is [
      | inl h ↦ ap is_of_samples h.1
      | inr more ↦
          elim more [
            | inl h ↦ ap is_of_samples h.3
            | inr more ↦
                elim more [
                  | inl h ↦ ap is_of_samples h.3
                  | inr more ↦
                      elim more [
                        | inl h ↦ ap is_of_samples h.2
                        | inr more ↦
                            elim more [
                              | inl h ↦ ap is_of_samples h.3
                              | inr more ↦
                                  elim more [
                                    | inl h ↦ ap is_of_samples h.2
                                    | inr more ↦
                                        elim more [
                                          | inl h ↦ ap is_of_samples h.1
                                          | inr more ↦
                                              elim more [ inl h ↦ ap is_of_samples h.1 | inr more ↦ ap is_of_samples more.1 ]
                                        ]
                                  ]
                            ]
                      ]
                ]
          ]
    ] in
    stands_on entries c.args.entry.now c.args.samples.now other enters.samples
