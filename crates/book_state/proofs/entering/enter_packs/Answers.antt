use Rattle.std.proofs.Common.{rules, ◌≡◌, ◌∙◌, Some, inl, inr, ap, true, FitsSigned, w32, w64}
use Rattle.book_words.specs.declared.act.Act.TheVariants.{PutTare}
use Rattle.book_packs.specs.Entering.{batch_drawn, leaves_packs}
use Rattle.book_packs.proofs.Quiet.{quiet-push}
use Rattle.book_state.proofs.EntryFacts.{read_again}
use Rattle.book_state.proofs.entering.enter_packs.Goals as goal

pub stop-requires : goal.stop-requires
stop-requires c = record {
  next =
      record {
        entries = c.args.entries.now;
        entry = c.args.entry.now;
        stands = c.requires.packs;
        is =
            record { next = c.requires.next; act = c.in-StopLane.is };
      };
}

pub void-requires : goal.void-requires
void-requires c = record {
  next =
      record {
        entries = c.args.entries.now;
        entry = c.args.entry.now;
        stands = c.requires.packs;
        is =
            record { next = c.requires.next; act = c.in-Void.is };
      };
}

pub put_tare-requires-clause-next : goal.put_tare-requires-clause-next
put_tare-requires-clause-next c =
    let day_fits : FitsSigned w32 c.in-PutTare.day = search rules in
    let tare_fits : FitsSigned w64 c.in-PutTare.tare = search rules in (
      c.args.entries.now,
      c.args.entry.now,
      record { index = c.requires.index; packs = c.requires.packs; next = c.requires.next },
      c.in-PutTare.is
          ∙ read_again (PutTare c.in-PutTare.product) w32 w64 c.in-PutTare.day c.in-PutTare.tare
          day_fits tare_fits,
    )

pub open_batch-requires-clause-next : goal.open_batch-requires-clause-next
open_batch-requires-clause-next c = (
  c.args.entries.now,
  c.args.entry.now,
  c.in-OpenBatch.batch,
  record { index = c.requires.index; packs = c.requires.packs; next = c.requires.next },
  c.in-OpenBatch.is,
)

pub draw-requires : goal.draw-requires
draw-requires c =
    let drawn : batch_drawn c.args.entry.now.act ≡ Some c.in-Draw.batch =
    elim c.in-Draw.is [ inl h ↦ ap batch_drawn h.2 | inr h ↦ ap batch_drawn h.1 ] in record {
      next = (
        c.args.entries.now,
        c.args.entry.now,
        record { index = c.requires.index; packs = c.requires.packs; next = c.requires.next },
        drawn,
        c.requires.drawn,
      );
    }

pub returns-in-StopLane-clause-kept : goal.returns-in-StopLane-clause-kept
returns-in-StopLane-clause-kept c =
    c.stop.ensures.kept c.args.entries.now c.args.entry.now c.requires.packs
    (record { next = c.requires.next; act = c.in-StopLane.is })

pub returns-in-Void-clause-kept : goal.returns-in-Void-clause-kept
returns-in-Void-clause-kept c =
    c.void.ensures.kept c.args.entries.now c.args.entry.now c.requires.packs
    (record { next = c.requires.next; act = c.in-Void.is })

pub returns-in-NewDay-clause-kept : goal.returns-in-NewDay-clause-kept
returns-in-NewDay-clause-kept c =
    let leaves : leaves_packs c.args.entry.now.act ≡ true =
    elim c.in-NewDay.is [
      | inl h ↦ ap leaves_packs h.1
      | inr more ↦
          elim more [
            | inl h ↦ ap leaves_packs h.3
            | inr more ↦
                elim more [
                  | inl h ↦ ap leaves_packs h.2
                  | inr more ↦
                      elim more [
                        | inl h ↦ ap leaves_packs h.1
                        | inr more ↦
                            elim more [ inl h ↦ ap leaves_packs h.3 | inr more ↦ ap leaves_packs more.1 ]
                      ]
                ]
          ]
    ] in
    quiet-push c.args.entries.now c.args.entry.now c.args.packs.now c.requires.next leaves
    c.requires.packs

pub returns-in-NewDay-2-clause-kept : goal.returns-in-NewDay-2-clause-kept
returns-in-NewDay-2-clause-kept c =
    let leaves : leaves_packs c.args.entry.now.act ≡ true =
    elim c.in-NewDay.is [
      | inl h ↦ ap leaves_packs h.1
      | inr more ↦
          elim more [
            | inl h ↦ ap leaves_packs h.3
            | inr more ↦
                elim more [
                  | inl h ↦ ap leaves_packs h.2
                  | inr more ↦
                      elim more [
                        | inl h ↦ ap leaves_packs h.1
                        | inr more ↦
                            elim more [ inl h ↦ ap leaves_packs h.3 | inr more ↦ ap leaves_packs more.1 ]
                      ]
                ]
          ]
    ] in
    quiet-push c.args.entries.now c.args.entry.now c.args.packs.now c.requires.next leaves
    c.requires.packs

pub returns-in-NewDay-3-clause-kept : goal.returns-in-NewDay-3-clause-kept
returns-in-NewDay-3-clause-kept c =
    let leaves : leaves_packs c.args.entry.now.act ≡ true =
    elim c.in-NewDay.is [
      | inl h ↦ ap leaves_packs h.1
      | inr more ↦
          elim more [
            | inl h ↦ ap leaves_packs h.3
            | inr more ↦
                elim more [
                  | inl h ↦ ap leaves_packs h.2
                  | inr more ↦
                      elim more [
                        | inl h ↦ ap leaves_packs h.1
                        | inr more ↦
                            elim more [ inl h ↦ ap leaves_packs h.3 | inr more ↦ ap leaves_packs more.1 ]
                      ]
                ]
          ]
    ] in
    quiet-push c.args.entries.now c.args.entry.now c.args.packs.now c.requires.next leaves
    c.requires.packs

pub returns-in-NewDay-4-clause-kept : goal.returns-in-NewDay-4-clause-kept
returns-in-NewDay-4-clause-kept c =
    let leaves : leaves_packs c.args.entry.now.act ≡ true =
    elim c.in-NewDay.is [
      | inl h ↦ ap leaves_packs h.1
      | inr more ↦
          elim more [
            | inl h ↦ ap leaves_packs h.3
            | inr more ↦
                elim more [
                  | inl h ↦ ap leaves_packs h.2
                  | inr more ↦
                      elim more [
                        | inl h ↦ ap leaves_packs h.1
                        | inr more ↦
                            elim more [ inl h ↦ ap leaves_packs h.3 | inr more ↦ ap leaves_packs more.1 ]
                      ]
                ]
          ]
    ] in
    quiet-push c.args.entries.now c.args.entry.now c.args.packs.now c.requires.next leaves
    c.requires.packs

pub returns-in-NewDay-5-clause-kept : goal.returns-in-NewDay-5-clause-kept
returns-in-NewDay-5-clause-kept c =
    let leaves : leaves_packs c.args.entry.now.act ≡ true =
    elim c.in-NewDay.is [
      | inl h ↦ ap leaves_packs h.1
      | inr more ↦
          elim more [
            | inl h ↦ ap leaves_packs h.3
            | inr more ↦
                elim more [
                  | inl h ↦ ap leaves_packs h.2
                  | inr more ↦
                      elim more [
                        | inl h ↦ ap leaves_packs h.1
                        | inr more ↦
                            elim more [ inl h ↦ ap leaves_packs h.3 | inr more ↦ ap leaves_packs more.1 ]
                      ]
                ]
          ]
    ] in
    quiet-push c.args.entries.now c.args.entry.now c.args.packs.now c.requires.next leaves
    c.requires.packs

pub returns-in-NewDay-6-clause-kept : goal.returns-in-NewDay-6-clause-kept
returns-in-NewDay-6-clause-kept c =
    let leaves : leaves_packs c.args.entry.now.act ≡ true =
    elim c.in-NewDay.is [
      | inl h ↦ ap leaves_packs h.1
      | inr more ↦
          elim more [
            | inl h ↦ ap leaves_packs h.3
            | inr more ↦
                elim more [
                  | inl h ↦ ap leaves_packs h.2
                  | inr more ↦
                      elim more [
                        | inl h ↦ ap leaves_packs h.1
                        | inr more ↦
                            elim more [ inl h ↦ ap leaves_packs h.3 | inr more ↦ ap leaves_packs more.1 ]
                      ]
                ]
          ]
    ] in
    quiet-push c.args.entries.now c.args.entry.now c.args.packs.now c.requires.next leaves
    c.requires.packs

pub returns-in-PutTare-clause-kept : goal.returns-in-PutTare-clause-kept
returns-in-PutTare-clause-kept c =
    let day_fits : FitsSigned w32 c.in-PutTare.day = search rules in
    let tare_fits : FitsSigned w64 c.in-PutTare.tare = search rules in
    c.put_tare.ensures.kept c.args.entries.now c.args.entry.now
    (record { index = c.requires.index; packs = c.requires.packs; next = c.requires.next })
    (c.in-PutTare.is ∙ read_again (PutTare c.in-PutTare.product) w32 w64 c.in-PutTare.day c.in-PutTare.tare
    day_fits tare_fits)

pub returns-in-OpenBatch-clause-kept : goal.returns-in-OpenBatch-clause-kept
returns-in-OpenBatch-clause-kept c =
    c.open_batch.ensures.kept c.args.entries.now c.args.entry.now c.in-OpenBatch.batch
    (record { index = c.requires.index; packs = c.requires.packs; next = c.requires.next })
    c.in-OpenBatch.is

pub returns-in-Draw-clause-kept : goal.returns-in-Draw-clause-kept
returns-in-Draw-clause-kept c =
    let drawn : batch_drawn c.args.entry.now.act ≡ Some c.in-Draw.batch =
    elim c.in-Draw.is [ inl h ↦ ap batch_drawn h.2 | inr h ↦ ap batch_drawn h.1 ] in
    c.draw.ensures.kept c.args.entries.now c.args.entry.now
    (record { index = c.requires.index; packs = c.requires.packs; next = c.requires.next })
    drawn
    c.requires.drawn
