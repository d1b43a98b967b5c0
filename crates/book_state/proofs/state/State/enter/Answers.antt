use Rattle.std.proofs.Common.{rules, ◌≡◌, ◌∙◌, ◌+◌, ◌<◌, ◌∷◌, ◌++◌, [], List, length, sym, ap, subst, arith}
use Rattle.book_words.specs.declared.act.Entry.{Entry}
use Rattle.book_words.specs.Answers.{IsLegal, IsLawful}
use Rattle.book_words.proofs.LegalLemmas.{legal-push}
use Rattle.book_index.specs.Listed.{IsIndexOf}
use Rattle.book_packs.specs.Stand.{IsPacksOf}
use Rattle.book_samples.specs.Kept.{IsSamplesOf}
use Rattle.book_state.specs.Lanes.{IsSeen}
use Rattle.book_state.specs.Prepared.{drawn_by}
use Rattle.book_state.specs.View.{StateView}
use Rattle.book_state.proofs.state.State.enter.Goals as goal

pub enter_packs-requires-clause-packs : goal.enter_packs-requires-clause-packs
enter_packs-requires-clause-packs c =
    subst (λ (es : List Entry). IsPacksOf es c.self.inside.packs)
    (sym c.deref.ensures.value) c.self.invariant.stand.packs

pub enter_packs-requires-clause-seen : goal.enter_packs-requires-clause-seen
enter_packs-requires-clause-seen c =
    subst (λ (es : List Entry). IsSeen es c.args.entry.now.act c.args.seen.now)
    (sym (c.deref.ensures.value ∙ ap (λ (v : StateView). v.entries) c.self.view_is)) c.requires.seen

pub enter_samples-requires-clause-next : goal.enter_samples-requires-clause-next
enter_samples-requires-clause-next c =
    let list : c.self.inside.entries.items ≡ c.args.self.now.entries =
    ap (λ (v : StateView). v.entries) c.self.view_is in
    let lawful : IsLawful c.self.inside.entries.items c.args.entry.now =
    subst (λ (es : List Entry). IsLawful es c.args.entry.now) (sym list) c.requires.lawful in (
      c.self.inside.entries.items,
      record {
        index = c.self.invariant.stand.index;
        samples = c.self.invariant.stand.samples;
        next = record { legal = c.self.invariant.stand.legal; lawful = lawful };
      },
      c.requires.drawn ∙ ap (λ (es : List Entry). drawn_by es c.args.entry.now.act) (sym list),
    )

pub invariant_of-self : goal.invariant_of-self
invariant_of-self c =
    let list : c.self.inside.entries.items ≡ c.args.self.now.entries =
    ap (λ (v : StateView). v.entries) c.self.view_is in
    let lawful : IsLawful c.self.inside.entries.items c.args.entry.now =
    subst (λ (es : List Entry). IsLawful es c.args.entry.now) (sym list) c.requires.lawful in
    let kept = c.self.invariant in
    let items : c.push_reserved.new.self.items ≡ c.self.inside.entries.items ++ c.args.entry.now ∷ [] =
    c.push_reserved.ensures.items in
    let count : c.len.result ≡ length c.self.inside.entries.items = search rules in
    let row : c.len.result + 1 ≡ length c.self.inside.entries.items + 1 = ap (λ n. n + 1) count in
    let room : 0 < c.self.inside.spare =
    subst (λ n. 0 < n) (sym (ap (λ (v : StateView). v.spare) c.self.view_is)) c.requires.room in
    let packs : IsPacksOf (c.self.inside.entries.items ++ c.args.entry.now ∷ []) c.enter_packs.new.packs =
    subst (λ (es : List Entry). IsPacksOf (es ++ c.args.entry.now ∷ []) c.enter_packs.new.packs)
    c.deref.ensures.value c.enter_packs.ensures.kept in
    let samples : IsSamplesOf (c.self.inside.entries.items ++ c.args.entry.now ∷ [])
    c.enter_samples.new.samples =
    c.enter_samples.ensures.kept c.self.inside.entries.items
    (record {
      index = kept.stand.index;
      samples = kept.stand.samples;
      next = record { legal = kept.stand.legal; lawful = lawful };
    })
    (c.requires.drawn ∙ ap (λ (es : List Entry). drawn_by es c.args.entry.now.act) (sym list)) in
    record {
      stand = record {
        legal = subst IsLegal (sym items)
            (legal-push c.self.inside.entries.items c.args.entry.now kept.stand.legal lawful);
        index = subst (λ (es : List Entry). IsIndexOf es c.enter.new.self) (sym items)
            (c.enter.ensures.entered c.self.inside.entries.items kept.stand.index kept.stand.legal
            lawful row);
        packs = subst (λ (es : List Entry). IsPacksOf es c.enter_packs.new.packs) (sym items) packs;
        samples = subst (λ (es : List Entry). IsSamplesOf es c.enter_samples.new.samples)
            (sym items) samples;
      };
      index_room = omega (arith, kept.index_room, c.enter.ensures.spare, room);
      packs_room = omega (arith, kept.packs_room, c.enter_packs.ensures.spare, room);
      samples_room = omega (arith, kept.samples_room, c.enter_samples.ensures.spare, room);
      list_room = omega (
        arith,
        kept.list_room,
        c.push_reserved.ensures.len,
        c.push_reserved.ensures.capacity,
        room,
      );
    }
