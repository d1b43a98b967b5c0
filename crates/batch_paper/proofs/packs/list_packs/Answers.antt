use Rattle.std.proofs.Common.{rules, ◌+◌, ◌<◌, ◌≤◌, ◌++◌, [], List, length, sym, ◌∙◌, ap, append_assoc, append-nil}
use Rattle.std.specs.List.{cons_option}
use Rattle.paper_form.specs.declared.types.Pack as packs
use Rattle.batch_paper.specs.Written.{pack_at}
use Rattle.batch_paper.proofs.PackWalks.{packs_behind, next_pack, no_packs}
use Rattle.batch_paper.proofs.packs.list_packs.Goals as goal

pub loop-before-preserved : goal.loop-before-preserved
loop-before-preserved c =
    let here = c.loop-before in
    let entries = c.args.state.now.entries in
    let batch = c.args.batch.now in
    let inside : here.before < length entries = search rules in
    let told = cons_option (pack_at entries batch (here.before + 1)) [] in
    let left = packs_behind entries batch (here.before + 1) in
    ap (λ (front : List packs.Pack). front ++ left) (c.in_ok-push_pack.ensures
    ∙ ap (λ o. here.packs.items ++ cons_option o []) c.pack_at.ensures)
    ∙ append_assoc here.packs.items told left
    ∙ ap (λ (rest : List packs.Pack). here.packs.items ++ rest)
    (sym (next_pack entries batch here.before inside))
    ∙ here.invariant

pub returns : goal.returns
returns c =
    let here = c.loop-before in
    let entries = c.args.state.now.entries in
    let batch = c.args.batch.now in
    let all : length entries ≤ here.before = search rules in
    sym (append-nil here.packs.items)
    ∙ ap (λ (left : List packs.Pack). here.packs.items ++ left)
    (sym (no_packs entries batch here.before all))
    ∙ here.invariant
