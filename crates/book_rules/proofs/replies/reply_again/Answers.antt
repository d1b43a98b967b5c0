use Rattle.std.proofs.Common.{sym, ◌∙◌}
use Rattle.book_rules.proofs.ReplyLemmas.{repeated_holds, held_known, told_again_as}
use Rattle.book_rules.proofs.replies.reply_again.Goals as goal

pub unreachable-requires : goal.unreachable-requires
unreachable-requires c =
    let holds = repeated_holds c.args.state.now.entries c.requires.0 c.args.act.now c.args.row
    c.requires.1 in
    let there = sym c.in_default.is ∙ c.entry.ensures.value ∙ holds.numbered in
    cc

pub tell_act-requires : goal.tell_act-requires
tell_act-requires c =
    let holds = repeated_holds c.args.state.now.entries c.requires.0 c.args.act.now c.args.row
    c.requires.1 in
    record {
      known = λ batch is. held_known c.args.state.now.entries c.args.row c.args.act.now batch
          c.entry.ensures.legal holds is;
    }

pub returns : goal.returns
returns c =
    let holds = repeated_holds c.args.state.now.entries c.requires.0 c.args.act.now c.args.row
    c.requires.1 in
    c.tell_act.ensures
    ∙ told_again_as c.args.state.now.entries c.args.row c.args.act.now c.in-Some.entry
    c.entry.ensures.legal holds (sym c.entry.ensures.value ∙ c.in-Some.is)
