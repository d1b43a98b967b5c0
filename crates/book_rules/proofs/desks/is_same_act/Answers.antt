use Rattle.std.proofs.Common.{◌≡◌, ◌∙◌}
use Rattle.book_words.specs.contracts.act.ActPartialEq.TheImpl as acts
use Rattle.book_rules.proofs.SameActs.{act_eq}
use Rattle.book_rules.proofs.desks.is_same_act.Goals as goal

pub returns : goal.returns
returns c =
    let told : c.eq.result ≡ acts.ghosts.eq c.args.a.now c.args.b.now = c.eq.ensures in
    told ∙ act_eq c.args.a.now c.args.b.now
