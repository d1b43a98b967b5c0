use Rattle.std.proofs.Common.{◌≡◌, ◌∙◌, rules, sym, false, true, is_some}
use Rattle.command_line.proofs.GivenValues.{also_given, not_given}
use Rattle.command_line.proofs.given.are_given.Goals as goal

pub returns-then-is_none : goal.returns-then-is_none
returns-then-is_none c = λ items reads.
    let lacks : is_some c.find_value.result ≡ false = search rules in
    sym (not_given c.args.names.now c.loop-name.name-index _ items c.find_value.result
    c.loop-name-test.true (c.find_value.ensures items reads) lacks)
    ∙ c.loop-name.invariant items reads

pub loop-name-preserved : goal.loop-name-preserved
loop-name-preserved c = λ items reads.
    let found : is_some c.find_value.result ≡ true = search rules in
    sym (also_given c.args.names.now c.loop-name.name-index _ items c.find_value.result
    c.loop-name-test.true (c.find_value.ensures items reads) found)
    ∙ c.loop-name.invariant items reads
