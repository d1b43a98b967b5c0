use Rattle.std.proofs.Common.{rules, arith, subst, sym, ◌≡◌, ◌+◌, ◌≤◌, ◌<◌, ◌∙◌, length, take, drop}
use Rattle.std.proofs.lemmas.Result.{IfOk-at_ok}
use Rattle.file_disk.proofs.BufferPieces.{full, ended, further}
use Rattle.file_disk.proofs.transfer.fill.Goals.{in-Ok, in-Err}
use Rattle.file_disk.proofs.transfer.fill.Goals as goal

pub returns-then-done-into-clause-count : goal.returns-then-done-into-clause-count
returns-then-done-into-clause-count g c bytes told =
    let all : length c.loop-turn.into ≤ c.loop-turn.done = search rules in
    full bytes c.loop-turn.into c.args.place c.loop-turn.done c.loop-turn.invariant.0 all
    (c.loop-turn.invariant.1 bytes told)

pub returns-in-Ok-eq0-clause-count : goal.returns-in-Ok-eq0-clause-count
returns-in-Ok-eq0-clause-count g c bytes told =
    let less : c.loop-turn.done < length c.loop-turn.into = search rules in
    let fits : c.loop-turn.done ≤ length c.read_on.new.into = search rules in
    let none : c.in-Ok-eq0.field-0 ≡ 0 = search rules in
    let all : length bytes ≤ c.args.place + c.loop-turn.done =
    IfOk-at_ok _ c.in-Ok-eq0.is (c.read_on.ensures.end bytes told) none less in
    ended bytes c.read_on.new.into c.args.place c.loop-turn.done fits all
    (c.read_on.ensures.kept ∙ c.loop-turn.invariant.1 bytes told)

pub loop-turn-preserved : goal.loop-turn-preserved
loop-turn-preserved g c = elim c.match-read_on.branch [
  | in-Ok w ↦ (
    omega (arith, w.done-is, w.in-Ok.ensures.bound),
    λ bytes told. subst (λ done. take done c.read_on.new.into ≡ take done (drop c.args.place bytes))
        (sym w.done-is)
        (further bytes c.loop-turn.into c.read_on.new.into c.args.place c.loop-turn.done
        w.in-Ok.more (c.loop-turn.invariant.1 bytes told) c.read_on.ensures.kept
        (w.in-Ok.ensures.bytes bytes told)),
  )
  | in-Err w ↦ (
    (let fits : c.loop-turn.done ≤ length c.read_on.new.into = search rules in
        omega (arith, w.done-is, fits)),
    λ bytes told. subst (λ done. take done c.read_on.new.into ≡ take done (drop c.args.place bytes))
        (sym w.done-is)
        (c.read_on.ensures.kept ∙ c.loop-turn.invariant.1 bytes told),
  )
]
