use Rattle.std.proofs.Common.{rules, ◌≡◌, ◌∙◌, Bool, true, false, not, refl, sym}
use Rattle.book_words.specs.contracts.views.VerdictPartialEq.TheImpl as verdicts
use Rattle.paper_form.specs.Drafts.{data_of}
use Rattle.paper_check.proofs.SameVerdicts.{found_equal, found_other}
use Rattle.paper_check.proofs.check.check_paper.Goals as goal

pub returns-in-Some-clause-fault : goal.returns-in-Some-clause-fault
returns-in-Some-clause-fault c =
    record {
      paper = data_of c.in_ok-paper.paper;
      says = c.in_ok-paper.ensures.read;
      tares = sym c.in_ok-line.ensures ∙ c.in-Some.is;
    }

pub returns-in-Some-2-clause-fault : goal.returns-in-Some-2-clause-fault
returns-in-Some-2-clause-fault c =
    record {
      paper = data_of c.in_ok-paper.paper;
      says = c.in_ok-paper.ensures.read;
      tares = sym c.in_ok-line.ensures ∙ c.in_default.is;
      draws = sym c.in_ok-line-2.ensures ∙ c.in-Some-2.is;
    }

pub returns-then-ne-clause-fault : goal.returns-then-ne-clause-fault
returns-then-ne-clause-fault c =
    let told : c.ne.result
    ≡ not (verdicts.ghosts.eq c.in_ok-verdict.verdict c.in_ok-paper.paper.verdict) =
    search rules in
    let other : verdicts.ghosts.eq c.in_ok-verdict.verdict c.in_ok-paper.paper.verdict ≡ false =
    not_true _ (sym told ∙ c.if-ne.true) in
    record {
      paper = data_of c.in_ok-paper.paper;
      says = c.in_ok-paper.ensures.read;
      tares = sym c.in_ok-line.ensures ∙ c.in_default.is;
      draws = sym c.in_ok-line-2.ensures ∙ c.in_default-2.is;
      other = λ same. found_other c.in_ok-verdict.verdict c.in_ok-paper.paper.verdict other
          (c.in_ok-verdict.ensures ∙ same);
      last = c.verdict_line.ensures;
    }
  where
    not_true : (b : Bool) → not b ≡ true → b ≡ false
    not_true true is = absurd cc
    not_true false is = refl

pub returns-clause-proven : goal.returns-clause-proven
returns-clause-proven c =
    let told : c.ne.result
    ≡ not (verdicts.ghosts.eq c.in_ok-verdict.verdict c.in_ok-paper.paper.verdict) =
    search rules in
    let same : verdicts.ghosts.eq c.in_ok-verdict.verdict c.in_ok-paper.paper.verdict ≡ true =
    not_false _ (sym told ∙ c.if-ne.false) in
    record {
      paper = data_of c.in_ok-paper.paper;
      says = c.in_ok-paper.ensures.read;
      tares = sym c.in_ok-line.ensures ∙ c.in_default.is;
      draws = sym c.in_ok-line-2.ensures ∙ c.in_default-2.is;
      given = sym c.in_ok-verdict.ensures;
      said = sym (found_equal c.in_ok-verdict.verdict c.in_ok-paper.paper.verdict same);
    }
  where
    not_false : (b : Bool) → not b ≡ false → b ≡ true
    not_false true is = refl
    not_false false is = absurd cc
