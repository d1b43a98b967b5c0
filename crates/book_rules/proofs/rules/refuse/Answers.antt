use Rattle.book_words.specs.Desks.{desk_number, request_old, request_reused, request_gap}
use Rattle.book_words.specs.Refusals.{book_full, first_refusal, refusals_of}
use Rattle.book_rules.proofs.Chains.{behind_request}
use Rattle.book_rules.proofs.rules.refuse.Goals as goal

pub returns : goal.returns
returns c =
    let entries = c.args.state.now.entries in
    let ask = c.args.ask.now in
    let act = c.args.act.now in
    rw (
      c.or-2.ensures,
      c.or.ensures,
      c.refuse_request.ensures,
      c.book_full.ensures,
      c.refuse_act.ensures,
    )
    (behind_request (desk_number ask act) (request_old entries ask) (request_reused entries ask act)
    (request_gap entries ask) (book_full c.args.limit entries)
    (first_refusal (refusals_of entries act)) c.requires.desk)
