use Rattle.std.proofs.Common.{rules, ◌≡◌, ◌+◌, ◌≤◌, min, length, drop, List, sym, ap, ◌∙◌, subst, arith}
use Rattle.std.specs.List.{AllByRecursion}
use Rattle.std.proofs.lemmas.List.{length-drop}
use Rattle.hall_limits.specs.declared.TheConstants.{NAME_BYTES, MAX_ROWS}
use Rattle.book_words.specs.declared.act.Entry.{Entry}
use Rattle.book_words.proofs.LegalLemmas.{legal_few}
use Rattle.row_format.specs.Allowed.{IsAllowed}
use Rattle.standby_hall.proofs.ShipSteps.{allowed_left}
use Rattle.standby_hall.proofs.shipping.ship_entries.Goals as goal

pub overflow_cast-head : goal.overflow_cast-head
overflow_cast-head g c =
    let few = legal_few c.args.entries.now c.requires.legal in
    search rules

pub ship_behind-requires-clause-good : goal.ship_behind-requires-clause-good
ship_behind-requires-clause-good g c =
    record { inside = search rules; few = legal_few c.args.entries.now c.requires.legal }

pub ship_behind-requires-clause-allowed : goal.ship_behind-requires-clause-allowed
ship_behind-requires-clause-allowed g c =
    let back : c.split_at.result.1.now ≡ drop c.min-passed.result c.args.entries.now = search rules in
    subst (λ (es : List Entry). AllByRecursion (IsAllowed NAME_BYTES) es) (sym back)
    (allowed_left c.lawful_entries_are_allowed.ensures c.min-passed.result c.args.entries.now
    c.requires.legal)

pub ship_behind-requires-clause-all : goal.ship_behind-requires-clause-all
ship_behind-requires-clause-all g c = search rules
