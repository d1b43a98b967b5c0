use Rattle.std.proofs.Common.{◌+◌, ◌++◌, ⊎_elim, inl, inr, MatchResult, drop}
use Rattle.std.proofs.lemmas.Result.{err_from_is_err_and}
use Rattle.book_mount.specs.Listing.{content_rows}
use Rattle.book_mount.specs.Opening.{HasRead, Stops}
use Rattle.book_mount.proofs.Exits.{handed_on}
use Rattle.book_mount.proofs.Forms.{stands_first}
use Rattle.book_mount.proofs.Walks.{piece_none, form_damaged, form_listed}
use Rattle.book_mount.proofs.content.replay_form.Goals as goal

pub returns-in_err-replay_row-in-Row-clause-reads : goal.returns-in_err-replay_row-in-Row-clause-reads
returns-in_err-replay_row-in-Row-clause-reads c rows left more read =
    let bytes = c.args.bytes.now in
    let row = c.in-Row.row in
    let taken = c.in-Row.taken in
    let first = stands_first c.args.number bytes row taken c.in-Row.ensures.row
    (λ early. c.in-Row.ensures.more.1 early) (λ faulty. c.in-Row.ensures.fault.1 faulty) in
    let stops = c.in_err-replay_row-in-Row.ensures.reads rows
    (content_rows more (c.args.number + 1) (drop taken bytes) ++ left)
    (form_listed rows left c.args.book.now.entries c.args.number more taken bytes row first
    read) in
    let p = err_from_is_err_and c.from_residual.result c.from_residual.ensures.1 in
    handed_on (λ r. MatchResult r (λ n. HasRead rows c.replay_row.new.book.entries
    (content_rows more (c.args.number + 1) (drop n bytes) ++ left)) (Stops rows))
    c.from_residual.result p.0 _ p.1 p.2 stops

pub returns-in_ok-replay_row-in-Row-clause-reads : goal.returns-in_ok-replay_row-in-Row-clause-reads
returns-in_ok-replay_row-in-Row-clause-reads c rows left more read =
    let bytes = c.args.bytes.now in
    let row = c.in-Row.row in
    let taken = c.in-Row.taken in
    let first = stands_first c.args.number bytes row taken c.in-Row.ensures.row
    (λ early. c.in-Row.ensures.more.1 early) (λ faulty. c.in-Row.ensures.fault.1 faulty) in
    c.in_ok-replay_row-in-Row.ensures.reads rows
    (content_rows more (c.args.number + 1) (drop taken bytes) ++ left)
    (form_listed rows left c.args.book.now.entries c.args.number more taken bytes row first
    read)

pub returns-in_ok-replay_row-in-Row-clause-within : goal.returns-in_ok-replay_row-in-Row-clause-within
returns-in_ok-replay_row-in-Row-clause-within c =
    (stands_first c.args.number c.args.bytes.now c.in-Row.row c.in-Row.taken c.in-Row.ensures.row
    (λ early. c.in-Row.ensures.more.1 early) (λ faulty. c.in-Row.ensures.fault.1 faulty)).within

pub returns-in_default-clause-reads : goal.returns-in_default-clause-reads
returns-in_default-clause-reads c rows left more read =
    form_damaged rows left c.args.book.now.entries c.args.number more c.args.bytes.now c.requires
    (⊎_elim (λ is. inl (c.read_one.ensures.more.0 is)) (λ is. inr (c.read_one.ensures.fault.0 is))
    (piece_none c.read_one.result c.in_default.not-Row))
    read
