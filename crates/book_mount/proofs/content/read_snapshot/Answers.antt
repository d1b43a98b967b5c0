use Rattle.std.proofs.Common.{◌≡◌, ◌∙◌, ◌++◌, sym, subst, List, [], ℕ, Option, ap, min}
use Rattle.book_journal.specs.Journal.{count_of, kept_of}
use Rattle.book_mount.specs.Opening.{HasRead}
use Rattle.book_mount.proofs.Exits.{count_kept}
use Rattle.book_mount.proofs.Parts.{snapshot_listed, snapshot_ends}
use Rattle.book_mount.proofs.content.read_snapshot.Goals as goal

pub returns-clause-reads : goal.returns-clause-reads
returns-clause-reads g c bytes told ends counted rows left read =
    let old = c.args.journal.now in
    let kept = c.in-Some.kept in
    let is : kept_of old ≡ _ = sym c.kept.ensures ∙ c.in-Some.is in
    let there = snapshot_ends (kept_of old) kept bytes is ends in
    let content : c.deref.result.now ≡ _ = c.deref.ensures.value
    ∙ c.in_ok-content.ensures.content bytes told there in
    let count : c.min-rows.result ≡ min kept.rows (count_of old) = c.min-rows.ensures
    ∙ ap (λ (n : ℕ). min kept.rows n)
    (c.count.ensures ∙ count_kept g.D.Disk old c.read_content.new.journal
    c.read_content.ensures.read) in
    c.in_ok-replay_content.ensures.reads rows left
    (subst (λ (l : List (Option (List ℕ))). HasRead rows [] (l ++ left))
    (snapshot_listed (kept_of old) kept bytes c.deref.result.now c.min-rows.result
    (count_of old) is counted count content) read)
