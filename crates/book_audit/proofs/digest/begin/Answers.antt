use Rattle.std.proofs.Common.{◌≡◌, ◌∙◌, ◌++◌, [], ℕ, List, ap, subst}
use Rattle.std.specs.Int.{w32, to_le_bytes}
use Rattle.sha2.specs.Hashers.{Holds256}
use Rattle.standby_hall.specs.Shipments.{ship_title}
use Rattle.book_audit.specs.Audits.{head_text}
use Rattle.book_audit.proofs.digest.begin.Goals as goal

pub returns : goal.returns
returns c =
    let same : (ship_title ++ c.to_le_bytes.result) ++ c.to_le_bytes-2.result
    ≡ head_text c.args.rows =
    ap (λ (l : List ℕ). (ship_title ++ l) ++ c.to_le_bytes-2.result) c.to_le_bytes.ensures
    ∙ ap (λ (l : List ℕ). (ship_title ++ to_le_bytes w32 c.args.rows) ++ l)
    c.to_le_bytes-2.ensures in
    subst (λ (l : List ℕ). Holds256 c.update-3.new.self l) same
    (c.update-3.ensures _ (c.update-2.ensures _ (c.update.ensures [] c.new-hasher.ensures)))
