-- A door in memory keeps the laws of a door.
use Rattle.std.proofs.Common.{◌≡◌, ℕ, List, ◌++◌, length, drop, Option, Some, None, option_map, refl, sym, ◌∙◌, ap, append_assoc}
use Rattle.std.proofs.lemmas.List.{append_cancel_right}
use lib.Seq.{drop-append_seam}
use Rattle.disk_core.specs.Doors.{Connection, Connections, connection_left, connection_written, left_now, written_now, add_taken, add_written, with_taken, with_written}
use Rattle.disk_core.specs.ListDoors.{unread, unwritten, all_unread, all_unwritten}

-- what the present connection has left and had taken is known by what it had in all
reading_keeps : (old new : Connection) (bytes : List ℕ) → unread new ≡ unread old
    → old.left ≡ bytes ++ new.left → new ≡ add_taken bytes old
reading_keeps old new bytes same parts =
    let whole : new.taken ++ new.left ≡ old.taken ++ old.left =
    ap (λ (c : Connection). c.left) same in
    let left : new.left ≡ drop (length bytes) old.left =
    sym (ap (drop (length bytes)) parts ∙ drop-append_seam bytes new.left) in
    let taken : new.taken ≡ old.taken ++ bytes =
    append_cancel_right new.taken (old.taken ++ bytes) new.left
    (whole ∙ ap (λ (l : List ℕ). old.taken ++ l) parts
    ∙ sym (append_assoc old.taken bytes new.left)) in
    λ i. record { left = left i; taken = taken i; written = (same i).written }

read_present : (old new : Option Connection) (bytes : List ℕ)
    → option_map unread new ≡ option_map unread old
    → connection_left old ≡ bytes ++ connection_left new
    → new ≡ option_map (add_taken bytes) old
read_present None None bytes same parts = refl
read_present None (Some new) bytes same parts = absurd cc
read_present (Some old) None bytes same parts = absurd cc
read_present (Some old) (Some new) bytes same parts =
    let kept : unread new ≡ unread old = cc in
    ap (λ (c : Connection). Some c) (reading_keeps old new bytes kept parts)

pub read_adds : (old new : Connections) (bytes : List ℕ) → all_unread new ≡ all_unread old
    → left_now old ≡ bytes ++ left_now new → Some new ≡ Some (with_taken bytes old)
read_adds old new bytes same parts =
    let present = read_present old.present new.present bytes
    (ap (λ (all : Connections). all.present) same) parts in
    λ i. Some (record { past = (same i).past; present = present i; waiting = (same i).waiting })

write_present : (old new : Option Connection) (bytes : List ℕ)
    → option_map unwritten new ≡ option_map unwritten old
    → connection_written new ≡ connection_written old ++ bytes
    → new ≡ option_map (add_written bytes) old
write_present None None bytes same grown = refl
write_present None (Some new) bytes same grown = absurd cc
write_present (Some old) None bytes same grown = absurd cc
write_present (Some old) (Some new) bytes same grown =
    let kept : unwritten new ≡ unwritten old = cc in
    λ i. Some (record { left = (kept i).left; taken = (kept i).taken; written = grown i })

pub write_adds : (old new : Connections) (bytes : List ℕ) → all_unwritten new ≡ all_unwritten old
    → written_now new ≡ written_now old ++ bytes → Some new ≡ Some (with_written bytes old)
write_adds old new bytes same grown =
    let present = write_present old.present new.present bytes
    (ap (λ (all : Connections). all.present) same) grown in
    λ i. Some (record { past = (same i).past; present = present i; waiting = (same i).waiting })
