use Rattle.std.proofs.Common.{◌≡◌, take}
use Rattle.batch_paper.proofs.papers.replay_all.Given as goal

-- the rows so far are in the book
abbrev pub invariant-loop-row : goal.invariant-loop-row
invariant-loop-row l = l.book.entries ≡ take l.row-index l.rows
