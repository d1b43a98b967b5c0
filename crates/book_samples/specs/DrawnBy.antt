-- What a sample was drawn by.
use Rattle.std.specs.Prelude.{◌≡◌, ℕ, List}
use Rattle.book_words.specs.Samples.{Drawing, Sample, plan_of_drawing, first_picks}

-- a draw gave the plan and the first packs of a sample, and these are the packs that it drew from
pub record IsDrawnBy (packs : List ℕ) (sample : Sample) (drawing : Drawing) : Type 0 where
  pub from : drawing.packs ≡ packs
  pub plan : sample.plan ≡ plan_of_drawing drawing
  pub first : sample.first ≡ first_picks drawing
