-- Laws of the requests of a connection.
use Rattle.std.proofs.Common.{◌≡◌, ℕ, Bool, true, false, List, [], ◌∷◌, ◌++◌, drop, refl, sym, ap, subst, ◌∙◌}
use Rattle.std.proofs.lemmas.List.{drop-append-le}
use Rattle.office_wire.specs.declared.types.Framed.{Framed}
use Rattle.office_wire.specs.declared.types.Frame.TheVariants.{Whole, Nothing}
use Rattle.office_wire.specs.Frames.{IsFrame}
use Rattle.office_wire.specs.Requests.{BeginWith, AreRequests}
use Rattle.office_wire.proofs.FrameKinds.{nothing_not_whole, same_framed}
use Rattle.office_wire.proofs.FrameLaws.{frame_still, frame_unique, frame_taken}

-- ---- the first requests

-- they are the first whatever follows, where the end wasn't given before
pub begin_more : (ended : Bool) (bytes more : List ℕ) (requests : List Framed) (rest : List ℕ)
    → BeginWith false bytes requests rest
    → BeginWith ended (bytes ++ more) requests (rest ++ more)
begin_more ended bytes more [] rest is = ap (λ (xs : List ℕ). xs ++ more) is
begin_more ended bytes more (framed ∷ behind) rest is =
    let within = (frame_taken bytes false framed is.0).1 in
    let parts : drop framed.taken (bytes ++ more) ≡ drop framed.taken bytes ++ more =
    drop-append-le framed.taken bytes more within in (
      frame_still bytes more ended framed is.0,
      subst (λ (xs : List ℕ). BeginWith ended xs behind (rest ++ more)) (sym parts)
          (begin_more ended (drop framed.taken bytes) more behind rest is.1),
    )

-- the next request stands behind them
pub begin_push : (ended : Bool) (bytes : List ℕ) (requests : List Framed) (rest : List ℕ)
    (framed : Framed)
    → BeginWith ended bytes requests rest → IsFrame rest ended (Whole framed)
    → BeginWith ended bytes (requests ++ framed ∷ []) (drop framed.taken rest)
begin_push ended bytes [] rest framed is next = (
  subst (λ (xs : List ℕ). IsFrame xs ended (Whole framed)) (sym is) next,
  ap (drop framed.taken) is,
)
begin_push ended bytes (first ∷ behind) rest framed is next =
    (is.0, begin_push ended (drop first.taken bytes) behind rest framed is.1 next)

-- the first of what the same bytes begin with is the same, and so is what stands behind it
pub begin_same : (ended : Bool) (bytes : List ℕ) (a b : Framed) (here : List Framed)
    (rest : List ℕ)
    → BeginWith ended bytes (a ∷ here) rest → IsFrame bytes ended (Whole b)
    → (a ≡ b) × BeginWith ended (drop b.taken bytes) here rest
begin_same ended bytes a b here rest x y =
    let same = same_framed a b (frame_unique bytes ended (Whole a) (Whole b) x.0 y) in
    (same, subst (λ (f : Framed). BeginWith ended (drop f.taken bytes) here rest) same x.1)

-- ---- one list

pub requests_unique : (bytes : List ℕ) (here there : List Framed)
    → AreRequests bytes here → AreRequests bytes there → here ≡ there
requests_unique bytes [] [] x y = refl
requests_unique bytes [] (b ∷ there) x y =
    absurd (nothing_not_whole b (frame_unique bytes true Nothing (Whole b) x y.0))
requests_unique bytes (a ∷ here) [] x y =
    absurd (nothing_not_whole a (frame_unique bytes true Nothing (Whole a) y x.0))
requests_unique bytes (a ∷ here) (b ∷ there) x y =
    let same = same_framed a b (frame_unique bytes true (Whole a) (Whole b) x.0 y.0) in
    by a.last refl same (requests_unique (drop a.taken bytes) here there)
  where
    by : (last : Bool) → a.last ≡ last → a ≡ b
        → (AreRequests (drop a.taken bytes) here → AreRequests (drop a.taken bytes) there
        → here ≡ there)
        → a ∷ here ≡ b ∷ there
    by true h same go = λ i. same i ∷ (x.1 h ∙ sym (y.1 (ap (λ (f : Framed). f.last) (sym same)
        ∙ h))) i
    by false h same go =
        λ i. same i ∷ go (x.2 h)
        (subst (λ (f : Framed). AreRequests (drop f.taken bytes) there) (sym same)
        (y.2 (ap (λ (f : Framed). f.last) (sym same) ∙ h))) i
