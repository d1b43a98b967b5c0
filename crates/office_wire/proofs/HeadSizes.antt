-- Where the first empty line ends, place by place.
use Rattle.std.proofs.Common.{◌≡◌, ℕ, ◌+◌, ◌<◌, List, length, drop, Option, Some, None, option_map, refl, sym, ap, ◌∙◌, arith}
use Rattle.std.proofs.lemmas.List.{drop_more}
use Rattle.std.specs.Option.{option_or}
use Rattle.office_wire.specs.HeadSize.{empty_line_size, lines_size}

one_further : (place : ℕ) (size : Option ℕ)
    → option_map (λ n. place + n) (option_map (λ n. 1 + n) size)
    ≡ option_map (λ n. place + 1 + n) size
one_further place None = refl
one_further place (Some n) =
    ap (λ (m : ℕ). Some m) (let is : place + (1 + n) ≡ place + 1 + n = omega arith in is)

-- where none begins at a place, the first is that from the next place on
pub none_here : (bytes : List ℕ) (place : ℕ) → place < length bytes
    → empty_line_size (drop place bytes) ≡ None
    → option_map (λ n. place + n) (lines_size (drop place bytes))
    ≡ option_map (λ n. place + 1 + n) (lines_size (drop (place + 1) bytes))
none_here bytes place less none =
    let more = drop_more bytes place 0 less in
    ap (λ (rest : List ℕ). option_map (λ n. place + n) (lines_size rest)) more
    ∙ ap (λ (here : Option ℕ). option_map (λ n. place + n) (option_or here
    (option_map (λ n. 1 + n) (lines_size (drop (place + 1) bytes)))))
    (ap empty_line_size (sym more) ∙ none)
    ∙ one_further place (lines_size (drop (place + 1) bytes))
