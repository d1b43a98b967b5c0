-- Laws of what bytes begin with.
use Rattle.std.proofs.Common.{◌≡◌, ℕ, zero, suc, ◌+◌, ◌<◌, ◌≤◌, Bool, true, false, List, [], ◌∷◌, ◌++◌, length, take, drop, nat_le, Option, Some, None, Result, Ok, Err, if◌then◌else◌, refl, sym, ap, subst, ◌∙◌, arith, lit≤, leb-true, leb-false, le-leb, cond, option_map, take_all, length-append, length-drop, length-take}
use Rattle.std.specs.List.{list_all, prefix_len}
use Rattle.std.proofs.lemmas.Bool.{true≢false, and_parts, lt-leb}
use Rattle.std.proofs.lemmas.List.{take-append-le, drop-append-le, drop_all, length-take-le}
use Rattle.httparse.specs.Grammar.{RequestHead}
use Rattle.httparse.proofs.GrammarLemmas.{request_unique}
use Rattle.office_wire.specs.declared.limits.TheConstants.{MAX_HEAD, MAX_BODY, REQUEST_ROOM}
use Rattle.office_wire.specs.declared.types.Bad.{Bad}
use Rattle.office_wire.specs.declared.types.Bad.TheVariants as bad
use Rattle.office_wire.specs.declared.types.Framed.{Framed}
use Rattle.office_wire.specs.declared.types.Frame.{Frame}
use Rattle.office_wire.specs.declared.types.Frame.TheVariants.{Whole, More, Nothing}
use Rattle.office_wire.specs.HeadSize.{is_newline, lines_size, head_size}
use Rattle.office_wire.specs.Headers.{Header, is_coded, size_given}
use Rattle.office_wire.specs.Frames.{IsFrame, IsFrameWithHead, IsSplitFrame, IsHeadOf, headers_of, allowed_size, size_of, body_size, last_fault, whole_request, part_of_body, frame_by_size, frame_by_head, frame_at_end, frame_without_head}
use Rattle.office_wire.proofs.FrameKinds.{more_not_whole, nothing_not_whole, whole_not_more, nothing_not_more}
use Rattle.office_wire.proofs.HeadGrowth.{head_within, head_still}

-- ---- parts

abbrev taken_by : Frame → ℕ
taken_by (Whole framed) = framed.taken
taken_by More = 0
taken_by Nothing = 0

-- the size that a result has
abbrev header_size : Result (Option ℕ) Bad → ℕ
header_size (Ok given) = body_size given
header_size (Err fault) = 0

abbrev is_error : Result (Option ℕ) Bad → Bool
is_error (Ok given) = false
is_error (Err fault) = true

err_not_ok : (fault : Bad) (given : Option ℕ) → Err fault ≡ Ok given → ⊥
err_not_ok fault given is = true≢false (ap is_error is)

-- ---- the bytes within which a head text lies

-- what follows may only stand behind them
front_grows : (most : ℕ) (bytes more : List ℕ)
    → (behind : List ℕ) × (take most (bytes ++ more) ≡ take most bytes ++ behind)
front_grows zero bytes more = ([], refl)
front_grows (suc most) [] more = (take (suc most) more, refl)
front_grows (suc most) (byte ∷ bytes) more =
    let grown = front_grows most bytes more in
    (grown.0, ap (λ (front : List ℕ). byte ∷ front) grown.1)

-- a head text stands where it is whatever follows
found_still : (bytes more : List ℕ) (size : ℕ) → head_size (take MAX_HEAD bytes) ≡ Some size
    → head_size (take MAX_HEAD (bytes ++ more)) ≡ Some size
found_still bytes more size is =
    let grown = front_grows MAX_HEAD bytes more in
    ap head_size grown.1 ∙ head_still (take MAX_HEAD bytes) grown.0 size is

-- it has at least two bytes, and they are there
pub found_within : (bytes : List ℕ) (size : ℕ) → head_size (take MAX_HEAD bytes) ≡ Some size
    → (2 ≤ size) × (size ≤ length bytes) × (size ≤ MAX_HEAD)
found_within bytes size is =
    let inside = head_within (take MAX_HEAD bytes) size is in
    let front = length-take MAX_HEAD bytes in
    (inside.0, omega (arith, inside.1, front), omega (arith, inside.1, front))

-- ---- what is decided stays

-- behind a head, what holds its body holds it whatever follows
sized_still : (given : Result (Option ℕ) Bad) (head : RequestHead) (size : ℕ) (rest more : List ℕ)
    (ended : Bool) (framed : Framed)
    → frame_by_size given head size rest false ≡ Whole framed
    → frame_by_size given head size (rest ++ more) ended ≡ Whole framed
sized_still (Err fault) head size rest more ended framed is = is
sized_still (Ok given) head size rest more ended framed is =
    by (nat_le (body_size given) (length rest)) refl is
  where
    by : (there : Bool) → nat_le (body_size given) (length rest) ≡ there
        → (if there then whole_request head size given (take (body_size given) rest)
        else part_of_body size rest false) ≡ Whole framed
        → frame_by_size (Ok given) head size (rest ++ more) ended ≡ Whole framed
    by false h e = absurd (more_not_whole framed e)
    by true h e =
        let fits : body_size given ≤ length rest = leb-true (body_size given) (length rest) h in
        let both = length-append rest more in
        let still : nat_le (body_size given) (length (rest ++ more)) ≡ true =
        le-leb (body_size given) (length (rest ++ more)) (omega (arith, both, fits)) in
        ap (λ there. if there
        then whole_request head size given (take (body_size given) (rest ++ more))
        else part_of_body size (rest ++ more) ended) still
        ∙ ap (λ body. whole_request head size given body)
        (take-append-le (body_size given) rest more fits)
        ∙ e

-- a head text says the same whatever follows
headed_still : (head : Option RequestHead) (size : ℕ) (rest more : List ℕ)
    (ended : Bool) (framed : Framed)
    → frame_by_head head size rest false ≡ Whole framed
    → frame_by_head head size (rest ++ more) ended ≡ Whole framed
headed_still None size rest more ended framed is = is
headed_still (Some head) size rest more ended framed is =
    sized_still (size_of (headers_of head)) head size rest more ended framed is

-- where no head text is found there is a fault whatever follows
headless_still : (bytes more : List ℕ) (ended : Bool) (framed : Framed)
    → head_size (take MAX_HEAD bytes) ≡ None
    → frame_without_head bytes false ≡ Whole framed
    → IsFrame (bytes ++ more) ended (Whole framed)
headless_still bytes more ended framed none is = by (nat_le MAX_HEAD (length bytes)) refl is where
  by : (full : Bool) → nat_le MAX_HEAD (length bytes) ≡ full
      → (if full then last_fault MAX_HEAD bad.Head else More) ≡ Whole framed
      → IsFrame (bytes ++ more) ended (Whole framed)
  by false h e = absurd (more_not_whole framed e)
  by true h e =
      let long : MAX_HEAD ≤ length bytes = leb-true MAX_HEAD (length bytes) h in
      let both = length-append bytes more in
      let still : nat_le MAX_HEAD (length (bytes ++ more)) ≡ true =
      le-leb MAX_HEAD (length (bytes ++ more)) (omega (arith, both, long)) in
      let same : head_size (take MAX_HEAD (bytes ++ more)) ≡ None =
      ap head_size (take-append-le MAX_HEAD bytes more long) ∙ none in
      subst (λ found. IsFrameWithHead found (bytes ++ more) ended (Whole framed)) (sym same)
      (sym (ap (λ full. if full then last_fault MAX_HEAD bad.Head
      else (if ended then frame_at_end (bytes ++ more) else More)) still ∙ e))

-- a request that bytes begin with while more may come is there whatever comes
pub frame_still : (bytes more : List ℕ) (ended : Bool) (framed : Framed)
    → IsFrame bytes false (Whole framed) → IsFrame (bytes ++ more) ended (Whole framed)
frame_still bytes more ended framed is = by (head_size (take MAX_HEAD bytes)) refl is where
  by : (found : Option ℕ) → head_size (take MAX_HEAD bytes) ≡ found
      → IsFrameWithHead found bytes false (Whole framed) → IsFrame (bytes ++ more) ended (Whole framed)
  by None h e = headless_still bytes more ended framed h (sym e)
  by (Some size) h x =
      let inside = found_within bytes size h in
      let text : take size (bytes ++ more) ≡ take size bytes =
      take-append-le size bytes more inside.1 in
      let behind : drop size (bytes ++ more) ≡ drop size bytes ++ more =
      drop-append-le size bytes more inside.1 in
      subst (λ found. IsFrameWithHead found (bytes ++ more) ended (Whole framed))
      (sym (found_still bytes more size h))
      (subst (λ (t : List ℕ). IsSplitFrame t (drop size (bytes ++ more)) ended (Whole framed))
      (sym text)
      (subst (λ (r : List ℕ). IsSplitFrame (take size bytes) r ended (Whole framed)) (sym behind) (
        x.0,
        x.1,
        sym (headed_still x.0 (length (take size bytes)) (drop size bytes) more ended
            framed (sym x.2)),
      )))

-- ---- one meaning

-- a text is one head, or none
head_unique : (text : List ℕ) (a b : Option RequestHead) → IsHeadOf text a → IsHeadOf text b → a ≡ b
head_unique text None None x y = refl
head_unique text None (Some b) x y =
    let less = x b y.0 in
    let most = y.1 in
    absurd (omega (arith, less, most))
head_unique text (Some a) None x y =
    let less = y a x.0 in
    let most = x.1 in
    absurd (omega (arith, less, most))
head_unique text (Some a) (Some b) x y =
    ap (λ (head : RequestHead). Some head) (request_unique text a b [] [] x.0 y.0).0

-- bytes begin with one thing
pub frame_unique : (bytes : List ℕ) (ended : Bool) (a b : Frame)
    → IsFrame bytes ended a → IsFrame bytes ended b → a ≡ b
frame_unique bytes ended a b x y = by (head_size (take MAX_HEAD bytes)) x y where
  by : (found : Option ℕ) → IsFrameWithHead found bytes ended a → IsFrameWithHead found bytes ended b
      → a ≡ b
  by None x y = x ∙ sym y
  by (Some size) x y =
      x.2 ∙ ap (λ head. frame_by_head head (length (take size bytes)) (drop size bytes) ended)
      (head_unique (take size bytes) x.0 y.0 x.1 y.1) ∙ sym y.2

-- ---- how many bytes

-- the bytes of a frame: at least one, and no more than there are
abbrev IsTaken : ℕ → Frame → Type 0
IsTaken most frame = (framed : Framed) → frame ≡ Whole framed
    → (1 ≤ framed.taken) × (framed.taken ≤ most)

taken_is : (frame : Frame) (most : ℕ) → 1 ≤ taken_by frame → taken_by frame ≤ most
    → IsTaken most frame
taken_is frame most low high framed is =
    let same : taken_by frame ≡ framed.taken = ap taken_by is in
    (omega (arith, same, low), omega (arith, same, high))

nothing_taken : (most : ℕ) → IsTaken most Nothing
nothing_taken most framed is = absurd (nothing_not_whole framed is)

more_taken : (most : ℕ) → IsTaken most More
more_taken most framed is = absurd (more_not_whole framed is)

-- the bytes of what stands behind a head
sized_taken : (given : Result (Option ℕ) Bad) (head : RequestHead) (size : ℕ) (rest : List ℕ)
    (ended : Bool) → 1 ≤ size
    → IsTaken (size + length rest) (frame_by_size given head size rest ended)
sized_taken (Err fault) head size rest ended some =
    taken_is (last_fault size fault) (size + length rest) some (omega arith)
sized_taken (Ok given) head size rest ended some =
    by (nat_le (body_size given) (length rest)) ended where
      by : (there : Bool) (ended : Bool) → IsTaken (size + length rest)
          (if there then whole_request head size given (take (body_size given) rest)
          else part_of_body size rest ended)
      by true ended =
          let body = length-take (body_size given) rest in
          taken_is (whole_request head size given (take (body_size given) rest)) (size + length rest)
          (omega (arith, some)) (omega (arith, body))
      by false true =
          taken_is (last_fault (size + length rest) bad.Short) (size + length rest)
          (omega (arith, some)) (omega arith)
      by false false = more_taken (size + length rest)

headed_taken : (head : Option RequestHead) (size : ℕ) (rest : List ℕ) (ended : Bool)
    → 1 ≤ size → IsTaken (size + length rest) (frame_by_head head size rest ended)
headed_taken None size rest ended some =
    taken_is (last_fault size bad.Head) (size + length rest) some (omega arith)
headed_taken (Some head) size rest ended some =
    sized_taken (size_of (headers_of head)) head size rest ended some

headless_taken : (bytes : List ℕ) (ended : Bool)
    → IsTaken (length bytes) (frame_without_head bytes ended)
headless_taken bytes ended = by (nat_le MAX_HEAD (length bytes)) refl ended where
  at_end : (bytes : List ℕ) → IsTaken (length bytes) (frame_at_end bytes)
  at_end [] = nothing_taken 0
  at_end (byte ∷ rest) = by (list_all is_newline (byte ∷ rest)) where
    by : (all : Bool) → IsTaken (length (byte ∷ rest))
        (if all then Nothing else last_fault (length (byte ∷ rest)) bad.Head)
    by true = nothing_taken (length (byte ∷ rest))
    by false =
        taken_is (last_fault (length (byte ∷ rest)) bad.Head) (length (byte ∷ rest))
        (omega arith) (omega arith)

  by : (full : Bool) → nat_le MAX_HEAD (length bytes) ≡ full → (ended : Bool)
      → IsTaken (length bytes) (if full then last_fault MAX_HEAD bad.Head
      else (if ended then frame_at_end bytes else More))
  by true h ended =
      let long = leb-true MAX_HEAD (length bytes) h in
      taken_is (last_fault MAX_HEAD bad.Head) (length bytes) (lit≤ tt) long
  by false h true = at_end bytes
  by false h false = more_taken (length bytes)

-- a request has at least one byte, and no more than there are
pub frame_taken : (bytes : List ℕ) (ended : Bool) (framed : Framed)
    → IsFrame bytes ended (Whole framed) → (1 ≤ framed.taken) × (framed.taken ≤ length bytes)
frame_taken bytes ended framed is = by (head_size (take MAX_HEAD bytes)) refl is where
  by : (found : Option ℕ) → head_size (take MAX_HEAD bytes) ≡ found
      → IsFrameWithHead found bytes ended (Whole framed)
      → (1 ≤ framed.taken) × (framed.taken ≤ length bytes)
  by None h e = headless_taken bytes ended framed (sym e)
  by (Some size) h x =
      let inside = found_within bytes size h in
      let text : length (take size bytes) ≡ size = length-take-le size bytes inside.1 in
      let rest = length-drop size bytes in
      let taken = headed_taken x.0 (length (take size bytes)) (drop size bytes) ended
      (omega (arith, text, inside.0)) framed (sym x.2) in
      (taken.0, omega (arith, taken.1, text, rest, inside.1))

-- ---- while it isn't decided

-- a length that a body may have
allowed_bounded : (said : Option (Option ℕ)) (given : Option ℕ) → allowed_size said ≡ Ok given
    → body_size given ≤ MAX_BODY
allowed_bounded None given is = absurd (err_not_ok bad.Length given is)
allowed_bounded (Some None) given is =
    let none : 0 ≡ body_size given = ap header_size is in
    omega (arith, none)
allowed_bounded (Some (Some size)) given is = by (nat_le size MAX_BODY) refl is where
  by : (small : Bool) → nat_le size MAX_BODY ≡ small
      → (if small then Ok (Some size) else Err bad.Large) ≡ Ok given → body_size given ≤ MAX_BODY
  by true h e =
      let same : size ≡ body_size given = ap header_size e in
      let fits = leb-true size MAX_BODY h in
      omega (arith, same, fits)
  by false h e = absurd (err_not_ok bad.Large given e)

size_of_bounded : (headers : List Header) (given : Option ℕ) → size_of headers ≡ Ok given
    → body_size given ≤ MAX_BODY
size_of_bounded headers given is = by (is_coded headers) is where
  by : (coded : Bool) → (if coded then Err bad.Coding else allowed_size (size_given headers))
      ≡ Ok given
      → body_size given ≤ MAX_BODY
  by true e = absurd (err_not_ok bad.Coding given e)
  by false e = allowed_bounded (size_given headers) given e

-- the bytes behind a head that isn't a request yet are fewer than a body may have
sized_more : (said : Result (Option ℕ) Bad) (head : RequestHead) (size : ℕ) (rest : List ℕ)
    (ended : Bool)
    → ((given : Option ℕ) → said ≡ Ok given → body_size given ≤ MAX_BODY)
    → frame_by_size said head size rest ended ≡ More → (length rest < MAX_BODY) × (ended ≡ false)
sized_more (Err fault) head size rest ended most is = absurd (whole_not_more _ is)
sized_more (Ok given) head size rest ended most is =
    by (nat_le (body_size given) (length rest)) refl ended is
  where
    by : (there : Bool) → nat_le (body_size given) (length rest) ≡ there → (ended : Bool)
        → (if there then whole_request head size given (take (body_size given) rest)
        else part_of_body size rest ended) ≡ More → (length rest < MAX_BODY) × (ended ≡ false)
    by true h ended e = absurd (whole_not_more _ e)
    by false h true e = absurd (whole_not_more _ e)
    by false h false e =
        let short = leb-false (body_size given) (length rest) h in
        let bounded = most given refl in
        (omega (arith, short, bounded), refl)

headed_more : (head : Option RequestHead) (size : ℕ) (rest : List ℕ) (ended : Bool)
    → frame_by_head head size rest ended ≡ More → (length rest < MAX_BODY) × (ended ≡ false)
headed_more None size rest ended is = absurd (whole_not_more _ is)
headed_more (Some head) size rest ended is =
    sized_more (size_of (headers_of head)) head size rest ended (size_of_bounded (headers_of head))
    is

headless_more : (bytes : List ℕ) (ended : Bool) → frame_without_head bytes ended ≡ More
    → (length bytes < MAX_HEAD) × (ended ≡ false)
headless_more bytes ended is = by (nat_le MAX_HEAD (length bytes)) refl ended is where
  by_all : (all : Bool) → (if all then Nothing else last_fault (length bytes) bad.Head) ≡ More
      → (length bytes < MAX_HEAD) × (true ≡ false)
  by_all true e = absurd (nothing_not_more e)
  by_all false e = absurd (whole_not_more _ e)

  by : (full : Bool) → nat_le MAX_HEAD (length bytes) ≡ full → (ended : Bool)
      → (if full then last_fault MAX_HEAD bad.Head
      else (if ended then frame_at_end bytes else More)) ≡ More
      → (length bytes < MAX_HEAD) × (ended ≡ false)
  by true h ended e = absurd (whole_not_more _ e)
  by false h true e = by_all (list_all is_newline bytes) e
  by false h false e = (leb-false MAX_HEAD (length bytes) h, refl)

-- more bytes are wanted only of fewer than a request may have, and while the input hasn't ended
pub more_wanted : (bytes : List ℕ) (ended : Bool) → IsFrame bytes ended More
    → (length bytes < REQUEST_ROOM) × (ended ≡ false)
more_wanted bytes ended is = by (head_size (take MAX_HEAD bytes)) refl is where
  by : (found : Option ℕ) → head_size (take MAX_HEAD bytes) ≡ found
      → IsFrameWithHead found bytes ended More → (length bytes < REQUEST_ROOM) × (ended ≡ false)
  by None h e =
      let less = headless_more bytes ended (sym e) in
      (omega (arith, less.0), less.1)
  by (Some size) h x =
      let inside = found_within bytes size h in
      let rest = length-drop size bytes in
      let less = headed_more x.0 (length (take size bytes)) (drop size bytes) ended (sym x.2) in
      (omega (arith, less.0, rest, inside.1, inside.2), less.1)

-- ---- nothing

-- behind bytes that are CR and LF alone there is no head text
newlines_all : (bytes : List ℕ) → list_all is_newline bytes ≡ true
    → prefix_len is_newline bytes ≡ length bytes
newlines_all [] all = refl
newlines_all (byte ∷ rest) all =
    let parts = and_parts (is_newline byte) (list_all is_newline rest) all in
    ap (λ (here : Bool). cond here (1 + prefix_len is_newline rest) 0) parts.0
    ∙ (let rest_all = newlines_all rest parts.1 in omega (arith, rest_all))

no_head_in_newlines : (bytes : List ℕ) → list_all is_newline bytes ≡ true → head_size bytes ≡ None
no_head_in_newlines bytes all =
    let behind : drop (prefix_len is_newline bytes) bytes ≡ [] =
    drop_all (prefix_len is_newline bytes) bytes
    (let long = newlines_all bytes all in omega (arith, long)) in
    ap (λ (rest : List ℕ).
    option_map (λ size. prefix_len is_newline bytes + size) (lines_size rest)) behind

-- at the end of the input there is nothing where fewer bytes than a head text may have are CR and LF
pub nothing_there : (bytes : List ℕ) → length bytes < MAX_HEAD → list_all is_newline bytes ≡ true
    → IsFrame bytes true Nothing
nothing_there bytes short all =
    let whole : take MAX_HEAD bytes ≡ bytes = take_all MAX_HEAD bytes (omega (arith, short)) in
    let none : head_size (take MAX_HEAD bytes) ≡ None =
    ap head_size whole ∙ no_head_in_newlines bytes all in
    let fewer : nat_le MAX_HEAD (length bytes) ≡ false = lt-leb MAX_HEAD (length bytes) short in
    subst (λ found. IsFrameWithHead found bytes true Nothing) (sym none)
    (sym (ap (λ full. if full then last_fault MAX_HEAD bad.Head else frame_at_end bytes) fewer
    ∙ ap (λ here. if here then Nothing else last_fault (length bytes) bad.Head) all))

sized_something : (said : Result (Option ℕ) Bad) (head : RequestHead) (size : ℕ) (rest : List ℕ)
    (ended : Bool)
    → frame_by_size said head size rest ended ≡ Nothing → ⊥
sized_something (Err fault) head size rest ended is = nothing_not_whole _ (sym is)
sized_something (Ok given) head size rest ended is =
    by (nat_le (body_size given) (length rest)) ended is where
      by : (there : Bool) (ended : Bool)
          → (if there then whole_request head size given (take (body_size given) rest)
          else part_of_body size rest ended) ≡ Nothing → ⊥
      by true ended e = nothing_not_whole _ (sym e)
      by false true e = nothing_not_whole _ (sym e)
      by false false e = nothing_not_more (sym e)

headed_something : (head : Option RequestHead) (size : ℕ) (rest : List ℕ) (ended : Bool)
    → frame_by_head head size rest ended ≡ Nothing → ⊥
headed_something None size rest ended is = nothing_not_whole _ (sym is)
headed_something (Some head) size rest ended is =
    sized_something (size_of (headers_of head)) head size rest ended is

-- and nowhere else
pub nothing_alone : (bytes : List ℕ) (ended : Bool) → IsFrame bytes ended Nothing
    → (ended ≡ true) × (length bytes < MAX_HEAD) × (list_all is_newline bytes ≡ true)
nothing_alone bytes ended is = by (head_size (take MAX_HEAD bytes)) is where
  by_all : (all : Bool) → list_all is_newline bytes ≡ all
      → (if all then Nothing else last_fault (length bytes) bad.Head) ≡ Nothing
      → list_all is_newline bytes ≡ true
  by_all true h e = h
  by_all false h e = absurd (nothing_not_whole _ (sym e))

  by_full : (full : Bool) → nat_le MAX_HEAD (length bytes) ≡ full → (ended : Bool)
      → (if full then last_fault MAX_HEAD bad.Head
      else (if ended then frame_at_end bytes else More)) ≡ Nothing
      → (ended ≡ true) × (length bytes < MAX_HEAD) × (list_all is_newline bytes ≡ true)
  by_full true h ended e = absurd (nothing_not_whole _ (sym e))
  by_full false h false e = absurd (nothing_not_more (sym e))
  by_full false h true e =
      (refl, leb-false MAX_HEAD (length bytes) h, by_all (list_all is_newline bytes) refl e)

  by : (found : Option ℕ) → IsFrameWithHead found bytes ended Nothing
      → (ended ≡ true) × (length bytes < MAX_HEAD) × (list_all is_newline bytes ≡ true)
  by None e = by_full (nat_le MAX_HEAD (length bytes)) refl ended (sym e)
  by (Some size) x =
      absurd (headed_something x.0 (length (take size bytes)) (drop size bytes) ended (sym x.2))
