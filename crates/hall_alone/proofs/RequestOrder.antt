-- The requests of each desk among legal rows.
use Rattle.std.proofs.Common.{◌≡◌, ℕ, zero, suc, ◌+◌, ◌<◌, Bool, true, false, not, ◌&&◌, ◌||◌, ◌==◌, nat_lt, if◌then◌else◌, List, [], ◌∷◌, ◌++◌, length, filter, Option, Some, None, refl, sym, ◌∙◌, ap, subst, arith, append_assoc, append-nil}
use Rattle.std.proofs.lemmas.Bool.Decides.{nat_tests}
use Rattle.std.proofs.lemmas.List.FromFn.{length-range_with_len}
use Rattle.std.specs.List.{last_or, range_with_len}
use Rattle.std.specs.Option.{option_and_then, option_map_or}
use Rattle.book_words.specs.declared.act.Act.{Act}
use Rattle.book_words.specs.declared.act.Entry.{Entry}
use Rattle.book_words.specs.declared.refusal.Refusal.{Refusal}
use Rattle.book_words.specs.declared.refusal.Refusal.TheVariants.{RequestReused}
use Rattle.book_words.specs.Desks.{Row, rows_of, newest_row, last_request, same_act, desk_number, request_old, request_reused, request_gap}
use Rattle.book_words.specs.Refusals.{refusals_of, desk_refusals}
use Rattle.book_words.specs.Answers.{ask_of, IsLawful, IsLegal}
use Rattle.book_words.specs.Soundness.{IsSound}
use Rattle.book_words.proofs.RefusalLemmas.{none_of_two, none_of_parts}
use Rattle.book_words.proofs.RowLemmas.{rows_push, last_of_some}
use Rattle.book_words.proofs.PlainLemmas.{in_both}
use Rattle.hall_alone.specs.Requests.{requests_of, RequestsOnce}

-- the newest request of a desk with one more entry
last_request_push : (entries : List Entry) (entry : Entry) (desk : ℕ) → last_request
    (entries ++ entry ∷ []) desk ≡ (if entry.desk == desk then entry.request else last_request
    entries desk)
last_request_push entries entry desk =
    ap (λ (rows : List Row). option_map_or (λ (row : Row). row.entry.request) (last_or None
    (filter (λ (row : Row). row.entry.desk == desk) rows)) 0) (rows_push entries entry)
    ∙ ap (λ (o : Option Row). option_map_or (λ (row : Row). row.entry.request) o 0) (last_of_some
    (λ (row : Row). row.entry.desk == desk) None (rows_of entries)
    (record { number = length entries + 1; entry = entry }))
    ∙ in_both (entry.desk == desk) (λ h. rw h refl) (λ h. rw h refl)

requests_push : (entries : List Entry) (entry : Entry) (desk : ℕ) → requests_of
    (entries ++ entry ∷ []) desk ≡ requests_of entries desk ++
    (if entry.desk == desk then entry.request ∷ [] else [])
requests_push [] entry desk = in_both (entry.desk == desk) (λ h. rw h refl) (λ h. rw h refl)
requests_push (e ∷ es) entry desk =
    in_both (e.desk == desk) (λ h. rw h (ap (λ (ns : List ℕ). e.request ∷ ns)
    (requests_push es entry desk))) (λ h. rw h (requests_push es entry desk))

-- ---- which request is the next

not_told : (none test : Bool) (refusal : Refusal) → none ≡ false → (if
    (not none && test) then Some refusal else None) ≡ None → test ≡ false
not_told false false refusal h told = refl
not_told false true refusal h told = absurd (cc)
not_told true test refusal h told = absurd (cc)

not_given : (none some : Bool) (given : Option Refusal) → none ≡ false → some ≡ true → (if
    (not none && some) then given else None) ≡ None → given ≡ None
not_given false true given h g told = told
not_given false false given h g told = absurd (cc)
not_given true some given h g told = absurd (cc)

not_found : {A : Type 0} (some : Bool) (found : Option A) → some ≡ true →
    (if some then found else None) ≡ None → found ≡ None
not_found true found h none = none
not_found false found h none = absurd (cc)

or_none : (a b : Bool) → a || b ≡ false → (a ≡ false) × (b ≡ false)
or_none false b h = (refl, h)
or_none true b h = absurd (cc)

-- a row with the same request has another act or the same
no_third : (same : Bool) (refusal : Refusal) (row : ℕ) → (if
    (true && not same) then Some refusal else None) ≡ None → (if
    (true && same) then Some row else None) ≡ None → ⊥
no_third true refusal row reused repeated = absurd (cc)
no_third false refusal row reused repeated = absurd (cc)

not_same : (row : Row) (request : ℕ) (act : Act) → (if ((row.entry.request == request) && not
    (same_act row.entry.act act)) then Some (RequestReused row.number) else None) ≡ None
    → (if ((row.entry.request == request) && same_act row.entry.act act) then Some row.number else
    None) ≡ None → (row.entry.request == request) ≡ true → ⊥
not_same row request act reused repeated same =
    no_third (same_act row.entry.act act) (RequestReused row.number) row.number
    (subst (λ (b : Bool). (if (b && not (same_act row.entry.act act)) then Some
    (RequestReused row.number) else None) ≡ None) same reused)
    (subst (λ (b : Bool). (if (b && same_act row.entry.act act) then Some row.number else None) ≡
    None) same repeated)

next_by : (newest : Option Row) (request : ℕ) (act : Act) → (request == 0) ≡ false
    → nat_lt request (option_map_or (λ (row : Row). row.entry.request) newest 0) ≡ false
    → nat_lt (option_map_or (λ (row : Row). row.entry.request) newest 0 + 1) request ≡ false
    → option_and_then (λ (row : Row). if ((row.entry.request == request) && not
    (same_act row.entry.act act)) then Some (RequestReused row.number) else None) newest ≡ None
    → option_and_then (λ (row : Row). if ((row.entry.request == request) && same_act row.entry.act
    act) then Some row.number else None) newest ≡ None
    → request ≡ option_map_or (λ (row : Row). row.entry.request) newest 0 + 1
next_by None request act some least most reused repeated = grind (arith, nat_tests)
next_by (Some row) request act some least most reused repeated =
    in_both (row.entry.request == request)
    (λ same. absurd (not_same row request act reused repeated same))
    (λ other. grind (arith, nat_tests))

-- a lawful entry of a desk has the request after the newest
next_request : (entries : List Entry) (entry : Entry) → IsLawful entries entry →
    (entry.desk == 0) ≡ false → entry.request ≡ last_request entries entry.desk + 1
next_request entries entry lawful desk =
    let ask = ask_of entry in
    let wrong = none_of_parts (desk_refusals entries ask entry.act)
    (refusals_of entries entry.act) lawful.rules in
    let a = none_of_two (desk_number ask entry.act) _ wrong.0 in
    let b = none_of_two (request_old entries ask) _ a.1 in
    let c = none_of_two (request_reused entries ask entry.act) _ b.1 in
    let d = none_of_two (request_gap entries ask) _ c.1 in
    let old = or_none (entry.request == 0) _ (not_told (entry.desk == 0) _ _ desk b.0) in
    let some : nat_lt 0 entry.request ≡ true = let zero_not = old.0 in grind (arith, nat_tests) in
    next_by (newest_row entries entry.desk) entry.request entry.act old.0 old.1 (not_told
    (entry.desk == 0) _ _ desk d.0)
    (not_given (entry.desk == 0) (nat_lt 0 entry.request) _ desk some c.0) (not_found
    (nat_lt 0 entry.request) _ some lawful.new)

-- ---- the requests of each desk

-- of each desk the requests up to its newest were taken down
abbrev InOrder : List Entry → Type 0
InOrder rows = (desk : ℕ) → 0 < desk → requests_of rows desk ≡ range_with_len 1 (last_request rows desk)

range_last : (from many : ℕ) → range_with_len from (suc many) ≡ range_with_len from many ++
    (from + many) ∷ []
range_last from zero = ap (λ n. n ∷ []) (let same : from ≡ from + 0 = omega arith in same)
range_last from (suc many) =
    ap (λ (ns : List ℕ). from ∷ ns) (range_last (from + 1) many)
    ∙ ap (λ n. range_with_len from (suc many) ++ n ∷ []) (let same :
    (from + 1) + many ≡ from + suc many = omega arith in same)

one_more : (last request : ℕ) → request ≡ last + 1 → range_with_len 1 last ++ request ∷ [] ≡
    range_with_len 1 request
one_more last request next =
    let as_suc : suc last ≡ request = omega (arith, next) in
    ap (λ n. range_with_len 1 last ++ n ∷ []) (let same : request ≡ 1 + last = omega
    (arith, next) in same) ∙ sym (range_last 1 last) ∙ ap (range_with_len 1) as_suc

in_order_push : (entries : List Entry) (entry : Entry) → IsLawful entries entry → InOrder entries
    → InOrder (entries ++ entry ∷ [])
in_order_push entries entry lawful order desk some = in_both (entry.desk == desk) own other
  where
    own : (entry.desk == desk) ≡ true → requests_of (entries ++ entry ∷ []) desk ≡ range_with_len 1
        (last_request (entries ++ entry ∷ []) desk)
    own same =
        let is : entry.desk ≡ desk = grind (arith, nat_tests) in
        let has : (entry.desk == 0) ≡ false = grind (arith, nat_tests) in
        let next : entry.request ≡ last_request entries desk + 1 = subst (λ
        (n : ℕ). entry.request ≡ last_request entries n + 1) is
        (next_request entries entry lawful has) in
        requests_push entries entry desk
        ∙ ap (λ (b : Bool). requests_of entries desk ++ (if b then entry.request ∷ [] else [])) same
        ∙ ap (λ (ns : List ℕ). ns ++ entry.request ∷ []) (order desk some)
        ∙ one_more (last_request entries desk) entry.request next
        ∙ ap (λ (b : Bool). range_with_len 1 (if b then entry.request else last_request entries
        desk)) (sym same)
        ∙ ap (range_with_len 1) (sym (last_request_push entries entry desk))

    other : (entry.desk == desk) ≡ false → requests_of (entries ++ entry ∷ []) desk ≡
        range_with_len 1 (last_request (entries ++ entry ∷ []) desk)
    other differs =
        requests_push entries entry desk
        ∙ ap (λ (b : Bool). requests_of entries desk ++ (if b then entry.request ∷ [] else [])) differs
        ∙ append-nil (requests_of entries desk)
        ∙ order desk some
        ∙ ap (λ (b : Bool). range_with_len 1 (if b then entry.request else last_request entries
        desk)) (sym differs)
        ∙ ap (range_with_len 1) (sym (last_request_push entries entry desk))

in_order_from : (before after : List Entry) → IsLegal (before ++ after) → InOrder before → InOrder
    (before ++ after)
in_order_from before [] legal order = subst InOrder (sym (append-nil before)) order
in_order_from before (e ∷ es) legal order =
    subst InOrder (append_assoc before (e ∷ []) es)
    (in_order_from (before ++ e ∷ []) es (subst IsLegal (sym (append_assoc before
    (e ∷ []) es)) legal) (in_order_push before e (legal before e es refl) order))

-- among sound rows each request of a desk stands once
pub requests_once : (rows : List Entry) → IsSound rows → RequestsOnce rows
requests_once rows sound desk some =
    let order = in_order_from [] rows sound.legal (λ d s. refl) desk some in
    order ∙ ap (range_with_len 1) (sym (ap length order ∙ length-range_with_len 1
    (last_request rows desk)))
