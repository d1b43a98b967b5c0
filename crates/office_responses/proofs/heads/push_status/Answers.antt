use Rattle.std.proofs.Common.{◌≡◌, ◌≤◌, ◌∙◌, ◌++◌, List, ℕ, codes, Option, None, Some, Bor, [], length, option_map, unwrap_or, append_assoc, length-append, ap, refl, arith, lit≤}
use Rattle.http.specs.StatusCode.{code_digits, reason_phrase}
use Rattle.office_responses.specs.declared.types.Status.{Status}
use Rattle.office_responses.specs.declared.types.Status.TheVariants as status
use Rattle.office_responses.specs.declared.heads.TheConstants.{MAX_VALUE}
use Rattle.office_responses.specs.Responses.{status_text, head_line}
use Rattle.office_responses.proofs.heads.push_status.Goals as goal

five_parts : (start a b c d e : List ℕ)
    → start ++ a ++ b ++ c ++ d ++ e ≡ start ++ (a ++ (b ++ c ++ d) ++ e)
five_parts start a b c d e = simp append_assoc

-- the phrase that is written is that of the code
phrase_is : (told : Option (Bor (List ℕ))) (none : Bor (List ℕ)) (phrase : Option (List ℕ))
    → none.now ≡ [] → option_map (λ s. s.now) told ≡ phrase
    → (unwrap_or told none).now ≡ unwrap_or phrase []
phrase_is None none phrase empty is = empty ∙ ap (λ p. unwrap_or p []) is
phrase_is (Some text) none phrase empty is = ap (λ p. unwrap_or p []) is

short : (status : Status) → length (status_text status) ≤ MAX_VALUE
short status.Ok = lit≤ tt
short status.BadRequest = lit≤ tt
short status.NotFound = lit≤ tt
short status.MethodNotAllowed = lit≤ tt
short status.Conflict = lit≤ tt
short status.LengthRequired = lit≤ tt
short status.PayloadTooLarge = lit≤ tt
short status.InternalServerError = lit≤ tt
short status.ServiceUnavailable = lit≤ tt

pub returns : goal.returns
returns c =
    let digits : c.as_bytes.result.now ≡ code_digits c.code_of-code.result =
    c.as_bytes.ensures.value ∙ c.as_str.ensures in
    let phrase : c.as_bytes-2.result.now ≡ unwrap_or (reason_phrase c.code_of-code.result) [] =
    c.as_bytes-2.ensures.value ∙ ap (λ (s : Bor (List ℕ)). s.now) c.unwrap_or.ensures
    ∙ phrase_is c.canonical_reason.result _ _ refl c.canonical_reason.ensures.value in
    let word : c.as_bytes.result.now ++ codes " " ++ c.as_bytes-2.result.now
    ≡ status_text c.args.status =
    (λ i. digits i ++ codes " " ++ phrase i) ∙ c.code_of-code.ensures in
    let front = length-append c.as_bytes.result.now (codes " ") in
    let whole = length-append (c.as_bytes.result.now ++ codes " ") c.as_bytes-2.result.now in
    let same = ap length word in
    let few = short c.args.status in record {
      items = rw (
        c.append-5.ensures.items,
        c.append-4.ensures.items,
        c.append-3.ensures.items,
        c.append-2.ensures.items,
        c.append.ensures.items,
      )
          (five_parts c.args.to.now.items (codes "HTTP/1.1 ") c.as_bytes.result.now (codes " ")
          c.as_bytes-2.result.now (codes "\r\n")
          ∙ ap (λ text. c.args.to.now.items ++ head_line (codes "HTTP/1.1 ") text) word);
      longest = omega (arith, front, whole, same, few);
      capacity = c.append-5.ensures.capacity ∙ c.append-4.ensures.capacity
          ∙ c.append-3.ensures.capacity ∙ c.append-2.ensures.capacity ∙ c.append.ensures.capacity;
    }
