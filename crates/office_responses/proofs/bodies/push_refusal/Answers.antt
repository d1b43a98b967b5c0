use Rattle.std.proofs.Common.{◌≡◌, ◌++◌, List, ℕ, codes, decimal, [], append_assoc, ◌∙◌, arith}
use Rattle.book_laws.proofs.RangeLaws.{refusal_told_in_range}
use Rattle.book_words.specs.declared.reply.Refused.{Refused}
use Rattle.book_words.specs.Numbers.{refusal_number, refusal_name}
use Rattle.batch_reports.specs.Texts.{kept_text}
use Rattle.office_responses.specs.Responses.{refusal_body}
use Rattle.office_responses.proofs.bodies.push_refusal.Goals as goal

nine_parts : (start a b c d e f g h i : List ℕ)
    → start ++ a ++ b ++ c ++ d ++ e ++ f ++ g ++ h ++ i
    ≡ start ++ (a ++ b ++ c ++ d ++ e ++ f ++ g ++ h ++ i)
nine_parts start a b c d e f g h i = simp append_assoc

in_members : (start : List ℕ) (refused : Refused)
    → start ++ codes "{\"at\":" ++ decimal refused.at
    ++ codes ",\"kept\":\"" ++ kept_text [] refused.refusal
    ++ codes "\",\"name\":\"" ++ refusal_name refused.refusal
    ++ codes "\",\"refused\":" ++ decimal (refusal_number refused.refusal) ++ codes "}"
    ≡ start ++ refusal_body refused
unfolding refusal_body
in_members start refused =
    nine_parts start (codes "{\"at\":") (decimal refused.at) (codes ",\"kept\":\"") (kept_text [] refused.refusal)
    (codes "\",\"name\":\"") (refusal_name refused.refusal) (codes "\",\"refused\":") (decimal (refusal_number refused.refusal)) (codes "}")

pub push_kept-requires-clause-range : goal.push_kept-requires-clause-range
push_kept-requires-clause-range c = refusal_told_in_range c.args.refused.now c.requires.given

pub returns : goal.returns
returns c = record {
  items = rw (
    c.append-6.ensures.items,
    c.append_count-2.ensures.items,
    c.append-5.ensures.items,
    c.append-4.ensures.items,
    c.append-3.ensures.items,
    c.push_kept.ensures.items,
    c.append-2.ensures.items,
    c.append_count.ensures.items,
    c.append.ensures.items,
    c.from.ensures,
    c.number.ensures,
    c.as_bytes.ensures.value,
    c.name.ensures.text,
  )
      (in_members c.args.to.now.items c.args.refused.now);
  longest = omega (arith, c.as_bytes.ensures.len, c.name.ensures.short, c.append-4.ensures.longest);
  capacity = c.append-6.ensures.capacity ∙ c.append_count-2.ensures.capacity
      ∙ c.append-5.ensures.capacity ∙ c.append-4.ensures.capacity ∙ c.append-3.ensures.capacity
      ∙ c.push_kept.ensures.capacity ∙ c.append-2.ensures.capacity
      ∙ c.append_count.ensures.capacity ∙ c.append.ensures.capacity;
}
