use Rattle.std.proofs.Common.{◌≡◌, ◌++◌, List, ℕ, codes, decimal, append_assoc, ◌∙◌, arith}
use Rattle.office_responses.specs.declared.types.Head.{Head}
use Rattle.office_responses.specs.Responses.{status_text, media_text, head_line, extra_line, closing_line, head_text}
use Rattle.office_responses.proofs.heads.push_head.Goals as goal

six_parts : (start a b c d e f : List ℕ)
    → start ++ a ++ b ++ c ++ d ++ e ++ f ≡ start ++ (a ++ b ++ c ++ d ++ e ++ f)
six_parts start a b c d e f = simp append_assoc

-- the lines one after another are the head
in_lines : (start : List ℕ) (head : Head) (size : ℕ)
    → start ++ head_line (codes "HTTP/1.1 ") (status_text head.status)
    ++ head_line (codes "Content-Type: ") (media_text head.media)
    ++ head_line (codes "Content-Length: ") (decimal size)
    ++ extra_line head.extra ++ closing_line head.last ++ codes "\r\n"
    ≡ start ++ head_text head size
unfolding head_text
in_lines start head size =
    six_parts start (head_line (codes "HTTP/1.1 ") (status_text head.status))
    (head_line (codes "Content-Type: ") (media_text head.media))
    (head_line (codes "Content-Length: ") (decimal size))
    (extra_line head.extra) (closing_line head.last) (codes "\r\n")

pub returns : goal.returns
returns c = record {
  items = rw (
    c.append.ensures.items,
    c.push_closing.ensures.items,
    c.push_extra.ensures.items,
    c.push_size.ensures.items,
    c.push_line.ensures.items,
    c.push_status.ensures.items,
    c.media_word.ensures.text,
  )
      (in_lines c.args.to.now.items c.args.head.now c.args.size);
  longest = omega arith;
  capacity = c.append.ensures.capacity ∙ c.push_closing.ensures.capacity
      ∙ c.push_extra.ensures.capacity ∙ c.push_size.ensures.capacity
      ∙ c.push_line.ensures.capacity ∙ c.push_status.ensures.capacity;
}
