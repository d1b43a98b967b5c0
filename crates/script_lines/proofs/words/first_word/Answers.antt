use Rattle.std.proofs.Common.{◌≡◌, ◌<◌, length, drop, arith, rules}
use Rattle.std.specs.List.{prefix_len}
use Rattle.script_lines.specs.Words.{is_blank}
use Rattle.script_lines.proofs.FirstWords.{words_of-wordless, words_of-first}
use Rattle.script_lines.proofs.words.first_word.Goals as goal

pub returns-then-is_empty : goal.returns-then-is_empty
returns-then-is_empty c =
    let rest : c.split_at.result.1.now ≡ drop (prefix_len is_blank c.args.line.now) c.args.line.now = rw (← c.count_blanks.ensures.value) c.split_at.ensures.back in
    words_of-wordless c.args.line.now c.split_at.result.1.now rest (search rules)

pub returns : goal.returns
returns c =
    let rest : c.split_at.result.1.now ≡ drop (prefix_len is_blank c.args.line.now) c.args.line.now = rw (← c.count_blanks.ensures.value) c.split_at.ensures.back in
    let some : 0 < length c.split_at.result.1.now = grind arith in
    rw (c.split_at-2.ensures.front, c.split_at-2.ensures.back, c.length_of_word.ensures.value) (words_of-first c.args.line.now c.split_at.result.1.now rest some)
