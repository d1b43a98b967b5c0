-- The lines of a paper as they are written, part by part.
use Rattle.std.proofs.Common.{◌≡◌, ℕ, ◌+◌, List, [], ◌∷◌, ◌++◌, length, map, codes, arith, Option, Some, None, refl, sym, ◌∙◌, ap, append_assoc, append-nil}
use Rattle.std.proofs.lemmas.List.Concat.{flat_map-append}
use Rattle.std.proofs.lemmas.List.Splits.{join_with_byte-slice_split, length-slice_split}
use Rattle.std.specs.List.{flat_map, join_with_byte, slice_split, last_or, cons_option, count_by}
use Rattle.std.specs.Option.{option_or, option_to_list}
use Rattle.book_words.specs.declared.views.Verdict.{Verdict}
use Rattle.book_texts.specs.Words.{verdict_text}
use Rattle.paper_form.specs.declared.types.Line as lines
use Rattle.paper_form.specs.declared.types.Line.TheVariants as line
use Rattle.paper_form.specs.declared.types.Weighed.{Weighed}
use Rattle.paper_form.specs.declared.types.Pick.{Pick}
use Rattle.paper_form.specs.Papers.{PaperData, is_blank, line_text, weighed_fields, paper_text}
use Rattle.batch_paper.specs.Written.{tare_lines, pack_lines, sample_lines}

-- ---- what is said by the acts so far

-- what the next act says goes before what was said
pub last_step : {A : Type 0} (o w : Option A) (rest : List A)
    → last_or (option_or o w) rest ≡ last_or w (cons_option o rest)
last_step None w rest = refl
last_step (Some x) w rest = refl

-- ---- the whole text

nested : (t p m f w s v : List lines.Line) → t ++ p ++ m ++ f ++ w ++ s ++ v ≡ t ++ p
    ++ (m ++ f ++ w ++ s) ++ v
nested t p m f w s v = simp append_assoc

six_parts : (a b c d e f : List ℕ)
    → [] ++ a ++ b ++ c ++ d ++ e ++ f ≡ (a ++ (b ++ c)) ++ d ++ e ++ (f ++ [])
six_parts a b c d e f = simp (append_assoc, append-nil)

-- the parts of a paper one after another are its text
pub whole_text : (paper : PaperData)
    → [] ++ line_text line.Title ++ line_text (line.Goods paper.goods)
    ++ flat_map line_text (tare_lines paper.tares) ++ flat_map line_text (pack_lines paper.packs)
    ++ flat_map line_text (sample_lines paper) ++ line_text (line.Verdict paper.verdict)
    ≡ paper_text paper
unfolding paper_text
whole_text paper =
    let heads : List lines.Line = line.Title ∷ line.Goods paper.goods ∷ tare_lines paper.tares in
    let listed : List lines.Line = pack_lines paper.packs in
    let samples : List lines.Line = sample_lines paper in
    let last : List lines.Line = line.Verdict paper.verdict ∷ [] in
    six_parts (line_text line.Title) (line_text (line.Goods paper.goods))
    (flat_map line_text (tare_lines paper.tares)) (flat_map line_text listed)
    (flat_map line_text samples) (line_text (line.Verdict paper.verdict))
    ∙ sym (flat_map-append line_text (heads ++ listed ++ samples) last
    ∙ ap (λ (front : List ℕ). front ++ flat_map line_text last)
    (flat_map-append line_text (heads ++ listed) samples
    ∙ ap (λ (front : List ℕ). front ++ flat_map line_text samples)
    (flat_map-append line_text heads listed)))
    ∙ sym (ap (flat_map line_text) (nested heads listed
    (map (λ draw. line.Mode draw) (option_to_list paper.draw))
    (map (λ (pick : Pick). line.First pick) paper.first)
    (map (λ word. line.Word word) (option_to_list paper.second_word))
    (map (λ (pick : Pick). line.Second pick) paper.second) last))

-- ---- single lines

join_more : (word : List ℕ) (parts : List (List ℕ)) (n : ℕ) → length parts ≡ n + 1
    → join_with_byte 32 (word ∷ parts) ≡ word ++ (32 ∷ join_with_byte 32 parts)
join_more word [] n h = absurd (omega (arith, h))
join_more word (first ∷ rest) n h = refl

-- the line of a verdict has its words as they are
pub verdict_line : (verdict : Verdict) → line_text (line.Verdict verdict)
    ≡ (codes "verdict" ++ (32 ∷ verdict_text verdict)) ++ 10 ∷ []
verdict_line verdict =
    ap (λ (text : List ℕ). text ++ 10 ∷ [])
    (join_more (codes "verdict") (slice_split is_blank (verdict_text verdict))
    (count_by is_blank (verdict_text verdict)) (length-slice_split is_blank (verdict_text verdict))
    ∙ ap (λ (text : List ℕ). codes "verdict" ++ (32 ∷ text))
    (join_with_byte-slice_split 32 (verdict_text verdict)))

-- the line of a pack of the first sample, and that of one of the second
pub pick_text : (word number : List ℕ) (weighed : Option Weighed)
    → join_with_byte 32 (word ∷ number ∷ weighed_fields weighed)
    ≡ word ++ (32 ∷ (number ++ (32 ∷ join_with_byte 32 (weighed_fields weighed))))
pick_text word number None = refl
pick_text word number (Some weighed) = refl

-- ---- pieces that are appended one after another

pub three_pieces : (start a b c : List ℕ) → start ++ a ++ b ++ c ≡ start ++ ((a ++ b) ++ c)
three_pieces start a b c = simp append_assoc

pub tare_pieces : (start a b c d e : List ℕ) → start ++ a ++ b ++ (c ++ d) ++ e ≡ start
    ++ ((a ++ (b ++ (c ++ d))) ++ e)
tare_pieces start a b c d e = simp append_assoc

pub pack_pieces : (start a b c d e f g : List ℕ)
    → start ++ (a ++ b) ++ c ++ d ++ (e ++ f) ++ g ≡ start
    ++ ((a ++ (b ++ (c ++ (d ++ (e ++ f))))) ++ g)
pack_pieces start a b c d e f g = simp append_assoc

pub mode_pieces : (start a b c d e : List ℕ)
    → start ++ a ++ b ++ c ++ d ++ e ≡ start ++ ((a ++ (b ++ (c ++ d))) ++ e)
mode_pieces start a b c d e = simp append_assoc

pub pick_pieces : (start a b c d : List ℕ) → start ++ (a ++ b) ++ c ++ d ≡ start
    ++ ((a ++ (b ++ c)) ++ d)
pick_pieces start a b c d = simp append_assoc

pub goods_pieces : (start a b c d e f g h i j k l m : List ℕ)
    → start ++ (a ++ b) ++ (c ++ d) ++ (e ++ f) ++ g ++ h ++ (i ++ j) ++ (k ++ l) ++ m
    ≡ start ++ ((a ++ (b ++ (c ++ (d ++ (e ++ (f ++ (g ++ (h ++ (i ++ (j ++ (k ++ l))))))))))) ++ m)
goods_pieces start a b c d e f g h i j k l m = simp append_assoc

-- a text that grew by the parts of a paper one after another is its text
pub grown : (paper : PaperData) (t0 t1 t2 t3 t4 t5 t6 : List ℕ) → t0 ≡ []
    → t1 ≡ t0 ++ line_text line.Title → t2 ≡ t1 ++ line_text (line.Goods paper.goods)
    → t3 ≡ t2 ++ flat_map line_text (tare_lines paper.tares)
    → t4 ≡ t3 ++ flat_map line_text (pack_lines paper.packs)
    → t5 ≡ t4 ++ flat_map line_text (sample_lines paper)
    → t6 ≡ t5 ++ line_text (line.Verdict paper.verdict) → t6 ≡ paper_text paper
grown paper t0 t1 t2 t3 t4 t5 t6 e0 e1 e2 e3 e4 e5 e6 =
    e6 ∙ ap (λ (t : List ℕ). t ++ line_text (line.Verdict paper.verdict))
    (e5 ∙ ap (λ (t : List ℕ). t ++ flat_map line_text (sample_lines paper))
    (e4 ∙ ap (λ (t : List ℕ). t ++ flat_map line_text (pack_lines paper.packs))
    (e3 ∙ ap (λ (t : List ℕ). t ++ flat_map line_text (tare_lines paper.tares))
    (e2 ∙ ap (λ (t : List ℕ). t ++ line_text (line.Goods paper.goods))
    (e1 ∙ ap (λ (t : List ℕ). t ++ line_text line.Title) e0)))))
    ∙ whole_text paper
