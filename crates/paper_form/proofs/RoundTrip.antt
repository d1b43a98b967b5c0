-- The text of the data of a paper reads back as these data.
use Rattle.std.proofs.Common.{◌≡◌, ℕ, zero, suc, ◌+◌, ◌-◌, ◌<◌, ◌≤◌, ◌==◌, ◌&&◌, nat_lt, int_le, int_lt, Bool, true, false, ℤ, pos, negsuc, unsigned_abs, List, [], ◌∷◌, ◌++◌, length, map, slice_index, Option, Some, None, is_none, if◌then◌else◌, Result, Ok, Err, refl, sym, ap, subst, ◌∙◌, arith, append_assoc, append-nil, length-append}
use Rattle.std.specs.Option.{option_map_or, option_and_then, option_to_list}
use Rattle.std.specs.List.{last_or, list_all, slice_split, flat_map}
use Rattle.std.specs.List.Sorted.{IsStrictlyIncreasing}
use Rattle.std.proofs.lemmas.Bool.{and_parts, and_from, eqb-true, lt-ltb}
use Rattle.annex_tables.specs.declared.TheConstants.{MAX_POPULATION}
use Rattle.hall_limits.specs.declared.TheConstants.{MAX_DAY, MAX_TARE}
use Rattle.book_words.specs.Refusals.{is_within}
use Rattle.book_words.specs.declared.views.Verdict as verdicts
use Rattle.pack_judge.specs.declared.tares.DatedTare.{DatedTare}
use Rattle.paper_form.specs.declared.types.Goods as goods
use Rattle.paper_form.specs.declared.types.Pack as packs
use Rattle.paper_form.specs.declared.types.Draw as draws
use Rattle.paper_form.specs.declared.types.Pick.{Pick}
use Rattle.paper_form.specs.declared.types.Line as lines
use Rattle.paper_form.specs.declared.types.Line.TheVariants as line
use Rattle.paper_form.specs.declared.types.Stage.TheVariants as stage
use Rattle.paper_form.specs.Papers.{PaperData, is_line_end, line_text, lines_of, paper_text, are_goods_in_range, is_tare_in_range, is_pack_in_range, is_pick_in_range, is_verdict_said}
use Rattle.paper_form.specs.Form.{Draft, no_lines, is_later, is_greater, is_next, is_pick_right, next, next_text, whole_of, ends_with, read_on, paper_in}
use Rattle.paper_form.specs.Ranges.{days_of, numbers_of, is_word, is_measured, AreTaresListed, ArePacksListed, IsPaper}
use Rattle.paper_form.proofs.Listed.{rises_behind}
use Rattle.paper_form.proofs.ReadingOn.{read_on-line, read_on-end, paper_in-begins}
use Rattle.paper_form.proofs.LinesBack.{is_line_whole, line_back, line_ends}

-- what some lines add, each whole and the next one of a paper
abbrev goes_on : Draft → List lines.Line → Option Draft
goes_on draft [] = Some draft
goes_on draft (said ∷ more) =
    option_and_then
    (λ after. goes_on after more) (if is_line_whole said then next draft said else None)

-- one line of them is taken, and the others go on
one_on : (draft after : Draft) (said : lines.Line) (more : List lines.Line)
    → is_line_whole said ≡ true
    → next draft said ≡ Some after → goes_on draft (said ∷ more) ≡ goes_on after more
one_on draft after said more whole taken = rw (whole, taken) refl

on_append : (draft after : Draft) (some more : List lines.Line) → goes_on draft some ≡ Some after
    → goes_on draft (some ++ more) ≡ goes_on after more
on_append draft after [] more goes =
    ap (λ (o : Option Draft). option_and_then (λ d. goes_on d more) o) goes
on_append draft after (said ∷ some) more goes =
    each (if is_line_whole said then next draft said else None)
    (λ d. on_append d after some more) goes
  where
    each : (o : Option Draft)
        → ((d : Draft) → goes_on d some ≡ Some after
        → goes_on d (some ++ more) ≡ goes_on after more)
        → option_and_then (λ d. goes_on d some) o ≡ Some after
        → option_and_then (λ d. goes_on d (some ++ more)) o ≡ goes_on after more
    each None rest h = absurd (cc)
    each (Some d) rest h = rest d h

-- ---- what their text gives

reads_line : (number : ℕ) (draft after : Draft) (said : lines.Line) (rest : List ℕ)
    → is_line_whole said ≡ true
    → next draft said ≡ Some after
    → read_on number draft (slice_split is_line_end (line_text said ++ rest))
    ≡ read_on (number + 1) after (slice_split is_line_end rest)
reads_line number draft after said rest whole taken =
    ap (read_on number draft) (line_ends said rest whole)
    ∙ read_on-line number draft _ rest
    ∙ ap (λ (o : Option lines.Line). option_map_or
    (λ d. read_on (number + 1) d (slice_split is_line_end rest)) (option_and_then (next draft) o)
    (Err number))
    (line_back said whole)
    ∙ ap (λ (o : Option Draft). option_map_or
    (λ d. read_on (number + 1) d (slice_split is_line_end rest)) o (Err number)) taken

-- the text of lines that go on gives what they add
reads_lines : (number : ℕ) (draft end : Draft) (paper : PaperData) (some : List lines.Line)
    → goes_on draft some ≡ Some end → whole_of end ≡ Some paper
    → read_on number draft (slice_split is_line_end (flat_map line_text some)) ≡ Ok paper
reads_lines number draft end paper [] goes whole =
    read_on-end number draft []
    ∙ ap (λ (o : Option Draft). option_map_or
    (λ d. option_map_or (λ p. Ok p) (whole_of d) (Err number)) o
    (Err number)) goes
    ∙ ap (λ (o : Option PaperData). option_map_or (λ p. Ok p) o (Err number)) whole
reads_lines number draft end paper (said ∷ some) goes whole =
    each (is_line_whole said) (next draft said) refl refl
    (λ d h. reads_lines (number + 1) d end paper some h whole) goes
  where
    each : (b : Bool) (o : Option Draft) → is_line_whole said ≡ b → next draft said ≡ o
        → ((d : Draft) → goes_on d some ≡ Some end
        → read_on (number + 1) d (slice_split is_line_end (flat_map line_text some)) ≡ Ok paper)
        → option_and_then (λ d. goes_on d some) (if b then o else None) ≡ Some end
        → read_on number draft (slice_split is_line_end (flat_map line_text (said ∷ some)))
        ≡ Ok paper
    each true (Some d) told taken rest h =
        reads_line number draft d said (flat_map line_text some) told taken ∙ rest d h
    each true None told taken rest h = absurd (cc)
    each false o told taken rest h = absurd (cc)

-- ---- what comes behind what

-- of rising numbers each is above the last before it
before_it : {A : Type 0} (f : A → ℕ) (before : List A) (x : A) (more : List A)
    → IsStrictlyIncreasing (map f (before ++ x ∷ more))
    → option_map_or (λ b. nat_lt (f b) (f x)) (last_or None before) true ≡ true
before_it f [] x more rises = refl
before_it f (a ∷ []) x more rises = lt-ltb (f a) (f x) (rises 0 (omega arith))
before_it f (a ∷ b ∷ before) x more rises =
    before_it f (b ∷ before) x more (rises_behind f a b (before ++ x ∷ more) rises)

whole_less : (a b : ℤ) → int_le (pos 0) a ≡ true → int_le (pos 0) b ≡ true
    → nat_lt (unsigned_abs a) (unsigned_abs b) ≡ true → int_lt a b ≡ true
whole_less (pos a) (pos b) la lb less = less
whole_less (pos a) (negsuc b) la lb less = absurd (cc)
whole_less (negsuc a) b la lb less = absurd (cc)

whole_day : (dated : DatedTare) → is_tare_in_range dated ≡ true → int_le (pos 0) dated.day ≡ true
whole_day dated range =
    (and_parts _ _
    ((and_parts (is_within (pos 0) MAX_DAY dated.day) (is_within (pos 0) MAX_TARE dated.tare)
    range).0)).0

later_than : (before : List DatedTare) (dated : DatedTare) → list_all is_tare_in_range before ≡ true
    → is_tare_in_range dated ≡ true
    → option_map_or
    (λ b. nat_lt (unsigned_abs b.day) (unsigned_abs dated.day)) (last_or None before) true ≡ true
    → is_later before dated ≡ true
later_than [] dated all one above = refl
later_than (a ∷ []) dated all one above =
    whole_less a.day dated.day (whole_day a (and_parts (is_tare_in_range a) true all).0)
    (whole_day dated one) above
later_than (a ∷ b ∷ before) dated all one above =
    later_than (b ∷ before) dated (and_parts (is_tare_in_range a) _ all).1 one above

-- what holds of all of a list holds of its parts
parts_of : {A : Type 0} (test : A → Bool) (before : List A) (x : A) (more : List A)
    → list_all test (before ++ x ∷ more) ≡ true → (list_all test before ≡ true) × (test x ≡ true)
parts_of test [] x more all = (refl, (and_parts (test x) (list_all test more) all).0)
parts_of test (a ∷ before) x more all =
    let outer = and_parts (test a) (list_all test (before ++ x ∷ more)) all in
    let inner = parts_of test before x more outer.1 in
    (and_from (test a) (list_all test before) outer.0 inner.0, inner.1)

-- ---- the parts of a paper

-- the tares, the packs and both samples, as they are read
abbrev pub at_tares : goods.Goods → List DatedTare → Draft
at_tares g ts = record no_lines { stage = stage.Tares; goods = Some g; tares = ts }

abbrev pub at_packs : goods.Goods → List DatedTare → List packs.Pack → Draft
at_packs g ts ps = record no_lines { stage = stage.Packs; goods = Some g; tares = ts; packs = ps }

abbrev pub at_first : goods.Goods → List DatedTare → List packs.Pack → draws.Draw → List Pick → Draft
at_first g ts ps draw first =
    record no_lines {
      stage = stage.First;
      goods = Some g;
      tares = ts;
      packs = ps;
      draw = Some draw;
      first = first;
    }

abbrev pub at_second : goods.Goods → List DatedTare → List packs.Pack → draws.Draw → List Pick → ℕ
    → List Pick → Draft
at_second g ts ps draw first word second =
    record no_lines {
      stage = stage.Second;
      goods = Some g;
      tares = ts;
      packs = ps;
      draw = Some draw;
      first = first;
      second_word = Some word;
      second = second;
    }

tares_on : (g : goods.Goods) (before ts : List DatedTare) → AreTaresListed (before ++ ts)
    → goes_on (at_tares g before) (map (λ t. line.Tare t) ts) ≡ Some (at_tares g (before ++ ts))
tares_on g before [] listed = ap (λ ts. Some (at_tares g ts)) (sym (append-nil before))
tares_on g before (t ∷ ts) listed =
    let parts = parts_of is_tare_in_range before t ts listed.range in
    let later = later_than before t parts.0 parts.1
    (before_it (λ (d : DatedTare). unsigned_abs d.day) before t ts listed.ascend) in
    let same = append_assoc before (t ∷ []) ts in
    one_on (at_tares g before) (at_tares g (before ++ t ∷ [])) (line.Tare t)
    (map (λ t. line.Tare t) ts) parts.1
    (rw later refl)
    ∙ tares_on g (before ++ t ∷ []) ts (subst AreTaresListed (sym same) listed)
    ∙ ap (λ ts. Some (at_tares g ts)) same

next_pack : (before : List packs.Pack) (p : packs.Pack) (ps : List packs.Pack)
    → ArePacksListed (before ++ p ∷ ps)
    → is_next before p ≡ true
next_pack before p ps listed =
    let few = listed.few in
    and_from (is_greater before p) (nat_lt (length before) MAX_POPULATION)
    (before_it (λ (x : packs.Pack). x.number) before p ps listed.ascend)
    (lt-ltb (length before) MAX_POPULATION (omega (arith, length-append before (p ∷ ps), few)))

packs_on : (g : goods.Goods) (ts : List DatedTare) (before ps : List packs.Pack)
    → ArePacksListed (before ++ ps)
    → goes_on (at_packs g ts before)
    (map (λ p. line.Pack p) ps) ≡ Some (at_packs g ts (before ++ ps))
packs_on g ts before [] listed = ap (λ ps. Some (at_packs g ts ps)) (sym (append-nil before))
packs_on g ts before (p ∷ ps) listed =
    let parts = parts_of is_pack_in_range before p ps listed.range in
    let same = append_assoc before (p ∷ []) ps in
    one_on (at_packs g ts before) (at_packs g ts (before ++ p ∷ [])) (line.Pack p)
    (map (λ p. line.Pack p) ps) parts.1
    (rw (next_pack before p ps listed) refl)
    ∙ packs_on g ts (before ++ p ∷ []) ps (subst ArePacksListed (sym same) listed)
    ∙ ap (λ ps. Some (at_packs g ts ps)) same

-- the first pack ends the tares
all_packs_on : (g : goods.Goods) (ts : List DatedTare) (p : packs.Pack) (ps : List packs.Pack)
    → ArePacksListed (p ∷ ps)
    → goes_on (at_tares g ts) (map (λ p. line.Pack p) (p ∷ ps)) ≡ Some (at_packs g ts (p ∷ ps))
all_packs_on g ts p ps listed =
    let parts = parts_of is_pack_in_range [] p ps listed.range in
    one_on (at_tares g ts) (at_packs g ts (p ∷ [])) (line.Pack p)
    (map (λ p. line.Pack p) ps) parts.1
    refl
    ∙ packs_on g ts (p ∷ []) ps listed

first_on : (g : goods.Goods) (ts : List DatedTare) (ps : List packs.Pack) (draw : draws.Draw)
    (before picks : List Pick) → list_all is_pick_in_range picks ≡ true
    → list_all is_measured picks ≡ true
    → list_all (is_pick_right (Some draw)) picks ≡ true
    → goes_on (at_first g ts ps draw before) (map (λ p. line.First p) picks)
    ≡ Some (at_first g ts ps draw (before ++ picks))
first_on g ts ps draw before [] range told right =
    ap (λ picks. Some (at_first g ts ps draw picks)) (sym (append-nil before))
first_on g ts ps draw before (p ∷ picks) range told right =
    let ranges = and_parts (is_pick_in_range p) (list_all is_pick_in_range picks) range in
    let tolds = and_parts (is_measured p) (list_all is_measured picks) told in
    let rights = and_parts (is_pick_right (Some draw) p)
    (list_all (is_pick_right (Some draw)) picks) right in
    one_on (at_first g ts ps draw before) (at_first g ts ps draw (before ++ p ∷ [])) (line.First p)
    (map (λ p. line.First p) picks) (and_from (is_pick_in_range p) (is_measured p) ranges.0 tolds.0)
    (rw rights.0 refl)
    ∙ first_on g ts ps draw (before ++ p ∷ []) picks ranges.1 tolds.1 rights.1
    ∙ ap (λ picks. Some (at_first g ts ps draw picks)) (append_assoc before (p ∷ []) picks)

second_on : (g : goods.Goods) (ts : List DatedTare) (ps : List packs.Pack) (draw : draws.Draw)
    (first : List Pick) (word : ℕ) (before picks : List Pick) → list_all is_pick_in_range picks
    ≡ true
    → list_all (is_pick_right (Some draw)) picks ≡ true
    → goes_on (at_second g ts ps draw first word before) (map (λ p. line.Second p) picks)
    ≡ Some (at_second g ts ps draw first word (before ++ picks))
second_on g ts ps draw first word before [] range right =
    ap (λ picks. Some (at_second g ts ps draw first word picks)) (sym (append-nil before))
second_on g ts ps draw first word before (p ∷ picks) range right =
    let ranges = and_parts (is_pick_in_range p) (list_all is_pick_in_range picks) range in
    let rights = and_parts (is_pick_right (Some draw) p)
    (list_all (is_pick_right (Some draw)) picks) right in
    one_on (at_second g ts ps draw first word before)
    (at_second g ts ps draw first word (before ++ p ∷ []))
    (line.Second p) (map (λ p. line.Second p) picks) ranges.0 (rw rights.0 refl)
    ∙ second_on g ts ps draw first word (before ++ p ∷ []) picks ranges.1 rights.1
    ∙ ap (λ picks. Some (at_second g ts ps draw first word picks))
    (append_assoc before (p ∷ []) picks)

-- ---- the whole

abbrev pub end_with : goods.Goods → List DatedTare → List packs.Pack → Option draws.Draw → List Pick
    → Option ℕ
    → List Pick → verdicts.Verdict → Draft
end_with g ts ps draw first word second v =
    record {
      stage = stage.End;
      goods = Some g;
      tares = ts;
      packs = ps;
      draw = draw;
      first = first;
      second_word = word;
      second = second;
      verdict = Some v;
    }

-- the lines behind the first sample, those behind the mode, and those behind the tares
abbrev behind_first : Option ℕ → List Pick → verdicts.Verdict → List lines.Line
behind_first word second v =
    map (λ w. line.Word w) (option_to_list word)
    ++ (map (λ p. line.Second p) second ++ line.Verdict v ∷ [])

abbrev behind_mode : List Pick → Option ℕ → List Pick → verdicts.Verdict → List lines.Line
behind_mode first word second v = map (λ p. line.First p) first ++ behind_first word second v

abbrev behind_tares : List packs.Pack → Option draws.Draw → List Pick → Option ℕ → List Pick
    → verdicts.Verdict
    → List lines.Line
behind_tares ps draw first word second v =
    map (λ p. line.Pack p) ps
    ++ (map (λ d. line.Mode d) (option_to_list draw) ++ behind_mode first word second v)

-- the data of a paper by its parts
abbrev pub paper_with : goods.Goods → List DatedTare → List packs.Pack → Option draws.Draw → List Pick
    → Option ℕ
    → List Pick → verdicts.Verdict → PaperData
paper_with g ts ps draw first word second v =
    record {
      goods = g;
      tares = ts;
      packs = ps;
      draw = draw;
      first = first;
      second_word = word;
      second = second;
      verdict = v;
    }

-- the lines behind the first sample
samples_on : (g : goods.Goods) (ts : List DatedTare) (ps : List packs.Pack) (draw : draws.Draw)
    (first : List Pick) (word : Option ℕ) (second : List Pick) (v : verdicts.Verdict)
    → IsPaper (paper_with g ts ps (Some draw) first word second v)
    → goes_on (at_first g ts ps draw first) (behind_first word second v)
    ≡ Some (end_with g ts ps (Some draw) first word second v)
samples_on g ts ps draw first None [] v h =
    one_on (at_first g ts ps draw first) (end_with g ts ps (Some draw) first None [] v)
    (line.Verdict v) []
    h.verdict refl
samples_on g ts ps draw first None (p ∷ second) v h = let none = h.no_second refl in absurd (cc)
samples_on g ts ps draw first (Some word) second v h =
    one_on (at_first g ts ps draw first) (at_second g ts ps draw first word []) (line.Word word)
    (map (λ p. line.Second p) second ++ line.Verdict v ∷ []) h.second_word refl
    ∙ on_append (at_second g ts ps draw first word []) (at_second g ts ps draw first word second)
    (map (λ p. line.Second p) second) (line.Verdict v ∷ [])
    (second_on g ts ps draw first word [] second h.listed.second h.second_right)
    ∙ one_on (at_second g ts ps draw first word second)
    (end_with g ts ps (Some draw) first (Some word) second v) (line.Verdict v) [] h.verdict refl

behind_on : (g : goods.Goods) (ts : List DatedTare) (ps : List packs.Pack)
    (draw : Option draws.Draw)
    (first : List Pick) (word : Option ℕ) (second : List Pick) (v : verdicts.Verdict)
    → IsPaper (paper_with g ts ps draw first word second v)
    → goes_on (at_tares g ts) (behind_tares ps draw first word second v)
    ≡ Some (end_with g ts ps draw first word second v)
behind_on g ts [] None [] None [] v h =
    one_on (at_tares g ts) (end_with g ts [] None [] None [] v) (line.Verdict v) [] h.verdict refl
behind_on g ts [] None [] None (p ∷ second) v h = let none = h.no_second refl in absurd (cc)
behind_on g ts [] None [] (Some word) second v h = let none = (h.undrawn refl).1 in absurd (cc)
behind_on g ts [] None (p ∷ first) word second v h = let none = (h.undrawn refl).0 in absurd (cc)
behind_on g ts (p ∷ ps) None first word second v h =
    let none : length (p ∷ ps) ≡ 0 = eqb-true (length (p ∷ ps)) 0 (sym h.drawn) in absurd
    (omega (arith, none))
behind_on g ts [] (Some draw) first word second v h = let never : false ≡ true = h.drawn in absurd
    (cc)
behind_on g ts (p ∷ ps) (Some draw) first word second v h =
    on_append (at_tares g ts) (at_packs g ts (p ∷ ps)) (map (λ p. line.Pack p) (p ∷ ps))
    (map (λ d. line.Mode d) (option_to_list (Some draw)) ++ behind_mode first word second v)
    (all_packs_on g ts p ps h.listed.packs)
    ∙ one_on (at_packs g ts (p ∷ ps)) (at_first g ts (p ∷ ps) draw []) (line.Mode draw)
    (behind_mode first word second v) h.word refl
    ∙ on_append (at_first g ts (p ∷ ps) draw []) (at_first g ts (p ∷ ps) draw first)
    (map (λ p. line.First p) first) (behind_first word second v)
    (first_on g ts (p ∷ ps) draw [] first h.listed.first h.measured h.first_right)
    ∙ samples_on g ts (p ∷ ps) draw first word second v h

regrouped : (t p m f w s v : List lines.Line)
    → t ++ p ++ m ++ f ++ w ++ s ++ v ≡ t ++ (p ++ (m ++ (f ++ (w ++ (s ++ v)))))
regrouped t p m f w s v = simp append_assoc

-- the lines behind the goods
abbrev behind_goods : PaperData → List lines.Line
behind_goods paper =
    map (λ t. line.Tare t) paper.tares ++ map (λ p. line.Pack p) paper.packs
    ++ map (λ d. line.Mode d) (option_to_list paper.draw) ++ map (λ p. line.First p) paper.first
    ++ map (λ w. line.Word w) (option_to_list paper.second_word)
    ++ map (λ p. line.Second p) paper.second ++ line.Verdict paper.verdict ∷ []

whole_on : (paper : PaperData) → IsPaper paper
    → goes_on no_lines (lines_of paper)
    ≡ Some (end_with paper.goods paper.tares paper.packs paper.draw paper.first paper.second_word
    paper.second
    paper.verdict)
whole_on paper h =
    one_on no_lines (record no_lines { stage = stage.Goods }) line.Title
    (line.Goods paper.goods ∷ behind_goods paper) refl refl
    ∙ one_on (record no_lines { stage = stage.Goods }) (at_tares paper.goods [])
    (line.Goods paper.goods)
    (behind_goods paper) h.listed.goods refl
    ∙ ap (goes_on (at_tares paper.goods []))
    (regrouped (map (λ t. line.Tare t) paper.tares) (map (λ p. line.Pack p) paper.packs)
    (map (λ d. line.Mode d) (option_to_list paper.draw)) (map (λ p. line.First p) paper.first)
    (map (λ w. line.Word w) (option_to_list paper.second_word))
    (map (λ p. line.Second p) paper.second)
    (line.Verdict paper.verdict ∷ []))
    ∙ on_append (at_tares paper.goods []) (at_tares paper.goods paper.tares)
    (map (λ t. line.Tare t) paper.tares)
    (behind_tares paper.packs paper.draw paper.first paper.second_word paper.second paper.verdict)
    (tares_on paper.goods [] paper.tares h.listed.tares)
    ∙ behind_on paper.goods paper.tares paper.packs paper.draw paper.first paper.second_word
    paper.second
    paper.verdict h

paper_back : (paper : PaperData) → IsPaper paper → paper_in (paper_text paper) ≡ Ok paper
unfolding paper_text
paper_back paper h =
    sym (paper_in-begins (flat_map line_text (lines_of paper)))
    ∙ reads_lines 1 no_lines _ paper (lines_of paper) (whole_on paper h) refl

-- the text of the data of a paper is read as these data
pub paper_read : (bytes : List ℕ) (paper : PaperData) → IsPaper paper → bytes ≡ paper_text paper
    → paper_in bytes ≡ Ok paper
paper_read bytes paper h text = ap paper_in text ∙ paper_back paper h
