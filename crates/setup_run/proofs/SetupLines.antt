-- Lemmas on the lines of a setup, which are asked one after another.
use Rattle.std.proofs.Common.{◌≡◌, ℕ, ◌+◌, true, false, List, [], ◌∷◌, ◌++◌, length, map, refl, sym, ap, ◌∙◌, subst, arith, append_assoc, append-nil, length-append}
use Rattle.std.proofs.lemmas.List.Elements.{filter_map-append}
use Rattle.book_words.specs.declared.act.Entry.{Entry}
use Rattle.script_lines.specs.declared.command.Command.{Command}
use Rattle.script_lines.specs.declared.command.Line.{Line}
use Rattle.script_lines.specs.Lines.{has_end, rest_of, last_line}
use Rattle.script_lines.specs.Script.{is_good, all_good, asked, commands_of}
use Rattle.script_lines.proofs.LineLists.{ended_with_part, rest_with_part, rest_with_line}
use Rattle.store_runs.specs.declared.stop.Stop.{Stop}
use Rattle.store_runs.specs.Books.{BookState}
use Rattle.script_events.specs.Commands.{after_commands}
use Rattle.script_events.specs.Scripts.{ended_lines_of}
use Rattle.script_events.proofs.CommandsInTurn.{after-append, are_answered}
use Rattle.script_events.proofs.ScriptLines.{ended_line, last_line_of, lines_after, lines_of-append, ended_of_line, all_good-push}
use Rattle.setup_run.specs.Setups.{setup_lines, after_lines, MayStopAtLine, StopsInSetup}

-- ---- the lines of a text

-- a line that has ended, and the lines behind it
first_line : (line after : List ℕ) → has_end line ≡ false
    → setup_lines ((line ++ 10 ∷ []) ++ after) ≡ ended_line 0 line ∷ setup_lines after
first_line line after none =
    lines_of-append 0 (line ++ 10 ∷ []) after
    ∙ ap (λ begun. ended_lines_of 0 (line ++ 10 ∷ []) ++ lines_after 0 begun after)
    (rest_with_line [] line)
    ∙ ap (λ (ls : List Line). ls ++ lines_after 0 [] after) (ended_of_line 0 [] line none)
    ∙ ap (λ (ls : List Line). ended_line 0 line ∷ ls) (sym (lines_of-append 0 [] after))

-- a text without an LF
only_line : (rest : List ℕ) → has_end rest ≡ false
    → setup_lines rest ≡ map (last_line_of 0) (last_line rest)
only_line rest none =
    ap (λ (lines : List (List ℕ)). map (ended_line 0) lines
    ++ map (last_line_of 0) (last_line (rest_of rest))) (ended_with_part [] rest none)
    ∙ ap (λ (begun : List ℕ). map (last_line_of 0) (last_line begun)) (rest_with_part [] rest none)

-- the book behind lines, and then more
lines-append : (book : BookState) (first more : List Line)
    → after_lines book (first ++ more) ≡ after_lines (after_lines book first) more
lines-append book first more =
    ap (λ (cs : List Command). after_commands book cs) (filter_map-append asked first more)
    ∙ after-append book (commands_of first) (commands_of more)

-- ---- lines that are asked

-- the lines of a setup before that of a number are good and asked, and the text behind them is left
pub record HaveAsked (book now : BookState) (setup rest : List ℕ) (number : ℕ) : Type 0 where
  pub before : List Line
  pub parts : setup_lines setup ≡ before ++ setup_lines rest
  pub good : all_good before ≡ true
  pub left : now ≡ after_lines book before
  pub counted : number ≡ length before + 1

pub asked_none : (book : BookState) (setup : List ℕ) → HaveAsked book book setup setup 1
asked_none book setup =
    record { before = []; parts = refl; good = refl; left = refl; counted = refl }

module _ (book old : BookState) (setup rest : List ℕ) (number : ℕ) (said : Line)
    (has : HaveAsked book old setup rest number) where
  -- one more was asked
  asked_more : (new : BookState) (more : List Line) → setup_lines rest ≡ said ∷ more
      → new ≡ after_lines old (said ∷ [])
      → (setup_lines setup ≡ (has.before ++ said ∷ []) ++ more)
      × (new ≡ after_lines book (has.before ++ said ∷ []))
  asked_more new more is asks = (
    has.parts ∙ ap (λ (ls : List Line). has.before ++ ls) is
        ∙ sym (append_assoc has.before (said ∷ []) more),
    asks ∙ ap (λ (b : BookState). after_lines b (said ∷ [])) has.left
        ∙ sym (lines-append book has.before (said ∷ [])),
  )

  -- it stops at the next line
  stops_at : (more : List Line) (rows : List Entry) (stop : Stop) → setup_lines rest ≡ said ∷ more
      → rows ≡ old.entries → MayStopAtLine old number said stop
      → StopsInSetup book setup rows stop
  stops_at more rows stop is same may =
      record {
        before = has.before;
        line = said;
        after = more;
        parts = has.parts ∙ ap (λ (ls : List Line). has.before ++ ls) is;
        good = has.good;
        answered = are_answered book (commands_of has.before) rows
            (same ∙ ap (λ (b : BookState). b.entries) has.left);
        may = subst (λ (b : BookState). MayStopAtLine b (length has.before + 1) said stop) has.left
            (subst (λ (n : ℕ). MayStopAtLine old n said stop) has.counted may);
      }

  -- ---- a line that has ended

  module _ (line after : List ℕ) (is : rest ≡ line ++ 10 ∷ after) (none : has_end line ≡ false)
      (says : said ≡ ended_line 0 line) where
    next_line : setup_lines rest ≡ said ∷ setup_lines after
    next_line = ap (λ (bytes : List ℕ). setup_lines bytes)
        (is ∙ sym (append_assoc line (10 ∷ []) after))
        ∙ first_line line after none
        ∙ ap (λ (l : Line). l ∷ setup_lines after) (sym says)

    pub asked_next : (new : BookState) (next : ℕ) → is_good said ≡ true
        → new ≡ after_lines old (said ∷ []) → next ≡ number + 1
        → HaveAsked book new setup after next
    asked_next new next good asks counted =
        let more = asked_more new (setup_lines after) next_line asks in
        record {
          before = has.before ++ said ∷ [];
          parts = more.0;
          good = all_good-push has.before said has.good good;
          left = more.1;
          counted = omega (arith, counted, has.counted, length-append has.before (said ∷ []));
        }

    pub stops_next : (rows : List Entry) (stop : Stop) → rows ≡ old.entries
        → MayStopAtLine old number said stop → StopsInSetup book setup rows stop
    stops_next rows stop same may = stops_at (setup_lines after) rows stop next_line same may

-- ---- the last line, where one has begun

pub asked_all : (book old new : BookState) (setup rest : List ℕ) (number : ℕ) (said : Line)
    → HaveAsked book old setup rest number → has_end rest ≡ false → said ≡ last_line_of 0 rest
    → is_good said ≡ true → new ≡ after_lines old (said ∷ [])
    → (all_good (setup_lines setup) ≡ true) × (new ≡ after_lines book (setup_lines setup))
asked_all book old new setup [] number said has none says good asks =
    let all : setup_lines setup ≡ has.before = has.parts ∙ append-nil has.before in
    let stays : new ≡ old = asks ∙ ap (λ (l : Line). after_lines old (l ∷ [])) says in (
      ap (λ (ls : List Line). all_good ls) all ∙ has.good,
      stays ∙ has.left ∙ ap (λ (ls : List Line). after_lines book ls) (sym all),
    )
asked_all book old new setup (byte ∷ rest) number said has none says good asks =
    let is = only_line (byte ∷ rest) none ∙ ap (λ (l : Line). l ∷ []) (sym says) in
    let more = asked_more book old setup (byte ∷ rest) number said has new [] is asks in
    let all = more.0 ∙ append-nil (has.before ++ said ∷ []) in (
      ap (λ (ls : List Line). all_good ls) all ∙ all_good-push has.before said has.good good,
      more.1 ∙ ap (λ (ls : List Line). after_lines book ls) (sym all),
    )

pub stops_last : (book old : BookState) (setup rest : List ℕ) (number : ℕ) (said : Line)
    (rows : List Entry) (stop : Stop) → HaveAsked book old setup rest number
    → has_end rest ≡ false → said ≡ last_line_of 0 rest → rows ≡ old.entries
    → MayStopAtLine old number said stop → StopsInSetup book setup rows stop
stops_last book old setup [] number said rows stop has none says same may =
    absurd (subst (λ (l : Line). MayStopAtLine old number l stop) says may)
stops_last book old setup (byte ∷ rest) number said rows stop has none says same may =
    stops_at book old setup (byte ∷ rest) number said has [] rows stop
    (only_line (byte ∷ rest) none ∙ ap (λ (l : Line). l ∷ []) (sym says)) same may
