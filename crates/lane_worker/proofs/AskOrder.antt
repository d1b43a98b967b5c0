-- The asks of a worker in their order, with one row more.
use Rattle.std.proofs.Common.{◌≡◌, ℕ, ℤ, List, [], ◌∷◌, ◌++◌, Option, sym, ◌∙◌, ap, subst, append_assoc, append-nil}
use Rattle.std.proofs.lemmas.List.{map-append}
use Rattle.book_words.specs.declared.name.Name.{Name}
use Rattle.book_words.specs.declared.act.Act.TheVariants.{StartLane, Weigh, StopLane}
use Rattle.book_words.specs.declared.act.Ask.{Ask}
use Rattle.book_words.specs.declared.act.Prior.{Prior}
use Rattle.book_words.specs.Answers.{ask_of}
use Rattle.book_words.specs.Desks.{Row}
use Rattle.lane_worker.specs.Asks.{act_ask, prior_behind, weighing_asks, starting_asks, stopping_asks}
use Rattle.lane_worker.specs.Steps.{row_asks}

-- the asks of some rows and of one more
pub asks_push : (rows : List Row) (row : Row) (others : List Ask) → row_asks (rows ++ row ∷ []) ++ others ≡ row_asks rows ++ ask_of row.entry ∷ others
asks_push rows row others =
    ap (λ (asks : List Ask). asks ++ others) (map-append (λ (r : Row). ask_of r.entry) rows (row ∷ []))
    ∙ append_assoc (row_asks rows) (ask_of row.entry ∷ []) others

pub asks_more : (rows : List Row) (row : Row) → row_asks (rows ++ row ∷ []) ≡ row_asks rows ++ ask_of row.entry ∷ []
asks_more rows row = map-append (λ (r : Row). ask_of r.entry) rows (row ∷ [])

-- after the weighings so far comes what a worker asks behind its last row, whatever follows
abbrev pub Course : ℕ → Name → Option Prior → List ℕ → List ℤ → List Row → Row → Type 0
Course lane batch found opened grosses rows last =
    (os : List ℕ) (gs : List ℤ) (rs : List Row)
    → stopping_asks lane batch found (opened ++ os) (grosses ++ gs) (rows ++ rs) ≡ row_asks rows ++ weighing_asks lane (opened ++ os) gs last rs

-- a weighing more
pub course_weighed : (lane : ℕ) (batch : Name) (found : Option Prior) (opened : List ℕ) (grosses : List ℤ) (rows : List Row) (last row : Row) (gross : ℤ) (prior : Prior)
    → ((more : List ℕ) → prior_behind (opened ++ more) last ≡ prior) → ask_of row.entry ≡ act_ask (Weigh lane gross prior)
    → Course lane batch found opened grosses rows last → Course lane batch found opened (grosses ++ gross ∷ []) (rows ++ row ∷ []) row
course_weighed lane batch found opened grosses rows last row gross prior says asks course os gs rs =
    let others = weighing_asks lane (opened ++ os) gs row rs in
    ap (λ (all : List ℤ). stopping_asks lane batch found (opened ++ os) all ((rows ++ row ∷ []) ++ rs)) (append_assoc grosses (gross ∷ []) gs)
    ∙ ap (λ (all : List Row). stopping_asks lane batch found (opened ++ os) (grosses ++ gross ∷ gs) all) (append_assoc rows (row ∷ []) rs)
    ∙ course os (gross ∷ gs) (row ∷ rs)
    ∙ ap (λ (p : Prior). row_asks rows ++ act_ask (Weigh lane gross p) ∷ others) (says os)
    ∙ ap (λ (a : Ask). row_asks rows ++ a ∷ others) (sym asks)
    ∙ sym (asks_push rows row others)

-- an opening more
pub course_opened : (lane : ℕ) (batch : Name) (found : Option Prior) (opened : List ℕ) (grosses : List ℤ) (rows : List Row) (last : Row) (pack : ℕ)
    → Course lane batch found opened grosses rows last → Course lane batch found (opened ++ pack ∷ []) grosses rows last
course_opened lane batch found opened grosses rows last pack course os gs rs =
    subst (λ (all : List ℕ). stopping_asks lane batch found all (grosses ++ gs) (rows ++ rs) ≡ row_asks rows ++ weighing_asks lane all gs last rs)
    (sym (append_assoc opened (pack ∷ []) os)) (course (pack ∷ os) gs rs)

-- the start of the lane
pub course_started : (lane : ℕ) (batch : Name) (found : Option Prior) (rows : List Row) (row : Row) → ask_of row.entry ≡ act_ask (StartLane lane batch)
    → ((os : List ℕ) (gs : List ℤ) (rs : List Row) → stopping_asks lane batch found os gs (rows ++ rs) ≡ row_asks rows ++ starting_asks lane batch os gs rs)
    → Course lane batch found [] [] (rows ++ row ∷ []) row
course_started lane batch found rows row asks course os gs rs =
    let others = weighing_asks lane os gs row rs in
    ap (λ (all : List Row). stopping_asks lane batch found os gs all) (append_assoc rows (row ∷ []) rs)
    ∙ course os gs (row ∷ rs)
    ∙ ap (λ (a : Ask). row_asks rows ++ a ∷ others) (sym asks)
    ∙ sym (asks_push rows row others)

-- the next ask: a weighing where there is a gross, and else the stop
pub next_weighing : (lane : ℕ) (batch : Name) (found : Option Prior) (opened : List ℕ) (grosses : List ℤ) (rows : List Row) (last : Row) (gross : ℤ) (prior : Prior)
    → ((more : List ℕ) → prior_behind (opened ++ more) last ≡ prior) → Course lane batch found opened grosses rows last
    → stopping_asks lane batch found opened (grosses ++ gross ∷ []) rows ≡ row_asks rows ++ act_ask (Weigh lane gross prior) ∷ []
next_weighing lane batch found opened grosses rows last gross prior says course =
    ap (λ (os : List ℕ). stopping_asks lane batch found os (grosses ++ gross ∷ []) rows) (sym (append-nil opened))
    ∙ ap (λ (rs : List Row). stopping_asks lane batch found (opened ++ []) (grosses ++ gross ∷ []) rs) (sym (append-nil rows))
    ∙ course [] (gross ∷ []) []
    ∙ ap (λ (p : Prior). row_asks rows ++ act_ask (Weigh lane gross p) ∷ []) (says [])

pub next_stop : (lane : ℕ) (batch : Name) (found : Option Prior) (opened : List ℕ) (grosses : List ℤ) (rows others : List Row) (last : Row) (prior : Prior)
    → prior_behind opened last ≡ prior → Course lane batch found opened grosses rows last
    → stopping_asks lane batch found opened grosses (rows ++ others) ≡ row_asks rows ++ act_ask (StopLane lane prior) ∷ []
next_stop lane batch found opened grosses rows others last prior says course =
    ap (λ (os : List ℕ). stopping_asks lane batch found os grosses (rows ++ others)) (sym (append-nil opened))
    ∙ ap (λ (gs : List ℤ). stopping_asks lane batch found (opened ++ []) gs (rows ++ others)) (sym (append-nil grosses))
    ∙ course [] [] others
    ∙ ap (λ (os : List ℕ). row_asks rows ++ act_ask (StopLane lane (prior_behind os last)) ∷ []) (append-nil opened)
    ∙ ap (λ (p : Prior). row_asks rows ++ act_ask (StopLane lane p) ∷ []) says
