-- Names and words of a trial.
use Rattle.std.proofs.Common.{◌≡◌, ℕ, zero, suc, ◌+◌, ◌-◌, ◌*◌, ◌<◌, ◌≤◌, ℤ, pos, Bool, true, cond, nat_le, min, List, [], ◌∷◌, ◌++◌, length, take, drop, replicate, get_or, codes, Option, Some, None, option_map, Result, Ok, Err, refl, sym, ap, ◌∙◌, append_assoc, arith, lit<}
use Rattle.std.specs.Int.{div_ceil}
use Rattle.std.specs.List.{range_with_len, slice_get}
use Rattle.std.specs.Option.{option_and_then}
use Rattle.std.proofs.lemmas.Grind.{div_ceil_times}
use Rattle.std.proofs.lemmas.Bool.Decides.{nat_tests}
use Rattle.std.proofs.lemmas.List.{take-append-drop, take-replicate, take_more, replicate_more, length-replicate, drop_at}
use Rattle.std.proofs.lemmas.List.FromFn.{map-range_with_len_more, take-map-range_with_len}
use Rattle.sample_draw.specs.Draws.{next_word}
use Rattle.book_words.specs.declared.act.Entry.{Entry}
use Rattle.book_words.specs.declared.act.Question.{Question}
use Rattle.book_words.specs.declared.reply.Answered.{Answered}
use Rattle.book_words.specs.declared.reply.Refused.{Refused}
use Rattle.book_words.specs.declared.name.Name.{Name}
use Rattle.book_words.specs.Names.{name_of}
use Rattle.book_state.specs.Known.{entry_numbered}
use Rattle.book_core.specs.declared.types.BookError.TheVariants as error
use Rattle.book_core.specs.Steps.{GivesLook}
use Rattle.script_lines.specs.declared.command.Command.{Command}
use Rattle.script_lines.specs.declared.command.Verb.TheVariants.{End, Measure, Stop}
use Rattle.trial_run.specs.declared.commands.TheConstants.{BATCH_PACKS}
use Rattle.trial_run.specs.TrialScripts.{trial_product, batch_name, word_behind, gross_by, open_commands, weighing, weighings, draw_command, batch_run, packs_of_batch, hall_command, gross_weighed, measure_at, told_packs, packs_told}

-- the product's name
pub product_named : name_of (codes "trial") ≡ Some trial_product
unfolding name_of
product_named = refl

-- a text behind one byte of many that are alike
pub byte_before : (text rest : List ℕ) (size place byte : ℕ) → 0 < place → place ≤ size
    → take place text ≡ take place (replicate size byte) → drop place text ≡ rest
    → drop (place - 1) text ≡ byte ∷ rest
byte_before text rest size zero byte some most front back = absurd (omega (arith, some))
byte_before text rest size (suc place) byte some most front back =
    let bytes = replicate place byte in
    let more : place + 1 ≡ suc place = omega (arith) in
    let less : suc place - 1 ≡ place = omega (arith) in
    let first : take (suc place) text ≡ bytes ++ byte ∷ [] =
    front ∙ take-replicate (suc place) size byte most
    ∙ sym (replicate_more place byte ∙ ap (λ n. replicate n byte) more) in
    let all : text ≡ bytes ++ byte ∷ rest = sym (take-append-drop (suc place) text)
    ∙ (λ i. first i ++ back i) ∙ append_assoc bytes (byte ∷ []) rest in
    ap (λ n. drop n text) less ∙ ap (drop place) all
    ∙ drop_at bytes (byte ∷ rest) place (length-replicate place byte)

-- the word behind some packs, and then more
pub word-behind : (word some more : ℕ)
    → word_behind (word_behind word some) more ≡ word_behind word (some + more)
word-behind word some zero =
    ap (word_behind word) (let same : some ≡ some + zero = omega (arith) in same)
word-behind word some (suc more) =
    ap next_word (word-behind word some more)
    ∙ ap (word_behind word)
    (let same : suc (some + more) ≡ some + suc more = omega (arith) in same)

-- ---- places

-- a list by its front, the thing behind it and the rest
pub list_parts : {A : Type 0} (xs : List A) (place : ℕ) (d : A) → place < length xs
    → xs ≡ (take place xs ++ get_or xs place d ∷ []) ++ drop (place + 1) xs
list_parts xs place d less = sym (take-append-drop (place + 1) xs)
    ∙ ap (λ ys. ys ++ drop (place + 1) xs) (take_more xs place d less)

last_place : (first count place : ℕ) → first + count ≡ place
    → range_with_len first (suc count) ≡ range_with_len first count ++ place ∷ []
last_place first zero place is = let same : first ≡ place = omega (arith, is) in
    ap (λ k. k ∷ []) same
last_place first (suc count) place is =
    ap (λ ks. first ∷ ks) (last_place (first + 1) count place (omega (arith, is)))

-- one place more
pub places-more : (count : ℕ) → range_with_len 0 (count + 1) ≡ range_with_len 0 count ++ count ∷ []
places-more count =
    let more : count + 1 ≡ suc count = omega (arith) in
    let same : 0 + count ≡ count = omega (arith) in
    ap (range_with_len 0) more ∙ last_place 0 count count same

places_front : (first count some : ℕ) → some ≤ count
    → take some (range_with_len first count) ≡ range_with_len first some
places_front first count zero few = refl
places_front first zero (suc some) few = absurd (omega (arith, few))
places_front first (suc count) (suc some) few =
    ap (λ ks. first ∷ ks) (places_front (first + 1) count some (omega (arith, few)))

-- the places of some things, by those before one
pub places_parts : (count place : ℕ) → place < count
    → range_with_len 0 count
    ≡ (range_with_len 0 place ++ place ∷ []) ++ drop (place + 1) (range_with_len 0 count)
places_parts count place less =
    let all = range_with_len 0 count in
    sym (take-append-drop (place + 1) all)
    ∙ ap (λ ks. ks ++ drop (place + 1) all)
    (places_front 0 count (place + 1) (omega (arith, less)) ∙ places-more place)

-- ---- weighings

-- the weighing of the pack at a place behind a word
abbrev pub weighing_at : ℕ → ℕ → Command
weighing_at word place = weighing place (gross_by (word_behind word (place + 1)))

-- the word behind one pack more
pub word-next : (word last place : ℕ) → last ≡ word_behind word place
    → next_word last ≡ word_behind word (place + 1)
word-next word last place is =
    let more : suc place ≡ place + 1 = omega (arith) in
    ap next_word is ∙ ap (word_behind word) more

pub weighings-more : (word place : ℕ)
    → weighings word (place + 1) ≡ weighings word place ++ weighing_at word place ∷ []
weighings-more word place =
    let same : 0 + place ≡ place = omega (arith) in
    map-range_with_len_more (weighing_at word) 0 place place same

pub weighings_parts : (word packs place : ℕ) → place < packs
    → weighings word packs
    ≡ (weighings word place ++ weighing_at word place ∷ [])
    ++ drop (place + 1) (weighings word packs)
weighings_parts word packs place less =
    let all = weighings word packs in
    sym (take-append-drop (place + 1) all)
    ∙ ap (λ cs. cs ++ drop (place + 1) all)
    (take-map-range_with_len (weighing_at word) 0 packs (place + 1) (omega (arith, less))
    ∙ weighings-more word place)

-- ---- batches

-- a batch that is run has begun within the packs
pub begun_at : (count place : ℕ) → place < div_ceil count BATCH_PACKS
    → place * BATCH_PACKS ≤ count
begun_at count place less =
    within (div_ceil count BATCH_PACKS) (div_ceil_times count BATCH_PACKS (lit< tt)).1 less
  where
    within : (batches : ℕ) → batches * BATCH_PACKS < count + BATCH_PACKS → place < batches
        → place * BATCH_PACKS ≤ count
    within batches few before = omega (arith, few, before)

-- the word behind a batch is the one before the next
pub word-batch : (number count place word last : ℕ) → place * BATCH_PACKS ≤ count
    → word ≡ word_behind number (min (place * BATCH_PACKS) count)
    → last ≡ word_behind word (packs_of_batch count place)
    → last ≡ word_behind number (min ((place + 1) * BATCH_PACKS) count)
word-batch number count place word last begun was is =
    let first : min (place * BATCH_PACKS) count ≡ place * BATCH_PACKS = omega (arith, begun) in
    let packs = packs_of_batch count place in
    let all : place * BATCH_PACKS + packs ≡ min ((place + 1) * BATCH_PACKS) count =
    omega (arith, begun) in
    is ∙ ap (λ w. word_behind w packs) (was ∙ ap (word_behind number) first)
    ∙ word-behind number (place * BATCH_PACKS) packs ∙ ap (word_behind number) all

-- what is asked between the last pack of a batch and its draw
abbrev pub stop_commands : Name → List Command
stop_commands batch =
    hall_command (Stop 1 None) ∷ hall_command (Stop 2 None) ∷ hall_command (Stop 3 None)
    ∷ hall_command (End batch) ∷ []

-- what is asked up to its last pack
abbrev pub packs_weighed : ℕ → ℕ → ℕ → List Command
packs_weighed number count place =
    open_commands (batch_name place)
    ++ weighings (word_behind number (place * BATCH_PACKS)) (packs_of_batch count place)

-- the run of a batch ends with its draw
pub run_drawn : (number count place : ℕ) → batch_run number count place
    ≡ (packs_weighed number count place ++ stop_commands (batch_name place))
    ++ draw_command (batch_name place) number ∷ []
run_drawn number count place = sym (append_assoc (packs_weighed number count place)
    (stop_commands (batch_name place)) (draw_command (batch_name place) number ∷ []))

-- ---- the packs of a sample

-- no entry has a number behind the list
pub entry_past : (entries : List Entry) (number : ℕ) → length entries < number
    → entry_numbered entries number ≡ None
entry_past entries zero past = absurd (omega (arith, past))
entry_past entries (suc number) past =
    let back : suc number - 1 ≡ number = omega (arith) in
    let some : nat_le 1 (suc number) ≡ true = grind (arith, nat_tests) in
    ap (λ (t : Bool). cond t (slice_get entries (suc number - 1)) None) some
    ∙ ap (slice_get entries) back ∙ past_end entries number (omega (arith, past))
  where
    past_end : (es : List Entry) (place : ℕ) → length es ≤ place → slice_get es place ≡ None
    past_end [] place few = refl
    past_end (e ∷ es) zero few = absurd (omega (arith, few))
    past_end (e ∷ es) (suc place) few = past_end es place (omega (arith, few))

-- a pack that the list hasn't isn't measured
pub measure_past : (entries : List Entry) (pack : ℕ) → length entries < pack
    → measure_at entries pack ≡ None
measure_past entries pack past =
    ap (λ (o : Option Entry). option_map
    (λ (gross : ℤ). hall_command (Measure pack gross (pos 0)))
    (option_and_then (λ (entry : Entry). gross_weighed entry.act) o))
    (entry_past entries pack past)

-- what a look answers
pub look_found : (question : Question) (answered : Answered) (wanted : Result Answered Refused)
    → GivesLook question (Ok answered) wanted → told_packs answered.reply ≡ packs_told wanted
look_found question answered (Ok told) is =
    let same : answered ≡ told = cc (is) in ap (λ (a : Answered). told_packs a.reply) same
look_found question answered (Err refused) is = absurd (cc (is))

pub look_refused : (question : Question) (given : Refused) (wanted : Result Answered Refused)
    → GivesLook question (Err (error.Refused given)) wanted → packs_told wanted ≡ []
look_refused question given (Ok told) is = absurd (cc (is))
look_refused question given (Err refused) is = refl
