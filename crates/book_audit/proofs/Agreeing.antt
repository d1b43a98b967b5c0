-- How far the content of a snapshot agrees with the rows of a book.
use Rattle.std.proofs.Common.{◌≡◌, ⊎_elim, ℕ, suc, ◌+◌, ◌<◌, ◌≤◌, List, [], ◌∷◌, ◌++◌, length, take, drop, Some, refl, sym, ◌∙◌, ap, subst, arith, append_assoc, length-take}
use Rattle.std.proofs.Math.Seq.{take-add}
use Rattle.std.proofs.lemmas.Bool.{cases_lt}
use Rattle.std.proofs.lemmas.Grind.{flat_map-append}
use Rattle.std.proofs.lemmas.List.{take-append-drop, take_all, drop_at}
use Rattle.device_facts.specs.Prefix.{IsPrefixOf}
use Rattle.book_words.specs.declared.act.Entry.{Entry}
use Rattle.book_core.specs.View.{entry_numbered}
use Rattle.book_snapshot.specs.declared.layout.TheConstants.{ROW_BYTES}
use Rattle.book_snapshot.specs.DenseRows.{dense, content}
use Rattle.row_format.specs.Spelling.{new_layout, row_bytes}
use Rattle.row_format.specs.Rows.{Spells}
use Rattle.book_store.specs.Images.{spelled, spelled_from}
use Rattle.book_store.specs.Resting.{book_content}
use Rattle.book_store.proofs.DenseContent.{IsSqueezed, squeezed_more}
use Rattle.book_audit.specs.declared.beside.Agreed.{Agreed}
use Rattle.book_audit.specs.Beside.{AgreesTo, IsSame, DiffersAt, IsAgreed, AgreesAll}

-- ---- one row more

-- the next row is where the content goes on
pub agrees_more : (entries : List Entry) (before place taken : ℕ) (entry : Entry)
    (row held : List ℕ) → before < length entries
    → entry_numbered entries (before + 1) ≡ Some entry → length row ≡ ROW_BYTES
    → Spells new_layout row (before + 1) entry → IsSqueezed entries before (take place held)
    → take taken (drop place held) ≡ dense row
    → IsSqueezed entries (before + 1) (take (place + taken) held)
agrees_more entries before place taken entry row held inside there long spells so_far form =
    squeezed_more entries before entry row (take place held) (take (place + taken) held) inside there
    long spells so_far
    (take-add place taken held ∙ ap (λ (l : List ℕ). take place held ++ l) form)

-- what was agreed so far
pub agrees_so_far : (entries : List Entry) (says before place : ℕ) (held : List ℕ)
    → before ≤ length entries → before ≤ says → IsSqueezed entries before (take place held)
    → AgreesTo entries says held before
agrees_so_far entries says before place held given said so_far = record {
  given = given;
  said = said;
  begins = (
    drop place held,
    sym (take-append-drop place held) ∙ ap (λ (l : List ℕ). l ++ drop place held) so_far.is,
  );
}

-- the next row isn't there
pub agrees_no_more : (entries : List Entry) (says before place : ℕ) (entry : Entry)
    (row held : List ℕ) → before < length entries
    → entry_numbered entries (before + 1) ≡ Some entry → length row ≡ ROW_BYTES
    → Spells new_layout row (before + 1) entry → IsSqueezed entries before (take place held)
    → place ≤ length held → ¬ IsPrefixOf (dense row) (drop place held)
    → ¬ AgreesTo entries says held (before + 1)
agrees_no_more entries says before place entry row held inside there long spells so_far within none agrees =
    let front = take place held in
    let more = agrees.begins.0 in
    let next = squeezed_more entries before entry row front (front ++ dense row) inside there long
    spells so_far refl in
    let whole : held ≡ front ++ (dense row ++ more) =
    agrees.begins.1 ∙ ap (λ (l : List ℕ). l ++ more) (sym next.is)
    ∙ append_assoc front (dense row) more in
    let size : length front ≡ place = omega (arith, within, length-take place held) in
    none (more, ap (drop place) whole ∙ drop_at front (dense row ++ more) place size)

-- ---- the whole

spelled_both : (number : ℕ) (xs ys : List Entry) → spelled_from number (xs ++ ys)
    ≡ spelled_from number xs ++ spelled_from (number + length xs) ys
spelled_both number [] ys =
    let none : number ≡ number + 0 = omega arith in
    ap (λ (n : ℕ). spelled_from n ys) none
spelled_both number (x ∷ xs) ys =
    let next : number + 1 + length xs ≡ number + suc (length xs) = omega arith in
    ap (λ (l : List (List ℕ)). row_bytes new_layout number x ∷ l)
    (spelled_both (number + 1) xs ys
    ∙ ap (λ (n : ℕ). spelled_from (number + 1) xs ++ spelled_from n ys) next)

-- the content of the first entries begins that of all
content_front : (count : ℕ) (entries : List Entry)
    → IsPrefixOf (book_content (take count entries)) (book_content entries)
content_front count entries =
    let first = take count entries in
    let rest = spelled_from (1 + length first) (drop count entries) in (
      content rest,
      ap (λ (es : List Entry). book_content es) (sym (take-append-drop count entries))
          ∙ ap (λ (rows : List (List ℕ)). content rows) (spelled_both 1 first (drop count entries))
          ∙ flat_map-append dense (spelled first) rest,
    )

-- what holds the same rows agrees to its end
pub same_agrees : (entries : List Entry) (says : ℕ) (held : List ℕ) (agreed : Agreed)
    → IsAgreed entries says held agreed → IsSame entries says held
    → AgreesAll agreed says (length entries) (length held)
same_agrees entries says held agreed is same = ⊎_elim
    (λ less. absurd (is.no_further (record {
      given = omega (arith, less);
      said = omega (arith, less, same.count);
      begins = subst (IsPrefixOf (book_content (take (agreed.rows + 1) entries)))
          (sym same.content) (content_front (agreed.rows + 1) entries);
    })))
    (λ all.
    let count : agreed.rows ≡ length entries = omega (arith, all, is.agrees.given) in
    let content_is : take agreed.bytes held ≡ held =
    is.are ∙ ap (λ (n : ℕ). book_content (take n entries)) count
    ∙ ap book_content (take_all (length entries) entries (omega arith)) ∙ sym same.content in (
      omega (arith, count, same.count),
      same.count,
      omega (arith, is.inside, ap length content_is, length-take agreed.bytes held),
    ))
    (cases_lt agreed.rows (length entries))

pub agrees_same : (entries : List Entry) (says : ℕ) (held : List ℕ) (agreed : Agreed)
    → IsAgreed entries says held agreed → AgreesAll agreed says (length entries) (length held)
    → IsSame entries says held
agrees_same entries says held agreed is all = record {
  count = all.1;
  content = sym (take_all agreed.bytes held (omega (arith, all.2))) ∙ is.are
      ∙ ap book_content (take_all agreed.rows entries (omega (arith, all.0, all.1)));
}

pub differs_next : (entries : List Entry) (says : ℕ) (held : List ℕ) (agreed : Agreed)
    → IsAgreed entries says held agreed → ¬ AgreesAll agreed says (length entries) (length held)
    → DiffersAt entries says held (agreed.rows + 1)
differs_next entries says held agreed is not_all = record {
  before = agreed.rows;
  next = refl;
  agrees = is.agrees;
  no_further = is.no_further;
  other = λ same. not_all (same_agrees entries says held agreed is same);
}

-- under equal counts
pub differs_as : (entries : List Entry) (says : ℕ) (held : List ℕ) (agreed : Agreed) (rows size : ℕ)
    → rows ≡ length entries → size ≡ length held → IsAgreed entries says held agreed
    → ¬ AgreesAll agreed says rows size → DiffersAt entries says held (agreed.rows + 1)
differs_as entries says held agreed rows size rows_are size_is is not_all =
    differs_next entries says held agreed is
    (λ all. not_all (all.0, all.1 ∙ sym rows_are, all.2 ∙ sym size_is))
