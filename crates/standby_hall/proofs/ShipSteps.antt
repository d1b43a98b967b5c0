-- The rows of a legal list go out one behind the other.
use Rattle.std.specs.Prelude.{OnOk, IfErr, MatchResult}
use Rattle.std.proofs.Common.{◌≡◌, ℕ, zero, suc, ◌+◌, ◌≤◌, List, [], ◌∷◌, ◌++◌, length, take, drop, Result, Ok, Err, refl, sym, ap, ◌∙◌, subst, arith, append_assoc, append-nil, length-append}
use Rattle.std.specs.Io.KnownBytes.{Appends}
use Rattle.std.specs.List.{AllByRecursion}
use Rattle.std.proofs.KnownBytes.{Appends-nil}
use Rattle.std.proofs.lemmas.List.{take-append-le}
use Rattle.hall_limits.specs.declared.TheConstants.{NAME_BYTES}
use Rattle.disk_core.specs.declared.types.Partly.{Partly}
use Rattle.book_words.specs.declared.act.Entry.{Entry}
use Rattle.book_words.specs.Answers.{IsLegal}
use Rattle.row_format.specs.Allowed.{IsAllowed, IsAllowedWhereLawful}
use Rattle.text_streams.specs.Streams.{Stream, WroteAll}
use Rattle.standby_hall.specs.Pages.{PageView, HasPut, IsCutAt}

-- ---- entries

allowed_from : IsAllowedWhereLawful → (before after : List Entry) → IsLegal (before ++ after)
    → AllByRecursion (IsAllowed NAME_BYTES) after
allowed_from allows before [] legal = tt
allowed_from allows before (e ∷ es) legal = (
  allows before e (legal before e es refl),
  allowed_from allows (before ++ e ∷ []) es
      (subst IsLegal (sym (append_assoc before (e ∷ []) es)) legal),
)

allowed_behind : (count : ℕ) (entries : List Entry) → AllByRecursion (IsAllowed NAME_BYTES) entries
    → AllByRecursion (IsAllowed NAME_BYTES) (drop count entries)
allowed_behind zero entries all = all
allowed_behind (suc count) [] all = tt
allowed_behind (suc count) (e ∷ es) all = allowed_behind count es all.1

-- the entries of a legal list behind the first ones may stand in rows
pub allowed_left : IsAllowedWhereLawful → (count : ℕ) (entries : List Entry) → IsLegal entries
    → AllByRecursion (IsAllowed NAME_BYTES) (drop count entries)
allowed_left allows count entries legal =
    allowed_behind count entries (allowed_from allows [] entries legal)

-- ---- the text

-- nothing was put yet
pub put_nothing : (start : Stream) → HasPut start start (record { sent = 0; waiting = [] }) []
put_nothing start = record {
  out = [];
  went = Appends-nil start.bytes;
  sent = refl;
  parts = refl;
  calm = refl;
}

-- what was cut is cut also of a longer text
pub cut_longer : (start now : Stream) (text more : List ℕ) (partly : Partly)
    → IsCutAt start now text partly → IsCutAt start now (text ++ more) partly
cut_longer start now text more partly cut = record {
  out = subst (Appends start.bytes now.bytes)
      (sym (take-append-le partly.done text more (omega (arith, cut.less)))) cut.out;
  less = omega (arith, cut.less, length-append text more);
  failed = cut.failed;
}

-- where nothing waits, all went out
pub put_all : (start now : Stream) (page : PageView) (text : List ℕ) → HasPut start now page text
    → page.waiting ≡ [] → WroteAll start now text
put_all start now page text put empty =
    let same : put.out ≡ text = sym (append-nil put.out)
    ∙ ap (λ (l : List ℕ). put.out ++ l) (sym empty) ∙ sym put.parts in
    record { out = subst (Appends start.bytes now.bytes) same put.went; calm = put.calm }

-- the last bytes went out, or not all of them
pub flushed_all : {T : Type 0} (start now : Stream) (page : PageView) (text : List ℕ)
    (result : Result T Partly)
    → MatchResult result (λ _. HasPut start now page text) (IsCutAt start now text)
    → OnOk result (page.waiting ≡ []) → OnOk result (WroteAll start now text)
flushed_all start now page text (Ok done) goes empty = put_all start now page text goes empty
flushed_all start now page text (Err partly) goes empty = tt

pub flushed_cut : {T : Type 0} (start now : Stream) (page : PageView) (text : List ℕ)
    (result : Result T Partly)
    → MatchResult result (λ _. HasPut start now page text) (IsCutAt start now text)
    → IfErr result (IsCutAt start now text)
flushed_cut start now page text (Ok done) goes = tt
flushed_cut start now page text (Err partly) goes = goes
