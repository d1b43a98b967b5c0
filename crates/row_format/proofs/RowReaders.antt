-- What the reader of a row tells: what the bytes spell, or the first place where they go wrong.
use Rattle.std.proofs.Common.{◌≡◌, ℕ, ◌+◌, ◌-◌, ◌^◌, ◌<◌, List, [], ◌∷◌, ◌++◌, length, take, replicate, Result, Ok, Err, refl, sym, ap, subst, ◌∙◌, arith}
use Rattle.std.specs.Prelude.{IfOk, IfErr}
use Rattle.std.proofs.lemmas.List.{take_all}
use Rattle.book_words.specs.declared.act.Entry.{Entry}
use Rattle.book_snapshot.specs.declared.layout.TheConstants.{OPEN}
use Rattle.row_format.specs.declared.codes.Kind.{Kind}
use Rattle.row_format.specs.declared.acts.RowAct.{RowAct}
use Rattle.row_format.specs.declared.types.RowFault.{RowFault}
use Rattle.row_format.specs.Spelling.{Layout, two, four, kind_code, fields_of, filled, spelled_fields, row_bytes}
use Rattle.row_format.specs.Rows.{Spells, FirstFault}
use Rattle.row_format.specs.Reading.{act_at, number_of_kind, row_act, entry_of, row_at}
use Rattle.row_format.proofs.LowBytes.{low, written_low}
use Rattle.row_format.proofs.Readers.{IsBytes, Tells, IsField, IsReader, Then, Image, image_reads, same_reader}
use Rattle.row_format.proofs.FieldReaders.{CodeField}
use Rattle.row_format.proofs.TypedReaders.{OneNumber, Two, Four, gate_reads, row_number_reads, kind_reads, two_reads, any_four_reads}
use Rattle.row_format.proofs.KindReaders.{Fills, and_then, IsBody, HasRoom, kind_for, kind_number, act_reads}

-- the layout of a row whose kind has so many bytes for its fields
abbrev pub layout_of : ℕ → ℕ → Layout
layout_of total width = record { row = 14 + total; name = width }

module _ (total width number : ℕ) where
  abbrev Body : Kind → ℕ → ℕ → ℕ → Entry → List ℕ → Type 0
  Body kind by desk request = Image (entry_of by desk request) (IsBody total width kind)

  -- the fields of a row, one behind the other
  abbrev Parts : Entry → List ℕ → Type 0
  Parts = Then (OneNumber 1 OPEN)
      (λ _. Then (CodeField number_of_kind)
      (λ kind. Then (OneNumber 4 number)
      (λ _. Then Two (λ by. Then Two (λ desk. Then Four (λ request. Body kind by desk request))))))

  abbrev Spelled : Entry → List ℕ → Type 0
  Spelled entry text = Spells (layout_of total width) text number entry

  join : (front rest a r text : List ℕ) → text ≡ front ++ rest → front ≡ a → rest ≡ r → text ≡ a ++ r
  join front rest a r text parts p q = parts ∙ ap (λ (xs : List ℕ). xs ++ rest) p
      ∙ ap (λ (xs : List ℕ). a ++ xs) q

  -- the zeros behind the fields of a kind are those of the row
  whole_row : (by desk request : ℕ) (told : RowAct)
      → OPEN ∷ kind_code told.act ∷ (four number
      ++ (two by ++
      (two desk ++ (four request ++ filled total (fields_of width told.act told.signal)))))
      ≡ row_bytes (layout_of total width) number (entry_of by desk request told)
  whole_row by desk request told =
      let zeros : total - length (fields_of width told.act told.signal) ≡ 14 + total
      - length (spelled_fields width number (entry_of by desk request told)) = omega arith in
      ap (λ k. spelled_fields width number (entry_of by desk request told) ++ replicate k 0) zeros

  to_spelled : (entry : Entry) (text : List ℕ) → Parts entry text → Spelled entry text
  to_spelled entry text x =
      let x2 = x.goes in
      let x3 = x2.goes in
      let x4 = x3.goes in
      let x5 = x4.goes in
      let x6 = x5.goes in
      let body = x6.goes in
      let told = body.from in
      let is = body.spelled in
      let kind : number_of_kind x2.first ≡ kind_code told.act = ap number_of_kind (sym is.of_kind)
      ∙ kind_number told.act in
      let fields = filled total (fields_of width told.act told.signal) in
      let six : x5.rest ≡ four x6.first ++ fields =
      join x6.front x6.rest (four x6.first) fields x5.rest x6.parts x6.starts.is is.spelled in
      let five : x4.rest ≡ two x5.first ++ (four x6.first ++ fields) =
      join x5.front x5.rest (two x5.first) _ x4.rest x5.parts x5.starts.is six in
      let three : x3.rest ≡ two x4.first ++ (two x5.first ++ (four x6.first ++ fields)) =
      join x4.front x4.rest (two x4.first) _ x3.rest x4.parts x4.starts.is five in
      let second : x2.rest ≡ four number
      ++ (two x4.first ++ (two x5.first ++ (four x6.first ++ fields))) =
      join x3.front x3.rest (four number) _ x2.rest x3.parts
      (x3.starts.1 ∙ sym (written_low 4 number)) three in
      let first : x.rest ≡ kind_code told.act
      ∷ (four number ++ (two x4.first ++ (two x5.first ++ (four x6.first ++ fields)))) =
      join x2.front x2.rest (kind_code told.act ∷ []) _ x.rest x2.parts
      (x2.starts ∙ ap (λ (k : ℕ). k ∷ []) kind) second in
      let row : text ≡ OPEN ∷ kind_code told.act
      ∷ (four number ++ (two x4.first ++ (two x5.first ++ (four x6.first ++ fields)))) =
      join x.front x.rest (OPEN ∷ []) _ text x.parts x.starts.1 first in
      subst (λ e. Spelled e text) (sym body.is) (record {
        row = row ∙ whole_row x4.first x5.first x6.first told;
        can = record {
          allowed = record { act = is.allowed; signal = is.signalled };
          fits = record {
            by = x4.starts.below;
            desk = x5.starts.below;
            request = x6.starts.below;
            act = is.fits;
          };
        };
      })

  from_spelled : (entry : Entry) (text : List ℕ) → Spelled entry text → Parts entry text
  from_spelled entry text x =
      let told = row_act entry.act entry.signal in
      let fields = filled total (fields_of width entry.act entry.signal) in
      let number_is : four number ≡ low 4 number = written_low 4 number in
      let last = four entry.request ++ fields in
      let desks = two entry.desk ++ last in
      let callers = two entry.by ++ desks in
      let rest = four number ++ callers in
      record {
        first = OPEN;
        front = OPEN ∷ [];
        rest = kind_code entry.act ∷ rest;
        starts = (refl, refl);
        goes = record {
          first = kind_for entry.act;
          front = number_of_kind (kind_for entry.act) ∷ [];
          rest = rest;
          starts = refl;
          goes = record {
            first = number;
            front = low 4 number;
            rest = callers;
            starts = (refl, refl);
            goes = record {
              first = entry.by;
              front = two entry.by;
              rest = desks;
              starts = record { below = x.can.fits.by; is = refl };
              goes = record {
                first = entry.desk;
                front = two entry.desk;
                rest = last;
                starts = record { below = x.can.fits.desk; is = refl };
                goes = record {
                  first = entry.request;
                  front = four entry.request;
                  rest = fields;
                  starts = record { below = x.can.fits.request; is = refl };
                  goes = record {
                    from = told;
                    spelled = record {
                      of_kind = refl;
                      allowed = x.can.allowed.act;
                      signalled =
                          x.can.allowed.signal;
                      fits = x.can.fits.act;
                      spelled = refl;
                    };
                    is = refl;
                  };
                  parts = refl;
                };
                parts = refl;
              };
              parts = refl;
            };
            parts = ap (λ (xs : List ℕ). xs ++ callers) number_is;
          };
          parts = ap (λ (k : ℕ). k ∷ rest) (sym (kind_number entry.act));
        };
        parts = x.row ∙ sym (whole_row entry.by entry.desk entry.request told);
      }

  module _ (room : HasRoom total width) (below : number < 2 ^ 32) where
    row_reads : IsReader Fills (14 + total) Spelled (row_at width number)
    unfolding row_at
    row_reads =
        same_reader Fills (1 + (1 + (4 + (2 + (2 + (4 + total)))))) (14 + total) Parts Spelled
        (row_at width number) (omega arith) to_spelled from_spelled
        (and_then gate_reads λ gate. and_then kind_reads λ kind. and_then
        (row_number_reads number below) λ same. and_then two_reads λ by.
        and_then two_reads λ desk. and_then any_four_reads λ request.
        image_reads Fills (entry_of by desk request) total (IsBody total width kind)
        (act_at kind width) (act_reads total width kind room))

  pub row_told : HasRoom total width → number < 2 ^ 32 → (bytes : List ℕ)
      → length bytes ≡ 14 + total → IsBytes bytes
      → Tells Spelled (14 + total) bytes 0 (row_at width number 0 bytes)
  row_told room below bytes long are =
      let all : take (14 + total) bytes ≡ bytes = take_all (14 + total) bytes (omega (arith, long)) in
      subst (λ w. Tells Spelled (14 + total) w 0 (row_at width number 0 bytes)) all
      ((row_reads room below).tells 0 bytes (omega (arith, long)) are)

  pub row_field : HasRoom total width → number < 2 ^ 32 → IsField (14 + total) Spelled
  row_field room below = (row_reads room below).field

-- what is told of a row, in the words of the contracts
pub record TellsRow (layout : Layout) (number : ℕ) (bytes : List ℕ)
    (result : Result Entry RowFault) : Type 0 where
  pub row : IfOk result (Spells layout bytes number)
  pub back : (entry : Entry) → Spells layout bytes number entry → result ≡ Ok entry
  pub fault : IfErr result (λ fault. FirstFault layout number bytes fault.place)

tells_row : (total width number : ℕ) (bytes : List ℕ) (result : Result Entry RowFault)
    → IsField (14 + total) (Spelled total width number)
    → Tells (Spelled total width number) (14 + total) bytes 0 result
    → TellsRow (layout_of total width) number bytes result
tells_row total width number bytes (Ok found) field told =
    record {
      row = told;
      back = λ entry spells. ap (λ (e : Entry). Ok e) (field.one found entry bytes told spells);
      fault = tt;
    }
tells_row total width number bytes (Err fault) field told =
    let at : fault.place ≡ told.count = omega (arith, told.behind) in
    record {
      row = tt;
      back = λ entry spells. absurd (told.wrong
          (record { value = entry; text = bytes; is = spells; same = refl }));
      fault = subst (FirstFault (layout_of total width) number bytes) (sym at) (record {
        inside = told.inside;
        before = record {
          entry = told.before.value;
          can = told.before.is.can;
          same = ap (take told.count) (sym told.before.is.row) ∙ told.before.same;
        };
        wrong = λ x. told.wrong (record {
          value = x.entry;
          text = row_bytes (layout_of total width) number x.entry;
          is =
              record { row = refl; can = x.can };
          same = x.same;
        });
      });
    }

pub row_is_told : (total width number : ℕ) (bytes : List ℕ) (result : Result Entry RowFault)
    → HasRoom total width → number < 2 ^ 32 → length bytes ≡ 14 + total → IsBytes bytes
    → result ≡ row_at width number 0 bytes
    → TellsRow (layout_of total width) number bytes result
row_is_told total width number bytes result room below long are is =
    subst (TellsRow (layout_of total width) number bytes) (sym is)
    (tells_row total width number bytes (row_at width number 0 bytes)
    (row_field total width number room below)
    (row_told total width number room below bytes long are))
