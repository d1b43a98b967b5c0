-- What the reader of a name tells.
use Rattle.std.proofs.Common.{◌≡◌, ℕ, ◌+◌, ◌-◌, ◌≤◌, Bool, true, false, List, [], ◌∷◌, ◌++◌, length, take, drop, replicate, Option, Some, None, Result, Ok, Err, inr, refl, sym, ap, subst, ◌∙◌, arith}
use Rattle.std.specs.Prelude.{⊤, slice_range, nat_le}
use Rattle.std.proofs.lemmas.Bool.{and_parts, and_from, leb-true, le-leb}
use Rattle.std.proofs.lemmas.List.{take_at, length-replicate}
use Rattle.std.proofs.lemmas.Slice.Eq.{bytes_eq-Decides}
use Rattle.hall_limits.specs.declared.TheConstants.{NAME_BYTES}
use Rattle.book_words.specs.declared.name.Name.{Name}
use Rattle.book_words.specs.Names.{bytes_of, name_of}
use Rattle.book_words.specs.NamePlaces.{is_name_length}
use Rattle.book_words.proofs.NameLemmas.{padded_over, same_name_is, name_of_bytes, no_name_of}
use Rattle.row_format.specs.declared.types.RowFault.{RowFault}
use Rattle.row_format.specs.Spelling.{name_field}
use Rattle.row_format.specs.Allowed.{IsShort}
use Rattle.row_format.specs.Reading.{◌>>=◌, between, name_at, known, zeros_at}
use Rattle.row_format.proofs.LowBytes.{low}
use Rattle.row_format.proofs.Readers.{Tells, IsReader, Within, Then, behind_reads, same_reader}
use Rattle.row_format.proofs.FieldReaders.{NumberField, byte_reads, ZeroField, zeros_read, slice_window, length-window}
use Rattle.row_format.proofs.TypedReaders.{one_between, between_fits, small_byte}

-- two names with the same bytes are one
pub same_bytes : (a b : Name) → bytes_of a ≡ bytes_of b → a ≡ b
same_bytes a b same = same_name_is a b ((bytes_eq-Decides (bytes_of a) (bytes_of b)).1 same)

-- a name of these bytes
record HasName (bytes : List ℕ) : Type 0 where
  pub name : Name
  pub is : bytes_of name ≡ bytes

made_name : (bytes : List ℕ) → (1 ≤ length bytes) × (length bytes ≤ NAME_BYTES) → HasName bytes
made_name bytes fits =
    let zeros = replicate NAME_BYTES 0 in
    let short : is_name_length (length bytes) ≡ true =
    and_from _ _ (le-leb 1 (length bytes) fits.0) (le-leb (length bytes) NAME_BYTES fits.1) in
    record {
      name = record {
        len = length bytes;
        places = bytes ++ drop (length bytes) zeros;
        padded =
            padded_over (length bytes) bytes zeros refl short refl refl;
      };
      is = take_at bytes (drop (length bytes) zeros) (length bytes) refl;
    }

-- a name has 1 byte at least
pub name_bytes : (name : Name) → (1 ≤ length (bytes_of name)) × (length (bytes_of name) ≤ NAME_BYTES)
name_bytes name = either (is_name_length (length (bytes_of name))) refl
  where
    either : (short : Bool) → is_name_length (length (bytes_of name)) ≡ short
        → (1 ≤ length (bytes_of name)) × (length (bytes_of name) ≤ NAME_BYTES)
    either true is =
        let parts = and_parts (nat_le 1 (length (bytes_of name)))
        (nat_le (length (bytes_of name)) NAME_BYTES) is in (
          leb-true 1 (length (bytes_of name)) parts.0,
          leb-true (length (bytes_of name)) NAME_BYTES parts.1,
        )
    either false is =
        let found : Some name ≡ None = name_of_bytes name (bytes_of name) refl
        ∙ sym (no_name_of (bytes_of name) is) in
        absurd cc

-- bytes, whatever they are
abbrev ListField : ℕ → List ℕ → List ℕ → Type 0
ListField size value text = (text ≡ value) × (length value ≡ size)

list_reads : (size : ℕ) → IsReader Within size (ListField size)
    (λ place bytes. Ok (slice_range bytes place (place + size)))
list_reads size =
    record {
      field = record {
        value = replicate size 0;
        text = replicate size 0;
        some = (refl, length-replicate size 0);
        long = λ b w x. ap length x.0 ∙ x.1;
        one = λ a b w x y. sym x.0 ∙ y.0;
      };
      tells = λ place bytes inside are. (
        sym (slice_window size place bytes),
        ap length (slice_window size place bytes)
            ∙ length-window size place bytes inside,
      );
    }

-- the name of known bytes, where zeros follow
abbrev ZerosBehind : ℕ → List ℕ → Name → List ℕ → Type 0
ZerosBehind size bytes name text = (bytes_of name ≡ bytes) × (text ≡ replicate size 0)

known_reads : (size : ℕ) (bytes : List ℕ) → HasName bytes
    → IsReader Within size (ZerosBehind size bytes)
    (λ place all. zeros_at size place all >>= λ _. known place (name_of bytes))
known_reads size bytes has =
    record {
      field = record {
        value = has.name;
        text = replicate size 0;
        some = (has.is, refl);
        long = λ b w x. ap length x.1 ∙ length-replicate size 0;
        one = λ a b w x y. same_bytes a b (x.0 ∙ sym y.0);
      };
      tells = λ place all inside are. told place (take size (drop place all))
          (zeros_at size place all) (name_of bytes) (name_of_bytes has.name bytes has.is)
          ((zeros_read size).tells place all inside are);
    }
  where
    told : (place : ℕ) (window : List ℕ) (r : Result ⊤ RowFault) (found : Option Name)
        → Some has.name ≡ found → Tells (ZeroField size) size window place r
        → Tells (ZerosBehind size bytes) size window place (r >>= λ _. known place found)
    told place window (Ok value) found is zeros =
        subst (λ o. Tells (ZerosBehind size bytes) size window place (known place o)) is
        (has.is, zeros)
    told place window (Err fault) found is zeros =
        record {
          count = zeros.count;
          behind = zeros.behind;
          inside = zeros.inside;
          before = record {
            value = has.name;
            text = zeros.before.text;
            is =
                (has.is, zeros.before.is);
            same = zeros.before.same;
          };
          wrong = λ x. zeros.wrong (record { value = tt; text = x.text; is = x.is.1; same = x.same });
        }

abbrev pub NameText : ℕ → Name → List ℕ → Type 0
NameText width name text = IsShort width name × (text ≡ name_field width name)

abbrev Behind : ℕ → ℕ → Name → List ℕ → Type 0
Behind width len = Then (ListField len) (ZerosBehind (width - len))

abbrev Parts : ℕ → Name → List ℕ → Type 0
Parts width = Then (NumberField (between 1 width) 1) (Behind width)

name_text : (width len : ℕ) (bytes front middle behind rest text : List ℕ) → text ≡ front ++ rest
    → rest ≡ middle ++ behind → front ≡ len ∷ [] → middle ≡ bytes
    → behind ≡ replicate (width - len) 0 → length bytes ≡ len
    → text ≡ length bytes ∷ bytes ++ replicate (width - length bytes) 0
name_text width len bytes front middle behind rest text p q first second third long =
    rw (p, q, first, second, third, long) refl

parts_to : (width : ℕ) → width ≤ NAME_BYTES → (name : Name) (text : List ℕ) → Parts width name text
    → NameText width name text
parts_to width short name text x =
    let len = one_between 1 width x.first x.starts.0 in
    let y = x.goes in
    let is : y.first ≡ bytes_of name = sym y.goes.0 in
    let long : length (bytes_of name) ≡ x.first = ap length (sym is) ∙ y.starts.1 in (
      omega (arith, long, len.1),
      name_text width x.first
          (bytes_of name) x.front y.front y.rest x.rest text x.parts y.parts
          (x.starts.1 ∙ small_byte x.first (omega (arith, len.1))) (y.starts.0 ∙ is) y.goes.1 long,
    )

to_parts : (width : ℕ) → width ≤ NAME_BYTES → (name : Name) (text : List ℕ)
    → NameText width name text → Parts width name text
to_parts width short name text x =
    let bytes = bytes_of name in
    let fits = name_bytes name in
    let small : low 1 (length bytes) ≡ length bytes ∷ [] =
    small_byte (length bytes) (omega (arith, fits.1)) in
    record {
      first = length bytes;
      front = low 1 (length bytes);
      rest = bytes ++ replicate (width - length bytes) 0;
      starts = (inr (fits.0, x.0), refl);
      goes = record {
        first = bytes;
        front = bytes;
        rest = replicate (width - length bytes) 0;
        starts = (refl, refl);
        goes = (refl, refl);
        parts = refl;
      };
      parts = x.1 ∙ ap (λ (front : List ℕ). front ++ (bytes ++ replicate (width - length bytes) 0))
          (sym small);
    }

behind_len : (width len : ℕ) → width ≤ NAME_BYTES → (1 ≤ len) × (len ≤ width)
    → IsReader Within width (Behind width len)
    (λ place bytes. zeros_at (width - len) (place + len) bytes >>= λ _. known (place + len)
    (name_of (slice_range bytes place (place + len))))
behind_len width len short fits =
    let whole : len + (width - len) ≡ width = omega (arith, fits.1) in
    subst (λ k. IsReader Within k (Behind width len)
    (λ place bytes. zeros_at (width - len) (place + len) bytes >>= λ _. known (place + len)
    (name_of (slice_range bytes place (place + len))))) whole
    (behind_reads {k = λ x place bytes. zeros_at (width - len) place bytes >>= λ _. known place
    (name_of x)} (λ end size h. h) (list_reads len) λ x text is. known_reads (width - len) x
    (made_name x (omega (arith, is.1, fits.0), omega (arith, is.1, fits.1))))

pub name_reads : (width : ℕ) → 1 ≤ width → width ≤ NAME_BYTES
    → IsReader Within (1 + width) (NameText width) (name_at width)
unfolding name_at
name_reads width some short =
    same_reader Within (1 + width) (1 + width) (Parts width) (NameText width) (name_at width) refl
    (parts_to width short) (to_parts width short)
    (behind_reads {k = λ len place bytes. zeros_at (width - len) (place + len) bytes >>= λ _. known
    (place + len) (name_of (slice_range bytes place (place + len)))} (λ end size h. h)
    (byte_reads (between 1 width) (between_fits 1 width 1 (omega arith) some (omega arith)))
    λ len text is. behind_len width len short (one_between 1 width len is.0))
