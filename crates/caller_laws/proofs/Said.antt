-- What the acts of a list say doesn't change with who brought them.
use Rattle.std.proofs.Common.{◌≡◌, ℕ, ℤ, pos, ◌-ℤ◌, ◌||◌, List, [], ◌∷◌, Option, None, slice_get, refl, ap}
use Rattle.std.specs.List.{cons_option, last_or}
use Rattle.std.specs.Option.{option_and_then, option_flatten, unwrap_or}
use Rattle.annex_tables.specs.Errors.{limits_of}
use Rattle.pack_judge.specs.Tares.{tare_by_rule}
use Rattle.book_words.specs.declared.name.Name.{Name}
use Rattle.book_words.specs.declared.act.Act.{Act}
use Rattle.book_words.specs.declared.act.Entry.{Entry}
use Rattle.book_words.specs.declared.act.Reading.{Reading}
use Rattle.book_words.specs.Acts.{said, last_said, first_said, nominal_put, unit_put, product_given, density_given, lane_used, is_void_of, is_voided, lane_batch}
use Rattle.book_words.specs.Tares.{tare_put, tare_of_product}
use Rattle.book_words.specs.Readings.{tare_of_batch, tare_of_reading, net_of_gross, net_of_reading}
use Rattle.book_words.specs.Classes.{nominal_of_batch, density_by_unit, density_of_batch, class_by_density, class_in_batch}
use Rattle.caller_laws.specs.Alike.{all_unnamed}

pub said_same : {A : Type 0} (says : Act → Option A) (entries : List Entry)
    → said says (all_unnamed entries) ≡ said says entries
said_same says [] = refl
said_same says (entry ∷ entries) = ap (cons_option (says entry.act)) (said_same says entries)

pub last_same : {A : Type 0} (says : Act → Option A) (entries : List Entry)
    → last_said says (all_unnamed entries) ≡ last_said says entries
last_same says entries = λ i. last_or None (said_same says entries i)

pub first_same : {A : Type 0} (says : Act → Option A) (entries : List Entry)
    → first_said says (all_unnamed entries) ≡ first_said says entries
first_same says entries = λ i. slice_get (said_same says entries i) 0

pub voided_same : (entries : List Entry) (pack : ℕ)
    → is_voided (all_unnamed entries) pack ≡ is_voided entries pack
voided_same [] pack = refl
voided_same (entry ∷ entries) pack =
    ap (λ b. is_void_of pack entry.act || b) (voided_same entries pack)

module _ (entries : List Entry) where
  pub lane_same : (lane : ℕ) → lane_batch (all_unnamed entries) lane ≡ lane_batch entries lane
  lane_same lane = λ i. option_flatten (last_same (lane_used lane) entries i)

  pub product_same : (batch : Name)
      → last_said (product_given batch) (all_unnamed entries)
      ≡ last_said (product_given batch) entries
  product_same batch = last_same (product_given batch) entries

  -- ---- tares and nets

  pub tare_same : (product : Name) (day : ℤ)
      → tare_of_product (all_unnamed entries) product day ≡ tare_of_product entries product day
  tare_same product day = λ i. tare_by_rule (said_same (tare_put product) entries i) day

  pub batch_tare_same : (batch : Name) (day : ℤ)
      → tare_of_batch (all_unnamed entries) batch day ≡ tare_of_batch entries batch day
  batch_tare_same batch day =
      λ i. option_and_then (λ product. tare_same product day i) (product_same batch i)

  pub reading_tare_same : (batch : Option Name) (day : Option ℤ)
      → tare_of_reading (all_unnamed entries) batch day ≡ tare_of_reading entries batch day
  reading_tare_same batch day =
      λ i. option_and_then (λ name. option_and_then (λ d. batch_tare_same name d i) day) batch

  pub net_same : (batch : Option Name) (day : Option ℤ) (gross : ℤ)
      → net_of_gross (all_unnamed entries) batch day gross ≡ net_of_gross entries batch day gross
  net_same batch day gross = λ i. gross -ℤ unwrap_or (reading_tare_same batch day i) (pos 0)

  pub reading_net_same : (reading : Reading)
      → net_of_reading (all_unnamed entries) reading ≡ net_of_reading entries reading
  reading_net_same reading = net_same reading.batch reading.day reading.gross

  -- ---- classes

  pub nominal_same : (batch : Name)
      → nominal_of_batch (all_unnamed entries) batch ≡ nominal_of_batch entries batch
  nominal_same batch =
      λ i. unwrap_or
      (option_and_then (λ product. last_same (nominal_put product) entries i)
      (product_same batch i)) (pos 0)

  pub density_same : (batch : Name)
      → density_of_batch (all_unnamed entries) batch ≡ density_of_batch entries batch
  density_same batch =
      λ i. density_by_unit
      (option_and_then (λ product. last_same (unit_put product) entries i) (product_same batch i))
      (unwrap_or (last_same (density_given batch) entries i) 0)

  pub class_same : (batch : Name) (net : ℤ)
      → class_in_batch (all_unnamed entries) batch net ≡ class_in_batch entries batch net
  class_same batch net =
      λ i. class_by_density (density_same batch i) (limits_of (nominal_same batch i)) net
