-- What an act of a lane says of the gate at the reading before it, and what it does to its pack.
use Rattle.std.specs.Prelude.{ℕ, ◌-◌, int_lt, Bool, true, false, ◌==◌, ◌&&◌, List, [], ◌∷◌, find, if◌then◌else◌, Option, Some, None}
use Rattle.std.specs.Option.{option_and_then, option_map_or}
use Rattle.pack_judge.specs.declared.types.Pile.{Pile}
use Rattle.pack_judge.specs.declared.types.Pile.TheVariants.{Passed, Rejected, Sampled, Voided}
use Rattle.pack_judge.specs.declared.types.Signal.{Signal}
use Rattle.pack_judge.specs.declared.types.Signal.TheVariants.{Pass, Reject}
use Rattle.batch_sums.specs.declared.types.Pack.{Pack}
use Rattle.annex_tables.specs.declared.types.Limits.{Limits}
use Rattle.pack_groups.specs.declared.types.Totals.{Totals}
use Rattle.pack_groups.specs.Population.{is_counted}
use Rattle.batch_sums.specs.Totals.{net_of}
use Rattle.batch_sums.specs.Changes.{moved}
use Rattle.book_words.specs.declared.act.Prior.{Prior}
use Rattle.book_words.specs.declared.act.Prior.TheVariants.{Stayed, Unknown}
use Rattle.book_packs.specs.declared.types.AtWeighing.{AtWeighing}

-- whether it takes the reading out of the population: the gate stayed shut, or nobody knows
abbrev pub takes_out : Prior → Bool
takes_out Stayed = true
takes_out Unknown = true
takes_out _ = false

-- the pile of a reading that is taken out
abbrev pub pile_left : Prior → Pile
pile_left Unknown = Voided
pile_left _ = Rejected

-- a pack, where it counts for the population
abbrev pub if_counted : Pack → Option Pack
if_counted pack = if is_counted pack.pile then Some pack else None

-- the pack of a lane's unsettled reading, where it is taken out
abbrev pub leaving : Option ℕ → Prior → List Pack → Option Pack
leaving unsettled prior packs =
    if takes_out prior
    then option_and_then
    (λ number. option_and_then if_counted (find (λ pack. pack.number == number) packs)) unsettled
    else None

-- the packs behind it
abbrev pub settled : Option ℕ → Prior → List Pack → List Pack
settled unsettled prior packs =
    option_map_or (λ (pack : Pack). moved pack.number (pile_left prior) packs)
    (leaving unsettled prior packs) packs

-- the pile of a reading by its signal alone
abbrev pub signal_pile : Signal → Pile
signal_pile Pass = Passed
signal_pile (Reject cause) = Rejected

-- a count less one where a test holds
abbrev pub less_if : ℕ → Bool → ℕ
less_if count test = count - (if test then 1 else 0)

-- the population of a batch without a pack of it
abbrev pub met_without : Totals → Limits → Pack → AtWeighing
met_without totals limits pack =
    record {
      limits = limits;
      population = less_if totals.population true;
      nonstandard = less_if totals.nonstandard (int_lt (net_of pack) limits.t1);
      inadequate = less_if totals.inadequate (int_lt (net_of pack) limits.t2);
    }

-- the population of a batch as it stands
abbrev pub met_whole : Totals → Limits → AtWeighing
met_whole totals limits =
    record {
      limits = limits;
      population = totals.population;
      nonstandard = totals.nonstandard;
      inadequate = totals.inadequate;
    }

-- the population of a batch without the pack that is taken out, if that is one of the batch
abbrev pub met_less : Totals → Limits → ℕ → Option Pack → AtWeighing
met_less totals limits batch None = met_whole totals limits
met_less totals limits batch (Some pack) =
    if pack.batch == batch then met_without totals limits pack else met_whole totals limits

-- a pack, where it is one of a batch and counts for its population
abbrev pub if_counts_for : ℕ → Pack → Option Pack
if_counts_for batch pack =
    if ((pack.batch == batch) && is_counted pack.pile) then Some pack else None

-- the packs after the one of a number went to the sample of a batch, where it counts for it
abbrev pub sampled_one : ℕ → ℕ → List Pack → List Pack
sampled_one batch pick packs =
    option_map_or (λ (pack : Pack). moved pack.number Sampled packs)
    (option_and_then (if_counts_for batch) (find (λ pack. pack.number == pick) packs)) packs

-- the packs after those of some numbers did, one after another
abbrev pub sampled : ℕ → List ℕ → List Pack → List Pack
sampled batch [] packs = packs
sampled batch (pick ∷ picks) packs = sampled batch picks (sampled_one batch pick packs)
