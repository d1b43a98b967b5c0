-- What one shipment more makes of what those before it left.
use Rattle.std.proofs.Common.{◌≡◌, ◌≢◌, ◌⊎◌, inl, inr, ⊎_elim, ℕ, zero, suc, ◌+◌, ◌-◌, ◌<◌, ◌≤◌, List, [], ◌++◌, length, Result, Ok, Err, refl, sym, ap, ◌∙◌, subst, arith}
use Rattle.std.specs.Prelude.{IfOk}
use Rattle.std.specs.Io.KnownBytes.{Consumes}
use Rattle.std.proofs.KnownBytes.{Consumes-nil, Consumes-trans}
use Rattle.book_words.specs.declared.act.Entry.{Entry}
use Rattle.text_streams.specs.Streams.{Stream, IsCalm, HasFailed}
use Rattle.standby_hall.specs.declared.types.ShipHead.{ShipHead}
use Rattle.standby_hall.specs.declared.types.FollowStop.{FollowStop}
use Rattle.standby_hall.specs.declared.types.FollowStop.TheVariants.{ReadFault, Head, Gap, Row, Extra, DiskFault, NoMemory}
use Rattle.standby_hall.specs.Shipments.{shipped}
use Rattle.standby_hall.specs.Following.{Arrival, Follows, FollowsAll, CountsRead, ExplainsFollow, result_with}
use Rattle.standby_hall.specs.Rows.{HasReadHead, TakesUpTo, HasReadAll, StopsInHead, ComesToNoHead, IsBehindHead, IsBeforeEnd}
use Rattle.standby_hall.specs.Several.{AreWhole, FollowsSeveral, ExplainsSeveral, HasReadSeveral}
use Rattle.standby_hall.proofs.FollowSteps.{head_stops, at_end_of}

-- none came yet
pub several_begin : (start : Stream) (held : List Entry) → HasReadSeveral start start held held 0
several_begin start held = record {
  bytes = [];
  read = Consumes-nil start.bytes;
  calm = refl;
  whole = (refl, refl);
}

-- the input's count since the first one
counts_from : (start middle now : Stream) (adopted : ℕ) (result : Result ℕ FollowStop)
    → IsCalm start middle → CountsRead middle now (result_with adopted result)
    → CountsRead start now result
counts_from start middle now adopted (Err ReadFault) calm failed =
    subst (λ n. HasFailed (record { bytes = start.bytes; faults = n }) now) calm failed
counts_from start middle now adopted (Ok count) calm same = same ∙ calm
counts_from start middle now adopted (Err Head) calm same = same ∙ calm
counts_from start middle now adopted (Err (Gap row)) calm same = same ∙ calm
counts_from start middle now adopted (Err (Row row)) calm same = same ∙ calm
counts_from start middle now adopted (Err (Extra all)) calm same = same ∙ calm
counts_from start middle now adopted (Err (DiskFault entry)) calm same = same ∙ calm
counts_from start middle now adopted (Err NoMemory) calm same = same ∙ calm

module _ (start middle : Stream) (held between : List Entry) (earlier : ℕ)
    (several : HasReadSeveral start middle held between earlier) where
  -- one more came whole
  pub several_more : (now : Stream) (rows : List Entry) (head : ShipHead)
      → HasReadAll middle now between rows head → length between ≤ length rows
      → HasReadSeveral start now held rows (earlier + 1)
  several_more now rows head all grown =
      let last = shipped head all.entries in
      let next : suc earlier ≡ earlier + 1 = omega arith in
      subst (HasReadSeveral start now held rows) next (record {
        bytes = several.bytes ++ last;
        read = Consumes-trans start.bytes middle.bytes now.bytes several.bytes last several.read all.read;
        calm = all.calm ∙ several.calm;
        whole = (
          between,
          several.bytes,
          last,
          several.whole,
          record {
            adopted = length rows - length between;
            follows = record {
              head = head;
              entries = all.entries;
              followed = all.followed;
              bytes = refl;
              all = all.counted;
              ended = refl;
              added = omega (arith, grown);
            };
          },
          refl,
        );
      })

  -- what is said of the last one is said of all
  pub several_end : (most : ℕ) (now : Stream) (rows : List Entry) (adopted : ℕ)
      (result : Result ℕ FollowStop) → earlier < most
      → (one : ExplainsFollow between middle now rows (result_with adopted result))
      → (result ≡ Err Head → (earlier ≡ 0) ⊎ (one.arrival.bytes ≢ []))
      → ((all : ℕ) → result ≡ Err (Extra all) → earlier + 1 ≡ most)
      → IfOk result (λ count. length rows ≡ length held + count)
      → ExplainsSeveral most held start now rows result
  several_end most now rows adopted result few one begun full added = record {
    arrival = record { bytes = several.bytes ++ one.arrival.bytes; ended = one.arrival.ended };
    read = Consumes-trans start.bytes middle.bytes now.bytes several.bytes one.arrival.bytes several.read
        one.read;
    at_end = one.at_end;
    cause = counts_from start middle now adopted result several.calm one.cause;
    follows = record {
      earlier = earlier;
      between = between;
      before = several.bytes;
      last = one.arrival.bytes;
      adopted = adopted;
      few = few;
      whole = several.whole;
      follows = one.follows;
      parts = refl;
      begun = begun;
      full = full;
      added = added;
    };
  }

  -- it stopped in its rows, or at its end where no more may come
  pub several_stop : (most : ℕ) (now : Stream) (rows : List Entry) (stop : FollowStop)
      → earlier < most → ExplainsFollow between middle now rows (Err stop) → IsBehindHead stop
      → IsBeforeEnd stop ⊎ (earlier + 1 ≡ most)
      → ExplainsSeveral most held start now rows (Err stop)
  several_stop most now rows stop few one behind inside =
      several_end most now rows 0 (Err stop) few one
      (λ is. absurd (subst IsBehindHead (let same : stop ≡ Head = cc is in same) behind))
      (λ all is. ⊎_elim
      (λ before. absurd (subst IsBeforeEnd (let same : stop ≡ Extra all = cc is in same) before))
      (λ last. last)
      inside)
      tt

  -- it stopped at its head, of which a byte came
  pub several_head : (most : ℕ) (now : Stream) (stop : FollowStop) → earlier < most
      → StopsInHead middle now stop → ExplainsSeveral most held start now between (Err stop)
  several_head most now ReadFault few fails =
      several_stop most now between ReadFault few (head_stops between middle now ReadFault fails) tt (inl tt)
  several_head most now Head few comes =
      several_end most now between 0 (Err Head) few
      (record {
        arrival = comes.arrival;
        read = comes.read;
        at_end = comes.at_end;
        cause = comes.calm;
        follows = (comes.lacks, refl);
      })
      (λ is. inr comes.some)
      (λ all is. absurd cc)
      tt
  several_head most now (Gap row) few never = absurd never
  several_head most now (Row row) few never = absurd never
  several_head most now (Extra all) few never = absurd never
  several_head most now (DiskFault entry) few never = absurd never
  several_head most now NoMemory few never = absurd never

  -- it came whole, and the input ended behind it
  pub several_good : (most : ℕ) (now next : Stream) (rows : List Entry) (head : ShipHead)
      (room count : ℕ) → earlier < most → HasReadAll middle now between rows head
      → TakesUpTo now next room [] → 0 < room → length between ≤ length rows
      → length rows ≡ length held + count → ExplainsSeveral most held start next rows (Ok count)
  several_good most now next rows head room count few whole takes some grown counted =
      let added : length rows ≡ length between + (length rows - length between) =
      omega (arith, grown) in
      several_end most next rows (length rows - length between) (Ok count) few
      (at_end_of middle now next between rows head whole (length rows - length between) room []
      added takes some refl)
      (λ is. absurd cc)
      (λ all is. absurd cc)
      counted

-- the first one stopped at its head
pub several_first : (most : ℕ) (start now : Stream) (held : List Entry) (stop : FollowStop) → 0 < most
    → ExplainsFollow held start now held (Err stop) → IsBeforeEnd stop
    → ExplainsSeveral most held start now held (Err stop)
several_first most start now held stop few one inside =
    several_end start start held held 0 (several_begin start held) most now held 0 (Err stop) few one
    (λ is. inl refl)
    (λ all is. absurd (subst IsBeforeEnd (let same : stop ≡ Extra all = cc is in same) inside))
    tt

-- ---- one alone

answer_alone : (held rows : List Entry) (arrival : Arrival) (adopted : ℕ)
    (result : Result ℕ FollowStop) → Follows held rows arrival (result_with adopted result)
    → IfOk result (λ count. length rows ≡ length held + count) → Follows held rows arrival result
answer_alone held rows arrival adopted (Err stop) follows added = follows
answer_alone held rows arrival adopted (Ok count) follows added =
    let same : adopted ≡ count = omega (arith, follows.added, added) in
    subst (FollowsAll held rows arrival) same follows

-- where one may come, what is said of it is what is said of one shipment
pub several_alone : (held : List Entry) (before now : Stream) (rows : List Entry)
    (result : Result ℕ FollowStop) → ExplainsSeveral 1 held before now rows result
    → ExplainsFollow held before now rows result
several_alone held before now rows result several =
    let s = several.follows in
    let none : s.earlier ≡ 0 = omega (arith, s.few) in
    let whole : AreWhole 0 held s.between s.before =
    subst (λ n. AreWhole n held s.between s.before) none s.whole in
    let bytes : s.last ≡ several.arrival.bytes = ap (λ (l : List ℕ). l ++ s.last) (sym whole.1)
    ∙ sym s.parts in
    let there : Follows held rows (record { bytes = several.arrival.bytes; ended = several.arrival.ended })
    (result_with s.adopted result) =
    subst (λ (l : List ℕ). Follows held rows (record { bytes = l; ended = several.arrival.ended })
    (result_with s.adopted result)) bytes
    (subst (λ (es : List Entry). Follows es rows
    (record { bytes = s.last; ended = several.arrival.ended }) (result_with s.adopted result)) whole.0
    s.follows) in
    record {
      arrival = several.arrival;
      read = several.read;
      at_end = several.at_end;
      cause = several.cause;
      follows = answer_alone held rows several.arrival s.adopted result there s.added;
    }
