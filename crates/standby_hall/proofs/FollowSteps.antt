-- What the head of a shipment, its rows and its end make of a store.
use Rattle.std.proofs.Common.{◌≡◌, ◌≢◌, inl, inr, ⊎_elim, true, false, ℕ, ◌+◌, ◌<◌, ◌≤◌, List, [], ◌∷◌, ◌++◌, length, take, drop, Option, Some, None, Result, Ok, Err, refl, sym, ap, ◌∙◌, subst, arith, append_assoc, append-nil, length-append}
use Rattle.std.specs.Io.KnownBytes.{Consumes, IsAtEnd}
use Rattle.std.proofs.KnownBytes.{Consumes-trans}
use Rattle.std.proofs.lemmas.List.{take-append-drop, take_at, nil_from_length}
use Rattle.device_facts.specs.Prefix.{IsPrefixOf}
use Rattle.disk_core.specs.declared.disk.Disk as disk
use Rattle.book_words.specs.declared.act.Entry.{Entry}
use Rattle.book_store.specs.declared.store.Store.{Store}
use Rattle.book_store.specs.Stores.{disk_of}
use Rattle.text_streams.specs.Streams.{Stream, IsCalm, HasFailed}
use Rattle.store_runs.specs.declared.stop.Stop.{Stop}
use Rattle.store_runs.specs.declared.stop.Stop.TheVariants as run
use Rattle.store_runs.specs.Runs.{CountsStop, SparesDisk, Goes}
use Rattle.store_runs.proofs.StoreSteps.{stays}
use Rattle.standby_hall.specs.declared.types.ShipHead.{ShipHead}
use Rattle.standby_hall.specs.declared.types.FollowStop.{FollowStop}
use Rattle.standby_hall.specs.declared.types.FollowStop.TheVariants.{ReadFault, Head, Gap, Row, Extra, DiskFault, NoMemory}
use Rattle.standby_hall.specs.declared.head.TheConstants.{HEAD_BYTES}
use Rattle.standby_hall.specs.Shipments.{head_bytes, IsHead, shipped}
use Rattle.standby_hall.specs.Following.{LacksHead, ExplainsFollow, shipment_stop}
use Rattle.standby_hall.specs.Rows.{TakesUpTo, FailsWithin, HasReadHead, HasReadRows, HasReadAll, FindsHead, ComesToNoHead, StopsInHead, IsBeforeEnd}

-- ---- the head

-- the input failed within it
head_fails : (held : List Entry) (before now : Stream) → FailsWithin before now HEAD_BYTES
    → ExplainsFollow held before now held (Err ReadFault)
head_fails held before now fails = record {
  arrival = record { bytes = fails.taken; ended = false };
  read = fails.read;
  at_end = λ never. absurd cc;
  cause = fails.failed;
  follows = inl (fails.less, refl);
}

-- fewer bytes than a head came
short_never : (bytes more : List ℕ) (head : ShipHead) → length bytes < HEAD_BYTES
    → bytes ≡ head_bytes head ++ more → ⊥
short_never bytes more head short is =
    absurd (omega (arith, short, ap length is, length-append (head_bytes head) more))

cut_lacks : (bytes : List ℕ) → length bytes < HEAD_BYTES
    → LacksHead (record { bytes = bytes; ended = true })
cut_lacks bytes short = record {
  none = λ head good begins. short_never bytes begins.0 head short begins.1;
  seen = inr refl;
}

-- then the input ended
cut_end : (before now : Stream) (bytes : List ℕ) → TakesUpTo before now HEAD_BYTES bytes
    → length bytes < HEAD_BYTES → IsAtEnd now.bytes
cut_end before now bytes takes short =
    ⊎_elim (λ long. absurd (omega (arith, long, short))) (λ cut. cut.1) takes.all

pub head_cut : (before now : Stream) (bytes : List ℕ) → TakesUpTo before now HEAD_BYTES bytes
    → length bytes < HEAD_BYTES → 0 < length bytes → ComesToNoHead before now
head_cut before now bytes takes short some = record {
  arrival = record { bytes = bytes; ended = true };
  some = λ none. absurd (omega (arith, some, ap length none));
  read = takes.read;
  at_end = λ is. cut_end before now bytes takes short;
  calm = takes.calm;
  lacks = cut_lacks bytes short;
}

-- as many came, and are none
pub head_none : (before now : Stream) (bytes : List ℕ) → Consumes before.bytes now.bytes bytes
    → IsCalm before now → length bytes ≡ HEAD_BYTES
    → ((head : ShipHead) → IsHead head → ¬ (bytes ≡ head_bytes head)) → ComesToNoHead before now
head_none before now bytes read calm long none = record {
  arrival = record { bytes = bytes; ended = false };
  some = λ empty. absurd (omega (arith, long, ap length empty));
  read = read;
  at_end = λ never. absurd cc;
  calm = calm;
  lacks = record {
    none = λ head good begins. none head good
        (sym (take_at bytes [] HEAD_BYTES long)
        ∙ ap (λ (l : List ℕ). take HEAD_BYTES l) (append-nil bytes ∙ begins.1)
        ∙ take_at (head_bytes head) begins.0 HEAD_BYTES refl);
    seen = inl (omega (arith, long));
  };
}

-- no byte of the first one came
pub head_lacks : (held : List Entry) (before now : Stream) (found : Option ShipHead) → found ≡ None
    → FindsHead before now found → ExplainsFollow held before now held (Err Head)
head_lacks held before now (Some head) is finds = absurd cc
head_lacks held before now None is takes = record {
  arrival = record { bytes = []; ended = true };
  read = takes.read;
  at_end = λ is. cut_end before now [] takes (omega arith);
  cause = takes.calm;
  follows = (cut_lacks [] (omega arith), refl);
}

-- where none was found, nothing came
pub nothing_found : (before now : Stream) (found : Option ShipHead) → found ≡ None
    → FindsHead before now found → TakesUpTo before now HEAD_BYTES []
nothing_found before now (Some head) is finds = absurd cc
nothing_found before now None is takes = takes

pub head_stops : (held : List Entry) (before now : Stream) (stop : FollowStop)
    → StopsInHead before now stop → ExplainsFollow held before now held (Err stop)
head_stops held before now ReadFault fails = head_fails held before now fails
head_stops held before now Head comes = record {
  arrival = comes.arrival;
  read = comes.read;
  at_end = comes.at_end;
  cause = comes.calm;
  follows = (comes.lacks, refl);
}
head_stops held before now (Gap row) never = absurd never
head_stops held before now (Row row) never = absurd never
head_stops held before now (Extra all) never = absurd never
head_stops held before now (DiskFault entry) never = absurd never
head_stops held before now NoMemory never = absurd never

pub head_inside : (before now : Stream) (stop : FollowStop) → StopsInHead before now stop
    → IsBeforeEnd stop
head_inside before now (Extra all) never = absurd never
head_inside before now ReadFault stops = tt
head_inside before now Head stops = tt
head_inside before now (Gap row) stops = tt
head_inside before now (Row row) stops = tt
head_inside before now (DiskFault entry) stops = tt
head_inside before now NoMemory stops = tt

pub head_spares : (before now : Stream) (stop : FollowStop) → StopsInHead before now stop
    → SparesDisk (shipment_stop stop)
head_spares before now (DiskFault entry) never = absurd never
head_spares before now ReadFault stops = tt
head_spares before now Head stops = tt
head_spares before now (Gap row) stops = tt
head_spares before now (Row row) stops = tt
head_spares before now (Extra all) stops = tt
head_spares before now NoMemory stops = tt

-- rows before those that come are lacking
pub at_gap : (held : List Entry) (before now : Stream) (head : ShipHead) → IsHead head
    → HasReadHead before now head → length held < head.passed
    → ExplainsFollow held before now held (Err (Gap (length held + 1)))
at_gap held before now head good read few = record {
  arrival = record { bytes = head_bytes head; ended = false };
  read = read.read;
  at_end = λ never. absurd cc;
  cause = read.calm;
  follows = (record { head = head; good = good; parts = refl; few = few; next = refl }, refl);
}

-- ---- the rows

-- none was read yet
pub rows_begin : (start now : Stream) (held : List Entry) (head : ShipHead) → IsHead head
    → head.passed ≤ length held → HasReadHead start now head
    → HasReadRows start now held held head head.passed
rows_begin start now held head good enough read = record {
  entries = [];
  read = subst (Consumes start.bytes now.bytes) (sym (append-nil (head_bytes head))) read.read;
  calm = read.calm;
  followed = record {
    good = good;
    enough = enough;
    inside = omega (arith, good.inside);
    can = tt;
    longer = inl (
      (
        drop head.passed held,
        sym (take-append-drop head.passed held)
            ∙ ap (λ (es : List Entry). es ++ drop head.passed held)
            (sym (append-nil (take head.passed held))),
      ),
      refl,
    );
  };
  counted = omega arith;
}

-- ---- the end

module _ (start now next : Stream) (held rows : List Entry) (head : ShipHead)
    (all : HasReadAll start now held rows head) where
  -- nothing follows
  pub at_end_of : (adopted room : ℕ) (bytes : List ℕ) → length rows ≡ length held + adopted
      → TakesUpTo now next room bytes → 0 < room → length bytes ≡ 0
      → ExplainsFollow held start next rows (Ok adopted)
  at_end_of adopted room bytes added takes some none =
      let read = subst (Consumes now.bytes next.bytes) (nil_from_length bytes none) takes.read in
      record {
        arrival = record { bytes = shipped head all.entries; ended = true };
        read = subst (Consumes start.bytes next.bytes) (append-nil (shipped head all.entries))
            (Consumes-trans start.bytes now.bytes next.bytes (shipped head all.entries) [] all.read read);
        at_end = λ is.
            ⊎_elim (λ long. absurd (omega (arith, long, none, some))) (λ cut. cut.1) takes.all;
        cause = takes.calm ∙ all.calm;
        follows = record {
          head = head;
          entries = all.entries;
          followed = all.followed;
          bytes = refl;
          all = all.counted;
          ended = refl;
          added = added;
        };
      }

  -- a byte follows
  pub at_extra : (bytes : List ℕ) → Consumes now.bytes next.bytes bytes → length bytes ≡ 1
      → IsCalm now next → ExplainsFollow held start next rows (Err (Extra head.all))
  at_extra [] read one calm = absurd (omega (arith, one))
  at_extra (byte ∷ byte' ∷ more) read one calm = absurd (omega (arith, one))
  at_extra (byte ∷ []) read one calm = record {
    arrival = record { bytes = shipped head all.entries ++ byte ∷ []; ended = false };
    read = Consumes-trans start.bytes now.bytes next.bytes (shipped head all.entries) (byte ∷ []) all.read
        read;
    at_end = λ never. absurd cc;
    cause = calm ∙ all.calm;
    follows = record {
      head = head;
      entries = all.entries;
      byte = byte;
      followed = all.followed;
      complete = all.counted;
      told = refl;
      parts = refl;
    };
  }

  -- the input failed there
  pub end_fails : FailsWithin now next 1 → ExplainsFollow held start next rows (Err ReadFault)
  end_fails fails = record {
    arrival = record { bytes = shipped head all.entries ++ fails.taken; ended = false };
    read = Consumes-trans start.bytes now.bytes next.bytes (shipped head all.entries) fails.taken all.read
        fails.read;
    at_end = λ never. absurd cc;
    cause = subst (λ n. HasFailed (record { bytes = start.bytes; faults = n }) next) all.calm fails.failed;
    follows = inr (record {
      head = head;
      entries = all.entries;
      part = fails.taken;
      followed = all.followed;
      cut = omega (arith, fails.less);
      parts = refl;
    });
  }

-- ---- the store

-- no stop of following is a good end of a run
behind_unfinished : (stop : FollowStop) → shipment_stop stop ≢ run.Finished
behind_unfinished ReadFault is = absurd cc
behind_unfinished Head is = absurd cc
behind_unfinished (Gap row) is = absurd cc
behind_unfinished (Row row) is = absurd cc
behind_unfinished (Extra all) is = absurd cc
behind_unfinished (DiskFault entry) is = absurd cc
behind_unfinished NoMemory is = absurd cc

counts_spared : (count : ℕ) (stop : Stop) → SparesDisk stop → CountsStop count count stop
counts_spared count (run.DiskFault offer) spares = absurd spares
counts_spared count run.Finished spares = refl
counts_spared count (run.BadLine row) spares = refl
counts_spared count run.ReadFault spares = refl
counts_spared count run.WriteFault spares = refl
counts_spared count run.NoMemory spares = refl
counts_spared count run.Spent spares = refl

-- a stop at which the disk wasn't asked leaves the store
pub stays_behind : {D T : Type 0} (g : disk.Ghosts D) (stop : FollowStop) (store : Store D)
    → SparesDisk (shipment_stop stop) → Goes {T = T} g (Err (shipment_stop stop)) store store
stays_behind g stop store spares =
    stays g (Err (shipment_stop stop)) store
    (counts_spared (g.faults (disk_of store)) (shipment_stop stop) spares)
    (λ is. absurd (behind_unfinished stop
    (let same : shipment_stop stop ≡ run.Finished = cc is in same)))
