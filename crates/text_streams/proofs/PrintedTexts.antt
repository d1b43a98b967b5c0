-- Lemmas on what went out.
use Rattle.std.proofs.Common.{◌≡◌, ℕ, suc, ◌+◌, ◌<◌, List, [], ◌∷◌, ◌++◌, length, take, Result, Ok, Err, OnOk, OnErr, IfErr, inl, inr, ◌∙◌, subst, refl, sym, ap, arith, length-append}
use Rattle.std.specs.Io.KnownBytes.{Appends}
use Rattle.std.proofs.KnownBytes.{Appends-nil, Appends-trans}
use Rattle.device_facts.specs.Count.{Counted, CountsFault}
use Rattle.disk_core.specs.declared.types.Partly.{Partly}
use Rattle.text_streams.specs.Streams.{Stream, WroteAll, IsCutIn, Wrote}

-- what a write of the whole of a text did after another
pub wrote_or_cut : {T : Type 0} (before old now : Stream) (done text : List ℕ) (result : Result T Partly) → WroteAll before old done
    → OnOk result (Appends old.bytes now.bytes text) → IfErr result (λ partly. Appends old.bytes now.bytes (take partly.done text))
    → IfErr result (λ partly. partly.done < length text) → CountsFault old.faults now.faults result
    → Wrote before now done text
wrote_or_cut before old now done text (Ok x) first written partly less cause =
    inl (record { out = Appends-trans _ _ _ done text first.out written; calm = cause ∙ first.calm })
wrote_or_cut before old now done text (Err e) first written partly less cause =
    inr (record {
      part = e.done;
      less = less;
      out = Appends-trans _ _ _ done (take e.done text) first.out partly;
      failed = subst (λ (n : ℕ). Counted n now.faults 1) first.calm cause;
    })

-- nothing went out
pub wrote_nothing : (now : Stream) → WroteAll now now []
wrote_nothing now = record { out = Appends-nil now.bytes; calm = refl }

-- what a write of the whole of a text did
pub wrote_text : {T : Type 0} (old now : Stream) (written text : List ℕ) (result : Result T Partly) → written ≡ text → OnOk result (Appends old.bytes now.bytes written) → CountsFault old.faults now.faults result
    → OnOk result (WroteAll old now text)
wrote_text old now written text (Ok x) is out cause = subst (WroteAll old now) is (record { out = out; calm = cause })
wrote_text old now written text (Err e) is out cause = tt

pub cut_text : {T : Type 0} (old now : Stream) (written text : List ℕ) (result : Result T Partly) → written ≡ text → IfErr result (λ partly. Appends old.bytes now.bytes (take partly.done written))
    → IfErr result (λ partly. partly.done < length written) → CountsFault old.faults now.faults result → OnErr result (IsCutIn old now [] text)
cut_text old now written text (Ok x) is out less cause = tt
cut_text old now written text (Err e) is out less cause = subst (IsCutIn old now []) is (record { part = e.done; less = less; out = out; failed = cause })

-- the front of a list that reaches into its second part
take_behind : (first next : List ℕ) (n : ℕ) → take (length first + n) (first ++ next) ≡ first ++ take n next
take_behind [] next n = ap (λ k. take k next) (let same : 0 + n ≡ n = omega arith in same)
take_behind (x ∷ first) next n =
    ap (λ k. take k (x ∷ (first ++ next))) (let same : length (x ∷ first) + n ≡ suc (length first + n) = omega arith in same) ∙ ap (λ xs. x ∷ xs) (take_behind first next n)

-- the second of two texts was cut
pub cut_second : (before mid now : Stream) (first next : List ℕ) → WroteAll before mid first → IsCutIn mid now [] next → IsCutIn before now [] (first ++ next)
cut_second before mid now first next one cut =
    record {
      part = length first + cut.part;
      less = omega (arith, cut.less, length-append first next);
      out = subst (Appends before.bytes now.bytes) (sym (take_behind first next cut.part)) (Appends-trans _ _ _ first (take cut.part next) one.out cut.out);
      failed = subst (λ (n : ℕ). Counted n now.faults 1) one.calm cut.failed;
    }
