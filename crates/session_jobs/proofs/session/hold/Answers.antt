use Rattle.std.proofs.Common.{◌≡◌, ℕ, ◌++◌, List, All, IsSome, Some, length, map, drop, take, sym, ap, ◌∙◌, subst, arith}
use Rattle.std.specs.List.{AllZip}
use Rattle.std.proofs.Math.Seq.{take-append_seam}
use Rattle.std.proofs.lemmas.List.Elements.{length_all_zip}
use Rattle.book_words.specs.declared.act.Entry.{Entry}
use Rattle.turn_pass.specs.History.{PassState}
use Rattle.session_jobs.specs.declared.job.Job.{Job}
use Rattle.session_jobs.specs.Jobs.{IsRun}
use Rattle.session_jobs.specs.Works.{lane_site, door_site}
use Rattle.session_jobs.proofs.RunLemmas.{all_seated, all_passes, all_many}
use Rattle.session_jobs.proofs.session.hold.Goals as goal

-- the list that a loop over a slice of it wrote back
written : {X : Type 0} (n : ℕ) (ys zs : List X) → n ≡ length ys → take n (ys ++ zs) ≡ ys
written n ys zs is = ap (λ k. take k (ys ++ zs)) is ∙ take-append_seam ys zs

pub dismiss-works-requires-clause-seated : goal.dismiss-works-requires-clause-seated
dismiss-works-requires-clause-seated g c =
    let J : Type 0 = Job g.row.L.Denot g.row.O.Denot g.row.A.Denot g.row.B.Denot in
    let jobs : List J = c.args.crew.jobs.items in
    let behind : List J = c.run_all.new.jobs in
    let R : J → J → Type 0 = IsRun g.N.Session (lane_site g.L.Cell g.L.Gate)
    (door_site g.O.Source g.O.Door) in
    let run : AllZip R jobs behind = subst (λ (js : List J). AllZip R js behind)
    c.as_mut_slice.ensures.value c.run_all.ensures.run in
    let many : c.args.crew.jobs.len ≡ length behind = omega (
      arith,
      c.as_mut_slice.ensures.len,
      ap length c.as_mut_slice.ensures.value,
      length_all_zip R jobs behind run,
    ) in
    subst (λ (js : List J). All (λ (j : J). IsSome j.seat) js)
    (sym (written c.args.crew.jobs.len behind (drop (length behind) jobs) many))
    (all_seated g.N.Session g.L.Cell g.L.Gate g.O.Source g.O.Door jobs behind run)

pub close-store-requires-clause-ends : goal.close-store-requires-clause-ends
close-store-requires-clause-ends g c =
    let J : Type 0 = Job g.row.L.Denot g.row.O.Denot g.row.A.Denot g.row.B.Denot in
    let P : Type 0 = PassState Entry in
    let jobs : List J = c.args.crew.jobs.items in
    let behind : List J = c.run_all.new.jobs in
    let R : J → J → Type 0 = IsRun g.N.Session (lane_site g.L.Cell g.L.Gate)
    (door_site g.O.Source g.O.Door) in
    let run : AllZip R jobs behind = subst (λ (js : List J). AllZip R js behind)
    c.as_mut_slice.ensures.value c.run_all.ensures.run in
    let many : c.args.crew.jobs.len ≡ length behind = omega (
      arith,
      c.as_mut_slice.ensures.len,
      ap length c.as_mut_slice.ensures.value,
      length_all_zip R jobs behind run,
    ) in
    let whole = written c.args.crew.jobs.len behind (drop (length behind) jobs) many in
    let ends : List P = c.dismiss-works.result.1.items in
    let seats : map (λ (p : P). Some p) ends ≡ map (λ (j : J). j.seat) behind =
    c.dismiss-works.ensures.ends ∙ ap (map (λ (j : J). j.seat)) whole in
    all_passes g.N.Session g.L.Cell g.L.Gate g.O.Source g.O.Door jobs behind ends run seats

pub close-store-requires-clause-all_rows : goal.close-store-requires-clause-all_rows
close-store-requires-clause-all_rows g c =
    let J : Type 0 = Job g.row.L.Denot g.row.O.Denot g.row.A.Denot g.row.B.Denot in
    let P : Type 0 = PassState Entry in
    let jobs : List J = c.args.crew.jobs.items in
    let behind : List J = c.run_all.new.jobs in
    let R : J → J → Type 0 = IsRun g.N.Session (lane_site g.L.Cell g.L.Gate)
    (door_site g.O.Source g.O.Door) in
    let run : AllZip R jobs behind = subst (λ (js : List J). AllZip R js behind)
    c.as_mut_slice.ensures.value c.run_all.ensures.run in
    let many : c.args.crew.jobs.len ≡ length behind = omega (
      arith,
      c.as_mut_slice.ensures.len,
      ap length c.as_mut_slice.ensures.value,
      length_all_zip R jobs behind run,
    ) in
    let whole = written c.args.crew.jobs.len behind (drop (length behind) jobs) many in
    let ends : List P = c.dismiss-works.result.1.items in
    let seats : map (λ (p : P). Some p) ends ≡ map (λ (j : J). j.seat) behind =
    c.dismiss-works.ensures.ends ∙ ap (map (λ (j : J). j.seat)) whole in
    let all = all_many g.N.Session g.L.Cell g.L.Gate g.O.Source g.O.Door jobs behind ends run seats in
    let r = c.requires.rows in
    omega (arith, all, r, c.as_mut_slice.ensures.len, ap length c.as_mut_slice.ensures.value)

pub close-store-requires-clause-all_faults : goal.close-store-requires-clause-all_faults
close-store-requires-clause-all_faults g c =
    let J : Type 0 = Job g.row.L.Denot g.row.O.Denot g.row.A.Denot g.row.B.Denot in
    let P : Type 0 = PassState Entry in
    let jobs : List J = c.args.crew.jobs.items in
    let behind : List J = c.run_all.new.jobs in
    let R : J → J → Type 0 = IsRun g.N.Session (lane_site g.L.Cell g.L.Gate)
    (door_site g.O.Source g.O.Door) in
    let run : AllZip R jobs behind = subst (λ (js : List J). AllZip R js behind)
    c.as_mut_slice.ensures.value c.run_all.ensures.run in
    let many : c.args.crew.jobs.len ≡ length behind = omega (
      arith,
      c.as_mut_slice.ensures.len,
      ap length c.as_mut_slice.ensures.value,
      length_all_zip R jobs behind run,
    ) in
    let whole = written c.args.crew.jobs.len behind (drop (length behind) jobs) many in
    let ends : List P = c.dismiss-works.result.1.items in
    let seats : map (λ (p : P). Some p) ends ≡ map (λ (j : J). j.seat) behind =
    c.dismiss-works.ensures.ends ∙ ap (map (λ (j : J). j.seat)) whole in
    let all = all_many g.N.Session g.L.Cell g.L.Gate g.O.Source g.O.Door jobs behind ends run seats in
    let r = c.requires.faults in
    omega (arith, all, r, c.as_mut_slice.ensures.len, ap length c.as_mut_slice.ensures.value)

pub returns : goal.returns
returns g c =
    let J : Type 0 = Job g.row.L.Denot g.row.O.Denot g.row.A.Denot g.row.B.Denot in
    let P : Type 0 = PassState Entry in
    let jobs : List J = c.args.crew.jobs.items in
    let behind : List J = c.run_all.new.jobs in
    let R : J → J → Type 0 = IsRun g.N.Session (lane_site g.L.Cell g.L.Gate)
    (door_site g.O.Source g.O.Door) in
    let run : AllZip R jobs behind = subst (λ (js : List J). AllZip R js behind)
    c.as_mut_slice.ensures.value c.run_all.ensures.run in
    let many : c.args.crew.jobs.len ≡ length behind = omega (
      arith,
      c.as_mut_slice.ensures.len,
      ap length c.as_mut_slice.ensures.value,
      length_all_zip R jobs behind run,
    ) in
    let whole = written c.args.crew.jobs.len behind (drop (length behind) jobs) many in
    let ends : List P = c.dismiss-works.result.1.items in
    let seats : map (λ (p : P). Some p) ends ≡ map (λ (j : J). j.seat) behind =
    c.dismiss-works.ensures.ends ∙ ap (map (λ (j : J). j.seat)) whole in
    let closed = c.close-store.ensures in
    record {
      ended = record {
        behind = behind;
        run = run;
        works_are = c.dismiss-works.ensures.works ∙ ap (map (λ (j : J). j.work)) whole;
        ends = ends;
        ends_are = seats;
        rows = closed.rows;
        counted = closed.counted;
        calm = closed.calm;
        told = closed.faults;
        kept = closed.kept;
        goes_on = closed.run;
      };
    }
