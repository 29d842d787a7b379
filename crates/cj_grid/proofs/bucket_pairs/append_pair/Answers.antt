use Rattle.std.proofs.Common.{◌≡◌, ℕ, Result, Ok, Err, true, map, sym, subst}
use Rattle.std.specs.Prelude.{OnOk}
use Rattle.std.specs.List.{Contains}
use Rattle.std.specs.declared.alloc.AllocError.{AllocError}
use Rattle.cj_case.specs.Pairs.{objects_of}
use Rattle.cj_grid.specs.Among.{touch_among}
use Rattle.cj_grid.proofs.bucket_pairs.append_pair.Goals as goal

-- ---- two objects that are one

pub returns-in-None-clause-touching : goal.returns-in-None-clause-touching
returns-in-None-clause-touching g c = λ all. all

pub returns-in-None-clause-kept : goal.returns-in-None-clause-kept
returns-in-None-clause-kept g c = λ a b has. has

pub returns-in-None-clause-found : goal.returns-in-None-clause-found
returns-in-None-clause-found g c a b up both touch = let none = c.in-None.ensures.value a b up both in absurd cc

-- ---- a pair

pub returns-in-Some-clause-touching : goal.returns-in-Some-clause-touching
returns-in-Some-clause-touching g c = c.append_touching.ensures.touching

pub returns-in-Some-clause-kept : goal.returns-in-Some-clause-kept
returns-in-Some-clause-kept g c = c.append_touching.ensures.kept

on_ok : {P Q : Type 0} (r : Result (Unit {0}) AllocError) → (P → Q) → OnOk r P → OnOk r Q
on_ok (Ok done) f p = f p
on_ok (Err e) f p = tt

pub returns-in-Some-clause-found : goal.returns-in-Some-clause-found
returns-in-Some-clause-found g c =
    let pair = c.in-Some.pair in
    on_ok c.append_touching.result
    (λ found a b up both touch.
    let some = c.in-Some.ensures.value a b up both in
    let is : objects_of pair ≡ (a, b) = cc in
    subst (λ (q : ℕ × ℕ). Contains (map objects_of c.append_touching.new.pairs.items) q) is
    (found (subst (λ (q : ℕ × ℕ). touch_among c.args.objects.now q ≡ true) (sym is) touch)))
    c.append_touching.ensures.found

pub returns-in-Some-clause-no_fewer : goal.returns-in-Some-clause-no_fewer
returns-in-Some-clause-no_fewer g c = c.append_touching.ensures.no_fewer

pub returns-in-Some-clause-one : goal.returns-in-Some-clause-one
returns-in-Some-clause-one g c = c.append_touching.ensures.one
