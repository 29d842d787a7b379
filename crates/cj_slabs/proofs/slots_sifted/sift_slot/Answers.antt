use Rattle.std.proofs.Common.{◌<◌, ◌∙◌, ℕ, List, length, map, refl, ap, sym, subst, arith}
use Rattle.std.specs.Prelude.{All}
use Rattle.std.proofs.lemmas.List.{length-map}
use Rattle.std.proofs.lemmas.Result.{err_from_is_err_and, on_ok_weaker}
use Rattle.cj_track.specs.Tracks.{plain_track}
use Rattle.cj_case.specs.declared.pair.Pair.{Pair}
use Rattle.cj_case.specs.Pairs.{objects_of, pairs_of}
use Rattle.cj_case.specs.Problems.{plain_problem}
use Rattle.cj_hermite.specs.Roots.{roots_in_slot}
use Rattle.cj_bezier.specs.Candidates.{is_candidate}
use Rattle.cj_bezier.specs.RootLeaves.{leaves_of_roots}
use Rattle.cj_candidates.proofs.ObjectLemmas.{passing_exist}
use Rattle.cj_slabs.specs.declared.slab.Slab.{Slab}
use Rattle.cj_slabs.proofs.CaseLemmas.{all_exist}
use Rattle.cj_slabs.proofs.SlabLemmas.{slot_added}
use Rattle.cj_slabs.proofs.slots_sifted.sift_slot.Goals as goal

pub returns-then-not-may_begin : goal.returns-then-not-may_begin
returns-then-not-may_begin c = record {
  cuts = refl;
  added = tt;
  within = tt;
  too_many = λ is. absurd cc;
  stopped = λ is. omega arith;
  alone = λ none is. let may = c.may_begin.ensures none in let not = c.if-not-may_begin.true in absurd cc;
}

pub returns-in_err-pairs : goal.returns-in_err-pairs
returns-in_err-pairs c =
    let p = err_from_is_err_and c.from_residual.result c.from_residual.ensures.1 in
    rw (p.1, p.2) (record { cuts = refl; added = tt; within = tt; too_many = λ is. absurd cc; stopped = λ is. absurd cc; alone = λ none is. cc })

pub sift_until_stopped-sifted-requires-clause-exist : goal.sift_until_stopped-sifted-requires-clause-exist
sift_until_stopped-sifted-requires-clause-exist c =
    let problem = c.args.problem.now in
    let case = plain_problem problem in
    let n = length case.tracks in
    let pairs = c.in_ok-pairs.pairs.items in
    let within = passing_exist (λ pair. is_candidate case pair.0 pair.1 c.args.slot) n (pairs_of n) pairs (all_exist n) c.in_ok-pairs.ensures in
    subst (λ (ps : List Pair). All (λ pair. pair.b < length problem.tracks) ps) (sym c.deref.ensures.value)
    (subst (λ (k : ℕ). All (λ (pair : Pair). pair.b < k) pairs) (length-map problem.tracks plain_track) within)

pub returns-clause-added : goal.returns-clause-added
returns-clause-added c =
    let case = plain_problem c.args.problem.now in
    let are = ap (map objects_of) c.deref.ensures.value ∙ c.in_ok-pairs.ensures in
    let mid : Slab = record c.args.slab.now { touching = c.saturating_add-slab.result } in
    on_ok_weaker c.sift_until_stopped-sifted.result
    (slot_added case c.args.slot c.deref.result.now c.args.slab.now mid c.sift_until_stopped-sifted.new.slab are refl refl (omega (arith, c.saturating_add-slab.ensures, c.len.ensures, c.in_ok-pairs.pairs.ok.0, ap length c.deref.ensures.value)))
    c.sift_until_stopped-sifted.ensures.added

pub returns-clause-too_many : goal.returns-clause-too_many
returns-clause-too_many c is =
    let case = plain_problem c.args.problem.now in
    let are = ap (map objects_of) c.deref.ensures.value ∙ c.in_ok-pairs.ensures in
    omega (arith, c.sift_until_stopped-sifted.ensures.too_many is, ap (λ (ps : List (ℕ × ℕ)). length (leaves_of_roots case (roots_in_slot case c.args.slot ps))) are)

pub returns-clause-stopped : goal.returns-clause-stopped
returns-clause-stopped c is =
    let case = plain_problem c.args.problem.now in
    let are = ap (map objects_of) c.deref.ensures.value ∙ c.in_ok-pairs.ensures in
    omega (arith, c.sift_until_stopped-sifted.ensures.stopped is, ap (λ (ps : List (ℕ × ℕ)). length (leaves_of_roots case (roots_in_slot case c.args.slot ps))) are)
