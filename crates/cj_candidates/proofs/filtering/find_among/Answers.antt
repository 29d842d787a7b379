use Rattle.std.proofs.Common.{ℕ, ◌<◌, Bool, length, refl, sym, ap, subst, ◌∙◌}
use Rattle.std.proofs.lemmas.Result.{err_from_is_err_and}
use Rattle.cj_case.specs.Problems.{plain_problem}
use Rattle.cj_case.specs.Slots.{slot_count}
use Rattle.cj_bezier.specs.Candidates.{boxes_in, is_candidate, shells_of}
use Rattle.cj_bezier.proofs.FarLemmas.{others_far}
use Rattle.cj_hermite.specs.Roots.{roots_of}
use Rattle.cj_cells.proofs.ListingLemmas.{error_is}
use Rattle.cj_candidates.proofs.MeasuredLemmas.{are_measured, case_shells, case_boxes, case_in_shells, case_in_boxes}
use Rattle.cj_candidates.proofs.ListedLemmas.{tested_are}
use Rattle.cj_candidates.proofs.WantedLemmas.{count_held}
use Rattle.cj_candidates.proofs.filtering.find_among.Goals as goal

pub few_kept-requires : goal.few_kept-requires
few_kept-requires g c = record { measured = are_measured c.args.problem.now c.args.measured c.requires.measured }

pub invariant_of-ground : goal.invariant_of-ground
invariant_of-ground g c =
    let case = plain_problem c.args.problem.now in
    let tracks = c.args.problem.now.tracks in
    let found = c.args.measured in
    let n = slot_count case.first case.last in
    record {
      in_shells = case_shells case tracks n found.shells.items found.boxes refl c.requires.measured;
      in_boxes = case_boxes case tracks n found.shells.items found.boxes refl refl c.requires.measured;
      in_slots = c.requires.measured.slots ∙ sym c.slot_count.ensures;
      counted = c.slot_count.ensures;
      are_pairs = tested_are (length case.tracks) c.sought_among.ensures.wanted _ c.sought_among.ensures.listed;
    }

pub count_kept_of-requires-clause-measured : goal.count_kept_of-requires-clause-measured
count_kept_of-requires-clause-measured g c _ _ = are_measured c.args.problem.now c.args.measured c.requires.measured

pub returns-in_err-few-clause-too_many : goal.returns-in_err-few-clause-too_many
returns-in_err-few-clause-too_many g c =
    let p = err_from_is_err_and c.from_residual.result c.from_residual.ensures.1 in
    rw (p.1, p.2) (λ is. absurd cc)

pub returns-in_err-kept-clause-too_many : goal.returns-in_err-kept-clause-too_many
returns-in_err-kept-clause-too_many g c =
    let p = err_from_is_err_and c.from_residual-in_err-kept.result c.from_residual-in_err-kept.ensures.1 in
    rw (p.1, p.2) (λ is. absurd cc)

pub returns-in_err-roots-clause-too_many : goal.returns-in_err-roots-clause-too_many
returns-in_err-roots-clause-too_many g c =
    let p = err_from_is_err_and c.from_residual-in_err-roots.result c.from_residual-in_err-roots.ensures.1 in
    let case = plain_problem c.args.problem.now in
    rw (p.1, p.2) (λ is. subst (λ (candidate : ℕ → ℕ → ℕ → Bool). c.args.limit < length (roots_of candidate case)) c.sought_among.ensures.candidates
    (c.in_err-roots.ensures.too_many (error_is _ _ is) c.sought_among.ensures.wanted c.sought_among.ensures.listed))

pub returns-clause-same : goal.returns-clause-same
returns-clause-same g c = refl

pub returns-clause-measured : goal.returns-clause-measured
returns-clause-measured g c = are_measured c.args.problem.now c.args.measured c.requires.measured

pub returns-clause-kept : goal.returns-clause-kept
returns-clause-kept g c = c.in_ok-kept.ensures

pub returns-clause-roots : goal.returns-clause-roots
returns-clause-roots g c =
    let case = plain_problem c.args.problem.now in
    c.in_ok-roots.ensures.roots c.sought_among.ensures.wanted c.sought_among.ensures.listed ∙ ap (λ (candidate : ℕ → ℕ → ℕ → Bool). roots_of candidate case) c.sought_among.ensures.candidates

pub returns-clause-numbered : goal.returns-clause-numbered
returns-clause-numbered g c = c.in_ok-roots.ensures.numbered

pub returns-clause-few : goal.returns-clause-few
returns-clause-few g c = c.in_ok-roots.ensures.few

pub returns-clause-touching : goal.returns-clause-touching
returns-clause-touching g c = c.in_ok-roots.ensures.touching ∙ count_held (plain_problem c.args.problem.now) _ c.sought_among.ensures

pub returns-clause-far : goal.returns-clause-far
unfolding is_candidate
returns-clause-far g c =
    let case = plain_problem c.args.problem.now in
    let tracks = c.args.problem.now.tracks in
    let found = c.args.measured in
    let n = slot_count case.first case.last in
    others_far case (shells_of case) (boxes_in case) (case_in_shells case tracks n found.shells.items found.boxes refl c.requires.measured)
    (case_in_boxes case tracks n found.shells.items found.boxes refl refl c.requires.measured)

pub returns-clause-too_many : goal.returns-clause-too_many
returns-clause-too_many g c = λ is. absurd cc
