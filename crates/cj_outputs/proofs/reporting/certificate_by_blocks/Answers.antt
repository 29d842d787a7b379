use Rattle.std.proofs.Common.{◌∙◌, length, map, List, ℕ, ap, arith}
use Rattle.std.proofs.lemmas.List.{length-map}
use Rattle.cj_track.specs.Tracks.{plain_track}
use Rattle.cj_case.specs.Pairs.{objects_of}
use Rattle.cj_case.specs.Problems.{plain_problem}
use Rattle.cj_candidates.proofs.ObjectLemmas.{as_many_shells, kept_is}
use Rattle.cj_outputs.proofs.CertificateLemmas.{leaves_alike}
use Rattle.cj_outputs.proofs.reporting.certificate_by_blocks.Goals as goal

pub kept_pairs-requires-clause-few : goal.kept_pairs-requires-clause-few
kept_pairs-requires-clause-few c =
    let problem = c.args.problem.now in
    let few = problem.few in
    let many = as_many_shells (plain_problem c.args.problem.now) c.deref.result.now (c.deref.ensures.value ∙ c.requires.measured.shells) in
    omega (arith, few, many, length-map problem.tracks plain_track)

pub kept_pairs-requires-clause-sized : goal.kept_pairs-requires-clause-sized
kept_pairs-requires-clause-sized c =
    let problem = c.args.problem.now in
    let sized = problem.sized in
    let many = as_many_shells (plain_problem c.args.problem.now) c.deref.result.now (c.deref.ensures.value ∙ c.requires.measured.shells) in
    omega (arith, sized, many, length-map problem.tracks plain_track, ap (λ (ss : List ℕ). length ss) c.as_slice.ensures.value)

pub certificate_in_blocks-requires-clause-measured : goal.certificate_in_blocks-requires-clause-measured
certificate_in_blocks-requires-clause-measured c = c.requires.measured

pub certificate_in_blocks-requires-clause-kept : goal.certificate_in_blocks-requires-clause-kept
certificate_in_blocks-requires-clause-kept c =
    ap (map objects_of) c.deref-2.ensures.value ∙ c.in_ok-kept.ensures.value
    ∙ kept_is (plain_problem c.args.problem.now) c.deref.result.now c.as_slice.result.now (c.deref.ensures.value ∙ c.requires.measured.shells) c.as_slice.ensures.value

pub certificate_in_blocks-requires-clause-leaves : goal.certificate_in_blocks-requires-clause-leaves
certificate_in_blocks-requires-clause-leaves c = c.requires.leaves ∙ leaves_alike (plain_problem c.args.problem.now)
