use Rattle.std.proofs.Common.{◌≡◌, ◌∙◌, ℕ, List, length, map, filter, ap, sym, arith}
use Rattle.std.specs.Prelude.{Option}
use Rattle.std.proofs.lemmas.List.{length-map}
use Rattle.std.proofs.lemmas.List.FromFn.{length-range_with_len}
use Rattle.cj_track.specs.Tracks.{plain_track}
use Rattle.cj_case.specs.declared.pair.Pair.{Pair}
use Rattle.cj_case.specs.Pairs.{objects_of, pairs_of}
use Rattle.cj_case.specs.PlainProblems.{PlainProblem}
use Rattle.cj_case.specs.Problems.{plain_problem}
use Rattle.cj_case.specs.declared.shells.Shell.{Shell}
use Rattle.cj_bezier.specs.Shells.{keeps_between}
use Rattle.cj_cert.specs.Accepted.{AreShells}
use Rattle.cj_cert.specs.Certificates.{PlainCertificate, plain_certificate}
use Rattle.cj_cert.specs.Listed.{shells_listed}
use Rattle.cj_blocks.specs.Rewritten.{pairs_by_shells}
use Rattle.cj_outputs.proofs.rewriting.by_blocks.Goals as goal

-- a certificate that is accepted lists one shell for each object
one_each : (case : PlainProblem) (c : PlainCertificate) (shells : List (Option Shell)) → AreShells case c.shells → shells ≡ shells_listed c → length shells ≡ length case.tracks
one_each case c shells are listed =
    ap (λ (ss : List (Option Shell)). length ss) listed ∙ length-map c.shells (λ line. line.shell) ∙ sym (length-map c.shells (λ line. line.object))
    ∙ ap (λ (ks : List ℕ). length ks) are.objects ∙ length-range_with_len 0 (length case.tracks)

-- the pairs that the listed shells keep
pairs_listed : (case : PlainProblem) (c : PlainCertificate) (sizes : List ℕ) (shells : List (Option Shell)) (kept : List Pair) → sizes ≡ case.sizes → shells ≡ shells_listed c
    → length shells ≡ length case.tracks → map objects_of kept ≡ filter (keeps_between case.primaries case.threshold sizes shells) (pairs_of (length shells)) → map objects_of kept ≡ pairs_by_shells case c
pairs_listed case c sizes shells kept sized listed many value =
    value
    ∙ ap (λ (n : ℕ). filter (keeps_between case.primaries case.threshold sizes shells) (pairs_of n)) many
    ∙ ap (λ (ss : List ℕ). filter (keeps_between case.primaries case.threshold ss shells) (pairs_of (length case.tracks))) sized
    ∙ ap (λ (ss : List (Option Shell)). filter (keeps_between case.primaries case.threshold case.sizes ss) (pairs_of (length case.tracks))) listed

pub kept_pairs-requires-clause-few : goal.kept_pairs-requires-clause-few
kept_pairs-requires-clause-few c =
    let problem = c.args.problem.now in
    let few = problem.few in
    let many = one_each (plain_problem problem) (plain_certificate c.args.certificate) c.deref.result.now c.requires.shells (c.deref.ensures.value ∙ c.in_ok-shells.ensures) in
    omega (arith, few, many, length-map problem.tracks plain_track)

pub kept_pairs-requires-clause-sized : goal.kept_pairs-requires-clause-sized
kept_pairs-requires-clause-sized c =
    let problem = c.args.problem.now in
    let sized = problem.sized in
    let many = one_each (plain_problem problem) (plain_certificate c.args.certificate) c.deref.result.now c.requires.shells (c.deref.ensures.value ∙ c.in_ok-shells.ensures) in
    omega (arith, sized, many, length-map problem.tracks plain_track, ap (λ (ss : List ℕ). length ss) c.as_slice.ensures.value)

pub in_version_2-requires : goal.in_version_2-requires
in_version_2-requires c =
    let case = plain_problem c.args.problem.now in
    let cert = plain_certificate c.args.certificate in
    let listed = c.deref.ensures.value ∙ c.in_ok-shells.ensures in
    record {
      kept = ap (map objects_of) c.deref-2.ensures.value
          ∙ pairs_listed case cert c.as_slice.result.now c.deref.result.now c.in_ok-kept.kept.items c.as_slice.ensures.value listed
          (one_each case cert c.deref.result.now c.requires.shells listed) c.in_ok-kept.ensures.value;
    }
