use Rattle.std.proofs.Common.{sym, subst, arith}
use Rattle.std.proofs.lemmas.List.{length-map}
use Rattle.cj_case.specs.Leaves.{plain_leaves}
use Rattle.cj_case.specs.Pairs.{objects_of}
use Rattle.cj_case.specs.Problems.{plain_problem}
use Rattle.cj_bezier.specs.Candidates.{is_candidate, is_candidate_anew}
use Rattle.cj_track.specs.Tracks.{plain_track}
use Rattle.cj_again.specs.PairLeaves.{AreByPair}
use Rattle.cj_again.proofs.CarriedLemmas.{known_anew, known_before}
use Rattle.cj_again.proofs.PairLeafLemmas.{list_ordered}
use Rattle.cj_again.proofs.carrying.known.Goals as goal

pub of_pair-requires : goal.of_pair-requires
of_pair-requires c =
    let sources = c.args.sources.now in
    let old = plain_problem sources.matching.now.old.now in
    subst AreByPair (sym sources.in_old) (list_ordered (is_candidate old) old)

pub of_pair-requires-in-None : goal.of_pair-requires-in-None
of_pair-requires-in-None c =
    let sources = c.args.sources.now in
    let old = plain_problem sources.matching.now.old.now in
    let new = plain_problem sources.matching.now.new.now in
    subst AreByPair (sym sources.in_anew) (list_ordered (is_candidate_anew old new) new)

pub returns-in-Some : goal.returns-in-Some
returns-in-Some c =
    let sources = c.args.sources.now in
    known_before (plain_problem sources.matching.now.old.now) (plain_problem sources.matching.now.new.now) (objects_of c.in-Some.before) (objects_of c.args.pair) _ (plain_leaves sources.old.now)
    (record { first = sources.first; last = sources.last; threshold = sources.threshold }) c.in-Some.ensures.is sources.in_old c.of_pair.ensures

pub returns-in-None : goal.returns-in-None
returns-in-None c =
    let sources = c.args.sources.now in
    let problem = sources.matching.now.new.now in
    known_anew (plain_problem sources.matching.now.old.now) (plain_problem problem) c.args.pair.a c.args.pair.b _ (plain_leaves sources.anew.now) c.args.pair.ordered
    (omega (arith, length-map problem.tracks plain_track, c.requires)) (sym c.in-None.ensures.found) sources.in_anew c.of_pair-in-None.ensures
