use Rattle.std.proofs.Common.{List, map, sym, subst, ◌∙◌}
use Rattle.cj_interval.proofs.ListLemmas.{Contains-map_longer, Contains-map_push}
use Rattle.cj_case.specs.declared.pair.Pair.{Pair}
use Rattle.cj_case.specs.Pairs.{ArePairsKept, HasPair, objects_of}
use Rattle.cj_case.specs.Problems.{plain_problem}
use Rattle.cj_case.specs.Boxes.{plain_boxes}
use Rattle.cj_cert.specs.declared.cert_lines.ShellLine.{ShellLine}
use Rattle.cj_checker.specs.Sweeps.{AreCandidates}
use Rattle.cj_checker.proofs.SweepLemmas.{candidates_more}
use Rattle.cj_checker.proofs.sweep.append_candidates.Goals as goal

pub returns-clause-candidate : goal.returns-clause-candidate
returns-clause-candidate c all =
    subst (λ (ps : List Pair). AreCandidates (plain_problem c.args.problem.now) (map (λ (line : ShellLine). line.shell) c.args.shells.now) (plain_boxes c.args.boxes.now) ps) (sym c.in_ok-push.ensures.items)
    (candidates_more (plain_problem c.args.problem.now) (map (λ (line : ShellLine). line.shell) c.args.shells.now) (plain_boxes c.args.boxes.now) c.args.pairs.now.items c.args.pair (sym c.is_candidate.ensures ∙ c.if-not-is_candidate.false) all)

pub returns-clause-kept : goal.returns-clause-kept
returns-clause-kept c = subst (λ (ps : List Pair). ArePairsKept c.args.pairs.now.items ps) (sym c.in_ok-push.ensures.items) (λ a b has. Contains-map_longer objects_of c.args.pairs.now.items c.args.pair (a, b) has)

pub returns-clause-found : goal.returns-clause-found
returns-clause-found c is = subst (λ (ps : List Pair). HasPair ps c.args.pair.a c.args.pair.b) (sym c.in_ok-push.ensures.items) (Contains-map_push objects_of c.args.pairs.now.items c.args.pair)
