use Rattle.std.proofs.Common.{◌≡◌, ℕ, map, length, sym, ap, ◌∙◌, arith}
use Rattle.std.specs.List.{range_with_len}
use Rattle.std.proofs.lemmas.List.{length-map}
use Rattle.std.specs.Prelude.{option_map}
use Rattle.cj_case.specs.Problems.{plain_problem}
use Rattle.cj_case.specs.Boxes.{plain_box, plain_boxes}
use Rattle.cj_cert.specs.declared.cert_lines.ShellLine.{ShellLine}
use Rattle.cj_cert.specs.Certificates.{plain_certificate}
use Rattle.cj_cert.specs.Listed.{is_candidate_listed}
use Rattle.cj_checker.specs.ListedBoxes.{table_of}
use Rattle.cj_checker.specs.Keys.{candidate_with}
use Rattle.cj_checker.proofs.RoundLemmas.{filled_length, candidates_listed}
use Rattle.cj_checker.proofs.SweepLemmas.{boxed, boxed_exists}
use Rattle.cj_checker.proofs.rounds.Work.find_pairs.Goals as goal
use Rattle.cj_checker.proofs.rounds.Work.find_pairs.Goals.{After-find}

pub find-requires-clause-boxes : goal.find-requires-clause-boxes
find-requires-clause-boxes c =
    ap length c.deref-2.ensures.value ∙ filled_length (table_of c.args.listed.now c.args.slot) _ c.fill.new.boxes.items c.in_ok-fill.ensures ∙ ap length c.as_slice.ensures.value

count : (c : After-find) → length c.deref-2.result.now ≡ length c.args.problem.now.tracks
count c = ap length c.deref-2.ensures.value ∙ filled_length (table_of c.args.listed.now c.args.slot) _ c.fill.new.boxes.items c.in_ok-fill.ensures ∙ ap length c.as_slice.ensures.value

-- the candidates of the sweep are those by what is listed
same : (c : After-find) (a b : ℕ) → candidate_with (plain_problem c.args.problem.now) (map (λ (line : ShellLine). line.shell) c.deref.result.now) (plain_boxes c.deref-2.result.now) (a, b)
    ≡ is_candidate_listed (plain_problem c.args.problem.now) (plain_certificate c.args.cert.now) a b c.args.slot
same c a b =
    let objects : length c.as_slice.result.now ≡ c.args.cert.now.objects = ap length c.as_slice.ensures.value ∙ sym c.requires.objects in
    candidates_listed (plain_problem c.args.problem.now) (plain_certificate c.args.cert.now) c.deref.result.now (plain_boxes c.deref-2.result.now) c.args.slot c.deref.ensures.value
    (ap plain_boxes c.deref-2.ensures.value ∙ c.in_ok-fill.ensures ∙ (λ i. map (c.requires.boxes i c.args.slot) (range_with_len 0 (objects i)))) a b

pub returns-clause-exist : goal.returns-clause-exist
returns-clause-exist c =
    let find = (goal.at.returns-clause-exist c).After-find in
    λ k d lt.
    let case = plain_problem c.args.problem.now in
    let areas = plain_boxes c.deref-2.result.now in
    let boxes = boxed case (map (λ (line : ShellLine). line.shell) c.deref.result.now) areas _ _ (c.in_ok-find.ensures.candidate k d lt) in
    let there = boxed_exists areas _ boxes.second boxes.second_is in
    let n = length-map c.deref-2.result.now (option_map plain_box) in
    omega (arith, there, n, count find)

pub returns-clause-candidate : goal.returns-clause-candidate
returns-clause-candidate c =
    let find = (goal.at.returns-clause-candidate c).After-find in
    λ k d lt. sym (same find _ _) ∙ c.in_ok-find.ensures.candidate k d lt

pub returns-clause-found : goal.returns-clause-found
returns-clause-found c =
    let find = (goal.at.returns-clause-found c).After-find in
    λ a b low high up is. c.in_ok-find.ensures.found a b low high up (same find a b ∙ is)
