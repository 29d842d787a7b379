use Rattle.std.proofs.Common.{◌≡◌, ℕ, ◌<◌, map, length, sym, ap, ◌∙◌, arith}
use Rattle.std.specs.Prelude.{All, option_map}
use Rattle.std.proofs.lemmas.List.{length-map}
use Rattle.cj_track.specs.Tracks.{plain_track}
use Rattle.cj_case.specs.Problems.{plain_problem}
use Rattle.cj_case.specs.Boxes.{plain_box, plain_boxes}
use Rattle.cj_bezier.specs.Candidates.{boxes_in}
use Rattle.cj_cert.specs.declared.cert_lines.ShellLine.{ShellLine}
use Rattle.cj_brief.specs.Accepted.{is_candidate_in_brief}
use Rattle.cj_brief.specs.Certificates.{plain_brief}
use Rattle.cj_checker.specs.Keys.{candidate_with}
use Rattle.cj_checker.specs.Sweeps.{AreCandidatesBy}
use Rattle.cj_checker.proofs.SweepLemmas.{boxed, boxed_exists}
use Rattle.cj_brief_checker.proofs.PairLemmas.{found_pairs, kept_exist}
use Rattle.cj_brief_checker.proofs.SlotLemmas.{boxes_count, boxes_there, candidates_are}
use Rattle.cj_brief_checker.proofs.slot_pairs.SlotPairs.find.Goals.{After-find}
use Rattle.cj_brief_checker.proofs.slot_pairs.SlotPairs.find.Goals as goal

pub in_slot-requires : goal.in_slot-requires
in_slot-requires c = omega (arith, c.requires.boxes.slots, c.requires.exists)

-- the boxes of the slot
here : (c : After-find) → plain_boxes c.deref-2.result.now ≡ boxes_in (plain_problem c.args.problem.now) c.args.slot
here c =
    let case = plain_problem c.args.problem.now in
    ap plain_boxes c.deref-2.ensures.value
    ∙ boxes_there case c.args.slot c.args.boxes.now.rows c.in_slot.new.here.items c.requires.exists c.requires.boxes.rows c.in_ok-in_slot.ensures

pub find-requires-clause-boxes : goal.find-requires-clause-boxes
find-requires-clause-boxes c =
    let case = plain_problem c.args.problem.now in
    ap length c.deref-2.ensures.value
    ∙ boxes_count case c.args.slot c.in_slot.new.here.items
    (boxes_there case c.args.slot c.args.boxes.now.rows c.in_slot.new.here.items c.requires.exists c.requires.boxes.rows c.in_ok-in_slot.ensures)
    ∙ length-map c.args.problem.now.tracks plain_track

-- the candidates of the sweep are those of the certificate
same : (c : After-find) (a b : ℕ) → candidate_with (plain_problem c.args.problem.now) (map (λ (line : ShellLine). line.shell) c.deref.result.now) (plain_boxes c.deref-2.result.now) (a, b)
    ≡ is_candidate_in_brief (plain_problem c.args.problem.now) (plain_brief c.args.cert.now) a b c.args.slot
same c a b =
    candidates_are (plain_problem c.args.problem.now) (plain_brief c.args.cert.now) c.deref.result.now (plain_boxes c.deref-2.result.now) c.args.slot c.deref.ensures.value (here c) a b

exist : (c : After-find) → AreCandidatesBy c.args.problem.now c.deref.result.now c.deref-2.result.now c.find.new.pairs.items
    → All (λ pair. pair.b < length c.args.problem.now.tracks) c.find.new.pairs.items
exist c are k d lt =
    let case = plain_problem c.args.problem.now in
    let areas = plain_boxes c.deref-2.result.now in
    let boxes = boxed case (map (λ (line : ShellLine). line.shell) c.deref.result.now) areas _ _ (are k d lt) in
    let there = boxed_exists areas _ boxes.second boxes.second_is in
    let n = length-map c.deref-2.result.now (option_map plain_box) in
    let count = boxes_count case c.args.slot c.deref-2.result.now (here c) in
    let all = length-map c.args.problem.now.tracks plain_track in
    omega (arith, there, n, count, all)

pub returns-clause-exist : goal.returns-clause-exist
returns-clause-exist c =
    kept_exist (length c.args.problem.now.tracks) c.find.new.pairs.items c.put_in_order.new.pairs.items (exist (goal.at.returns-clause-exist c).After-find c.in_ok-find.ensures.candidate) c.put_in_order.ensures.from

pub returns-clause-value : goal.returns-clause-value
returns-clause-value c =
    let find = (goal.at.returns-clause-value c).After-find in
    let case = plain_problem c.args.problem.now in
    let brief = plain_brief c.args.cert.now in
    let all = length-map c.args.problem.now.tracks plain_track in
    found_pairs (length case.tracks) (λ pair. is_candidate_in_brief case brief pair.0 pair.1 c.args.slot) c.find.new.pairs.items c.put_in_order.new.pairs.items
    (λ k d lt. let there = exist find c.in_ok-find.ensures.candidate k d lt in omega (arith, there, all))
    (λ k d lt. sym (same find _ _) ∙ c.in_ok-find.ensures.candidate k d lt)
    (λ a b up there is. c.in_ok-find.ensures.found a b (omega arith) (omega (arith, up, there, all, ap length c.as_slice.ensures.value)) up (same find a b ∙ is))
    c.put_in_order.ensures.order c.put_in_order.ensures.from c.put_in_order.ensures.kept
