use Rattle.std.proofs.Common.{◌⊎◌, ◌+◌, ◌≤◌, ℕ, List, length, sym, subst}
use Rattle.std.specs.Prelude.{count_by, is_some}
use Rattle.std.specs.List.{Contains}
use Rattle.std.proofs.lemmas.Result.{on_ok_weaker}
use Rattle.cj_grid.proofs.SweepLemmas.{within_bound}
use Rattle.cj_grid.proofs.sweep.append_wide.Goals as goal

pub returns-clause-found : goal.returns-clause-found
returns-clause-found g c =
    on_ok_weaker c.append_all.result
    (λ found a b up either touch. found a b up (c.in_ok-reaches.ensures.meet a b up touch (subst (λ (ws : List ℕ). Contains ws a ⊎ Contains ws b) c.requires either)) touch)
    c.append_all.ensures.found

pub returns-clause-steps : goal.returns-clause-steps
returns-clause-steps g c =
    let laid = c.in_ok-reaches.ensures in
    let rows = length c.in_ok-reaches.reaches.wide.items in
    within_bound c.args.steps.now c.append_all.new.steps rows (rows + length c.in_ok-reaches.reaches.others.items) (length c.args.wide.now) (count_by is_some c.args.objects.now.boxes.now)
    c.append_all.ensures.steps (subst (λ (ws : List ℕ). rows ≤ length ws) (sym c.requires) laid.wide_few) laid.all_few
