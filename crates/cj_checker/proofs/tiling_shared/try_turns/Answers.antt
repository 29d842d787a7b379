use Rattle.std.proofs.Common.{◌∙◌, arith, sym}
use Rattle.cj_checker.proofs.tiling_shared.try_turns.Goals as goal

pub returns : goal.returns
returns g c =
    let done = c.in_ok-tries.ensures in
    let many = sym c.in_ok-tries.tries.ok.0 ∙ done.len in
    let turns = c.turns.ensures in
    record {
      inside = λ number lt. turns.inside number (omega (arith, lt, many));
      all = omega (arith, turns.all, many);
      each = λ number d lt. (done.each number d (omega (arith, lt, many))).1.met;
    }
