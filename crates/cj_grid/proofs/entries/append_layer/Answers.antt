use Rattle.std.proofs.Common.{◌≡◌, ◌+◌, ◌-◌, ◌++◌, ℕ, ap, arith, ◌∙◌}
use Rattle.std.specs.List.{flat_map, range_with_len}
use Rattle.cj_grid.specs.Buckets.{in_column, numbers_in}
use Rattle.cj_grid.proofs.EntryLemmas.{none_joined, one_joined}
use Rattle.cj_grid.proofs.entries.append_layer.Goals as goal

pub loop-y-init : goal.loop-y-init
loop-y-init c = record { most = omega arith; entered = none_joined (λ y. in_column c.args.object c.args.x y (numbers_in c.args.zs)) c.args.ys.first c.args.entries.now.items }

pub loop-y-preserved : goal.loop-y-preserved
loop-y-preserved c =
    let i = c.loop-y.invariant in
    record {
      most = omega arith;
      entered = one_joined (λ y. in_column c.args.object c.args.x y (numbers_in c.args.zs)) c.args.ys.first c.loop-y.y c.args.entries.now.items c.loop-y.entries.items c.append_column.new.entries.items (omega arith) i.entered
          c.in_ok-append_column.ensures;
    }

pub returns : goal.returns
returns c =
    let most = c.loop-y.invariant.most in
    let end : c.loop-y.y - c.args.ys.first ≡ c.args.ys.last + 1 - c.args.ys.first = omega arith in
    c.loop-y.invariant.entered ∙ ap (λ (n : ℕ). c.args.entries.now.items ++ flat_map (λ y. in_column c.args.object c.args.x y (numbers_in c.args.zs)) (range_with_len c.args.ys.first n)) end
