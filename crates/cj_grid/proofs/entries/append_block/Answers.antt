use Rattle.std.proofs.Common.{◌≡◌, ◌+◌, ◌-◌, ◌++◌, ℕ, ap, arith, ◌∙◌}
use Rattle.std.specs.List.{flat_map, range_with_len}
use Rattle.cj_grid.specs.Buckets.{in_layer, numbers_in}
use Rattle.cj_grid.proofs.EntryLemmas.{none_joined, one_joined}
use Rattle.cj_grid.proofs.entries.append_block.Goals as goal

pub loop-x-init : goal.loop-x-init
loop-x-init c =
    let b = c.args.block.now in
    record { most = omega arith; entered = none_joined (λ x. in_layer c.args.object x (numbers_in b.y) (numbers_in b.z)) b.x.first c.args.entries.now.items }

pub loop-x-preserved : goal.loop-x-preserved
loop-x-preserved c =
    let i = c.loop-x.invariant in
    let b = c.args.block.now in
    record {
      most = omega arith;
      entered = one_joined (λ x. in_layer c.args.object x (numbers_in b.y) (numbers_in b.z)) b.x.first c.loop-x.x c.args.entries.now.items c.loop-x.entries.items c.append_layer.new.entries.items (omega arith) i.entered
          c.in_ok-append_layer.ensures;
    }

pub returns : goal.returns
returns c =
    let b = c.args.block.now in
    let most = c.loop-x.invariant.most in
    let end : c.loop-x.x - b.x.first ≡ b.x.last + 1 - b.x.first = omega arith in
    c.loop-x.invariant.entered ∙ ap (λ (n : ℕ). c.args.entries.now.items ++ flat_map (λ x. in_layer c.args.object x (numbers_in b.y) (numbers_in b.z)) (range_with_len b.x.first n)) end
