use Rattle.std.proofs.Common.{◌≡◌, ◌+◌, ◌-◌, ◌++◌, ℕ, map, ap, arith, ◌∙◌, [], ◌∷◌}
use Rattle.std.specs.List.{range_with_len}
use Rattle.cj_grid.specs.Buckets.{bucket_number}
use Rattle.cj_grid.proofs.BucketLemmas.{entry}
use Rattle.cj_grid.proofs.EntryLemmas.{none_mapped, one_mapped}
use Rattle.cj_grid.proofs.entries.append_column.Goals as goal

pub loop-z-init : goal.loop-z-init
loop-z-init c = record { most = omega arith; entered = none_mapped (λ z. entry (bucket_number c.args.x c.args.y z) c.args.object) c.args.zs.first c.args.entries.now.items }

pub loop-z-preserved : goal.loop-z-preserved
loop-z-preserved c =
    let i = c.loop-z.invariant in
    record {
      most = omega arith;
      entered = one_mapped (λ z. entry (bucket_number c.args.x c.args.y z) c.args.object) c.args.zs.first c.loop-z.z c.args.entries.now.items c.loop-z.entries.items c.push.new.self.items (omega arith) i.entered
          (c.in_ok-push.ensures.items ∙ ap (λ (b : ℕ). c.loop-z.entries.items ++ entry b c.args.object ∷ []) c.number_of.ensures);
    }

pub returns : goal.returns
returns c =
    let most = c.loop-z.invariant.most in
    let end : c.loop-z.z - c.args.zs.first ≡ c.args.zs.last + 1 - c.args.zs.first = omega arith in
    c.loop-z.invariant.entered ∙ ap (λ (n : ℕ). c.args.entries.now.items ++ map (λ z. entry (bucket_number c.args.x c.args.y z) c.args.object) (range_with_len c.args.zs.first n)) end
