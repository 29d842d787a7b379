use Rattle.std.proofs.Common.{◌≡◌, ℕ, Vec, Global, filter, length, ap, sym, arith, ◌∙◌}
use Rattle.std.specs.List.{range_with_len}
use Rattle.cj_grid.specs.Among.{block_among}
use Rattle.cj_grid.specs.Sweeps.{is_narrow_one, narrow_among}
use Rattle.cj_grid.proofs.EntryLemmas.{one_passes, one_fails}
use Rattle.cj_grid.proofs.entries.narrow_objects.Goals as goal
use Rattle.cj_grid.proofs.entries.narrow_objects.Goals.{then-has_narrow_box+in_ok-push, else-has_narrow_box}

pub loop-object-preserved : goal.loop-object-preserved
loop-object-preserved c =
    let p = λ (k : ℕ). is_narrow_one (block_among c.args.objects.now k) in
    let k = c.loop-object.object in
    let is : c.has_narrow_box.result ≡ p k = c.has_narrow_box.ensures ∙ ap is_narrow_one c.block_of_object.ensures in
    elim c.if-has_narrow_box.branch [
      | then-has_narrow_box+in_ok-push w ↦
          one_passes p k c.loop-object.narrow.items _ (sym is ∙ w.if-has_narrow_box.true) c.loop-object.invariant (ap (λ (v : Vec ℕ Global). v.items) w.narrow-is ∙ w.in_ok-push.ensures.items)
      | else-has_narrow_box w ↦
          ap (λ (v : Vec ℕ Global). v.items) w.narrow-is ∙ one_fails p k c.loop-object.narrow.items (sym is ∙ w.if-has_narrow_box.false) c.loop-object.invariant
    ]

pub returns : goal.returns
unfolding narrow_among
returns c =
    let end : c.loop-object.object ≡ length c.args.objects.now.boxes.now = omega arith in
    c.loop-object.invariant ∙ ap (λ (n : ℕ). filter (λ k. is_narrow_one (block_among c.args.objects.now k)) (range_with_len 0 n)) end
