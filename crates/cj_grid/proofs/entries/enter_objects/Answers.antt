use Rattle.std.proofs.Common.{◌≡◌, ◌++◌, ℕ, length, ap, arith, ◌∙◌, Option}
use Rattle.std.specs.List.{flat_map, range_with_len}
use Rattle.cj_grid.specs.Among.{block_among}
use Rattle.cj_grid.specs.Buckets.{PlainBlock, entered_by, entries_of}
use Rattle.cj_grid.proofs.EntryLemmas.{one_more}
use Rattle.cj_grid.proofs.entries.enter_objects.Goals as goal

pub loop-object-preserved : goal.loop-object-preserved
loop-object-preserved c =
    one_more (λ k. entered_by k (block_among c.args.objects.now k)) c.loop-object.object c.loop-object.entries.items c.append_object.new.entries.items c.loop-object.invariant
    (c.in_ok-append_object.ensures ∙ ap (λ (b : Option PlainBlock). c.loop-object.entries.items ++ entered_by c.loop-object.object b) c.block_of_object-block.ensures)

pub returns : goal.returns
unfolding entries_of
returns c =
    let end : c.loop-object.object ≡ length c.args.objects.now.boxes.now = omega arith in
    c.loop-object.invariant ∙ ap (λ (n : ℕ). flat_map (λ k. entered_by k (block_among c.args.objects.now k)) (range_with_len 0 n)) end
