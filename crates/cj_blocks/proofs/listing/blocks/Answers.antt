use Rattle.std.proofs.Common.{◌≡◌, ◌∙◌, ◌+◌, ◌<◌, ◌++◌, ℕ, suc, List, filter, get_or, length, map, ap, sym, subst, arith}
use Rattle.std.specs.List.{flat_map, range_with_len}
use Rattle.cj_interval.proofs.RangeLemmas.{flat_map-range_more}
use Rattle.cj_case.specs.declared.pair.Pair.{Pair}
use Rattle.cj_case.specs.Pairs.{objects_of}
use Rattle.std.specs.Prelude.{Option}
use Rattle.cj_case.specs.Boxes.{plain_rows}
use Rattle.cj_case.specs.Tables.{Table}
use Rattle.cj_case.specs.declared.axis_box.AxisBox.{AxisBox}
use Rattle.cj_blocks.specs.Blocks.{PlainBlock, TouchAsGiven, block_count, blocks_in, is_pair_of}
use Rattle.cj_blocks.specs.BoxRows.{box_at}
use Rattle.cj_blocks.specs.Listed.{block_of, given, plain_block}
use Rattle.cj_blocks.proofs.CurrentLemmas.{not_yet}
use Rattle.cj_blocks.proofs.RunLemmas.{touch_listed}
use Rattle.cj_blocks.proofs.TreatedLemmas.{AreCurrent, all_listed, kept_exist, kept_ordered, list_at, object_listed, one_object_more, pairs_exist, treated}
use Rattle.cj_blocks.proofs.listing.blocks.Goals as goal

pub loop-object-init : goal.loop-object-init
loop-object-init c =
    let a = c.args in
    let g = given a.kept.now a.objects a.boxes.now.slots a.boxes.now.rows a.sizes.now a.thr in
    record {
      objects = ap (λ (t : Table (Option AxisBox)). length t.rows) c.in_ok-current.ensures;
      wide = ap (λ (t : Table (Option AxisBox)). t.slots) c.in_ok-current.ensures;
      current = λ other slot lt. ap (λ (t : Table (Option AxisBox)). box_at (plain_rows t.rows) other slot) c.in_ok-current.ensures ∙ sym (not_yet g 0 other slot (omega arith));
      blocks = ap (map plain_block) c.new-found.ensures.items;
    }

pub list_object-requires-clause-exist : goal.list_object-requires-clause-exist
list_object-requires-clause-exist c =
    let a = c.args in
    let n = c.loop-object.object in
    let sized = c.requires.sized in
    let same : map objects_of c.deref.result.now ≡ filter (is_pair_of n) (map objects_of a.kept.now) =
    ap (map objects_of) (c.deref.ensures.value ∙ sym (list_at c.in_ok-lists.lists.items n c.index.result.now (omega (arith, c.in_ok-lists.ensures.count)) c.index.ensures))
    ∙ c.in_ok-lists.ensures.value n (omega arith) in
    pairs_exist n (length a.sizes.now) a.kept.now c.deref.result.now same (subst (λ (m : ℕ). (k : ℕ) (d : Pair) → k < length a.kept.now → (get_or a.kept.now k d).b < m) (sym sized) c.requires.exist)

pub loop-object-preserved : goal.loop-object-preserved
loop-object-preserved c =
    let a = c.args in
    let n = c.loop-object.object in
    let i = c.loop-object.invariant in
    let g = given a.kept.now a.objects a.boxes.now.slots a.boxes.now.rows a.sizes.now a.thr in
    let pairs = c.deref.result.now in
    let current = c.loop-object.current.rows in
    let new = c.list_object.new.current.rows in
    let same : map objects_of pairs ≡ filter (is_pair_of n) (map objects_of a.kept.now) =
    ap (map objects_of) (c.deref.ensures.value ∙ sym (list_at c.in_ok-lists.lists.items n c.index.result.now (omega (arith, c.in_ok-lists.ensures.count)) c.index.ensures))
    ∙ c.in_ok-lists.ensures.value n (omega arith) in
    let next : suc n ≡ n + 1 = omega arith in
    let of_object = λ (object : ℕ). flat_map (blocks_in g object) (range_with_len 0 (block_count a.boxes.now.slots)) in
    let listed = flat_map (block_of (treated a.kept.now pairs a.objects a.boxes.now.slots a.boxes.now.rows current a.sizes.now a.thr) n) (range_with_len 0 (block_count a.boxes.now.slots)) in
    record {
      objects = c.in_ok-list_object.ensures.objects ∙ i.objects;
      wide = c.in_ok-list_object.ensures.slots ∙ i.wide;
      current = subst (λ (m : ℕ). AreCurrent g m new) next
          (one_object_more a.kept.now pairs a.objects a.boxes.now.slots a.boxes.now.rows current new a.sizes.now a.thr n same i.current c.in_ok-list_object.ensures.current);
      blocks = c.in_ok-list_object.ensures.blocks
          ∙ ap (λ (bs : List PlainBlock). bs ++ listed) i.blocks
          ∙ ap (λ (bs : List PlainBlock). flat_map of_object (range_with_len 0 n) ++ bs) (object_listed a.kept.now pairs a.objects a.boxes.now.slots a.boxes.now.rows current a.sizes.now a.thr n same i.current)
          ∙ sym (flat_map-range_more of_object 0 n n (omega arith));
    }

pub returns-clause-value : goal.returns-clause-value
returns-clause-value c =
    let a = c.args in
    let end = c.loop-object.auto in
    all_listed (given a.kept.now a.objects a.boxes.now.slots a.boxes.now.rows a.sizes.now a.thr) c.loop-object.object (map plain_block c.loop-object.found.items) (omega arith) c.loop-object.invariant.blocks

pub returns-clause-touch : goal.returns-clause-touch
returns-clause-touch c =
    let a = c.args in
    let g = given a.kept.now a.objects a.boxes.now.slots a.boxes.now.rows a.sizes.now a.thr in
    subst (λ (bs : List PlainBlock). TouchAsGiven g bs) (sym (returns-clause-value c)) (touch_listed g (kept_ordered a.kept.now) (kept_exist a.objects a.kept.now c.requires.exist))

pub list_object-requires-clause-all : goal.list_object-requires-clause-all
list_object-requires-clause-all c = c.requires.all ∙ sym c.requires.sized

pub list_object-requires-clause-same : goal.list_object-requires-clause-same
list_object-requires-clause-same c = c.loop-object.invariant.objects ∙ c.requires.all ∙ sym c.requires.sized

pub list_object-requires-clause-same_wide : goal.list_object-requires-clause-same_wide
list_object-requires-clause-same_wide c = c.loop-object.invariant.wide
