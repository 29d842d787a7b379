use Rattle.std.proofs.Common.{◌≡◌, ℕ, ◌+◌, [], ◌∷◌, ◌++◌, ◌≤◌, length, take, sym, ap, ◌∙◌, subst, arith, length-append}
use Rattle.std.proofs.lemmas.List.{take_all, with_items_is}
use Rattle.cj_pool.specs.Stations.{AreStations, weigh_given, weigh_all_taken}
use Rattle.cj_pool.specs.Weights.{weigh}
use Rattle.cj_pool.proofs.PartLemmas.{gathered, given_of}
use Rattle.cj_pool.proofs.RefineLemmas.{kept_twice}
use Rattle.cj_pool.proofs.WeightLemmas.{weigh_snoc}
use Rattle.cj_pool.proofs.joining.gather.Goals as goal

pub loop-last-init : goal.loop-last-init
loop-last-init g c = record {
  stations = c.requires.stations;
  few = c.requires.few;
  kept = take_all (length c.args.cells.now.items) c.args.cells.now.items (omega arith);
  tree = c.requires.tree;
  left = λ w. omega arith;
}

pub part_with-requires-clause-stations : goal.part_with-requires-clause-stations
part_with-requires-clause-stations g c =
    let items = c.in-Some.ensures.items ∙ ap (λ xs. xs ++ c.in-Some.last ∷ []) (sym c.deref_mut.ensures.value) in
    subst (AreStations g.K.Run.workers) items c.loop-last.invariant.stations

pub loop-last-preserved : goal.loop-last-preserved
loop-last-preserved g c =
    let i = c.loop-last.invariant in
    let part = c.part_with.ensures in
    let last = c.in-Some.last in
    let last' = c.part_with.new.last in
    let ss = c.part_with.new.stations in
    let cells = c.loop-last.cells.items in
    let start = c.deref_mut.ensures.value in
    let len : length ss ≡ length c.pop.new.self.items = omega (arith, part.len, ap length start) in
    let items = with_items_is c.pop.new.self ss (omega (arith, len, c.pop.new.self.ok.0)) in
    let old = c.in-Some.ensures.items ∙ ap (λ xs. xs ++ last ∷ []) (sym start) in
    let n : c.loop-last.cells.len ≡ length cells = omega (arith, c.loop-last.cells.ok.0) in
    let kept = subst (λ (k : ℕ). take k c.drain.new.cells.items ≡ cells) n c.drain.ensures.kept in
    record {
      stations = subst (AreStations g.K.Run.workers) (sym items) part.stations;
      few = subst (λ xs. length xs ≤ g.K.Run.workers) (sym items)
          (omega (arith, len, i.few, ap length c.in-Some.ensures.items, length-append c.pop.new.self.items (last ∷ [])));
      kept = kept_twice c.args.cells.now.items cells c.drain.new.cells.items i.kept kept;
      tree = c.drain.ensures.tree;
      left = λ w.
          subst (λ xs. weigh w c.args.cells.now.items + weigh_given w c.args.stations.items + weigh_all_taken w xs ≡ weigh_all_taken w
          c.args.stations.items + weigh_given w xs + weigh w c.drain.new.cells.items) (sym items)
          (gathered _ _ _ _ _ _ _ _ _ _ _ _ (i.left w) (sym (weigh_snoc (given_of w) ss last') ∙ part.given w ∙ ap (weigh_given w) (sym old))
          (part.taken w ∙ ap (weigh_all_taken w) (sym old)) (c.in_ok-drain.ensures.left w));
    }

pub part_with-requires-clause-few : goal.part_with-requires-clause-few
part_with-requires-clause-few g c =
    omega (
      arith,
      c.loop-last.invariant.few,
      ap length c.in-Some.ensures.items,
      length-append c.pop.new.self.items (c.in-Some.last ∷ []),
      ap length
          c.deref_mut.ensures.value,
    )
