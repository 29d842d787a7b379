use Rattle.std.proofs.Common.{List, subst, arith, ◌∙◌, sym, ◌<◌, length}
use Rattle.cj_case.specs.declared.cell.Cell.{Cell}
use Rattle.cj_case.specs.Problems.{plain_problem}
use Rattle.cj_pool.specs.Tree.{InTree}
use Rattle.cj_pool.proofs.DealLemmas.{root_tree, dealt_more, dealt_same, like_after}
use Rattle.cj_pool.proofs.dealing.receive_own.Goals.{then-root-count+in_ok-receive, else-root-count}
use Rattle.cj_pool.proofs.dealing.receive_own.Goals as goal

pub receive-requires-clause-tree : goal.receive-requires-clause-tree
receive-requires-clause-tree g c =
    let case = plain_problem g.K.Run.problem in
    let root = c.root-item.result in
    subst (λ (roots : List Cell). InTree case roots root) c.requires.roots.0
    (root_tree case c.args.roots.now c.loop-root.root-index root c.requires.roots.1.numbered (omega arith) c.root-item.is)

pub loop-root-preserved : goal.loop-root-preserved
loop-root-preserved g c =
    let l = c.loop-root in
    let roots = c.args.roots.now in
    let n = c.args.count in
    let j = c.args.station.now.number in
    let number = l.invariant.like.number in
    let root = c.root-item.result in
    let lt : l.root-index < length roots = c.loop-root-test.true in
    elim c.if-root-count.branch [
      | then-root-count+in_ok-receive w ↦ rw w.station-is (record {
        like = like_after c.args.station.now l.station w.receive.new.station l.invariant.like w.receive.ensures.like;
        dealt = dealt_more roots n j l.root-index root _ _ lt c.root-item.is (w.if-root-count.true ∙ number) l.invariant.dealt
            w.in_ok-receive.ensures.opening;
      })
      | else-root-count w ↦ rw w.station-is (record {
        like = l.invariant.like;
        dealt = dealt_same roots n j l.root-index root _ lt c.root-item.is (λ e. w.if-root-count.false (e ∙ sym number)) l.invariant.dealt;
      })
    ]
