use Rattle.std.proofs.Common.{◌<◌, [], ◌∷◌, ◌++◌, length, refl, sym, ap, ◌∙◌, subst, List}
use Rattle.crossbeam_deque.specs.Handles.{worker_view}
use Rattle.cj_case.specs.declared.cell.Cell.{Cell}
use Rattle.cj_pool.specs.declared.account.Account.{Account}
use Rattle.cj_pool.specs.Accounts.{with_pushed}
use Rattle.cj_pool.specs.Parted.{pushed_one, held_both}
use Rattle.cj_pool.proofs.TurnLemmas.{enough_left}
use Rattle.cj_pool.proofs.turning.part_halves.Goals as goal

pub put-requires-clause-counted : goal.put-requires-clause-counted
put-requires-clause-counted g c =
    subst (λ (v : Account). length v.pushed < c.args.share.now.count.firsts) (sym c.queue_len.ensures.view) c.requires.counted

pub returns-then-queue_len-ge-ENOUGH-clause-parted : goal.returns-then-queue_len-ge-ENOUGH-clause-parted
returns-then-queue_len-ge-ENOUGH-clause-parted g c =
    let left = c.queue_len.ensures.rule in
    held_both refl (enough_left (worker_view c.args.own.now) left.0 c.queue_len.result left.1 c.if-queue_len-ge-ENOUGH.true left.3) (record {
      own = c.queue_len.ensures.view;
      kept = c.push-then-queue_len-ge-ENOUGH.ensures.items ∙ ap (λ (cells : List Cell). cells ++ c.args.first ∷ []) c.push.ensures.items;
    })

pub returns-in-Ok-clause-parted : goal.returns-in-Ok-clause-parted
returns-in-Ok-clause-parted g c =
    pushed_one refl (record {
      own = c.in-Ok.ensures.rule ∙ (λ i. with_pushed (c.queue_len.ensures.view i) (c.new.ensures i ∷ []));
      kept = c.push-in-Ok.ensures.items;
    })

pub returns-in-Err-clause-parted : goal.returns-in-Err-clause-parted
returns-in-Err-clause-parted g c =
    let rule = c.in-Err.ensures.rule in
    let back = c.into_cell.ensures.cell ∙ rule.0 ∙ c.new.ensures in
    record {
      own = rule.1 ∙ c.queue_len.ensures.view;
      kept = c.push-in-Err-2.ensures.items ∙ ap (λ (cells : List Cell). cells ++ c.args.first ∷ [])
          (c.push-in-Err.ensures.items ∙ ap (λ (cell : Cell). c.args.kept.now.items ++ cell ∷ []) back);
    }
