use Rattle.cj_gen.specs.Texts.{head_text}
use Rattle.cj_gen.proofs.TextLemmas.{joined, joined_ok}
use Rattle.cj_gen.proofs.text.push_head.Goals as goal

pub returns : goal.returns
unfolding head_text
returns c =
    let old = c.args.text.now.items in
    let front = joined old _ _ _ _ c.in_ok-push_naming.ensures c.in_ok-extend_from_slice.ensures.items in
    let stop = joined old _ _ _ _ (joined old _ _ _ _ front c.in_ok-push_stamp.ensures) c.in_ok-push.ensures.items in
    joined_ok c.push_ending.result old _ _ _ _ stop c.push_ending.ensures
