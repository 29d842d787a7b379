use Rattle.std.proofs.Common.{arith, length}
use Rattle.std.proofs.lemmas.Bool.{le-leb}
use Rattle.cj_kvn.specs.Originators.{is_originator}
use Rattle.cj_kvn.proofs.originator.is_originator.Goals as goal

pub returns-then-text-le40 : goal.returns-then-text-le40
unfolding is_originator
returns-then-text-le40 c =
    let text = c.args.text.now in
    rw (le-leb 1 (length text) (omega arith), le-leb (length text) 40 (omega arith)) c.are_originator_bytes.ensures
