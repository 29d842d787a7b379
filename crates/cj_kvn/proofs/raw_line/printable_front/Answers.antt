use Rattle.std.proofs.Common.{◌≡◌, ◌<◌, length, get_or, arith}
use Rattle.cj_kvn.proofs.RawLemmas.{front_with, front_without}
use Rattle.cj_kvn.proofs.raw_line.printable_front.Goals.{else-plain-text-via-then-plain-text+else-text-plain-eq61, else-plain-text-via-else-plain-text}
use Rattle.cj_kvn.proofs.raw_line.printable_front.Goals as goal

pub returns-then-text-plain-eq61-clause-len : goal.returns-then-text-plain-eq61-clause-len
returns-then-text-plain-eq61-clause-len c =
    (front_with c.args.text.now c.plain_len-plain.result c.printable_len.result c.plain_len-plain.ensures.count (omega arith) (omega arith) c.printable_len.ensures.count).0

pub returns-then-text-plain-eq61-clause-equals : goal.returns-then-text-plain-eq61-clause-equals
returns-then-text-plain-eq61-clause-equals c =
    (front_with c.args.text.now c.plain_len-plain.result c.printable_len.result c.plain_len-plain.ensures.count (omega arith) (omega arith) c.printable_len.ensures.count).1

-- no equals sign stands behind the plain bytes
other : (c : goal.Joined-else-plain-text) → c.plain_len-plain.result < length c.args.text.now → get_or c.args.text.now c.plain_len-plain.result 0 ≡ 61 → ⊥
other c below e = elim c.else-plain-text.branch [
  | else-plain-text-via-then-plain-text+else-text-plain-eq61 w ↦ omega arith
  | else-plain-text-via-else-plain-text w ↦ omega arith
]

pub returns-else-plain-text-clause-len : goal.returns-else-plain-text-clause-len
returns-else-plain-text-clause-len c = (front_without c.args.text.now c.plain_len-plain.result c.plain_len-plain.ensures.count (other c)).0

pub returns-else-plain-text-clause-equals : goal.returns-else-plain-text-clause-equals
returns-else-plain-text-clause-equals c = (front_without c.args.text.now c.plain_len-plain.result c.plain_len-plain.ensures.count (other c)).1
