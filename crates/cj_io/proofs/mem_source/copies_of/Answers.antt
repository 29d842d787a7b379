use Rattle.std.proofs.Common.{refl, append-nil, arith}
use Rattle.cj_io.proofs.mem_source.copies_of.Goals as goal

pub returns-clause-joined : goal.returns-clause-joined
returns-clause-joined c =
    rw (c.in_ok-push-2.ensures.items, c.in_ok-push.ensures.items, c.new-parts.ensures.items, append-nil)
    (rw (c.in_ok-from_slice.ensures.items, c.in_ok-from_slice-2.ensures.items) refl)

pub returns-clause-some : goal.returns-clause-some
returns-clause-some c = rw (c.in_ok-push-2.ensures.items, c.in_ok-push.ensures.items, c.new-parts.ensures.items) (omega arith)
