use Rattle.std.proofs.Common.{◌^◌, ◌+◌, arith, rules, sym, subst}
use Rattle.cj_track.specs.Limits.{MAX_RATE}
use Rattle.cj_hermite.specs.Limits.{REACH}
use Rattle.cj_rtn.specs.Vectors.{IsEachWithin}
use Rattle.cj_rtn.proofs.SizeLemmas.{each_more, less_each}
use Rattle.cj_rtn.proofs.relating.relative.Goals as goal

pub values_along-requires-clause-near : goal.values_along-requires-clause-near
values_along-requires-clause-near c =
    subst (IsEachWithin (2 ^ 60)) (sym c.less.ensures)
    (each_more (REACH + REACH) (2 ^ 60) _ (omega arith) (less_each REACH REACH c.args.b.now.place c.args.a.now.place c.requires.second c.requires.first))

pub values_along-requires-2-clause-near : goal.values_along-requires-2-clause-near
values_along-requires-2-clause-near c =
    subst (IsEachWithin (2 ^ 60)) (sym c.less-2.ensures)
    (each_more (MAX_RATE + MAX_RATE) (2 ^ 60) _ (omega arith)
    (less_each MAX_RATE MAX_RATE c.args.b.now.rate c.args.a.now.rate (c.is_slow-else-not-is_slow.ensures.within (search rules)) (c.is_slow.ensures.within (search rules))))
