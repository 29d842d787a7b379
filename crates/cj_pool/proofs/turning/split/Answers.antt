use Rattle.std.proofs.Common.{◌+◌, ap, ◌∙◌, arith, refl}
use Rattle.cj_ledger.specs.declared.count.Count.{Count}
use Rattle.cj_pool.proofs.turning.split.Goals as goal

pub returns-then-uncounted-eq0 : goal.returns-then-uncounted-eq0
returns-then-uncounted-eq0 c =
    let e = c.split.ensures in
    record {
      ledger = (e.ledger ∙ c.requires.0, ap (λ (v : Count). v.opening) e.count ∙ c.requires.1);
      firsts = ap (λ (v : Count). v.firsts) e.count;
      uncounted = omega (arith, c.if-uncounted-eq0.true);
      closes = ap (λ (v : Count). v.closes + c.args.uncounted.now) e.count;
      roots = ap (λ (v : Count). v.roots) e.count;
      halts = (ap (λ (v : Count). v.cells) e.count, ap (λ (v : Count). v.memory) e.count);
      told = ap (λ (v : Count). v.leaves) e.count;
    }

pub returns : goal.returns
returns c =
    let e = c.close_and_split.ensures in
    let closes = ap (λ (v : Count). v.closes) e.count in
    record {
      ledger = (e.ledger ∙ c.requires.0, ap (λ (v : Count). v.opening) e.count ∙ c.requires.1);
      firsts = ap (λ (v : Count). v.firsts) e.count;
      uncounted = refl;
      closes = omega (arith, closes, c.if-uncounted-eq0.false);
      roots = ap (λ (v : Count). v.roots) e.count;
      halts = (ap (λ (v : Count). v.cells) e.count, ap (λ (v : Count). v.memory) e.count);
      told = ap (λ (v : Count). v.leaves) e.count;
    }
