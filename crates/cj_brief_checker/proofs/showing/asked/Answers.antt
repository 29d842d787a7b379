use Rattle.std.proofs.Common.{◌+◌, sym, arith}
use Rattle.std.proofs.lemmas.List.{take_all}
use Rattle.cj_brief_checker.proofs.showing.asked.Goals as goal

pub returns-then-lines-objects : goal.returns-then-lines-objects
returns-then-lines-objects c = sym (take_all (c.args.objects + 1) c.args.lines.now (omega (arith, c.if-lines-objects.true)))

pub returns : goal.returns
returns c = c.split_at.ensures.front
