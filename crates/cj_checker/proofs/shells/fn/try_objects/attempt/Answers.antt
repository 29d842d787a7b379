use Rattle.std.proofs.Common.{List, sym, subst, ◌∙◌}
use Rattle.std.proofs.lemmas.List.{get_or_default}
use Rattle.cj_cert.specs.declared.cert_lines.BoxLine.{BoxLine}
use Rattle.cj_cert.specs.declared.cert_lines.ShellLine.{ShellLine}
use Rattle.cj_checker.specs.BoxesRead.{IsObjectRead}
use Rattle.cj_checker.proofs.shells.fn.try_objects.attempt.Goals as goal

pub returns : goal.returns
returns c d =
    let k = c.captures in
    let lines = k.cert.now.shells.items in
    let line = c.index.result.now in
    subst (λ (l : ShellLine). IsObjectRead k.problem.now c.args.object l k.cert.now.boxes.items c.read_alone.result)
    (c.index.ensures ∙ sym (get_or_default lines c.args.object d line c.requires.0))
    (subst (λ (bs : List BoxLine). IsObjectRead k.problem.now c.args.object line bs c.read_alone.result) c.deref.ensures.value c.read_alone.ensures)
