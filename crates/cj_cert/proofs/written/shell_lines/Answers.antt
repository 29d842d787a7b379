use Rattle.std.proofs.Common.{◌≡◌, ◌∙◌, ap, length, map, arith, ℕ}
use Rattle.std.specs.List.{range_with_len}
use Rattle.cj_cert.specs.Written.{line_by_shells}
use Rattle.cj_cert.proofs.WrittenLineLemmas.{shell_more}
use Rattle.cj_cert.proofs.written.shell_lines.Goals as goal

pub loop-shell-preserved : goal.loop-shell-preserved
loop-shell-preserved c =
    let i = c.loop-shell.invariant in
    record {
      lines = c.in_ok-push.ensures.items ∙ shell_more c.args.shells.now c.loop-shell.shell-index c.len-object.result c.loop-shell.lines.items (omega arith) (c.len-object.ensures ∙ i.count) i.lines;
      count = c.in_ok-push.ensures.len ∙ omega (arith, i.count);
    }

pub loop-shell-init : goal.loop-shell-init
loop-shell-init c = record { lines = c.in_ok-lines.ensures.items; count = c.in_ok-lines.ensures.len }

pub returns : goal.returns
returns c =
    let all : c.loop-shell.shell-index ≡ length c.args.shells.now = omega (arith, c.loop-shell.auto.shell-index-end, c.loop-shell-test.false) in
    c.loop-shell.invariant.lines ∙ ap (λ (k : ℕ). map (line_by_shells c.args.shells.now) (range_with_len 0 k)) all
