use Rattle.std.proofs.Common.{◌≡◌, ◌+◌, List, ap, arith, length, map, subst, sym, take, ◌∙◌}
use Rattle.std.proofs.lemmas.List.{take_all}
use Rattle.cj_cert.specs.declared.cert_lines.ShellLine.{ShellLine}
use Rattle.cj_blocks.proofs.InBlocksLemmas.{mapped_more}
use Rattle.cj_blocks.proofs.in_blocks.listed_shells.Goals as goal

pub loop-line-init : goal.loop-line-init
loop-line-init c = c.in_ok-shells.ensures.items

pub loop-line-preserved : goal.loop-line-preserved
loop-line-preserved c =
    let lines = c.deref-line-items.result.now in
    let at = c.loop-line.line-index in
    let value = c.deref-line-items.ensures.value in
    let before = subst (λ (ls : List ShellLine). c.loop-line.shells.items ≡ map (λ line. line.shell) (take at ls)) (sym value) c.loop-line.invariant in
    subst (λ (ls : List ShellLine). c.push.new.self.items ≡ map (λ line. line.shell) (take (at + 1) ls)) value
    (mapped_more (λ (line : ShellLine). line.shell) lines at _ c.loop-line.shells.items c.push.new.self.items (omega arith) before c.in_ok-push.ensures.items)

pub returns : goal.returns
returns c =
    let lines = c.args.cert.now.shells.items in
    c.loop-line.invariant ∙ ap (map (λ (line : ShellLine). line.shell)) (take_all c.loop-line.line-index lines (omega (arith, ap length c.deref-line-items.ensures.value)))
