use Rattle.std.proofs.Common.{ℕ, cond, List, take, Option, Some, None, bytes_eq, ap, sym, ◌∙◌}
use Rattle.std.specs.Option.{option_or}
use Rattle.cj_sizes.specs.Radii.{radius_in}
use Rattle.cj_sizes.specs.Sizes.{radius_given, sizes_of}
use Rattle.cj_sizes.specs.declared.size_line.SizeLine.{SizeLine}
use Rattle.cj_sizes.proofs.RadiusLemmas.{given_more}
use Rattle.cj_sizes.proofs.radii.radii_given.Goals as goal

pub loop-line-preserved : goal.loop-line-preserved
loop-line-preserved c = λ id is.
    let line = c.line-item.result in
    let before = radius_given (sizes_of (take c.loop-line.line-index c.args.lines.now)) id in
    c.in_ok-give.ensures id is
    ∙ ap (λ (text : List ℕ). option_or (radius_in c.loop-line.given id) (cond (bytes_eq text id) (Some line.radius) None)) c.as_slice.ensures
    ∙ ap (λ (o : Option ℕ). option_or o (cond (bytes_eq line.id id) (Some line.radius) None)) (c.loop-line.invariant id is)
    ∙ ap (λ (l : SizeLine). option_or before (cond (bytes_eq l.id id) (Some l.radius) None)) c.line-item.is
    ∙ sym (given_more c.args.lines.now c.loop-line.line-index line id c.loop-line-test.true)
