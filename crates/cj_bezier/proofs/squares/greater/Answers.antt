use Rattle.std.proofs.Common.{get_or, pos, refl, sym, rules}
use Rattle.std.proofs.lemmas.List.{get_or-map}
use Rattle.std.specs.Prelude.{ℤ}
use Rattle.std.specs.Int.{int_max}
use Rattle.cj_interval.specs.declared.span.Span.{Span}
use Rattle.cj_bezier.specs.Hulls.{highs}
use Rattle.cj_bezier.proofs.PartLemmas.{IsSized, inside, sized, weaker, greatest_step, read_sized, read_value}
use Rattle.cj_bezier.proofs.squares.greater.Goals as goal
use Rattle.cj_bezier.proofs.squares.greater.Goals.{After-max}

ends : (c : After-max) → let terms = c.args.gap.now.terms in IsSized c.max.result (int_max (get_or (highs terms) c.args.first (pos 0)) (get_or (highs terms) c.args.second (pos 0)))
ends c =
    let terms = c.args.gap.now.terms in
    let first = inside terms c.args.first c.requires.first_inside (search rules) in
    let second = inside terms c.args.second c.requires.second_inside (search rules) in
    let a = sym (get_or-map (λ (s : Span). s.hi) terms c.args.first c.index-gap-first.result (pos 0) first) in
    let b = sym (get_or-map (λ (s : Span). s.hi) terms c.args.second c.index-gap-second.result (pos 0) second) in
    let within = c.args.gap.now.within in
    let x = (get_or terms c.args.first c.index-gap-first.result).hi in
    let y = (get_or terms c.args.second c.index-gap-second.result).hi in
    greatest_step c.max.result x y _ _ (sized x _ a (weaker x (within c.args.first c.index-gap-first.result first).high))
    (sized y _ b (weaker y (within c.args.second c.index-gap-second.result second).high)) c.max.ensures.value

pub returns : goal.returns
returns c =
    let is = ends (goal.at.returns c).After-max in
    record { value = read_value (λ (z : ℤ). z) _ _ _ is refl; within = read_sized _ _ is }
