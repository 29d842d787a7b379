use Rattle.std.proofs.Common.{◌≡◌, ℕ, ◌<◌, List, length, get_or, map, pos, sym, ap, ◌∙◌, rules}
use Rattle.std.proofs.lemmas.List.{get_or-map}
use Rattle.std.specs.Prelude.{ℤ}
use Rattle.std.specs.Int.{int_min, int_max}
use Rattle.cj_interval.specs.declared.span.Span.{Span}
use Rattle.cj_bezier.specs.Hulls.{lows, highs}
use Rattle.cj_walk.proofs.joined_gaps.both_at.Goals as goal

-- an end of a span at a place is the one in the list of these ends
end_at : (end : Span → ℤ) (spans : List Span) (k : ℕ) (d : Span) → k < length spans → end (get_or spans k d) ≡ get_or (map end spans) k (pos 0)
end_at end spans k d lt = sym (get_or-map end spans k d (pos 0) lt)

-- there are seven
inside : (spans : List Span) (k : ℕ) → k < 7 → length spans ≡ 7 → k < length spans
inside spans k lt seven = rw seven lt

pub returns-clause-lower : goal.returns-clause-lower
returns-clause-lower c =
    let k = c.args.index in
    let a = end_at (λ (s : Span). s.lo) c.args.a.now.terms k c.index-a-index.result (inside _ k c.requires.inside (search rules)) in
    let b = end_at (λ (s : Span). s.lo) c.args.b.now.terms k c.index-b-index.result (inside _ k c.requires.inside (search rules)) in
    c.both.ensures.lower ∙ ap (λ (z : ℤ). int_min z (get_or c.args.b.now.terms k c.index-b-index.result).lo) a ∙ ap (λ (z : ℤ). int_min (get_or (lows c.args.a.now.terms) k (pos 0)) z) b

pub returns-clause-upper : goal.returns-clause-upper
returns-clause-upper c =
    let k = c.args.index in
    let a = end_at (λ (s : Span). s.hi) c.args.a.now.terms k c.index-a-index.result (inside _ k c.requires.inside (search rules)) in
    let b = end_at (λ (s : Span). s.hi) c.args.b.now.terms k c.index-b-index.result (inside _ k c.requires.inside (search rules)) in
    c.both.ensures.upper ∙ ap (λ (z : ℤ). int_max z (get_or c.args.b.now.terms k c.index-b-index.result).hi) a ∙ ap (λ (z : ℤ). int_max (get_or (highs c.args.a.now.terms) k (pos 0)) z) b

pub returns-clause-within : goal.returns-clause-within
returns-clause-within c = c.both.ensures.within
