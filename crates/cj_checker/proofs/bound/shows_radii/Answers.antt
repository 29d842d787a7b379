use Rattle.std.proofs.Common.{◌≡◌, ◌*◌, ◌∙◌, ◌&&◌, true, false, ap, sym}
use Rattle.std.specs.Prelude.{nat_le}
use Rattle.std.proofs.lemmas.Bool.{le-leb, lt-leb}
use Rattle.cj_bezier.specs.Gaps.{terms_of}
use Rattle.cj_bezier.specs.Hulls.{axes_of}
use Rattle.cj_bezier.specs.Squares.{least_square, greatest_square}
use Rattle.cj_checker.proofs.BoundLemmas.{by_squares}
use Rattle.cj_checker.proofs.bound.shows_radii.Goals as goal

pub returns-then-square-least_square : goal.returns-then-square-least_square
returns-then-square-least_square c =
    let g = c.gap_origin-gap.ensures in
    let lo = c.square.ensures in
    let least = c.least_square.ensures.value ∙ ap least_square g in
    let hi = c.square-then-square-least_square.ensures in
    let most = c.greatest_square.ensures.value ∙ ap greatest_square g in
    let inner : nat_le c.square.result c.least_square.result ≡ true = le-leb c.square.result c.least_square.result c.if-square-least_square.true in
    (λ j. sym inner j && nat_le c.greatest_square.result c.square-then-square-least_square.result)
    ∙ ((λ j. nat_le (lo j) (least j) && nat_le (most j) (hi j)) ∙ by_squares c.args.shell (axes_of c.args.hull.now.points))

pub returns-else-square-least_square : goal.returns-else-square-least_square
returns-else-square-least_square c =
    let g = c.gap_origin-gap.ensures in
    let lo = c.square.ensures in
    let least = c.least_square.ensures.value ∙ ap least_square g in
    let shell = c.args.shell in
    let outer = nat_le (greatest_square (terms_of c.gap_origin-gap.result.terms)) (shell.hi * shell.hi) in
    let inner : nat_le c.square.result c.least_square.result ≡ false = lt-leb c.square.result c.least_square.result c.if-square-least_square.false in
    inner ∙ ((λ j. sym inner j && outer) ∙ ((λ j. nat_le (lo j) (least j) && nat_le (greatest_square (g j)) (shell.hi * shell.hi)) ∙ by_squares shell (axes_of c.args.hull.now.points)))
