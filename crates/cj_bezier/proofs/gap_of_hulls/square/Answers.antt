use Rattle.cj_bezier.proofs.ProductLemmas.{square_terms}
use Rattle.cj_bezier.proofs.gap_of_hulls.square.Goals as goal

pub returns : goal.returns
returns c =
    square_terms _ _ _ _ c.dot.result c.sixfold.result c.triple_term.result c.middle_term.result c.triple_term-2.result c.sixfold-2.result c.dot-2.result
    c.dot.ensures.lower c.sixfold.ensures.lower c.triple_term.ensures.lower c.middle_term.ensures.lower c.triple_term-2.ensures.lower c.sixfold-2.ensures.lower c.dot-2.ensures.lower
    c.dot.ensures.upper c.sixfold.ensures.upper c.triple_term.ensures.upper c.middle_term.ensures.upper c.triple_term-2.ensures.upper c.sixfold-2.ensures.upper c.dot-2.ensures.upper
