use Rattle.std.proofs.Common.{◌≡◌, List, length, sym, ap, ◌∙◌, arith}
use Rattle.std.proofs.lemmas.Result.{err_from_is_err_and}
use Rattle.cj_case.specs.declared.cell.Cell.{Cell}
use Rattle.cj_case.specs.declared.leaf.Leaf.{Leaf}
use Rattle.cj_case.specs.Cells.{plain_cells}
use Rattle.cj_case.specs.Leaves.{plain_leaves}
use Rattle.cj_case.specs.Problems.{plain_problem}
use Rattle.cj_hermite.specs.Roots.{roots_of}
use Rattle.cj_bezier.specs.Candidates.{is_candidate_anew}
use Rattle.cj_cells.specs.Lists.{list_of}
use Rattle.cj_cells.proofs.LeafLemmas.{list_split}
use Rattle.cj_cells.proofs.ListingLemmas.{cells_keep, error_is}
use Rattle.cj_again.proofs.ChangedLemmas.{anew_fewer, leaves_anew, looks_are}
use Rattle.cj_again.proofs.rescreening.leaves_again.Goals as goal

pub returns-in_err-roots-clause-too_many : goal.returns-in_err-roots-clause-too_many
returns-in_err-roots-clause-too_many g c =
    let p = err_from_is_err_and c.from_residual-in_err-roots.result c.from_residual-in_err-roots.ensures.1 in
    rw (p.1, p.2) (λ is. let many = c.in_err-roots.ensures.too_many (error_is _ _ is) in omega (arith, many, list_split (plain_problem c.args.new.now)))

pub refine_all_once-requires : goal.refine_all_once-requires
refine_all_once-requires g c =
    let old = plain_problem c.args.old.now.problem in
    let new = plain_problem c.args.new.now in
    let told = c.in_ok-matching.ensures in
    let found : plain_cells c.deref-2.result.now ≡ roots_of (is_candidate_anew old new) new =
    ap (λ (cells : List Cell). plain_cells cells) c.deref-2.ensures.value ∙ c.in_ok-changed.ensures.value
    ∙ (λ i. roots_of (is_candidate_anew (plain_problem (told.old i)) (plain_problem (told.new i))) (plain_problem (told.new i))) in
    cells_keep (is_candidate_anew old new) new c.deref-2.result.now found

pub returns-in_err-anew-clause-too_many : goal.returns-in_err-anew-clause-too_many
returns-in_err-anew-clause-too_many g c =
    let old = plain_problem c.args.old.now.problem in
    let new = plain_problem c.args.new.now in
    let told = c.in_ok-matching.ensures in
    let found : plain_cells c.deref-2.result.now ≡ roots_of (is_candidate_anew old new) new =
    ap (λ (cells : List Cell). plain_cells cells) c.deref-2.ensures.value ∙ c.in_ok-changed.ensures.value
    ∙ (λ i. roots_of (is_candidate_anew (plain_problem (told.old i)) (plain_problem (told.new i))) (plain_problem (told.new i))) in
    let p = err_from_is_err_and c.from_residual-in_err-anew.result c.from_residual-in_err-anew.ensures.1 in
    let same = ap length (leaves_anew old new c.deref-2.result.now found) in
    rw (p.1, p.2) (λ is. let many = c.in_err-anew.ensures.too_many (error_is _ _ is) in omega (arith, many, same, anew_fewer old new))

pub returns-in_err-anew-clause-steps : goal.returns-in_err-anew-clause-steps
returns-in_err-anew-clause-steps g c =
    let old = plain_problem c.args.old.now.problem in
    let new = plain_problem c.args.new.now in
    let told = c.in_ok-matching.ensures in
    let found : plain_cells c.deref-2.result.now ≡ roots_of (is_candidate_anew old new) new =
    ap (λ (cells : List Cell). plain_cells cells) c.deref-2.ensures.value ∙ c.in_ok-changed.ensures.value
    ∙ (λ i. roots_of (is_candidate_anew (plain_problem (told.old i)) (plain_problem (told.new i))) (plain_problem (told.new i))) in
    omega (arith, looks_are old new c.deref-2.result.now found, c.refine_all_once.ensures.few_steps)

pub carried-requires-clause-anew : goal.carried-requires-clause-anew
carried-requires-clause-anew g c =
    let old = plain_problem c.args.old.now.problem in
    let new = plain_problem c.args.new.now in
    let told = c.in_ok-matching.ensures in
    let found : plain_cells c.deref-2.result.now ≡ roots_of (is_candidate_anew old new) new =
    ap (λ (cells : List Cell). plain_cells cells) c.deref-2.ensures.value ∙ c.in_ok-changed.ensures.value
    ∙ (λ i. roots_of (is_candidate_anew (plain_problem (told.old i)) (plain_problem (told.new i))) (plain_problem (told.new i))) in
    ap (λ (leaves : List Leaf). plain_leaves leaves) c.deref-4.ensures.value ∙ c.in_ok-anew.ensures.value ∙ leaves_anew old new c.deref-2.result.now found
    ∙ sym (λ i. list_of (is_candidate_anew (plain_problem (told.old i)) (plain_problem (told.new i))) (plain_problem (told.new i)))

pub returns-clause-steps : goal.returns-clause-steps
returns-clause-steps g c =
    let old = plain_problem c.args.old.now.problem in
    let new = plain_problem c.args.new.now in
    let told = c.in_ok-matching.ensures in
    let found : plain_cells c.deref-2.result.now ≡ roots_of (is_candidate_anew old new) new =
    ap (λ (cells : List Cell). plain_cells cells) c.deref-2.ensures.value ∙ c.in_ok-changed.ensures.value
    ∙ (λ i. roots_of (is_candidate_anew (plain_problem (told.old i)) (plain_problem (told.new i))) (plain_problem (told.new i))) in
    omega (arith, looks_are old new c.deref-2.result.now found, c.refine_all_once.ensures.few_steps)
