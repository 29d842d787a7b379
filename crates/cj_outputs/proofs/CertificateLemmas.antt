-- What is found in a case is what its certificate is made of.
use Rattle.std.proofs.Common.{◌≡◌, refl}
use Rattle.cj_case.specs.PlainProblems.{PlainProblem}
use Rattle.cj_cells.specs.Lists.{list_candidates, list_of}
use Rattle.cj_cert.specs.Written.{leaves_in_order}

pub leaves_alike : (case : PlainProblem) → list_candidates case ≡ leaves_in_order case
unfolding list_of leaves_in_order
leaves_alike case = refl
