-- The cells of a slot.
use Rattle.std.specs.Prelude.{◌≡◌, ℕ, ◌<◌, ◌≤◌, List, length, get_or, Option, Result, IfErr, IfOk, IfSome}
use Rattle.cj_case.specs.declared.problem.Problem.{Problem}
use Rattle.cj_case.specs.Problems.{plain_problem}
use Rattle.cj_case.specs.Slots.{slot_count}
use Rattle.cj_hermite.specs.Roots.{roots_in_slot}
use Rattle.cj_brief.specs.declared.brief_certificate.BriefCertificate.{BriefCertificate}
use Rattle.cj_brief.specs.Certificates.{plain_brief}
use Rattle.cj_checker.specs.declared.cell_fault.CellFault.{CellFault}
use Rattle.cj_brief_checker.specs.declared.tiled.Tiled.{Tiled}
use Rattle.cj_brief_checker.specs.SlotPairs.{candidates_in}
use Rattle.cj_brief_checker.specs.Steps.{Tells}

-- the cells from a place on against the roots of a slot: what is found is the place behind those that are told of them, or the first that fails
pub record IsFound (problem : Problem) (cert : BriefCertificate) (slot at : ℕ) (found : Result ℕ CellFault) : Type 0 where
  pub tells : Tells (plain_problem problem) (roots_in_slot (plain_problem problem) slot (candidates_in (plain_problem problem) (plain_brief cert) slot)) cert.cells.items at found
  pub ok : IfOk found (λ next. next ≤ length cert.cells.items)
  pub err : IfErr found (λ fault. fault.at ≤ length cert.cells.items)

-- what was tried of a slot, if it was
abbrev pub IsTried : Problem → BriefCertificate → ℕ → Option Tiled → Type 0
IsTried problem cert slot tried = IfSome tried (λ tiled. IsFound problem cert slot tiled.from tiled.found)

-- something or nothing was tried of each slot
pub record AreTried (problem : Problem) (cert : BriefCertificate) (tries : List (Option Tiled)) : Type 0 where
  pub many : length tries ≡ slot_count problem.window.first.micros problem.window.last.micros
  pub each : (slot : ℕ) (d : Option Tiled) → slot < slot_count problem.window.first.micros problem.window.last.micros → IsTried problem cert slot (get_or tries slot d)
