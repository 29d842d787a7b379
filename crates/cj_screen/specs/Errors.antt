-- The statuses that errors of a search become.
use Rattle.std.specs.Prelude.{ℕ}
use Rattle.cj_cells.specs.declared.refine_error.RefineError.{RefineError}
use Rattle.cj_cells.specs.declared.refine_error.RefineError.TheVariants as refine
use Rattle.cj_status.specs.declared.status.Status.{Status}
use Rattle.cj_status.specs.declared.status.Status.TheVariants.{OutOfMemory, Limit}
use Rattle.cj_slabs.specs.declared.sift_error.SiftError.{SiftError}
use Rattle.cj_slabs.specs.declared.sift_error.SiftError.TheVariants as sift
use Rattle.cj_status.specs.declared.status.LimitFault.TheVariants.{Cells, Told}

abbrev pub refined_status : ℕ → RefineError → Status
refined_status cells refine.Memory = OutOfMemory
refined_status cells refine.TooMany = Limit (Cells cells)

-- with at most so many leaves, and so many that are told
abbrev pub sifted_status : ℕ → ℕ → SiftError → Status
sifted_status cells told sift.Memory = OutOfMemory
sifted_status cells told sift.TooMany = Limit (Cells cells)
sifted_status cells told sift.TooManyTold = Limit (Told told)
