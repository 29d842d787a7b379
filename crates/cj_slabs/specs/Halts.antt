-- Why some slots are not searched to their end.
use Rattle.cj_cells.specs.declared.refine_error.RefineError.{RefineError}
use Rattle.cj_cells.specs.declared.refine_error.RefineError.TheVariants as error
use Rattle.cj_slabs.specs.declared.halt.Halt.{Halt}
use Rattle.cj_slabs.specs.declared.halt.Halt.TheVariants as halt

-- the halt that an error makes
abbrev pub halt_of : RefineError → Halt
halt_of error.Memory = halt.Memory
halt_of error.TooMany = halt.TooMany
