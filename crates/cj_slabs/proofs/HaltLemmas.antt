-- What an error says of a halt that it makes.
use Rattle.std.proofs.Common.{◌≡◌, refl}
use Rattle.cj_cells.specs.declared.refine_error.RefineError.{RefineError}
use Rattle.cj_cells.specs.declared.refine_error.RefineError.TheVariants as error
use Rattle.cj_slabs.specs.declared.halt.Halt.TheVariants as halt
use Rattle.cj_slabs.specs.Halts.{halt_of}

pub many_were : (e : RefineError) → halt_of e ≡ halt.TooMany → e ≡ error.TooMany
many_were error.Memory is = absurd cc
many_were error.TooMany is = refl

pub none_stopped : (e : RefineError) → halt_of e ≡ halt.Stopped → ⊥
none_stopped error.Memory is = cc
none_stopped error.TooMany is = cc
