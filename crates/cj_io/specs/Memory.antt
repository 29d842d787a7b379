-- What contracts see of a folder and of a shelf in memory.
use Rattle.std.specs.Prelude.{List}
use Rattle.cj_io.specs.Calls.{Calls}
use Rattle.cj_io.specs.declared.file.FileBytes.{FileBytes}

-- a folder: its files and its calls
pub record FolderInMemory : Type 0 where
  pub files : List FileBytes
  pub calls : Calls

-- a shelf: its outputs and its calls
pub record ShelfInMemory : Type 0 where
  pub outputs : List FileBytes
  pub calls : Calls
