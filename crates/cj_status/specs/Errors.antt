-- The statuses that errors of a folder and of a shelf become.
use Rattle.cj_io.specs.declared.folder.FolderError.{FolderError}
use Rattle.cj_io.specs.declared.folder.FolderError.TheVariants as folder
use Rattle.cj_io.specs.declared.shelf.PutError.{PutError}
use Rattle.cj_io.specs.declared.shelf.PutError.TheVariants as shelf
use Rattle.cj_status.specs.declared.status.Status.{Status}
use Rattle.cj_status.specs.declared.status.Status.TheVariants.{OutOfMemory, ReadFault, WriteFault}

abbrev pub folder_status : FolderError → Status
folder_status folder.Memory = OutOfMemory
folder_status folder.Failed = ReadFault

abbrev pub shelf_status : PutError → Status
shelf_status shelf.Memory = OutOfMemory
shelf_status shelf.Failed = WriteFault
