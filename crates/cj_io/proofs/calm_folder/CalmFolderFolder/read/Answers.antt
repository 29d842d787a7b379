use Rattle.std.proofs.Common.{◌≡◌, ◌∙◌}
use Rattle.cj_io.specs.Files.{bytes_of}
use Rattle.cj_io.proofs.FileLemmas.{bytes_of-at}
use Rattle.cj_io.proofs.calm_folder.CalmFolderFolder.read.Goals as goal

pub returns-clause-bytes : goal.returns-clause-bytes
returns-clause-bytes c =
    let bytes : c.as_slice.result.now ≡ bytes_of c.args.self.now c.args.file =
    c.as_slice.ensures ∙ bytes_of-at c.args.self.now c.args.file c.index-file.result.now c.requires (rw c.self.view_is at c.index-file.ensures) in
    rw bytes at c.read_at.ensures.bytes
