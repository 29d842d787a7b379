use Rattle.cj_io.proofs.FileLemmas.{all_named, names_grow}
use Rattle.cj_io.proofs.calm_folder.copy_names.Goals as goal

pub loop-file-preserved : goal.loop-file-preserved
loop-file-preserved c =
    names_grow c.args.files.now c.loop-file.file-index c.file-item.result c.loop-file.names.items c.push.new.self.items c.in_ok-copy_of.field-0 c.as_slice.result.now
    c.loop-file-test.true c.file-item.is c.loop-file.invariant c.in_ok-push.ensures.items c.in_ok-copy_of.ensures c.as_slice.ensures

pub returns : goal.returns
returns c = all_named c.args.files.now c.loop-file.file-index c.loop-file.names.items c.loop-file.invariant c.loop-file-test.false
