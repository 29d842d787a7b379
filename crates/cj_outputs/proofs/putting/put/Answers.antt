use Rattle.cj_outputs.proofs.PutLemmas.{put_leaves}
use Rattle.cj_outputs.proofs.putting.put.Goals as goal

pub returns-clause-write : goal.returns-clause-write
returns-clause-write g c = λ fault. absurd cc

pub returns-clause-leaves : goal.returns-clause-leaves
returns-clause-leaves g c = λ old stood.
    put_leaves c.args.name.now c.args.bytes.now old (g.S.Shelf.outputs c.args.shelf.now) (g.S.Shelf.outputs c.put.new.self) c.in_ok-put.ensures.outputs stood
