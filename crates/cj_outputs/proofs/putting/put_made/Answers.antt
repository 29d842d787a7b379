use Rattle.cj_outputs.proofs.PutLemmas.{put_leaves}
use Rattle.cj_outputs.proofs.putting.put_made.Goals as goal

pub returns : goal.returns
returns g c =
    let made = c.in_ok-put_made.ensures in
    record {
      comes = tt;
      write = λ is. absurd cc;
      leaves = λ old stood.
          put_leaves c.args.name.now (g.M.PartSource.rest c.args.source.now) old (g.S.Shelf.outputs c.args.shelf.now)
          (g.S.Shelf.outputs c.put_made.new.self) made.outputs stood;
      later = made.later;
    }
