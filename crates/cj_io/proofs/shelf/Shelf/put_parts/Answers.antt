use Rattle.std.proofs.Common.{ℕ, List, subst, ◌∙◌}
use Rattle.cj_io.specs.Files.{Puts, Told}
use Rattle.cj_io.proofs.shelf.Shelf.put_parts.Goals as goal

pub returns-clause-outputs : goal.returns-clause-outputs
returns-clause-outputs g c =
    subst (λ (bytes : List ℕ). Told (Puts c.args.name.now bytes c.put.result) (g.Self.Shelf.outputs c.args.self.now) (g.Self.Shelf.outputs c.put.new.self))
    (c.deref.ensures.value ∙ c.in_ok-bytes.ensures) c.put.ensures.outputs
