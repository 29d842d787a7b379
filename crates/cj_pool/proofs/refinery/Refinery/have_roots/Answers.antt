use Rattle.cj_pool.specs.Passes.{deques_of}
use Rattle.cj_pool.proofs.EndLemmas.{seen_run, seen_sound, sound_described, sound_single}
use Rattle.cj_pool.proofs.refinery.Refinery.have_roots.Goals as goal

pub returns-clause-run : goal.returns-clause-run
returns-clause-run g c =
    let r = c.self.inside in
    seen_run r.problem.now g.K.Run.problem g.K.Run.roots r.limit g.K.Run.workers (deques_of r.thieves.items) r.ledger c.args.self.now c.self.invariant.0
    c.self.view_is

pub returns-clause-sound : goal.returns-clause-sound
returns-clause-sound g c =
    let r = c.self.inside in
    let inv = c.self.invariant in
    seen_sound r.problem.now g.K.Run.problem g.K.Run.roots r.limit g.K.Run.workers (deques_of r.thieves.items) r.ledger c.args.self.now inv.0 c.self.view_is
    c.have_lengths.ensures inv.1 inv.2 inv.3 inv.4

pub returns-clause-single : goal.returns-clause-single
returns-clause-single g c =
    let r = c.self.inside in
    let inv = c.self.invariant in
    sound_single c.args.self.now
    (seen_sound r.problem.now g.K.Run.problem g.K.Run.roots r.limit g.K.Run.workers (deques_of r.thieves.items) r.ledger c.args.self.now inv.0 c.self.view_is
    c.have_lengths.ensures inv.1 inv.2 inv.3 inv.4)

pub returns-clause-describe : goal.returns-clause-describe
returns-clause-describe g c =
    let r = c.self.inside in
    let inv = c.self.invariant in
    sound_described c.args.self.now
    (seen_sound r.problem.now g.K.Run.problem g.K.Run.roots r.limit g.K.Run.workers (deques_of r.thieves.items) r.ledger c.args.self.now inv.0 c.self.view_is
    c.have_lengths.ensures inv.1 inv.2 inv.3 inv.4)
