use Rattle.cj_threads.proofs.dealt_parts.fn.map_parts.part.Goals as goal

pub returns : goal.returns
returns g c = record { part = c.part_at.result; is = c.part_at.ensures.value; call = record { met = c.f.ensures } }
