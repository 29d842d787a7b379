use Rattle.std.proofs.Common.{refl}
use Rattle.cj_pool.proofs.listing.refused.Goals as goal

pub returns-in-Memory : goal.returns-in-Memory
returns-in-Memory c = record { memory = λ e. refl; too_many = λ e. absurd cc }
