use Rattle.cj_pool.proofs.running.is_last.Goals as goal

pub returns-in-Idle : goal.returns-in-Idle
returns-in-Idle c = record { done = λ e. absurd cc; halted = λ why e. absurd cc; others = λ e. absurd cc }
