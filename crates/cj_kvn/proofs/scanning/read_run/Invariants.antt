use Rattle.std.proofs.Common.{◌≡◌, ℕ, ◌+◌, ◌≤◌, length}
use Rattle.std.specs.Str.Parse.{digits_value_after}
use Rattle.cj_kvn.specs.Scanning.{Leads, after_run, run}
use Rattle.cj_kvn.proofs.scanning.read_run.Given as goal

abbrev pub invariant-loop-rest : goal.invariant-loop-rest
invariant-loop-rest l = record {
  leads : (n : ℕ) → Leads l.fn.before n → (m : ℕ) × (Leads l.digits m × (digits_value_after 10 m (run l.rest) ≡ digits_value_after 10 n (run l.fn.text)));
  past : l.digits.past + length l.rest ≤ l.fn.before.past + length l.fn.text;
  rest : after_run l.rest ≡ after_run l.fn.text;
}

abbrev pub decreases-loop-rest : goal.decreases-loop-rest
decreases-loop-rest l = length l.rest
