use Rattle.std.proofs.Common.{◌≡◌, ℕ, ◌<◌, ◌≤◌, Bool, true, map, get_or}
use Rattle.std.specs.Prelude.{All}
use Rattle.cj_case.specs.Pairs.{objects_of}
use Rattle.cj_checker.specs.Keys.{AreKeysIn, AreKeysKept, HasKey}
use Rattle.cj_checker.proofs.rounds.append_keys.Given as goal

abbrev pub invariant-loop-pair : goal.invariant-loop-pair
invariant-loop-pair l = record {
  keys : (candidate : ℕ → ℕ → ℕ → Bool) (objects slots : ℕ) → l.slot < slots → All (λ pair. pair.b < objects) l.pairs → All (λ pair. candidate pair.a pair.b l.slot ≡ true) l.pairs
      → AreKeysIn candidate l.first l.end objects slots l.initial.keys.items → AreKeysIn candidate l.first l.end objects slots l.keys.items;
  kept : AreKeysKept l.initial.keys.items l.keys.items;
  found : (k : ℕ) → k < l.pair-index → (a b : ℕ) → get_or (map objects_of l.pairs) k (a, b) ≡ (a, b) → l.first ≤ a → a < l.end → HasKey l.keys.items a b l.slot;
}
