use Rattle.std.proofs.Common.{◌≡◌, ℕ, ◌+◌, ◌<◌, get_or, length, vec_len}
use Rattle.std.specs.Prelude.{Some, None}
use Rattle.std.specs.Fn.{FnReturns}
use Rattle.std.specs.Vec.Iter.{into_iter_items, into_iter_len}
use Rattle.cj_threads.proofs.dealing.map_dealt.Given as goal

-- the outputs so far, and what stands at the places that are left
abbrev pub invariant-loop-place : goal.invariant-loop-place
invariant-loop-place g l = record {
  count : vec_len l.outputs + length (into_iter_items l.place-iterator) ≡ l.count;
  len : into_iter_len l.place-iterator ≡ length (into_iter_items l.place-iterator);
  left : (k : ℕ) (x : _) → get_or (into_iter_items l.place-iterator) k None ≡ Some x → FnReturns g.F.Fn l.f (vec_len l.outputs + k, tt) x;
  each : (k : ℕ) (d : _) → k < vec_len l.outputs → FnReturns g.F.Fn l.f (k, tt) (get_or l.outputs.items k d);
}
