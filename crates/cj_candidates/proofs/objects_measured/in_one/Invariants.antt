use Rattle.std.proofs.Common.{◌≡◌, ◌++◌, All, length, map}
use Rattle.std.specs.Vec.Iter.{into_iter_items, into_iter_len}
use Rattle.cj_candidates.proofs.objects_measured.in_one.Given as goal

-- the shells and rows so far, and the objects that are left
abbrev pub invariant-loop-one : goal.invariant-loop-one
invariant-loop-one l = record {
  shells : l.shells.items ++ map (λ one. one.shell) (into_iter_items l.one-iterator) ≡ map (λ one. one.shell) (into_iter_items l.initial.one-iterator);
  rows : l.boxes.rows ++ map (λ one. one.boxes.items) (into_iter_items l.one-iterator) ≡ map (λ one. one.boxes.items) (into_iter_items l.initial.one-iterator);
  slots : l.boxes.slots ≡ l.slots;
  whole : All (λ one. length one.boxes.items ≡ l.slots) (into_iter_items l.one-iterator);
  len : into_iter_len l.one-iterator ≡ length (into_iter_items l.one-iterator);
}
