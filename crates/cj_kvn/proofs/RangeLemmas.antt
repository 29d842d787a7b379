-- Parts of a part.
use Rattle.std.proofs.Common.{◌≡◌, ℕ, ◌+◌, ◌-◌, ◌≤◌, List, take, drop, length, arith, ap, sym, ◌∙◌, inl, inr}
use Rattle.std.specs.Prelude.{slice_range}
use Rattle.std.proofs.lemmas.Bool.Decides.{leb_tells}
use Rattle.std.proofs.lemmas.List.{drop-drop, drop-take, drop_all, length-take, length-drop, take-take}

-- without the first n bytes
pub slice_drop : (bytes : List ℕ) (a b n : ℕ) → slice_range bytes (a + n) b ≡ drop n (slice_range bytes a b)
slice_drop bytes a b n = elim (leb_tells n (b - a)) [
  | inl h ↦
      let m = b - (a + n) in
      let long : n + m ≡ b - a = omega arith in
      ap (take m) (sym (drop-drop n a bytes)) ∙ sym (drop-take n m (drop a bytes)) ∙ ap (λ (k : ℕ). drop n (take k (drop a bytes))) long
  | inr h ↦
      let none : b - (a + n) ≡ 0 = omega arith in
      ap (λ (k : ℕ). take k (drop (a + n) bytes)) none ∙ sym (drop_all n (slice_range bytes a b) (omega (arith, length-take (b - a) (drop a bytes))))
]

-- the first n bytes alone
pub slice_take : (bytes : List ℕ) (a b n : ℕ) → a + n ≤ b → slice_range bytes a (a + n) ≡ take n (slice_range bytes a b)
slice_take bytes a b n within =
    let long : a + n - a ≡ n = omega arith in
    ap (λ (k : ℕ). take k (drop a bytes)) long ∙ sym (take-take n (b - a) (drop a bytes) (omega arith))

pub slice_length : (bytes : List ℕ) (a b : ℕ) → a ≤ b → b ≤ length bytes → a + length (slice_range bytes a b) ≡ b
slice_length bytes a b ordered inside = omega (arith, length-take (b - a) (drop a bytes), length-drop a bytes)
