-- The objects of a catalogue, one more after another.
use Rattle.std.proofs.Common.{◌≡◌, ℕ, suc, ◌+◌, ◌-◌, ◌*◌, List, [], ◌∷◌, ◌++◌, map, ap, sym, ◌∙◌, arith}
use Rattle.std.specs.List.{range_with_len}
use Rattle.std.proofs.lemmas.List.FromFn.{map-range_with_len_more}
use Rattle.cj_io.specs.declared.file.FileBytes.{FileBytes}
use Rattle.cj_gen.specs.declared.orbit.Orbit.{Orbit}
use Rattle.cj_gen.specs.Catalogues.{file_name, file_of}
use Rattle.cj_gen.specs.Draws.{next_state, state_after}
use Rattle.cj_gen.specs.Orbits.{orbit_from}
use Rattle.cj_gen.specs.Texts.{oem_of}

-- three draws more
pub three_more : (seed n : ℕ) → next_state (next_state (next_state (state_after seed (3 * n)))) ≡ state_after seed (3 * (n + 1))
unfolding state_after
three_more seed n =
    let e : suc (suc (suc (3 * n))) ≡ 3 * (n + 1) = omega arith in
    ap (state_after seed) e

-- the files after those of the n objects before
pub file_more : (seed minutes n state : ℕ) (orbit : Orbit) (file : FileBytes) (was now : List FileBytes) → state ≡ state_after seed (3 * n) → orbit ≡ orbit_from state
    → file.name ≡ file_name (n + 1) → file.bytes ≡ oem_of (n + 1) orbit minutes → was ≡ map (file_of seed minutes) (range_with_len 1 n) → now ≡ was ++ file ∷ []
    → now ≡ map (file_of seed minutes) (range_with_len 1 (n + 1))
file_more seed minutes n state orbit file was now es eo en eb before step =
    let next : 1 + n ≡ n + 1 = omega arith in
    let back : n ≡ n + 1 - 1 = omega arith in
    let drawn = eo ∙ ap orbit_from (es ∙ ap (λ (k : ℕ). state_after seed (3 * k)) back) in
    let bytes = eb ∙ ap (λ (o : Orbit). oem_of (n + 1) o minutes) drawn in
    let same : file ≡ file_of seed minutes (n + 1) = λ i. record { name = en i; bytes = bytes i } in
    step
    ∙ ap (λ (fs : List FileBytes). fs ++ file ∷ []) before
    ∙ ap (λ (f : FileBytes). map (file_of seed minutes) (range_with_len 1 n) ++ f ∷ []) same
    ∙ sym (map-range_with_len_more (file_of seed minutes) 1 n (n + 1) next)
