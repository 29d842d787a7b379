-- Keys that are taken some at a time.
use Rattle.std.proofs.Common.{◌≡◌, ℕ, ◌+◌, ◌*◌, ◌≤◌, Bool, Option, List, [], ◌++◌, drop, length, map, take, sym, ap, ◌∙◌, arith, append_assoc}
use Rattle.std.specs.Prelude.{Result}
use Rattle.std.proofs.lemmas.List.{drop-drop, map-append, nil_from_length, length-drop, take-append-drop}
use Rattle.std.proofs.lemmas.List.Concat.{flat_map-append}
use Rattle.cj_case.specs.PlainProblems.{PlainProblem}
use Rattle.cj_case.specs.Cells.{PlainCell}
use Rattle.cj_hermite.specs.Roots.{roots_in}
use Rattle.cj_cert.specs.declared.cert_lines.CellLine.{CellLine}
use Rattle.cj_cert.specs.Certificates.{plain_cell_line}
use Rattle.cj_checker.specs.declared.cell_fault.CellFault.{CellFault}
use Rattle.cj_checker.specs.declared.keys.Key.{Key}
use Rattle.cj_checker.specs.First.{cells_from, Failure}
use Rattle.cj_checker.specs.Keys.{PlainKey, keys_in_rows, plain_key, roots_in_rows, roots_of_keys}
use Rattle.cj_checker.specs.Tiling.{IsTiled, goes_on, keys_at}
use Rattle.cj_checker.proofs.KeyLemmas.{roots_apart}

-- the keys from a turn on are those of the turn and those behind
keys_apart : (keys : List Key) (number : ℕ) → drop (number * 4_096) keys ≡ keys_at number keys ++ drop ((number + 1) * 4_096) keys
keys_apart keys number =
    let next : number * 4_096 + 4_096 ≡ (number + 1) * 4_096 = omega arith in
    sym (take-append-drop 4_096 (drop (number * 4_096) keys))
    ∙ ap (λ (ks : List Key). keys_at number keys ++ ks) (drop-drop 4_096 (number * 4_096) keys ∙ ap (λ (n : ℕ). drop n keys) next)

keys_split : (case : PlainProblem) (front back : List Key) → roots_of_keys case (map plain_key (front ++ back)) ≡ roots_of_keys case (map plain_key front) ++ roots_of_keys case (map plain_key back)
keys_split case front back =
    ap (roots_of_keys case) (map-append plain_key front back)
    ∙ flat_map-append (λ (key : PlainKey). roots_in case key.slot key.a key.b) (map plain_key front) (map plain_key back)

-- with the cells of a turn told, what is left fails as the whole
pub turn_told : {whole : Option Failure} (case : PlainProblem) (keys : List Key) (cells : List CellLine) (number at line : ℕ) (left : List PlainCell) (found : Result ℕ CellFault) → IsTiled case (keys_at number keys) cells at found
    → whole ≡ cells_from case (line + at) (roots_of_keys case (map plain_key (drop (number * 4_096) keys)) ++ left) (drop at (map plain_cell_line cells))
    → whole ≡ goes_on case line (roots_of_keys case (map plain_key (drop ((number + 1) * 4_096) keys)) ++ left) (map plain_cell_line cells) found
turn_told case keys cells number at line left found is so_far =
    let here = roots_of_keys case (map plain_key (keys_at number keys)) in
    let behind = roots_of_keys case (map plain_key (drop ((number + 1) * 4_096) keys)) in
    let apart : roots_of_keys case (map plain_key (drop (number * 4_096) keys)) ++ left ≡ here ++ (behind ++ left) =
    ap (λ (ks : List Key). roots_of_keys case (map plain_key ks) ++ left) (keys_apart keys number)
    ∙ (ap (λ (rs : List PlainCell). rs ++ left) (keys_split case (keys_at number keys) (drop ((number + 1) * 4_096) keys)) ∙ append_assoc here behind left) in
    so_far ∙ (ap (λ (rs : List PlainCell). cells_from case (line + at) rs (drop at (map plain_cell_line cells))) apart ∙ is.tiles line (behind ++ left))

-- no keys are left behind the last turn
pub none_behind : (case : PlainProblem) (keys : List Key) (turns : ℕ) (left : List PlainCell) → length keys ≤ turns * 4_096 → roots_of_keys case (map plain_key (drop (turns * 4_096) keys)) ++ left ≡ left
none_behind case keys turns left le =
    let none : drop (turns * 4_096) keys ≡ [] = nil_from_length _ (omega (arith, length-drop (turns * 4_096) keys)) in
    ap (λ (ks : List Key). roots_of_keys case (map plain_key ks) ++ left) none

-- with the cells of a round told, the whole fails as those that are left do
pub round_told : {whole : Option Failure} (candidate : ℕ → ℕ → ℕ → Bool) (case : PlainProblem) (first end at line : ℕ) (keys : List Key) (cells : List CellLine) (found : Result ℕ CellFault)
    → first ≤ end → end ≤ length case.tracks → map plain_key keys ≡ keys_in_rows candidate case first end → IsTiled case keys cells at found
    → whole ≡ cells_from case (line + at) (roots_in_rows candidate case first (length case.tracks)) (drop at (map plain_cell_line cells))
    → whole ≡ goes_on case line (roots_in_rows candidate case end (length case.tracks)) (map plain_cell_line cells) found
round_told candidate case first end at line keys cells found low high same is so_far =
    let left = roots_in_rows candidate case end (length case.tracks) in
    so_far
    ∙ (ap (λ (rs : List PlainCell). cells_from case (line + at) rs (drop at (map plain_cell_line cells)))
    (roots_apart candidate case first end low high ∙ ap (λ (ks : List PlainKey). roots_of_keys case ks ++ left) (sym same))
    ∙ is.tiles line left)
