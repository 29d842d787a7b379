-- Keys: candidates, each with its slot. A row is those with one first object.
use Rattle.std.specs.Prelude.{◌≡◌, ℕ, ◌+◌, ◌-◌, ◌<◌, ◌≤◌, true, Bool, if◌then◌else◌, ◌&&◌, List, [], ◌∷◌, map, length, All, Option}
use Rattle.std.specs.List.{AllPairs, Contains, flat_map, range_with_len}
use Rattle.cj_case.specs.declared.problem.Problem.{Problem}
use Rattle.cj_case.specs.PlainProblems.{PlainProblem, threshold_of}
use Rattle.cj_case.specs.Problems.{plain_problem}
use Rattle.cj_case.specs.Cells.{PlainCell}
use Rattle.cj_hermite.specs.Roots.{roots_in, slots_of}
use Rattle.cj_case.specs.Slots.{slot_count}
use Rattle.cj_case.specs.declared.axis_box.AxisBox.{AxisBox}
use Rattle.cj_case.specs.declared.shells.Shell.{Shell}
use Rattle.cj_bezier.specs.Shells.{keeps, keeps_between}
use Rattle.cj_case.specs.Boxes.{PlainBox, plain_boxes}
use Rattle.cj_bezier.specs.SlotBoxes.{touch_between}
use Rattle.cj_cert.specs.declared.cert_lines.ShellLine.{ShellLine}
use Rattle.cj_cert.specs.declared.certificate.Certificate.{Certificate}
use Rattle.cj_cert.specs.Certificates.{plain_certificate}
use Rattle.cj_cert.specs.Listed.{is_candidate_listed}
use Rattle.cj_checker.specs.declared.keys.Key.{Key}

pub record PlainKey : Type 0 where
  pub a : ℕ
  pub b : ℕ
  pub slot : ℕ

abbrev pub plain_key : Key → PlainKey
plain_key key = record { a = key.a; b = key.b; slot = key.slot }

-- the pairs of n objects in the rows from one to another, in order
abbrev pub pairs_in_rows : ℕ → ℕ → ℕ → List (ℕ × ℕ)
pairs_in_rows n first end = flat_map (λ a. map (λ b. (a, b)) (range_with_len (a + 1) (n - (a + 1)))) (range_with_len first (end - first))

-- the keys of a pair, in order of its slots
abbrev pub keys_of_pair : (ℕ → ℕ → ℕ → Bool) → PlainProblem → ℕ × ℕ → List PlainKey
keys_of_pair candidate case pair = flat_map (λ slot. if candidate pair.0 pair.1 slot then record { a = pair.0; b = pair.1; slot = slot } ∷ [] else []) (slots_of case)

-- the keys of some rows, in order of pair and slot
unfoldable pub keys_in_rows : (ℕ → ℕ → ℕ → Bool) → PlainProblem → ℕ → ℕ → List PlainKey
keys_in_rows candidate case first end = flat_map (keys_of_pair candidate case) (pairs_in_rows (length case.tracks) first end)

-- the roots of keys, one key after another
abbrev pub roots_of_keys : PlainProblem → List PlainKey → List PlainCell
roots_of_keys case keys = flat_map (λ key. roots_in case key.slot key.a key.b) keys

-- the roots of some rows
unfoldable pub roots_in_rows : (ℕ → ℕ → ℕ → Bool) → PlainProblem → ℕ → ℕ → List PlainCell
roots_in_rows candidate case first end = roots_of_keys case (keys_in_rows candidate case first end)

-- ---- as they are found

-- a key of a pair of so many objects in these rows that is a candidate in one of the slots
pub record IsKeyIn (candidate : ℕ → ℕ → ℕ → Bool) (first end objects slots : ℕ) (key : PlainKey) : Type 0 where
  pub ordered : key.a < key.b
  pub exists : key.b < objects
  pub from : first ≤ key.a
  pub to : key.a < end
  pub slot : key.slot < slots
  pub candidates_at : candidate key.a key.b key.slot ≡ true

abbrev pub AreKeysIn : (ℕ → ℕ → ℕ → Bool) → ℕ → ℕ → ℕ → ℕ → List Key → Type 0
AreKeysIn candidate first end objects slots keys = All (λ key. IsKeyIn candidate first end objects slots (plain_key key)) keys

abbrev pub HasKey : List Key → ℕ → ℕ → ℕ → Type 0
HasKey keys a b slot = Contains (map plain_key keys) (record { a = a; b = b; slot = slot })

-- each key of a list is in a later one too
abbrev pub AreKeysKept : List Key → List Key → Type 0
AreKeysKept old new = (a b slot : ℕ) → HasKey old a b slot → HasKey new a b slot

-- a pair is a candidate in a slot by what a certificate lists
abbrev pub is_listed : Problem → Certificate → ℕ → ℕ → ℕ → Bool
is_listed problem cert = is_candidate_listed (plain_problem problem) (plain_certificate cert)

-- a key by what a certificate lists
abbrev pub IsKeyOf : Problem → Certificate → ℕ → ℕ → PlainKey → Type 0
IsKeyOf problem cert first end = IsKeyIn (is_listed problem cert) first end (length problem.tracks) (slot_count problem.window.first.micros problem.window.last.micros)

-- the keys that a certificate gives in some rows, in order
abbrev pub keys_listed : Problem → Certificate → ℕ → ℕ → List PlainKey
keys_listed problem cert first end = keys_in_rows (is_listed problem cert) (plain_problem problem) first end

-- in order of pair and slot, each once
pub record IsKeyBefore (k l : PlainKey) : Type 0 where
  pub first_object : k.a ≤ l.a
  pub second_object : k.a ≡ l.a → k.b ≤ l.b
  pub later : k.a ≡ l.a → k.b ≡ l.b → k.slot < l.slot

abbrev pub AreInOrder : List Key → Type 0
AreInOrder keys = AllPairs IsKeyBefore (map plain_key keys)

-- ---- the pairs of a slot

-- these shells of a pair are not parted, and these boxes of it in a slot touch
abbrev pub close_with : PlainProblem → List (Option Shell) → List (Option PlainBox) → ℕ × ℕ → Bool
close_with case shells boxes pair = keeps (threshold_of case pair.0 pair.1) shells pair && touch_between case.threshold case.sizes boxes pair

-- a pair is a candidate by these shells, and by these boxes of a slot: it has a primary too
abbrev pub candidate_with : PlainProblem → List (Option Shell) → List (Option PlainBox) → ℕ × ℕ → Bool
candidate_with case shells boxes pair = keeps_between case.primaries case.threshold case.sizes shells pair && touch_between case.threshold case.sizes boxes pair

-- the same, as a program keeps them
abbrev pub looks : Problem → List ShellLine → List (Option AxisBox) → ℕ × ℕ → Bool
looks problem shells boxes = candidate_with (plain_problem problem) (map (λ line. line.shell) shells) (plain_boxes boxes)
