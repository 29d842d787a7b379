-- What the words of a ledger are, from what its shares have counted.
use Rattle.std.specs.Prelude.{◌≡◌, ℕ, ◌+◌, ◌-◌, ◌*◌, ◌%◌, ◌^◌, ◌<◌, ◌≤◌, zero, suc, List, [], ◌∷◌, ◌++◌, Option, Some, None, nat_lt, bit_and, if◌then◌else◌}
use Rattle.std.specs.List.{sum_by}
use mathlib.Core.Option.{some}
use lib.ListN.{get_elem?}
use Rattle.atomic_table.specs.Table.{State}
use Rattle.cj_ledger.specs.Counts.{nobody}
use Rattle.cj_ledger.specs.declared.count.Count.{Count}
use Rattle.cj_ledger.specs.declared.count.Opening.{Opening}
use Rattle.cj_ledger.specs.declared.why.Why.{Why}
use Rattle.cj_ledger.specs.declared.why.Why.TheVariants.{Cells, Memory}

-- the live cells: roots and first steps of splits less closes, modulo 2^64
abbrev pub live_from : ℕ → ℕ → ℕ → ℕ
live_from roots firsts closes = (roots + firsts + (2 ^ 64 - 1) * closes) % 2 ^ 64

-- the leaves: roots and second steps of splits, modulo 2^64
abbrev pub leaves_from : ℕ → ℕ → ℕ
leaves_from roots seconds = (roots + seconds) % 2 ^ 64

-- a bit, which was set so many times
abbrev pub bit : ℕ → ℕ → ℕ
bit value zero = 0
bit value (suc times) = value

-- the halt bits, of which Cells and Memory were set so many times
abbrev pub halts_from : ℕ → ℕ → ℕ
halts_from cells memory = bit 1 cells + bit 2 memory

-- the cause that halt bits tell: Cells before Memory
abbrev pub why_of : ℕ → Option Why
why_of bits = (if nat_lt 0 (bit_and bits 1) then Some Cells else (if nat_lt 0 (bit_and bits 2) then Some Memory else None))

-- the live cells of shares that have counted this
abbrev pub live_of : List Count → ℕ
live_of vs = live_from (sum_by (λ v. v.roots) vs) (sum_by (λ v. v.firsts) vs) (sum_by (λ v. v.closes) vs)

-- their leaves
abbrev pub leaves_of : List Count → ℕ
leaves_of vs = leaves_from (sum_by (λ v. v.roots) vs) (sum_by (λ v. v.seconds) vs)

-- their halt bits
abbrev pub halts_of : List Count → ℕ
halts_of vs = halts_from (sum_by (λ v. v.cells) vs) (sum_by (λ v. v.memory) vs)

-- the words between two that count, of which no use is made
abbrev pub unused : List ℕ
unused = 0 ∷ 0 ∷ 0 ∷ 0 ∷ 0 ∷ 0 ∷ 0 ∷ 0 ∷ 0 ∷ 0 ∷ 0 ∷ 0 ∷ 0 ∷ 0 ∷ 0 ∷ []

-- the words of a ledger, where its live cells, its leaves and its halt bits are these
abbrev pub laid : ℕ → ℕ → ℕ → List ℕ
laid live leaves halts = live ∷ (unused ++ leaves ∷ (unused ++ halts ∷ []))

-- their words
abbrev pub words_of : List Count → List ℕ
words_of vs = laid (live_of vs) (leaves_of vs) (halts_of vs)

-- a share without parts has counted nothing; each other knows how the ledger was opened, and is in one split at most
pub record Fits (opening : Opening) (v : Count) : Type 0 where
  pub spent : v.parts ≡ 0 → v ≡ nobody
  pub knows : 0 < v.parts → v.opening ≡ opening
  pub splits : (v.seconds ≤ v.firsts) × (v.firsts ≤ v.seconds + 1)

-- What holds between any two steps: the words are sums of counts, and no part and no root is lost.
pub record Kept {S : Type 0} (opening : Opening) (s : State S Count) : Type 0 where
  pub words : s.words ≡ words_of s.views
  pub parts : sum_by (λ v. v.parts) s.views ≡ opening.shares
  pub roots : sum_by (λ v. v.roots) s.views ≡ opening.roots
  pub fits : (i : ℕ) (v : Count) → get_elem? s.views i ≡ some v → Fits opening v

-- who has all parts has all roots, and knows the live cells
abbrev pub KnowsLive : Count → ℕ → Type 0
KnowsLive v value = v.parts ≡ v.opening.shares → (v.roots ≡ v.opening.roots) × (value ≡ live_from v.roots v.firsts v.closes)

-- who has all parts knows the leaves
abbrev pub KnowsLeaves : Count → ℕ → Type 0
KnowsLeaves v value = v.parts ≡ v.opening.shares → value ≡ leaves_from v.roots v.seconds

-- there are two halt bits, and one of them is set where this share set one
abbrev pub KnowsHalts : Count → ℕ → Type 0
KnowsHalts v value = (value < 4) × (0 < v.cells + v.memory → 0 < value)
