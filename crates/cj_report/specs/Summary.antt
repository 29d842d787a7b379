-- The text of a summary.
use Rattle.std.specs.Prelude.{ℕ, List, [], ◌∷◌, ◌++◌, codes, decimal}
use Rattle.cj_kvn.specs.Entries.{line_of_words}

-- what is counted in a run
pub record Tally : Type 0 where
  -- the objects, their pairs, and the pairs whose shells are parted
  pub objects : ℕ
  pub pairs : ℕ
  pub parted : ℕ
  -- the candidates, summed over all slots
  pub touching : ℕ
  -- the roots, how often they are halved, and the leaves
  pub roots : ℕ
  pub splits : ℕ
  pub leaves : ℕ
  -- the leaves of each kind
  pub far : ℕ
  pub near : ℕ
  pub undecided : ℕ
  pub encounters : ℕ
  pub messages : ℕ

-- a word and a number
abbrev pub count_line : List ℕ → ℕ → List ℕ
count_line word count = line_of_words (word ∷ decimal count ∷ [])

-- the summary: twelve lines
abbrev pub summary_of : Tally → List ℕ
summary_of t =
    count_line (codes "OBJECTS") t.objects
    ++ count_line (codes "PAIRS") t.pairs
    ++ count_line (codes "PARTED") t.parted
    ++ count_line (codes "TOUCHING") t.touching
    ++ count_line (codes "ROOTS") t.roots
    ++ count_line (codes "SPLITS") t.splits
    ++ count_line (codes "LEAVES") t.leaves
    ++ count_line (codes "FAR") t.far
    ++ count_line (codes "NEAR") t.near
    ++ count_line (codes "UNDECIDED") t.undecided
    ++ count_line (codes "ENCOUNTERS") t.encounters
    ++ count_line (codes "MESSAGES") t.messages

-- behind it, where coverage is told: how many objects do not cover the whole window
abbrev pub uncovered_line : ℕ → List ℕ
uncovered_line count = count_line (codes "UNCOVERED") count

-- behind it, of a screening again: how many pairs are kept and unchanged
abbrev pub kept_line : ℕ → List ℕ
kept_line kept = count_line (codes "KEPT") kept

-- the summary of the pairs that are not unchanged alone: the objects, the encounters of these pairs, and that line
abbrev pub changed_summary : ℕ → ℕ → ℕ → List ℕ
changed_summary objects encounters kept = count_line (codes "OBJECTS") objects ++ count_line (codes "ENCOUNTERS") encounters ++ kept_line kept
