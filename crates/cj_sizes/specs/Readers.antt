-- How a reader of sizes answers what a file says.
use Rattle.std.specs.Prelude.{◌≡◌, ℕ, List}
use Rattle.std.specs.Borrow.{Bor}
use Rattle.std.specs.BTreeSet.{BTreeSet, contains_by}
use Rattle.std.specs.Cmp.Lexicographic.{slice_cmp}
use Rattle.std.specs.Ordering.{nat_cmp}
use Rattle.cj_sizes.specs.declared.row.Row.{Row}
use Rattle.cj_sizes.specs.Reading.{is_named}
use Rattle.cj_sizes.specs.Sizes.{Size}

abbrev pub row_of : Row → Size
row_of row = record { id = row.id.now; radius = row.radius }

-- the set holds the designators of the sizes
abbrev pub HasIds : BTreeSet (Bor (List ℕ)) → List Size → Type 0
HasIds ids sizes = (id : List ℕ) → contains_by (λ key. slice_cmp nat_cmp id key.now) ids ≡ is_named sizes id
