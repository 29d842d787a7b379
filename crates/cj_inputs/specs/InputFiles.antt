-- The files of a folder whose names end with a suffix, but for the files of sizes and of primaries, in byte order of names, equal names in the folder's order.
use Rattle.std.specs.Prelude.{ℕ, ◌+◌, Bool, false, not, ◌&&◌, ◌||◌, if◌then◌else◌, List, [], ◌∷◌, Option, Some, None, nat_eq}
use Rattle.std.specs.Cmp.Lexicographic.{slice_cmp}
use Rattle.std.specs.declared.cmp.Ordering.{Ordering}
use Rattle.std.specs.Ordering.{nat_cmp, ordering_then}
use Rattle.std.specs.List.{ends_with}
use Rattle.std.specs.Str.{bytes_eq}
use Rattle.cj_inputs.specs.declared.apart.Apart as kept
use Rattle.cj_inputs.specs.declared.input_files.Entry.{Entry}
use Rattle.std.specs.Option.{option_copied}
use Rattle.cj_inputs.specs.Orders.{sorted}
use Rattle.cj_words.specs.Settings.{PlainSettings}

abbrev pub has_suffix : List ℕ → List ℕ → Bool
has_suffix suffix name = ends_with nat_eq name suffix

-- the names of files that are no ephemerides whatever they end with: those of sizes and of primaries, where there are such
pub record PlainApart : Type 0 where
  pub sizes : Option (List ℕ)
  pub primaries : Option (List ℕ)

abbrev pub apart_of : PlainSettings → PlainApart
apart_of settings = record { sizes = settings.sizes; primaries = settings.primaries }

abbrev pub plain_apart : kept.Apart → PlainApart
plain_apart apart = record { sizes = option_copied apart.sizes; primaries = option_copied apart.primaries }

-- no file is
abbrev pub none_apart : PlainApart
none_apart = record { sizes = None; primaries = None }

-- there is this name, and it is the same
abbrev pub has_name : Option (List ℕ) → List ℕ → Bool
has_name None name = false
has_name (Some other) name = bytes_eq name other

abbrev pub is_apart : PlainApart → List ℕ → Bool
is_apart apart name = has_name apart.sizes name || has_name apart.primaries name

abbrev pub is_taken : List ℕ → PlainApart → List ℕ → Bool
is_taken suffix apart name = has_suffix suffix name && not (is_apart apart name)

-- the names that are taken, each with its number, from a number on
abbrev pub entries_from : List ℕ → PlainApart → ℕ → List (List ℕ) → List Entry
entries_from suffix apart number [] = []
entries_from suffix apart number (name ∷ names) =
    if is_taken suffix apart name then record { name = name; number = number } ∷ entries_from suffix apart (number + 1) names
    else entries_from suffix apart (number + 1) names

-- by name, and then by number
abbrev pub entry_cmp : Entry → Entry → Ordering
entry_cmp a b = ordering_then (slice_cmp nat_cmp a.name b.name) (nat_cmp a.number b.number)

-- the files that are taken, of a folder with these names
unfoldable pub inputs_of : List ℕ → PlainApart → List (List ℕ) → List Entry
inputs_of suffix apart names = sorted entry_cmp (entries_from suffix apart 0 names)
