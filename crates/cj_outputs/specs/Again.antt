-- A certificate that a run put, among the files of a later check.
use Rattle.std.specs.Prelude.{◌≡◌, ℕ, Bool, false, not, List, [], ◌∷◌, filter, None, Ok}
use Rattle.std.specs.Str.{bytes_eq}
use Rattle.cj_io.specs.declared.file.FileBytes.{FileBytes}
use Rattle.cj_words.specs.Settings.{PlainSettings}
use Rattle.cj_inputs.specs.InputFiles.{apart_of, has_suffix, is_apart}
use Rattle.cj_outputs.specs.Outcome.{accepted_output, output, outputs_checked}

-- the file has this name
abbrev pub has_name : List ℕ → FileBytes → Bool
has_name name file = bytes_eq file.name name

-- the files that do not have it
abbrev pub without_name : List ℕ → List FileBytes → List FileBytes
without_name name files = filter (λ file. not (has_name name file)) files

-- Later files are the same but for those of one name, of which there is one then, with these bytes.
pub record HoldAlso (name bytes : List ℕ) (files later : List FileBytes) : Type 0 where
  pub once : filter (has_name name) later ≡ output name bytes ∷ []
  pub others : without_name name later ≡ without_name name files

-- a name that is neither that of an ephemeris nor that of the file of sizes or of primaries
pub record IsNoInput (settings : PlainSettings) (name : List ℕ) : Type 0 where
  pub suffix : has_suffix settings.suffix name ≡ false
  pub apart : is_apart (apart_of settings) name ≡ false

-- whatever its name, a check of such later files accepts it, which reads one in brief where that is asked
abbrev pub IsAcceptedLater : PlainSettings → Bool → List FileBytes → List ℕ → Type 0
IsAcceptedLater settings brief files bytes = (name : List ℕ) (later : List FileBytes) → IsNoInput settings name → HoldAlso name bytes files later
    → outputs_checked later (record { settings = settings; certificate = name; report = None; update = None; brief = brief }) ≡ Ok (accepted_output ∷ [])
