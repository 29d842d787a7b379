-- The files of its directory that a run reads.
use Rattle.std.specs.Prelude.{ℕ, Bool, false, ◌||◌, List, Option, Some, None, Result, Ok, Err, nat_eq}
use Rattle.std.specs.List.{ends_with}
use Rattle.std.specs.Option.{option_copied}
use Rattle.std.specs.Str.{bytes_eq}
use Rattle.cj_host.specs.declared.inputs.Inputs as kept
use Rattle.cj_words.specs.Commands.{PlainCommand, Screens, Checks, Generates, Selfruns, Rewrites, Thins, Rescreens}
use Rattle.cj_words.specs.Settings.{PlainSettings}
use Rattle.cj_words.specs.declared.option.UsageFault.{UsageFault}

-- which files are read: those whose names end with the suffix or with the update suffix, those of sizes and of primaries, and the report that is checked
pub record Reads : Type 0 where
  pub suffix : Option (List ℕ)
  pub update : Option (List ℕ)
  pub sizes : Option (List ℕ)
  pub primaries : Option (List ℕ)
  pub report : Option (List ℕ)

abbrev pub plain_inputs : kept.Inputs → Reads
plain_inputs inputs = record {
  suffix = option_copied inputs.suffix;
  update = option_copied inputs.update;
  sizes = option_copied inputs.sizes;
  primaries = option_copied inputs.primaries;
  report = option_copied inputs.report;
}

-- no file
abbrev pub nothing : Reads
nothing = record { suffix = None; update = None; sizes = None; primaries = None; report = None }

abbrev pub reads_asked : PlainSettings → Option (List ℕ) → Option (List ℕ) → Reads
reads_asked asked update report = record { suffix = Some asked.suffix; update = update; sizes = asked.sizes; primaries = asked.primaries; report = report }

-- What a command reads. The certificate of a rewriting is left out: the one output that takes the place of a file may take that of the
-- certificate from which it is made.
abbrev pub reads_of : Result PlainCommand UsageFault → Reads
reads_of (Ok (Screens screening)) = reads_asked screening.settings None None
reads_of (Ok (Checks checking)) = reads_asked checking.settings checking.update checking.report
reads_of (Ok (Rewrites checking)) = reads_asked checking.settings checking.update None
reads_of (Ok (Rescreens rescreening)) = reads_asked rescreening.screening.settings (Some rescreening.update) None
reads_of (Ok (Thins thinning)) = record { suffix = Some thinning.suffix; update = None; sizes = None; primaries = None; report = None }
reads_of (Ok (Generates recipe)) = nothing
reads_of (Ok (Selfruns selfrun)) = nothing
reads_of (Err fault) = nothing

abbrev pub has_suffix : Option (List ℕ) → List ℕ → Bool
has_suffix None name = false
has_suffix (Some suffix) name = ends_with nat_eq name suffix

abbrev pub has_name : Option (List ℕ) → List ℕ → Bool
has_name None name = false
has_name (Some other) name = bytes_eq name other

-- a file of this name is read
abbrev pub is_read : Reads → List ℕ → Bool
is_read reads name =
    has_suffix reads.suffix name
    || (has_suffix reads.update name || (has_name reads.sizes name || (has_name reads.primaries name || has_name reads.report name)))
