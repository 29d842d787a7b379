-- The directories of a command line as paths.
use Rattle.std.specs.Prelude.{string_bytes}
use Rattle.std.specs.Option.{option_map}
use Rattle.cj_host.specs.declared.paths.Paths as kept
use Rattle.cj_words.specs.Places.{Located}

-- what paths name
abbrev pub plain_paths : kept.Paths → Located
plain_paths paths = record {
  directory = string_bytes paths.directory;
  certificates = option_map string_bytes paths.certificates;
  results = option_map string_bytes paths.results;
}
