-- The parts of a command line.
use Rattle.std.specs.Prelude.{ℕ, if◌then◌else◌, List, [], ◌∷◌, Option, Some, None, codes}
use Rattle.std.specs.Str.{bytes_eq}
use Rattle.cj_words.specs.declared.command.Verb.{Verb}
use Rattle.cj_words.specs.declared.command.Verb.TheVariants.{Screen, Check, Generate, Selfrun, Rewrite, Thin, Rescreen}
use Rattle.cj_words.specs.declared.line.Line as kept
use Rattle.cj_words.specs.Options.{is_value}

-- the command, its directory, and the words behind them, which are to be its options
pub record Line : Type 0 where
  pub verb : Verb
  pub directory : List ℕ
  pub options : List (List ℕ)

abbrev pub plain_line : kept.Line → Line
plain_line l = record { verb = l.verb; directory = l.directory.now; options = l.options.now }

-- the command that a word names
abbrev pub verb_of : List ℕ → Option Verb
verb_of word =
    if bytes_eq word (codes "screen") then Some Screen
    else if bytes_eq word (codes "check") then Some Check
    else if bytes_eq word (codes "generate") then Some Generate
    else if bytes_eq word (codes "selfrun") then Some Selfrun
    else if bytes_eq word (codes "rewrite") then Some Rewrite
    else if bytes_eq word (codes "thin") then Some Thin
    else if bytes_eq word (codes "rescreen") then Some Rescreen
    else None

-- a command that names a directory, none where no word is one
abbrev pub with_directory : Verb → List (List ℕ) → Option Line
with_directory verb [] = None
with_directory verb (directory ∷ options) = if is_value directory then Some (record { verb = verb; directory = directory; options = options }) else None

-- a command with the words behind it: a selfrun has no directory of its own, and stands in the current one
abbrev pub line_behind : Option Verb → List (List ℕ) → Option Line
line_behind None words = None
line_behind (Some Screen) words = with_directory Screen words
line_behind (Some Check) words = with_directory Check words
line_behind (Some Generate) words = with_directory Generate words
line_behind (Some Selfrun) words = Some (record { verb = Selfrun; directory = codes "."; options = words })
line_behind (Some Rewrite) words = with_directory Rewrite words
line_behind (Some Thin) words = with_directory Thin words
line_behind (Some Rescreen) words = with_directory Rescreen words

-- the parts of words that begin with a command, and with a directory where the command has one
abbrev pub line_of : List (List ℕ) → Option Line
line_of [] = None
line_of (word ∷ words) = line_behind (verb_of word) words
