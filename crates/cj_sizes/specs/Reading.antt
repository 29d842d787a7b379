-- What a file of sizes says, or the first fault of it.
use Rattle.std.specs.Prelude.{ℕ, Bool, if◌then◌else◌, List, [], ◌∷◌, ◌++◌, Result, Ok, Err}
use Rattle.std.specs.List.{list_any}
use Rattle.std.specs.Str.{bytes_eq}
use Rattle.cj_kvn.specs.Lines as kvn
use Rattle.cj_kvn.specs.Lines.{Blank, Comment, Mark, Pair, Row, Numbered}
use Rattle.cj_kvn.specs.Faults.{at_line, lines_or, ◌>>=◌}
use Rattle.cj_kvn.specs.declared.lines.KvnCause.{KvnCause}
use Rattle.cj_kvn.specs.declared.text_fault.LineFault.{LineFault}
use Rattle.cj_formats.specs.declared.sizes_cause.SizesCause.{SizesCause}
use Rattle.cj_formats.specs.declared.sizes_cause.SizesCause.TheVariants as causes
use Rattle.cj_sizes.specs.Rows.{size_of_row}
use Rattle.cj_sizes.specs.Sizes.{Size, ids_of}

-- one of the sizes is given for this id
abbrev pub is_named : List Size → List ℕ → Bool
is_named sizes id = list_any (bytes_eq id) (ids_of sizes)

-- the sizes with a further one, whose id was not given before
abbrev pub with_size : List Size → Size → Result (List Size) SizesCause
with_size before size = if is_named before size.id then Err causes.Twice else Ok (before ++ size ∷ [])

-- the sizes with what a further line says: blank lines and comments say nothing
unfoldable pub with_line : List Size → kvn.Form → Result (List Size) SizesCause
with_line before Blank = Ok before
with_line before Comment = Ok before
with_line before (Mark mark) = Err causes.Form
with_line before (Pair key value) = Err causes.Form
with_line before (Row text) = size_of_row text >>= λ size. with_size before size

-- a fault of a file at its line
abbrev pub Fault : Type 0
Fault = LineFault SizesCause

-- the sizes with what further lines say, or the first fault of these
abbrev pub with_lines : List Size → List Numbered → Result (List Size) Fault
with_lines before [] = Ok before
with_lines before (line ∷ lines) = at_line line.number (with_line before line.form) >>= λ sizes. with_lines sizes lines

-- the sizes with what further lines say; a line without a form comes before what is wrong with an earlier one
abbrev pub sizes_said : List Size → Result (List Numbered) (LineFault KvnCause) → Result (List Size) Fault
sizes_said before said = lines_or causes.Kvn said >>= with_lines before

-- what the bytes of a file of sizes say
unfoldable pub reading : List ℕ → Result (List Size) Fault
reading bytes = sizes_said [] (kvn.reading bytes)
