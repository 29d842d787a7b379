-- A file of primaries: a designator a line.
use Rattle.std.specs.Prelude.{◌≡◌, ℕ, Bool, if◌then◌else◌, List, [], ◌∷◌, ◌++◌, All, true, Result, Ok, Err}
use Rattle.std.specs.Borrow.{Bor}
use Rattle.std.specs.BTreeSet.{BTreeSet, contains_by}
use Rattle.std.specs.Cmp.Lexicographic.{slice_cmp}
use Rattle.std.specs.Ordering.{nat_cmp}
use Rattle.std.specs.List.{AllZip, IsDistinct, list_any}
use Rattle.std.specs.Str.{bytes_eq}
use Rattle.cj_kvn.specs.Faults.{at_line, lines_or, ◌>>=◌}
use Rattle.cj_kvn.specs.Fields.{fields}
use Rattle.cj_kvn.specs.Lines as kvn
use Rattle.cj_kvn.specs.Lines.{Form, Blank, Comment, Mark, Pair, Row, Numbered, telling}
use Rattle.cj_kvn.specs.declared.lines.KvnCause.{KvnCause}
use Rattle.cj_kvn.specs.declared.text_fault.LineFault.{LineFault}
use Rattle.cj_formats.specs.declared.primaries_cause.PrimariesCause.{PrimariesCause}
use Rattle.cj_formats.specs.declared.primaries_cause.PrimariesCause.TheVariants as causes

-- one of these designators is this
abbrev pub has_id : List (List ℕ) → List ℕ → Bool
has_id ids id = list_any (bytes_eq id) ids

-- a set holds these designators
abbrev pub Holds : BTreeSet (Bor (List ℕ)) → List (List ℕ) → Type 0
Holds set ids = (id : List ℕ) → contains_by (λ key. slice_cmp nat_cmp id key.now) set ≡ has_id ids id

-- ---- what a file says, or the first fault of it, where objects have these designators

-- the designator that the one field of a row is
abbrev pub id_of_fields : List (List ℕ) → Result (List ℕ) PrimariesCause
id_of_fields [] = Err causes.Form
id_of_fields (id ∷ []) = Ok id
id_of_fields (id ∷ other ∷ rest) = Err causes.Form

-- the designators with a further one, which was not named before and which an object has
abbrev pub with_id : List (List ℕ) → List (List ℕ) → List ℕ → Result (List (List ℕ)) PrimariesCause
with_id known before id =
    if has_id before id then Err causes.Twice else if has_id known id then Ok (before ++ id ∷ []) else Err causes.Unknown

-- the designators with what a further line says: blank lines and comments say nothing
unfoldable pub with_line : List (List ℕ) → List (List ℕ) → Form → Result (List (List ℕ)) PrimariesCause
with_line known before Blank = Ok before
with_line known before Comment = Ok before
with_line known before (Mark mark) = Err causes.Form
with_line known before (Pair key value) = Err causes.Form
with_line known before (Row text) = id_of_fields (fields text) >>= λ id. with_id known before id

-- a fault of a file at its line
abbrev pub Fault : Type 0
Fault = LineFault PrimariesCause

-- the designators with what further lines say, or the first fault of these
abbrev pub with_lines : List (List ℕ) → List (List ℕ) → List Numbered → Result (List (List ℕ)) Fault
with_lines known before [] = Ok before
with_lines known before (line ∷ lines) = at_line line.number (with_line known before line.form) >>= λ ids. with_lines known ids lines

-- the same of lines that are read; a line without a form comes before what is wrong with an earlier one
abbrev pub ids_said : List (List ℕ) → List (List ℕ) → Result (List Numbered) (LineFault KvnCause) → Result (List (List ℕ)) Fault
ids_said known before said = lines_or causes.Kvn said >>= with_lines known before

-- what the bytes of a file of primaries say
unfoldable pub reading : List (List ℕ) → List ℕ → Result (List (List ℕ)) Fault
reading known bytes = ids_said known [] (kvn.reading bytes)

-- ---- the grammar

-- a line is the row of a designator
pub record IsRow (line : Form) (id : List ℕ) : Type 0 where
  pub text : List ℕ
  pub row : line ≡ Row text
  pub one : fields text ≡ id ∷ []

-- the bytes are a file of primaries, which names these: no designator stands twice, and an object has each
pub record Says (known : List (List ℕ)) (bytes : List ℕ) (ids : List (List ℕ)) : Type 0 where
  pub lines : List Numbered
  pub readable : kvn.reading bytes ≡ Ok lines
  pub rows : AllZip IsRow (telling lines) ids
  pub once : IsDistinct bytes_eq ids
  pub owned : All (λ id. has_id known id ≡ true) ids
