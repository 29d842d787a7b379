-- The grammar of a file as a whole, and line by line.
use Rattle.std.proofs.Common.{◌≡◌, ℕ, ◌≤◌, Bool, true, false, cond, List, [], ◌∷◌, ◌++◌, Result, Ok, Err, ℤ, pos, negsuc, bytes_eq, refl, ap, sym, subst, ◌∙◌, append_assoc, append-nil}
use Rattle.std.specs.List.{AllZip, IsDistinct}
use Rattle.std.specs.Bool.{nat_le}
use Rattle.std.proofs.lemmas.Bool.{leb-true, le-leb}
use Rattle.cj_kvn.specs.Fields.{fields}
use Rattle.cj_kvn.specs.Lines.{Form, Blank, Comment, Mark, Pair, Row, Numbered, tells, telling}
use Rattle.cj_kvn.specs.Lines as kvn
use Rattle.cj_kvn.specs.Numbers.{scaled_of}
use Rattle.cj_kvn.specs.declared.lines.KvnCause.{KvnCause}
use Rattle.cj_kvn.specs.declared.text_fault.LineFault.{LineFault}
use Rattle.cj_kvn.specs.declared.numbers.NumFault.{NumFault}
use Rattle.cj_kvn.specs.declared.numbers.NumFault.TheVariants.{NotNumber, TooLarge}
use Rattle.cj_sizes.specs.Grammar.{IsRadius, IsRow, Says}
use Rattle.cj_sizes.specs.Limits.{MAX_RADIUS}
use Rattle.cj_kvn.specs.Faults.{◌>>=◌, at_line, lines_or}
use Rattle.cj_sizes.specs.Reading.{is_named, reading, with_line, with_lines, with_size}
use Rattle.cj_sizes.specs.Rows.{radius_or, radius_said, size_of_fields, size_of_row}
use Rattle.cj_sizes.specs.Sizes.{Size, ids_of}
use Rattle.cj_formats.specs.declared.sizes_cause.SizesCause.{SizesCause}
use Rattle.cj_formats.specs.declared.sizes_cause.SizesCause.TheVariants.{Kvn, Range, Twice}
use Rattle.cj_sizes.proofs.DraftLemmas.{distinct_more, not_named}

-- ---- rows

-- a radius that is read
abbrev number_of : ℕ → Result ℤ NumFault
number_of radius = Ok (pos radius)

radius_read : (number : Result ℤ NumFault) (radius : ℕ) → radius_or number ≡ Ok radius → (number ≡ Ok (pos radius)) × (radius ≤ MAX_RADIUS)
radius_read (Ok (pos n)) radius e = at (nat_le n MAX_RADIUS) refl e
  where
    at : (b : Bool) → nat_le n MAX_RADIUS ≡ b → cond b (Ok n) (Err Range) ≡ Ok radius → (Ok (pos n) ≡ number_of radius) × (radius ≤ MAX_RADIUS)
    at true within e = let same : n ≡ radius = cc in (ap (λ k. Ok (pos k)) same, subst (λ k. k ≤ MAX_RADIUS) same (leb-true n MAX_RADIUS within))
    at false beyond e = absurd cc
radius_read (Ok (negsuc k)) radius e = absurd cc
radius_read (Err TooLarge) radius e = absurd cc
radius_read (Err NotNumber) radius e = absurd cc

-- and the way back
radius_again : (text : List ℕ) (radius : ℕ) → IsRadius text radius → radius_said text ≡ Ok radius
radius_again text radius is = ap radius_or is.value ∙ ap (λ b. cond b (Ok radius) (Err Range)) (le-leb radius MAX_RADIUS is.most)

then_size : (radius : Result ℕ SizesCause) (id : List ℕ) (size : Size) → (radius >>= λ r. Ok (record { id = id; radius = r })) ≡ Ok size → (radius ≡ Ok size.radius) × (id ≡ size.id)
then_size (Ok r) id size e = let same : record { id = id; radius = r } ≡ size = cc in (ap (λ (s : Size). Ok s.radius) same, ap (λ (s : Size). s.id) same)
then_size (Err cause) id size e = absurd cc

-- the two fields of a size
record AreFields (parts : List (List ℕ)) (size : Size) : Type 0 where
  metres : List ℕ
  two : parts ≡ size.id ∷ metres ∷ []
  radius : IsRadius metres size.radius

fields_read : (parts : List (List ℕ)) (size : Size) → size_of_fields parts ≡ Ok size → AreFields parts size
fields_read [] size e = absurd cc
fields_read (id ∷ []) size e = absurd cc
fields_read (id ∷ text ∷ []) size e =
    let said = then_size (radius_said text) id size e in
    let read = radius_read (scaled_of 9 text) size.radius said.0 in
    record { metres = text; two = ap (λ (i : List ℕ). i ∷ text ∷ []) said.1; radius = record { value = read.0; most = read.1 } }
fields_read (id ∷ text ∷ other ∷ rest) size e = absurd cc

row_read : (text : List ℕ) (size : Size) → size_of_row text ≡ Ok size → IsRow (Row text) size
row_read text size e = let parts = fields_read (fields text) size e in record { text = text; metres = parts.metres; row = refl; two = parts.two; radius = parts.radius }

row_again : (text : List ℕ) (size : Size) → IsRow (Row text) size → size_of_row text ≡ Ok size
row_again text size is =
    let same : is.text ≡ text = cc in
    ap (λ (t : List ℕ). size_of_fields (fields t)) (sym same) ∙ ap size_of_fields is.two ∙ ap (λ (r : Result ℕ SizesCause). r >>= λ radius. Ok (record { id = size.id; radius = radius })) (radius_again is.metres size.radius is.radius)

-- ---- one line

-- a further size is taken where its id is not named
record IsTaken (before : List Size) (row : Result Size SizesCause) (next : List Size) : Type 0 where
  size : Size
  read : row ≡ Ok size
  new : is_named before size.id ≡ false
  more : next ≡ before ++ size ∷ []

taken : (before next : List Size) (row : Result Size SizesCause) → (row >>= λ size. with_size before size) ≡ Ok next → IsTaken before row next
taken before next (Ok size) e = at (is_named before size.id) refl e
  where
    at : (b : Bool) → is_named before size.id ≡ b → cond b (Err Twice) (Ok (before ++ size ∷ [])) ≡ Ok next → IsTaken before (Ok size) next
    at true named e = absurd cc
    at false new e = record { size = size; read = refl; new = new; more = cc }
taken before next (Err cause) e = absurd cc

-- ---- lines

-- lines add sizes to those before
record Add (before : List Size) (lines : List Form) (all : List Size) : Type 0 where
  more : List Size
  whole : all ≡ before ++ more
  rows : AllZip IsRow lines more
  once : IsDistinct bytes_eq (ids_of all)

-- a line, given what the lines behind it say
line_adds : (before all : List Size) (number : ℕ) (form : Form) (lines : List Numbered) → IsDistinct bytes_eq (ids_of before)
    → (next : Result (List Size) SizesCause) → with_line before form ≡ next → at_line number next >>= (λ sizes. with_lines sizes lines) ≡ Ok all
    → ((sizes : List Size) → IsDistinct bytes_eq (ids_of sizes) → with_lines sizes lines ≡ Ok all → Add sizes (telling lines) all)
    → Add before (cond (tells form) (form ∷ telling lines) (telling lines)) all
unfolding with_line
line_adds before all number form lines once (Err cause) is e rest = absurd cc
line_adds before all number Blank lines once (Ok next) is e rest = let same : next ≡ before = cc in rest before once (subst (λ (s : List Size). with_lines s lines ≡ Ok all) same e)
line_adds before all number Comment lines once (Ok next) is e rest = let same : next ≡ before = cc in rest before once (subst (λ (s : List Size). with_lines s lines ≡ Ok all) same e)
line_adds before all number (Mark mark) lines once (Ok next) is e rest = absurd cc
line_adds before all number (Pair key value) lines once (Ok next) is e rest = absurd cc
line_adds before all number (Row text) lines once (Ok next) is e rest =
    let t = taken before next (size_of_row text) is in
    let said = subst (λ (s : List Size). with_lines s lines ≡ Ok all) t.more e in
    let others = rest (before ++ t.size ∷ []) (distinct_more before t.size once t.new) said in
    record {
      more = t.size ∷ others.more;
      whole = others.whole ∙ append_assoc before (t.size ∷ []) others.more;
      rows = (row_read text t.size t.read, others.rows);
      once = others.once;
    }

-- what lines say adds the sizes of their rows
lines_add : (before all : List Size) (lines : List Numbered) → IsDistinct bytes_eq (ids_of before) → with_lines before lines ≡ Ok all → Add before (telling lines) all
lines_add before all [] once e =
    let same : all ≡ before = cc in
    record { more = []; whole = same ∙ sym (append-nil before); rows = tt; once = subst (λ (s : List Size). IsDistinct bytes_eq (ids_of s)) (sym same) once }
lines_add before all (line ∷ lines) once e = line_adds before all line.number line.form lines once (with_line before line.form) refl e (λ sizes distinct said. lines_add sizes all lines distinct said)

-- the way back
line_again : (before more : List Size) (number : ℕ) (form : Form) (lines : List Numbered) → AllZip IsRow (cond (tells form) (form ∷ telling lines) (telling lines)) more → IsDistinct bytes_eq (ids_of (before ++ more))
    → ((sizes others : List Size) → AllZip IsRow (telling lines) others → IsDistinct bytes_eq (ids_of (sizes ++ others)) → with_lines sizes lines ≡ Ok (sizes ++ others))
    → at_line number (with_line before form) >>= (λ sizes. with_lines sizes lines) ≡ Ok (before ++ more)
unfolding with_line
line_again before more number Blank lines rows once rest = rest before more rows once
line_again before more number Comment lines rows once rest = rest before more rows once
line_again before [] number (Mark mark) lines rows once rest = absurd rows
line_again before (size ∷ more) number (Mark mark) lines rows once rest = let row = rows.0.row in absurd cc
line_again before [] number (Pair key value) lines rows once rest = absurd rows
line_again before (size ∷ more) number (Pair key value) lines rows once rest = let row = rows.0.row in absurd cc
line_again before [] number (Row text) lines rows once rest = absurd rows
line_again before (size ∷ more) number (Row text) lines rows once rest =
    let flat : (before ++ size ∷ []) ++ more ≡ before ++ size ∷ more = append_assoc before (size ∷ []) more in
    ap (λ (r : Result Size SizesCause). (at_line number (r >>= λ s. with_size before s)) >>= (λ sizes. with_lines sizes lines)) (row_again text size rows.0)
    ∙ ap (λ (b : Bool). (at_line number (cond b (Err Twice) (Ok (before ++ size ∷ [])))) >>= (λ sizes. with_lines sizes lines)) (not_named before more size once)
    ∙ rest (before ++ size ∷ []) more rows.1 (subst (λ (s : List Size). IsDistinct bytes_eq (ids_of s)) (sym flat) once)
    ∙ ap (λ (s : List Size). Ok s) flat

lines_again : (before more : List Size) (lines : List Numbered) → AllZip IsRow (telling lines) more → IsDistinct bytes_eq (ids_of (before ++ more)) → with_lines before lines ≡ Ok (before ++ more)
lines_again before [] [] rows once = ap (λ (s : List Size). Ok s) (sym (append-nil before))
lines_again before (size ∷ more) [] rows once = absurd rows
lines_again before more (line ∷ lines) rows once = line_again before more line.number line.form lines rows once (λ sizes others r o. lines_again sizes others lines r o)

-- ---- files

-- what a file says by its lines
pub by_lines : (bytes : List ℕ) (lines : List Numbered) → kvn.reading bytes ≡ Ok lines → reading bytes ≡ with_lines [] lines
unfolding reading
by_lines bytes lines e = ap (λ (r : Result (List Numbered) (LineFault KvnCause)). lines_or Kvn r >>= with_lines []) e

-- a file that is read says what the grammar says
pub reading_says : (bytes : List ℕ) (sizes : List Size) → reading bytes ≡ Ok sizes → Says bytes sizes
unfolding reading IsDistinct
reading_says bytes sizes e = at (kvn.reading bytes) refl e
  where
    at : (read : Result (List Numbered) (LineFault KvnCause)) → kvn.reading bytes ≡ read → lines_or Kvn read >>= with_lines [] ≡ Ok sizes → Says bytes sizes
    at (Ok lines) is e = let added = lines_add [] sizes lines tt e in
        record { lines = lines; readable = is; rows = subst (AllZip IsRow (telling lines)) (sym added.whole) added.rows; once = added.once }
    at (Err fault) is e = absurd cc

-- and what the grammar says is read
pub says_reading : (bytes : List ℕ) (sizes : List Size) → Says bytes sizes → reading bytes ≡ Ok sizes
says_reading bytes sizes says = by_lines bytes says.lines says.readable ∙ lines_again [] sizes says.lines says.rows says.once
