-- The grammar of a file of primaries as a whole, and line by line.
use Rattle.std.proofs.Common.{◌≡◌, ℕ, suc, ◌<◌, length, get_or, length-append, arith, Bool, true, false, cond, All, List, [], ◌∷◌, ◌++◌, Result, Ok, Err, Vec, Global, IfOk, MatchResult, bytes_eq, refl, ap, sym, subst, ◌∙◌, append_assoc, append-nil}
use Rattle.std.specs.Cmp.Lexicographic.{nat_list_eq_equiv}
use Rattle.std.specs.List.{AllByRecursion, AllZip, IsDistinct}
use Rattle.std.proofs.Math.ListN.{get_or-append}
use Rattle.std.proofs.Math.Seq.{get_or-append_seam}
use Rattle.std.proofs.lemmas.List.Elements.{All-from_recursion}
use Rattle.std.proofs.lemmas.List.Folds.{list_any_none}
use Rattle.std.proofs.lemmas.Map.Keys.{IsDistinct-push, apart_from_distinct}
use Rattle.cj_kvn.specs.Fields.{fields}
use Rattle.cj_kvn.specs.Lines.{Form, Blank, Comment, Mark, Pair, Row, Numbered, tells, telling}
use Rattle.cj_kvn.specs.Lines as kvn
use Rattle.cj_kvn.specs.Faults.{◌>>=◌, Gives, at_line, lines_or}
use Rattle.cj_kvn.specs.declared.lines.KvnCause.{KvnCause}
use Rattle.cj_kvn.specs.declared.text_fault.LineFault.{LineFault}
use Rattle.cj_kvn.specs.declared.text_fault.TextFault.{TextFault}
use Rattle.cj_kvn.specs.declared.text_fault.TextFault.TheVariants.{Memory, At}
use Rattle.cj_formats.specs.declared.primaries_cause.PrimariesCause.{PrimariesCause}
use Rattle.cj_formats.specs.declared.primaries_cause.PrimariesCause.TheVariants.{Kvn, Twice, Unknown}
use Rattle.cj_sizes.specs.Primaries.{IsRow, Says, has_id, id_of_fields, reading, with_id, with_line, with_lines}

abbrev Ids : Type 0
Ids = List (List ℕ)

-- an object has the designator
abbrev IsOwned : Ids → List ℕ → Type 0
IsOwned known id = has_id known id ≡ true

-- ---- rows

fields_read : (parts : Ids) (id : List ℕ) → id_of_fields parts ≡ Ok id → parts ≡ id ∷ []
fields_read [] id e = absurd cc
fields_read (one ∷ []) id e = let same : one ≡ id = cc in ap (λ (i : List ℕ). i ∷ []) same
fields_read (one ∷ other ∷ rest) id e = absurd cc

row_read : (text id : List ℕ) → id_of_fields (fields text) ≡ Ok id → IsRow (Row text) id
row_read text id e = record { text = text; row = refl; one = fields_read (fields text) id e }

row_again : (text id : List ℕ) → IsRow (Row text) id → id_of_fields (fields text) ≡ Ok id
row_again text id is =
    let same : is.text ≡ text = cc in
    ap (λ (t : List ℕ). id_of_fields (fields t)) (sym same) ∙ ap id_of_fields is.one

-- ---- one line

-- a further designator is taken that was not named, and that an object has
record IsTaken (known before : Ids) (row : Result (List ℕ) PrimariesCause) (next : Ids) : Type 0 where
  id : List ℕ
  read : row ≡ Ok id
  new : has_id before id ≡ false
  owned : IsOwned known id
  more : next ≡ before ++ id ∷ []

taken : (known before next : Ids) (row : Result (List ℕ) PrimariesCause) → (row >>= λ id. with_id known before id) ≡ Ok next → IsTaken known before row next
taken known before next (Ok id) e = at (has_id before id) (has_id known id) refl refl e
  where
    at : (a b : Bool) → has_id before id ≡ a → has_id known id ≡ b → cond a (Err Twice) (cond b (Ok (before ++ id ∷ [])) (Err Unknown)) ≡ Ok next
        → IsTaken known before (Ok id) next
    at true b named had e = absurd cc
    at false true new owned e = record { id = id; read = refl; new = new; owned = owned; more = cc }
    at false false new none e = absurd cc
taken known before next (Err cause) e = absurd cc

-- ids that differ differ with a further one that is not among them
distinct_more : (ids : Ids) (id : List ℕ) → IsDistinct bytes_eq ids → has_id ids id ≡ false → IsDistinct bytes_eq (ids ++ id ∷ [])
distinct_more ids id once new = IsDistinct-push nat_list_eq_equiv ids id once new

-- and where they differ none is among those before it
not_before : (ids more : Ids) (id : List ℕ) → IsDistinct bytes_eq (ids ++ id ∷ more) → has_id ids id ≡ false
not_before ids more id once = list_any_none (bytes_eq id) ids (λ k d h. nat_list_eq_equiv.symm id (get_or ids k d) ∙ apart k d h)
  where
    apart : (k : ℕ) (d : List ℕ) → k < length ids → bytes_eq (get_or ids k d) id ≡ false
    apart k d h =
        let inside : length ids < length (ids ++ id ∷ more) = omega (arith, length-append ids (id ∷ more)) in
        ap (λ (text : List ℕ). bytes_eq text id) (sym (get_or-append ids (id ∷ more) d k h))
        ∙ ap (bytes_eq (get_or (ids ++ id ∷ more) k d)) (sym (get_or-append_seam ids id more d))
        ∙ apart_from_distinct bytes_eq (ids ++ id ∷ more) k (length ids) d once h inside

-- ---- lines

-- lines name designators behind those before
record Add (known before : Ids) (lines : List Form) (all : Ids) : Type 0 where
  more : Ids
  whole : all ≡ before ++ more
  rows : AllZip IsRow lines more
  once : IsDistinct bytes_eq all
  owned : AllByRecursion (IsOwned known) more

-- a line, given what the lines behind it say
line_adds : (known before all : Ids) (number : ℕ) (form : Form) (lines : List Numbered) → IsDistinct bytes_eq before
    → (next : Result Ids PrimariesCause) → with_line known before form ≡ next → at_line number next >>= (λ ids. with_lines known ids lines) ≡ Ok all
    → ((ids : Ids) → IsDistinct bytes_eq ids → with_lines known ids lines ≡ Ok all → Add known ids (telling lines) all)
    → Add known before (cond (tells form) (form ∷ telling lines) (telling lines)) all
unfolding with_line
line_adds known before all number form lines once (Err cause) is e rest = absurd cc
line_adds known before all number Blank lines once (Ok next) is e rest = let same : next ≡ before = cc in rest before once (subst (λ (s : Ids). with_lines known s lines ≡ Ok all) same e)
line_adds known before all number Comment lines once (Ok next) is e rest = let same : next ≡ before = cc in rest before once (subst (λ (s : Ids). with_lines known s lines ≡ Ok all) same e)
line_adds known before all number (Mark mark) lines once (Ok next) is e rest = absurd cc
line_adds known before all number (Pair key value) lines once (Ok next) is e rest = absurd cc
line_adds known before all number (Row text) lines once (Ok next) is e rest =
    let t = taken known before next (id_of_fields (fields text)) is in
    let said = subst (λ (s : Ids). with_lines known s lines ≡ Ok all) t.more e in
    let others = rest (before ++ t.id ∷ []) (distinct_more before t.id once t.new) said in
    record {
      more = t.id ∷ others.more;
      whole = others.whole ∙ append_assoc before (t.id ∷ []) others.more;
      rows = (row_read text t.id t.read, others.rows);
      once = others.once;
      owned = (t.owned, others.owned);
    }

-- what lines say adds the designators of their rows
lines_add : (known before all : Ids) (lines : List Numbered) → IsDistinct bytes_eq before → with_lines known before lines ≡ Ok all → Add known before (telling lines) all
lines_add known before all [] once e =
    let same : all ≡ before = cc in
    record { more = []; whole = same ∙ sym (append-nil before); rows = tt; once = subst (IsDistinct bytes_eq) (sym same) once; owned = tt }
lines_add known before all (line ∷ lines) once e =
    line_adds known before all line.number line.form lines once (with_line known before line.form) refl e (λ ids distinct said. lines_add known ids all lines distinct said)

-- the way back
line_again : (known before more : Ids) (number : ℕ) (form : Form) (lines : List Numbered) → AllZip IsRow (cond (tells form) (form ∷ telling lines) (telling lines)) more
    → IsDistinct bytes_eq (before ++ more) → AllByRecursion (IsOwned known) more
    → ((ids others : Ids) → AllZip IsRow (telling lines) others → IsDistinct bytes_eq (ids ++ others) → AllByRecursion (IsOwned known) others → with_lines known ids lines ≡ Ok (ids ++ others))
    → at_line number (with_line known before form) >>= (λ ids. with_lines known ids lines) ≡ Ok (before ++ more)
unfolding with_line
line_again known before more number Blank lines rows once owned rest = rest before more rows once owned
line_again known before more number Comment lines rows once owned rest = rest before more rows once owned
line_again known before [] number (Mark mark) lines rows once owned rest = absurd rows
line_again known before (id ∷ more) number (Mark mark) lines rows once owned rest = let row = rows.0.row in absurd cc
line_again known before [] number (Pair key value) lines rows once owned rest = absurd rows
line_again known before (id ∷ more) number (Pair key value) lines rows once owned rest = let row = rows.0.row in absurd cc
line_again known before [] number (Row text) lines rows once owned rest = absurd rows
line_again known before (id ∷ more) number (Row text) lines rows once owned rest =
    let flat : (before ++ id ∷ []) ++ more ≡ before ++ id ∷ more = append_assoc before (id ∷ []) more in
    ap (λ (r : Result (List ℕ) PrimariesCause). (at_line number (r >>= λ s. with_id known before s)) >>= (λ ids. with_lines known ids lines)) (row_again text id rows.0)
    ∙ ap (λ (b : Bool). (at_line number (cond b (Err Twice) (cond (has_id known id) (Ok (before ++ id ∷ [])) (Err Unknown)))) >>= (λ ids. with_lines known ids lines)) (not_before before more id once)
    ∙ ap (λ (b : Bool). (at_line number (cond b (Ok (before ++ id ∷ [])) (Err Unknown))) >>= (λ ids. with_lines known ids lines)) owned.0
    ∙ rest (before ++ id ∷ []) more rows.1 (subst (IsDistinct bytes_eq) (sym flat) once) owned.1
    ∙ ap (λ (s : Ids). Ok s) flat

lines_again : (known before more : Ids) (lines : List Numbered) → AllZip IsRow (telling lines) more → IsDistinct bytes_eq (before ++ more) → AllByRecursion (IsOwned known) more
    → with_lines known before lines ≡ Ok (before ++ more)
lines_again known before [] [] rows once owned = ap (λ (s : Ids). Ok s) (sym (append-nil before))
lines_again known before (id ∷ more) [] rows once owned = absurd rows
lines_again known before more (line ∷ lines) rows once owned =
    line_again known before more line.number line.form lines rows once owned (λ ids others r o w. lines_again known ids others lines r o w)

-- ---- files

-- all are owned, one after another
each_owned : (known ids : Ids) → All (IsOwned known) ids → AllByRecursion (IsOwned known) ids
each_owned known [] all = tt
each_owned known (id ∷ ids) all = (all 0 [] (omega arith), each_owned known ids (λ k d h. all (suc k) d (omega (arith, h))))

-- a file that is read says what the grammar says
ids_said_so : (known : Ids) (bytes : List ℕ) (ids : Ids) → reading known bytes ≡ Ok ids → Says known bytes ids
unfolding reading IsDistinct
ids_said_so known bytes ids e = at (kvn.reading bytes) refl e
  where
    at : (read : Result (List Numbered) (LineFault KvnCause)) → kvn.reading bytes ≡ read → lines_or Kvn read >>= with_lines known [] ≡ Ok ids → Says known bytes ids
    at (Ok lines) is e = let added = lines_add known [] ids lines tt e in
        let same : added.more ≡ ids = sym added.whole in
        record {
          lines = lines;
          readable = is;
          rows = subst (AllZip IsRow (telling lines)) same added.rows;
          once = added.once;
          owned = All-from_recursion (IsOwned known) ids (subst (AllByRecursion (IsOwned known)) same added.owned);
        }
    at (Err fault) is e = absurd cc

-- and what the grammar says is read
so_said_ids : (known : Ids) (bytes : List ℕ) (ids : Ids) → Says known bytes ids → reading known bytes ≡ Ok ids
unfolding reading
so_said_ids known bytes ids says =
    ap (λ (r : Result (List Numbered) (LineFault KvnCause)). lines_or Kvn r >>= with_lines known []) says.readable
    ∙ lines_again known [] ids says.lines says.rows says.once (each_owned known ids says.owned)

abbrev pub ids_in : Vec (List ℕ) Global → Ids
ids_in ids = ids.items

-- so a reader that gives what is said gives what the grammar says
pub named_says : (known : Ids) (bytes : List ℕ) (result : Result (Vec (List ℕ) Global) (TextFault PrimariesCause)) → Gives ids_in result (reading known bytes)
    → IfOk result (λ ids. Says known bytes (ids_in ids))
named_says known bytes (Ok ids) e = ids_said_so known bytes (ids_in ids) e
named_says known bytes (Err fault) e = tt

-- and whatever the grammar says, as long as memory lasts
pub says_named : (known : Ids) (bytes : List ℕ) (ids : Ids) (result : Result (Vec (List ℕ) Global) (TextFault PrimariesCause)) → Says known bytes ids → Gives ids_in result (reading known bytes)
    → MatchResult result (λ found. ids_in found ≡ ids) (λ fault. fault ≡ Memory)
says_named known bytes ids (Ok found) says e = let f = so_said_ids known bytes ids says in cc
says_named known bytes ids (Err Memory) says e = refl
says_named known bytes ids (Err (At line cause)) says e = let f = so_said_ids known bytes ids says in absurd cc
