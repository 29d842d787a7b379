-- The lines of covariances.
use Rattle.std.specs.Prelude.{ℕ, ◌+◌, Bool, true, false, ◌||◌, not, ◌==◌, nat_lt, if◌then◌else◌, List, [], ◌∷◌, ◌++◌, length, Option, Some, None, Result, Ok, Err, codes}
use Rattle.cj_kvn.specs.Fields.{fields}
use Rattle.cj_base.specs.Numbers.{Number}
use Rattle.cj_kvn.specs.Decimals.{decimal_of}
use Rattle.cj_kvn.specs.declared.numbers.NumFault.{NumFault}
use Rattle.cj_formats.specs.declared.oem_cause.OemCause.{OemCause}
use Rattle.cj_formats.specs.declared.oem_cause.OemCause.TheVariants as causes
use Rattle.cj_oem.specs.Words.{is_text, is_word}
use Rattle.cj_track.specs.PlainTracks.{PlainMatrix}
use Rattle.cj_kvn.specs.Faults.{◌>>=◌}
use Rattle.cj_oem.specs.Metadata.{unless, parse_epoch}

-- a matrix so far: its epoch, whether its frame was given and is RTN, how many rows were read, their values
pub record CovarianceDraft : Type 0 where
  pub at : ℕ
  pub framed : Bool
  pub rtn : Bool
  pub rows : ℕ
  pub values : List Number

-- the covariances of a segment so far: those that are whole and in RTN, and the one that is being read
pub record Covariances : Type 0 where
  pub whole : List PlainMatrix
  pub draft : Option CovarianceDraft

abbrev pub NO_COVARIANCES : Covariances
NO_COVARIANCES = record { whole = []; draft = None }

-- a whole matrix stands behind the others, where its frame is RTN
abbrev pub with_whole : List PlainMatrix → CovarianceDraft → List PlainMatrix
with_whole whole d = if d.rtn then whole ++ record { at = d.at; values = d.values } ∷ [] else whole

-- the matrices where the last one has its six rows
abbrev pub closed_with : List PlainMatrix → Option CovarianceDraft → Result (List PlainMatrix) OemCause
closed_with whole None = Ok whole
closed_with whole (Some d) = if d.rows == 6 then Ok (with_whole whole d) else Err causes.MatrixForm

unfoldable pub closed : Covariances → Result (List PlainMatrix) OemCause
closed m = closed_with m.whole m.draft

-- a matrix begins
abbrev pub with_epoch : Covariances → List ℕ → Result Covariances OemCause
with_epoch m value = do
  whole ← closed m
  at ← parse_epoch value
  Ok (record { whole = whole; draft = Some (record { at = at; framed = false; rtn = false; rows = 0; values = [] }) })

-- the frame of a matrix that has no row
abbrev pub with_frame : Option CovarianceDraft → List ℕ → Result CovarianceDraft OemCause
with_frame None value = Err causes.MatrixForm
with_frame (Some d) value =
    if d.framed || nat_lt 0 d.rows then Err causes.MatrixForm
    else Ok (record d { framed = true; rtn = is_word (codes "RTN") value })

-- the matrices with a further pair
unfoldable pub with_matrix_pair : Covariances → List ℕ → List ℕ → Result Covariances OemCause
with_matrix_pair m key value =
    if is_text (codes "EPOCH") key then with_epoch m value
    else if is_text (codes "COV_REF_FRAME") key then (with_frame m.draft value >>= λ d. Ok (record m { draft = Some d }))
    else Err causes.Unknown

-- the number of a field
abbrev pub number_or : Result Number NumFault → Result Number OemCause
number_or (Ok n) = Ok n
number_or (Err e) = Err causes.Number

abbrev pub numbers_said : List (List ℕ) → Result (List Number) OemCause
numbers_said [] = Ok []
numbers_said (text ∷ row) = do
  n ← number_or (decimal_of text)
  others ← numbers_said row
  Ok (n ∷ others)

-- a matrix with its next row, which has one field more than the row before
abbrev pub with_fields : Option CovarianceDraft → List (List ℕ) → Result CovarianceDraft OemCause
with_fields None row = Err causes.MatrixForm
with_fields (Some d) row = do
  _ ← unless ((d.rows == 6) || not (length row == d.rows + 1)) causes.MatrixForm
  numbers ← numbers_said row
  Ok (record d { rows = d.rows + 1; values = d.values ++ numbers })

unfoldable pub with_matrix_row : Covariances → List ℕ → Result Covariances OemCause
with_matrix_row m text = with_fields m.draft (fields text) >>= λ d. Ok (record m { draft = Some d })
