-- What a reader makes of the lines that say something, and how it goes over lines of one kind.
use Rattle.std.proofs.Common.{◌≡◌, ℕ, ◌+◌, List, [], ◌∷◌, ◌++◌, map, Bool, Option, Some, None, Result, Ok, Err, ap, sym, ◌∙◌, refl}
use Rattle.std.proofs.lemmas.List.{append_assoc, append-nil, map-append}
use Rattle.cj_kvn.specs.Lines.{Form, Blank, Comment, Mark, Pair, Row, Numbered, telling}
use Rattle.cj_kvn.proofs.ListLemmas.{last_push}
use Rattle.cj_formats.specs.declared.oem_cause.OemCause.{OemCause}
use Rattle.cj_oem.specs.CovarianceRows.{Covariances}
use Rattle.cj_track.specs.PlainTracks.{PlainSegment, PlainNode}
use Rattle.cj_oem.specs.Grammar.{Entry, pair_lines, row_lines}
use Rattle.cj_kvn.specs.Faults.{◌>>=◌, at_line}
use Rattle.cj_oem.specs.Metadata.{Metadata, MetadataDraft, with_pair}
use Rattle.cj_oem.specs.NodeRows.{state_of_row}
use Rattle.cj_oem.specs.Reading.{Fault, read_on}
use Rattle.cj_oem.specs.Stages.{Body, Head, Stage, Header, Meta, Data, Cov, OpenSegment, end_of, finished, follows, last_state, led, with_head_key}
use Rattle.cj_oem.proofs.HeaderLemmas.{head_from}
use Rattle.cj_oem.proofs.MatrixLemmas.{covariances_from, with_line}
use Rattle.cj_oem.proofs.MetadataLemmas.{sheet_from}
use Rattle.cj_oem.proofs.NodeRowLemmas.{nodes_from}
use Rattle.cj_oem.proofs.StateAgainLemmas.{open_segment}
use Rattle.cj_kvn.proofs.FaultLemmas.{bind_ok}

-- where lines that say something lead from a stage
abbrev pub run : Bool → Stage → List Form → Result Body OemCause
run as_hermite3 stage [] = finished stage
run as_hermite3 stage (form ∷ forms) = led as_hermite3 stage form >>= λ next. run as_hermite3 next forms

-- ---- the lines of a file

-- the cause of a fault, wherever its line is
abbrev pub without_line : {A : Type 0} → Result A Fault → Result A OemCause
without_line (Ok x) = Ok x
without_line (Err fault) = Err fault.cause

at_line_same : {A : Type 0} (number : ℕ) (r : Result A OemCause) → without_line (at_line number r) ≡ r
at_line_same number (Ok x) = refl
at_line_same number (Err cause) = refl

bind_same : {A B : Type 0} (number : ℕ) (r : Result A OemCause) (f : A → Result B Fault) (g : A → Result B OemCause) → ((x : A) → without_line (f x) ≡ g x)
    → without_line (at_line number r >>= f) ≡ (r >>= g)
bind_same number (Ok x) f g h = h x
bind_same number (Err cause) f g h = refl

run_line : (as_hermite3 : Bool) (stage : Stage) (number : ℕ) (form : Form) (lines : List Numbered)
    → ((next : Stage) → without_line (read_on as_hermite3 next (number + 1) lines) ≡ run as_hermite3 next (telling lines))
    → without_line (read_on as_hermite3 stage number (record { number = number; form = form } ∷ lines)) ≡ run as_hermite3 stage (telling (record { number = number; form = form } ∷ lines))
unfolding follows
run_line as_hermite3 stage number Blank lines h = h stage
run_line as_hermite3 stage number Comment lines h = h stage
run_line as_hermite3 stage number (Mark mark) lines h =
    bind_same number (led as_hermite3 stage (Mark mark)) (λ next. read_on as_hermite3 next (number + 1) lines) (λ next. run as_hermite3 next (telling lines)) h
run_line as_hermite3 stage number (Pair key value) lines h =
    bind_same number (led as_hermite3 stage (Pair key value)) (λ next. read_on as_hermite3 next (number + 1) lines) (λ next. run as_hermite3 next (telling lines)) h
run_line as_hermite3 stage number (Row text) lines h =
    bind_same number (led as_hermite3 stage (Row text)) (λ next. read_on as_hermite3 next (number + 1) lines) (λ next. run as_hermite3 next (telling lines)) h

pub run_lines : (as_hermite3 : Bool) (lines : List Numbered) (stage : Stage) (number : ℕ) → without_line (read_on as_hermite3 stage number lines) ≡ run as_hermite3 stage (telling lines)
run_lines as_hermite3 [] stage number = at_line_same number (finished stage)
run_lines as_hermite3 (line ∷ lines) stage number = run_line as_hermite3 stage line.number line.form lines (λ next. run_lines as_hermite3 lines next (line.number + 1))

-- ---- lists

pub end_push : (segments : List PlainSegment) (segment : PlainSegment) → end_of (segments ++ segment ∷ []) ≡ segment.last
end_push segments segment = rw (map-append (λ (a : PlainSegment). a.last) segments (segment ∷ []), last_push None (map (λ (a : PlainSegment). a.last) segments) segment.last) refl

-- ---- lines of one kind

pub run_header : (as_hermite3 : Bool) (entries : List Entry) (h end : Head) (rest : List Form) → head_from h entries ≡ Ok end
    → run as_hermite3 (Header h) (pair_lines entries ++ rest) ≡ run as_hermite3 (Header end) rest
run_header as_hermite3 [] h end rest e = let same : h ≡ end = cc in ap (λ (g : Head). run as_hermite3 (Header g) rest) same
run_header as_hermite3 (entry ∷ entries) h end rest e =
    let step = bind_ok (with_head_key h entry.key) (λ next. head_from next entries) end e in
    ap (λ (r : Result Head OemCause). (r >>= λ head. Ok (Header head)) >>= λ next. run as_hermite3 next (pair_lines entries ++ rest)) step.1
    ∙ run_header as_hermite3 entries step.0 end rest step.2

pub run_meta : (as_hermite3 : Bool) (b : Body) (entries : List Entry) (s end : MetadataDraft) (rest : List Form) → sheet_from b.object s entries ≡ Ok end
    → run as_hermite3 (Meta b s) (pair_lines entries ++ rest) ≡ run as_hermite3 (Meta b end) rest
run_meta as_hermite3 b [] s end rest e = let same : s ≡ end = cc in ap (λ (t : MetadataDraft). run as_hermite3 (Meta b t) rest) same
run_meta as_hermite3 b (entry ∷ entries) s end rest e =
    let step = bind_ok (with_pair b.object s entry.key entry.value) (λ next. sheet_from b.object next entries) end e in
    ap (λ (r : Result MetadataDraft OemCause). (r >>= λ draft. Ok (Meta b draft)) >>= λ next. run as_hermite3 next (pair_lines entries ++ rest)) step.1
    ∙ run_meta as_hermite3 b entries step.0 end rest step.2

pub run_rows : (as_hermite3 : Bool) (b : Body) (metadata : Metadata) (rows : List (List ℕ)) (nodes more : List PlainNode) (rest : List Form) → nodes_from (last_state nodes) rows ≡ Ok more
    → run as_hermite3 (Data b (open_segment metadata nodes)) (row_lines rows ++ rest) ≡ run as_hermite3 (Data b (open_segment metadata (nodes ++ more))) rest
run_rows as_hermite3 b metadata [] nodes more rest e =
    let none : [] ≡ more = cc in
    ap (λ (all : List PlainNode). run as_hermite3 (Data b (open_segment metadata all)) rest) (sym (append-nil nodes) ∙ ap (λ (xs : List PlainNode). nodes ++ xs) none)
run_rows as_hermite3 b metadata (row ∷ rows) nodes more rest e =
    let step = bind_ok (state_of_row (last_state nodes) row) (λ state. nodes_from (Some state) rows >>= λ others. Ok (state ∷ others)) more e in
    let state = step.0 in
    let later = bind_ok (nodes_from (Some state) rows) (λ others. Ok (state ∷ others)) more step.2 in
    let whole : state ∷ later.0 ≡ more = cc (later.2) in
    let read : nodes_from (last_state (nodes ++ state ∷ [])) rows ≡ Ok later.0 = ap (λ (o : Option PlainNode). nodes_from o rows) (last_push None nodes state) ∙ later.1 in
    ap (λ (r : Result PlainNode OemCause). (r >>= λ s. Ok (Data b (open_segment metadata (nodes ++ s ∷ [])))) >>= λ next. run as_hermite3 next (row_lines rows ++ rest)) step.1
    ∙ run_rows as_hermite3 b metadata rows (nodes ++ state ∷ []) later.0 rest read
    ∙ ap (λ (all : List PlainNode). run as_hermite3 (Data b (open_segment metadata all)) rest) (append_assoc nodes (state ∷ []) later.0 ∙ ap (λ (xs : List PlainNode). nodes ++ xs) whole)

run_covariance : (as_hermite3 : Bool) (b : Body) (s : OpenSegment) (line : Form) (m next : Covariances) (rest : List Form) → with_line m line ≡ Ok next
    → run as_hermite3 (Cov b s m) (line ∷ rest) ≡ run as_hermite3 (Cov b s next) rest
run_covariance as_hermite3 b s Blank m next rest e = absurd cc
run_covariance as_hermite3 b s Comment m next rest e = absurd cc
run_covariance as_hermite3 b s (Mark mark) m next rest e = absurd cc
run_covariance as_hermite3 b s (Pair key value) m next rest e =
    ap (λ (r : Result Covariances OemCause). (r >>= λ n. Ok (Cov b s n)) >>= λ stage. run as_hermite3 stage rest) e
run_covariance as_hermite3 b s (Row text) m next rest e =
    ap (λ (r : Result Covariances OemCause). (r >>= λ n. Ok (Cov b s n)) >>= λ stage. run as_hermite3 stage rest) e

pub run_covariances : (as_hermite3 : Bool) (b : Body) (s : OpenSegment) (inner : List Form) (m end : Covariances) (rest : List Form) → covariances_from m inner ≡ Ok end
    → run as_hermite3 (Cov b s m) (inner ++ rest) ≡ run as_hermite3 (Cov b s end) rest
run_covariances as_hermite3 b s [] m end rest e = let same : m ≡ end = cc in ap (λ (n : Covariances). run as_hermite3 (Cov b s n) rest) same
run_covariances as_hermite3 b s (line ∷ inner) m end rest e =
    let step = bind_ok (with_line m line) (λ next. covariances_from next inner) end e in
    run_covariance as_hermite3 b s line m step.0 (inner ++ rest) step.1 ∙ run_covariances as_hermite3 b s inner step.0 end rest step.2
