-- There are fewer nodes than lines, and a file that is accepted has an object and a segment.
use Rattle.std.proofs.Common.{◌≡◌, ℕ, suc, ◌+◌, ◌<◌, ◌≤◌, List, [], ◌∷◌, map, length, Bool, true, false, sum_by, IfOk, IsSome, Result, Ok, Err, arith, ap, sym, ◌∙◌, refl, subst, ap₂}
use Rattle.std.specs.Prelude.{if◌then◌else◌, ◌==◌, ◌&&◌, codes}
use Rattle.std.specs.List.{slice_split}
use Rattle.std.specs.Str.Lines.{lines, lines_of_parts}
use Rattle.std.proofs.lemmas.List.{length-append, length-map}
use Rattle.std.proofs.lemmas.List.Splits.{length-slice_split}
use Rattle.std.proofs.lemmas.List.Sums.{count_by-le-length, sum_by-cons, sum_by_push}
use Rattle.std.proofs.lemmas.Result.{IfOk-at_ok, IfOk-weaker}
use Rattle.cj_kvn.specs.Lines as kvn
use Rattle.cj_kvn.specs.Lines.{Form, Blank, Comment, Mark, Pair, Row, Numbered}
use Rattle.cj_kvn.specs.declared.lines.KvnCause.{KvnCause}
use Rattle.cj_kvn.specs.declared.text_fault.LineFault.{LineFault}
use Rattle.cj_kvn.specs.declared.lines.MarkKind.TheVariants.{MetaStart, MetaStop, CovarianceStart, CovarianceStop}
use Rattle.cj_track.specs.declared.segment.Segment.{Segment}
use Rattle.cj_formats.specs.declared.oem_cause.OemCause.{OemCause}
use Rattle.cj_track.specs.PlainTracks.{PlainSegment, PlainMatrix}
use Rattle.cj_oem.specs.Words.{is_text}
use Rattle.cj_oem.specs.Metadata.{MetadataDraft, metadata_of, with_pair}
use Rattle.cj_oem.specs.NodeRows.{state_of_row}
use Rattle.cj_oem.specs.CovarianceRows.{Covariances, closed, with_matrix_pair, with_matrix_row}
use Rattle.cj_kvn.specs.Faults.{at_line, ◌>>=◌}
use Rattle.cj_oem.specs.Reading.{Fault, read_on}
use Rattle.cj_track.specs.Segments.{node_count}
use Rattle.cj_oem.specs.Stages.{Body, Head, Stage, Start, Header, Meta, Data, Cov, After, OpenSegment, NO_HEAD, begun, close_nodes, finished, follows, in_after, in_cov, in_data, in_header, in_meta, is_version, last_state, led, with_segment, with_head_key}
use Rattle.cj_track.specs.Tracks.{plain_segment, plain_node}
use Rattle.cj_oem.proofs.StepLemmas.{if_ok_cond, if_ok_then}

-- how many nodes segments have
abbrev pub nodes_in : List PlainSegment → ℕ
nodes_in segments = sum_by (λ segment. length segment.nodes) segments

-- how many nodes were read
abbrev pub nodes_of : Stage → ℕ
nodes_of Start = 0
nodes_of (Header h) = 0
nodes_of (Meta b s) = nodes_in b.segments
nodes_of (Data b s) = nodes_in b.segments + length s.nodes
nodes_of (Cov b s m) = nodes_in b.segments + length s.nodes
nodes_of (After b) = nodes_in b.segments

-- an object is named, and a segment is whole
abbrev pub IsWhole : Body → Type 0
IsWhole b = IsSome b.object × (1 ≤ length b.segments)

-- behind covariances that is so
abbrev pub IsSound : Stage → Type 0
IsSound Start = Unit {0}
IsSound (Header h) = Unit {0}
IsSound (Meta b s) = Unit {0}
IsSound (Data b s) = Unit {0}
IsSound (Cov b s m) = Unit {0}
IsSound (After b) = IsWhole b

-- ---- one line

nodes_with_segment : (b : Body) (s : OpenSegment) (covariances : List PlainMatrix) → nodes_in (with_segment b s covariances).segments ≡ nodes_in b.segments + length s.nodes
nodes_with_segment b s covariances = sum_by_push (λ (segment : PlainSegment). length segment.nodes) b.segments (record { first = s.metadata.first; last = s.metadata.last; nodes = s.nodes; covariances = covariances })

whole_with_segment : (b : Body) (s : OpenSegment) (covariances : List PlainMatrix) → IsWhole (with_segment b s covariances)
whole_with_segment b s covariances = (refl, omega (arith, length-append b.segments (record { first = s.metadata.first; last = s.metadata.last; nodes = s.nodes; covariances = covariances } ∷ [])))

-- what a line leads to has at most one node more, and is sound
record IsNext (nodes : ℕ) (next : Stage) : Type 0 where
  few : nodes_of next ≤ nodes + 1
  sound : IsSound next

abbrev IsBegun : Stage → Type 0
IsBegun next = nodes_of next ≡ 0

begun_step : (form : Form) → IfOk (begun form) (IsNext 0)
begun_step Blank = tt
begun_step Comment = tt
begun_step (Mark mark) = tt
begun_step (Pair key value) =
    let next : IsNext 0 (Header NO_HEAD) = record { few = omega arith; sound = tt } in
    if_ok_cond (IsNext 0) (is_text (codes "CCSDS_OEM_VERS") key) _ _ (if_ok_cond (IsNext 0) (is_version value) _ _ next tt) tt
begun_step (Row text) = tt

begun_with_none : (form : Form) → IfOk (begun form) IsBegun
begun_with_none Blank = tt
begun_with_none Comment = tt
begun_with_none (Mark mark) = tt
begun_with_none (Pair key value) = if_ok_cond IsBegun (is_text (codes "CCSDS_OEM_VERS") key) _ _ (if_ok_cond IsBegun (is_version value) _ _ refl tt) tt
begun_with_none (Row text) = tt

header_step : (h : Head) (form : Form) → IfOk (in_header h form) (IsNext 0)
header_step h Blank = tt
header_step h Comment = tt
header_step h (Mark MetaStart) = if_ok_cond (IsNext 0) (h.date && h.originator) _ _ (record { few = omega arith; sound = tt }) tt
header_step h (Mark MetaStop) = tt
header_step h (Mark CovarianceStart) = tt
header_step h (Mark CovarianceStop) = tt
header_step h (Pair key value) = if_ok_then (IsNext 0) (with_head_key h key) _ (λ head. record { few = omega arith; sound = tt })
header_step h (Row text) = tt

meta_step : (as_hermite3 : Bool) (b : Body) (s : MetadataDraft) (form : Form) → IfOk (in_meta as_hermite3 b s form) (IsNext (nodes_in b.segments))
meta_step as_hermite3 b s Blank = tt
meta_step as_hermite3 b s Comment = tt
meta_step as_hermite3 b s (Mark MetaStart) = tt
meta_step as_hermite3 b s (Mark MetaStop) = if_ok_then (IsNext (nodes_in b.segments)) (metadata_of as_hermite3 s) _ (λ metadata. record { few = omega arith; sound = tt })
meta_step as_hermite3 b s (Mark CovarianceStart) = tt
meta_step as_hermite3 b s (Mark CovarianceStop) = tt
meta_step as_hermite3 b s (Pair key value) = if_ok_then (IsNext (nodes_in b.segments)) (with_pair b.object s key value) _ (λ draft. record { few = omega arith; sound = tt })
meta_step as_hermite3 b s (Row text) = tt

data_step : (b : Body) (s : OpenSegment) (form : Form) → IfOk (in_data b s form) (IsNext (nodes_in b.segments + length s.nodes))
data_step b s Blank = tt
data_step b s Comment = tt
data_step b s (Mark MetaStart) =
    if_ok_then (IsNext (nodes_in b.segments + length s.nodes)) (close_nodes b s) _ (λ _. record { few = omega (arith, nodes_with_segment b s []); sound = tt })
data_step b s (Mark MetaStop) = tt
data_step b s (Mark CovarianceStart) = if_ok_then (IsNext (nodes_in b.segments + length s.nodes)) (close_nodes b s) _ (λ _. record { few = omega arith; sound = tt })
data_step b s (Mark CovarianceStop) = tt
data_step b s (Pair key value) = tt
data_step b s (Row text) =
    if_ok_then (IsNext (nodes_in b.segments + length s.nodes)) (state_of_row (last_state s.nodes) text) _
    (λ state. record { few = omega (arith, length-append s.nodes (state ∷ [])); sound = tt })

cov_step : (b : Body) (s : OpenSegment) (m : Covariances) (form : Form) → IfOk (in_cov b s m form) (IsNext (nodes_in b.segments + length s.nodes))
cov_step b s m Blank = tt
cov_step b s m Comment = tt
cov_step b s m (Mark MetaStart) = tt
cov_step b s m (Mark MetaStop) = tt
cov_step b s m (Mark CovarianceStart) = tt
cov_step b s m (Mark CovarianceStop) =
    if_ok_then (IsNext (nodes_in b.segments + length s.nodes)) (closed m) _
    (λ covariances. record { few = omega (arith, nodes_with_segment b s covariances); sound = whole_with_segment b s covariances })
cov_step b s m (Pair key value) = if_ok_then (IsNext (nodes_in b.segments + length s.nodes)) (with_matrix_pair m key value) _ (λ next. record { few = omega arith; sound = tt })
cov_step b s m (Row text) = if_ok_then (IsNext (nodes_in b.segments + length s.nodes)) (with_matrix_row m text) _ (λ next. record { few = omega arith; sound = tt })

after_step : (b : Body) (form : Form) → IfOk (in_after b form) (IsNext (nodes_in b.segments))
after_step b Blank = tt
after_step b Comment = tt
after_step b (Mark MetaStart) = record { few = omega arith; sound = tt }
after_step b (Mark MetaStop) = tt
after_step b (Mark CovarianceStart) = tt
after_step b (Mark CovarianceStop) = tt
after_step b (Pair key value) = tt
after_step b (Row text) = tt

led_step : (as_hermite3 : Bool) (stage : Stage) (form : Form) → IfOk (led as_hermite3 stage form) (IsNext (nodes_of stage))
led_step as_hermite3 Start form = begun_step form
led_step as_hermite3 (Header h) form = header_step h form
led_step as_hermite3 (Meta b s) form = meta_step as_hermite3 b s form
led_step as_hermite3 (Data b s) form = data_step b s form
led_step as_hermite3 (Cov b s m) form = cov_step b s m form
led_step as_hermite3 (After b) form = after_step b form

line_step : (as_hermite3 : Bool) (stage : Stage) (form : Form) → IsSound stage → IfOk (follows as_hermite3 stage form) (IsNext (nodes_of stage))
unfolding follows
line_step as_hermite3 stage Blank sound = record { few = omega arith; sound = sound }
line_step as_hermite3 stage Comment sound = record { few = omega arith; sound = sound }
line_step as_hermite3 stage (Mark mark) sound = led_step as_hermite3 stage (Mark mark)
line_step as_hermite3 stage (Pair key value) sound = led_step as_hermite3 stage (Pair key value)
line_step as_hermite3 stage (Row text) sound = led_step as_hermite3 stage (Row text)

-- the first line gives no node
first_step : (as_hermite3 : Bool) (form : Form) → IfOk (follows as_hermite3 Start form) IsBegun
unfolding follows
first_step as_hermite3 Blank = refl
first_step as_hermite3 Comment = refl
first_step as_hermite3 (Mark mark) = begun_with_none (Mark mark)
first_step as_hermite3 (Pair key value) = begun_with_none (Pair key value)
first_step as_hermite3 (Row text) = begun_with_none (Row text)

-- what the end of the file leads to
record IsRead (nodes : ℕ) (body : Body) : Type 0 where
  same : nodes_in body.segments ≡ nodes
  whole : IsWhole body

end_step : (stage : Stage) → IsSound stage → IfOk (finished stage) (IsRead (nodes_of stage))
unfolding finished
end_step Start sound = tt
end_step (Header h) sound = tt
end_step (Meta b s) sound = tt
end_step (Data b s) sound =
    if_ok_then (IsRead (nodes_in b.segments + length s.nodes)) (close_nodes b s) _ (λ _. record { same = nodes_with_segment b s []; whole = whole_with_segment b s [] })
end_step (Cov b s m) sound = tt
end_step (After b) sound = record { same = refl; whole = sound }

pub follows_few : (as_hermite3 : Bool) (stage : Stage) (form : Form) (next : Stage) → follows as_hermite3 stage form ≡ Ok next → nodes_of next ≤ nodes_of stage + 1
unfolding follows
follows_few as_hermite3 stage Blank next e = let same : stage ≡ next = cc in subst (λ (s : Stage). nodes_of s ≤ nodes_of stage + 1) same (omega arith)
follows_few as_hermite3 stage Comment next e = let same : stage ≡ next = cc in subst (λ (s : Stage). nodes_of s ≤ nodes_of stage + 1) same (omega arith)
follows_few as_hermite3 stage (Mark mark) next e = (IfOk-at_ok (IsNext (nodes_of stage)) e (led_step as_hermite3 stage (Mark mark))).few
follows_few as_hermite3 stage (Pair key value) next e = (IfOk-at_ok (IsNext (nodes_of stage)) e (led_step as_hermite3 stage (Pair key value))).few
follows_few as_hermite3 stage (Row text) next e = (IfOk-at_ok (IsNext (nodes_of stage)) e (led_step as_hermite3 stage (Row text))).few

pub finished_same : (stage : Stage) (body : Body) → finished stage ≡ Ok body → nodes_in body.segments ≡ nodes_of stage
unfolding finished
finished_same Start body e = absurd cc
finished_same (Header h) body e = absurd cc
finished_same (Meta b s) body e = absurd cc
finished_same (Data b s) body e = (IfOk-at_ok (IsRead (nodes_in b.segments + length s.nodes)) e (end_step (Data b s) tt)).same
finished_same (Cov b s m) body e = absurd cc
finished_same (After b) body e = let same : body ≡ b = cc in ap (λ (c : Body). nodes_in c.segments) same

-- ---- all lines

at_line_ok : {A : Type 0} (P : A → Type 0) (number : ℕ) (r : Result A OemCause) → IfOk r P → IfOk (at_line number r) P
at_line_ok P number (Ok x) h = h
at_line_ok P number (Err e) h = tt

line_then : {A B : Type 0} (P : A → Type 0) (Q : B → Type 0) (number : ℕ) (r : Result A OemCause) (f : A → Result B Fault)
    → IfOk r P → ((x : A) → P x → IfOk (f x) Q) → IfOk (at_line number r >>= f) Q
line_then P Q number (Ok x) f h g = g x h
line_then P Q number (Err e) f h g = tt

-- the body that the lines lead to
record IsReadFrom (most : ℕ) (body : Body) : Type 0 where
  few : nodes_in body.segments ≤ most
  whole : IsWhole body

more_lines : {E : Type 0} (m n : ℕ) (r : Result Body E) → m ≤ n → IfOk r (IsReadFrom m) → IfOk r (IsReadFrom n)
more_lines m n (Ok body) le h = record { few = omega (arith, h.few); whole = h.whole }
more_lines m n (Err e) le h = tt

read_few : (as_hermite3 : Bool) (stage : Stage) (number : ℕ) (ls : List Numbered) → IsSound stage
    → IfOk (read_on as_hermite3 stage number ls) (IsReadFrom (nodes_of stage + length ls))
read_few as_hermite3 stage number [] sound =
    at_line_ok (IsReadFrom (nodes_of stage + 0)) number (finished stage)
    (IfOk-weaker (finished stage) _ _ (λ body h. record { few = omega (arith, h.same); whole = h.whole }) (end_step stage sound))
read_few as_hermite3 stage number (line ∷ ls) sound =
    line_then (IsNext (nodes_of stage)) (IsReadFrom (nodes_of stage + length (line ∷ ls))) line.number (follows as_hermite3 stage line.form)
    (λ next. read_on as_hermite3 next (line.number + 1) ls)
    (line_step as_hermite3 stage line.form sound)
    (λ next h. more_lines (nodes_of next + length ls) (nodes_of stage + length (line ∷ ls)) _ (omega (arith, h.few)) (read_few as_hermite3 next (line.number + 1) ls h.sound))

start_few : (as_hermite3 : Bool) (number : ℕ) (ls : List Numbered) → IfOk (read_on as_hermite3 Start number ls) (λ body. nodes_in body.segments + 1 ≤ length ls)
unfolding finished
start_few as_hermite3 number [] = tt
start_few as_hermite3 number (line ∷ ls) =
    line_then (λ next. IsBegun next × IsSound next) (λ body. nodes_in body.segments + 1 ≤ length (line ∷ ls)) line.number (follows as_hermite3 Start line.form)
    (λ next. read_on as_hermite3 next (line.number + 1) ls)
    (both_ok (follows as_hermite3 Start line.form) (first_step as_hermite3 line.form) (line_step as_hermite3 Start line.form tt))
    (λ next h. IfOk-weaker (read_on as_hermite3 next (line.number + 1) ls) (IsReadFrom (nodes_of next + length ls)) (λ body. nodes_in body.segments + 1 ≤ length (line ∷ ls)) (λ body g. omega (arith, h.0, g.few)) (read_few as_hermite3 next (line.number + 1) ls h.1))
  where
    both_ok : (r : Result Stage OemCause) → IfOk r IsBegun → IfOk r (IsNext 0) → IfOk r (λ next. IsBegun next × IsSound next)
    both_ok (Ok next) a b = (a, b.sound)
    both_ok (Err e) a b = tt

-- fewer nodes than lines
pub nodes_below_lines : (as_hermite3 : Bool) (number : ℕ) (ls : List Numbered) (body : Body) → read_on as_hermite3 Start number ls ≡ Ok body
    → nodes_in body.segments < length ls
nodes_below_lines as_hermite3 number ls body e =
    let few : nodes_in body.segments + 1 ≤ length ls = IfOk-at_ok (λ (b : Body). nodes_in b.segments + 1 ≤ length ls) e (start_few as_hermite3 number ls) in
    omega arith

-- a file that is accepted has an object and a segment
pub body_whole : (as_hermite3 : Bool) (number : ℕ) (ls : List Numbered) (body : Body) → read_on as_hermite3 Start number ls ≡ Ok body → IsWhole body
body_whole as_hermite3 number ls body e = (IfOk-at_ok (IsReadFrom (length ls)) e (more_lines (0 + length ls) (length ls) _ (omega arith) (read_few as_hermite3 Start number ls tt))).whole

-- ---- lines and bytes

parts_count : (parts : List (List ℕ)) → length (lines_of_parts parts) ≤ length parts
parts_count [] = omega arith
parts_count (x ∷ []) = last_count (length x == 0)
  where
    last_count : (b : Bool) → length (if b then [] else x ∷ []) ≤ 1
    last_count true = omega arith
    last_count false = omega arith
parts_count (x ∷ y ∷ parts) = omega (arith, parts_count (y ∷ parts))

pub lines_few : (bytes : List ℕ) → length (lines bytes) ≤ length bytes + 1
lines_few bytes =
    omega (arith, parts_count (slice_split (λ b. b == 10) bytes), length-slice_split (λ (b : ℕ). b == 10) bytes, count_by-le-length (λ (b : ℕ). b == 10) bytes)

kvn_then : {A B : Type 0} (P : A → Type 0) (Q : B → Type 0) (r : Result A (LineFault KvnCause)) (f : A → Result B (LineFault KvnCause)) → IfOk r P → ((x : A) → P x → IfOk (f x) Q) → IfOk (r >>= f) Q
kvn_then P Q (Ok x) f h g = g x h
kvn_then P Q (Err e) f h g = tt

said_count : (number : ℕ) (texts : List (List ℕ)) → IfOk (kvn.lines_said number texts) (λ said. length said ≡ length texts)
said_count number [] = refl
said_count number (line ∷ texts) =
    kvn_then (λ _. Unit {0}) (λ said. length said ≡ length (line ∷ texts)) (kvn.line_form number line) _ (any_ok (kvn.line_form number line)) (λ form _.
    kvn_then (λ others. length others ≡ length texts) (λ said. length said ≡ length (line ∷ texts)) (kvn.lines_said (number + 1) texts) _ (said_count (number + 1) texts) (λ others h. ap suc h))
  where
    any_ok : {A : Type 0} (r : Result A (LineFault KvnCause)) → IfOk r (λ _. Unit {0})
    any_ok (Ok x) = tt
    any_ok (Err e) = tt

-- as many lines are said as there are
pub said_few : (bytes : List ℕ) (said : List Numbered) → kvn.reading bytes ≡ Ok said → length said ≤ length bytes + 1
said_few bytes said e =
    let same : length said ≡ length (lines bytes) = IfOk-at_ok (λ (s : List Numbered). length s ≡ length (lines bytes)) e (said_count 1 (lines bytes)) in
    omega (arith, lines_few bytes)

-- no more nodes than bytes
pub nodes_fit : (as_hermite3 : Bool) (bytes : List ℕ) (said : List Numbered) (body : Body) → kvn.reading bytes ≡ Ok said → read_on as_hermite3 Start 1 said ≡ Ok body
    → nodes_in body.segments ≤ length bytes
nodes_fit as_hermite3 bytes said body e f = omega (arith, said_few bytes said e, nodes_below_lines as_hermite3 1 said body f)

-- the nodes of segments are those of what they say
pub nodes_said : (segments : List Segment) → nodes_in (map plain_segment segments) ≡ node_count segments
nodes_said [] = refl
nodes_said (segment ∷ segments) =
    sum_by-cons (λ (segment : PlainSegment). length segment.nodes) (plain_segment segment) (map plain_segment segments)
    ∙ ap₂ (λ (a b : ℕ). a + b) (length-map segment.nodes plain_node) (nodes_said segments)
    ∙ sym (sum_by-cons (λ (s : Segment). length s.nodes) segment segments)
