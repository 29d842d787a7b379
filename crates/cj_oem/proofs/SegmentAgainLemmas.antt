-- Printed segments are read again.
use Rattle.std.proofs.Common.{◌≡◌, ℕ, ◌<◌, ◌≤◌, List, [], ◌∷◌, ◌++◌, true, false, length, sym, subst, ◌∙◌, refl, arith, append_assoc, append-nil, Some, None, Ok, All}
use Rattle.std.specs.Prelude.{flat_map, nat_lt, codes}
use Rattle.std.proofs.lemmas.Bool.{le-ltb}
use Rattle.std.proofs.lemmas.List.Elements.{All-head, All-tail}
use Rattle.cj_kvn.specs.Lines.{Form, Mark}
use Rattle.cj_kvn.specs.declared.lines.MarkKind.TheVariants.{MetaStart, CovarianceStart, CovarianceStop}
use Rattle.cj_base.specs.Ticks.{IsTick}
use Rattle.cj_oem.specs.Canonical.{covariance_text, covariances_text, row_text, segment_text}
use Rattle.cj_oem.specs.CovarianceRows.{NO_COVARIANCES, closed}
use Rattle.cj_track.specs.PlainTracks.{PlainSegment, PlainMatrix, PlainTrack, PlainNode}
use Rattle.cj_oem.specs.Metadata.{EMPTY, Object}
use Rattle.cj_oem.specs.Stages.{After, Body, Cov, Data, Meta, Stage, OpenSegment, close_nodes, end_of, finished, first_state, follows, is_useable, last_state, with_segment}
use Rattle.cj_oem.proofs.CovarianceAgainLemmas.{AllRead, IsCovariance, covariance_forms, covariance_told, covariances_walk}
use Rattle.cj_oem.proofs.MetadataAgainLemmas.{IsKnown, IsNeat, known_same, meta_forms, meta_pairs, meta_walk, metadata_told, object_of, metadata}
use Rattle.cj_oem.proofs.PrintedLineLemmas.{Tells, none, told_append, told_each, told_line}
use Rattle.cj_oem.proofs.PrintedPairLemmas.{covariance_start, covariance_stop}
use Rattle.cj_oem.proofs.RunLemmas.{end_push}
use Rattle.cj_oem.proofs.StateAgainLemmas.{Follow, IsState, state_forms, state_told, nodes_walk}
use Rattle.cj_oem.proofs.WalkLemmas.{walk, walk_append, walk_step}

-- a segment that can be read
pub record IsSegment (segment : PlainSegment) : Type 0 where
  pub first : IsTick segment.first
  pub last : IsTick segment.last
  pub nodes : All IsState segment.nodes
  pub steps : Follow None segment.nodes
  pub enough : 2 ≤ length segment.nodes
  pub useable : is_useable segment.first segment.last (first_state segment.nodes) (last_state segment.nodes) ≡ true
  pub covariances : All IsCovariance segment.covariances

-- each segment is useable from where the one before ends, or later
abbrev pub Later : ℕ → List PlainSegment → Type 0
Later end [] = Unit {0}
Later end (segment ∷ segments) = (end ≤ segment.first) × Later segment.last segments

-- ---- what the text says

abbrev covariances_forms : List PlainMatrix → List Form
covariances_forms [] = []
covariances_forms (c ∷ cs) = (Mark CovarianceStart ∷ []) ++ flat_map covariance_forms (c ∷ cs) ++ Mark CovarianceStop ∷ []

abbrev pub segment_forms : Object → PlainSegment → List Form
segment_forms o segment = meta_forms o segment.first segment.last ++ flat_map state_forms segment.nodes ++ covariances_forms segment.covariances

covariances_told : (cs : List PlainMatrix) → All IsCovariance cs → Tells (covariances_text cs) (covariances_forms cs)
covariances_told [] all = none
covariances_told (c ∷ cs) all =
    told_append _ _ _ _
    (told_append _ _ _ _ (told_line (codes "COVARIANCE_START") (Mark CovarianceStart) covariance_start) (told_each IsCovariance covariance_text covariance_forms covariance_told (c ∷ cs) all))
    (told_line (codes "COVARIANCE_STOP") (Mark CovarianceStop) covariance_stop)

pub segment_told : (e : PlainTrack) → IsNeat e.name → IsNeat e.id → (segment : PlainSegment) → IsSegment segment → Tells (segment_text e segment) (segment_forms (object_of e) segment)
unfolding segment_text
segment_told e name id segment is =
    told_append _ _ _ _ (told_append _ _ _ _ (metadata_told e segment name id) (told_each IsState row_text state_forms state_told segment.nodes is.nodes)) (covariances_told segment.covariances is.covariances)

-- ---- where it leads

-- what comes next may be a segment or the end of the file
pub record Rests (stage : Stage) (b : Body) : Type 0 where
  pub more : follows false stage (Mark MetaStart) ≡ Ok (Meta b EMPTY)
  pub done : finished stage ≡ Ok b

abbrev open_segment : Object → PlainSegment → OpenSegment
open_segment o segment = record { metadata = metadata o segment.first segment.last; nodes = segment.nodes }

abbrev pub body : Object → List PlainSegment → Body
body o segments = record { object = Some o; segments = segments }

closes : (b : Body) (o : Object) (segment : PlainSegment) → IsSegment segment → end_of b.segments ≤ segment.first → close_nodes b (open_segment o segment) ≡ Ok tt
unfolding close_nodes
closes b o segment is later =
    let many : nat_lt (length segment.nodes) 2 ≡ false = le-ltb _ _ is.enough in
    let behind : nat_lt segment.first (end_of b.segments) ≡ false = le-ltb _ _ later in
    rw (many, is.useable, behind) refl

data_rests : (b : Body) (o : Object) (segment : PlainSegment) → IsSegment segment → end_of b.segments ≤ segment.first → Rests (Data b (open_segment o segment)) (with_segment b (open_segment o segment) [])
unfolding follows finished
data_rests b o segment is later =
    let close = closes b o segment is later in
    record { more = rw close refl; done = rw close refl }

after_rests : (b : Body) → Rests (After b) b
unfolding follows finished
after_rests b = record { more = refl; done = refl }

start_follows : (b : Body) (o : Object) (segment : PlainSegment) → IsSegment segment → end_of b.segments ≤ segment.first
    → follows false (Data b (open_segment o segment)) (Mark CovarianceStart) ≡ Ok (Cov b (open_segment o segment) NO_COVARIANCES)
unfolding follows
start_follows b o segment is later = rw (closes b o segment is later) refl

stop_follows : (b : Body) (s : OpenSegment) (cs : List PlainMatrix) (forms : List Form) (all : AllRead b s NO_COVARIANCES forms cs)
    → follows false (Cov b s all.read) (Mark CovarianceStop) ≡ Ok (After (with_segment b s cs))
unfolding follows
stop_follows b s cs forms all = rw all.whole refl

none_closed : closed NO_COVARIANCES ≡ Ok []
unfolding closed
none_closed = refl

-- where a segment leads
pub record Passes (stage : Stage) (forms : List Form) (b : Body) : Type 0 where
  pub end : Stage
  pub walked : walk stage forms ≡ Ok end
  pub rests : Rests end b

-- the covariances of a segment
covariances_pass : (b : Body) (o : Object) (first last : ℕ) (nodes : List PlainNode) (cs : List PlainMatrix) →
    let segment : PlainSegment = record { first = first; last = last; nodes = nodes; covariances = cs } in
    IsSegment segment → end_of b.segments ≤ first → Passes (Data b (open_segment o segment)) (covariances_forms cs) (body o (b.segments ++ segment ∷ []))
covariances_pass b o first last nodes [] is later =
    let segment : PlainSegment = record { first = first; last = last; nodes = nodes; covariances = [] } in
    record { end = Data b (open_segment o segment); walked = refl; rests = data_rests b o segment is later }
covariances_pass b o first last nodes (c ∷ cs) is later =
    let segment : PlainSegment = record { first = first; last = last; nodes = nodes; covariances = c ∷ cs } in
    let s = open_segment o segment in
    let inner = flat_map covariance_forms (c ∷ cs) in
    let all = covariances_walk b s NO_COVARIANCES [] (c ∷ cs) none_closed is.covariances in
    let stop = Mark CovarianceStop ∷ [] in
    let final = body o (b.segments ++ segment ∷ []) in
    record {
      end = After final;
      walked =
          walk_step (Data b s) (Cov b s NO_COVARIANCES) (Mark CovarianceStart) (inner ++ stop) (start_follows b o segment is later)
          ∙ walk_append (Cov b s NO_COVARIANCES) (Cov b s all.read) inner stop all.walked
          ∙ walk_step (Cov b s all.read) (After final) (Mark CovarianceStop) [] (stop_follows b s (c ∷ cs) inner all);
      rests = after_rests final;
    }

segment_pass : (stage : Stage) (b : Body) (o : Object) (segment : PlainSegment) → follows false stage (Mark MetaStart) ≡ Ok (Meta b EMPTY) → IsKnown b.object o → IsNeat o.name → IsNeat o.id
    → IsSegment segment → end_of b.segments ≤ segment.first → Passes stage (segment_forms o segment) (body o (b.segments ++ segment ∷ []))
segment_pass stage b o segment meta known name id is later =
    let passes = covariances_pass b o segment.first segment.last segment.nodes segment.covariances is later in
    let rows = flat_map state_forms segment.nodes in
    let behind = covariances_forms segment.covariances in
    let metas = meta_forms o segment.first segment.last in
    let start : Stage = Data b (record { metadata = metadata o segment.first segment.last; nodes = [] }) in
    let read_meta : walk stage metas ≡ Ok start = walk_step stage (Meta b EMPTY) (Mark MetaStart) (meta_pairs o segment.first segment.last) meta ∙ meta_walk b o segment.first segment.last known name id is.first is.last in
    let read_rows : walk stage (metas ++ rows) ≡ Ok (Data b (open_segment o segment)) =
    walk_append stage start metas rows read_meta ∙ nodes_walk b (metadata o segment.first segment.last) [] segment.nodes is.nodes is.steps in
    record {
      end = passes.end;
      walked = walk_append stage (Data b (open_segment o segment)) (metas ++ rows) behind read_rows ∙ passes.walked;
      rests = passes.rests;
    }

-- ---- all segments

-- more segments of the same object
more_pass : (stage : Stage) (o : Object) (front segments : List PlainSegment) → Rests stage (body o front) → IsNeat o.name → IsNeat o.id → All IsSegment segments → Later (end_of front) segments
    → Passes stage (flat_map (segment_forms o) segments) (body o (front ++ segments))
more_pass stage o front [] rests name id all later = record { end = stage; walked = refl; rests = subst (λ segments. Rests stage (body o segments)) (sym (append-nil front)) rests }
more_pass stage o front (segment ∷ segments) rests name id all later =
    let one = segment_pass stage (body o front) o segment rests.more (known_same o) name id (All-head IsSegment segment segments all) later.0 in
    let next = front ++ segment ∷ [] in
    let others = more_pass one.end o next segments one.rests name id (All-tail IsSegment segment segments all) (subst (λ end. Later end segments) (sym (end_push front segment)) later.1) in
    record {
      end = others.end;
      walked = walk_append stage one.end (segment_forms o segment) (flat_map (segment_forms o) segments) one.walked ∙ others.walked;
      rests = subst (λ segments. Rests others.end (body o segments)) (append_assoc front (segment ∷ []) segments) others.rests;
    }

pub segments_pass : (stage : Stage) (b : Body) (o : Object) (segments : List PlainSegment) → follows false stage (Mark MetaStart) ≡ Ok (Meta b EMPTY) → IsKnown b.object o → IsNeat o.name → IsNeat o.id
    → 0 < length segments → All IsSegment segments → Later (end_of b.segments) segments → Passes stage (flat_map (segment_forms o) segments) (body o (b.segments ++ segments))
segments_pass stage b o [] meta known name id some all later = absurd (omega arith)
segments_pass stage b o (segment ∷ segments) meta known name id some all later =
    let one = segment_pass stage b o segment meta known name id (All-head IsSegment segment segments all) later.0 in
    let next = b.segments ++ segment ∷ [] in
    let others = more_pass one.end o next segments one.rests name id (All-tail IsSegment segment segments all) (subst (λ end. Later end segments) (sym (end_push b.segments segment)) later.1) in
    record {
      end = others.end;
      walked = walk_append stage one.end (segment_forms o segment) (flat_map (segment_forms o) segments) one.walked ∙ others.walked;
      rests = subst (λ segments. Rests others.end (body o segments)) (append_assoc b.segments (segment ∷ []) segments) others.rests;
    }
