-- Blocks: from the metadata on, the lines that are accepted are those of blocks, and each block is accepted.
use Rattle.std.proofs.Common.{◌≡◌, ℕ, zero, suc, ◌<◌, ◌≤◌, ◌⊎◌, inl, inr, ⊎_elim, List, [], ◌∷◌, ◌++◌, length, Bool, true, false, IsSomeAnd, Option, Some, None, Result, Ok, arith, ap, sym, ◌∙◌, refl, subst}
use Rattle.std.specs.Prelude.{not, nat_le, nat_lt}
use Rattle.std.proofs.lemmas.Bool.{leb-true, ltb-false, not-false}
use Rattle.std.proofs.lemmas.Bool.Decides.{nat_tests}
use Rattle.std.proofs.lemmas.List.{append_assoc, append-nil, length-append}
use Rattle.cj_kvn.specs.Lines.{Form, Blank, Comment, Mark, Pair, Row}
use Rattle.cj_kvn.specs.declared.lines.MarkKind.TheVariants.{MetaStart, MetaStop, CovarianceStart, CovarianceStop}
use Rattle.cj_kvn.proofs.ListLemmas.{last_push}
use Rattle.cj_base.proofs.LogicLemmas.{all_three}
use Rattle.cj_formats.specs.declared.oem_cause.OemCause.{OemCause}
use Rattle.cj_formats.specs.declared.oem_cause.OemCause.TheVariants as causes
use Rattle.cj_oem.specs.CovarianceRows.{Covariances, NO_COVARIANCES, closed, with_matrix_pair, with_matrix_row}
use Rattle.cj_track.specs.PlainTracks.{PlainSegment, PlainMatrix, PlainNode}
use Rattle.cj_oem.specs.Grammar.{AreBlocks, AreCovariances, Entry, HasNoCovariances, IsBlock, IsUseable, last, more, pair_lines, row_lines}
use Rattle.cj_kvn.specs.Faults.{◌>>=◌}
use Rattle.cj_oem.specs.Metadata.{EMPTY, Object, Metadata, MetadataDraft, metadata_of, unless, with_pair}
use Rattle.cj_oem.specs.NodeRows.{state_of_row}
use Rattle.cj_oem.specs.Stages.{Body, Meta, Data, Cov, After, OpenSegment, close_nodes, end_of, finished, first_state, is_useable, last_state, with_segment}
use Rattle.cj_oem.proofs.MatrixLemmas.{covariances_from, matrices_again, matrices_are, with_line}
use Rattle.cj_oem.proofs.MetadataLemmas.{Suits, metadata_again, metadata_is, metadata_suits, sheet_from}
use Rattle.cj_oem.proofs.NodeRowLemmas.{nodes_again, nodes_are, nodes_from}
use Rattle.cj_oem.proofs.RunLemmas.{end_push, run, run_covariances, run_meta, run_rows}
use Rattle.cj_oem.proofs.StateAgainLemmas.{open_segment}
use Rattle.cj_kvn.proofs.FaultLemmas.{bind_ok}
use Rattle.cj_oem.proofs.StepLemmas.{bind_into, unless_ok}

-- ---- the end of the nodes

useable_ends : (start stop : ℕ) (a z : Option PlainNode) → is_useable start stop a z ≡ true
    → (start ≤ stop) × IsSomeAnd a (λ state. state.at ≤ start) × IsSomeAnd z (λ state. stop ≤ state.at)
useable_ends start stop None z e = absurd cc
useable_ends start stop (Some a) None e = absurd cc
useable_ends start stop (Some a) (Some z) e =
    let each = all_three (nat_le start stop) (nat_le a.at start) (nat_le stop z.at) e in
    (leb-true start stop each.0, leb-true a.at start each.1, leb-true stop z.at each.2)

useable_again : (start stop : ℕ) (a z : Option PlainNode) → start ≤ stop → IsSomeAnd a (λ state. state.at ≤ start) → IsSomeAnd z (λ state. stop ≤ state.at)
    → is_useable start stop a z ≡ true
useable_again start stop None z some after before = absurd after
useable_again start stop (Some a) None some after before = absurd before
useable_again start stop (Some a) (Some z) some after before = grind (arith, nat_tests)

-- the nodes of a open_segment are closed
record IsClosed (b : Body) (s : OpenSegment) : Type 0 where
  enough : 2 ≤ length s.nodes
  useable : IsUseable s.metadata.first s.metadata.last s.nodes
  later : end_of b.segments ≤ s.metadata.first

closed_nodes : (b : Body) (s : OpenSegment) (u : Unit {0}) → close_nodes b s ≡ Ok u → IsClosed b s
unfolding close_nodes
closed_nodes b s u e =
    let few = unless (nat_lt (length s.nodes) 2) causes.TooFewNodes in
    let span = unless (not (is_useable s.metadata.first s.metadata.last (first_state s.nodes) (last_state s.nodes))) causes.UseableSpan in
    let overlap = unless (nat_lt s.metadata.first (end_of b.segments)) causes.SegmentsOverlap in
    let one = bind_ok few (λ _. span >>= λ _. overlap) u e in
    let two = bind_ok span (λ _. overlap) u one.2 in
    let ends = useable_ends s.metadata.first s.metadata.last (first_state s.nodes) (last_state s.nodes) (not-false _ (unless_ok _ causes.UseableSpan two.0 two.1)) in
    record {
      enough = ltb-false (length s.nodes) 2 (unless_ok _ causes.TooFewNodes one.0 one.1);
      useable = record { some = ends.0; after = ends.1; before = ends.2 };
      later = ltb-false s.metadata.first (end_of b.segments) (unless_ok _ causes.SegmentsOverlap u two.2);
    }

close_again : (b : Body) (s : OpenSegment) → IsClosed b s → close_nodes b s ≡ Ok tt
unfolding close_nodes
close_again b s c =
    let enough = c.enough in
    let later = c.later in
    let a : nat_lt (length s.nodes) 2 ≡ false = grind (arith, nat_tests) in
    let d : is_useable s.metadata.first s.metadata.last (first_state s.nodes) (last_state s.nodes) ≡ true = useable_again s.metadata.first s.metadata.last _ _ c.useable.some c.useable.after c.useable.before in
    let f : nat_lt s.metadata.first (end_of b.segments) ≡ false = grind (arith, nat_tests) in
    rw (a, d, f) refl

-- ---- the parts of a block, as a reader finds them

-- entries up to the end of the metadata
record IsMetaRead (as_hermite3 : Bool) (b : Body) (s : MetadataDraft) (forms : List Form) (body : Body) : Type 0 where
  entries : List Entry
  end : MetadataDraft
  metadata : Metadata
  rest : List Form
  shape : forms ≡ pair_lines entries ++ Mark MetaStop ∷ rest
  read : sheet_from b.object s entries ≡ Ok end
  whole : metadata_of as_hermite3 end ≡ Ok metadata
  next : run as_hermite3 (Data b (open_segment metadata [])) rest ≡ Ok body

meta_more : (as_hermite3 : Bool) (b : Body) (s next : MetadataDraft) (key value : List ℕ) (forms : List Form) (body : Body) → with_pair b.object s key value ≡ Ok next
    → IsMetaRead as_hermite3 b next forms body → IsMetaRead as_hermite3 b s (Pair key value ∷ forms) body
meta_more as_hermite3 b s next key value forms body e m = record {
  entries = record { key = key; value = value } ∷ m.entries;
  end = m.end;
  metadata = m.metadata;
  rest = m.rest;
  shape = ap (λ (fs : List Form). Pair key value ∷ fs) m.shape;
  read = ap (λ (r : Result MetadataDraft OemCause). r >>= λ n. sheet_from b.object n m.entries) e ∙ m.read;
  whole = m.whole;
  next = m.next;
}

meta_read : (as_hermite3 : Bool) (b : Body) (forms : List Form) (s : MetadataDraft) (body : Body) → run as_hermite3 (Meta b s) forms ≡ Ok body → IsMetaRead as_hermite3 b s forms body
unfolding finished
meta_read as_hermite3 b [] s body e = absurd cc
meta_read as_hermite3 b (Blank ∷ forms) s body e = absurd cc
meta_read as_hermite3 b (Comment ∷ forms) s body e = absurd cc
meta_read as_hermite3 b (Mark MetaStart ∷ forms) s body e = absurd cc
meta_read as_hermite3 b (Mark MetaStop ∷ forms) s body e =
    let step = bind_into (metadata_of as_hermite3 s) (λ metadata. Data b (open_segment metadata [])) (λ next. run as_hermite3 next forms) body e in
    record { entries = []; end = s; metadata = step.0; rest = forms; shape = refl; read = refl; whole = step.1; next = step.2 }
meta_read as_hermite3 b (Mark CovarianceStart ∷ forms) s body e = absurd cc
meta_read as_hermite3 b (Mark CovarianceStop ∷ forms) s body e = absurd cc
meta_read as_hermite3 b (Pair key value ∷ forms) s body e =
    let step = bind_into (with_pair b.object s key value) (λ draft. Meta b draft) (λ next. run as_hermite3 next forms) body e in
    meta_more as_hermite3 b s step.0 key value forms body step.1 (meta_read as_hermite3 b forms step.0 body step.2)
meta_read as_hermite3 b (Row text ∷ forms) s body e = absurd cc

-- a row does not stand in front
abbrev NoRow : List Form → Type 0
NoRow [] = Unit {0}
NoRow (Blank ∷ forms) = Unit {0}
NoRow (Comment ∷ forms) = Unit {0}
NoRow (Mark mark ∷ forms) = Unit {0}
NoRow (Pair key value ∷ forms) = Unit {0}
NoRow (Row text ∷ forms) = ⊥

-- rows up to another line
record IsDataRead (as_hermite3 : Bool) (b : Body) (metadata : Metadata) (before : List PlainNode) (forms : List Form) (body : Body) : Type 0 where
  rows : List (List ℕ)
  nodes : List PlainNode
  rest : List Form
  shape : forms ≡ row_lines rows ++ rest
  read : nodes_from (last_state before) rows ≡ Ok nodes
  all : NoRow rest
  next : run as_hermite3 (Data b (open_segment metadata (before ++ nodes))) rest ≡ Ok body

data_more : (as_hermite3 : Bool) (b : Body) (metadata : Metadata) (before : List PlainNode) (state : PlainNode) (text : List ℕ) (forms : List Form) (body : Body)
    → state_of_row (last_state before) text ≡ Ok state → IsDataRead as_hermite3 b metadata (before ++ state ∷ []) forms body → IsDataRead as_hermite3 b metadata before (Row text ∷ forms) body
data_more as_hermite3 b metadata before state text forms body e d = record {
  rows = text ∷ d.rows;
  nodes = state ∷ d.nodes;
  rest = d.rest;
  shape = ap (λ (fs : List Form). Row text ∷ fs) d.shape;
  read =
      let later : nodes_from (Some state) d.rows ≡ Ok d.nodes = ap (λ (o : Option PlainNode). nodes_from o d.rows) (sym (last_push None before state)) ∙ d.read in
      ap (λ (r : Result PlainNode OemCause). r >>= λ s. nodes_from (Some s) d.rows >>= λ others. Ok (s ∷ others)) e
      ∙ ap (λ (r : Result (List PlainNode) OemCause). r >>= λ others. Ok (state ∷ others)) later;
  all = d.all;
  next = ap (λ (all : List PlainNode). run as_hermite3 (Data b (open_segment metadata all)) d.rest) (sym (append_assoc before (state ∷ []) d.nodes)) ∙ d.next;
}

data_end : (as_hermite3 : Bool) (b : Body) (metadata : Metadata) (before : List PlainNode) (forms : List Form) (body : Body) → NoRow forms
    → run as_hermite3 (Data b (open_segment metadata before)) forms ≡ Ok body → IsDataRead as_hermite3 b metadata before forms body
data_end as_hermite3 b metadata before forms body none e = record {
  rows = [];
  nodes = [];
  rest = forms;
  shape = refl;
  read = refl;
  all = none;
  next = ap (λ (all : List PlainNode). run as_hermite3 (Data b (open_segment metadata all)) forms) (append-nil before) ∙ e;
}

data_read : (as_hermite3 : Bool) (b : Body) (metadata : Metadata) (forms : List Form) (before : List PlainNode) (body : Body) → run as_hermite3 (Data b (open_segment metadata before)) forms ≡ Ok body
    → IsDataRead as_hermite3 b metadata before forms body
data_read as_hermite3 b metadata [] before body e = data_end as_hermite3 b metadata before [] body tt e
data_read as_hermite3 b metadata (Blank ∷ forms) before body e = data_end as_hermite3 b metadata before (Blank ∷ forms) body tt e
data_read as_hermite3 b metadata (Comment ∷ forms) before body e = data_end as_hermite3 b metadata before (Comment ∷ forms) body tt e
data_read as_hermite3 b metadata (Mark mark ∷ forms) before body e = data_end as_hermite3 b metadata before (Mark mark ∷ forms) body tt e
data_read as_hermite3 b metadata (Pair key value ∷ forms) before body e = data_end as_hermite3 b metadata before (Pair key value ∷ forms) body tt e
data_read as_hermite3 b metadata (Row text ∷ forms) before body e =
    let step = bind_into (state_of_row (last_state before) text) (λ state. Data b (open_segment metadata (before ++ state ∷ []))) (λ next. run as_hermite3 next forms) body e in
    data_more as_hermite3 b metadata before step.0 text forms body step.1 (data_read as_hermite3 b metadata forms (before ++ step.0 ∷ []) body step.2)

-- covariances up to their end
record IsCovRead (as_hermite3 : Bool) (b : Body) (s : OpenSegment) (m : Covariances) (forms : List Form) (body : Body) : Type 0 where
  inner : List Form
  end : Covariances
  covariances : List PlainMatrix
  rest : List Form
  shape : forms ≡ inner ++ Mark CovarianceStop ∷ rest
  read : covariances_from m inner ≡ Ok end
  whole : closed end ≡ Ok covariances
  next : run as_hermite3 (After (with_segment b s covariances)) rest ≡ Ok body

cov_more : (as_hermite3 : Bool) (b : Body) (s : OpenSegment) (m next : Covariances) (line : Form) (forms : List Form) (body : Body) → with_line m line ≡ Ok next
    → IsCovRead as_hermite3 b s next forms body → IsCovRead as_hermite3 b s m (line ∷ forms) body
cov_more as_hermite3 b s m next line forms body e c = record {
  inner = line ∷ c.inner;
  end = c.end;
  covariances = c.covariances;
  rest = c.rest;
  shape = ap (λ (fs : List Form). line ∷ fs) c.shape;
  read = ap (λ (r : Result Covariances OemCause). r >>= λ n. covariances_from n c.inner) e ∙ c.read;
  whole = c.whole;
  next = c.next;
}

cov_read : (as_hermite3 : Bool) (b : Body) (s : OpenSegment) (forms : List Form) (m : Covariances) (body : Body) → run as_hermite3 (Cov b s m) forms ≡ Ok body → IsCovRead as_hermite3 b s m forms body
unfolding finished
cov_read as_hermite3 b s [] m body e = absurd cc
cov_read as_hermite3 b s (Blank ∷ forms) m body e = absurd cc
cov_read as_hermite3 b s (Comment ∷ forms) m body e = absurd cc
cov_read as_hermite3 b s (Mark MetaStart ∷ forms) m body e = absurd cc
cov_read as_hermite3 b s (Mark MetaStop ∷ forms) m body e = absurd cc
cov_read as_hermite3 b s (Mark CovarianceStart ∷ forms) m body e = absurd cc
cov_read as_hermite3 b s (Mark CovarianceStop ∷ forms) m body e =
    let step = bind_into (closed m) (λ covariances. After (with_segment b s covariances)) (λ next. run as_hermite3 next forms) body e in
    record { inner = []; end = m; covariances = step.0; rest = forms; shape = refl; read = refl; whole = step.1; next = step.2 }
cov_read as_hermite3 b s (Pair key value ∷ forms) m body e =
    let step = bind_into (with_matrix_pair m key value) (λ n. Cov b s n) (λ next. run as_hermite3 next forms) body e in
    cov_more as_hermite3 b s m step.0 (Pair key value) forms body step.1 (cov_read as_hermite3 b s forms step.0 body step.2)
cov_read as_hermite3 b s (Row text ∷ forms) m body e =
    let step = bind_into (with_matrix_row m text) (λ n. Cov b s n) (λ next. run as_hermite3 next forms) body e in
    cov_more as_hermite3 b s m step.0 (Row text) forms body step.1 (cov_read as_hermite3 b s forms step.0 body step.2)

-- ---- the end of a block

-- covariances or none, and where the lines go on
record IsEndRead (as_hermite3 : Bool) (b : Body) (s : OpenSegment) (forms : List Form) (body : Body) : Type 0 where
  front : List Form
  covariances : List PlainMatrix
  rest : List Form
  shape : forms ≡ front ++ rest
  said : AreCovariances front covariances ⊎ HasNoCovariances front covariances
  closed : close_nodes b s ≡ Ok tt
  next : run as_hermite3 (After (with_segment b s covariances)) rest ≡ Ok body

end_none : (as_hermite3 : Bool) (b : Body) (s : OpenSegment) (forms : List Form) (body : Body) (u : Unit {0}) → close_nodes b s ≡ Ok u
    → run as_hermite3 (After (with_segment b s [])) forms ≡ Ok body → IsEndRead as_hermite3 b s forms body
end_none as_hermite3 b s forms body u e f =
    record { front = []; covariances = []; rest = forms; shape = refl; said = inr (record { no_line = refl; none = refl }); closed = e; next = f }

end_some : (as_hermite3 : Bool) (b : Body) (s : OpenSegment) (forms : List Form) (body : Body) (u : Unit {0}) → close_nodes b s ≡ Ok u
    → IsCovRead as_hermite3 b s NO_COVARIANCES forms body → IsEndRead as_hermite3 b s (Mark CovarianceStart ∷ forms) body
end_some as_hermite3 b s forms body u e c = record {
  front = Mark CovarianceStart ∷ c.inner ++ Mark CovarianceStop ∷ [];
  covariances = c.covariances;
  rest = c.rest;
  shape = ap (λ (fs : List Form). Mark CovarianceStart ∷ fs) (c.shape ∙ sym (append_assoc c.inner (Mark CovarianceStop ∷ []) c.rest));
  said = inl (record { inner = c.inner; marks = refl; matrices = matrices_are c.inner c.end c.covariances c.read c.whole });
  closed = e;
  next = c.next;
}

end_read : (as_hermite3 : Bool) (b : Body) (s : OpenSegment) (forms : List Form) (body : Body) → NoRow forms → run as_hermite3 (Data b s) forms ≡ Ok body
    → IsEndRead as_hermite3 b s forms body
unfolding finished
end_read as_hermite3 b s [] body none e =
    let step = bind_ok (close_nodes b s) (λ _. Ok (with_segment b s [])) body e in
    end_none as_hermite3 b s [] body step.0 step.1 step.2
end_read as_hermite3 b s (Blank ∷ forms) body none e = absurd cc
end_read as_hermite3 b s (Comment ∷ forms) body none e = absurd cc
end_read as_hermite3 b s (Mark MetaStart ∷ forms) body none e =
    let step = bind_into (close_nodes b s) (λ _. Meta (with_segment b s []) EMPTY) (λ next. run as_hermite3 next forms) body e in
    end_none as_hermite3 b s (Mark MetaStart ∷ forms) body step.0 step.1 step.2
end_read as_hermite3 b s (Mark MetaStop ∷ forms) body none e = absurd cc
end_read as_hermite3 b s (Mark CovarianceStart ∷ forms) body none e =
    let step = bind_into (close_nodes b s) (λ _. Cov b s NO_COVARIANCES) (λ next. run as_hermite3 next forms) body e in
    end_some as_hermite3 b s forms body step.0 step.1 (cov_read as_hermite3 b s forms NO_COVARIANCES body step.2)
end_read as_hermite3 b s (Mark CovarianceStop ∷ forms) body none e = absurd cc
end_read as_hermite3 b s (Pair key value ∷ forms) body none e = absurd cc
end_read as_hermite3 b s (Row text ∷ forms) body none e = absurd none

-- ---- a block

-- the body with a further segment
abbrev pub with_object_segment : Body → Object → PlainSegment → Body
with_object_segment b object segment = record { object = Some object; segments = b.segments ++ segment ∷ [] }

-- a block in front, and where the lines go on
record IsBlockRead (as_hermite3 : Bool) (b : Body) (forms : List Form) (body : Body) : Type 0 where
  block : List Form
  rest : List Form
  object : Object
  segment : PlainSegment
  shape : forms ≡ block ++ rest
  suits : Suits b.object object
  said : IsBlock as_hermite3 object (end_of b.segments) block segment
  next : run as_hermite3 (After (with_object_segment b object segment)) rest ≡ Ok body

-- the lines of a block
abbrev lines_of : List Entry → List (List ℕ) → List Form → List Form
lines_of entries rows rest = Mark MetaStart ∷ pair_lines entries ++ Mark MetaStop ∷ row_lines rows ++ rest

-- and those behind it
lines_behind : (entries : List Entry) (rows : List (List ℕ)) (front rest : List Form)
    → Mark MetaStart ∷ (pair_lines entries ++ Mark MetaStop ∷ (row_lines rows ++ (front ++ rest))) ≡ lines_of entries rows front ++ rest
lines_behind entries rows front rest =
    ap (λ (fs : List Form). Mark MetaStart ∷ fs) (
    sym (append_assoc (pair_lines entries) (Mark MetaStop ∷ row_lines rows) (front ++ rest))
    ∙ sym (append_assoc (pair_lines entries ++ Mark MetaStop ∷ row_lines rows) front rest))

block_is : (as_hermite3 : Bool) (b : Body) (forms : List Form) (body : Body) (m : IsMetaRead as_hermite3 b EMPTY forms body) (d : IsDataRead as_hermite3 b m.metadata [] m.rest body)
    → IsEndRead as_hermite3 b (open_segment m.metadata d.nodes) d.rest body → IsBlockRead as_hermite3 b (Mark MetaStart ∷ forms) body
block_is as_hermite3 b forms body m d e =
    let s = open_segment m.metadata d.nodes in
    let closed = closed_nodes b s tt e.closed in
    let nodes = nodes_are d.rows d.nodes d.read in
    record {
      block = lines_of m.entries d.rows e.front;
      rest = e.rest;
      object = m.metadata.object;
      segment = record { first = m.metadata.first; last = m.metadata.last; nodes = d.nodes; covariances = e.covariances };
      shape =
          ap (λ (fs : List Form). Mark MetaStart ∷ fs) (m.shape ∙ ap (λ (fs : List Form). pair_lines m.entries ++ Mark MetaStop ∷ fs) (d.shape ∙ ap (λ (fs : List Form). row_lines d.rows ++ fs) e.shape))
          ∙ lines_behind m.entries d.rows e.front e.rest;
      suits = metadata_suits as_hermite3 b.object m.entries m.end m.metadata m.read m.whole;
      said = record {
        entries = m.entries;
        rows = d.rows;
        rest = e.front;
        shape = refl;
        metadata = metadata_is as_hermite3 b.object m.entries m.end m.metadata m.read m.whole;
        nodes = nodes.0;
        steps = nodes.1;
        enough = closed.enough;
        useable = closed.useable;
        later = closed.later;
        covariances = e.said;
      };
      next = e.next;
    }

block_read : (as_hermite3 : Bool) (b : Body) (forms : List Form) (body : Body) → run as_hermite3 (Meta b EMPTY) forms ≡ Ok body → IsBlockRead as_hermite3 b (Mark MetaStart ∷ forms) body
block_read as_hermite3 b forms body e =
    let m = meta_read as_hermite3 b forms EMPTY body e in
    let d = data_read as_hermite3 b m.metadata m.rest [] body m.next in
    block_is as_hermite3 b forms body m d (end_read as_hermite3 b (open_segment m.metadata d.nodes) d.rest body d.all d.next)

-- ---- all blocks

-- the blocks that are left, if any
pub record AreBlocksRead (as_hermite3 : Bool) (b : Body) (forms : List Form) (body : Body) : Type 0 where
  pub object : Object
  pub segments : List PlainSegment
  pub suits : Suits b.object object
  pub blocks : AreBlocks as_hermite3 object (end_of b.segments) forms segments
  pub named : body.object ≡ Some object
  pub whole : body.segments ≡ b.segments ++ segments

-- one block is left
blocks_last : (as_hermite3 : Bool) (b : Body) (forms : List Form) (body : Body) (r : IsBlockRead as_hermite3 b forms body) → r.rest ≡ [] → with_object_segment b r.object r.segment ≡ body
    → AreBlocksRead as_hermite3 b forms body
blocks_last as_hermite3 b forms body r none same =
    let whole : forms ≡ r.block = r.shape ∙ ap (λ (fs : List Form). r.block ++ fs) none ∙ append-nil r.block in
    record {
      object = r.object;
      segments = r.segment ∷ [];
      suits = r.suits;
      blocks = subst (λ (fs : List Form). AreBlocks as_hermite3 r.object (end_of b.segments) fs (r.segment ∷ [])) (sym whole) (last (end_of b.segments) r.block r.segment r.said);
      named = ap (λ (c : Body). c.object) (sym same);
      whole = ap (λ (c : Body). c.segments) (sym same);
    }

-- more blocks follow
blocks_more : (as_hermite3 : Bool) (b : Body) (forms : List Form) (body : Body) (r : IsBlockRead as_hermite3 b forms body)
    → AreBlocksRead as_hermite3 (with_object_segment b r.object r.segment) r.rest body → AreBlocksRead as_hermite3 b forms body
blocks_more as_hermite3 b forms body r later =
    let object : later.object ≡ r.object = sym later.suits in
    let others : AreBlocks as_hermite3 r.object r.segment.last r.rest later.segments =
    subst (λ (n : ℕ). AreBlocks as_hermite3 r.object n r.rest later.segments) (end_push b.segments r.segment)
    (subst (λ (o : Object). AreBlocks as_hermite3 o (end_of (b.segments ++ r.segment ∷ [])) r.rest later.segments) object later.blocks) in
    record {
      object = r.object;
      segments = r.segment ∷ later.segments;
      suits = r.suits;
      blocks =
          subst (λ (fs : List Form). AreBlocks as_hermite3 r.object (end_of b.segments) fs (r.segment ∷ later.segments)) (sym r.shape)
          (more (end_of b.segments) r.block r.rest r.segment later.segments r.said others);
      named = later.named ∙ ap (λ (o : Object). Some o) object;
      whole = later.whole ∙ append_assoc b.segments (r.segment ∷ []) later.segments;
    }

-- a block is not empty
shorter : (as_hermite3 : Bool) (b : Body) (forms : List Form) (body : Body) (r : IsBlockRead as_hermite3 b forms body) → length r.rest < length forms
shorter as_hermite3 b forms body r =
    let some : 1 ≤ length r.block = subst (λ (fs : List Form). 1 ≤ length fs) (sym r.said.shape) (omega arith) in
    omega (arith, ap length r.shape, length-append r.block r.rest)

blocks_read : (as_hermite3 : Bool) (n : ℕ) (b : Body) (forms : List Form) (body : Body) → length forms ≤ n → run as_hermite3 (After b) forms ≡ Ok body
    → ((forms ≡ []) × (b ≡ body)) ⊎ AreBlocksRead as_hermite3 b forms body
unfolding finished
blocks_read as_hermite3 n b [] body few e = inl (refl, cc)
blocks_read as_hermite3 n b (Blank ∷ forms) body few e = absurd cc
blocks_read as_hermite3 n b (Comment ∷ forms) body few e = absurd cc
blocks_read as_hermite3 zero b (Mark MetaStart ∷ forms) body few e = absurd (omega arith)
blocks_read as_hermite3 (suc n) b (Mark MetaStart ∷ forms) body few e =
    let r = block_read as_hermite3 b forms body e in
    let less = shorter as_hermite3 b (Mark MetaStart ∷ forms) body r in
    inr (⊎_elim
    (λ end. blocks_last as_hermite3 b (Mark MetaStart ∷ forms) body r end.0 end.1)
    (λ later. blocks_more as_hermite3 b (Mark MetaStart ∷ forms) body r later)
    (blocks_read as_hermite3 n (with_object_segment b r.object r.segment) r.rest body (omega arith) r.next))
blocks_read as_hermite3 n b (Mark MetaStop ∷ forms) body few e = absurd cc
blocks_read as_hermite3 n b (Mark CovarianceStart ∷ forms) body few e = absurd cc
blocks_read as_hermite3 n b (Mark CovarianceStop ∷ forms) body few e = absurd cc
blocks_read as_hermite3 n b (Pair key value ∷ forms) body few e = absurd cc
blocks_read as_hermite3 n b (Row text ∷ forms) body few e = absurd cc

-- from where a block may begin, what is left is nothing or blocks
pub blocks_are : (as_hermite3 : Bool) (b : Body) (forms : List Form) (body : Body) → run as_hermite3 (Meta b EMPTY) forms ≡ Ok body
    → AreBlocksRead as_hermite3 b (Mark MetaStart ∷ forms) body
blocks_are as_hermite3 b forms body e =
    ⊎_elim (λ none. absurd cc) (λ blocks. blocks) (blocks_read as_hermite3 (length (Mark MetaStart ∷ forms)) b (Mark MetaStart ∷ forms) body (omega arith) e)

-- ---- blocks are accepted

-- nothing, or a further block
abbrev MayFollow : List Form → Type 0
MayFollow [] = Unit {0}
MayFollow (Blank ∷ forms) = ⊥
MayFollow (Comment ∷ forms) = ⊥
MayFollow (Mark MetaStart ∷ forms) = Unit {0}
MayFollow (Mark MetaStop ∷ forms) = ⊥
MayFollow (Mark CovarianceStart ∷ forms) = ⊥
MayFollow (Mark CovarianceStop ∷ forms) = ⊥
MayFollow (Pair key value ∷ forms) = ⊥
MayFollow (Row text ∷ forms) = ⊥

run_close : (as_hermite3 : Bool) (b : Body) (s : OpenSegment) (rest : List Form) → close_nodes b s ≡ Ok tt → MayFollow rest
    → run as_hermite3 (Data b s) rest ≡ run as_hermite3 (After (with_segment b s [])) rest
unfolding finished
run_close as_hermite3 b s [] e may = ap (λ (r : Result (Unit {0}) OemCause). r >>= λ _. Ok (with_segment b s [])) e
run_close as_hermite3 b s (Blank ∷ rest) e may = absurd may
run_close as_hermite3 b s (Comment ∷ rest) e may = absurd may
run_close as_hermite3 b s (Mark MetaStart ∷ rest) e may =
    ap (λ (r : Result (Unit {0}) OemCause). (r >>= λ _. Ok (Meta (with_segment b s []) EMPTY)) >>= λ next. run as_hermite3 next rest) e
run_close as_hermite3 b s (Mark MetaStop ∷ rest) e may = absurd may
run_close as_hermite3 b s (Mark CovarianceStart ∷ rest) e may = absurd may
run_close as_hermite3 b s (Mark CovarianceStop ∷ rest) e may = absurd may
run_close as_hermite3 b s (Pair key value ∷ rest) e may = absurd may
run_close as_hermite3 b s (Row text ∷ rest) e may = absurd may

run_end_some : (as_hermite3 : Bool) (b : Body) (s : OpenSegment) (front rest : List Form) (covariances : List PlainMatrix) → close_nodes b s ≡ Ok tt → AreCovariances front covariances
    → run as_hermite3 (Data b s) (front ++ rest) ≡ run as_hermite3 (After (with_segment b s covariances)) rest
run_end_some as_hermite3 b s front rest covariances e a =
    let inner = (a.inner ++ Mark CovarianceStop ∷ []) ++ rest in
    let again = matrices_again a.inner covariances a.matrices in
    ap (λ (fs : List Form). run as_hermite3 (Data b s) (fs ++ rest)) a.marks
    ∙ ap (λ (r : Result (Unit {0}) OemCause). (r >>= λ _. Ok (Cov b s NO_COVARIANCES)) >>= λ next. run as_hermite3 next inner) e
    ∙ ap (run as_hermite3 (Cov b s NO_COVARIANCES)) (append_assoc a.inner (Mark CovarianceStop ∷ []) rest)
    ∙ run_covariances as_hermite3 b s a.inner NO_COVARIANCES again.0 (Mark CovarianceStop ∷ rest) again.1
    ∙ ap (λ (r : Result (List PlainMatrix) OemCause). (r >>= λ cs. Ok (After (with_segment b s cs))) >>= λ next. run as_hermite3 next rest) again.2

run_end_none : (as_hermite3 : Bool) (b : Body) (s : OpenSegment) (front rest : List Form) (covariances : List PlainMatrix) → close_nodes b s ≡ Ok tt → HasNoCovariances front covariances
    → MayFollow rest → run as_hermite3 (Data b s) (front ++ rest) ≡ run as_hermite3 (After (with_segment b s covariances)) rest
run_end_none as_hermite3 b s front rest covariances e n may =
    ap (λ (fs : List Form). run as_hermite3 (Data b s) (fs ++ rest)) n.no_line
    ∙ run_close as_hermite3 b s rest e may
    ∙ ap (λ (cs : List PlainMatrix). run as_hermite3 (After (with_segment b s cs)) rest) (sym n.none)

run_block : (as_hermite3 : Bool) (b : Body) (lines rest : List Form) (object : Object) (segment : PlainSegment) → Suits b.object object → IsBlock as_hermite3 object (end_of b.segments) lines segment
    → MayFollow rest → run as_hermite3 (After b) (lines ++ rest) ≡ run as_hermite3 (After (with_object_segment b object segment)) rest
run_block as_hermite3 b lines rest object segment suits block may =
    let metadata : Metadata = record { object = object; first = segment.first; last = segment.last } in
    let s = open_segment metadata segment.nodes in
    let closed = close_again b s (record { enough = block.enough; useable = block.useable; later = block.later }) in
    let again = metadata_again as_hermite3 b.object block.entries object segment.first segment.last suits block.metadata in
    let behind = row_lines block.rows ++ (block.rest ++ rest) in
    ap (λ (fs : List Form). run as_hermite3 (After b) (fs ++ rest)) block.shape
    ∙ ap (run as_hermite3 (After b)) (sym (lines_behind block.entries block.rows block.rest rest))
    ∙ run_meta as_hermite3 b block.entries EMPTY again.0 (Mark MetaStop ∷ behind) again.1
    ∙ ap (λ (r : Result Metadata OemCause). (r >>= λ p. Ok (Data b (open_segment p []))) >>= λ next. run as_hermite3 next behind) again.2
    ∙ run_rows as_hermite3 b metadata block.rows [] segment.nodes (block.rest ++ rest) (nodes_again block.rows segment.nodes block.nodes block.steps)
    ∙ ⊎_elim
    (λ some. run_end_some as_hermite3 b s block.rest rest segment.covariances closed some)
    (λ none. run_end_none as_hermite3 b s block.rest rest segment.covariances closed none may)
    block.covariances

-- a block begins with its metadata
abbrev pub Begins : List Form → Type 0
Begins forms = (rest : List Form) × (forms ≡ Mark MetaStart ∷ rest)

block_begins : (as_hermite3 : Bool) (from : ℕ) (lines rest : List Form) (object : Object) (segment : PlainSegment) → IsBlock as_hermite3 object from lines segment → Begins (lines ++ rest)
block_begins as_hermite3 from lines rest object segment block =
    (((pair_lines block.entries ++ Mark MetaStop ∷ row_lines block.rows) ++ block.rest) ++ rest, ap (λ (fs : List Form). fs ++ rest) block.shape)

pub blocks_begin : (as_hermite3 : Bool) (object : Object) (from : ℕ) (forms : List Form) (segments : List PlainSegment) → AreBlocks as_hermite3 object from forms segments → Begins forms
blocks_begin as_hermite3 object from forms segments (last at ls segment block) = subst Begins (append-nil ls) (block_begins as_hermite3 at ls [] object segment block)
blocks_begin as_hermite3 object from forms segments (more at ls rest segment others block later) = block_begins as_hermite3 at ls rest object segment block

blocks_follow : (forms : List Form) → Begins forms → MayFollow forms
blocks_follow forms b = subst MayFollow (sym b.1) tt

pub blocks_again : (as_hermite3 : Bool) (object : Object) (from : ℕ) (forms : List Form) (segments : List PlainSegment) → AreBlocks as_hermite3 object from forms segments
    → (b : Body) → Suits b.object object → from ≡ end_of b.segments → run as_hermite3 (After b) forms ≡ Ok (record { object = Some object; segments = b.segments ++ segments })
unfolding finished
blocks_again as_hermite3 object from forms segments (last at ls segment block) b suits g =
    ap (run as_hermite3 (After b)) (sym (append-nil ls))
    ∙ run_block as_hermite3 b ls [] object segment suits (subst (λ (n : ℕ). IsBlock as_hermite3 object n ls segment) g block) tt
blocks_again as_hermite3 object from forms segments (more at ls rest segment others block later) b suits g =
    run_block as_hermite3 b ls rest object segment suits (subst (λ (n : ℕ). IsBlock as_hermite3 object n ls segment) g block)
    (blocks_follow rest (blocks_begin as_hermite3 object segment.last rest others later))
    ∙ blocks_again as_hermite3 object segment.last rest others later (with_object_segment b object segment) refl (sym (end_push b.segments segment))
    ∙ ap (λ (all : List PlainSegment). Ok (record { object = Some object; segments = all })) (append_assoc b.segments (segment ∷ []) others)
