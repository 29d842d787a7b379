-- The lines of the spans of leaves, written run by run.
use Rattle.std.proofs.Common.{◌≡◌, ℕ, ◌+◌, ◌<◌, ◌≤◌, true, false, ◌&&◌, List, ◌∷◌, ◌++◌, length, drop, get_or, ap, sym, ◌∙◌, append-nil, append_assoc, refl}
use Rattle.std.proofs.lemmas.Bool.{and_parts}
use Rattle.std.proofs.lemmas.List.{drop_all, drop_more}
use Rattle.std.specs.Prelude.{flat_map}
use Rattle.cj_case.specs.declared.leaf.Leaf.{Leaf}
use Rattle.cj_case.specs.Leaves.{PlainLeaf, plain_leaf, plain_leaves, same_kind}
use Rattle.cj_meet.specs.Encounters.{follows}
use Rattle.cj_bezier.proofs.KindLemmas.{from_same_kind}
use Rattle.cj_meet.specs.Spans.{spans_of}
use Rattle.cj_meet.proofs.SpanLemmas.{spans_of-joined, spans_of-parted, joined, goes_on-from}
use Rattle.cj_report.specs.Report.{span_line}

-- the lines of the spans of a run and the leaves from place i on
abbrev pub lines_from : PlainLeaf → List Leaf → ℕ → List ℕ
lines_from run leaves i = flat_map span_line (spans_of (run ∷ plain_leaves (drop i leaves)))

lines_at : (run : PlainLeaf) (leaves : List Leaf) (i : ℕ) (leaf : Leaf) → i < length leaves → leaf ≡ get_or leaves i leaf →
    lines_from run leaves i ≡ flat_map span_line (spans_of (run ∷ plain_leaf leaf ∷ plain_leaves (drop (i + 1) leaves)))
lines_at run leaves i leaf short is =
    ap (λ l. flat_map span_line (spans_of (run ∷ plain_leaves l))) (drop_more leaves i leaf short ∙ ap (λ y. y ∷ drop (i + 1) leaves) (sym is))

-- a run that ends with the leaf that goes on with it is the two as one
longer_run : (run x : PlainLeaf) → (follows run x && same_kind run.kind x.kind) ≡ true → record run { last = x.last } ≡ joined run x
longer_run run x on =
    let test = and_parts (follows run x) (same_kind run.kind x.kind) on in
    let goes = goes_on-from run x test.0 in
    rw (goes.a, goes.b, from_same_kind run.kind x.kind test.1) refl

-- a leaf that goes on with the run lengthens it
pub step_longer : (was now whole : List ℕ) (run next : PlainLeaf) (leaves : List Leaf) (i : ℕ) (leaf : Leaf) → i < length leaves → leaf ≡ get_or leaves i leaf →
    (follows run (plain_leaf leaf) && same_kind run.kind leaf.kind) ≡ true → next ≡ record run { last = leaf.cell.last.micros } → now ≡ was →
    was ++ lines_from run leaves i ≡ whole → now ++ lines_from next leaves (i + 1) ≡ whole
step_longer was now whole run next leaves i leaf short is on longer kept before =
    let same = lines_at run leaves i leaf short is ∙ ap (flat_map span_line) (spans_of-joined run (plain_leaf leaf) (plain_leaves (drop (i + 1) leaves)) on) in
    ap (λ r. now ++ lines_from r leaves (i + 1)) (longer ∙ longer_run run (plain_leaf leaf) on) ∙
    (ap (λ t. t ++ lines_from (joined run (plain_leaf leaf)) leaves (i + 1)) kept ∙ (ap (λ t. was ++ t) (sym same) ∙ before))

-- before any other leaf the run is a span
pub step_parted : (was now whole : List ℕ) (run next : PlainLeaf) (leaves : List Leaf) (i : ℕ) (leaf : Leaf) → i < length leaves → leaf ≡ get_or leaves i leaf →
    (follows run (plain_leaf leaf) && same_kind run.kind leaf.kind) ≡ false → next ≡ plain_leaf leaf → now ≡ was ++ span_line run →
    was ++ lines_from run leaves i ≡ whole → now ++ lines_from next leaves (i + 1) ≡ whole
step_parted was now whole run next leaves i leaf short is off alone written before =
    let same = lines_at run leaves i leaf short is ∙ ap (flat_map span_line) (spans_of-parted run (plain_leaf leaf) (plain_leaves (drop (i + 1) leaves)) off) in
    ap (λ r. now ++ lines_from r leaves (i + 1)) alone ∙ (ap (λ t. t ++ lines_from (plain_leaf leaf) leaves (i + 1)) written ∙
    (append_assoc was (span_line run) (lines_from (plain_leaf leaf) leaves (i + 1)) ∙ (ap (λ t. was ++ t) (sym same) ∙ before)))

-- after the last leaf the run is the last span
pub step_last : (was now whole : List ℕ) (run : PlainLeaf) (leaves : List Leaf) (i : ℕ) → length leaves ≤ i → now ≡ was ++ span_line run →
    was ++ lines_from run leaves i ≡ whole → now ≡ whole
step_last was now whole run leaves i end written before =
    written ∙ (ap (λ t. was ++ t) (sym (ap (λ l. flat_map span_line (spans_of (run ∷ plain_leaves l))) (drop_all i leaves end)
    ∙ append-nil (span_line run))) ∙ before)
