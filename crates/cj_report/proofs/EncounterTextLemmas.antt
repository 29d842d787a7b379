-- The lines of an encounter, by what it says of itself and by its leaves.
use Rattle.std.proofs.Common.{◌≡◌, ℕ, Bool, false, ◌+◌, ◌<◌, List, ◌++◌, length, map, take, get_or, Option, None, ap, sym, ◌∙◌, append_assoc, arith}
use Rattle.std.proofs.lemmas.List.{get_or-map, length-map}
use Rattle.std.specs.Prelude.{flat_map, slice_range}
use Rattle.cj_case.specs.declared.encounter.Encounter.{Encounter}
use Rattle.cj_case.specs.declared.leaf.Leaf.{Leaf}
use Rattle.cj_case.specs.Leaves.{PlainLeaf, plain_leaves}
use Rattle.cj_case.specs.declared.encounter.Closest.{Closest}
use Rattle.cj_meet.specs.Closest.{PlainClosest, some_closest}
use Rattle.cj_meet.specs.Encounters.{first_object, second_object, mark_of, leaves_in, groups_in, Describes}
use Rattle.cj_meet.specs.Spans.{spans_of}
use Rattle.cj_meet.proofs.EncounterLemmas.{described_objects, leaves_in_encounter}
use Rattle.cj_report.proofs.NumberLemmas.{numbered_step}
use Rattle.cj_report.specs.Report.{numbered, encounter_line, encounter_lines, span_line, approach_words}

encounter_line-told : (ss : List PlainLeaf) (e : Encounter) (n : ℕ) (words : List (List ℕ)) → Describes ss e →
    encounter_line n e.pair.a e.pair.b e.mark words
    ≡ encounter_line n (first_object (leaves_in ss e)) (second_object (leaves_in ss e)) (mark_of (leaves_in ss e)) words
encounter_line-told ss e n words d =
    let objects = described_objects ss e d in
    ap (λ a. encounter_line n a e.pair.b e.mark words) (sym objects.0) ∙
    (ap (λ b. encounter_line n (first_object (leaves_in ss e)) b e.mark words) (sym objects.1) ∙
    ap (λ m. encounter_line n (first_object (leaves_in ss e)) (second_object (leaves_in ss e)) m words) d.mark)

-- the text after the first line of an encounter and after its spans
pub encounter_written : (leaves : List Leaf) (e : Encounter) (closest : Closest) (has_message : Bool) (n : ℕ) (old was now : List ℕ) → Describes (plain_leaves leaves) e →
    was ≡ old ++ encounter_line n e.pair.a e.pair.b e.mark (approach_words (some_closest closest) has_message) →
    now ≡ was ++ flat_map span_line (spans_of (plain_leaves (slice_range leaves e.leaf e.past))) →
    now ≡ old ++ encounter_lines (λ _. some_closest closest) (λ _. has_message) n (leaves_in (plain_leaves leaves) e)
encounter_written leaves e closest has_message n old was now d first spans =
    let group = leaves_in (plain_leaves leaves) e in
    let words = approach_words (some_closest closest) has_message in
    let heading = encounter_line n (first_object group) (second_object group) (mark_of group) words in
    spans ∙
    (ap (λ t. t ++ flat_map span_line (spans_of (plain_leaves (slice_range leaves e.leaf e.past)))) (first ∙ ap (λ t. old ++ t) (encounter_line-told (plain_leaves leaves) e n words d)) ∙
    (ap (λ g. (old ++ heading) ++ flat_map span_line (spans_of g)) (leaves_in_encounter leaves e) ∙
    append_assoc old heading (flat_map span_line (spans_of group))))

-- the closest approach at a place is the one that its encounter has
pub approach_at : (approach : List PlainLeaf → Option PlainClosest) (ss : List PlainLeaf) (es : List Encounter) (xs : List Closest) (i : ℕ) (e : Encounter) (x : Closest) → i < length es → length xs ≡ length es →
    e ≡ get_or es i e → x ≡ get_or xs i x → map some_closest xs ≡ map approach (groups_in ss es) → some_closest x ≡ approach (leaves_in ss e)
approach_at approach ss es xs i e x lt same e_is x_is each =
    let none : Option PlainClosest = None in
    ap some_closest x_is
    ∙ sym (get_or-map some_closest xs i x none (omega arith))
    ∙ ap (λ (ys : List (Option PlainClosest)). get_or ys i none) each
    ∙ get_or-map approach (groups_in ss es) i (leaves_in ss e) none (omega (arith, length-map es (leaves_in ss)))
    ∙ ap approach (get_or-map (leaves_in ss) es i e (leaves_in ss e) lt)
    ∙ ap (λ (y : Encounter). approach (leaves_in ss y)) (sym e_is)

-- so is whether there is a message
message_at : (has_message : List PlainLeaf → Bool) (ss : List PlainLeaf) (es : List Encounter) (bs : List Bool) (i : ℕ) (e : Encounter) → i < length es → e ≡ get_or es i e →
    bs ≡ map has_message (groups_in ss es) → get_or bs i false ≡ has_message (leaves_in ss e)
message_at has_message ss es bs i e lt e_is each =
    ap (λ (ys : List Bool). get_or ys i false) each
    ∙ get_or-map has_message (groups_in ss es) i (leaves_in ss e) false (omega (arith, length-map es (leaves_in ss), lt))
    ∙ ap has_message (get_or-map (leaves_in ss) es i e (leaves_in ss e) lt)
    ∙ ap (λ (y : Encounter). has_message (leaves_in ss y)) (sym e_is)

-- the text after the encounters before place i, and then after that one
pub encounters_step : (approach : List PlainLeaf → Option PlainClosest) (has_message : List PlainLeaf → Bool) (ss : List PlainLeaf) (es : List Encounter) (xs : List Closest) (bs : List Bool)
    (i : ℕ) (e : Encounter) (x : Closest) (old was now : List ℕ) → i < length es → length xs ≡ length es → e ≡ get_or es i e → x ≡ get_or xs i x →
    map some_closest xs ≡ map approach (groups_in ss es) → bs ≡ map has_message (groups_in ss es) →
    was ≡ old ++ numbered (encounter_lines approach has_message) 1 (groups_in ss (take i es)) →
    now ≡ was ++ encounter_lines (λ _. some_closest x) (λ _. get_or bs i false) (i + 1) (leaves_in ss e) →
    now ≡ old ++ numbered (encounter_lines approach has_message) 1 (groups_in ss (take (i + 1) es))
encounters_step approach has_message ss es xs bs i e x old was now lt same e_is x_is each noted before step =
    let group = leaves_in ss e in
    let lines : Option PlainClosest → Bool → List ℕ =
    λ a m. encounter_line (i + 1) (first_object group) (second_object group) (mark_of group) (approach_words a m) ++ flat_map span_line (spans_of group) in
    let told : now ≡ was ++ encounter_lines approach has_message (i + 1) group =
    step
    ∙ ap (λ (a : Option PlainClosest). was ++ lines a (get_or bs i false)) (approach_at approach ss es xs i e x lt same e_is x_is each)
    ∙ ap (λ (m : Bool). was ++ lines (approach group) m) (message_at has_message ss es bs i e lt e_is noted) in
    numbered_step (encounter_lines approach has_message) (leaves_in ss) es i e old was now lt e_is before told
