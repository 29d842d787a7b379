-- The nodes of a catalogue's object are read.
use Rattle.std.proofs.Common.{◌≡◌, ℕ, zero, suc, ◌+◌, ◌^◌, ◌<◌, ◌≤◌, List, [], ◌∷◌, ◌++◌, true, false, map, ap, sym, subst, ◌∙◌, refl, arith, append_assoc, append-nil, Option, Some, None, Ok, All}
use Rattle.std.specs.Prelude.{ℤ, flat_map, nat_le, unsigned_abs}
use Rattle.std.specs.List.{list_all, last_or, range_with_len}
use Rattle.std.proofs.lemmas.Bool.{le-ltb}
use Rattle.std.proofs.lemmas.Bool.Decides.{nat_tests}
use Rattle.std.proofs.lemmas.List.FromFn.{get_or-range_with_len, length-range_with_len}
use Rattle.cj_kvn.specs.Fields.{fields}
use Rattle.cj_kvn.specs.Lines.{Form, Row}
use Rattle.cj_kvn.proofs.ListLemmas.{last_push}
use Rattle.cj_epoch.proofs.LeapLemmas.{no_leap}
use Rattle.cj_track.specs.Limits.{MAX_COORDINATE, MAX_RATE}
use Rattle.cj_track.specs.PlainTracks.{PlainNode, first_state, last_state}
use Rattle.cj_formats.specs.declared.oem_cause.OemCause.TheVariants as causes
use Rattle.cj_oem.specs.Metadata.{Metadata, epoch_or, parse_epoch}
use Rattle.cj_oem.specs.NodeRows.{figure_or, figures_in, following, parse_figure, state_of_fields, state_of_row, state_said}
use Rattle.cj_oem.specs.Stages.{Body, Data, follows}
use Rattle.cj_oem.proofs.PrintedLineLemmas.{Tells, told_each, told_line}
use Rattle.cj_oem.proofs.PrintedRowLemmas.{fields_row, is_field, row_line, row_of}
use Rattle.cj_oem.proofs.StateAgainLemmas.{IsVector, vector_again, open_segment}
use Rattle.cj_oem.proofs.WalkLemmas.{walk, walk_step}
use Rattle.cj_gen.specs.declared.orbit.Orbit.{Orbit}
use Rattle.cj_gen.specs.declared.tilt.Vector.{Vector}
use Rattle.cj_kvn.specs.Entries.{line}
use Rattle.cj_gen.specs.Texts.{kilometres, kilometres_a_second, node_line, place_text, rate_text, stamp}
use Rattle.cj_gen.specs.MadeTracks.{node_at, tick_at}
use Rattle.cj_gen.proofs.BoundLemmas.{IsMade, place_at, place_is, place_within, speed_at, speed_is, speed_within}
use Rattle.cj_gen.proofs.FigureLemmas.{kilometres_field, kilometres_read, rate_field, rate_read}
use Rattle.cj_gen.proofs.StampLemmas.{stamp_field, stamp_read}

-- ---- the fields of a row

abbrev pub content : Orbit → ℕ → List ℕ
content o n = stamp n ++ place_text (place_at o n) ++ rate_text (speed_at o n)

abbrev others : Vector → Vector → List (List ℕ)
others p v = kilometres p.x ∷ kilometres p.y ∷ kilometres p.z ∷ kilometres_a_second v.x ∷ kilometres_a_second v.y ∷ kilometres_a_second v.z ∷ []

seven : (t a b c u v w : List ℕ) → t ++ (32 ∷ [] ++ a ++ 32 ∷ [] ++ b ++ 32 ∷ [] ++ c) ++ (32 ∷ [] ++ u ++ 32 ∷ [] ++ v ++ 32 ∷ [] ++ w) ≡ row_of t (a ∷ b ∷ c ∷ u ∷ v ∷ w ∷ [])
seven t a b c u v w = simp (append_assoc, append-nil)

row_shape : (n : ℕ) (p v : Vector) → stamp n ++ place_text p ++ rate_text v ≡ row_of (stamp n) (others p v)
unfolding place_text rate_text
row_shape n p v = seven (stamp n) (kilometres p.x) (kilometres p.y) (kilometres p.z) (kilometres_a_second v.x) (kilometres_a_second v.y) (kilometres_a_second v.z)

small : (z : ℤ) → unsigned_abs z ≤ 15000000 → unsigned_abs z < 2 ^ 63
small z h = omega arith

row_fields : (o : Orbit) → IsMade o → (n : ℕ) → n ≤ 1440 → list_all is_field (stamp n ∷ others (place_at o n) (speed_at o n)) ≡ true
row_fields o is n few =
    let p = place_at o n in
    let v = speed_at o n in
    let wp = place_within o is n few in
    let wv = speed_within o is n few in
    rw (
      stamp_field n,
      kilometres_field p.x (small p.x wp.0),
      kilometres_field p.y (small p.y wp.1),
      kilometres_field p.z (small p.z wp.2),
      rate_field v.x (small v.x wv.0),
      rate_field v.y (small v.y wv.1),
      rate_field v.z (small v.z wv.2),
    ) refl

-- ---- the node that it says

row_says : (before : Option PlainNode) (t a b c u v w : List ℕ) (s : PlainNode) → parse_epoch t ≡ Ok s.at
    → parse_figure a ≡ Ok (Some s.p.x) → parse_figure b ≡ Ok (Some s.p.y) → parse_figure c ≡ Ok (Some s.p.z)
    → parse_figure u ≡ Ok (Some s.v.x) → parse_figure v ≡ Ok (Some s.v.y) → parse_figure w ≡ Ok (Some s.v.z)
    → IsVector MAX_COORDINATE s.p → IsVector MAX_RATE s.v → following before s ≡ Ok s
    → state_of_fields before (t ∷ a ∷ b ∷ c ∷ u ∷ v ∷ w ∷ []) ≡ Ok s
unfolding state_of_fields state_said figures_in
row_says before t a b c u v w s at x y z dx dy dz place rate follows_on =
    rw (at, x, y, z, dx, dy, dz, vector_again MAX_COORDINATE causes.CoordinateRange s.p place, vector_again MAX_RATE causes.RateRange s.v rate) follows_on

node_read : (before : Option PlainNode) (o : Orbit) → IsMade o → (n : ℕ) → n ≤ 1440 → following before (node_at o n) ≡ Ok (node_at o n) → state_of_row before (content o n) ≡ Ok (node_at o n)
node_read before o is n few follows_on =
    let p = place_at o n in
    let v = speed_at o n in
    let wp = place_within o is n few in
    let wv = speed_within o is n few in
    ap (state_of_fields before) (ap fields (row_shape n p v) ∙ fields_row (stamp n) (others p v) (row_fields o is n few))
    ∙ row_says before (stamp n) (kilometres p.x) (kilometres p.y) (kilometres p.z) (kilometres_a_second v.x) (kilometres_a_second v.y) (kilometres_a_second v.z) (node_at o n)
    (ap epoch_or (stamp_read n few))
    (ap figure_or (kilometres_read p.x (small p.x wp.0))) (ap figure_or (kilometres_read p.y (small p.y wp.1))) (ap figure_or (kilometres_read p.z (small p.z wp.2)))
    (ap figure_or (rate_read v.x (small v.x wv.0))) (ap figure_or (rate_read v.y (small v.y wv.1))) (ap figure_or (rate_read v.z (small v.z wv.2)))
    (place_is o is n few) (speed_is o is n few) follows_on

-- ---- the lines

abbrev pub node_forms : Orbit → ℕ → List Form
node_forms o n = Row (content o n) ∷ []

node_told : (o : Orbit) → IsMade o → (n : ℕ) → n ≤ 1440 → Tells (node_line o n) (node_forms o n)
unfolding node_line
node_told o is n few =
    let first = stamp n in
    let rest = others (place_at o n) (speed_at o n) in
    subst (λ (text : List ℕ). Tells (line text) (Row text ∷ [])) (sym (row_shape n (place_at o n) (speed_at o n)))
    (told_line (row_of first rest) (Row (row_of first rest)) (row_line first rest (row_fields o is n few)))

few_in_range : (k : ℕ) → k ≤ 1441 → All (λ n. n ≤ 1440) (range_with_len 0 k)
few_in_range k few i d below = omega (arith, get_or-range_with_len 0 k i d (omega (arith, length-range_with_len 0 k)), length-range_with_len 0 k)

pub nodes_told : (o : Orbit) → IsMade o → (minutes : ℕ) → minutes ≤ 1440
    → Tells (flat_map (node_line o) (range_with_len 0 (minutes + 1))) (flat_map (node_forms o) (range_with_len 0 (minutes + 1)))
nodes_told o is minutes few =
    told_each (λ (n : ℕ). n ≤ 1440) (node_line o) (node_forms o) (λ n at. node_told o is n at) (range_with_len 0 (minutes + 1)) (few_in_range (minutes + 1) (omega arith))

-- ---- one node after another

node_follows : (o : Orbit) (n : ℕ) → n ≤ 1440 → following (Some (node_at o n)) (node_at o (n + 1)) ≡ Ok (node_at o (n + 1))
node_follows o n few =
    let rises : nat_le (tick_at (n + 1)) (tick_at n) ≡ false = grind (arith, nat_tests) in
    let short = le-ltb (tick_at n + 3_600_000_000) (tick_at (n + 1)) (omega arith) in
    rw (rises, short, no_leap (tick_at n) (tick_at (n + 1)) (omega arith)) refl

row_follows : (b : Body) (metadata : Metadata) (front : List PlainNode) (o : Orbit) → IsMade o → (n : ℕ) → n ≤ 1440 → following (last_state front) (node_at o n) ≡ Ok (node_at o n)
    → follows false (Data b (open_segment metadata front)) (Row (content o n)) ≡ Ok (Data b (open_segment metadata (front ++ node_at o n ∷ [])))
unfolding follows
row_follows b metadata front o is n few follows_on = rw (node_read (last_state front) o is n few follows_on) refl

rows_walk : (b : Body) (metadata : Metadata) (front : List PlainNode) (o : Orbit) → IsMade o → (a k : ℕ) → a + k ≤ 1441 → (a ≤ 1440 → following (last_state front) (node_at o a) ≡ Ok (node_at o a))
    → walk (Data b (open_segment metadata front)) (flat_map (node_forms o) (range_with_len a k)) ≡ Ok (Data b (open_segment metadata (front ++ map (node_at o) (range_with_len a k))))
rows_walk b metadata front o is a zero within follows_on = ap (λ (ss : List PlainNode). Ok (Data b (open_segment metadata ss))) (sym (append-nil front))
rows_walk b metadata front o is a (suc k) within follows_on =
    let s = node_at o a in
    let next = front ++ s ∷ [] in
    let rest = range_with_len (a + 1) k in
    walk_step (Data b (open_segment metadata front)) (Data b (open_segment metadata next)) (Row (content o a)) (flat_map (node_forms o) rest)
    (row_follows b metadata front o is a (omega arith) (follows_on (omega arith)))
    ∙ rows_walk b metadata next o is (a + 1) k (omega arith)
    (λ few. subst (λ (before : Option PlainNode). following before (node_at o (a + 1)) ≡ Ok (node_at o (a + 1))) (sym (last_push None front s)) (node_follows o a (omega arith)))
    ∙ ap (λ (ss : List PlainNode). Ok (Data b (open_segment metadata ss))) (append_assoc front (s ∷ []) (map (node_at o) rest))

pub nodes_walk : (b : Body) (metadata : Metadata) (o : Orbit) → IsMade o → (minutes : ℕ) → minutes ≤ 1440
    → walk (Data b (open_segment metadata [])) (flat_map (node_forms o) (range_with_len 0 (minutes + 1))) ≡ Ok (Data b (open_segment metadata (map (node_at o) (range_with_len 0 (minutes + 1)))))
nodes_walk b metadata o is minutes few = rows_walk b metadata [] o is 0 (minutes + 1) (omega arith) (λ at. refl)

-- the first of them, and the last
last_from : (o : Orbit) (before : Option PlainNode) (a k : ℕ) → last_or before (map (node_at o) (range_with_len a (suc k))) ≡ Some (node_at o (a + k))
last_from o before a zero = let e : a ≡ a + 0 = omega arith in ap (λ (n : ℕ). Some (node_at o n)) e
last_from o before a (suc k) =
    let e : a + 1 + k ≡ a + suc k = omega arith in
    last_from o (Some (node_at o a)) (a + 1) k ∙ ap (λ (n : ℕ). Some (node_at o n)) e

pub first_node : (o : Orbit) (minutes : ℕ) → first_state (map (node_at o) (range_with_len 0 (minutes + 1))) ≡ Some (node_at o 0)
first_node o minutes = let e : minutes + 1 ≡ suc minutes = omega arith in rw e refl

pub last_node : (o : Orbit) (minutes : ℕ) → last_state (map (node_at o) (range_with_len 0 (minutes + 1))) ≡ Some (node_at o minutes)
last_node o minutes =
    let e : minutes + 1 ≡ suc minutes = omega arith in
    let f : 0 + minutes ≡ minutes = omega arith in
    ap (λ (k : ℕ). last_or None (map (node_at o) (range_with_len 0 k))) e ∙ last_from o None 0 minutes ∙ ap (λ (n : ℕ). Some (node_at o n)) f
