-- A generated file says its track, and is short.
use Rattle.std.proofs.Common.{◌≡◌, ℕ, ◌+◌, ◌-◌, ◌*◌, ◌/◌, ◌^◌, ◌<◌, ◌≤◌, List, [], ◌∷◌, ◌++◌, true, false, length, map, ap, sym, subst, ◌∙◌, refl, arith, Option, Some, Result, Ok, All, get_or}
use Rattle.std.specs.Prelude.{flat_map, nat_lt, is_ok, IsOk}
use Rattle.std.specs.List.{list_all, range_with_len}
use Rattle.std.proofs.lemmas.Bool.{le-leb, le-ltb}
use Rattle.std.proofs.lemmas.List.FromFn.{get_or-map-range_with_len, length-map-range_with_len, map-range_with_len_more}
use Rattle.cj_kvn.specs.Lines.{Form, Mark}
use Rattle.cj_kvn.specs.declared.lines.MarkKind.TheVariants.{CovarianceStart}
use Rattle.cj_track.specs.Labels.{is_file_name, is_visible}
use Rattle.cj_track.specs.PlainTracks.{PlainNode, PlainTrack, first_state, last_state}
use Rattle.cj_oem.specs.CovarianceRows.{NO_COVARIANCES}
use Rattle.cj_oem.specs.Reading.{Fault, lines_read, reading}
use Rattle.cj_oem.specs.Stages.{After, Body, Cov, Data, NO_BODY, OpenSegment, Start, close_nodes, finished, follows, is_useable, with_segment}
use Rattle.cj_oem.proofs.AgainLemmas.{reading_lines}
use Rattle.cj_oem.proofs.PrintedLineLemmas.{Tells, numbered_from, reading_told, told_append}
use Rattle.cj_oem.proofs.WalkLemmas.{read_walk, walk, walk_append, walk_step}
use Rattle.cj_io.specs.declared.file.FileBytes.{FileBytes}
use Rattle.cj_gen.specs.Catalogues.{catalogue_of, file_name, file_of}
use Rattle.cj_gen.specs.Draws.{state_after}
use Rattle.cj_gen.specs.declared.orbit.Orbit.{Orbit}
use Rattle.cj_gen.specs.Orbits.{orbit_from}
use Rattle.cj_gen.specs.Texts.{oem_of}
use Rattle.cj_gen.specs.MadeTracks.{covariance, node_at, tick_at, track_of, track_on}
use Rattle.cj_gen.proofs.BoundLemmas.{IsMade, orbit_made}
use Rattle.cj_gen.proofs.LengthLemmas.{file_short}
use Rattle.cj_gen.proofs.LineLemmas.{covariance_forms, covariance_told, head_forms, head_told, head_walk, matrix_forms, matrix_walk, metadata, last_visible}
use Rattle.cj_gen.proofs.NodeLemmas.{first_node, last_node, node_forms, nodes_told, nodes_walk}

abbrev nodes : Orbit → ℕ → List PlainNode
nodes o minutes = map (node_at o) (range_with_len 0 (minutes + 1))

abbrev forms_of : ℕ → Orbit → ℕ → List Form
forms_of number o minutes = head_forms number minutes ++ flat_map (node_forms o) (range_with_len 0 (minutes + 1)) ++ covariance_forms

text_told : (number : ℕ) (o : Orbit) (minutes : ℕ) → IsMade o → minutes ≤ 1440 → Tells (oem_of number o minutes) (forms_of number o minutes)
unfolding oem_of
text_told number o minutes is few = told_append _ _ _ _ (told_append _ _ _ _ (head_told number minutes) (nodes_told o is minutes few)) covariance_told

abbrev segment : ℕ → Orbit → ℕ → OpenSegment
segment number o minutes = record { metadata = metadata number minutes; nodes = nodes o minutes }

useable : (o : Orbit) (minutes : ℕ) → is_useable 1_735_689_600_000_000 (tick_at minutes) (first_state (nodes o minutes)) (last_state (nodes o minutes)) ≡ true
useable o minutes =
    let some = le-leb 1_735_689_600_000_000 (tick_at minutes) (omega arith) in
    let whole = le-leb (tick_at minutes) (tick_at minutes) (omega arith) in
    ap (λ (s : Option PlainNode). is_useable 1_735_689_600_000_000 (tick_at minutes) s (last_state (nodes o minutes))) (first_node o minutes)
    ∙ ap (λ (s : Option PlainNode). is_useable 1_735_689_600_000_000 (tick_at minutes) (Some (node_at o 0)) s) (last_node o minutes)
    ∙ rw (some, whole) refl

closes : (number : ℕ) (o : Orbit) (minutes : ℕ) → 1 ≤ minutes → close_nodes NO_BODY (segment number o minutes) ≡ Ok tt
unfolding close_nodes
closes number o minutes some =
    let enough : nat_lt (length (nodes o minutes)) 2 ≡ false = le-ltb (length (nodes o minutes)) 2 (omega (arith, length-map-range_with_len (node_at o) 0 (minutes + 1))) in
    rw (enough, useable o minutes) refl

start_follows : (number : ℕ) (o : Orbit) (minutes : ℕ) → 1 ≤ minutes
    → follows false (Data NO_BODY (segment number o minutes)) (Mark CovarianceStart) ≡ Ok (Cov NO_BODY (segment number o minutes) NO_COVARIANCES)
unfolding follows
start_follows number o minutes some = rw (closes number o minutes some) refl

abbrev body : ℕ → Orbit → ℕ → Body
body number o minutes = with_segment NO_BODY (segment number o minutes) (covariance ∷ [])

text_walk : (number : ℕ) (o : Orbit) (minutes : ℕ) → IsMade o → 1 ≤ minutes → minutes ≤ 1440 → walk Start (forms_of number o minutes) ≡ Ok (After (body number o minutes))
text_walk number o minutes is some few =
    let rows = flat_map (node_forms o) (range_with_len 0 (minutes + 1)) in
    let s = segment number o minutes in
    let to_nodes = walk_append Start (Data NO_BODY (record { metadata = metadata number minutes; nodes = [] })) (head_forms number minutes) rows (head_walk number minutes few)
    ∙ nodes_walk NO_BODY (metadata number minutes) o is minutes few in
    walk_append Start (Data NO_BODY s) (head_forms number minutes ++ rows) covariance_forms to_nodes
    ∙ walk_step (Data NO_BODY s) (Cov NO_BODY s NO_COVARIANCES) (Mark CovarianceStart) matrix_forms (start_follows number o minutes some)
    ∙ matrix_walk NO_BODY s

all_finished : (b : Body) → finished (After b) ≡ Ok b
unfolding finished
all_finished b = refl

name_is : (n : ℕ) → is_file_name (file_name n) ≡ true
unfolding is_file_name
name_is n = rw (all_visible n) refl
  where
    all_visible : (n : ℕ) → list_all is_visible (file_name n) ≡ true
    all_visible n = rw (last_visible (n / 100 / 100), last_visible (n / 100 / 10), last_visible (n / 100), last_visible (n / 10), last_visible n) refl

lines_said : (number : ℕ) (o : Orbit) (minutes : ℕ) → IsMade o → 1 ≤ minutes → minutes ≤ 1440
    → lines_read false (file_name number) (numbered_from 1 (forms_of number o minutes)) ≡ Ok (track_on number o minutes)
unfolding lines_read track_on
lines_said number o minutes is some few =
    let b = body number o minutes in
    rw (read_walk Start (After b) (forms_of number o minutes) 1 b (text_walk number o minutes is some few) (all_finished b)) refl

pub file_read : (number : ℕ) (o : Orbit) (minutes : ℕ) → IsMade o → 1 ≤ minutes → minutes ≤ 1440 → reading (file_name number) (oem_of number o minutes) false ≡ Ok (track_on number o minutes)
file_read number o minutes is some few =
    let bytes = oem_of number o minutes in
    let forms = forms_of number o minutes in
    reading_lines (file_name number) bytes (numbered_from 1 forms) (name_is number) (reading_told bytes forms (text_told number o minutes is few)) ∙ lines_said number o minutes is some few

-- ---- the files of a catalogue

pub made_read : (seed minutes number : ℕ) → 1 ≤ minutes → minutes ≤ 1440
    → reading (file_of seed minutes number).name (file_of seed minutes number).bytes false ≡ Ok (track_of seed minutes number)
made_read seed minutes number some few =
    let state = state_after seed (3 * (number - 1)) in
    file_read number (orbit_from state) minutes (orbit_made state) some few

-- the file with this place in the catalogue
pub file_at : (seed objects minutes i : ℕ) (d : FileBytes) → i < objects → get_or (catalogue_of seed objects minutes) i d ≡ file_of seed minutes (1 + i)
unfolding catalogue_of
file_at seed objects minutes i d below = get_or-map-range_with_len (file_of seed minutes) 1 objects i (1 + i) d below refl

pub file_count : (seed objects minutes : ℕ) → length (catalogue_of seed objects minutes) ≡ objects
unfolding catalogue_of
file_count seed objects minutes = length-map-range_with_len (file_of seed minutes) 1 objects

abbrev pub IsAccepted : FileBytes → Type 0
IsAccepted file = IsOk (reading file.name file.bytes false)

pub each_accepted : (seed objects minutes : ℕ) → 1 ≤ minutes → minutes ≤ 1440 → All IsAccepted (catalogue_of seed objects minutes)
each_accepted seed objects minutes some few i d below =
    let inside : i < objects = omega (arith, file_count seed objects minutes) in
    subst IsAccepted (sym (file_at seed objects minutes i d inside)) (ap is_ok (made_read seed minutes (1 + i) some few))

pub each_short : (seed minutes number : ℕ) → minutes ≤ 1440 → length (file_of seed minutes number).bytes + 1 < 2 ^ 32
each_short seed minutes number few =
    let state = state_after seed (3 * (number - 1)) in
    file_short number (orbit_from state) minutes (orbit_made state) few

-- one track more
pub track_more : (seed minutes n : ℕ) (was now : List PlainTrack) (e : PlainTrack) → was ≡ map (track_of seed minutes) (range_with_len 1 n) → e ≡ track_of seed minutes (1 + n) → now ≡ was ++ e ∷ []
    → now ≡ map (track_of seed minutes) (range_with_len 1 (n + 1))
track_more seed minutes n was now e before same step =
    step
    ∙ ap (λ (ts : List PlainTrack). ts ++ e ∷ []) before
    ∙ ap (λ (t : PlainTrack). map (track_of seed minutes) (range_with_len 1 n) ++ t ∷ []) same
    ∙ sym (map-range_with_len_more (track_of seed minutes) 1 n (1 + n) refl)

-- what a file says is one thing
one_said : (r : Result PlainTrack Fault) (d e : PlainTrack) → r ≡ Ok d → r ≡ Ok e → d ≡ e
one_said r d e first second = cc

pub said_once : (file : FileBytes) (seed minutes number : ℕ) (e : PlainTrack) → 1 ≤ minutes → minutes ≤ 1440 → file ≡ file_of seed minutes number → reading file.name file.bytes false ≡ Ok e
    → e ≡ track_of seed minutes number
said_once file seed minutes number e some few same said =
    one_said (reading file.name file.bytes false) e (track_of seed minutes number) said
    (ap (λ (f : FileBytes). reading f.name f.bytes false) same ∙ made_read seed minutes number some few)

-- a file of the catalogue, as a loop over the files has it
pub made_at : (seed objects minutes i : ℕ) (files items : List FileBytes) (file : FileBytes) → items ≡ files → files ≡ catalogue_of seed objects minutes
    → i < length items → file ≡ get_or items i file
    → file ≡ file_of seed minutes (1 + i)
made_at seed objects minutes i files items file copied made below at =
    let same = copied ∙ made in
    let inside : i < objects = omega (arith, below, ap length same, file_count seed objects minutes) in
    at ∙ ap (λ (fs : List FileBytes). get_or fs i file) same ∙ file_at seed objects minutes i file inside

pub one_accepted : (seed minutes number : ℕ) (file : FileBytes) → 1 ≤ minutes → minutes ≤ 1440 → file ≡ file_of seed minutes number → IsAccepted file
one_accepted seed minutes number file some few same = subst IsAccepted (sym same) (ap is_ok (made_read seed minutes number some few))

pub one_short : (seed minutes number : ℕ) (file : FileBytes) → minutes ≤ 1440 → file ≡ file_of seed minutes number → length file.bytes + 1 < 2 ^ 32
one_short seed minutes number file few same = subst (λ (f : FileBytes). length f.bytes + 1 < 2 ^ 32) (sym same) (each_short seed minutes number few)
