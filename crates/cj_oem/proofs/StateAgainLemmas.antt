-- The rows of nodes are read again.
use Rattle.std.proofs.Common.{◌≡◌, ℕ, ◌<◌, ◌≤◌, ◌^◌, List, [], ◌∷◌, ◌++◌, true, false, ℤ, pos, negsuc, ap, sym, ◌∙◌, refl, arith, append_assoc, append-nil, Option, Some, None, Ok, All, subst}
use Rattle.std.specs.Prelude.{unsigned_abs, flat_map}
use Rattle.std.specs.List.{list_all}
use Rattle.std.proofs.lemmas.Bool.{le-leb}
use Rattle.std.proofs.lemmas.Int.{ints}
use Rattle.std.proofs.lemmas.List.Elements.{All-head, All-tail}
use Rattle.cj_kvn.specs.Fields.{fields}
use Rattle.cj_kvn.specs.Lines.{Form, Pair, Row, is_comment, is_key}
use Rattle.cj_kvn.proofs.ListLemmas.{last_push}
use Rattle.cj_base.specs.Ticks.{IsTick}
use Rattle.cj_epoch.specs.Written.{epoch_of}
use Rattle.cj_epoch.proofs.WrittenLemmas.{epoch_of-read}
use Rattle.cj_kvn.specs.Entries.{line}
use Rattle.cj_oem.specs.Canonical.{figure_text, row_text, vector_text}
use Rattle.cj_formats.specs.declared.oem_cause.OemCause.{OemCause}
use Rattle.cj_formats.specs.declared.oem_cause.OemCause.TheVariants as causes
use Rattle.cj_track.specs.declared.vec3.Vec3.{Vec3}
use Rattle.cj_track.specs.PlainTracks.{PlainNode}
use Rattle.cj_track.specs.Limits.{IsWithin, MAX_COORDINATE, MAX_RATE}
use Rattle.cj_oem.specs.Metadata.{epoch_or, parse_epoch}
use Rattle.cj_oem.specs.NodeRows.{figure_or, figures_in, parse_figure, following, state_of_fields, state_of_row, state_said, vector_within}
use Rattle.cj_oem.specs.Stages.{Body, Data, follows, last_state, OpenSegment}
use Rattle.cj_oem.specs.Metadata.{Metadata}
use Rattle.cj_oem.proofs.FigureAgainLemmas.{figure_again}
use Rattle.cj_oem.proofs.PrintedLineLemmas.{Says, Tells, told_line}
use Rattle.cj_oem.proofs.PrintedNumberLemmas.{epoch_field, figure_field}
use Rattle.cj_oem.proofs.PrintedPairLemmas.{pair_line, pair_text}
use Rattle.cj_oem.proofs.PrintedRowLemmas.{field_ends, field_starts, field_visible, fields_row, is_field, row_line, row_of}
use Rattle.cj_oem.proofs.WalkLemmas.{walk, walk_step}

-- a vector within a limit
pub record IsVector (limit : ℕ) (v : Vec3) : Type 0 where
  pub x : IsWithin limit v.x
  pub y : IsWithin limit v.y
  pub z : IsWithin limit v.z

-- a node that can be read
pub record IsState (s : PlainNode) : Type 0 where
  pub tick : IsTick s.at
  pub place : IsVector MAX_COORDINATE s.p
  pub rate : IsVector MAX_RATE s.v

-- each node follows the one before
abbrev pub Follow : Option PlainNode → List PlainNode → Type 0
Follow before [] = Unit {0}
Follow before (s ∷ nodes) = (following before s ≡ Ok s) × Follow (Some s) nodes

-- ---- the fields of a row

abbrev vector_fields : Vec3 → List (List ℕ) → List (List ℕ)
vector_fields v more = figure_text v.x ∷ figure_text v.y ∷ figure_text v.z ∷ more

abbrev state_fields : PlainNode → List (List ℕ)
state_fields s = vector_fields s.p (vector_fields s.v [])

abbrev row_content : PlainNode → List ℕ
row_content s = epoch_of s.at ++ 32 ∷ [] ++ vector_text s.p ++ 32 ∷ [] ++ vector_text s.v

seven : (t a b c u v w : List ℕ) → t ++ 32 ∷ [] ++ (a ++ 32 ∷ [] ++ b ++ 32 ∷ [] ++ c) ++ 32 ∷ [] ++ (u ++ 32 ∷ [] ++ v ++ 32 ∷ [] ++ w) ≡ row_of t (a ∷ b ∷ c ∷ u ∷ v ∷ w ∷ [])
seven t a b c u v w = simp (append_assoc, append-nil)

row_shape : (s : PlainNode) → row_content s ≡ row_of (epoch_of s.at) (state_fields s)
row_shape s = seven (epoch_of s.at) (figure_text s.p.x) (figure_text s.p.y) (figure_text s.p.z) (figure_text s.v.x) (figure_text s.v.y) (figure_text s.v.z)

pub size_within : (limit : ℕ) (z : ℤ) → IsWithin limit z → unsigned_abs z ≤ limit
size_within limit (pos k) within = omega (arith, ints, within)
size_within limit (negsuc k) within = omega (arith, ints, within)

within_small : (limit : ℕ) (z : ℤ) → limit ≤ MAX_COORDINATE → IsWithin limit z → unsigned_abs z < 10 ^ 18
within_small limit z low within = omega (arith, size_within limit z within)

figure_is_field : (limit : ℕ) (z : ℤ) → limit ≤ MAX_COORDINATE → IsWithin limit z → is_field (figure_text z) ≡ true
figure_is_field limit z low within = figure_field z (omega (arith, within_small limit z low within))

state_are_fields : (s : PlainNode) → IsState s → list_all is_field (epoch_of s.at ∷ state_fields s) ≡ true
state_are_fields s is =
    rw (
      epoch_field s.at,
      figure_is_field MAX_COORDINATE s.p.x (omega arith) is.place.x,
      figure_is_field MAX_COORDINATE s.p.y (omega arith) is.place.y,
      figure_is_field MAX_COORDINATE s.p.z (omega arith) is.place.z,
      figure_is_field MAX_RATE s.v.x (omega arith) is.rate.x,
      figure_is_field MAX_RATE s.v.y (omega arith) is.rate.y,
      figure_is_field MAX_RATE s.v.z (omega arith) is.rate.z,
    ) refl

-- ---- what they say

pub epoch_again : (t : ℕ) → IsTick t → parse_epoch (epoch_of t) ≡ Ok t
epoch_again t tick = ap epoch_or (epoch_of-read t tick)

figure_said_again : (limit : ℕ) (z : ℤ) → limit ≤ MAX_COORDINATE → IsWithin limit z → parse_figure (figure_text z) ≡ Ok (Some z)
figure_said_again limit z low within = ap figure_or (figure_again z (within_small limit z low within))

pub vector_again : (limit : ℕ) (cause : OemCause) (v : Vec3) → IsVector limit v → vector_within limit cause (Some v.x) (Some v.y) (Some v.z) ≡ Ok v
vector_again limit cause v is =
    rw (
      le-leb (unsigned_abs v.x) limit (size_within limit v.x is.x),
      le-leb (unsigned_abs v.y) limit (size_within limit v.y is.y),
      le-leb (unsigned_abs v.z) limit (size_within limit v.z is.z),
    ) refl

state_again : (before : Option PlainNode) (s : PlainNode) → IsState s → following before s ≡ Ok s → state_of_fields before (epoch_of s.at ∷ state_fields s) ≡ Ok s
unfolding state_of_fields state_said figures_in
state_again before s is follows_on =
    rw (
      epoch_again s.at is.tick,
      figure_said_again MAX_COORDINATE s.p.x (omega arith) is.place.x,
      figure_said_again MAX_COORDINATE s.p.y (omega arith) is.place.y,
      figure_said_again MAX_COORDINATE s.p.z (omega arith) is.place.z,
      figure_said_again MAX_RATE s.v.x (omega arith) is.rate.x,
      figure_said_again MAX_RATE s.v.y (omega arith) is.rate.y,
      figure_said_again MAX_RATE s.v.z (omega arith) is.rate.z,
      vector_again MAX_COORDINATE causes.CoordinateRange s.p is.place,
      vector_again MAX_RATE causes.RateRange s.v is.rate,
    ) follows_on

row_again : (before : Option PlainNode) (s : PlainNode) → IsState s → following before s ≡ Ok s → state_of_row before (row_content s) ≡ Ok s
row_again before s is follows_on =
    ap (state_of_fields before) (ap fields (row_shape s) ∙ fields_row (epoch_of s.at) (state_fields s) (state_are_fields s is)) ∙ state_again before s is follows_on

-- ---- the lines

abbrev pub state_forms : PlainNode → List Form
state_forms s = Row (row_content s) ∷ []

pub state_told : (s : PlainNode) → IsState s → Tells (row_text s) (state_forms s)
unfolding row_text
state_told s is =
    subst (λ text. Tells (line text) (Row text ∷ [])) (sym (row_shape s))
    (told_line (row_of (epoch_of s.at) (state_fields s)) (Row (row_of (epoch_of s.at) (state_fields s))) (row_line (epoch_of s.at) (state_fields s) (state_are_fields s is)))

-- an open segment with its nodes
abbrev pub open_segment : Metadata → List PlainNode → OpenSegment
open_segment metadata nodes = record { metadata = metadata; nodes = nodes }

state_follows : (b : Body) (metadata : Metadata) (front : List PlainNode) (s : PlainNode) → IsState s → following (last_state front) s ≡ Ok s
    → follows false (Data b (open_segment metadata front)) (Row (row_content s)) ≡ Ok (Data b (open_segment metadata (front ++ s ∷ [])))
unfolding follows
state_follows b metadata front s is follows_on = rw (row_again (last_state front) s is follows_on) refl

pub nodes_walk : (b : Body) (metadata : Metadata) (front nodes : List PlainNode) → All IsState nodes → Follow (last_state front) nodes
    → walk (Data b (open_segment metadata front)) (flat_map state_forms nodes) ≡ Ok (Data b (open_segment metadata (front ++ nodes)))
nodes_walk b metadata front [] all follow = ap (λ ss. Ok (Data b (open_segment metadata ss))) (sym (append-nil front))
nodes_walk b metadata front (s ∷ nodes) all follow =
    let next = front ++ s ∷ [] in
    walk_step (Data b (open_segment metadata front)) (Data b (open_segment metadata next)) (Row (row_content s)) (flat_map state_forms nodes)
    (state_follows b metadata front s (All-head IsState s nodes all) follow.0)
    ∙ nodes_walk b metadata next nodes (All-tail IsState s nodes all) (subst (λ o. Follow o nodes) (sym (last_push None front s)) follow.1)
    ∙ ap (λ ss. Ok (Data b (open_segment metadata ss))) (append_assoc front (s ∷ []) nodes)

-- ---- epochs as values

pub epoch_line : (key : List ℕ) (t : ℕ) → is_key key ≡ true → is_comment (pair_text key (epoch_of t)) ≡ false → Says (pair_text key (epoch_of t)) (Pair key (epoch_of t))
epoch_line key t named plain =
    let field = epoch_field t in
    pair_line key (epoch_of t) named plain (field_visible (epoch_of t) field) (field_starts (epoch_of t) field) (field_ends (epoch_of t) field)
