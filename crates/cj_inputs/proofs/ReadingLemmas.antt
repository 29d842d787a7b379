-- Reading files one after another.
use Rattle.std.proofs.Common.{◌≡◌, ℕ, zero, suc, ◌+◌, ◌<◌, ◌≤◌, ◌⊎◌, inl, inr, List, [], ◌∷◌, ◌++◌, length, map, drop, get_or, Ok, Err, Result, true, false, refl, sym, ap, ap₂, ◌∙◌, arith}
use Rattle.std.specs.Prelude.{nat_le}
use Rattle.std.proofs.lemmas.Bool.Decides.{nat_tests}
use Rattle.std.proofs.lemmas.Bool.{cases_lt}
use Rattle.std.proofs.lemmas.List.{get_or_append_left, get_or_push, length-append, map-append}
use Rattle.std.proofs.lemmas.List.Sums.{sum_by-cons, sum_by_push}
use Rattle.cj_io.specs.declared.file.FileBytes.{FileBytes}
use Rattle.cj_track.specs.PlainTracks.{PlainTrack}
use Rattle.cj_oem.specs.Metadata.{same_frame}
use Rattle.cj_track.specs.Segments.{node_count}
use Rattle.cj_track.specs.Tracks.{plain_track}
use Rattle.cj_oem.proofs.CountLemmas.{nodes_said}
use Rattle.cj_track.specs.declared.frame.Frame.{Frame}
use Rattle.cj_track.specs.declared.frame.Frame.TheVariants as frames
use Rattle.cj_track.specs.declared.track.Track.{Track}
use Rattle.cj_case.specs.CaseLimits.{node_total}
use Rattle.cj_case.specs.Frames.{HaveOneFrame}
use Rattle.cj_words.specs.Settings.{PlainSettings}
use Rattle.cj_status.specs.declared.status.Status.{Status}
use Rattle.cj_status.specs.declared.status.Status.TheVariants.{Limit}
use Rattle.cj_status.specs.declared.status.LimitFault.TheVariants as limit
use Rattle.cj_inputs.specs.declared.reading.InputError.{InputError}
use Rattle.cj_inputs.specs.declared.reading.InputError.TheVariants as input
use Rattle.cj_inputs.specs.declared.input_files.Entry.{Entry}
use Rattle.cj_status.specs.Steps.{◌>>=◌}
use Rattle.cj_inputs.specs.Readings.{reading_after, readings_after, checked_after, has_frame_of, nodes_of, nodes_in, within, within_nodes, Reads}

-- a reading that was given up, as one that goes on from it
pub reads_on : {X Y A B : Type 0} (P : Type 0) (view : X → A) (seen : Y → B) (why : InputError) (read : Result A Status) (f : A → Result B Status)
    → Reads P view (Err why) read → Reads P seen (Err why) (read >>= f)
reads_on P view seen input.Memory read f here = tt
reads_on P view seen input.Failed read f here = here
reads_on {X} {Y} {A} {B} P view seen (input.Refused file line cause) read f here = ap (λ (r : Result A Status). r >>= f) here
reads_on {X} {Y} {A} {B} P view seen (input.Limit fault) read f here = ap (λ (r : Result A Status). r >>= f) here

-- a file of no more bytes than may be
pub within_most : (most : ℕ) (name bytes kept : List ℕ) → kept ≡ bytes → length kept ≤ most → within most name bytes ≡ Ok kept
within_most most name bytes kept same few =
    let small : nat_le (length kept) most ≡ true = grind (arith, nat_tests) in
    rw (← same, small) refl

-- a file of more
pub not_within : (most : ℕ) (name bytes : List ℕ) → most < length bytes → within most name bytes ≡ Err (Limit (limit.FileBytes name))
not_within most name bytes more =
    let large : nat_le (length bytes) most ≡ false = grind (arith, nat_tests) in
    rw large refl

-- the nodes of tracks are those of their ephemerides
pub same_nodes : (tracks : List Track) → nodes_in (map plain_track tracks) ≡ node_total tracks
same_nodes [] = refl
same_nodes (track ∷ tracks) =
    sum_by-cons nodes_of (plain_track track) (map plain_track tracks)
    ∙ ap₂ (λ (a b : ℕ). a + b) (nodes_said track.segments) (same_nodes tracks)
    ∙ sym (sum_by-cons (λ (t : Track). node_count t.segments) track tracks)

-- one more track
pub nodes_behind : (tracks : List Track) (track : Track) → node_total (tracks ++ track ∷ []) ≡ node_total tracks + node_count track.segments
nodes_behind tracks track = sum_by_push (λ (t : Track). node_count t.segments) tracks track

nodes_with : (tracks : List Track) (track : Track) → nodes_in (map plain_track tracks ++ plain_track track ∷ []) ≡ node_total tracks + node_count track.segments
nodes_with tracks track =
    ap nodes_in (sym (map-append plain_track tracks (track ∷ []))) ∙ same_nodes (tracks ++ track ∷ []) ∙ nodes_behind tracks track

-- a track that has few nodes with those before it
pub few_nodes : (most : ℕ) (tracks : List Track) (track : Track) (nodes : ℕ) → nodes ≡ node_total tracks + node_count track.segments → nodes ≤ most
    → within_nodes most (map plain_track tracks) (plain_track track) ≡ Ok (plain_track track)
few_nodes most tracks track nodes is few =
    let small : nat_le nodes most ≡ true = grind (arith, nat_tests) in
    let all : nodes_in (map plain_track tracks ++ plain_track track ∷ []) ≡ nodes = nodes_with tracks track ∙ sym is in
    rw (all, small) refl

-- a track that has too many
pub many_nodes : (most : ℕ) (tracks : List Track) (track : Track) (nodes : ℕ) → nodes ≡ node_total tracks + node_count track.segments → most < nodes
    → within_nodes most (map plain_track tracks) (plain_track track) ≡ Err (Limit (limit.Nodes nodes))
many_nodes most tracks track nodes is many =
    let large : nat_le nodes most ≡ false = grind (arith, nat_tests) in
    let all : nodes_in (map plain_track tracks ++ plain_track track ∷ []) ≡ nodes = nodes_with tracks track ∙ sym is in
    rw (all, large) refl

-- a track of the same frame, which has few nodes with those before it
pub fits : (most : ℕ) (tracks : List Track) (name : List ℕ) (track : Track) (nodes : ℕ) → has_frame_of (map plain_track tracks) (plain_track track) ≡ true
    → nodes ≡ node_total tracks + node_count track.segments → nodes ≤ most
    → checked_after most (map plain_track tracks) name (plain_track track) ≡ Ok (plain_track track)
fits most tracks name track nodes frame is few = rw frame (few_nodes most tracks track nodes is few)

-- a track of the same frame, which has too many
pub overflows : (most : ℕ) (tracks : List Track) (name : List ℕ) (track : Track) (nodes : ℕ) → has_frame_of (map plain_track tracks) (plain_track track) ≡ true
    → nodes ≡ node_total tracks + node_count track.segments → most < nodes
    → checked_after most (map plain_track tracks) name (plain_track track) ≡ Err (Limit (limit.Nodes nodes))
overflows most tracks name track nodes frame is many = rw frame (many_nodes most tracks track nodes is many)

pub frames_tied : (f g : Frame) → same_frame f g ≡ true → f ≡ g
frames_tied frames.Eme2000 frames.Eme2000 e = refl
frames_tied frames.Eme2000 frames.Gcrf e = absurd cc
frames_tied frames.Gcrf frames.Eme2000 e = absurd cc
frames_tied frames.Gcrf frames.Gcrf e = refl

first_frame : (tracks : List Track) (track d : Track) → has_frame_of (map plain_track tracks) (plain_track track) ≡ true → 0 < length tracks → (get_or tracks 0 d).frame ≡ track.frame
first_frame [] track d e some = absurd (omega arith)
first_frame (first ∷ tracks) track d e some = frames_tied first.frame track.frame e

-- one more track of the frame of the first
pub one_frame_more : (tracks : List Track) (track : Track) → HaveOneFrame tracks → has_frame_of (map plain_track tracks) (plain_track track) ≡ true → HaveOneFrame (tracks ++ track ∷ [])
one_frame_more tracks track one e = λ i j d below_i below_j. last i d below_i ∙ sym (last j d below_j)
  where
    at_end : (i : ℕ) (d : Track) → length tracks ≡ i → (get_or (tracks ++ track ∷ []) i d).frame ≡ track.frame
    at_end i d here = ap (λ (t : Track). t.frame) (get_or_push tracks track d i here)

    within : (i : ℕ) (d : Track) → i < length tracks → (get_or (tracks ++ track ∷ []) i d).frame ≡ track.frame
    within i d below =
        ap (λ (t : Track). t.frame) (get_or_append_left tracks (track ∷ []) d i below)
        ∙ one i 0 d below (omega arith) ∙ first_frame tracks track d e (omega arith)

    last : (i : ℕ) (d : Track) → i < length (tracks ++ track ∷ []) → (get_or (tracks ++ track ∷ []) i d).frame ≡ track.frame
    last i d below = either (cases_lt i (length tracks))
      where
        either : (i < length tracks) ⊎ (length tracks ≤ i) → (get_or (tracks ++ track ∷ []) i d).frame ≡ track.frame
        either (inl h) = within i d h
        either (inr h) = at_end i d (omega (arith, length-append tracks (track ∷ [])))

-- the reading from an entry on: that file, and then the rest
pub from_on : (settings : PlainSettings) (files : List FileBytes) (before : List PlainTrack) (entries : List Entry) (i : ℕ) (d : Entry) → i < length entries
    → readings_after settings files before (drop i entries)
    ≡ (reading_after settings files before (get_or entries i d) >>= λ e. readings_after settings files (before ++ e ∷ []) (drop (suc i) entries))
from_on settings files before [] i d below = absurd (omega arith)
from_on settings files before (entry ∷ entries) zero d below = refl
from_on settings files before (entry ∷ entries) (suc i) d below = from_on settings files before entries i d (omega arith)
