-- Tracks with fewer nodes: how many are kept, and what is put of the first of them.
use Rattle.std.proofs.Common.{◌≡◌, ℕ, suc, ◌+◌, ◌<◌, ◌≤◌, List, [], ◌∷◌, ◌++◌, length, map, sum_by, take, drop, get_or, Option, Some, Result, Ok, Err, codes, refl, ap, ap₂, sym, subst, ◌∙◌, append_assoc, arith}
use Rattle.std.specs.List.{AllZip}
use Rattle.std.proofs.lemmas.List.{length-append, length-map, map-append, take_more}
use Rattle.std.proofs.lemmas.List.Sums.{sum_by-cons, sum_by_more, sum_by_more_le, sum_by_push}
use Rattle.std.proofs.Math.Seq.{split_at}
use Rattle.cj_case.specs.CaseLimits.{node_total}
use Rattle.cj_inputs.specs.Readings.{nodes_in, nodes_of, state_count}
use Rattle.cj_inputs.proofs.ReadingLemmas.{same_nodes}
use Rattle.cj_io.specs.declared.file.FileBytes.{FileBytes}
use Rattle.cj_oem.specs.Canonical.{text_of}
use Rattle.cj_oem.proofs.CountLemmas.{nodes_said}
use Rattle.cj_status.specs.declared.status.Status.{Status}
use Rattle.cj_status.specs.declared.status.Status.TheVariants as status
use Rattle.cj_thin.specs.Thinned.{thinned}
use Rattle.cj_thin.specs.Within.{IsThinner, IsThinnerWithin, one, step}
use Rattle.cj_track.specs.PlainTracks.{PlainNode, PlainSegment}
use Rattle.cj_track.specs.Segments.{node_count}
use Rattle.cj_track.specs.Tracks.{plain_track}
use Rattle.cj_track.specs.declared.track.Track.{Track}
use Rattle.cj_outputs.specs.Outcome.{ComesOfPuts, Leaves, output}
use Rattle.cj_outputs.specs.Thinned.{counts_output, thin_output, thinned_bytes}
use Rattle.cj_outputs.proofs.EndLemmas.{first_leaves, second_leaves}

-- ---- how many nodes are kept

-- some of the states are no more than all
shorter : (xs ys : List PlainNode) → IsThinner xs ys → length ys ≤ length xs
shorter xs ys (one a) = omega arith
shorter xs ys (step a out more kept b thinner) = omega (arith, length-append out (b ∷ more), shorter (b ∷ more) (b ∷ kept) thinner)

fewer_in : (ss us : List PlainSegment) → AllZip IsThinner (map (λ s. s.nodes) ss) (map (λ s. s.nodes) us) → sum_by state_count us ≤ sum_by state_count ss
fewer_in [] [] each = omega arith
fewer_in [] (u ∷ us) each = absurd each
fewer_in (s ∷ ss) [] each = absurd each
fewer_in (s ∷ ss) (u ∷ us) each =
    omega (arith, sum_by-cons state_count s ss, sum_by-cons state_count u us, shorter s.nodes u.nodes each.0, fewer_in ss us each.1)

-- a track has no more nodes than it had, and as many as its segments
pub fewer_nodes : (e : ℕ) (track : Track) → IsThinnerWithin e (plain_track track) (thinned e (plain_track track)) → nodes_of (thinned e (plain_track track)) ≤ node_count track.segments
fewer_nodes e track thinner =
    omega (arith, fewer_in (plain_track track).segments (thinned e (plain_track track)).segments thinner.nodes, nodes_said track.segments)

pub nodes_kept : (e : ℕ) (track thin : Track) (count : ℕ) → plain_track thin ≡ thinned e (plain_track track) → count ≡ node_count thin.segments → count ≡ nodes_of (thinned e (plain_track track))
nodes_kept e track thin count is counted = counted ∙ sym (nodes_said thin.segments) ∙ ap nodes_of is

-- one more track
pub kept_more : (e : ℕ) (tracks : List Track) (i : ℕ) (track : Track) (before kept : ℕ) → i < length tracks → track ≡ get_or tracks i track
    → before ≡ nodes_in (map (thinned e) (map plain_track (take i tracks))) → kept ≡ nodes_of (thinned e (plain_track track))
    → before + kept ≡ nodes_in (map (thinned e) (map plain_track (take (i + 1) tracks)))
kept_more e tracks i track before kept below is so_far counted =
    ap₂ (λ (a b : ℕ). a + b) so_far counted
    ∙ sym (sum_by_push nodes_of (map (thinned e) (map plain_track (take i tracks))) (thinned e (plain_track track)))
    ∙ ap nodes_in (sym (ap (λ (ts : List Track). map (thinned e) (map plain_track ts)) (track_more tracks i track below is)
    ∙ ap (map (thinned e)) (map-append plain_track (take i tracks) (track ∷ []))
    ∙ map-append (thinned e) (map plain_track (take i tracks)) (plain_track track ∷ [])))
  where
    track_more : (all : List Track) (at : ℕ) (x : Track) → at < length all → x ≡ get_or all at x → take (at + 1) all ≡ take at all ++ x ∷ []
    track_more all at x lt same = take_more all at x lt ∙ ap (λ (y : Track). take at all ++ y ∷ []) (sym same)

-- no more than the tracks have
pub few_more : (tracks : List Track) (i : ℕ) (track : Track) (before kept : ℕ) → i < length tracks → track ≡ get_or tracks i track
    → before ≤ node_total (take i tracks) → kept ≤ node_count track.segments → before + kept ≤ node_total (take (i + 1) tracks)
few_more tracks i track before kept below is so_far fewer =
    let same : node_count track.segments ≡ node_count (get_or tracks i track).segments = ap (λ (t : Track). node_count t.segments) is in
    omega (arith, sum_by_more (λ (t : Track). node_count t.segments) tracks i track below, so_far, fewer, same)

pub few_all : (tracks : List Track) (i : ℕ) (track : Track) (before kept : ℕ) → i < length tracks → track ≡ get_or tracks i track
    → before ≤ node_total (take i tracks) → kept ≤ node_count track.segments → before + kept ≤ node_total tracks
few_all tracks i track before kept below is so_far fewer =
    let same : node_count track.segments ≡ node_count (get_or tracks i track).segments = ap (λ (t : Track). node_count t.segments) is in
    omega (arith, sum_by_more_le (λ (t : Track). node_count t.segments) tracks i track below, so_far, fewer, same)

-- ---- how it ends

-- want of memory is no failed write, and what is done is none
pub memory_is_no_write : {A P : Type 0} → ◌≡◌ {A = Result A Status} (Err status.OutOfMemory) (Err status.WriteFault) → P
memory_is_no_write is = absurd cc

pub done_is_no_write : {A P : Type 0} {x : A} → ◌≡◌ {A = Result A Status} (Ok x) (Err status.WriteFault) → P
done_is_no_write is = absurd cc

-- ---- what is put

-- the output of a track with this name and this text
pub thin_put : (e : ℕ) (track thin : Track) (name text : List ℕ) → name ≡ track.file ++ codes ".thin" → text ≡ text_of (plain_track thin) → plain_track thin ≡ thinned e (plain_track track)
    → output name text ≡ thin_output e (plain_track track)
thin_put e track thin name text named printed is = ap₂ output named (printed ∙ ap text_of is)

-- the output of these counts
pub counts_put : (e : ℕ) (tracks : List Track) (files read kept : ℕ) (text : List ℕ) → text ≡ thinned_bytes files read kept → files ≡ length tracks → read ≡ node_total tracks
    → kept ≡ nodes_in (map (thinned e) (map plain_track tracks)) → output (codes "-") text ≡ counts_output e (map plain_track tracks)
counts_put e tracks files read kept text printed many nodes few =
    let files_is : files ≡ length (map plain_track tracks) = many ∙ sym (length-map tracks plain_track) in
    let read_is : read ≡ nodes_in (map plain_track tracks) = nodes ∙ sym (same_nodes tracks) in
    ap (output (codes "-")) (printed ∙ rw (files_is, read_is, few) refl)

-- the outputs of tracks
abbrev pub thin_outputs : ℕ → List Track → List FileBytes
thin_outputs e tracks = map (thin_output e) (map plain_track tracks)

-- those of the first tracks, and one more
pub outputs_more : (e : ℕ) (tracks : List Track) (i : ℕ) (track : Track) (old : List FileBytes) (now : Option (List FileBytes)) → i < length tracks → track ≡ get_or tracks i track
    → now ≡ Some ((old ++ thin_outputs e (take i tracks)) ++ thin_output e (plain_track track) ∷ []) → now ≡ Some (old ++ thin_outputs e (take (i + 1) tracks))
outputs_more e tracks i track old now below is put =
    let more : take (i + 1) tracks ≡ take i tracks ++ track ∷ [] = take_more tracks i track below ∙ ap (λ (t : Track). take i tracks ++ t ∷ []) (sym is) in
    let all : thin_outputs e (take (i + 1) tracks) ≡ thin_outputs e (take i tracks) ++ thin_output e (plain_track track) ∷ [] =
    ap (thin_outputs e) more ∙ ap (map (thin_output e)) (map-append plain_track (take i tracks) (track ∷ []))
    ∙ map-append (thin_output e) (map plain_track (take i tracks)) (plain_track track ∷ []) in
    put ∙ ap (λ (ps : List FileBytes). Some ps) (append_assoc old (thin_outputs e (take i tracks)) (thin_output e (plain_track track) ∷ []) ∙ ap (λ (ps : List FileBytes). old ++ ps) (sym all))

-- a put that failed behind those of the first tracks
pub outputs_cut : (e : ℕ) (tracks : List Track) (i : ℕ) (track : Track) (s : Status) (old : List FileBytes) (now : Option (List FileBytes)) → i < length tracks → track ≡ get_or tracks i track
    → ComesOfPuts s → Leaves s (Ok (thin_output e (plain_track track) ∷ [])) (old ++ thin_outputs e (take i tracks)) now
    → Leaves s (Ok (thin_outputs e tracks)) old now
outputs_cut e tracks i track s old now below is comes leaves =
    let behind = thin_outputs e (drop (suc i) tracks) in
    let whole : take i tracks ++ track ∷ drop (suc i) tracks ≡ tracks = ap (λ (t : Track). take i tracks ++ t ∷ drop (suc i) tracks) is ∙ sym (split_at tracks i track below) in
    let all : thin_outputs e (take i tracks) ++ thin_output e (plain_track track) ∷ behind ≡ thin_outputs e tracks =
    sym (map-append (thin_output e) (map plain_track (take i tracks)) (map plain_track (track ∷ drop (suc i) tracks)))
    ∙ ap (map (thin_output e)) (sym (map-append plain_track (take i tracks) (track ∷ drop (suc i) tracks))) ∙ ap (thin_outputs e) whole in
    let here = first_leaves s (thin_output e (plain_track track) ∷ []) behind (old ++ thin_outputs e (take i tracks)) now comes leaves in
    subst (λ (ps : List FileBytes). Leaves s (Ok ps) old now) all (second_leaves (Err s) (thin_outputs e (take i tracks)) (thin_output e (plain_track track) ∷ behind) old now comes here)
