use Rattle.std.proofs.Common.{◌≡◌, ℕ, ◌+◌, ◌<◌, ◌≤◌, ◌^◌, ◌∙◌, List, Some, sym, ap, subst, get_or, length, arith}
use Rattle.cj_track.specs.declared.node.Node.{Node}
use Rattle.cj_track.specs.declared.segment.Segment.{Segment}
use Rattle.cj_track.specs.Nodes.{AreNodes}
use Rattle.cj_track.specs.Segments.{starts_from}
use Rattle.cj_track.specs.Tracks.{plain_track}
use Rattle.cj_hermite.specs.Pieces.{pieces_of, piece_at}
use Rattle.cj_hermite.specs.Searches.{IsFromNode}
use Rattle.cj_hermite.proofs.CoverLemmas.{Misses}
use Rattle.cj_hermite.proofs.LaterLemmas.{later_than_found}
use Rattle.cj_hermite.proofs.PieceLemmas.{pieces_through, all_later, all_apart, none_at, IsLastFound, IsAt, is_at, found_in, length-starts, number_fits, segment_fits}
use Rattle.cj_hermite.proofs.finding.find.Goals as goal

pub returns-in_err-number : goal.returns-in_err-number
returns-in_err-number c =
    let m = c.args.at.micros in
    let misses = subst (λ (s : List Segment). Misses m (pieces_through s)) c.as_slice-segments.ensures.value (all_later m c.as_slice-segments.result.now c.in_err-number.ensures) in
    let none = sym (none_at (plain_track c.args.track.now) m misses) in
    rw c.from_residual.ensures (record { value = none; place = tt; exists = tt; piece = tt; covered = tt; later = tt })

pub returns-then-segment-at-clause-value : goal.returns-then-segment-at-clause-value
returns-then-segment-at-clause-value c =
    let m = c.args.at.micros in
    let misses = subst (λ (s : List Segment). Misses m (pieces_through s)) c.as_slice-segments.ensures.value
    (all_apart m c.in_ok-number.number c.as_slice-segments.result.now c.index-segments-number.result c.as_slice-segments.ensures.kept.order c.in_ok-number.ensures c.index-segments-number.is
    c.if-segment-at.true) in
    sym (none_at (plain_track c.args.track.now) m misses)

pub bounds-starts-number : goal.bounds-starts-number
bounds-starts-number c =
    omega (
      arith,
      ap (λ (starts : List ℕ). length starts) c.starts.ensures.value,
      length-starts 0 c.args.track.now.segments,
      ap (λ (s : List Segment). length s) c.as_slice-segments.ensures.value,
      c.in_ok-number.ensures.exists,
    )

-- the number is that of a piece
fits : (c : goal.After-last_reached_from-node) → get_or c.starts.result.now c.in_ok-number.number 0 + c.last_reached_from-node.result < 2 ^ 32
fits c =
    let number = c.in_ok-number.number in
    let below : c.last_reached_from-node.result + 1 < length c.index-segments-number.result.nodes = omega (arith, c.last_reached_from-node.ensures.exists, ap (λ (nodes : List Node). length nodes) c.as_slice.ensures.value) in
    let here = number_fits number c.last_reached_from-node.result c.as_slice-segments.result.now c.index-segments-number.result c.as_slice-segments.ensures.kept c.in_ok-number.ensures.exists
    c.index-segments-number.is below in
    let starts : c.starts.result.now ≡ starts_from 0 c.as_slice-segments.result.now = c.starts.ensures.value ∙ ap (λ (s : List Segment). starts_from 0 s) (sym c.as_slice-segments.ensures.value) in
    subst (λ (xs : List ℕ). get_or xs number 0 + c.last_reached_from-node.result < 2 ^ 32) (sym starts) here

place : (c : goal.After-last_reached_from-node) → IsAt (plain_track c.args.track.now) c.args.at.micros (get_or c.starts.result.now c.in_ok-number.number 0 + c.last_reached_from-node.result)
place c =
    let m = c.args.at.micros in
    let k = c.in_ok-number.number in
    let i = c.last_reached_from-node.result in
    let from = subst (λ (nodes : List Node). (d : Node) → IsFromNode m nodes i d) c.as_slice.ensures.value c.last_reached_from-node.ensures.from in
    let found = found_in m k i c.as_slice-segments.result.now c.index-segments-number.result c.as_slice-segments.ensures.kept.order c.in_ok-number.ensures c.index-segments-number.is c.if-segment-at.false
    (subst (λ (nodes : List Node). AreNodes nodes) c.as_slice.ensures.value c.as_slice.ensures.kept) from in
    let of_track = subst (λ (s : List Segment). IsLastFound m (get_or (starts_from 0 s) k 0 + i) (pieces_through s)) c.as_slice-segments.ensures.value found in
    subst (λ (starts : List ℕ). IsAt (plain_track c.args.track.now) m (get_or starts k 0 + i)) (sym c.starts.ensures.value)
    (is_at (plain_track c.args.track.now) m (get_or (starts_from 0 c.args.track.now.segments) k 0 + i) of_track)

pub overflow_cast-node : goal.overflow_cast-node
overflow_cast-node c = omega (arith, fits c)

pub overflow_cast-result : goal.overflow_cast-result
overflow_cast-result c = omega (arith, segment_fits c.in_ok-number.number c.as_slice-segments.result.now c.as_slice-segments.ensures.kept c.in_ok-number.ensures.exists)

pub overflow_add-result : goal.overflow_add-result
overflow_add-result c = omega (arith, fits c)

pub returns-clause-value : goal.returns-clause-value
returns-clause-value c = (place c).index

pub returns-clause-exists : goal.returns-clause-exists
returns-clause-exists c = (place c).exists

pub returns-clause-piece : goal.returns-clause-piece
returns-clause-piece c = (place c).piece

pub returns-clause-covered : goal.returns-clause-covered
returns-clause-covered c = (place c).covered

pub returns-clause-later : goal.returns-clause-later
returns-clause-later c =
    let e = plain_track c.args.track.now in
    let m = c.args.at.micros in
    let k = c.in_ok-number.number in
    let i = c.last_reached_from-node.result in
    let segments = c.as_slice-segments.result.now in
    let all : pieces_of e ≡ pieces_through segments = ap (λ (s : List Segment). pieces_through s) (sym c.as_slice-segments.ensures.value) in
    let starts : c.starts.result.now ≡ starts_from 0 segments = c.starts.ensures.value ∙ ap (λ (s : List Segment). starts_from 0 s) (sym c.as_slice-segments.ensures.value) in
    let number : get_or c.starts.result.now k 0 + i ≡ get_or (starts_from 0 segments) k 0 + i = ap (λ (xs : List ℕ). get_or xs k 0 + i) starts in
    let from = subst (λ (nodes : List Node). (d : Node) → IsFromNode m nodes i d) c.as_slice.ensures.value c.last_reached_from-node.ensures.from in
    subst (λ (index : ℕ). (n j : ℕ) → m ≤ n → piece_at e n ≡ Some j → index ≤ j) (sym number)
    (later_than_found m k i e segments c.index-segments-number.result all c.as_slice-segments.ensures.kept.order c.in_ok-number.ensures c.index-segments-number.is
    (subst (λ (nodes : List Node). AreNodes nodes) c.as_slice.ensures.value c.as_slice.ensures.kept) from
    (sym (place c).index ∙ ap (λ (n : ℕ). Some n) number))
