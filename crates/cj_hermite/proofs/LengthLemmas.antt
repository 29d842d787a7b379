-- The pieces of a track have lengths, since the times of its nodes rise.
use Rattle.std.proofs.Common.{ℕ, List, [], ◌∷◌}
use Rattle.std.specs.Prelude.{All}
use Rattle.cj_interval.proofs.ListLemmas.{Each, Each-append, All-from_each, each_from_All}
use Rattle.cj_track.specs.declared.node.Node.{Node}
use Rattle.cj_track.specs.declared.segment.Segment.{Segment}
use Rattle.cj_track.specs.declared.track.Track.{Track}
use Rattle.cj_track.specs.Nodes.{AreSteps, AreNodes}
use Rattle.cj_track.specs.Tracks.{plain_segment, plain_track}
use Rattle.cj_hermite.specs.Lengths.{Rises, IsRising}
use Rattle.cj_hermite.specs.Pieces.{pieces_of_segment, pieces_of}
use Rattle.cj_hermite.proofs.PieceLemmas.{pieces_in, pieces_through}

rise_in : (first last : ℕ) (nodes : List Node) → AreSteps nodes → Each Rises (pieces_in first last nodes)
rise_in first last [] steps = tt
rise_in first last (a ∷ []) steps = tt
rise_in first last (a ∷ b ∷ nodes) steps = (steps.0.rises, rise_in first last (b ∷ nodes) steps.1)

pub rise_through : (segments : List Segment) → Each (λ s. AreNodes s.nodes) segments → Each Rises (pieces_through segments)
rise_through [] nodes = tt
rise_through (a ∷ segments) nodes =
    Each-append Rises (pieces_of_segment (plain_segment a)) (pieces_through segments) (rise_in a.first.micros a.last.micros a.nodes nodes.0.steps)
    (rise_through segments nodes.1)

pub track_rises : (track : Track) → All (λ s. AreNodes s.nodes) track.segments → IsRising (plain_track track)
track_rises track nodes =
    All-from_each Rises (pieces_of (plain_track track)) (rise_through track.segments (each_from_All (λ s. AreNodes s.nodes) track.segments nodes))
