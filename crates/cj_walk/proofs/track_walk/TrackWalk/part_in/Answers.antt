use Rattle.std.proofs.Common.{◌≡◌, ℕ, ◌+◌, ◌≤◌, Option, Some, None, ◌∷◌, ap, subst, arith}
use Rattle.std.specs.Prelude.{IfNone, IfSome}
use Rattle.cj_base.specs.declared.tick.Window.{Window}
use Rattle.cj_track.specs.declared.track.Track.{Track}
use Rattle.cj_track.specs.Tracks.{plain_track}
use Rattle.cj_hermite.specs.Walks.{HasNone}
use Rattle.cj_track.specs.PlainTracks.{PlainTrack}
use Rattle.cj_bezier.specs.declared.part.Part.{Part}
use Rattle.cj_bezier.specs.FirstParts.{IsFirstPart}
use Rattle.cj_bezier.specs.Hulls.{axes_of}
use Rattle.cj_bezier.specs.Parts.{AreInTime, IsInTime, hulls_of}
use Rattle.cj_walk.proofs.track_walk.TrackWalk.part_in.Goals as goal

pub returns-then-self-last-clause-time : goal.returns-then-self-last-clause-time
returns-then-self-last-clause-time c m low high =
    let walks = c.go_to.ensures.walks in
    let begun = walks.begun in
    subst (λ (t : Track). IsInTime (plain_track t) m) c.go_to.ensures.track (walks.round.time m (omega (arith, begun)) high)

pub returns-clause-none : goal.returns-clause-none
returns-clause-none c = subst (λ (t : Track). IfNone c.next_part.result (HasNone (plain_track t) c.args.from.micros c.args.last.micros)) c.go_to.ensures.track c.next_part.ensures.none

pub returns-clause-time : goal.returns-clause-time
returns-clause-time c =
    subst (λ (t : Track). IfSome c.next_part.result (λ part. AreInTime (plain_track t) c.args.from.micros part.last.micros)) c.go_to.ensures.track c.next_part.ensures.time

pub go_to-requires : goal.go_to-requires
go_to-requires c = c.requires.walks

-- ---- the part that the walk is at

-- the same of equal tracks, from equal ticks
first_from : (t u : Track) (from at last : ℕ) (part : Part) → t ≡ u → from ≡ at
    → hulls_of (plain_track t) from last ≡ axes_of part.hull.points ∷ hulls_of (plain_track t) (part.last.micros + 1) last
    → hulls_of (plain_track u) at last ≡ axes_of part.hull.points ∷ hulls_of (plain_track u) (part.last.micros + 1) last
first_from t u from at last part tracks ticks first =
    let h = axes_of part.hull.points in
    subst (λ (v : Track). hulls_of (plain_track v) at last ≡ h ∷ hulls_of (plain_track v) (part.last.micros + 1) last) tracks
    (subst (λ (k : ℕ). hulls_of (plain_track t) k last ≡ h ∷ hulls_of (plain_track t) (part.last.micros + 1) last) ticks first)

pub returns-then-self-last-clause-hulls : goal.returns-then-self-last-clause-hulls
returns-then-self-last-clause-hulls c =
    let last = c.args.last.micros in
    let walk = c.go_to.new.self in
    let inside : last ≤ walk.window.last.micros = omega (arith, c.requires.inside, ap (λ (w : Window). w.last.micros) c.go_to.ensures.window) in
    first_from c.go_to.new.self.track.now c.args.self.now.track.now walk.from.micros c.args.from.micros last walk.part c.go_to.ensures.track c.if-self-from.true
    (c.go_to.ensures.walks.first last c.if-self-last.true inside)

pub returns-then-self-last-clause-later : goal.returns-then-self-last-clause-later
returns-then-self-last-clause-later c = let later = c.go_to.ensures.walks.later in let from = c.if-self-from.true in omega arith

pub returns-then-self-last-clause-within : goal.returns-then-self-last-clause-within
returns-then-self-last-clause-within c = c.if-self-last.true

pub returns-then-self-last-clause-track : goal.returns-then-self-last-clause-track
returns-then-self-last-clause-track c = c.go_to.ensures.track

pub returns-then-self-last-clause-window : goal.returns-then-self-last-clause-window
returns-then-self-last-clause-window c = c.go_to.ensures.window

pub returns-then-self-last-clause-walks : goal.returns-then-self-last-clause-walks
returns-then-self-last-clause-walks c = c.go_to.ensures.walks

-- ---- a part that is made

-- up to the last tick
hulls_here : (e : PlainTrack) (from last : ℕ) (r : Option Part) → IfSome r (IsFirstPart e from last) → IfSome r (λ part. part.last.micros ≤ last) →
    IfSome r (λ part. hulls_of e from last ≡ axes_of part.hull.points ∷ hulls_of e (part.last.micros + 1) last)
hulls_here e from last None first within = tt
hulls_here e from last (Some part) first within = first last within (omega arith)

pub returns-clause-hulls : goal.returns-clause-hulls
returns-clause-hulls c =
    let from = c.args.from.micros in
    let last = c.args.last.micros in
    subst (λ (t : Track). IfSome c.next_part.result (λ part.
    hulls_of (plain_track t) from last ≡ axes_of part.hull.points ∷ hulls_of (plain_track t) (part.last.micros + 1) last)) c.go_to.ensures.track
    (hulls_here (plain_track c.go_to.new.self.track.now) from last c.next_part.result c.next_part.ensures.first c.next_part.ensures.within)

pub returns-clause-later : goal.returns-clause-later
returns-clause-later c = c.next_part.ensures.later

pub returns-clause-within : goal.returns-clause-within
returns-clause-within c = c.next_part.ensures.within

pub returns-clause-track : goal.returns-clause-track
returns-clause-track c = c.go_to.ensures.track

pub returns-clause-window : goal.returns-clause-window
returns-clause-window c = c.go_to.ensures.window

pub returns-clause-walks : goal.returns-clause-walks
returns-clause-walks c = let walks = c.go_to.ensures.walks in record { begun = walks.begun; later = walks.later; first = walks.first; round = walks.round }
