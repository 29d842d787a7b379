use Rattle.std.proofs.Common.{refl, ◌∙◌, subst}
use Rattle.cj_base.specs.declared.tick.Window.{Window}
use Rattle.cj_track.specs.declared.track.Track.{Track}
use Rattle.cj_track.specs.Tracks.{plain_track}
use Rattle.cj_hermite.specs.Walks.{HasNone}
use Rattle.cj_bezier.specs.Gaps.{terms_of}
use Rattle.cj_walk.proofs.JoinedGapLemmas.{IsGapOfAll, no_part_more}
use Rattle.cj_walk.proofs.track_walk.TrackWalk.gap_of_all.Goals as goal

-- the walk has come to its end
all : (c : goal.After-result-1) → IsGapOfAll (plain_track c.args.self.now.track.now) c.args.self.now.window.first.micros c.args.self.now.window.last.micros (terms_of c.advance.new.self.gap.terms)
all c =
    let walk = c.advance.new.self in
    let told = c.advance.ensures in
    let walks = told.walks in
    let g = terms_of walk.gap.terms in
    subst (λ (t : Track). IsGapOfAll (plain_track t) c.args.self.now.window.first.micros c.args.self.now.window.last.micros g) (told.track ∙ c.loop.invariant.track)
    (subst (λ (w : Window). IsGapOfAll (plain_track walk.track.now) w.first.micros w.last.micros g) (told.window ∙ c.loop.invariant.window)
    (no_part_more _ _ _ _ _ walks.round (told.ended c.loop-test.false)))

pub returns-clause-round : goal.returns-clause-round
returns-clause-round c = (all c).round

pub returns-clause-time : goal.returns-clause-time
returns-clause-time c = (all c).time

pub returns-clause-some : goal.returns-clause-some
returns-clause-some c =
    let i = c.loop.invariant in
    let told = c.advance.ensures in
    let walks = told.walks in
    subst (λ (t : Track). ¬ HasNone (plain_track t) c.args.self.now.window.first.micros c.args.self.now.window.last.micros) (told.track ∙ i.track)
    (subst (λ (w : Window). ¬ HasNone (plain_track c.advance.new.self.track.now) w.first.micros w.last.micros) (told.window ∙ i.window) walks.round.some)

pub returns-clause-bounded : goal.returns-clause-bounded
returns-clause-bounded c = let walks = c.advance.ensures.walks in walks.round.reach

pub loop-init : goal.loop-init
loop-init c = record { walks = c.requires; track = refl; window = refl }

pub loop-preserved : goal.loop-preserved
loop-preserved c =
    let i = c.loop.invariant in
    let told = c.advance.ensures in
    record { walks = told.walks; track = told.track ∙ i.track; window = told.window ∙ i.window }
