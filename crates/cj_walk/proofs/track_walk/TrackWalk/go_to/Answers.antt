use Rattle.std.proofs.Common.{refl, ◌∙◌}
use Rattle.cj_walk.proofs.track_walk.TrackWalk.go_to.Goals as goal

pub loop-self-init : goal.loop-self-init
loop-self-init c = record { walks = c.requires; track = refl; window = refl }

pub advance-requires : goal.advance-requires
advance-requires c = c.loop-self.invariant.walks

pub loop-self-preserved : goal.loop-self-preserved
loop-self-preserved c =
    let i = c.loop-self.invariant in
    let told = c.advance.ensures in
    record { walks = told.walks; track = told.track ∙ i.track; window = told.window ∙ i.window }

pub returns-then-not-advance-clause-track : goal.returns-then-not-advance-clause-track
returns-then-not-advance-clause-track c = c.advance.ensures.track ∙ c.loop-self.invariant.track

pub returns-then-not-advance-clause-window : goal.returns-then-not-advance-clause-window
returns-then-not-advance-clause-window c = c.advance.ensures.window ∙ c.loop-self.invariant.window

pub returns-then-not-advance-clause-walks : goal.returns-then-not-advance-clause-walks
returns-then-not-advance-clause-walks c = c.advance.ensures.walks

pub returns-clause-track : goal.returns-clause-track
returns-clause-track c = c.loop-self.invariant.track

pub returns-clause-window : goal.returns-clause-window
returns-clause-window c = c.loop-self.invariant.window

pub returns-clause-walks : goal.returns-clause-walks
returns-clause-walks c = c.loop-self.invariant.walks
