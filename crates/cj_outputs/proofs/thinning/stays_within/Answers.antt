use Rattle.std.proofs.Common.{ℕ, List, map, subst}
use Rattle.std.specs.Prelude.{All}
use Rattle.cj_thin.specs.Thinned.{thinned}
use Rattle.cj_thin.specs.Within.{IsThinnerWithin}
use Rattle.cj_track.specs.Tracks.{plain_track}
use Rattle.cj_track.specs.declared.track.Track.{Track}
use Rattle.cj_words.specs.Commands.{plain_thinning}
use Rattle.cj_outputs.specs.Thinned.{length_of}
use Rattle.cj_outputs.proofs.thinning.stays_within.Goals as goal

pub returns : goal.returns
returns c =
    let tracks = c.deref.result.now in
    let within = length_of (plain_thinning c.args.thinning.now) in
    record {
      law = subst (λ (ts : List Track). All (λ t. IsThinnerWithin within t (thinned within t)) (map plain_track ts)) c.deref.ensures.value
          (subst (λ (e : ℕ). All (λ t. IsThinnerWithin e t (thinned e t)) (map plain_track tracks)) c.length_of.ensures.value c.nearness.ensures.law);
    }
