use Rattle.std.proofs.Common.{◌≡◌, pos, ◌*ℤ◌, refl, sym, subst, ◌∙◌, to_z-of_z}
use Rattle.std.specs.Int.{w128}
use Rattle.cj_interval.proofs.MachineLemmas.{fits_in, read_as}
use Rattle.cj_track.specs.Limits as limits
use Rattle.cj_hermite.proofs.ReachLemmas.{travelled_fits, travelled_within}
use Rattle.cj_hermite.proofs.controlling.travelled.Goals as goal

pub overflow_mul-result : goal.overflow_mul-result
overflow_mul-result c =
    let rate : c.from.result ≡ c.args.v = c.from.ensures ∙ to_z-of_z c.ranges.v in
    fits_in w128 ◌*ℤ◌ c.from.result c.from-2.result (c.args.v *ℤ pos c.args.span) (record { sfits = c.from.type_inv }) (record { sfits = c.from-2.type_inv })
    (rw (rate, c.from-2.ensures) refl) (travelled_fits c.args.v c.args.span c.requires.rate c.requires.short)

pub returns-clause-value : goal.returns-clause-value
returns-clause-value c =
    let rate : c.from.result ≡ c.args.v = c.from.ensures ∙ to_z-of_z c.ranges.v in
    read_as ◌*ℤ◌ c.from.result c.from-2.result (c.args.v *ℤ pos c.args.span) (record { sfits = c.from.type_inv }) (record { sfits = c.from-2.type_inv })
    (rw (rate, c.from-2.ensures) refl) (travelled_fits c.args.v c.args.span c.requires.rate c.requires.short)

pub returns-clause-within : goal.returns-clause-within
returns-clause-within c =
    subst (limits.IsWithin 72000000000000000000000) (sym (returns-clause-value c)) (travelled_within c.args.v c.args.span c.requires.rate c.requires.short)
