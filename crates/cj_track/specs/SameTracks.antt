-- When two tracks are the same in all fields.
use Rattle.std.specs.Prelude.{Bool, true, false, nat_eq}
use Rattle.std.specs.Bool.{beq}
use Rattle.std.specs.Cmp.Lexicographic.{pointwise}
use Rattle.std.specs.Ordering.{eq_of_both, int_eq, on}
use Rattle.cj_base.specs.Numbers.{Number}
use Rattle.cj_track.specs.PlainTracks.{PlainNode, PlainMatrix, PlainSegment, PlainTrack}
use Rattle.cj_track.specs.Sameness.{same_vector}
use Rattle.cj_track.specs.declared.frame.Frame.{Frame}
use Rattle.cj_track.specs.declared.frame.Frame.TheVariants.{Eme2000, Gcrf}

-- at one tick, in one place, with one rate
abbrev pub same_state : PlainNode → PlainNode → Bool
same_state = eq_of_both (on (λ n. n.at) nat_eq) (eq_of_both (on (λ n. n.p) same_vector) (on (λ n. n.v) same_vector))

-- in sign, digits and power of ten
abbrev pub same_number : Number → Number → Bool
same_number = eq_of_both (on (λ n. n.negative) beq) (eq_of_both (on (λ n. n.digits) nat_eq) (on (λ n. n.power) int_eq))

-- at one tick, in each value
abbrev pub same_covariance : PlainMatrix → PlainMatrix → Bool
same_covariance = eq_of_both (on (λ m. m.at) nat_eq) (on (λ m. m.values) (pointwise same_number))

-- in useable span, nodes and covariances
abbrev pub same_part : PlainSegment → PlainSegment → Bool
same_part =
    eq_of_both (on (λ s. s.first) nat_eq) (eq_of_both (on (λ s. s.last) nat_eq)
    (eq_of_both (on (λ s. s.nodes) (pointwise same_state)) (on (λ s. s.covariances) (pointwise same_covariance))))

abbrev pub same_frame : Frame → Frame → Bool
same_frame Eme2000 Eme2000 = true
same_frame Eme2000 Gcrf = false
same_frame Gcrf Eme2000 = false
same_frame Gcrf Gcrf = true

-- in file, name, designator, frame and segments
unfoldable pub same_track : PlainTrack → PlainTrack → Bool
same_track =
    eq_of_both (on (λ e. e.file) (pointwise nat_eq)) (eq_of_both (on (λ e. e.name) (pointwise nat_eq)) (eq_of_both (on (λ e. e.id) (pointwise nat_eq))
    (eq_of_both (on (λ e. e.frame) same_frame) (on (λ e. e.segments) (pointwise same_part)))))
