-- Ready: what a piece made ready stands for.
use Rattle.std.specs.Prelude.{ℕ, ℤ, pos, neg_ℤ, ◌+ℤ◌, ◌*ℤ◌}
use Rattle.cj_hermite.specs.declared.ready_axis.Speed.{Speed}
use Rattle.cj_hermite.specs.declared.ready_axis.ReadyAxis.{ReadyAxis}
use Rattle.cj_hermite.specs.declared.ready_axis.Ready.{Ready}
use Rattle.cj_hermite.specs.Interpolant.{Four, Curve, controls_of}

-- the rate in nm/s
abbrev pub speed_of : Speed → ℤ
speed_of v = pos 3000000 *ℤ v.whole +ℤ pos v.rest

-- the control values of an axis whose nodes are t ticks apart
abbrev pub controls_ready : ReadyAxis → ℕ → Four
controls_ready a t = controls_of a.from (speed_of a.out) a.to (neg_ℤ (speed_of a.back)) t

-- the interpolant of the piece
abbrev pub curve_ready : Ready → Curve
curve_ready r = record {
  start = r.start.micros;
  span = r.divisor.of;
  x = controls_ready r.x r.divisor.of;
  y = controls_ready r.y r.divisor.of;
  z = controls_ready r.z r.divisor.of;
}
