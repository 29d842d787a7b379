-- When nodes, covariances and segments are the same: each of these is an equivalence.
use Rattle.std.specs.Prelude.{Bool, nat_eq}
use Rattle.std.specs.Bool.{beq}
use Rattle.std.specs.Cmp.{IsEquivalence, and_equiv, bool_eq_equiv, int_eq_equiv, nat_eq_equiv, on_equiv}
use Rattle.std.specs.Cmp.Lexicographic.{lists_equiv, pointwise}
use Rattle.std.specs.Ordering.{eq_of_both, int_eq, on}
use Rattle.cj_base.specs.declared.decimals.Decimal.{Decimal}
use Rattle.cj_track.specs.declared.matrix.Matrix.{Matrix}
use Rattle.cj_track.specs.declared.node.Node.{Node}
use Rattle.cj_track.specs.declared.segment.Segment.{Segment}
use Rattle.cj_track.specs.declared.vec3.Vec3.{Vec3}

-- in each coordinate
abbrev pub same_vector : Vec3 → Vec3 → Bool
same_vector = eq_of_both (on (λ v. v.x) int_eq) (eq_of_both (on (λ v. v.y) int_eq) (on (λ v. v.z) int_eq))

pub vectors_equiv : IsEquivalence same_vector
vectors_equiv = and_equiv (on_equiv (λ v. v.x) int_eq_equiv) (and_equiv (on_equiv (λ v. v.y) int_eq_equiv) (on_equiv (λ v. v.z) int_eq_equiv))

-- at one tick, in one place, with one rate
abbrev pub same_node : Node → Node → Bool
same_node = eq_of_both (on (λ n. n.at.micros) nat_eq) (eq_of_both (on (λ n. n.p) same_vector) (on (λ n. n.v) same_vector))

pub nodes_equiv : IsEquivalence same_node
nodes_equiv = and_equiv (on_equiv (λ n. n.at.micros) nat_eq_equiv) (and_equiv (on_equiv (λ n. n.p) vectors_equiv) (on_equiv (λ n. n.v) vectors_equiv))

-- in sign, digits and power of ten
abbrev pub same_decimal : Decimal → Decimal → Bool
same_decimal = eq_of_both (on (λ d. d.negative) beq) (eq_of_both (on (λ d. d.digits) nat_eq) (on (λ d. d.exponent) int_eq))

pub decimals_equiv : IsEquivalence same_decimal
decimals_equiv = and_equiv (on_equiv (λ d. d.negative) bool_eq_equiv) (and_equiv (on_equiv (λ d. d.digits) nat_eq_equiv) (on_equiv (λ d. d.exponent) int_eq_equiv))

-- at one tick, in each value
abbrev pub same_matrix : Matrix → Matrix → Bool
same_matrix = eq_of_both (on (λ m. m.at.micros) nat_eq) (on (λ m. m.values) (pointwise same_decimal))

pub matrices_equiv : IsEquivalence same_matrix
matrices_equiv = and_equiv (on_equiv (λ m. m.at.micros) nat_eq_equiv) (on_equiv (λ m. m.values) (lists_equiv decimals_equiv))

-- in their useable spans, nodes and covariances
abbrev pub same_segment : Segment → Segment → Bool
same_segment =
    eq_of_both (on (λ s. s.first.micros) nat_eq) (eq_of_both (on (λ s. s.last.micros) nat_eq)
    (eq_of_both (on (λ s. s.nodes) (pointwise same_node)) (on (λ s. s.matrices) (pointwise same_matrix))))

pub segments_equiv : IsEquivalence same_segment
segments_equiv =
    and_equiv (on_equiv (λ s. s.first.micros) nat_eq_equiv) (and_equiv (on_equiv (λ s. s.last.micros) nat_eq_equiv)
    (and_equiv (on_equiv (λ s. s.nodes) (lists_equiv nodes_equiv)) (on_equiv (λ s. s.matrices) (lists_equiv matrices_equiv))))
