-- What pieces made ready are for a cell that lies within their ticks.
use Rattle.std.proofs.Common.{◌≡◌, ℕ, ◌≤◌, Some, sym, ap, ◌∙◌, arith}
use Rattle.cj_base.specs.declared.tick.Tick.{Tick}
use Rattle.cj_hermite.specs.Interpolant.{IsOver}
use Rattle.cj_case.specs.PlainProblems.{PlainProblem}
use Rattle.cj_hermite.specs.ObjectsAtTicks.{curve_at}
use Rattle.cj_hermite.specs.Ready.{curve_ready}
use Rattle.cj_case.specs.declared.pair.Pair.{Pair}
use Rattle.cj_hermite.proofs.TrackLemmas.{over_part}
use Rattle.cj_case.specs.declared.cell.Cell.{Cell}
use Rattle.cj_cells.specs.declared.ready_pair.ReadyPair.{ReadyPair}
use Rattle.cj_cells.specs.ReadyPairs.{IsReadyPair}

-- they are the interpolants at the cell's first tick, and give places over all of its ticks
pub record AreFor (case : PlainProblem) (c : Cell) (r : ReadyPair) : Type 0 where
  pub first : curve_at case c.pair.a c.first.micros ≡ Some (curve_ready r.a)
  pub second : curve_at case c.pair.b c.first.micros ≡ Some (curve_ready r.b)
  pub first_over : IsOver (curve_ready r.a) c.first.micros c.last.micros
  pub second_over : IsOver (curve_ready r.b) c.first.micros c.last.micros

pub for_part : (case : PlainProblem) (c : Cell) (r : ReadyPair) → IsReadyPair case r → c.pair.a ≡ r.pair.a → c.pair.b ≡ r.pair.b → r.first.micros ≤ c.first.micros → c.last.micros ≤ r.last.micros → AreFor case c r
for_part case c r are a b from to =
    let some = c.some in
    record {
      first = ap (λ (k : ℕ). curve_at case k c.first.micros) a ∙ are.curves.first_curve c.first.micros from (omega arith);
      second = ap (λ (k : ℕ). curve_at case k c.first.micros) b ∙ are.curves.second_curve c.first.micros from (omega arith);
      first_over = over_part (curve_ready r.a) r.first.micros r.last.micros c.first.micros c.last.micros are.first_over from to;
      second_over = over_part (curve_ready r.b) r.first.micros r.last.micros c.first.micros c.last.micros are.second_over from to;
    }

pub for_all : (case : PlainProblem) (c : Cell) (r : ReadyPair) → IsReadyPair case r → r.pair ≡ c.pair → r.first ≡ c.first → r.last ≡ c.last → AreFor case c r
for_all case c r are pair first last =
    let from = ap (λ (t : Tick). t.micros) first in
    let to = ap (λ (t : Tick). t.micros) last in
    for_part case c r are (ap (λ (p : Pair). p.a) (sym pair)) (ap (λ (p : Pair). p.b) (sym pair)) (omega arith) (omega arith)
