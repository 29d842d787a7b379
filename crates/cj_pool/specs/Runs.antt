-- What names a run, and values of a run that nobody has.
use Rattle.std.specs.Prelude.{◌≡◌, ℕ, ◌≤◌, List, [], None, length}
use Rattle.std.proofs.Common.{arith, refl}
use Rattle.cj_base.specs.declared.tick.Tick.{Tick}
use Rattle.cj_base.specs.declared.tick.Window.{Window}
use Rattle.cj_case.specs.declared.problem.Problem.{Problem}
use Rattle.cj_case.specs.Problems.{plain_problem}
use Rattle.cj_case.specs.declared.cell.Cell.{Cell}
use Rattle.cj_pool.specs.RootLists.{AreRoots}

-- a run of this problem, from these roots, by so many workers and within this limit, where the three that name it are these
pub record IsRunOf (problem : Problem) (roots : List Cell) (workers limit : ℕ)
    (its_problem : Problem) (its_roots : List Cell) (its_workers : ℕ) : Type 0 where
  pub same_problem : problem ≡ its_problem
  pub same_roots : roots ≡ its_roots
  pub same_workers : its_workers ≡ workers
  pub are_roots : AreRoots (plain_problem problem) roots
  pub few : length roots ≤ limit

abbrev first_tick : Tick
first_tick = record { micros = 63_072_000_000_000; in_range = omega arith }

abbrev one_tick : Window
one_tick = record { first = first_tick; last = first_tick }

-- a problem without objects
abbrev pub no_problem : Problem
no_problem = record {
  tracks = [];
  window = one_tick;
  threshold = 1_000_000_000;
  sizes = [];
  primaries = None;
  few = omega arith;
  short = omega arith;
  few_slots = omega arith;
  least = omega arith;
  most = omega arith;
  sized = refl;
  marked = refl;
}

abbrev pub no_roots : List Cell
no_roots = []
