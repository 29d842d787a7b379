-- Passes of several deques, one for each.
use Rattle.std.specs.Prelude.{◌≡◌, ℕ, ◌<◌, List, [], ◌∷◌, ◌++◌, map, length, All, None, slice_index_or, slice_set}
use Rattle.atomic_blocks.specs.Lent.{RowsId}
use Rattle.crossbeam_deque.specs.Handles.{Pass, view, stealer_deque, worker_flavor, worker_view}
use Rattle.crossbeam_deque.specs.declared.handles.Stealer.{Stealer}
use Rattle.crossbeam_deque.specs.declared.handles.Worker.{Worker}
use Rattle.cj_case.specs.declared.cell.Cell.{Cell}
use Rattle.cj_pool.specs.declared.account.Account.{Account}

module _ {T A : Type 0} where
  -- which deques they are of
  abbrev pub deques : List (Pass T Account A) → List (RowsId × A)
  deques ps = map (λ (p : Pass T Account A). (p.rows, p.heap)) ps

  -- the cells that were taken by each
  abbrev pub takens : List (Pass T Account A) → List (List Cell)
  takens ps = map (λ (p : Pass T Account A). (view p).taken) ps

  -- a pass of one part that has opened and pushed nothing, and carries nothing
  pub record IsReady (p : Pass T Account A) : Type 0 where
    pub parts : (view p).parts ≡ 1
    pub opening : (view p).opening ≡ []
    pub pushed : (view p).pushed ≡ []
    pub hand : p.me.hand ≡ None
    pub spare : p.me.spare ≡ None

  abbrev pub AreReady : List (Pass T Account A) → Type 0
  AreReady ps = All IsReady ps

module _ {T A P : Type 0} where
  abbrev pub deques_of : List (Stealer T A Account P) → List (RowsId × A)
  deques_of ss = map stealer_deque ss

  -- the worker of a first-in-first-out deque of n parts, who has one
  pub record IsSeated (n : ℕ) (own : Worker T A Account P) : Type 0 where
    pub parts : (worker_view own).parts ≡ 1
    pub all : (worker_view own).all ≡ n
    pub flavor : worker_flavor own ≡ 0

-- a cell was taken by the pass at this place
abbrev pub taken_at : List (List Cell) → ℕ → Cell → List (List Cell)
taken_at taken d c = slice_set taken d (slice_index_or taken d [] ++ c ∷ [])

-- a cell was taken by one of these passes
abbrev pub TookOne : List (List Cell) → List (List Cell) → Cell → Type 0
TookOne old new c = (d : ℕ) × (d < length old) × (new ≡ taken_at old d c)

-- in order of number: those below, the own one, and those above
abbrev pub around : {X : Type 0} → List X → X → List X → List X
around below own above = below ++ own ∷ above
