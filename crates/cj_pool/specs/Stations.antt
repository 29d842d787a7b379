-- Deques with passes to each other, before they are hands and after.
use Rattle.std.specs.Prelude.{◌≡◌, ℕ, ◌+◌, ◌-◌, ◌<◌, List, [], map, take, drop, length, All, Some, slice_get, slice_index_or}
use Rattle.std.specs.declared.alloc.Global.{Global}
use Rattle.atomic_blocks.specs.Lent.{RowsId}
use Rattle.crossbeam_deque.specs.Handles.{worker_deque, worker_flavor, worker_view, SameWorker}
use Rattle.crossbeam_deque.specs.declared.handles.Worker.{Worker}
use Rattle.cj_case.specs.declared.cell.Cell.{Cell}
use Rattle.cj_pool.specs.declared.account.Account.{Account}
use Rattle.cj_pool.specs.declared.station.Station.{Station}
use Rattle.cj_pool.specs.Accounts.{Owns, less_a_part}
use Rattle.cj_pool.specs.Hands.{HandSeen, roots_dealt}
use Rattle.cj_pool.specs.Passes.{deques, takens, around, AreReady}
use Rattle.cj_pool.specs.Weights.{weigh}

-- a worker that gave a part away
abbrev pub GaveAPart : {T A P : Type 0} → Worker T A Account P → Worker T A Account P → Type 0
GaveAPart old new = SameWorker old new × (worker_view new ≡ less_a_part (worker_view old))

-- a worker that took a part back, of a pass that had pushed nothing
pub record IsPartUp {T A P : Type 0} (old new : Worker T A Account P) : Type 0 where
  pub same : SameWorker old new
  pub parts : (worker_view new).parts ≡ (worker_view old).parts + 1
  pub all : (worker_view new).all ≡ (worker_view old).all
  pub opening : (worker_view new).opening ≡ (worker_view old).opening
  pub pushed : (worker_view new).pushed ≡ (worker_view old).pushed

-- a list without its last item
abbrev pub without_last : {X : Type 0} → List X → List X
without_last xs = take (length xs - 1) xs

module _ {K : Type 0} where
  abbrev pub own_deque : Station K → RowsId × Global
  own_deque s = worker_deque s.own

  -- the deques of stations, in order
  abbrev pub own_deques : List (Station K) → List (RowsId × Global)
  own_deques ss = map own_deque ss

  -- what was taken from each of the deques that the station has a pass to
  abbrev pub station_taken : Station K → List (List Cell)
  station_taken s = around (takens s.below.items) (worker_view s.own).taken (takens s.above.items)

  -- the station with the number j, among those of these deques, each of n parts
  pub record IsStation (n : ℕ) (ds : List (RowsId × Global)) (j : ℕ) (s : Station K) : Type 0 where
    pub number : s.number ≡ j
    pub own : slice_get ds j ≡ Some (own_deque s)
    pub flavor : worker_flavor s.own ≡ 0
    pub all : (worker_view s.own).all ≡ n
    pub parts : (worker_view s.own).parts + length ds ≡ n + 1
    pub below : deques s.below.items ≡ take j ds
    pub above : deques s.above.items ≡ drop (j + 1) ds
    pub ready_below : AreReady s.below.items
    pub ready_above : AreReady s.above.items

  -- stations with a pass to each other's deque, in order of their numbers
  abbrev pub AreStations : ℕ → List (Station K) → Type 0
  AreStations n ss = (j : ℕ) (d : Station K) → j < length ss → IsStation n (own_deques ss) j (slice_index_or ss j d)

  -- the same station, whose worker only opened roots
  pub record IsLike (old new : Station K) : Type 0 where
    pub number : new.number ≡ old.number
    pub below : new.below ≡ old.below
    pub above : new.above ≡ old.above
    pub same : SameWorker old.own new.own
    pub parts : (worker_view new.own).parts ≡ (worker_view old.own).parts
    pub all : (worker_view new.own).all ≡ (worker_view old.own).all
    pub pushed : (worker_view new.own).pushed ≡ (worker_view old.own).pushed
    pub taken : (worker_view new.own).taken ≡ (worker_view old.own).taken

  -- its worker owns its deque
  abbrev pub OwnsDeque : Station K → Type 0
  OwnsDeque s = Owns (worker_view s.own)

  -- nothing was pushed, and nothing was taken
  pub record IsUnused (s : Station K) : Type 0 where
    pub pushed : (worker_view s.own).pushed ≡ []
    pub taken : All (λ cells. cells ≡ []) (station_taken s)

  -- nor was a root pushed
  abbrev pub IsUnopened : Station K → Type 0
  IsUnopened s = (worker_view s.own).opening ≡ []

  -- each deque has its roots
  abbrev pub AreDealt : List Cell → List (Station K) → Type 0
  AreDealt roots ss = (j : ℕ) (d : Station K) → j < length ss → (worker_view (slice_index_or ss j d).own).opening ≡ roots_dealt roots (length ss) j

  -- the station of a hand, one of n
  pub record IsStationOf (n : ℕ) (h : HandSeen) (s : Station K) : Type 0 where
    pub station : IsStation n h.deques h.number s
    pub opening : (worker_view s.own).opening ≡ h.opening
    pub pushed : (worker_view s.own).pushed ≡ h.pushed
    pub taken : station_taken s ≡ h.taken

  -- the weight of all that was pushed to deques, roots and halves
  abbrev pub weigh_given : (Cell → ℕ) → List (Station K) → ℕ
  weigh_given w ss = weigh (λ (s : Station K). weigh w (worker_view s.own).opening + weigh w (worker_view s.own).pushed) ss

  -- the weight of all that stations have taken
  abbrev pub weigh_all_taken : (Cell → ℕ) → List (Station K) → ℕ
  weigh_all_taken w ss = weigh (λ (s : Station K). weigh (weigh w) (station_taken s)) ss
