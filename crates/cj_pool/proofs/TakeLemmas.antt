-- Hands that are taken apart.
use Rattle.std.proofs.Common.{◌≡◌, ℕ, suc, ◌+◌, ◌<◌, List, [], ◌∷◌, ◌++◌, map, length, get_or, refl, sym, ap, ◌∙◌, subst, arith, append_assoc, length-append}
use Rattle.std.specs.Prelude.{All, Some, slice_get}
use Rattle.std.specs.List.{range_with_len, remove}
use Rattle.std.specs.declared.alloc.Global.{Global}
use Rattle.std.proofs.lemmas.List.{length-map}
use Rattle.std.proofs.lemmas.List.FromFn.{length-range_with_len}
use Rattle.std.proofs.lemmas.List.Elements.{All-cons, All-head, All-tail}
use Rattle.atomic_blocks.specs.Lent.{RowsId}
use Rattle.crossbeam_deque.specs.Handles.{worker_deque, worker_view}
use Rattle.cj_case.specs.PlainProblems.{PlainProblem}
use Rattle.cj_case.specs.declared.problem.Problem.{Problem}
use Rattle.cj_case.specs.declared.cell.Cell.{Cell}
use Rattle.cj_case.specs.declared.leaf.Leaf.{Leaf}
use Rattle.cj_ledger.specs.Shares.{ShareSeen}
use Rattle.cj_pool.specs.declared.station.Station.{Station}
use Rattle.cj_pool.specs.Hands.{RefinerySeen, HandSeen, Accounts, IsHandOf, hand_seen, settled_share}
use Rattle.cj_pool.specs.Passes.{deques, takens, around, AreReady, IsSeated}
use Rattle.cj_pool.specs.Refined.{kept_in, leaves_in, numbers_of}
use Rattle.cj_pool.specs.Stations.{own_deque, own_deques, station_taken, IsStation, IsStationOf, AreStations, weigh_given, weigh_all_taken}
use Rattle.cj_pool.specs.Weights.{weigh}
use Rattle.cj_pool.proofs.HandSumLemmas.{all_taken}
use Rattle.cj_pool.proofs.PassLemmas.{below_of, above_of}
use Rattle.cj_pool.proofs.StationLemmas.{at_push}
use Rattle.cj_pool.proofs.WeightLemmas.{weigh_snoc}

-- ---- the first of a list

pub first_of : {X : Type 0} (xs : List X) (x : X) → 0 < length xs → x ≡ get_or xs 0 x → xs ≡ x ∷ remove xs 0
first_of [] x some is = absurd (omega arith)
first_of (y ∷ ys) x some is = ap (λ z. z ∷ ys) (sym is)

pub sum_ends : (a b c : ℕ) → a + b ≡ c → b ≡ 0 → a ≡ c
sum_ends a b c e z = omega arith

next_list : {X : Type 0} (xs ys rest all : List X) → xs ++ (ys ++ rest) ≡ all → (xs ++ ys) ++ rest ≡ all
next_list xs ys rest all is = append_assoc xs ys rest ∙ is

-- ---- the station of a hand

middle_at : {X : Type 0} (below : List X) (x : X) (above : List X) (n : ℕ) → length below ≡ n → slice_get (around below x above) n ≡ Some x
middle_at [] x above n len = let e : n ≡ 0 = sym len in rw e refl
middle_at (y ∷ below) x above n len = let e : n ≡ suc (length below) = sym len in rw e (middle_at below x above (length below) refl)

module _ {K : Type 0} where
  pub station_of : (n : ℕ) (s : Station K) (problem : Problem) (kept : List Cell) (leaves : List Leaf) (share : ShareSeen) (uncounted wants : ℕ) →
      AreReady s.below.items → AreReady s.above.items → IsSeated n s.own → length s.below.items ≡ s.number →
      length (around (deques s.below.items) (worker_deque s.own) (deques s.above.items)) ≡ n →
      IsStationOf n (hand_seen s.number problem (deques s.below.items) (worker_deque s.own) (deques s.above.items) (takens s.below.items)
      (worker_view s.own) (takens s.above.items) kept leaves share uncounted wants) s
  station_of n s problem kept leaves share uncounted wants below above seated number len =
      let ds = around (deques s.below.items) (worker_deque s.own) (deques s.above.items) in
      let count : length (deques s.below.items) ≡ s.number = length-map s.below.items _ ∙ number in
      record {
        station = record {
          number = refl;
          own = middle_at (deques s.below.items) (worker_deque s.own) (deques s.above.items) s.number count;
          flavor = seated.flavor;
          all = seated.all;
          parts = omega (arith, seated.parts, len);
          below = below_of (deques s.below.items) (worker_deque s.own) (deques s.above.items) ds s.number count refl;
          above = above_of (deques s.below.items) (worker_deque s.own) (deques s.above.items) ds s.number count refl;
          ready_below = below;
          ready_above = above;
        };
        opening = refl;
        pushed = refl;
        taken = refl;
      }

  -- ---- all hands

  -- some hands were taken apart, and these are left
  pub record AreTaken (case : PlainProblem) (roots : List Cell) (n : ℕ) (r : RefinerySeen) (all rest : List HandSeen) (stations : List (Station K)) (shares : List ShareSeen) (leaves : List Leaf) (kept : List Cell) : Type 0 where
    pub hands : All (IsHandOf r) rest
    pub numbers : numbers_of rest ≡ range_with_len (length stations) (length rest)
    pub count : length stations + length rest ≡ n
    pub len : 0 < length stations → length r.deques ≡ n
    pub stations_are : (j : ℕ) (d : Station K) → j < length stations → IsStation n r.deques j (get_or stations j d)
    pub given : (w : Cell → ℕ) →
        weigh_given w stations + weigh (λ h. weigh w h.opening + weigh w h.pushed) rest ≡ weigh (λ h. weigh w h.opening + weigh w h.pushed) all
    pub taken : (w : Cell → ℕ) → weigh_all_taken w stations + all_taken w rest ≡ all_taken w all
    pub shares_are : shares ++ map settled_share rest ≡ map settled_share all
    pub leaves_are : leaves ++ leaves_in rest ≡ leaves_in all
    pub kept_are : kept ++ kept_in rest ≡ kept_in all
    pub accounts : All (Accounts case roots n) rest → All (Accounts case roots n) all

  none_taken : (case : PlainProblem) (roots : List Cell) (n : ℕ) (r : RefinerySeen) (all : List HandSeen) → All (IsHandOf r) all →
      numbers_of all ≡ range_with_len 0 n → AreTaken case roots n r all all [] [] [] []
  none_taken case roots n r all hands numbers =
      let count : length all ≡ n = sym (length-map all (λ (h : HandSeen). h.number)) ∙ ap length numbers ∙ length-range_with_len 0 n in
      record {
        hands = hands;
        numbers = numbers ∙ ap (λ (k : ℕ). range_with_len 0 k) (sym count);
        count = omega (arith, count);
        len = λ some. absurd (omega arith);
        stations_are = λ j d lt. absurd (omega arith);
        given = λ w. omega arith;
        taken = λ w. omega arith;
        shares_are = refl;
        leaves_are = refl;
        kept_are = refl;
        accounts = λ a. a;
      }

  pub taken_begins : (case : PlainProblem) (roots : List Cell) (n : ℕ) (r : RefinerySeen) (all : List HandSeen) (stations : List (Station K))
      (shares : List ShareSeen) (leaves : List Leaf) (kept : List Cell) →
      All (IsHandOf r) all →
      numbers_of all ≡ range_with_len 0 n → stations ≡ [] → shares ≡ [] → leaves ≡ [] → kept ≡ [] → AreTaken case roots n r all all stations shares
      leaves kept
  taken_begins case roots n r all stations shares leaves kept hands numbers a b c d = rw (a, b, c, d) (none_taken case roots n r all hands numbers)

  pub taken_step : (case : PlainProblem) (roots : List Cell) (n : ℕ) (r : RefinerySeen) (all rest : List HandSeen) (h : HandSeen)
      (rest' : List HandSeen)
      (stations stations' : List (Station K)) (shares shares' : List ShareSeen) (leaves leaves' : List Leaf) (kept kept' : List Cell) (s : Station K)
      →
      AreTaken case roots n r all rest stations shares leaves kept → rest ≡ h ∷ rest' → stations' ≡ stations ++ s ∷ [] → IsStationOf n h s → Accounts
      case roots n h →
      shares' ≡ shares ++ settled_share h ∷ [] → leaves' ≡ leaves ++ h.closed → kept' ≡ kept ++ h.kept → AreTaken case roots n r all rest' stations' shares'
      leaves' kept'
  taken_step case roots n r all rest h rest' stations stations' shares shares' leaves leaves' kept kept' s are first more is account more_shares
      more_leaves more_kept =
      let mine = subst (All (IsHandOf r)) first are.hands in
      let hand : IsHandOf r h = All-head (IsHandOf r) h rest' mine in
      let len : length rest ≡ suc (length rest') = ap length first in
      let len' : length stations' ≡ length stations + 1 = ap length more ∙ length-append stations (s ∷ []) in
      let numbers : h.number ∷ numbers_of rest' ≡ length stations ∷ range_with_len (length stations + 1) (length rest') =
      ap numbers_of (sym first) ∙ are.numbers ∙ ap (λ (k : ℕ). range_with_len (length stations) k) len in
      let number : h.number ≡ length stations = cc in
      let others : numbers_of rest' ≡ range_with_len (length stations + 1) (length rest') = cc in
      let station : IsStation n r.deques (length stations) s =
      subst (λ (j : ℕ). IsStation n r.deques j s) number (subst (λ (ds : List (RowsId × Global)). IsStation n ds h.number s) hand.0 is.station) in
      record {
        hands = All-tail (IsHandOf r) h rest' mine;
        numbers = others ∙ ap (λ (k : ℕ). range_with_len k (length rest')) (sym len');
        count = omega (arith, are.count, len, len');
        len = λ _. ap length (sym hand.0) ∙ account.deques;
        stations_are = subst (λ (ss : List (Station K)). (j : ℕ) (d : Station K) → j < length ss → IsStation n r.deques j (get_or ss j d)) (sym more)
            (at_push (IsStation n r.deques) stations s are.stations_are station);
        given = λ w.
            let before = are.given w in
            let a = ap (weigh (λ (x : HandSeen). weigh w x.opening + weigh w x.pushed)) first in
            let b = ap (weigh_given w) more in
            let o = ap (weigh w) is.opening in
            let p = ap (weigh w) is.pushed in
            omega (
              arith,
              before,
              a,
              b,
              o,
              p,
              weigh_snoc (λ (x : Station K). weigh w (worker_view x.own).opening + weigh w
                  (worker_view x.own).pushed) stations s,
            );
        taken = λ w.
            let before = are.taken w in
            let a = ap (all_taken w) first in
            let b = ap (weigh_all_taken w) more in
            let t = ap (weigh (weigh w)) is.taken in
            omega (arith, before, a, b, t, weigh_snoc (λ (x : Station K). weigh (weigh w) (station_taken x)) stations s);
        shares_are = ap (λ xs. xs ++ map settled_share rest') more_shares ∙ next_list shares (settled_share h ∷ [])
            (map settled_share rest') (map settled_share all)
            (ap (λ hs. shares ++ map settled_share hs) (sym first) ∙ are.shares_are);
        leaves_are = ap (λ xs. xs ++ leaves_in rest') more_leaves ∙ next_list leaves h.closed (leaves_in rest') (leaves_in all)
            (ap (λ hs. leaves ++ leaves_in hs) (sym first) ∙ are.leaves_are);
        kept_are = ap (λ xs. xs ++ kept_in rest') more_kept ∙ next_list kept h.kept (kept_in rest') (kept_in all)
            (ap (λ hs. kept ++ kept_in hs) (sym first) ∙ are.kept_are);
        accounts = λ a. are.accounts (subst (All (Accounts case roots n)) (sym first) (All-cons (Accounts case roots n) h rest' account a));
      }

  deques_are : (ss : List (Station K)) (ds : List (RowsId × Global)) → length ss ≡ length ds →
      ((j : ℕ) (d : Station K) → j < length ss → slice_get ds j ≡ Some (own_deque (get_or ss j d))) → own_deques ss ≡ ds
  deques_are [] [] len at = refl
  deques_are [] (d ∷ ds) len at = absurd (omega (arith, len))
  deques_are (s ∷ ss) [] len at = absurd (omega (arith, len))
  deques_are (s ∷ ss) (d ∷ ds) len at =
      let here : Some d ≡ Some (own_deque s) = at 0 s (omega arith) in
      let same : own_deque s ≡ d = cc in
      let rest = deques_are ss ds (omega (arith, len)) (λ j e lt. at (suc j) e (omega arith)) in
      λ i. same i ∷ rest i

  pub taken_stations : (case : PlainProblem) (roots : List Cell) (n : ℕ) (r : RefinerySeen) (all : List HandSeen) (stations : List (Station K))
      (shares : List ShareSeen) (leaves : List Leaf) (kept : List Cell) →
      AreTaken case roots n r all [] stations shares leaves kept → AreStations n stations
  taken_stations case roots n r all stations shares leaves kept are j d lt =
      let len : length stations ≡ length r.deques = omega (arith, are.count, are.len (omega arith)) in
      let same : own_deques stations ≡ r.deques = deques_are stations r.deques len (λ i e lt'. (are.stations_are i e lt').own) in
      subst (λ (ds : List (RowsId × Global)). IsStation n ds j (get_or stations j d)) (sym same) (are.stations_are j d lt)
