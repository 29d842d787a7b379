-- A hand on its station, before its first turn.
use Rattle.std.proofs.Common.{◌≡◌, ℕ, zero, suc, ◌+◌, ◌-◌, ◌<◌, ◌≤◌, List, [], ◌∷◌, ◌++◌, map, length, take, drop, reverse, get_or, refl, sym, ap, ◌∙◌, subst, arith, length-append}
use Rattle.std.specs.Prelude.{All, Some, slice_get}
use Rattle.std.specs.List.{range_with_len, sum_by}
use Rattle.std.specs.declared.alloc.Global.{Global}
use Rattle.std.proofs.lemmas.List.{length-map, get_or-map, length-take-le, length-drop, take_more, drop_more, reverse-append, same_from_push}
use Rattle.std.proofs.lemmas.List.Elements.{All-cons}
use Rattle.std.proofs.lemmas.List.Sums.{sum_by-cons}
use Rattle.atomic_blocks.specs.Lent.{RowsId}
use Rattle.crossbeam_deque.specs.Handles.{worker_deque, worker_view}
use Rattle.cj_case.specs.PlainProblems.{PlainProblem}
use Rattle.cj_case.specs.declared.problem.Problem.{Problem}
use Rattle.cj_case.specs.declared.cell.Cell.{Cell}
use Rattle.cj_case.specs.declared.leaf.Leaf.{Leaf}
use Rattle.cj_ledger.specs.Counts.{fresh}
use Rattle.cj_ledger.specs.Shares.{ShareSeen}
use Rattle.cj_ledger.specs.declared.count.Count.{Count}
use Rattle.cj_pool.specs.declared.station.Station.{Station}
use Rattle.cj_pool.specs.Hands.{HandSeen, Accounts, IsUnstarted, cells_of, hand_seen, roots_dealt}
use Rattle.cj_pool.specs.Narrow.{Narrow}
use Rattle.cj_pool.specs.Passes.{deques, takens, around, IsSeated}
use Rattle.cj_pool.specs.Refined.{numbers_of}
use Rattle.cj_pool.specs.RootLists.{AreRoots}
use Rattle.cj_pool.specs.Stations.{own_deque, own_deques, station_taken, IsStation, AreStations, IsUnused, AreDealt}
use Rattle.cj_pool.specs.Weights.{weigh}

-- ---- lists that are taken from the end

-- the last of the first items
pub popped : {X : Type 0} (xs ys : List X) (k : ℕ) (x : X) → take (k + 1) xs ≡ ys ++ x ∷ [] → k < length xs → (ys ≡ take k xs) × (x ≡ get_or xs k x)
popped xs ys k x is lt = let same = same_from_push ys (take k xs) x (get_or xs k x) (sym is ∙ take_more xs k x lt) in same

pub reverse_push : {X : Type 0} (xs : List X) (x : X) → reverse (xs ++ x ∷ []) ≡ x ∷ reverse xs
reverse_push xs x = reverse-append xs (x ∷ [])

pub range_before : (k n : ℕ) → k < n → range_with_len k (n - k) ≡ k ∷ range_with_len (k + 1) (n - (k + 1))
range_before k n lt = let e : n - k ≡ suc (n - (k + 1)) = omega arith in rw e refl

pub numbers_before : (hands : List HandSeen) (h : HandSeen) (k n : ℕ) → h.number ≡ k → k < n →
    numbers_of (reverse hands) ≡ range_with_len (k + 1) (n - (k + 1)) → numbers_of (reverse (hands ++ h ∷ [])) ≡ range_with_len k (n - k)
numbers_before hands h k n number lt before =
    ap numbers_of (reverse_push hands h) ∙ (λ i. number i ∷ before i) ∙ sym (range_before k n lt)

pub shares_before : (hands : List HandSeen) (h : HandSeen) (shares : List ShareSeen) (k : ℕ) → k < length shares → h.share ≡ get_or shares k h.share →
    map (λ (x : HandSeen). x.share) (reverse hands) ≡ drop (k + 1) shares →
    map (λ (x : HandSeen). x.share) (reverse (hands ++ h ∷ [])) ≡ drop k shares
shares_before hands h shares k lt is before =
    ap (map (λ (x : HandSeen). x.share)) (reverse_push hands h) ∙ (λ i. is i ∷ before i) ∙ sym (drop_more shares k h.share lt)

pub all_before : (P : HandSeen → Type 0) (hands : List HandSeen) (h : HandSeen) → All P (reverse hands) → P h → All P (reverse (hands ++ h ∷ []))
all_before P hands h all is = subst (All P) (sym (reverse_push hands h)) (All-cons P h (reverse hands) is all)

-- ---- what holds of images

pub all_of_map : {X Y : Type 0} (P : Y → Type 0) (f : X → Y) (xs : List X) (ys : List Y) → map f xs ≡ ys → All P ys → All (λ x. P (f x)) xs
all_of_map P f xs ys is all k d lt =
    let there : k < length ys = subst (λ (n : ℕ). k < n) (sym (length-map xs f) ∙ ap length is) lt in
    subst P (ap (λ (zs : List _). get_or zs k (f d)) (sym is) ∙ get_or-map f xs k d (f d) lt) (all k (f d) there)

pub weigh_map : {X Y : Type 0} (f : X → Y) (w : Y → ℕ) (xs : List X) → weigh w (map f xs) ≡ weigh (λ x. w (f x)) xs
weigh_map f w [] = refl
weigh_map f w (x ∷ xs) = ap (λ n. w (f x) + n) (weigh_map f w xs)

pub sum_is : {X : Type 0} (f : X → ℕ) (xs : List X) → sum_by f xs ≡ weigh f xs
sum_is f [] = refl
sum_is f (x ∷ xs) = sum_by-cons f x xs ∙ ap (λ n. f x + n) (sum_is f xs)

-- the sum over the shares of hands
pub share_sum : (share_of : HandSeen → ShareSeen) (f : ShareSeen → ℕ) (hands : List HandSeen) (shares : List ShareSeen) → map share_of hands ≡ shares →
    weigh (λ h. f (share_of h)) hands ≡ sum_by f shares
share_sum share_of f hands shares is = sym (weigh_map share_of f hands) ∙ ap (weigh f) is ∙ sym (sum_is f shares)

-- a share that made no step tells how the ledger was opened
pub fresh_itself : (c : Count) (o : _) → c ≡ fresh o c.roots → c ≡ fresh c.opening c.roots
fresh_itself c o is = let same : c.opening ≡ o = ap (λ (x : Count). x.opening) is in is ∙ ap (λ p. fresh p c.roots) (sym same)

-- ---- nothing was taken

empty_weighs : (w : Cell → ℕ) (taken : List (List Cell)) → All (λ cells. cells ≡ []) taken → weigh (weigh w) taken ≡ 0
empty_weighs w [] all = refl
empty_weighs w (x ∷ xs) all =
    let here : weigh w x ≡ 0 = ap (weigh w) (all 0 x (omega arith)) in
    let rest = empty_weighs w xs (λ k d lt. all (suc k) d (omega arith)) in omega arith

empty_lengths : (taken : List (List Cell)) → All (λ cells. cells ≡ []) taken → weigh length taken ≡ 0
empty_lengths [] all = refl
empty_lengths (x ∷ xs) all =
    let here : length x ≡ 0 = ap length (all 0 x (omega arith)) in
    let rest = empty_lengths xs (λ k d lt. all (suc k) d (omega arith)) in omega arith

-- ---- a station of all

split_at : {X : Type 0} (xs : List X) (j : ℕ) (x : X) → slice_get xs j ≡ Some x → around (take j xs) x (drop (j + 1) xs) ≡ xs
split_at [] j x is = absurd cc
split_at (y ∷ ys) zero x is = let same : y ≡ x = cc in ap (λ z. z ∷ ys) (sym same)
split_at (y ∷ ys) (suc j) x is = let e : suc j + 1 ≡ suc (j + 1) = omega arith in rw e (ap (λ zs. y ∷ zs) (split_at ys j x is))

module _ {K : Type 0} where
  module _ (n j : ℕ) (ds : List (RowsId × Global)) (s : Station K) (is : IsStation n ds j s) (len : length ds ≡ n) (lt : j < n) where
    pub seated : IsSeated n s.own
    seated = record { parts = omega (arith, is.parts, len); all = is.all; flavor = is.flavor }

    pub below_length : length s.below.items ≡ s.number
    below_length =
        sym (length-map s.below.items (λ p. (p.rows, p.heap))) ∙ ap length is.below ∙ length-take-le j ds (omega (arith, len, lt)) ∙ sym is.number

    above_length : length s.above.items ≡ n - (j + 1)
    above_length = sym (length-map s.above.items (λ p. (p.rows, p.heap))) ∙ ap length is.above ∙ length-drop (j + 1) ds ∙ omega (arith, len)

    pub all_deques : around (deques s.below.items) (worker_deque s.own) (deques s.above.items) ≡ ds
    all_deques = (λ i. around (is.below i) (own_deque s) (is.above i)) ∙ split_at ds j (own_deque s) is.own

    taken_length : length (station_taken s) ≡ n
    taken_length =
        let b : length (takens s.below.items) ≡ length s.below.items = length-map s.below.items _ in
        let a : length (takens s.above.items) ≡ length s.above.items = length-map s.above.items _ in
        omega (
          arith,
          length-append (takens s.below.items) ((worker_view s.own).taken ∷ takens s.above.items),
          b,
          a,
          below_length,
          above_length,
          is.number,
          lt,
        )

    module _ (case : PlainProblem) (roots : List Cell) (problem : Problem) (kept : List Cell) (leaves : List Leaf) (share : ShareSeen) (no_kept : kept ≡ []) (no_leaves : leaves ≡ []) (unused : IsUnused s) where
      abbrev seen : HandSeen
      seen = hand_seen s.number problem (deques s.below.items) (worker_deque s.own) (deques s.above.items) (takens s.below.items) (worker_view s.own)
          (takens s.above.items) kept leaves share 0 0

      pub seated_accounts : AreRoots case roots → (worker_view s.own).opening ≡ roots_dealt roots n j →
          share.count ≡ fresh share.count.opening share.count.roots → Accounts case roots n seen
      seated_accounts are opening new =
          let pushed : length (worker_view s.own).pushed ≡ 0 = ap length unused.pushed in
          let firsts : share.count.firsts ≡ 0 = ap (λ (c : Count). c.firsts) new in
          let closes : share.count.closes ≡ 0 = ap (λ (c : Count). c.closes) new in
          let k : length kept ≡ 0 = ap length no_kept in
          let l : length leaves ≡ 0 = ap length no_leaves in
          record {
            roots_are = are;
            number = omega (arith, is.number, lt);
            deques = ap length all_deques ∙ len;
            passes = taken_length;
            opening = opening ∙ ap (λ (i : ℕ). roots_dealt roots n i) (sym is.number);
            balanced = λ w shared.
                let taken = empty_weighs w (station_taken s) unused.taken in
                let none : weigh w (worker_view s.own).pushed ≡ 0 = ap (weigh w) unused.pushed in
                let kept_none : weigh w kept ≡ 0 = ap (weigh w) no_kept in
                let closed_none : weigh w (cells_of leaves) ≡ 0 = ap (λ ls. weigh w (cells_of ls)) no_leaves in
                omega (arith, taken, none, kept_none, closed_none);
            tree = λ i d less. absurd (omega (arith, k, less));
            leaves = λ i d less. absurd (omega (arith, l, less));
            closes = omega (arith, closes, l);
            splits = omega (arith, firsts, empty_lengths (station_taken s) unused.taken, pushed, k, l);
            pushes = omega (arith, pushed);
            narrow = subst (Narrow 26) (sym no_kept) tt;
          }

      pub seated_unstarted : IsUnstarted seen
      seated_unstarted = record { closed = no_leaves; pushed = unused.pushed; kept = no_kept; taken = unused.taken; wants = refl }

  -- ---- the last station that has no hand yet

  pub record IsSeat (n : ℕ) (roots : List Cell) (all : List (Station K)) (shares : List ShareSeen) (k : ℕ) (rest : List (Station K)) (left : List ShareSeen) (s : Station K) (share : ShareSeen) : Type 0 where
    pub below : k < n
    pub rest_is : rest ≡ take k all
    pub left_is : left ≡ take k shares
    pub station : IsStation n (own_deques all) k s
    pub unused : IsUnused s
    pub opening : (worker_view s.own).opening ≡ roots_dealt roots n k
    pub new : share.count ≡ fresh share.count.opening share.count.roots
    pub share_is : share ≡ get_or shares k share

  pub seat_of : (n : ℕ) (roots : List Cell) (all : List (Station K)) (shares : List ShareSeen) (now rest : List (Station K))
      (now_shares left : List ShareSeen) (s : Station K) (share : ShareSeen) →
      AreStations n all → length all ≡ n → length shares ≡ n → All IsUnused all → AreDealt roots all → All
      (λ (x : ShareSeen). x.count ≡ fresh x.count.opening x.count.roots) shares →
      now ≡ take (length now) all → now_shares ≡ take (length now_shares) shares → length now_shares ≡ length now → length now ≤ n → now ≡ rest ++ s
      ∷ [] → now_shares ≡ left ++ share ∷ [] →
      IsSeat n roots all shares (length rest) rest left s share
  seat_of n roots all shares now rest now_shares left s share are len len' unused dealt new of of' same few is is' =
      let k = length rest in
      let count : length now ≡ k + 1 = ap length is ∙ length-append rest (s ∷ []) in
      let below : k < n = omega (arith, count, few) in
      let one = popped all rest k s (ap (λ (m : ℕ). take m all) (sym count) ∙ sym of ∙ is) (omega (arith, below, len)) in
      let two = popped shares left k share (ap (λ (m : ℕ). take m shares) (sym (same ∙ count)) ∙ sym of' ∙ is') (omega (arith, below, len')) in
      let here : k < length all = omega (arith, below, len) in
      record {
        below = below;
        rest_is = one.0;
        left_is = two.0;
        station = subst (IsStation n (own_deques all) k) (sym one.1) (are k s here);
        unused = subst IsUnused (sym one.1) (unused k s here);
        opening = ap (λ (x : Station K). (worker_view x.own).opening) one.1 ∙ dealt k s here ∙ ap (λ (m : ℕ). roots_dealt roots m k) len;
        new = subst (λ (x : ShareSeen). x.count ≡ fresh x.count.opening x.count.roots) (sym two.1) (new k share (omega (arith, below, len')));
        share_is = two.1;
      }
