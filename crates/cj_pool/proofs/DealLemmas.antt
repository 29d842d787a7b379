-- Roots on deques.
use Rattle.std.proofs.Common.{◌≡◌, ◌≢◌, ℕ, zero, suc, ◌+◌, ◌%◌, ◌<◌, ◌≤◌, Bool, true, false, cond, List, [], ◌∷◌, ◌++◌, length, map, take, get_or, refl, sym, ap, ◌∙◌, subst, inl, inr, append-nil, arith}
use Rattle.std.specs.Prelude.{All, IfOk, Ok, Result, Some, filter, nat_eq, slice_get}
use Rattle.std.specs.List.{range_with_len}
use Rattle.std.specs.declared.alloc.Global.{Global}
use Rattle.std.proofs.lemmas.List.{get_or-map, length-map}
use Rattle.std.proofs.lemmas.List.FromFn.{get_or-range_with_len}
use Rattle.std.proofs.lemmas.List.Elements.{filter_more}
use Rattle.std.proofs.Math.Nat.{mod-lt}
use Rattle.std.proofs.lemmas.Bool.{cases_eq}
use Rattle.std.proofs.lemmas.Bool.Decides.{nat_tests}
use Rattle.atomic_blocks.specs.Lent.{RowsId}
use Rattle.crossbeam_deque.specs.Handles.{worker_view}
use Rattle.cj_case.specs.PlainProblems.{PlainProblem}
use Rattle.cj_case.specs.declared.cell.Cell.{Cell}
use Rattle.cj_bezier.specs.Halving.{whole}
use Rattle.cj_cells.specs.Cells.{root_numbers}
use Rattle.cj_pool.specs.declared.station.Station.{Station}
use Rattle.cj_pool.specs.Hands.{roots_dealt}
use Rattle.cj_pool.specs.Passes.{deques}
use Rattle.cj_pool.specs.Stations.{own_deques, IsStation, AreStations, IsUnused, IsLike, AreDealt}
use Rattle.cj_pool.specs.Tree.{InTree}
use Rattle.cj_pool.specs.Weights.{weigh}
use Rattle.cj_pool.proofs.StationLemmas.{got}

-- ---- a root's number is its place

pub numbered_at : (roots : List Cell) (i : ℕ) (c : Cell) → root_numbers roots ≡ range_with_len 0 (length roots) → i < length roots →
    c ≡ get_or roots i c → c.root ≡ i
numbered_at roots i c numbered lt is =
    ap (λ (x : Cell). x.root) is ∙ sym (get_or-map (λ (x : Cell). x.root) roots i c 0 lt) ∙ ap (λ ks. get_or ks i 0) numbered ∙ get_or-range_with_len
    0 (length roots) i 0 lt ∙ omega arith

same_test : (a b : ℕ) → a ≡ b → nat_eq a b ≡ true
same_test a b e = grind (arith, nat_tests)

other_test : (a b : ℕ) → a ≢ b → nat_eq a b ≡ false
other_test a b ne = grind (arith, nat_tests)

-- ---- the roots that a station has so far

module _ (roots : List Cell) (n j i : ℕ) (c : Cell) (before : List Cell) where
  -- this root is the station's, or another's
  dealt_next : i < length roots → c ≡ get_or roots i c → before ≡ roots_dealt (take i roots) n j →
      before ++ cond (nat_eq (c.root % n) j) (c ∷ []) [] ≡ roots_dealt (take (i + 1) roots) n j
  dealt_next lt is was =
      ap (λ (cells : List Cell). cells ++ cond (nat_eq (c.root % n) j) (c ∷ []) []) was
      ∙ ap (λ (x : Cell). roots_dealt (take i roots) n j ++ cond (nat_eq (x.root % n) j) (x ∷ []) []) is
      ∙ sym (filter_more (λ (x : Cell). nat_eq (x.root % n) j) roots i c lt)

  pub dealt_more : (after : List Cell) → i < length roots → c ≡ get_or roots i c → c.root % n ≡ j → before ≡ roots_dealt (take i roots) n j →
      after ≡ before ++ c ∷ [] → after ≡ roots_dealt (take (i + 1) roots) n j
  dealt_more after lt is own was pushed =
      pushed ∙ ap (λ (b : Bool). before ++ cond b (c ∷ []) []) (sym (same_test (c.root % n) j own)) ∙ dealt_next lt is was

  pub dealt_same : i < length roots → c ≡ get_or roots i c → c.root % n ≢ j → before ≡ roots_dealt (take i roots) n j →
      before ≡ roots_dealt (take (i + 1) roots) n j
  dealt_same lt is other was =
      sym (append-nil before) ∙ ap (λ (b : Bool). before ++ cond b (c ∷ []) []) (sym (other_test (c.root % n) j other)) ∙ dealt_next lt is was

-- ---- a root is in its own tree

pub root_tree : (case : PlainProblem) (roots : List Cell) (i : ℕ) (c : Cell) → root_numbers roots ≡ range_with_len 0 (length roots) →
    i < length roots → c ≡ get_or roots i c → InTree case roots c
root_tree case roots i c numbered lt is =
    let at : c.root ≡ i = numbered_at roots i c numbered lt is in
    record {
      root = c;
      at = ap (λ (n : ℕ). slice_get roots n) at ∙ got roots i c lt ∙ ap (λ (x : Cell). Some x) (sym is);
      pair = refl;
      tree = whole;
    }

-- ---- a station whose worker changed

module _ {K : Type 0} where
  like_station : (n j : ℕ) (ds : List (RowsId × Global)) (old new : Station K) → IsStation n ds j old → IsLike old new → IsStation n ds j new
  like_station n j ds old new is like = record {
    number = like.number ∙ is.number;
    own = is.own ∙ ap (λ (d : RowsId × Global). Some d) (sym like.same.0);
    flavor = like.same.1 ∙ is.flavor;
    all = like.all ∙ is.all;
    parts = (let p = like.parts in omega (arith, p, is.parts));
    below = ap (λ v. deques v.items) like.below ∙ is.below;
    above = ap (λ v. deques v.items) like.above ∙ is.above;
    ready_below = rw (like.below) is.ready_below;
    ready_above = rw (like.above) is.ready_above;
  }

  -- one opening after another
  pub like_after : (old mid new : Station K) → IsLike old mid → IsLike mid new → IsLike old new
  like_after old mid new first then = record {
    number = then.number ∙ first.number;
    below = then.below ∙ first.below;
    above = then.above ∙ first.above;
    same = (
        let more = first.same.3 in
        let more' = then.same.3 in
        (then.same.0 ∙ first.same.0, then.same.1 ∙ first.same.1, then.same.2 ∙ first.same.2, omega (arith, more, more'))
        );
    parts = then.parts ∙ first.parts;
    all = then.all ∙ first.all;
    pushed = then.pushed ∙ first.pushed;
    taken = then.taken ∙ first.taken;
  }

  like_unused : (old new : Station K) → IsUnused old → IsLike old new → IsUnused new
  like_unused old new is like = record {
    pushed = like.pushed ∙ is.pushed;
    taken = rw (like.below, like.taken, like.above) is.taken;
  }

-- ---- stations that got their roots

module _ {K : Type 0} where
  -- each station got its own of these roots, of so many stations
  pub record AreServed (roots : List Cell) (n : ℕ) (old new : List (Station K)) : Type 0 where
    pub len : length new ≡ length old
    pub like : (i : ℕ) (d e : Station K) → i < length old → IsLike (get_or old i e) (get_or new i d)
    pub dealt : (i : ℕ) (d e : Station K) → i < length old → (worker_view (get_or new i d).own).opening ≡ roots_dealt roots n (get_or old i e).number

  -- what threads gave back, where each of it is a station
  pub all_served : {E : Type 0} (roots : List Cell) (n : ℕ) (old new : List (Station K)) (served : List (Result (Station K) E)) →
      map Ok new ≡ served → length served ≡ length old →
      ((i : ℕ) (d : Result (Station K) E) (e : Station K) → i < length old → IfOk (get_or served i d) (IsLike (get_or old i e))) →
      ((i : ℕ) (d : Result (Station K) E) (e : Station K) → i < length old →
      IfOk (get_or served i d) (λ s. (worker_view s.own).opening ≡ roots_dealt roots n (get_or old i e).number)) →
      AreServed roots n old new
  all_served {E} roots n old new served is long like dealt = record {
    len = len;
    like = λ i d e lt. subst (λ (r : Result (Station K) E). IfOk r (IsLike (get_or old i e))) (here i d lt) (like i (Ok d) e lt);
    dealt = λ i d e lt. subst
        (λ (r : Result (Station K) E). IfOk r (λ s. (worker_view s.own).opening ≡ roots_dealt roots n (get_or old i e).number)) (here i d lt) (dealt i (Ok d) e lt);
  }
    where
      given : Station K → Result (Station K) E
      given s = Ok s

      len : length new ≡ length old
      len = sym (length-map new given) ∙ ap length is ∙ long

      here : (i : ℕ) (d : Station K) → i < length old → get_or served i (Ok d) ≡ Ok (get_or new i d)
      here i d lt = ap (λ rs. get_or rs i (given d)) (sym is) ∙ get_or-map given new i d (given d) (omega (arith, lt, len))

  same_deques : (old new : List (Station K)) → length new ≡ length old →
      ((i : ℕ) (d e : Station K) → i < length old → IsLike (get_or old i e) (get_or new i d)) → own_deques new ≡ own_deques old
  same_deques [] [] len like = refl
  same_deques [] (t ∷ ts) len like = absurd (omega arith)
  same_deques (s ∷ ss) [] len like = absurd (omega arith)
  same_deques (s ∷ ss) (t ∷ ts) len like =
      let here = (like 0 t s (omega arith)).same.0 in
      let rest = same_deques ss ts (omega (arith, len)) (λ i d e lt. like (suc i) d e (omega (arith, lt))) in
      λ j. here j ∷ rest j

  module _ (roots : List Cell) (n : ℕ) (old new : List (Station K)) (served : AreServed roots n old new) where
    pub served_deques : own_deques new ≡ own_deques old
    served_deques = same_deques old new served.len served.like

    pub served_stations : (k : ℕ) → AreStations k old → AreStations k new
    served_stations k are j d lt =
        let lt' : j < length old = omega (arith, lt, served.len) in
        subst (λ ds. IsStation k ds j (get_or new j d)) (sym served_deques)
        (like_station k j (own_deques old) (get_or old j d) (get_or new j d) (are j d lt') (served.like j d d lt'))

    pub served_unused : All IsUnused old → All IsUnused new
    served_unused unused j d lt =
        let lt' : j < length old = omega (arith, lt, served.len) in
        like_unused (get_or old j d) (get_or new j d) (unused j d lt') (served.like j d d lt')

    pub served_dealt : (k : ℕ) → AreStations k old → length old ≡ n → AreDealt roots new
    served_dealt k are long j d lt =
        let lt' : j < length old = omega (arith, lt, served.len) in
        let all : n ≡ length new = omega (arith, long, served.len) in
        served.dealt j d d lt' ∙ (λ i. roots_dealt roots (all i) ((are j d lt').number i))

-- ---- the roots of all deques are the roots

-- one where two numbers are the same
abbrev one_if : ℕ → ℕ → ℕ → ℕ
one_if a b n = cond (nat_eq a b) n 0

filtered : (w : Cell → ℕ) (p : Cell → Bool) (xs : List Cell) → weigh w (filter p xs) ≡ weigh (λ x. cond (p x) (w x) 0) xs
filtered w p [] = refl
filtered w p (x ∷ xs) = go (p x) (filtered w p xs)
  where
    go : (b : Bool) → weigh w (filter p xs) ≡ weigh (λ y. cond (p y) (w y) 0) xs →
        weigh w (cond b (x ∷ filter p xs) (filter p xs)) ≡ cond b (w x) 0 + weigh (λ y. cond (p y) (w y) 0) xs
    go true e = ap (λ n. w x + n) e
    go false e = e ∙ omega arith

pub weigh_zero : {X : Type 0} (xs : List X) → weigh (λ (x : X). 0) xs ≡ 0
weigh_zero [] = refl
weigh_zero (x ∷ xs) = let rest = weigh_zero xs in omega arith

pub weigh_add : {X : Type 0} (f g : X → ℕ) (xs : List X) → weigh (λ x. f x + g x) xs ≡ weigh f xs + weigh g xs
weigh_add f g [] = refl
weigh_add f g (x ∷ xs) = let rest = weigh_add f g xs in omega arith

weigh_swap : {X Y : Type 0} (h : X → Y → ℕ) (xs : List X) (ys : List Y) → weigh (λ x. weigh (h x) ys) xs ≡ weigh (λ y. weigh (λ x. h x y) xs) ys
weigh_swap h [] ys = sym (weigh_zero ys)
weigh_swap h (x ∷ xs) ys = ap (λ n. weigh (h x) ys + n) (weigh_swap h xs ys) ∙ sym (weigh_add (h x) (λ y. weigh (λ z. h z y) xs) ys)

weigh_eq : {X : Type 0} (f g : X → ℕ) → ((x : X) → f x ≡ g x) → (xs : List X) → weigh f xs ≡ weigh g xs
weigh_eq f g e [] = refl
weigh_eq f g e (x ∷ xs) = let here = e x in let rest = weigh_eq f g e xs in omega arith

-- a number below others is not among them
none_here : (k n a w : ℕ) → k < a → weigh (λ j. one_if k j w) (range_with_len a n) ≡ 0
none_here k zero a w lt = refl
none_here k (suc n) a w lt =
    let here : cond {A = ℕ} (nat_eq k a) w 0 ≡ 0 = ap (λ b. cond {A = ℕ} b w 0) (other_test k a (λ e. absurd (omega arith))) in
    let rest = none_here k n (a + 1) w (omega arith) in omega arith

once_here : (k n a w : ℕ) → a ≤ k → k < a + n → weigh (λ j. one_if k j w) (range_with_len a n) ≡ w
once_here k zero a w le lt = absurd (omega arith)
once_here k (suc n) a w le lt = elim (cases_eq k a) [
  | inl e ↦
      let here : cond {A = ℕ} (nat_eq k a) w 0 ≡ w = ap (λ b. cond {A = ℕ} b w 0) (same_test k a e) in
      let rest = none_here k n (a + 1) w (omega (arith, e)) in omega arith
  | inr ne ↦
      let here : cond {A = ℕ} (nat_eq k a) w 0 ≡ 0 = ap (λ b. cond {A = ℕ} b w 0) (other_test k a ne) in
      let rest = once_here k n (a + 1) w (omega (arith, ne)) (omega arith) in omega arith
]

pub dealt_all : (n : ℕ) (w : Cell → ℕ) (roots : List Cell) → 0 < n → weigh (λ j. weigh w (roots_dealt roots n j)) (range_with_len 0 n) ≡ weigh w roots
dealt_all n w roots some =
    weigh_eq (λ j. weigh w (roots_dealt roots n j)) (λ j. weigh (λ c. one_if (c.root % n) j (w c)) roots)
    (λ j. filtered w (λ c. nat_eq (c.root % n) j) roots) (range_with_len 0 n)
    ∙ weigh_swap (λ j c. one_if (c.root % n) j (w c)) (range_with_len 0 n) roots
    ∙ weigh_eq (λ c. weigh (λ j. one_if (c.root % n) j (w c)) (range_with_len 0 n)) w
    (λ c. once_here (c.root % n) n 0 (w c) (omega arith) (omega (arith, mod-lt c.root some))) roots
