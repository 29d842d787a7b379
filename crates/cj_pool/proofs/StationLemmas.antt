-- Stations as they get passes to each other.
use Rattle.std.proofs.Common.{◌≡◌, ◌≢◌, ℕ, zero, suc, ◌+◌, ◌<◌, ◌≤◌, List, [], ◌∷◌, ◌++◌, length, take, set, get_or, refl, sym, ap, ◌∙◌, subst, inl, inr, arith, append_assoc, append-nil, length-append}
use Rattle.std.specs.Prelude.{All, Some, slice_get}
use Rattle.std.specs.declared.alloc.Global.{Global}
use Rattle.std.proofs.lemmas.List.{length-map, length-set, map_push, get_or-set_same, get_or-set_other, get_or_append_left, get_or_push, take-append-le, take_at, drop-append-le, drop_all}
use Rattle.std.proofs.lemmas.List.Elements.{All-push, All-set, All-same}
use Rattle.std.proofs.lemmas.Bool.{cases_eq, cases_lt}
use Rattle.atomic_blocks.specs.Lent.{RowsId}
use Rattle.crossbeam_deque.specs.Handles.{Pass, view, worker_flavor, worker_view, IsPassOf}
use Rattle.cj_pool.specs.declared.account.Account.{Account}
use Rattle.cj_pool.specs.declared.station.Station.{Station}
use Rattle.cj_pool.specs.Accounts.{whole, new_pass}
use Rattle.cj_pool.specs.Passes.{deques, takens, around, AreReady, IsReady}
use Rattle.cj_pool.specs.Stations.{GaveAPart, own_deque, own_deques, station_taken, IsStation, AreStations, IsUnused, IsUnopened}
use Rattle.cj_pool.proofs.PassLemmas.{map_set_same}

-- ---- places of lists

module _ {X : Type 0} where
  pub get_left : (xs ys : List X) (i : ℕ) (x : X) → slice_get xs i ≡ Some x → slice_get (xs ++ ys) i ≡ Some x
  get_left [] ys i x is = absurd cc
  get_left (z ∷ zs) ys zero x is = is
  get_left (z ∷ zs) ys (suc i) x is = get_left zs ys i x is

  pub get_end : (xs : List X) (x : X) → slice_get (xs ++ x ∷ []) (length xs) ≡ Some x
  get_end [] x = refl
  get_end (z ∷ zs) x = get_end zs x

  pub take_one_more : (xs : List X) (i : ℕ) (x : X) → slice_get xs i ≡ Some x → take (i + 1) xs ≡ take i xs ++ x ∷ []
  take_one_more [] i x is = absurd cc
  take_one_more (z ∷ zs) zero x is = let same : z ≡ x = cc in ap (λ (y : X). y ∷ []) same
  take_one_more (z ∷ zs) (suc i) x is = let n : suc i + 1 ≡ suc (i + 1) = omega arith in rw n (ap (λ ys. z ∷ ys) (take_one_more zs i x is))

  pub got : (xs : List X) (i : ℕ) (d : X) → i < length xs → slice_get xs i ≡ Some (get_or xs i d)
  got [] i d lt = absurd (omega arith)
  got (z ∷ zs) zero d lt = refl
  got (z ∷ zs) (suc i) d lt = got zs i d (omega arith)

  -- an item of a list with one more
  pub at_push : (P : ℕ → X → Type 0) (xs : List X) (x : X) → ((j : ℕ) (d : X) → j < length xs → P j (get_or xs j d)) → P (length xs) x →
      (j : ℕ) (d : X) → j < length (xs ++ x ∷ []) → P j (get_or (xs ++ x ∷ []) j d)
  at_push P xs x old new j d lt = elim (cases_lt j (length xs)) [
    | inl lt' ↦ subst (P j) (sym (get_or_append_left xs (x ∷ []) d j lt')) (old j d lt')
    | inr ge ↦
        let e : length xs ≡ j = omega (arith, length-append xs (x ∷ [])) in
        subst (P j) (sym (get_or_push xs x d j e)) (subst (λ (k : ℕ). P k x) e new)
  ]

-- a list of passes with one more
pub around_push : {X : Type 0} (below : List X) (own : X) (above : List X) (x : X) →
    around below own (above ++ x ∷ []) ≡ around below own above ++ x ∷ []
around_push below own above x = sym (append_assoc below (own ∷ above) (x ∷ []))

-- ---- one pass more

module _ {T A : Type 0} where
  pub deques_more : (old new : List (Pass T Account A)) (p : Pass T Account A) (d : RowsId × A) → new ≡ old ++ p ∷ [] → IsPassOf d p →
      deques new ≡ deques old ++ d ∷ []
  deques_more old new p d is of =
      let same : (p.rows, p.heap) ≡ d = λ i. (of.0 i, of.1 i) in
      ap deques is ∙ map_push (λ (q : Pass T Account A). (q.rows, q.heap)) old p ∙ ap (λ (x : RowsId × A). deques old ++ x ∷ []) same

  pub ready_more : (old new : List (Pass T Account A)) (p : Pass T Account A) (d : RowsId × A) (v : Account) → new ≡ old ++ p ∷ [] → AreReady old →
      IsPassOf d p → view p ≡ new_pass v → AreReady new
  ready_more old new p d v is ready of view_is =
      let mine : IsReady p = record {
        parts = ap (λ (a : Account). a.parts) view_is;
        opening = ap (λ (a : Account). a.opening) view_is;
        pushed = ap (λ (a : Account). a.pushed) view_is;
        hand = of.2;
        spare = of.3;
      } in
      subst AreReady (sym is) (All-push IsReady old p ready mine)

-- ---- one station more

module _ {K : Type 0} where
  own_length : (ss : List (Station K)) → length (own_deques ss) ≡ length ss
  own_length ss = length-map ss own_deque

  pub own_push : (ss : List (Station K)) (s : Station K) → own_deques (ss ++ s ∷ []) ≡ own_deques ss ++ own_deque s ∷ []
  own_push ss s = map_push own_deque ss s

  -- a station that got a pass to the next one's deque
  pub earlier_step : (n i : ℕ) (ds : List (RowsId × Global)) (next : RowsId × Global) (old new : Station K) → IsStation n ds i old → i < length ds →
      length ds < n →
      new.number ≡ old.number → new.below ≡ old.below → GaveAPart old.own new.own → deques new.above.items ≡ deques old.above.items ++ next ∷ []
      → AreReady new.above.items → IsStation n (ds ++ next ∷ []) i new
  earlier_step n i ds next old new is lt few number below gave above ready = record {
    number = number ∙ is.number;
    own = get_left ds (next ∷ []) i (own_deque new) (is.own ∙ ap (λ (d : RowsId × Global). Some d) (sym gave.0.0));
    flavor = gave.0.1 ∙ is.flavor;
    all = ap (λ (v : Account). v.all) gave.1 ∙ is.all;
    parts = (let p = ap (λ (v : Account). v.parts) gave.1 in omega (arith, p, is.parts, length-append ds (next ∷ [])));
    below = ap (λ v. deques v.items) below ∙ is.below ∙ sym (take-append-le i ds (next ∷ []) (omega arith));
    above = above ∙ ap (λ (xs : List (RowsId × Global)). xs ++ next ∷ []) is.above ∙ sym (drop-append-le (i + 1) ds (next ∷ []) (omega arith));
    ready_below = subst (λ v. AreReady v.items) (sym below) is.ready_below;
    ready_above = ready;
  }

  -- it did nothing yet
  pub earlier_unused : (old new : Station K) → IsUnused old → new.below ≡ old.below → GaveAPart old.own new.own →
      takens new.above.items ≡ takens old.above.items ++ [] ∷ [] → IsUnused new
  earlier_unused old new is below gave above = record {
    pushed = ap (λ (v : Account). v.pushed) gave.1 ∙ is.pushed;
    taken = All-same (λ cells. cells ≡ []) (station_taken new) (station_taken old ++ [] ∷ [])
        ((λ i. around (takens (below i).items) (gave.1 i).taken (above i)) ∙ around_push (takens old.below.items) (worker_view old.own).taken
        (takens old.above.items) [])
        (All-push (λ cells. cells ≡ []) (station_taken old) [] is.taken refl);
  }

  -- the next station, which has passes to the first i of these deques, and is to have the number k
  pub record IsNext (n i k : ℕ) (ds : List (RowsId × Global)) (s : Station K) : Type 0 where
    pub number : s.number ≡ k
    pub flavor : worker_flavor s.own ≡ 0
    pub all : (worker_view s.own).all ≡ n
    pub parts : (worker_view s.own).parts + i ≡ n
    pub below : deques s.below.items ≡ take i ds
    pub above : s.above.items ≡ []
    pub ready : AreReady s.below.items
    pub opening : (worker_view s.own).opening ≡ []
    pub pushed : (worker_view s.own).pushed ≡ []
    pub taken : (worker_view s.own).taken ≡ []
    pub taken_below : All (λ cells. cells ≡ []) (takens s.below.items)

  pub next_begins : (n k : ℕ) (ds : List (RowsId × Global)) (s : Station K) → s.number ≡ k → worker_view s.own ≡ whole n → worker_flavor s.own ≡ 0 →
      s.below.items ≡ [] → s.above.items ≡ [] → IsNext n 0 k ds s
  next_begins n k ds s number view flavor below above = record {
    number = number;
    flavor = flavor;
    all = ap (λ (v : Account). v.all) view;
    parts = (let p = ap (λ (v : Account). v.parts) view in omega (arith, p));
    below = ap deques below;
    above = above;
    ready = λ j d lt. absurd (let e = ap length below in omega (arith, e));
    opening = ap (λ (v : Account). v.opening) view;
    pushed = ap (λ (v : Account). v.pushed) view;
    taken = ap (λ (v : Account). v.taken) view;
    taken_below = λ j d lt. absurd (let e = ap (λ ps. length (takens ps)) below in omega (arith, e));
  }

  pub next_step : (n i k : ℕ) (ds : List (RowsId × Global)) (d : RowsId × Global) (old new : Station K) → IsNext n i k ds old →
      slice_get ds i ≡ Some d → i < n →
      new.number ≡ old.number → new.above ≡ old.above → GaveAPart old.own new.own → deques new.below.items ≡ deques old.below.items ++ d ∷ []
      → AreReady new.below.items → takens new.below.items ≡ takens old.below.items ++ [] ∷ []
      → IsNext n (i + 1) k ds new
  next_step n i k ds d old new is at lt number above gave below ready taken = record {
    number = number ∙ is.number;
    flavor = gave.0.1 ∙ is.flavor;
    all = ap (λ (v : Account). v.all) gave.1 ∙ is.all;
    parts = (let p = ap (λ (v : Account). v.parts) gave.1 in omega (arith, p, is.parts));
    below = below ∙ ap (λ (xs : List (RowsId × Global)). xs ++ d ∷ []) is.below ∙ sym (take_one_more ds i d at);
    above = ap (λ v. v.items) above ∙ is.above;
    ready = ready;
    opening = ap (λ (v : Account). v.opening) gave.1 ∙ is.opening;
    pushed = ap (λ (v : Account). v.pushed) gave.1 ∙ is.pushed;
    taken = ap (λ (v : Account). v.taken) gave.1 ∙ is.taken;
    taken_below = All-same (λ cells. cells ≡ []) (takens new.below.items) (takens old.below.items ++ [] ∷ []) taken
        (All-push (λ cells. cells ≡ []) (takens old.below.items) [] is.taken_below refl);
  }

  next_station : (n : ℕ) (ds : List (RowsId × Global)) (s : Station K) → IsNext n (length ds) (length ds) ds s →
      IsStation n (ds ++ own_deque s ∷ []) (length ds) s
  next_station n ds s is = record {
    number = is.number;
    own = get_end ds (own_deque s);
    flavor = is.flavor;
    all = is.all;
    parts = omega (arith, is.parts, length-append ds (own_deque s ∷ []));
    below = is.below ∙ take_whole ∙ sym (take_at ds (own_deque s ∷ []) (length ds) refl);
    above = ap deques is.above ∙ sym (drop_all (length ds + 1) (ds ++ own_deque s ∷ []) (omega (arith, length-append ds (own_deque s ∷ []))));
    ready_below = is.ready;
    ready_above = λ j d lt. absurd (let e = ap length is.above in omega (arith, e));
  }
    where
      take_whole : take (length ds) ds ≡ ds
      take_whole = ap (take (length ds)) (sym (append-nil ds)) ∙ take_at ds [] (length ds) refl

  next_unused : (n i k : ℕ) (ds : List (RowsId × Global)) (s : Station K) → IsNext n i k ds s → IsUnused s
  next_unused n i k ds s is = record {
    pushed = is.pushed;
    taken = All-same (λ cells. cells ≡ []) (station_taken s) (takens s.below.items ++ [] ∷ [])
        (λ j. around (takens s.below.items) (is.taken j) (takens (is.above j)))
        (All-push (λ cells. cells ≡ []) (takens s.below.items) [] is.taken_below refl);
  }

  -- ---- all stations

  -- those before the place i have a pass to the next deque, and those from i on not yet
  pub record AreGrown (n i : ℕ) (start ss : List (Station K)) (next : Station K) : Type 0 where
    pub deques : own_deques ss ≡ own_deques start
    pub before : (j : ℕ) (d : Station K) → j < i → IsStation n (own_deques start ++ own_deque next ∷ []) j (get_or ss j d)
    pub after : (j : ℕ) (d : Station K) → i ≤ j → j < length ss → IsStation n (own_deques start) j (get_or ss j d)
    pub coming : IsNext n i (length start) (own_deques start) next
    pub unused : All IsUnused start → All IsUnused ss
    pub unopened : All IsUnopened start → All IsUnopened ss

  pub grown_begins : (n : ℕ) (ss : List (Station K)) (next : Station K) → AreStations n ss → IsNext n 0 (length ss) (own_deques ss) next →
      AreGrown n 0 ss ss next
  grown_begins n ss next are is = record {
    deques = refl;
    before = λ j d lt. absurd (omega arith);
    after = λ j d le lt. are j d lt;
    coming = is;
    unused = λ u. u;
    unopened = λ u. u;
  }

  -- what a swap of passes does to both
  pub record Swapped (old new next next' : Station K) : Type 0 where
    pub number : new.number ≡ old.number
    pub next_number : next'.number ≡ next.number
    pub below : new.below ≡ old.below
    pub above : next'.above ≡ next.above
    pub gave : GaveAPart old.own new.own
    pub next_gave : GaveAPart next.own next'.own
    pub to_next : deques new.above.items ≡ deques old.above.items ++ own_deque next ∷ []
    pub ready : AreReady old.above.items → AreReady new.above.items
    pub to_earlier : deques next'.below.items ≡ deques next.below.items ++ own_deque old ∷ []
    pub next_ready : AreReady next.below.items → AreReady next'.below.items
    pub taken : takens new.above.items ≡ takens old.above.items ++ [] ∷ []
    pub next_taken : takens next'.below.items ≡ takens next.below.items ++ [] ∷ []

  pub grown_step : (n i : ℕ) (start ss : List (Station K)) (next next' old new : Station K) → AreGrown n i start ss next → length start < n →
      i < length ss → old ≡ get_or ss i old → Swapped old new next next' →
      AreGrown n (i + 1) start (set ss i new) next'
  grown_step n i start ss next next' old new are few lt is swap =
      let ds = own_deques start in
      let len : length ds ≡ length ss = sym (ap length are.deques) ∙ own_length ss in
      let lens : length ds ≡ length start = own_length start in
      let here : IsStation n ds i old = subst (IsStation n ds i) (sym is) (are.after i old (omega arith) lt) in
      let same : own_deque next' ≡ own_deque next = swap.next_gave.0.0 in
      let mine : IsStation n (ds ++ own_deque next ∷ []) i new =
      earlier_step n i ds (own_deque next) old new here (omega (arith, len, lt)) (omega (arith, lens, few)) swap.number swap.below swap.gave
      swap.to_next (swap.ready here.ready_above) in
      record {
        deques = map_set_same own_deque ss i old new lt is swap.gave.0.0 ∙ are.deques;
        before = λ j d before. elim (cases_eq j i) [
          | inl e ↦ subst (λ (k : ℕ). IsStation n (ds ++ own_deque next' ∷ []) k (get_or (set ss i new) k d)) (sym e)
              (subst (λ (x : RowsId × Global). IsStation n (ds ++ x ∷ []) i (get_or (set ss i new) i d)) (sym same)
              (subst (IsStation n (ds ++ own_deque next ∷ []) i) (sym (get_or-set_same ss i new d lt)) mine))
          | inr ne ↦ subst (λ (x : RowsId × Global). IsStation n (ds ++ x ∷ []) j (get_or (set ss i new) j d)) (sym same)
              (subst (IsStation n (ds ++ own_deque next ∷ []) j) (sym (get_or-set_other ss i j new d ne)) (are.before j d (omega arith)))
        ];
        after = λ j d le lt'.
            let ne : j ≢ i = omega arith in
            subst (IsStation n ds j) (sym (get_or-set_other ss i j new d ne)) (are.after j d (omega arith) (omega (arith, lt', length-set ss i new)));
        coming = next_step n i (length start) ds (own_deque old) next next' are.coming here.own (omega (arith, len, lens, lt, few)) swap.next_number
            swap.above swap.next_gave swap.to_earlier (swap.next_ready are.coming.ready) swap.next_taken;
        unused = λ u.
            let all = are.unused u in
            All-set IsUnused ss i new (earlier_unused old new (subst IsUnused (sym is) (all i old lt)) swap.below swap.gave swap.taken) all;
        unopened = λ u.
            let all = are.unopened u in
            let before : IsUnopened old = subst IsUnopened (sym is) (all i old lt) in
            All-set IsUnopened ss i new (ap (λ (v : Account). v.opening) swap.gave.1 ∙ before) all;
      }

  pub grown_stations : (n i : ℕ) (start ss : List (Station K)) (next : Station K) → AreGrown n i start ss next → i ≡ length ss →
      AreStations n (ss ++ next ∷ [])
  grown_stations n i start ss next are all =
      let ds = own_deques start in
      let len : length ss ≡ length ds = sym (own_length ss) ∙ ap length are.deques in
      let lens : length start ≡ length ds = sym (own_length start) in
      let all_deques : own_deques (ss ++ next ∷ []) ≡ ds ++ own_deque next ∷ [] = own_push ss next ∙ ap
      (λ (xs : List (RowsId × Global)). xs ++ own_deque next ∷ []) are.deques in
      let last : IsStation n (ds ++ own_deque next ∷ []) (length ss) next =
      subst (λ (k : ℕ). IsStation n (ds ++ own_deque next ∷ []) k next) (sym len)
      (next_station n ds next (subst (λ (k : ℕ). IsNext n k (length ds) ds next) (all ∙ len)
      (subst (λ (k : ℕ). IsNext n i k ds next) lens are.coming))) in
      subst (λ (xs : List (RowsId × Global)). (j : ℕ) (d : Station K) → j < length (ss ++ next ∷ []) → IsStation n xs j
      (get_or (ss ++ next ∷ []) j d)) (sym all_deques)
      (at_push (IsStation n (ds ++ own_deque next ∷ [])) ss next (λ j d lt. are.before j d (omega (arith, all, lt))) last)

  pub grown_unused : (n i : ℕ) (start ss : List (Station K)) (next : Station K) → AreGrown n i start ss next → All IsUnused start →
      All IsUnused (ss ++ next ∷ [])
  grown_unused n i start ss next are u = All-push IsUnused ss next (are.unused u) (next_unused n i (length start) (own_deques start) next are.coming)

  pub grown_unopened : (n i : ℕ) (start ss : List (Station K)) (next : Station K) → AreGrown n i start ss next → All IsUnopened start →
      All IsUnopened (ss ++ next ∷ [])
  grown_unopened n i start ss next are u = All-push IsUnopened ss next (are.unopened u) are.coming.opening
