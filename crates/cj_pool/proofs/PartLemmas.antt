-- Stations as their passes are taken back.
use Rattle.std.proofs.Common.{◌≡◌, ◌≢◌, ℕ, zero, suc, ◌+◌, ◌-◌, ◌<◌, ◌≤◌, List, [], ◌∷◌, ◌++◌, length, take, drop, set, get_or, refl, sym, ap, ◌∙◌, subst, inl, inr, arith, append-nil, length-append}
use Rattle.std.specs.Prelude.{Some, slice_get}
use Rattle.std.specs.declared.alloc.Global.{Global}
use Rattle.std.proofs.lemmas.List.{length-map, length-set, map_push, get_or-set_same, get_or-set_other, get_or_append_left, get_or_push, take-append-le, take_at, drop-append-le, drop_all, length-take-le, same_from_push, nil_from_length}
use Rattle.std.proofs.lemmas.Bool.{cases_eq}
use Rattle.atomic_blocks.specs.Lent.{RowsId}
use Rattle.crossbeam_deque.specs.Handles.{Pass, view, worker_deque, worker_flavor, worker_view, IsPassOf}
use Rattle.cj_case.specs.declared.cell.Cell.{Cell}
use Rattle.cj_pool.specs.declared.account.Account.{Account}
use Rattle.cj_pool.specs.declared.station.Station.{Station}
use Rattle.cj_pool.specs.declared.work.Work.{Work}
use Rattle.cj_pool.specs.Accounts.{both, with_taken, Settled, Owns}
use Rattle.cj_pool.specs.Passes.{deques, takens, around, AreReady, IsReady}
use Rattle.cj_pool.specs.Stations.{IsPartUp, without_last, own_deque, own_deques, station_taken, IsStation, AreStations, weigh_given, weigh_all_taken}
use Rattle.cj_pool.specs.Weights.{weigh}
use Rattle.cj_pool.proofs.PassLemmas.{map_set_same}
use Rattle.cj_pool.proofs.StationLemmas.{own_push, take_one_more}
use Rattle.cj_pool.proofs.WeightLemmas.{weigh_append, weigh_snoc, weigh_one, weigh_none}

-- ---- lists

pub without_push : {X : Type 0} (xs : List X) (x : X) → without_last (xs ++ x ∷ []) ≡ xs
without_push xs x = let e : length (xs ++ x ∷ []) - 1 ≡ length xs = omega (arith, length-append xs (x ∷ [])) in rw e
    (take_at xs (x ∷ []) (length xs) refl)

pub weigh_around : {X : Type 0} (f : X → ℕ) (below : List X) (own : X) (above : List X) →
    weigh f (around below own above) ≡ weigh f below + f own + weigh f above
weigh_around f below own above = omega (arith, weigh_append f below (own ∷ above))

pub weigh_set_at : {X : Type 0} (f : X → ℕ) (xs : List X) (i : ℕ) (x y : X) → i < length xs → x ≡ get_or xs i x →
    weigh f (set xs i y) + f x ≡ weigh f xs + f y
weigh_set_at f [] i x y lt is = absurd (omega arith)
weigh_set_at f (z ∷ zs) zero x y lt is = let here : f x ≡ f z = ap f is in omega arith
weigh_set_at f (z ∷ zs) (suc i) x y lt is = let rest = weigh_set_at f zs i x y (omega arith) is in omega arith

-- ---- one pass back

pub part_up : (v p u : Account) → u ≡ both v p → p.parts ≡ 1 → p.opening ≡ [] → p.pushed ≡ [] →
    (u.parts ≡ v.parts + 1) × (u.all ≡ v.all) × (u.opening ≡ v.opening) × (u.pushed ≡ v.pushed) × (u.taken ≡ v.taken ++ p.taken)
part_up v p u is one opening pushed = (
  ap (λ (a : Account). a.parts) is ∙ ap (λ (k : ℕ). v.parts + k) one,
  ap (λ (a : Account). a.all) is,
  ap (λ (a : Account). a.opening) is ∙ ap (λ (xs : List Cell). v.opening ++ xs) opening ∙ append-nil v.opening,
  ap (λ (a : Account). a.pushed) is ∙ ap (λ (xs : List Cell). v.pushed ++ xs) pushed ∙ append-nil v.pushed,
  ap (λ (a : Account). a.taken) is,
)

-- the cells that two workers have taken, once each took a pass back
pub traded_taken : (w : Cell → ℕ) (below above above' : List (List Cell)) (v v' p u u' q : Account) → v' ≡ both v p → u' ≡ both u q →
    weigh (weigh w) above ≡ weigh (weigh w) above' + weigh w q.taken →
    weigh (weigh w) (around below v'.taken above') + weigh w u'.taken ≡ weigh (weigh w) (around below v.taken above) + weigh w u.taken + weigh w
    p.taken
traded_taken w below above above' v v' p u u' q is is' passes =
    let a = ap (λ (x : Account). weigh w x.taken) is in
    let b = ap (λ (x : Account). weigh w x.taken) is' in
    omega (
      arith,
      a,
      b,
      passes,
      weigh_append w v.taken p.taken,
      weigh_append w u.taken q.taken,
      weigh_around (weigh w) below v'.taken above',
      weigh_around (weigh w) below v.taken above,
    )

module _ {T A : Type 0} where
  abbrev of_pass : Pass T Account A → RowsId × A
  of_pass p = (p.rows, p.heap)

  -- the last of some passes, which are ready
  pub record IsLastPass (passes rest : List (Pass T Account A)) (p : Pass T Account A) : Type 0 where
    pub deque : (ds : List (RowsId × A)) (d : RowsId × A) → deques passes ≡ ds ++ d ∷ [] → (deques rest ≡ ds) × ((p.rows, p.heap) ≡ d)
    pub ready : IsReady p
    pub rest_ready : AreReady rest
    pub taken : (w : Cell → ℕ) → weigh (weigh w) (takens passes) ≡ weigh (weigh w) (takens rest) + weigh w (view {V = Account} p).taken

  pub last_pass : (passes rest : List (Pass T Account A)) (p : Pass T Account A) → passes ≡ rest ++ p ∷ [] → AreReady passes →
      IsLastPass passes rest p
  last_pass passes rest p is ready = record {
    deque = λ ds d e. same_from_push (deques rest) ds (of_pass p) d (sym (map_push of_pass rest p) ∙ ap deques (sym is) ∙ e);
    ready = last_ready;
    rest_ready = λ k d lt. subst IsReady (get_or_append_left rest (p ∷ []) d k lt) (all k d (omega (arith, length-append rest (p ∷ []))));
    taken = λ w. ap (λ (ps : List (Pass T Account A)). weigh (weigh w) (takens ps)) is ∙ ap (weigh (weigh w))
        (map_push (λ (q : Pass T Account A). (view {V = Account} q).taken) rest p) ∙ weigh_snoc (weigh w) (takens rest) (view {V = Account} p).taken;
  }
    where
      all : AreReady (rest ++ p ∷ [])
      all = subst AreReady is ready

      last_ready : IsReady p
      last_ready = subst IsReady (get_or_push rest p p (length rest) refl) (all (length rest) p (omega (arith, length-append rest (p ∷ []))))

  pub pass_of : (p : Pass T Account A) (d : RowsId × A) → IsReady p → (p.rows, p.heap) ≡ d → IsPassOf d p
  pass_of p d ready is = (ap (λ k. k.0) is, ap (λ k. k.1) is, ready.hand, ready.spare)

module _ {K : Type 0} where
  abbrev taken_of : (Cell → ℕ) → Station K → ℕ
  taken_of w s = weigh (weigh w) (station_taken s)

  abbrev pub given_of : (Cell → ℕ) → Station K → ℕ
  given_of w s = weigh w (worker_view s.own).opening + weigh w (worker_view s.own).pushed

  -- ---- the last station and the others, while it has passes to the first of them

  pub record ArePart (n : ℕ) (start : List (Station K)) (end : Station K) (ss : List (Station K)) (last : Station K) : Type 0 where
    pub deques_same : own_deques ss ≡ own_deques start
    pub few : length last.below.items ≤ length ss
    pub before : (i : ℕ) (d : Station K) → i < length last.below.items → IsStation n (own_deques start ++ own_deque end ∷ []) i (get_or ss i d)
    pub after : (i : ℕ) (d : Station K) → length last.below.items ≤ i → i < length ss → IsStation n (own_deques start) i (get_or ss i d)
    pub own : own_deque last ≡ own_deque end
    pub flavor : worker_flavor last.own ≡ 0
    pub all : (worker_view last.own).all ≡ n
    pub parts : (worker_view last.own).parts + length last.below.items ≡ n
    pub below : deques last.below.items ≡ take (length last.below.items) (own_deques start)
    pub ready : AreReady last.below.items
    pub above : last.above.items ≡ []
    pub opening : (worker_view last.own).opening ≡ (worker_view end.own).opening
    pub pushed : (worker_view last.own).pushed ≡ (worker_view end.own).pushed
    pub given : (w : Cell → ℕ) → weigh_given w ss ≡ weigh_given w start
    pub taken : (w : Cell → ℕ) → weigh_all_taken w ss + weigh (weigh w) (station_taken last) ≡ weigh_all_taken w (start ++ end ∷ [])

  own_length : (ss : List (Station K)) → length (own_deques ss) ≡ length ss
  own_length ss = length-map ss own_deque

  pub part_begins : (n : ℕ) (ss : List (Station K)) (last : Station K) → AreStations n (ss ++ last ∷ []) → ArePart n ss last ss last
  part_begins n ss last are =
      let ds = own_deques ss in
      let d = own_deque last in
      let k = length ss in
      let len : length ds ≡ k = own_length ss in
      let all_deques : own_deques (ss ++ last ∷ []) ≡ ds ++ d ∷ [] = own_push ss last in
      let at : (i : ℕ) (e : Station K) → i < k + 1 → IsStation n (ds ++ d ∷ []) i (get_or (ss ++ last ∷ []) i e) =
      λ i e lt. subst (λ (xs : List (RowsId × Global)). IsStation n xs i (get_or (ss ++ last ∷ []) i e)) all_deques
      (are i e (omega (arith, length-append ss (last ∷ [])))) in
      let mine : IsStation n (ds ++ d ∷ []) k last = subst (IsStation n (ds ++ d ∷ []) k) (get_or_push ss last last k refl) (at k last (omega arith))
      in
      let below_is : deques last.below.items ≡ take k ds = mine.below ∙ take-append-le k ds (d ∷ []) (omega (arith, len)) in
      let count : length last.below.items ≡ k = sym (length-map last.below.items _) ∙ ap length below_is ∙ length-take-le k ds (omega (arith, len)) in
      let none : length last.above.items ≡ 0 =
      sym (length-map last.above.items _) ∙ ap length (mine.above ∙ drop_all (k + 1) (ds ++ d ∷ []) (omega (arith, len, length-append ds (d ∷ []))))
      in
      record {
        deques_same = refl;
        few = omega (arith, count);
        before = λ i e lt. subst (IsStation n (ds ++ d ∷ []) i) (get_or_append_left ss (last ∷ []) e i (omega (arith, lt, count)))
            (at i e (omega (arith, lt, count)));
        after = λ i e le lt. absurd (omega (arith, le, lt, count));
        own = refl;
        flavor = mine.flavor;
        all = mine.all;
        parts = omega (arith, mine.parts, count, len, length-append ds (d ∷ []));
        below = below_is ∙ ap (λ (m : ℕ). take m ds) (sym count);
        ready = mine.ready_below;
        above = nil_from_length last.above.items none;
        opening = refl;
        pushed = refl;
        given = λ w. refl;
        taken = λ w. sym (weigh_snoc (taken_of w) ss last);
      }

  -- what a trade does, by a pass that took these cells
  pub record Traded (old new last last' : Station K) (cells : List Cell) : Type 0 where
    pub numbers : (new.number ≡ old.number) × (last'.number ≡ last.number)
    pub below : (new.below ≡ old.below) × (last'.below ≡ last.below)
    pub above : last'.above ≡ last.above
    pub parts : IsPartUp old.own new.own × IsPartUp last.own last'.own
    pub less : (deques new.above.items ≡ without_last (deques old.above.items)) × AreReady new.above.items
    pub taken : (w : Cell → ℕ) →
        weigh (weigh w) (station_taken new) + weigh w (worker_view last'.own).taken ≡ weigh (weigh w) (station_taken old) + weigh w
        (worker_view last.own).taken + weigh w cells

  -- the station at the place of the last pass
  module _ (n : ℕ) (start : List (Station K)) (end : Station K) (ss : List (Station K)) (last : Station K) (are : ArePart n start end ss last) (old : Station K) (i : ℕ) (count : length last.below.items ≡ i + 1) (is : old ≡ get_or ss i old) where
    pub at_station : IsStation n (own_deques start ++ own_deque end ∷ []) i old
    at_station = subst (IsStation n (own_deques start ++ own_deque end ∷ []) i) (sym is) (are.before i old (omega (arith, count)))

    lens : length (own_deques start) ≡ length ss
    lens = sym (ap length are.deques_same) ∙ own_length ss

    -- both own their deques
    pub part_parts : length start < n → Owns (worker_view old.own) × Owns (worker_view last.own)
    part_parts less =
        let here = at_station in
        let starts = own_length start in (
          (omega (arith, here.parts, starts, less, length-append (own_deques start) (own_deque end ∷ [])), omega (arith, here.all, less)),
          (omega (arith, are.parts, count, are.few, lens, starts, less), omega (arith, are.all, less)),
        )

    at_start : slice_get (own_deques start) i ≡ Some (own_deque old)
    at_start = let here = at_station in first (own_deques start) i (omega (arith, lens, are.few, count)) here.own
      where
        first : (xs : List (RowsId × Global)) (k : ℕ) → k < length xs → slice_get (xs ++ own_deque end ∷ []) k ≡ Some (own_deque old) →
            slice_get xs k ≡ Some (own_deque old)
        first [] k lt e = absurd (omega arith)
        first (x ∷ xs) zero lt e = e
        first (x ∷ xs) (suc k) lt e = first xs k (omega arith) e

    pub below_split : deques last.below.items ≡ take i (own_deques start) ++ own_deque old ∷ []
    below_split = are.below ∙ ap (λ (m : ℕ). take m (own_deques start)) count ∙ take_one_more (own_deques start) i (own_deque old) at_start

    above_split : deques old.above.items ≡ drop (i + 1) (own_deques start) ++ own_deque end ∷ []
    above_split = let here = at_station in here.above ∙ drop-append-le (i + 1) (own_deques start) (own_deque end ∷ [])
        (omega (arith, lens, are.few, count))

    above_less : without_last (deques old.above.items) ≡ drop (i + 1) (own_deques start)
    above_less = ap without_last above_split ∙ without_push (drop (i + 1) (own_deques start)) (own_deque end)

    pub above_last : deques old.above.items ≡ without_last (deques old.above.items) ++ own_deque last ∷ []
    above_last = above_split ∙ (λ j. sym above_less j ++ (sym are.own) j ∷ [])

    pub part_step : (new mid last' : Station K) (p : Pass (Work K) Account Global) → mid.own ≡ last.own → mid.above ≡ last.above →
        IsLastPass last.below.items mid.below.items p → length mid.below.items ≡ i →
        Traded old new mid last' (view {V = Account} p).taken → ArePart n start end (set ss i new) last'
    part_step new mid last' p own above pass now traded =
        let ds = own_deques start in
        let here = at_station in
        let lt : i < length ss = omega (arith, are.few, count) in
        let up = traded.parts.0 in
        let last_up = traded.parts.1 in
        let rest = (pass.deque (take i ds) (own_deque old) below_split).0 in
        let below' : last'.below.items ≡ mid.below.items = ap (λ v. v.items) traded.below.1 in
        let count' : length last'.below.items ≡ i = ap length below' ∙ now in
        let own_deq : own_deque last' ≡ own_deque end = last_up.same.0 ∙ ap worker_deque own ∙ are.own in
        let mine : IsStation n ds i new =
        record {
          number = traded.numbers.0 ∙ here.number;
          own = at_start ∙ ap (λ (d : RowsId × Global). Some d) (sym up.same.0);
          flavor = up.same.1 ∙ here.flavor;
          all = up.all ∙ here.all;
          parts = omega (arith, up.parts, here.parts, length-append ds (own_deque end ∷ []));
          below = ap (λ v. deques v.items) traded.below.0 ∙ here.below ∙ take-append-le i ds (own_deque end ∷ []) (omega (arith, lens, lt));
          above = traded.less.0 ∙ above_less;
          ready_below = subst (λ v. AreReady v.items) (sym traded.below.0) here.ready_below;
          ready_above = traded.less.1;
        } in
        record {
          deques_same = map_set_same own_deque ss i old new lt is up.same.0 ∙ are.deques_same;
          few = omega (arith, count', lt, length-set ss i new);
          before = λ j d before.
              let ne : j ≢ i = omega (arith, before, count') in
              subst (IsStation n (ds ++ own_deque end ∷ []) j) (sym (get_or-set_other ss i j new d ne))
              (are.before j d (omega (arith, before, count', count)));
          after = λ j d after lt'. elim (cases_eq j i) [
            | inl e ↦ subst (λ (k : ℕ). IsStation n ds k (get_or (set ss i new) k d)) (sym e)
                (subst (IsStation n ds i) (sym (get_or-set_same ss i new d lt)) mine)
            | inr ne ↦ subst (IsStation n ds j) (sym (get_or-set_other ss i j new d ne))
                (are.after j d (omega (arith, after, count', count, ne)) (omega (arith, lt', length-set ss i new)))
          ];
          own = own_deq;
          flavor = last_up.same.1 ∙ ap worker_flavor own ∙ are.flavor;
          all = last_up.all ∙ ap (λ (v : Account). v.all) (ap (λ o. worker_view {V = Account} o) own) ∙ are.all;
          parts = (let q = ap (λ (v : Account). v.parts) (ap (λ o. worker_view {V = Account} o) own) in omega
              (arith, last_up.parts, q, are.parts, count, count'));
          below = ap deques below' ∙ rest ∙ ap (λ (m : ℕ). take m ds) (sym count');
          ready = subst AreReady (sym below') pass.rest_ready;
          above = ap (λ v. v.items) traded.above ∙ ap (λ v. v.items) above ∙ are.above;
          opening = last_up.opening ∙ ap (λ (v : Account). v.opening) (ap (λ o. worker_view {V = Account} o) own) ∙ are.opening;
          pushed = last_up.pushed ∙ ap (λ (v : Account). v.pushed) (ap (λ o. worker_view {V = Account} o) own) ∙ are.pushed;
          given = λ w.
              let set = weigh_set_at (λ (s : Station K). weigh w (worker_view s.own).opening + weigh w (worker_view s.own).pushed) ss i old new lt is
              in
              let o = ap (weigh w) up.opening in
              let p = ap (weigh w) up.pushed in
              let all = are.given w in omega (arith, set, o, p, all);
          taken = λ w.
              let set = weigh_set_at (taken_of w) ss i old new lt is in
              let all = are.taken w in
              let t = traded.taken w in
              let q = pass.taken w in
              let mid_taken = ap (λ (v : Account). weigh w v.taken) (ap (λ o. worker_view {V = Account} o) own) in
              let none : weigh (weigh w) (takens last.above.items) ≡ 0 = ap (λ ps. weigh (weigh w) (takens ps)) are.above in
              let none' : weigh (weigh w) (takens last'.above.items) ≡ 0 = ap (λ v. weigh (weigh w) (takens v.items)) (traded.above ∙ above) ∙ none in
              let b = ap (λ ps. weigh (weigh w) (takens ps)) below' in
              let old_last = weigh_around (weigh w) (takens last.below.items) (worker_view last.own).taken (takens last.above.items) in
              let new_last = weigh_around (weigh w) (takens last'.below.items) (worker_view last'.own).taken (takens last'.above.items) in
              omega (arith, set, all, t, q, mid_taken, none, none', b, old_last, new_last);
        }

  -- ---- once the last station has no pass

  module _ (n : ℕ) (start : List (Station K)) (end : Station K) (ss : List (Station K)) (last : Station K) (are : ArePart n start end ss last) (none : length last.below.items ≡ 0) where
    pub part_ends : AreStations n ss
    part_ends j d lt = subst (λ (xs : List (RowsId × Global)). IsStation n xs j (get_or ss j d)) (sym are.deques_same)
        (are.after j d (omega (arith, none)) lt)

    pub part_length : length ss ≡ length start
    part_length = sym (own_length ss) ∙ ap length are.deques_same ∙ own_length start

    pub part_given : (last' : Station K) → last'.own ≡ last.own → (w : Cell → ℕ) →
        weigh_given w (ss ++ last' ∷ []) ≡ weigh_given w (start ++ end ∷ [])
    part_given last' own w =
        let v = ap (λ o. worker_view {V = Account} o) own in
        let o = ap (weigh w) (ap (λ (a : Account). a.opening) v ∙ are.opening) in
        let p = ap (weigh w) (ap (λ (a : Account). a.pushed) v ∙ are.pushed) in
        let g = are.given w in
        omega (arith, weigh_snoc (given_of w) ss last', weigh_snoc (given_of w) start end, o, p, g)

    pub part_taken : (w : Cell → ℕ) → weigh_all_taken w ss + weigh w (worker_view last.own).taken ≡ weigh_all_taken w (start ++ end ∷ [])
    part_taken w =
        let t = are.taken w in
        let a : weigh (weigh w) (takens last.above.items) ≡ 0 = ap (λ ps. weigh (weigh w) (takens ps)) are.above in
        let b : weigh (weigh w) (takens last.below.items) ≡ 0 = ap (λ ps. weigh (weigh w) (takens ps)) (nil_from_length last.below.items none) in
        omega (arith, t, a, b, weigh_around (weigh w) (takens last.below.items) (worker_view last.own).taken (takens last.above.items))

-- ---- what is left in a deque

-- a worker that took these cells of its deque
pub record Drains (start now : Account) (cells cells' : List Cell) : Type 0 where
  pub parts : now.parts ≡ start.parts
  pub all : now.all ≡ start.all
  pub opening : now.opening ≡ start.opening
  pub pushed : now.pushed ≡ start.pushed
  pub took : (w : Cell → ℕ) → weigh w cells + weigh w now.taken ≡ weigh w start.taken + weigh w cells'

-- nothing more is found
pub drained_early : (start now : Account) (cells cells' : List Cell) → Drains start now cells cells' → start.parts ≡ start.all → Settled now [] →
    (w : Cell → ℕ) →
    weigh w cells + weigh w start.opening + weigh w start.pushed ≡ weigh w start.taken + weigh w cells'
drained_early start now cells cells' d whole settled w =
    let s = settled (d.parts ∙ whole ∙ sym d.all) w in
    let o = ap (weigh w) d.opening in
    let p = ap (weigh w) d.pushed in
    let c = d.took w in omega arith

-- as many were taken as there were
pub drained_late : (start now : Account) (cells cells' items rest : List Cell) → Drains start now cells cells' → start.parts ≡ start.all →
    Settled start items → Settled now rest → length cells' ≡ length cells + length items → (w : Cell → ℕ) →
    weigh w cells + weigh w start.opening + weigh w start.pushed ≡ weigh w start.taken + weigh w cells'
drained_late start now cells cells' items rest d whole before after many w =
    let none : length rest ≡ 0 =
    (let s = before whole (λ _. 1) in
    let t = after (d.parts ∙ whole ∙ sym d.all) (λ _. 1) in
    let o = ap (weigh (λ _. 1)) d.opening in
    let p = ap (weigh (λ _. 1)) d.pushed in
    let c = d.took (λ _. 1) in
    omega (arith, s, t, o, p, c, many, weigh_one cells, weigh_one cells', weigh_one items, weigh_one rest)) in
    let s = after (d.parts ∙ whole ∙ sym d.all) w in
    let o = ap (weigh w) d.opening in
    let p = ap (weigh w) d.pushed in
    let c = d.took w in
    let r = weigh_none w rest none in omega arith

-- one cell more was taken
pub drained_more : (start now now' : Account) (cells cells' cells'' : List Cell) (c : Cell) → Drains start now cells cells' →
    now' ≡ with_taken now (c ∷ []) → cells'' ≡ cells' ++ c ∷ [] → Drains start now' cells cells''
drained_more start now now' cells cells' cells'' c d is more = record {
  parts = ap (λ (a : Account). a.parts) is ∙ d.parts;
  all = ap (λ (a : Account). a.all) is ∙ d.all;
  opening = ap (λ (a : Account). a.opening) is ∙ d.opening;
  pushed = ap (λ (a : Account). a.pushed) is ∙ d.pushed;
  took = λ w.
      let before = d.took w in
      let t = ap (λ (a : Account). weigh w a.taken) is in
      let m = ap (weigh w) more in
      omega (arith, before, t, m, weigh_snoc w now.taken c, weigh_snoc w cells' c);
}

pub kept_push : {X : Type 0} (old xs : List X) (x : X) → take (length old) xs ≡ old → length old ≤ length xs → take (length old) (xs ++ x ∷ []) ≡ old
kept_push old xs x kept le = take-append-le (length old) xs (x ∷ []) le ∙ kept

-- the sums, once one deque more is empty
pub gathered : (start given taken cells cells' all all' into into' opened pushed own : ℕ) → start + given + all ≡ taken + into + cells →
    into' + (opened + pushed) ≡ into → all' + own ≡ all → cells + opened + pushed ≡ own + cells' →
    start + given + all' ≡ taken + into' + cells'
gathered start given taken cells cells' all all' into into' opened pushed own a b c d = omega arith
