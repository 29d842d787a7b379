use Rattle.std.proofs.Common.{◌≡◌, ℕ, ◌+◌, ◌-◌, [], ◌∷◌, map, length, take, drop, reverse, sym, ap, ◌∙◌, subst, arith, length-append}
use Rattle.std.specs.Prelude.{All}
use Rattle.std.specs.List.{range_with_len}
use Rattle.std.proofs.lemmas.List.{length-map}
use Rattle.std.proofs.lemmas.Result.{err_from_is_err_and}
use Rattle.cj_case.specs.Problems.{plain_problem}
use Rattle.cj_pool.specs.Hands.{HandSeen, IsUnstarted, roots_dealt}
use Rattle.cj_pool.specs.Refined.{numbers_of}
use Rattle.cj_pool.specs.Stations.{own_deque, own_deques}
use Rattle.cj_pool.proofs.SeatLemmas.{seat_of, seated, below_length, all_deques, seated_accounts, seated_unstarted, numbers_before, shares_before, all_before}
use Rattle.std.proofs.lemmas.List.{drop_all, take_all}
use Rattle.cj_pool.proofs.seating.seat.Goals as goal

pub invariant_of-push : goal.invariant_of-push
invariant_of-push g c =
    let i = c.loop-station.invariant in
    let n = g.K.Run.workers in
    let r = c.requires in
    let all = c.args.stations.items in
    let s = c.in-Some.station in
    let rest = c.pop.new.self.items in
    let ds = own_deques all in
    let seat = seat_of n g.K.Run.roots all c.args.shares.items c.loop-station.stations.items rest c.loop-station.shares.items
    c.pop-in-Some.new.self.items s c.in-Some-pop.share
    r.stations r.len.0 r.len.1 r.unused r.dealt r.shares i.stations i.shares i.same i.few c.in-Some.ensures.items c.in-Some-pop.ensures.items in
    let is = seat.station in
    let len : length ds ≡ n = length-map all own_deque ∙ r.len.0 in (
      c.new-looker.ensures ∙ r.problem,
      is.ready_below,
      is.ready_above,
      seated n (length rest) ds s is len seat.below,
      below_length n (length rest) ds s is len seat.below,
      seated_accounts n (length rest) ds s is len seat.below (plain_problem g.K.Run.problem) g.K.Run.roots c.new-looker.result c.new.result.items
          c.in_ok-leaves.leaves.items c.in-Some-pop.share c.new.ensures c.in_ok-leaves.ensures.items seat.unused
          r.roots seat.opening seat.new,
    )

pub loop-station-preserved : goal.loop-station-preserved
loop-station-preserved g c =
    let l = c.loop-station in
    let i = l.invariant in
    let n = g.K.Run.workers in
    let r = c.requires in
    let all = c.args.stations.items in
    let s = c.in-Some.station in
    let rest = c.pop.new.self.items in
    let ds = own_deques all in
    let k = length rest in
    let seat = seat_of n g.K.Run.roots all c.args.shares.items l.stations.items rest l.shares.items c.pop-in-Some.new.self.items s c.in-Some-pop.share
    r.stations r.len.0 r.len.1 r.unused r.dealt r.shares i.stations i.shares i.same i.few c.in-Some.ensures.items c.in-Some-pop.ensures.items in
    let is = seat.station in
    let len : length ds ≡ n = length-map all own_deque ∙ r.len.0 in
    let count : length l.stations.items ≡ k + 1 = ap length c.in-Some.ensures.items ∙ length-append rest (s ∷ []) in
    let share_count : length l.shares.items ≡ length c.pop-in-Some.new.self.items + 1 = ap length c.in-Some-pop.ensures.items ∙ length-append
    c.pop-in-Some.new.self.items (c.in-Some-pop.share ∷ []) in
    let same : length c.pop-in-Some.new.self.items ≡ k = omega (arith, count, share_count, i.same) in
    let items = c.in_ok-push.ensures.items in
    record {
      few = omega (arith, seat.below);
      same = same;
      stations = seat.rest_is;
      shares = seat.left_is ∙ ap (λ (m : ℕ). take m c.args.shares.items) (sym same);
      numbers = ap (λ hs. numbers_of (reverse hs)) items ∙ numbers_before l.hands.items _ k n is.number seat.below
          (i.numbers ∙ ap (λ (m : ℕ). range_with_len m (n - m)) count);
      deques = subst (λ hs. All (λ (h : HandSeen). h.deques ≡ own_deques all) (reverse hs)) (sym items)
          (all_before (λ (h : HandSeen). h.deques ≡ own_deques all) l.hands.items _ i.deques (all_deques n k ds s is len seat.below));
      unstarted = subst (λ hs. All IsUnstarted (reverse hs)) (sym items)
          (all_before IsUnstarted l.hands.items _ i.unstarted
          (seated_unstarted n k ds s is len seat.below (plain_problem g.K.Run.problem) g.K.Run.roots c.new-looker.result c.new.result.items
          c.in_ok-leaves.leaves.items c.in-Some-pop.share c.new.ensures c.in_ok-leaves.ensures.items seat.unused));
      opening = subst (λ hs. All (λ (h : HandSeen). h.opening ≡ roots_dealt g.K.Run.roots n h.number) (reverse hs)) (sym items)
          (all_before (λ (h : HandSeen). h.opening ≡ roots_dealt g.K.Run.roots n h.number) l.hands.items _ i.opening
          (seat.opening ∙ ap (λ (m : ℕ). roots_dealt g.K.Run.roots n m) (sym is.number)));
      seated = ap (λ hs. map (λ (h : HandSeen). h.share) (reverse hs)) items
          ∙ shares_before l.hands.items _ c.args.shares.items k (omega (arith, seat.below, r.len.1)) seat.share_is
          (i.seated ∙ ap (λ (m : ℕ). drop m c.args.shares.items) count);
    }

pub returns-in_err-leaves : goal.returns-in_err-leaves
returns-in_err-leaves g c =
    let p = err_from_is_err_and c.from_residual.result c.from_residual.ensures.1 in
    rw p.1 (record { numbers = tt; deques = tt; unstarted = tt; opening = tt; shares = tt })

pub returns-in_err-push : goal.returns-in_err-push
returns-in_err-push g c =
    let p = err_from_is_err_and c.from_residual-in_err-push.result c.from_residual-in_err-push.ensures.1 in
    rw p.1 (record { numbers = tt; deques = tt; unstarted = tt; opening = tt; shares = tt })

pub loop-station-init : goal.loop-station-init
loop-station-init g c =
    let r = c.requires in
    let stations = c.args.stations.items in
    let shares = c.args.shares.items in
    let ds = own_deques stations in
    let none = sym c.new-hands.ensures.items in
    let no_more : g.K.Run.workers - length stations ≡ 0 = omega (arith, r.len.0) in
    record {
      few = omega (arith, r.len.0);
      same = r.len.1 ∙ sym r.len.0;
      stations = sym (take_all (length stations) stations (omega arith));
      shares = sym (take_all (length shares) shares (omega arith));
      numbers = ap (λ hs. numbers_of (reverse hs)) (sym none) ∙ sym (ap (range_with_len (length stations)) no_more);
      deques = subst (λ hs. All (λ (h : HandSeen). h.deques ≡ ds) (reverse hs)) none (λ k d lt. absurd (omega arith));
      unstarted = subst (λ hs. All IsUnstarted (reverse hs)) none (λ k d lt. absurd (omega arith));
      opening = subst (λ hs. All (λ (h : HandSeen). h.opening ≡ roots_dealt g.K.Run.roots g.K.Run.workers h.number) (reverse hs)) none (λ k d lt. absurd (omega arith));
      seated = ap (λ hs. map (λ (h : HandSeen). h.share) (reverse hs)) (sym none) ∙ sym (drop_all (length stations) shares (omega (arith, r.len.0, r.len.1)));
    }

pub returns-clause-deques : goal.returns-clause-deques
returns-clause-deques g c = subst (All (λ (h : HandSeen). h.deques ≡ own_deques c.args.stations.items)) (sym c.reverse.ensures.items) c.loop-station.invariant.deques

pub returns-clause-unstarted : goal.returns-clause-unstarted
returns-clause-unstarted g c = subst (All IsUnstarted) (sym c.reverse.ensures.items) c.loop-station.invariant.unstarted

pub returns-clause-opening : goal.returns-clause-opening
returns-clause-opening g c =
    subst (All (λ (h : HandSeen). h.opening ≡ roots_dealt g.K.Run.roots g.K.Run.workers h.number)) (sym c.reverse.ensures.items) c.loop-station.invariant.opening
