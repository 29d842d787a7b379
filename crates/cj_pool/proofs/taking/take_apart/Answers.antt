use Rattle.std.proofs.Common.{◌≡◌, ◌<◌, List, ◌∷◌, rules, vec_len, ap, ◌∙◌, sym, subst, arith, [], refl, append-nil}
use Rattle.std.proofs.lemmas.List.{nil_from_length}
use Rattle.std.proofs.lemmas.Result.{err_from_is_err_and}
use Rattle.cj_case.specs.Problems.{plain_problem}
use Rattle.cj_pool.specs.Hands.{HandSeen}
use Rattle.cj_pool.specs.Refined.{in_runs}
use Rattle.cj_pool.proofs.TakeLemmas.{AreTaken, first_of, sum_ends, taken_begins, taken_step, taken_stations}
use Rattle.cj_pool.proofs.taking.take_apart.Goals as goal

pub loop-refinery-preserved : goal.loop-refinery-preserved
loop-refinery-preserved g c =
    let l = c.loop-refinery in
    let n = g.K.Run.workers in
    let rest = l.hands.items in
    let h : HandSeen = c.remove.result in
    let one = c.in_ok-take_one.ensures in
    let some : 0 < vec_len l.hands = search rules in
    let first = first_of rest h (omega (arith, some, l.hands.ok.0)) c.remove.ensures.value ∙ ap (λ (hs : List HandSeen). h ∷ hs)
    (sym c.remove.ensures.items) in
    taken_step (plain_problem g.K.Run.problem) g.K.Run.roots n c.args.refinery.now c.args.hands.items rest h c.remove.new.self.items
    l.parts.stations.items c.take_one.new.parts.stations.items l.parts.shares.items c.take_one.new.parts.shares.items (in_runs l.parts.runs.items)
    (in_runs c.take_one.new.parts.runs.items) l.parts.kept.items c.take_one.new.parts.kept.items
    one.station.0 l.invariant first one.station.1 one.station.2 one.account one.shares one.leaves one.kept

pub loop-refinery-init : goal.loop-refinery-init
loop-refinery-init g c =
    taken_begins (plain_problem g.K.Run.problem) g.K.Run.roots g.K.Run.workers c.args.refinery.now c.args.hands.items c.new.result.items
    c.new-2.result.items (in_runs c.new-3.result.items) c.new-4.result.items c.requires.hands c.requires.all
    c.new.ensures.items c.new-2.ensures.items (ap in_runs c.new-3.ensures.items) c.new-4.ensures.items

pub returns-in_err-take_one : goal.returns-in_err-take_one
returns-in_err-take_one g c =
    let p = err_from_is_err_and c.from_residual.result c.from_residual.ensures.1 in
    rw p.1 (record { stations = tt; len = tt; given = tt; taken = tt; shares = tt; leaves = tt; kept = tt; accounts = tt })

pub returns : goal.returns
returns g c =
    let case = plain_problem g.K.Run.problem in
    let roots = g.K.Run.roots in
    let n = g.K.Run.workers in
    let refinery = c.args.refinery.now in
    let all = c.args.hands.items in
    let l = c.loop-refinery in
    let stations = l.parts.stations.items in
    let shares = l.parts.shares.items in
    let leaves = in_runs l.parts.runs.items in
    let kept = l.parts.kept.items in
    let none : vec_len l.hands ≡ 0 = search rules in
    let rest = nil_from_length l.hands.items (omega (arith, none, l.hands.ok.0)) in
    let done : AreTaken case roots n refinery all [] stations shares leaves kept = subst
    (λ (hs : List HandSeen). AreTaken case roots n refinery all hs stations shares leaves kept) rest l.invariant in
    record {
      stations = taken_stations case roots n refinery all stations shares leaves kept done;
      len = omega (arith, done.count);
      given = λ w. sum_ends _ _ _ (done.given w) refl;
      taken = λ w. sum_ends _ _ _ (done.taken w) refl;
      shares = sym (append-nil shares) ∙ done.shares_are;
      leaves = sym (append-nil leaves) ∙ done.leaves_are;
      kept = sym (append-nil kept) ∙ done.kept_are;
      accounts = done.accounts (λ i d lt. absurd (omega arith));
    }
