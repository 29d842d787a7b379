use Rattle.std.proofs.Common.{◌≡◌, ◌∙◌, ℕ, All, List, length, Ok, ap, sym, subst, arith}
use Rattle.std.proofs.lemmas.Result.{err_from_is_err_and}
use Rattle.cj_case.specs.Problems.{plain_problem}
use Rattle.cj_case.specs.Leaves.{PlainLeaf, plain_leaves}
use Rattle.cj_case.specs.Order.{AreInOrder}
use Rattle.cj_case.specs.declared.leaf.Leaf.{Leaf}
use Rattle.cj_meet.specs.Closest.{HasNearest, KeepTheirPieces}
use Rattle.cj_meet.specs.Encounters.{encounters_of}
use Rattle.cj_outputs.specs.Meetings.{AreMeetings}
use Rattle.cj_outputs.specs.Outcome.{list_anew, outputs_of_changes}
use Rattle.cj_screen.proofs.ReportLemmas.{never_read}
use Rattle.cj_screen.proofs.RescreenLemmas.{changed_leaves, changed_splits, changed_stops, still_so}
use Rattle.cj_screen.proofs.changing.screen_changes.Goals as goal

pub find_meetings-requires-clause-in_order : goal.find_meetings-requires-clause-in_order
unfolding list_anew
find_meetings-requires-clause-in_order g c = λ lifetimes outlive.
    subst AreInOrder (sym (ap plain_leaves c.deref.ensures.value ∙ c.in_ok-changed.ensures.value)) c.in_ok-changed.ensures.ticks.lists.ordered

pub find_meetings-requires-clause-few : goal.find_meetings-requires-clause-few
find_meetings-requires-clause-few g c = omega (arith, ap (λ (ls : List Leaf). length ls) c.deref.ensures.value, c.in_ok-changed.ensures.few, c.args.wanted.few_leaves)

pub find_meetings-requires-clause-pieces : goal.find_meetings-requires-clause-pieces
unfolding list_anew
find_meetings-requires-clause-pieces g c = λ lifetimes outlive.
    subst (KeepTheirPieces (plain_problem c.args.updating.new)) (sym (ap plain_leaves c.deref.ensures.value ∙ c.in_ok-changed.ensures.value)) c.in_ok-changed.ensures.ticks.lists.pieces

pub returns : goal.returns
returns g c =
    let updating = c.args.updating in
    let old = plain_problem updating.base in
    let new = plain_problem updating.new in
    let changed = c.in_ok-changed.changed in
    let refined = c.in_ok-changed.ensures in
    let wanted = c.args.wanted in
    let lent : plain_leaves c.deref.result.now ≡ plain_leaves changed.leaves.items = ap plain_leaves c.deref.ensures.value in
    let same = lent ∙ refined.value in
    let met = c.in_ok-met.ensures in
    record {
      between = tt;
      read = λ is. absurd cc;
      told = changed_leaves wanted.leaves wanted.tells old new (plain_leaves changed.leaves.items) refined.told
          ∙ ap (λ (n : ℕ). Ok (outputs_of_changes wanted.tells new n (plain_leaves changed.leaves.items))) (sym refined.kept);
      found = record {
        few = omega (arith, refined.few, wanted.few_leaves);
        met = subst (λ (ss : List PlainLeaf). AreMeetings new ss c.in_ok-met.met) lent met.meetings;
      };
      split = changed_splits old new (plain_leaves c.deref.result.now) same refined.ticks met.spans;
      nearest = subst (λ (ss : List PlainLeaf). All (HasNearest new) (encounters_of ss)) same met.nearest;
      still_so = still_so old new (sym updating.first) (sym updating.last) (sym updating.threshold);
    }

pub returns-in_err-met : goal.returns-in_err-met
returns-in_err-met g c =
    let updating = c.args.updating in
    let p = err_from_is_err_and c.from_residual-in_err-met.result c.from_residual-in_err-met.ensures.1 in
    rw (p.1, p.2) (record {
      between = tt;
      read = λ is. absurd cc;
      told = tt;
      found = tt;
      split = tt;
      nearest = tt;
      still_so = still_so (plain_problem updating.base) (plain_problem updating.new) (sym updating.first) (sym updating.last) (sym updating.threshold);
    })

pub returns-in_err-changed : goal.returns-in_err-changed
returns-in_err-changed g c =
    let updating = c.args.updating in
    let wanted = c.args.wanted in
    let s = c.in_err-changed.field-0.0 in
    let told = c.in_err-changed.ensures.told in
    let p = err_from_is_err_and c.from_residual.result c.from_residual.ensures.1 in
    rw (p.1, p.2) (record {
      between = c.in_err-changed.ensures.between;
      read = λ is. never_read s _ told is;
      told = changed_stops wanted.leaves wanted.tells (plain_problem updating.base) (plain_problem updating.new) s told;
      found = tt;
      split = tt;
      nearest = tt;
      still_so = still_so (plain_problem updating.base) (plain_problem updating.new) (sym updating.first) (sym updating.last) (sym updating.threshold);
    })
