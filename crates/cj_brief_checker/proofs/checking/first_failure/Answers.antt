use Rattle.std.proofs.Common.{◌≡◌, ◌+◌, false, true, length, sym, subst, ◌∙◌, rules, arith}
use Rattle.std.specs.Prelude.{is_some}
use Rattle.std.proofs.lemmas.List.{length-map}
use Rattle.std.proofs.lemmas.Result.{IfOk-weaker}
use Rattle.cj_track.specs.Tracks.{plain_track}
use Rattle.cj_case.specs.Problems.{plain_problem}
use Rattle.cj_brief.specs.Certificates.{plain_brief}
use Rattle.cj_checker.specs.First.{first_line}
use Rattle.cj_brief_checker.specs.Shown.{AreShown}
use Rattle.cj_brief_checker.proofs.CheckLemmas.{fails_in_cells, fails_in_head, fails_in_shells, same_shells, shells_are}
use Rattle.cj_brief_checker.proofs.checking.first_failure.Goals as goal

pub returns-then-is_some : goal.returns-then-is_some
returns-then-is_some g c =
    let some : is_some c.in_ok-found.found ≡ true = search rules in
    fails_in_head (plain_problem c.args.problem.now) (plain_brief c.args.cert.now) c.in_ok-found.found c.in_ok-found.ensures some

pub returns-in-Fails : goal.returns-in-Fails
returns-in-Fails g c =
    let case = plain_problem c.args.problem.now in
    let cert = plain_brief c.args.cert.now in
    let none : is_some c.in_ok-found.found ≡ false = search rules in
    let at : 5 + c.len.result + c.len-2.result ≡ first_line + length c.args.cert.now.sizes.items + length c.args.cert.now.primaries.items = omega (arith, c.len.ensures, c.len-2.ensures) in
    let shown = subst (AreShown case (5 + c.len.result + c.len-2.result) c.deref.result.now) c.in-Fails.is c.in_ok-shown.ensures in
    fails_in_shells case cert c.in_ok-found.found c.in-Fails.failure c.in_ok-found.ensures none
    (sym (shells_are case cert (5 + c.len.result + c.len-2.result) c.deref.result.now at c.deref.ensures.value) ∙ shown)

pub cell_failure-requires-clause-boxes : goal.cell_failure-requires-clause-boxes
cell_failure-requires-clause-boxes g c = λ lifetimes outlive.
    (subst (AreShown (plain_problem c.args.problem.now) (5 + c.len.result + c.len-2.result) c.deref.result.now) c.in-Boxes.is c.in_ok-shown.ensures).1

pub cell_failure-requires-clause-shells : goal.cell_failure-requires-clause-shells
cell_failure-requires-clause-shells g c = λ lifetimes outlive.
    let case = plain_problem c.args.problem.now in
    let cert = plain_brief c.args.cert.now in
    let at : 5 + c.len.result + c.len-2.result ≡ first_line + length c.args.cert.now.sizes.items + length c.args.cert.now.primaries.items = omega (arith, c.len.ensures, c.len-2.ensures) in
    let shown = subst (AreShown case (5 + c.len.result + c.len-2.result) c.deref.result.now) c.in-Boxes.is c.in_ok-shown.ensures in
    same_shells case cert (sym (shells_are case cert (5 + c.len.result + c.len-2.result) c.deref.result.now at c.deref.ensures.value) ∙ shown.0) ∙ length-map c.args.problem.now.tracks plain_track

pub returns-in-Boxes : goal.returns-in-Boxes
returns-in-Boxes g c =
    let case = plain_problem c.args.problem.now in
    let cert = plain_brief c.args.cert.now in
    let none : is_some c.in_ok-found.found ≡ false = search rules in
    let at : 5 + c.len.result + c.len-2.result ≡ first_line + length c.args.cert.now.sizes.items + length c.args.cert.now.primaries.items = omega (arith, c.len.ensures, c.len-2.ensures) in
    let shown = subst (AreShown case (5 + c.len.result + c.len-2.result) c.deref.result.now) c.in-Boxes.is c.in_ok-shown.ensures in
    let passes = sym (shells_are case cert (5 + c.len.result + c.len-2.result) c.deref.result.now at c.deref.ensures.value) ∙ shown.0 in
    IfOk-weaker c.cell_failure.result _ _ (λ found is. is ∙ sym (fails_in_cells case cert c.in_ok-found.found c.in_ok-found.ensures none passes)) c.cell_failure.ensures
