use Rattle.std.proofs.Common.{◌≡◌, ◌<◌, ◌≤◌, ◌∙◌, ℕ, List, length, ap, sym, subst, arith}
use Rattle.std.specs.Prelude.{All, Option, IfOk, IfSome}
use Rattle.std.proofs.lemmas.List.{length-map}
use Rattle.std.proofs.lemmas.Result.{IfOk-weaker, err_from_is_err_and}
use Rattle.cj_track.specs.Tracks.{plain_track}
use Rattle.cj_case.specs.Problems.{plain_problem}
use Rattle.cj_case.specs.Slots.{slot_count}
use Rattle.cj_hermite.specs.Roots.{slots_of}
use Rattle.cj_bezier.specs.RootLeaves.{leaves_of_roots}
use Rattle.cj_cells.proofs.ListingLemmas.{error_is}
use Rattle.cj_slabs.specs.declared.sifted.Sifted.{Sifted}
use Rattle.cj_slabs.specs.Slabs.{AreSlabsOf, leaves_listed, roots_at, told_of_roots}
use Rattle.cj_slabs.proofs.CaseLemmas.{all_leaves, all_told, are_measured, case_described, counts_are, each_below, on_ok, on_ok_from, others_are_far, told_is, touching_is}
use Rattle.cj_slabs.proofs.sifting.sift.Goals as goal

pub few_kept-requires : goal.few_kept-requires
few_kept-requires g c = record { measured = are_measured c.args.problem.now c.args.measured.now c.requires.measured }

pub returns-in_err-few : goal.returns-in_err-few
returns-in_err-few g c =
    let p = err_from_is_err_and c.from_residual.result c.from_residual.ensures.1 in
    rw (p.1, p.2) (record {
      too_many = λ is. absurd cc;
      too_many_told = λ is. absurd cc;
      few_leaves = λ is. absurd cc;
      told = tt;
      counts = tt;
      touching = tt;
      within = tt;
      told_within = tt;
      sound = tt;
      complete = tt;
      ordered = tt;
      pieces = tt;
      far = tt;
    })

pub returns-in_err-slots : goal.returns-in_err-slots
returns-in_err-slots g c =
    let p = err_from_is_err_and c.from_residual-in_err-slots.result c.from_residual-in_err-slots.ensures.1 in
    rw (p.1, p.2) (record {
      too_many = λ is. absurd cc;
      too_many_told = λ is. absurd cc;
      few_leaves = λ is. absurd cc;
      told = tt;
      counts = tt;
      touching = tt;
      within = tt;
      told_within = tt;
      sound = tt;
      complete = tt;
      ordered = tt;
      pieces = tt;
      far = tt;
    })

pub sift_together-requires-clause-measured : goal.sift_together-requires-clause-measured
sift_together-requires-clause-measured g c = λ _ _. are_measured c.args.problem.now c.args.measured.now c.requires.measured

pub sift_together-requires-clause-exist : goal.sift_together-requires-clause-exist
sift_together-requires-clause-exist g c = λ _ _.
    let window = c.args.problem.now.window in
    let count = slot_count window.first.micros window.last.micros in
    subst (All (λ slot. slot < count)) (sym (c.deref.ensures.value ∙ c.in_ok-slots.ensures)) (each_below count)

pub returns-in_err-outcomes : goal.returns-in_err-outcomes
returns-in_err-outcomes g c =
    let p = err_from_is_err_and c.from_residual-in_err-outcomes.result c.from_residual-in_err-outcomes.ensures.1 in
    rw (p.1, p.2) (record {
      too_many = λ is. absurd cc;
      too_many_told = λ is. absurd cc;
      few_leaves = λ is. absurd cc;
      told = tt;
      counts = tt;
      touching = tt;
      within = tt;
      told_within = tt;
      sound = tt;
      complete = tt;
      ordered = tt;
      pieces = tt;
      far = tt;
    })

-- they are the outcomes of all slots
pub returns-in_err-found : goal.returns-in_err-found
returns-in_err-found g c =
    let p = err_from_is_err_and c.from_residual-in_err-found.result c.from_residual-in_err-found.ensures.1 in
    let case = plain_problem c.args.problem.now in
    let slots = c.deref.result.now in
    let are = c.in_ok-outcomes.ensures in
    let all : slots ≡ slots_of case = c.deref.ensures.value ∙ c.in_ok-slots.ensures in
    let listed = ap (λ (ks : List ℕ). length (leaves_of_roots case (roots_at case ks))) all ∙ all_leaves case in
    let told = ap (λ (ks : List ℕ). length (told_of_roots case (roots_at case ks))) all ∙ ap length (all_told case) in
    let says = c.in_err-found.ensures in
    rw (p.1, p.2) (record {
      too_many = λ is. let many = says.too_many case slots are (error_is _ _ is) in omega (arith, many, listed);
      too_many_told = λ is. let many = says.too_many_told case slots are (error_is _ _ is) in omega (arith, many, told);
      few_leaves = λ is. let few = says.few_leaves case slots are (error_is _ _ is) in omega (arith, few, listed);
      told = tt;
      counts = tt;
      touching = tt;
      within = tt;
      told_within = tt;
      sound = tt;
      complete = tt;
      ordered = tt;
      pieces = tt;
      far = tt;
    })

pub returns-in-Some : goal.returns-in-Some
returns-in-Some g c =
    let problem = c.args.problem.now in
    let case = plain_problem problem in
    let found = c.in-Some.found in
    let slots = c.deref.result.now in
    let all : slots ≡ slots_of case = c.deref.ensures.value ∙ c.in_ok-slots.ensures in
    let joins = c.in_ok-found.ensures in
    let slabs = subst (λ (ks : List ℕ). AreSlabsOf case ks found) all
    (subst (λ (o : Option Sifted). IfSome o (AreSlabsOf case slots)) c.in-Some.is (joins.slabs case slots c.in_ok-outcomes.ensures)) in
    let says = case_described case slabs.described in
    record {
      too_many = λ is. absurd cc;
      too_many_told = λ is. absurd cc;
      few_leaves = λ is. absurd cc;
      told = told_is case found slabs;
      counts = counts_are case found slabs;
      touching = touching_is case found (omega (arith, problem.few, length-map problem.tracks plain_track)) (omega (arith, problem.short)) slabs;
      within = subst (λ (o : Option Sifted). IfSome o (λ f. f.counts.leaves ≤ c.args.limits.leaves)) c.in-Some.is joins.within;
      told_within = subst (λ (o : Option Sifted). IfSome o (λ f. length (leaves_listed f.slabs.items) ≤ c.args.limits.told)) c.in-Some.is joins.told_within;
      sound = says.sound;
      complete = says.complete;
      ordered = says.ordered;
      pieces = says.pieces;
      far = others_are_far problem c.args.measured.now c.requires.measured;
    }

pub sift_alone-requires-clause-measured : goal.sift_alone-requires-clause-measured
sift_alone-requires-clause-measured g c = are_measured c.args.problem.now c.args.measured.now c.requires.measured

pub sift_alone-requires-clause-exist : goal.sift_alone-requires-clause-exist
sift_alone-requires-clause-exist g c =
    let window = c.args.problem.now.window in
    let count = slot_count window.first.micros window.last.micros in
    subst (All (λ slot. slot < count)) (sym (c.deref-in-None.ensures.value ∙ c.in_ok-slots.ensures)) (each_below count)

pub returns : goal.returns
returns g c =
    let problem = c.args.problem.now in
    let case = plain_problem problem in
    let r = c.sift_alone.result in
    let all = c.deref-in-None.ensures.value ∙ c.in_ok-slots.ensures in
    let is = subst (λ (ks : List ℕ). IfOk r (AreSlabsOf case ks)) all c.sift_alone.ensures.found in
    let listed = ap (λ (ks : List ℕ). length (leaves_of_roots case (roots_at case ks))) all ∙ all_leaves case in
    let told = ap (λ (ks : List ℕ). length (told_of_roots case (roots_at case ks))) all ∙ ap length (all_told case) in
    record {
      too_many = λ many. omega (arith, c.sift_alone.ensures.too_many many, listed);
      too_many_told = λ many. omega (arith, c.sift_alone.ensures.too_many_told many, told);
      few_leaves = λ many. omega (arith, c.sift_alone.ensures.few_leaves many, listed);
      told = IfOk-weaker r _ _ (told_is case) is;
      counts = IfOk-weaker r _ _ (counts_are case) is;
      touching = IfOk-weaker r _ _ (λ found are. touching_is case found (omega (arith, problem.few, length-map problem.tracks plain_track)) (omega (arith, problem.short)) are) is;
      within = c.sift_alone.ensures.within;
      told_within = c.sift_alone.ensures.told_within;
      sound = on_ok_from r (AreSlabsOf case (slots_of case)) _ (λ found are. let says = case_described case are.described in says.sound) is;
      complete = on_ok_from r (AreSlabsOf case (slots_of case)) _ (λ found are. let says = case_described case are.described in says.complete) is;
      ordered = on_ok_from r (AreSlabsOf case (slots_of case)) _ (λ found are. let says = case_described case are.described in says.ordered) is;
      pieces = on_ok_from r (AreSlabsOf case (slots_of case)) _ (λ found are. let says = case_described case are.described in says.pieces) is;
      far = on_ok r _ (others_are_far problem c.args.measured.now c.requires.measured);
    }
