use Rattle.std.proofs.Common.{◌≡◌, ◌+◌, ◌<◌, ◌≤◌, ap, subst, arith}
use Rattle.std.specs.Prelude.{Err, IfErr, Result}
use Rattle.std.proofs.lemmas.Result.{IfOk-weaker}
use Rattle.cj_slabs.specs.declared.sift_error.SiftError.{SiftError}
use Rattle.cj_slabs.specs.declared.sift_error.SiftError.TheVariants as error
use Rattle.cj_slabs.specs.declared.so_far.SoFar.{SoFar}
use Rattle.cj_slabs.specs.Slabs.{AreSoFar, IsOutcome, IsWithinOrOver, least, leaves_so_far}
use Rattle.cj_slabs.proofs.JoinLemmas.{given_more, given_now, over_more}
use Rattle.cj_slabs.proofs.so_far.SoFar.with.Goals as goal

-- only memory is told of
memory_alone : (r : Result SoFar SiftError) (e : SiftError) → IfErr r (λ f. f ≡ error.Memory) → r ≡ Err e → e ≡ error.Memory
memory_alone r e memory is = subst (λ (x : Result SoFar SiftError). IfErr x (λ f. f ≡ error.Memory)) is memory

pub returns-then-leaves-limits : goal.returns-then-leaves-limits
returns-then-leaves-limits c =
    let over : c.args.limits.leaves < leaves_so_far c.args.self + least c.args.next =
    omega (arith, c.saturating_add-leaves.ensures, c.leaves.ensures, c.leaves_at_least.ensures, c.if-leaves-limits.true) in
    record {
      found = λ case some more are is. tt;
      within = tt;
      too_many = λ case some more are is too. over_more c.args.limits case some more c.args.self c.args.next over are is;
      none_told = λ is. absurd cc;
    }

pub returns-in-Given : goal.returns-in-Given
returns-in-Given c =
    let old = c.in-Given.leaves in
    let leaves = c.saturating_add-leaves.result in
    let sum : leaves ≡ old + least c.args.next =
    omega (arith, c.saturating_add-leaves.ensures, c.leaves.ensures, ap leaves_so_far c.in-Given.is, c.leaves_at_least.ensures, c.if-leaves-limits.false, c.requires.limit) in
    let few : leaves ≤ c.args.limits.leaves = omega (arith, c.if-leaves-limits.false) in
    record {
      found = λ case some more are is. given_more c.args.limits case some more old leaves c.args.next c.requires.next sum few (subst (AreSoFar c.args.limits case some) c.in-Given.is are) is;
      within = few;
      too_many = λ case some more are is too. absurd cc;
      none_told = λ is. absurd cc;
    }

pub keep-requires : goal.keep-requires
keep-requires c =
    omega (arith, c.saturating_add-leaves.ensures, c.leaves.ensures, ap leaves_so_far c.in-Kept.is, c.leaves_at_least.ensures, ap least c.in-Whole.is, c.if-leaves-limits.false, c.requires.limit)

pub returns-in-Whole : goal.returns-in-Whole
returns-in-Whole c =
    let r = c.keep.result in
    let sum : c.saturating_add-leaves.result ≡ c.in-Kept.found.counts.leaves + c.in-Whole.slab.counts.leaves =
    omega (arith, c.saturating_add-leaves.ensures, c.leaves.ensures, ap leaves_so_far c.in-Kept.is, c.leaves_at_least.ensures, ap least c.in-Whole.is, c.if-leaves-limits.false, c.requires.limit) in
    record {
      found = λ case some more are is.
          let kept = subst (AreSoFar c.args.limits case some) c.in-Kept.is are in
          c.keep.ensures.found c.args.limits case some more kept.0 kept.1 (subst (IsOutcome case more) c.in-Whole.is is);
      within = IfOk-weaker r _ _ (λ all same. omega (arith, same, sum, c.if-leaves-limits.false)) c.keep.ensures.leaves;
      too_many = λ case some more are is too. let e = memory_alone r error.TooMany c.keep.ensures.memory too in absurd cc;
      none_told = λ is. let e = memory_alone r error.TooManyTold c.keep.ensures.memory is in absurd cc;
    }

pub returns-in-Counted : goal.returns-in-Counted
returns-in-Counted c =
    let here = c.in-Counted.leaves in
    let sum : c.saturating_add-leaves.result ≡ c.in-Kept.found.counts.leaves + here =
    omega (arith, c.saturating_add-leaves.ensures, c.leaves.ensures, ap leaves_so_far c.in-Kept.is, c.leaves_at_least.ensures, ap least c.in-Counted.is, c.if-leaves-limits.false, c.requires.limit) in
    let over = subst (IsWithinOrOver c.args.limits) c.in-Counted.is c.requires.next in
    record {
      found = λ case some more are is.
          let kept = subst (AreSoFar c.args.limits case some) c.in-Kept.is are in
          given_now c.args.limits case some more c.in-Kept.found c.saturating_add-leaves.result here c.in-Counted.told over.1 sum kept.0 (subst (IsOutcome case more) c.in-Counted.is is);
      within = omega (arith, c.if-leaves-limits.false);
      too_many = λ case some more are is too. absurd cc;
      none_told = λ is. absurd cc;
    }

pub returns-in-Stopped : goal.returns-in-Stopped
returns-in-Stopped c =
    let over = subst (IsWithinOrOver c.args.limits) c.in-Stopped.is c.requires.next in
    absurd (omega (arith, over, c.saturating_add-leaves.ensures, c.leaves_at_least.ensures, ap least c.in-Stopped.is, c.if-leaves-limits.false, c.requires.limit))
