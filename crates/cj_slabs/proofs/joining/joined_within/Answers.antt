use Rattle.std.proofs.Common.{◌≡◌, ◌≤◌, ◌∙◌, length, true, ap, sym, arith}
use Rattle.std.specs.List.{list_all}
use Rattle.std.proofs.lemmas.Result.{err_from_is_err_and}
use Rattle.cj_slabs.specs.declared.sifted.Sifted.{Sifted}
use Rattle.cj_slabs.specs.Slabs.{is_searched, least_of, leaves_listed, told_by_outcomes}
use Rattle.cj_slabs.proofs.JoinLemmas.{leaves_in_all, least_in_all, some_weaker, told_in_all}
use Rattle.cj_slabs.proofs.joining.joined_within.Goals as goal

pub returns-then-leaves-limits : goal.returns-then-leaves-limits
returns-then-leaves-limits c = record {
  too_many = λ case slots are is. let few = least_in_all case slots c.args.outcomes.items are in
      omega (arith, few, c.leaves_in-leaves.ensures, ap least_of c.deref.ensures.value, c.if-leaves-limits.true);
  too_many_told = λ case slots are is. absurd cc;
  few_leaves = λ case slots are is. absurd cc;
  slabs = λ case slots are. tt;
  within = tt;
  told_within = tt;
}

pub returns-then-not-were_searched : goal.returns-then-not-were_searched
returns-then-not-were_searched c = record {
  too_many = λ case slots are is. absurd cc;
  too_many_told = λ case slots are is. absurd cc;
  few_leaves = λ case slots are is. absurd cc;
  slabs = λ case slots are. tt;
  within = tt;
  told_within = tt;
}

pub returns-then-are_more_told : goal.returns-then-are_more_told
returns-then-are_more_told c = record {
  too_many = λ case slots are is. absurd cc;
  too_many_told = λ case slots are is. let few = told_in_all case slots c.args.outcomes.items are in
      omega (arith, few, c.are_more_told.ensures.yes c.if-are_more_told.true, ap told_by_outcomes c.deref-3.ensures.value);
  few_leaves = λ case slots are is.
      let searched : list_all is_searched c.args.outcomes.items ≡ true =
      ap (list_all is_searched) (sym c.deref-2.ensures.value) ∙ sym c.were_searched.ensures ∙ c.if-not-were_searched.false in
      omega (arith, leaves_in_all case slots c.args.outcomes.items searched are, c.leaves_in-leaves.ensures, ap least_of c.deref.ensures.value, c.if-leaves-limits.false, c.requires);
  slabs = λ case slots are. tt;
  within = tt;
  told_within = tt;
}

pub joined-requires : goal.joined-requires
joined-requires c = omega (arith, c.leaves_in-leaves.ensures, ap least_of c.deref.ensures.value, c.if-leaves-limits.false, c.requires)

pub returns-in_err-found : goal.returns-in_err-found
returns-in_err-found c =
    let p = err_from_is_err_and c.from_residual.result c.from_residual.ensures.1 in
    rw (p.1, p.2) (record {
      too_many = λ case slots are is. absurd cc;
      too_many_told = λ case slots are is. absurd cc;
      few_leaves = λ case slots are is. absurd cc;
      slabs = λ case slots are. tt;
      within = tt;
      told_within = tt;
    })

pub returns : goal.returns
returns c =
    let joins = c.in_ok-found.ensures in
    record {
      too_many = λ case slots are is. absurd cc;
      too_many_told = λ case slots are is. absurd cc;
      few_leaves = λ case slots are is. absurd cc;
      slabs = joins.slabs;
      within = some_weaker c.in_ok-found.found (λ (all : Sifted). all.counts.leaves ≡ least_of c.args.outcomes.items) (λ (all : Sifted). all.counts.leaves ≤ c.args.limits.leaves)
          (λ all same. omega (arith, same, c.leaves_in-leaves.ensures, ap least_of c.deref.ensures.value, c.if-leaves-limits.false, c.requires)) joins.leaves;
      told_within = some_weaker c.in_ok-found.found (λ (all : Sifted). length (leaves_listed all.slabs.items) ≡ told_by_outcomes c.args.outcomes.items) (λ (all : Sifted). length (leaves_listed all.slabs.items) ≤ c.args.limits.told)
          (λ all same. omega (arith, same, c.are_more_told.ensures.no c.if-are_more_told.false, ap told_by_outcomes c.deref-3.ensures.value)) joins.told;
    }
