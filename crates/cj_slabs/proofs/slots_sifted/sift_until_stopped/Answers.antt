use Rattle.std.proofs.Common.{◌≡◌, ◌∙◌, ◌<◌, Err, List, length, rules, ap, sym, subst, arith}
use Rattle.std.specs.Prelude.{All}
use Rattle.std.proofs.lemmas.List.{nil_from_length}
use Rattle.std.proofs.lemmas.List.Elements.{All-drop, All-take}
use Rattle.std.proofs.lemmas.Result.{err_from_is_err_and}
use Rattle.cj_case.specs.declared.pair.Pair.{Pair}
use Rattle.cj_case.specs.Problems.{plain_problem}
use Rattle.cj_slabs.specs.declared.halt.Halt.TheVariants as halt
use Rattle.cj_slabs.specs.Halts.{halt_of}
use Rattle.cj_slabs.proofs.HaltLemmas.{many_were, none_stopped}
use Rattle.cj_slabs.proofs.SlabLemmas.{all_so_far, few_so_far, few_with_next, more_so_far, none_so_far}
use Rattle.cj_slabs.proofs.slots_sifted.sift_until_stopped.Goals as goal

pub loop-rest-init : goal.loop-rest-init
loop-rest-init c = record {
  cuts = c.requires.cuts;
  exist = c.requires.exist;
  room = c.requires.room;
  added = none_so_far (plain_problem c.args.problem.now) c.args.slot c.args.pairs.now c.args.slab.now;
}

pub sift_pairs-requires-clause-exist : goal.sift_pairs-requires-clause-exist
sift_pairs-requires-clause-exist c =
    let P = λ (pair : Pair). pair.b < length c.args.problem.now.tracks in
    subst (λ (ps : List Pair). All P ps) (sym c.split_at.ensures.front) (All-take P c.min.result c.loop-rest.rest.now c.loop-rest.invariant.exist)

pub returns-then-is_over : goal.returns-then-is_over
returns-then-is_over c =
    let i = c.loop-rest.invariant in
    record {
      cuts = i.cuts ∙ sym c.requires.cuts;
      added = tt;
      within = tt;
      too_many = λ is. absurd cc;
      stopped = λ is. few_so_far (plain_problem c.args.problem.now) c.args.slot c.args.pairs.now c.loop-rest.rest.now c.args.slab.now c.loop-rest.slab i.added;
      alone = λ none is. let not = c.is_over.ensures none in let yes = c.if-is_over.true in absurd cc;
    }

pub returns-in_err-sift_pairs : goal.returns-in_err-sift_pairs
returns-in_err-sift_pairs c =
    let i = c.loop-rest.invariant in
    let p = err_from_is_err_and c.from_residual.result c.from_residual.ensures.1 in
    let some = c.split_at.result.0.now in
    let few = few_with_next (plain_problem c.args.problem.now) c.args.slot c.min.result c.args.pairs.now c.loop-rest.rest.now some c.args.slab.now c.loop-rest.slab c.split_at.ensures.front i.added in
    let e = c.in_err-sift_pairs.field-0.0 in
    rw (p.1, p.2) (record {
      cuts = c.sift_pairs.ensures.cuts ∙ i.cuts ∙ sym c.requires.cuts;
      added = tt;
      within = tt;
      too_many = λ is. let same : halt_of e ≡ halt.TooMany = cc in let many = c.in_err-sift_pairs.ensures.too_many (ap (λ x. Err x) (many_were e same)) in omega (arith, many, few);
      stopped = λ is. let same : halt_of e ≡ halt.Stopped = cc in absurd (none_stopped e same);
      alone = λ none is. let same : halt_of e ≡ halt.Stopped = cc in none_stopped e same;
    })

pub loop-rest-preserved : goal.loop-rest-preserved
loop-rest-preserved c =
    let i = c.loop-rest.invariant in
    let P = λ (pair : Pair). pair.b < length c.args.problem.now.tracks in
    let rest = c.loop-rest.rest.now in
    let n = c.min.result in
    record {
      cuts = c.sift_pairs.ensures.cuts ∙ i.cuts;
      exist = subst (λ (ps : List Pair). All P ps) (sym c.split_at.ensures.back) (All-drop P n rest i.exist);
      room = c.in_ok-sift_pairs.ensures.within;
      added = more_so_far (plain_problem c.args.problem.now) c.args.slot n c.args.pairs.now rest c.split_at.result.0.now c.args.slab.now c.loop-rest.slab c.split_at.ensures.front i.added
          c.sift_pairs.new.slab c.split_at.result.1.now c.split_at.ensures.back c.in_ok-sift_pairs.ensures.added;
    }

pub returns : goal.returns
returns c =
    let i = c.loop-rest.invariant in
    let none : length c.loop-rest.rest.now ≡ 0 = search (rules, c.loop-rest-test.false) in
    record {
      cuts = i.cuts ∙ sym c.requires.cuts;
      added = all_so_far (plain_problem c.args.problem.now) c.args.slot c.args.pairs.now c.loop-rest.rest.now c.args.slab.now c.loop-rest.slab (nil_from_length c.loop-rest.rest.now none) i.added;
      within = i.room;
      too_many = λ is. absurd cc;
      stopped = λ is. absurd cc;
      alone = λ none is. cc;
    }

pub sift_pairs-requires-clause-cuts : goal.sift_pairs-requires-clause-cuts
sift_pairs-requires-clause-cuts c = c.loop-rest.invariant.cuts
