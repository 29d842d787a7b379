use Rattle.std.proofs.Common.{◌<◌, List, Vec, Global, filter, map, length, sym, ap, subst, ◌∙◌, arith}
use Rattle.std.proofs.lemmas.List.{take_all}
use Rattle.std.proofs.lemmas.Result.{err_from_is_err_and}
use Rattle.cj_case.specs.declared.pair.Pair.{Pair}
use Rattle.cj_case.specs.Pairs.{objects_of}
use Rattle.cj_sieve.specs.Among.{keeps_among}
use Rattle.cj_candidates.proofs.KeepingLemmas.{pair_found, pair_passed}
use Rattle.cj_candidates.proofs.keeping.kept_of.Goals as goal
use Rattle.cj_candidates.proofs.keeping.kept_of.Goals.{then-keeps+in_ok-push, else-keeps}

pub keeps-requires : goal.keeps-requires
keeps-requires c =
    let lt : c.loop-pair.pair-index < length c.args.pairs.now = omega arith in
    subst (λ (p : Pair). p.b < length c.args.objects.now.shells.now) (sym c.pair-item.is) (c.requires c.loop-pair.pair-index c.pair-item.result lt)

pub loop-pair-preserved : goal.loop-pair-preserved
loop-pair-preserved c =
    let p = keeps_among c.args.objects.now in
    let pairs = c.args.pairs.now in
    let k = c.loop-pair.pair-index in
    let pair = c.pair-item.result in
    let lt : k < length pairs = omega arith in
    elim c.if-keeps.branch [
      | then-keeps+in_ok-push w ↦
          ap (λ (v : Vec Pair Global). map objects_of v.items) w.kept-is
          ∙ pair_found p pairs c.loop-pair.kept.items _ k pair lt c.pair-item.is (sym c.keeps.ensures.value ∙ w.if-keeps.true) w.in_ok-push.ensures.items c.loop-pair.invariant
      | else-keeps w ↦
          ap (λ (v : Vec Pair Global). map objects_of v.items) w.kept-is
          ∙ pair_passed p pairs c.loop-pair.kept.items k pair lt c.pair-item.is (sym c.keeps.ensures.value ∙ w.if-keeps.false) c.loop-pair.invariant
    ]

pub returns : goal.returns
returns c =
    let pairs = c.args.pairs.now in
    let all = take_all c.loop-pair.pair-index pairs (omega arith) in
    c.loop-pair.invariant ∙ ap (λ (some : List Pair). filter (keeps_among c.args.objects.now) (map objects_of some)) all

pub loop-pair-init : goal.loop-pair-init
loop-pair-init c = ap (λ (some : List Pair). map objects_of some) c.in_ok-kept.ensures.items

pub returns-in_err-kept : goal.returns-in_err-kept
returns-in_err-kept c = rw (err_from_is_err_and c.from_residual.result c.from_residual.ensures.1).1 tt

pub returns-in_err-push : goal.returns-in_err-push
returns-in_err-push c = rw (err_from_is_err_and c.from_residual-in_err-push.result c.from_residual-in_err-push.ensures.1).1 tt
