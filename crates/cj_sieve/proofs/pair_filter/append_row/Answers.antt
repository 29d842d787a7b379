use Rattle.std.proofs.Common.{◌≡◌, ℕ, ◌+◌, ◌-◌, ◌<◌, ◌++◌, Vec, Global, length, map, filter, sym, ap, ◌∙◌, arith, append-nil}
use Rattle.std.specs.List.{range_with_len}
use Rattle.std.proofs.lemmas.Result.{IfOk-from_err}
use Rattle.std.proofs.lemmas.List.{map_push}
use Rattle.cj_case.specs.declared.pair.Pair.{Pair}
use Rattle.cj_case.specs.Pairs.{objects_of}
use Rattle.cj_case.proofs.PairLemmas.{pair_taken, pair_left, row_to}
use Rattle.cj_sieve.specs.Among.{keeps_among}
use Rattle.cj_sieve.proofs.pair_filter.append_row.Goals as goal
use Rattle.cj_sieve.proofs.pair_filter.append_row.Goals.{then-keeps+in_ok-push, else-keeps}

pub loop-b-preserved : goal.loop-b-preserved
loop-b-preserved c =
    let lt : c.args.a < c.loop-b.b = omega arith in
    let done = map objects_of c.args.pairs.now.items in
    let now = map objects_of c.loop-b.pairs.items in
    elim c.if-keeps.branch [
      | then-keeps+in_ok-push w ↦
          ap (λ (v : Vec Pair Global). map objects_of v.items) w.pairs-is
          ∙ ap (map objects_of) w.in_ok-push.ensures.items
          ∙ map_push objects_of c.loop-b.pairs.items _
          ∙ pair_taken (keeps_among c.args.objects.now) c.args.a c.loop-b.b done now lt (sym c.keeps.ensures.value ∙ w.if-keeps.true) c.loop-b.invariant
      | else-keeps w ↦
          ap (λ (v : Vec Pair Global). map objects_of v.items) w.pairs-is
          ∙ pair_left (keeps_among c.args.objects.now) c.args.a c.loop-b.b done now lt (sym c.keeps.ensures.value ∙ w.if-keeps.false) c.loop-b.invariant
    ]

pub keeps-requires : goal.keeps-requires
keeps-requires c = omega arith

pub loop-b-init : goal.loop-b-init
loop-b-init c =
    let a = c.args.a in
    let done = map objects_of c.args.pairs.now.items in
    let none : a + 1 - (a + 1) ≡ 0 = omega arith in
    sym (append-nil done) ∙ ap (λ (n : ℕ). done ++ filter (keeps_among c.args.objects.now) (map (λ (b : ℕ). (a, b)) (range_with_len (a + 1) n))) (sym none)

pub returns-in_err-push : goal.returns-in_err-push
returns-in_err-push c = IfOk-from_err c.from_residual.result _ c.from_residual.ensures.0

pub returns : goal.returns
returns c =
    let end : c.loop-b.b ≡ length c.args.objects.now.shells.now = omega arith in
    c.loop-b.invariant ∙ ap (λ (b : ℕ). map objects_of c.args.pairs.now.items ++ filter (keeps_among c.args.objects.now) (row_to c.args.a b)) end
