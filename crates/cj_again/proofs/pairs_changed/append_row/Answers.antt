use Rattle.std.proofs.Common.{◌≡◌, ℕ, ◌+◌, ◌-◌, ◌<◌, ◌++◌, Bool, Vec, Global, length, map, filter, sym, ap, ◌∙◌, arith, append-nil}
use Rattle.std.specs.Prelude.{not}
use Rattle.std.specs.List.{range_with_len}
use Rattle.std.proofs.lemmas.List.{map_push}
use Rattle.cj_case.specs.declared.pair.Pair.{Pair}
use Rattle.cj_case.specs.Pairs.{objects_of}
use Rattle.cj_case.specs.Problems.{plain_problem}
use Rattle.cj_case.specs.Unchanged.{is_unchanged}
use Rattle.cj_case.proofs.PairLemmas.{pair_left, pair_taken, row_to}
use Rattle.cj_again.proofs.pairs_changed.append_row.Goals as goal
use Rattle.cj_again.proofs.pairs_changed.append_row.Goals.{then-not-is_unchanged+in_ok-push, else-not-is_unchanged}

pub loop-b-preserved : goal.loop-b-preserved
loop-b-preserved c =
    let old = plain_problem c.args.matching.now.old.now in
    let new = plain_problem c.args.matching.now.new.now in
    let test : ℕ × ℕ → Bool = λ pair. not (is_unchanged old new pair) in
    let lt : c.args.a < c.loop-b.b = omega arith in
    let done = map objects_of c.args.pairs.now.items in
    let now = map objects_of c.loop-b.pairs.items in
    elim c.if-not-is_unchanged.branch [
      | then-not-is_unchanged+in_ok-push w ↦
          ap (λ (v : Vec Pair Global). map objects_of v.items) w.pairs-is
          ∙ ap (map objects_of) w.in_ok-push.ensures.items
          ∙ map_push objects_of c.loop-b.pairs.items _
          ∙ pair_taken test c.args.a c.loop-b.b done now lt (ap not (sym c.is_unchanged.ensures ∙ w.if-not-is_unchanged.true)) c.loop-b.invariant
      | else-not-is_unchanged w ↦
          ap (λ (v : Vec Pair Global). map objects_of v.items) w.pairs-is
          ∙ pair_left test c.args.a c.loop-b.b done now lt (ap not (sym c.is_unchanged.ensures ∙ w.if-not-is_unchanged.false)) c.loop-b.invariant
    ]

pub loop-b-init : goal.loop-b-init
loop-b-init c =
    let old = plain_problem c.args.matching.now.old.now in
    let new = plain_problem c.args.matching.now.new.now in
    let a = c.args.a in
    let done = map objects_of c.args.pairs.now.items in
    let none : a + 1 - (a + 1) ≡ 0 = omega arith in
    sym (append-nil done) ∙ ap (λ (n : ℕ). done ++ filter (λ pair. not (is_unchanged old new pair)) (map (λ (b : ℕ). let p : ℕ × ℕ = (a, b) in p) (range_with_len (a + 1) n))) (sym none)

pub returns : goal.returns
returns c =
    let old = plain_problem c.args.matching.now.old.now in
    let new = plain_problem c.args.matching.now.new.now in
    let end : c.loop-b.b ≡ length c.args.matching.now.new.now.tracks = omega (arith, c.objects-b-end.ensures) in
    c.loop-b.invariant ∙ ap (λ (b : ℕ). map objects_of c.args.pairs.now.items ++ filter (λ pair. not (is_unchanged old new pair)) (row_to c.args.a b)) end
