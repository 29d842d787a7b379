use Rattle.std.proofs.Common.{ℕ, arith, ap, sym, ◌∙◌}
use Rattle.cj_hermite.proofs.TrackLemmas.{over_part}
use Rattle.cj_hermite.specs.Ready.{curve_ready}
use Rattle.cj_bezier.specs.Halving.{middle}
use Rattle.cj_bezier.proofs.JudgeLemmas.{split_has_two}
use Rattle.cj_brief_checker.specs.FarThroughout.{are_far as the_are_far}
use Rattle.cj_brief_checker.proofs.FarLemmas.{verdict_near, verdict_far, verdict_undecided, verdict_split, both_halves, first_half}
use Rattle.cj_brief_checker.proofs.far.+are_far.Goals as goal

pub next-next-requires : goal.next-next-requires
next-next-requires t c =
    let more = split_has_two (curve_ready c.args.a.now) (curve_ready c.args.b.now) c.args.thr c.args.first.micros c.args.last.micros
    c.requires.least c.requires.order c.requires.first_over c.requires.second_over (sym c.in-Split.is ∙ c.requires.verdict) in
    let range = c.args.last.in_range in
    omega (arith, more, range.1)

pub judge-requires : goal.judge-requires
judge-requires t c =
    let a = curve_ready c.args.a.now in
    let b = curve_ready c.args.b.now in
    let first = c.args.first.micros in
    let last = c.args.last.micros in
    let more = split_has_two a b c.args.thr first last c.requires.least c.requires.order c.requires.first_over c.requires.second_over (sym c.in-Split.is ∙ c.requires.verdict) in
    record {
      order = omega (arith, more);
      first_over = over_part a first last first (middle first last) c.requires.first_over (omega arith) (omega (arith, more));
      second_over = over_part b first last first (middle first last) c.requires.second_over (omega arith) (omega (arith, more));
      least = c.requires.least;
      most = c.requires.most;
    }

pub are_far-requires : goal.are_far-requires
are_far-requires t c =
    let a = curve_ready c.args.a.now in
    let b = curve_ready c.args.b.now in
    let first = c.args.first.micros in
    let last = c.args.last.micros in
    let more = split_has_two a b c.args.thr first last c.requires.least c.requires.order c.requires.first_over c.requires.second_over (sym c.in-Split.is ∙ c.requires.verdict) in (
      omega (arith, c.decreases, more),
      (
        omega (arith, more),
        (
          over_part a first last first (middle first last) c.requires.first_over (omega arith) (omega (arith, more)),
          (over_part b first last first (middle first last) c.requires.second_over (omega arith) (omega (arith, more)), (c.requires.least, (c.requires.most, c.judge.ensures))),
        ),
      ),
    )

pub judge-requires-then-are_far : goal.judge-requires-then-are_far
judge-requires-then-are_far t c =
    let a = curve_ready c.args.a.now in
    let b = curve_ready c.args.b.now in
    let first = c.args.first.micros in
    let last = c.args.last.micros in
    let next = c.next-next.ensures in
    let more = split_has_two a b c.args.thr first last c.requires.least c.requires.order c.requires.first_over c.requires.second_over (sym c.in-Split.is ∙ c.requires.verdict) in
    record {
      order = omega (arith, more, next);
      first_over = over_part a first last c.next-next.result.micros last c.requires.first_over (omega (arith, more, next)) (omega arith);
      second_over = over_part b first last c.next-next.result.micros last c.requires.second_over (omega (arith, more, next)) (omega arith);
      least = c.requires.least;
      most = c.requires.most;
    }

pub are_far-requires-then-are_far : goal.are_far-requires-then-are_far
are_far-requires-then-are_far t c =
    let a = curve_ready c.args.a.now in
    let b = curve_ready c.args.b.now in
    let first = c.args.first.micros in
    let last = c.args.last.micros in
    let next = c.next-next.ensures in
    let more = split_has_two a b c.args.thr first last c.requires.least c.requires.order c.requires.first_over c.requires.second_over (sym c.in-Split.is ∙ c.requires.verdict) in (
      omega (arith, c.decreases, more, next),
      (
        omega (arith, more, next),
        (
          over_part a first last c.next-next.result.micros last c.requires.first_over (omega (arith, more, next)) (omega arith),
          (
            over_part b first last c.next-next.result.micros last c.requires.second_over (omega (arith, more, next)) (omega arith),
            (c.requires.least, (c.requires.most, c.judge-then-are_far.ensures)),
          ),
        ),
      ),
    )

pub returns-in-Near : goal.returns-in-Near
returns-in-Near t c one other = verdict_near c.args.thr (curve_ready c.args.a.now) (curve_ready c.args.b.now) one other c.args.first.micros c.args.last.micros (sym c.in-Near.is ∙ c.requires.verdict)

pub returns-in-Far : goal.returns-in-Far
returns-in-Far t c one other = verdict_far c.args.thr (curve_ready c.args.a.now) (curve_ready c.args.b.now) one other c.args.first.micros c.args.last.micros (sym c.in-Far.is ∙ c.requires.verdict)

pub returns-in-Undecided : goal.returns-in-Undecided
returns-in-Undecided t c one other =
    verdict_undecided c.args.thr (curve_ready c.args.a.now) (curve_ready c.args.b.now) one other c.args.first.micros c.args.last.micros (sym c.in-Undecided.is ∙ c.requires.verdict)

pub returns-then-are_far : goal.returns-then-are_far
returns-then-are_far t c one other =
    let e = c.args.thr in
    let a = curve_ready c.args.a.now in
    let b = curve_ready c.args.b.now in
    let first = c.args.first.micros in
    let last = c.args.last.micros in
    both_halves (the_are_far e a b one other first last) _ _ _ _
    (verdict_split e a b one other first last c.requires.least c.requires.order c.requires.first_over c.requires.second_over (sym c.in-Split.is ∙ c.requires.verdict))
    (c.are_far.ensures one other) c.if-are_far.true (c.are_far-then-are_far.ensures one other ∙ ap (λ (m : ℕ). the_are_far e a b one other m last) c.next-next.ensures)

pub returns-else-are_far : goal.returns-else-are_far
returns-else-are_far t c one other =
    let e = c.args.thr in
    let a = curve_ready c.args.a.now in
    let b = curve_ready c.args.b.now in
    let first = c.args.first.micros in
    let last = c.args.last.micros in
    first_half (the_are_far e a b one other first last) _ _ _
    (verdict_split e a b one other first last c.requires.least c.requires.order c.requires.first_over c.requires.second_over (sym c.in-Split.is ∙ c.requires.verdict))
    (c.are_far.ensures one other) c.if-are_far.false
