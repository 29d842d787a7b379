use Rattle.std.proofs.Common.{◌≡◌, ◌+◌, ◌++◌, map, subst, sym, ℕ}
use Rattle.cj_hermite.specs.CommonRuns.{run_of}
use Rattle.cj_track.specs.Tracks.{plain_track}
use Rattle.cj_coverage.specs.Coverage as spec
use Rattle.cj_coverage.proofs.StretchLemmas.{all_made, apart_spans, exact_spans, none_behind, none_here, one_more}
use Rattle.cj_coverage.proofs.spans.covered_spans.Goals as goal

pub loop-span-preserved : goal.loop-span-preserved
loop-span-preserved c =
    let e = plain_track c.args.track.now in
    let first = c.args.window.first.micros in
    let last = c.args.window.last.micros in
    let more = one_more e c.loop-span.from.micros last c.loop-span.spans.items c.push.new.self.items c.in-Some.span (spec.covered_spans e first last) c.in-Some.ensures c.loop-span.invariant
    c.in_ok-push.ensures.items in
    subst (λ (m : ℕ). map run_of c.push.new.self.items ++ spec.covered_spans e m last ≡ spec.covered_spans e first last) (sym c.next-from.ensures) more

pub returns-then-span-window-clause-value : goal.returns-then-span-window-clause-value
returns-then-span-window-clause-value c =
    let e = plain_track c.args.track.now in
    let last = c.args.window.last.micros in
    let end = c.in-Some.span.last.micros in
    let whole = spec.covered_spans e c.args.window.first.micros last in
    all_made e (end + 1) last c.push.new.self.items whole (none_behind e end last c.if-span-window.true)
    (one_more e c.loop-span.from.micros last c.loop-span.spans.items c.push.new.self.items c.in-Some.span whole c.in-Some.ensures c.loop-span.invariant c.in_ok-push.ensures.items)

pub returns-then-span-window-clause-exact : goal.returns-then-span-window-clause-exact
returns-then-span-window-clause-exact c =
    exact_spans (plain_track c.args.track.now) c.args.window.first.micros c.args.window.last.micros (map run_of c.push.new.self.items) (returns-then-span-window-clause-value c)

pub returns-then-span-window-clause-apart : goal.returns-then-span-window-clause-apart
returns-then-span-window-clause-apart c =
    apart_spans (plain_track c.args.track.now) c.args.window.first.micros c.args.window.last.micros (map run_of c.push.new.self.items) (returns-then-span-window-clause-value c)

pub returns-clause-value : goal.returns-clause-value
returns-clause-value c =
    let e = plain_track c.args.track.now in
    let last = c.args.window.last.micros in
    all_made e c.loop-span.from.micros last c.loop-span.spans.items (spec.covered_spans e c.args.window.first.micros last)
    (none_here c.next_span.result _ _ c.next_span.ensures c.in_default.not-Some) c.loop-span.invariant

pub returns-clause-exact : goal.returns-clause-exact
returns-clause-exact c = exact_spans (plain_track c.args.track.now) c.args.window.first.micros c.args.window.last.micros (map run_of c.loop-span.spans.items) (returns-clause-value c)

pub returns-clause-apart : goal.returns-clause-apart
returns-clause-apart c = apart_spans (plain_track c.args.track.now) c.args.window.first.micros c.args.window.last.micros (map run_of c.loop-span.spans.items) (returns-clause-value c)
