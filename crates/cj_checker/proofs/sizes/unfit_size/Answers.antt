use Rattle.std.proofs.Common.{◌∙◌, ℕ, get_or, sym, ap, arith}
use Rattle.std.specs.List.{enumerate_from}
use Rattle.std.specs.Prelude.{slice_get}
use Rattle.std.proofs.lemmas.List.FromFn.{length-enumerate_from}
use Rattle.std.proofs.lemmas.Option.{slice_get-get_or, slice_get_past}
use Rattle.cj_formats.specs.declared.check_cause.CheckCause.TheVariants.{SizeOf}
use Rattle.cj_checker.specs.First.{first_line}
use Rattle.cj_checker.specs.Tests.{is_size_line}
use Rattle.cj_checker.proofs.UnfitLemmas.{unfit_more, unfit_now, unfit_short, unfit_done, unnumbered}
use Rattle.cj_checker.proofs.sizes.unfit_size.Goals as goal

pub returns-then-not-is_size_line : goal.returns-then-not-is_size_line
returns-then-not-is_size_line c =
    let lines = c.args.lines.now in
    let at = c.loop-line.line-index in
    let line = get_or lines at (record { object = 0; size = 0 }) in
    let is = ap (λ (k : ℕ). slice_get lines k) c.loop-line.invariant.place ∙ slice_get-get_or lines at (record { object = 0; size = 0 }) c.loop-line-test.true in
    c.failed.ensures
    ∙ sym (c.loop-line.invariant.rest ∙ unfit_now is_size_line SizeOf first_line (enumerate_from 0 c.args.sizes.now) lines c.loop-line.object line is (sym c.is_size_line.ensures ∙ c.if-not-is_size_line.true))

pub loop-line-preserved : goal.loop-line-preserved
loop-line-preserved c =
    let lines = c.args.lines.now in
    let at = c.loop-line.line-index in
    let line = get_or lines at (record { object = 0; size = 0 }) in
    let is = ap (λ (k : ℕ). slice_get lines k) c.loop-line.invariant.place ∙ slice_get-get_or lines at (record { object = 0; size = 0 }) c.loop-line-test.true in
    record {
      place = omega (arith, c.loop-line.invariant.place);
      rest = c.loop-line.invariant.rest
          ∙ unfit_more is_size_line SizeOf first_line (enumerate_from 0 c.args.sizes.now) lines c.loop-line.object line is (sym c.is_size_line.ensures ∙ c.if-not-is_size_line.false);
    }

pub returns-then-object-sizes : goal.returns-then-object-sizes
returns-then-object-sizes c =
    let sizes = c.args.sizes.now in
    let lines = c.args.lines.now in
    let object = c.loop-line.object in
    let past = slice_get_past lines object (omega (arith, c.loop-line.invariant.place, c.loop-line-test.false)) in
    let count = length-enumerate_from 0 sizes in
    c.failed-then-object-sizes.ensures
    ∙ sym (c.loop-line.invariant.rest ∙ unfit_short is_size_line SizeOf first_line (enumerate_from 0 sizes) lines object past (omega (arith, count, c.if-object-sizes.true)))

pub returns : goal.returns
returns c =
    let sizes = c.args.sizes.now in
    let lines = c.args.lines.now in
    let object = c.loop-line.object in
    let past = slice_get_past lines object (omega (arith, c.loop-line.invariant.place, c.loop-line-test.false)) in
    let none = unnumbered 0 sizes object (slice_get_past sizes object c.if-object-sizes.false) in
    sym (c.loop-line.invariant.rest ∙ unfit_done is_size_line SizeOf first_line (enumerate_from 0 sizes) lines object past none)
