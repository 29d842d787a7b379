use Rattle.std.proofs.Common.{◌∙◌, ℕ, Bool, get_or, sym, ap, arith}
use Rattle.std.specs.Prelude.{◌==◌, slice_get}
use Rattle.std.proofs.lemmas.Option.{slice_get-get_or, slice_get_past}
use Rattle.cj_formats.specs.declared.check_cause.CheckCause.TheVariants.{PrimaryOf}
use Rattle.cj_checker.proofs.UnfitLemmas.{unfit_more, unfit_now, unfit_short, unfit_done}
use Rattle.cj_brief_checker.proofs.primaries.unfit_primary.Goals as goal

abbrev fits : ℕ → ℕ → Bool
fits object line = object == line

pub returns-then-not-is_primary_line : goal.returns-then-not-is_primary_line
returns-then-not-is_primary_line c =
    let lines = c.args.lines.now in
    let at = c.loop-line.line-index in
    let line = get_or lines at 0 in
    let is = ap (λ (k : ℕ). slice_get lines k) c.loop-line.invariant.place ∙ slice_get-get_or lines at 0 c.loop-line-test.true in
    c.failed.ensures
    ∙ sym (c.loop-line.invariant.rest ∙ unfit_now fits PrimaryOf c.args.first c.args.named.now lines c.loop-line.place line is (sym c.is_primary_line.ensures ∙ c.if-not-is_primary_line.true))

pub loop-line-preserved : goal.loop-line-preserved
loop-line-preserved c =
    let lines = c.args.lines.now in
    let at = c.loop-line.line-index in
    let line = get_or lines at 0 in
    let is = ap (λ (k : ℕ). slice_get lines k) c.loop-line.invariant.place ∙ slice_get-get_or lines at 0 c.loop-line-test.true in
    record {
      place = omega (arith, c.loop-line.invariant.place);
      rest = c.loop-line.invariant.rest
          ∙ unfit_more fits PrimaryOf c.args.first c.args.named.now lines c.loop-line.place line is (sym c.is_primary_line.ensures ∙ c.if-not-is_primary_line.false);
    }

pub returns-then-place-named : goal.returns-then-place-named
returns-then-place-named c =
    let named = c.args.named.now in
    let lines = c.args.lines.now in
    let place = c.loop-line.place in
    let past = slice_get_past lines place (omega (arith, c.loop-line.invariant.place, c.loop-line-test.false)) in
    c.failed-then-place-named.ensures
    ∙ sym (c.loop-line.invariant.rest ∙ unfit_short fits PrimaryOf c.args.first named lines place past (omega (arith, c.if-place-named.true)))

pub returns : goal.returns
returns c =
    let named = c.args.named.now in
    let lines = c.args.lines.now in
    let place = c.loop-line.place in
    let past = slice_get_past lines place (omega (arith, c.loop-line.invariant.place, c.loop-line-test.false)) in
    let none = slice_get_past named place c.if-place-named.false in
    sym (c.loop-line.invariant.rest ∙ unfit_done fits PrimaryOf c.args.first named lines place past none)
