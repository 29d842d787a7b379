use Rattle.std.proofs.Common.{◌∙◌, ◌&&◌, length, refl, sym}
use Rattle.std.specs.Prelude.{◌==◌}
use Rattle.std.proofs.lemmas.Bool.{eq-eqb, ne_eqb}
use Rattle.std.proofs.lemmas.Option.{slice_get_past, slice_get_read}
use Rattle.cj_checker.specs.Tests.{is_size_line}
use Rattle.cj_checker.proofs.UnfitLemmas.{fits_some, fits_none}
use Rattle.cj_checker.proofs.sizes.is_size_line.Goals as goal

pub returns-in-None : goal.returns-in-None
returns-in-None c =
    let sizes = c.args.sizes.now in
    let past = c.in-None.ensures.lookup in
    fits_none is_size_line sizes c.args.object c.args.line (slice_get_past sizes c.args.object past.3)

pub returns-then-line-object : goal.returns-then-line-object
returns-then-line-object c =
    let sizes = c.args.sizes.now in
    let line = c.args.line in
    let size = c.in-Some.size.now in
    let found = c.in-Some.ensures.lookup in
    let at = found.3 in
    let own = eq-eqb line.object c.args.object c.if-line-object.true in
    (λ j. sym own j && (line.size == size)) ∙ fits_some is_size_line sizes c.args.object size line (slice_get_read sizes (length sizes) c.args.object size refl at.0 (at.1 size))

pub returns-else-line-object : goal.returns-else-line-object
returns-else-line-object c =
    let sizes = c.args.sizes.now in
    let line = c.args.line in
    let size = c.in-Some.size.now in
    let found = c.in-Some.ensures.lookup in
    let at = found.3 in
    let other = ne_eqb line.object c.args.object c.if-line-object.false in
    other ∙ ((λ j. sym other j && (line.size == size)) ∙ fits_some is_size_line sizes c.args.object size line (slice_get_read sizes (length sizes) c.args.object size refl at.0 (at.1 size)))
