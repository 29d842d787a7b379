use Rattle.std.proofs.Common.{Ok, ap, arith, sym, to_z-of_z, ◌≡◌, ◌∙◌}
use Rattle.std.specs.Prelude.{unsigned_abs}
use Rattle.std.proofs.lemmas.Result.{err_from_is_err_and}
use Rattle.cj_cert_text.specs.Lines.{PlainLine, object_of}
use Rattle.cj_cert_text.proofs.BoxLemmas.{as_cause, cell_taken, first_refused, has_cell, last_refused, objects_refused, one_refused, other_refused, same_cell, ticks_refused}
use Rattle.cj_cert_text.proofs.line_text.cell_of.Goals as goal

pub returns-in_err-last : goal.returns-in_err-last
returns-in_err-last c =
    let last = rw (to_z-of_z c.ranges.last) at c.in_err-last.ensures.0 in
    let p = err_from_is_err_and c.from_residual-in_err-last.result c.from_residual-in_err-last.ensures.1 in
    rw (p.1, p.2) (as_cause _ c.in_err-last.field-0.0 (last_refused c.args.format c.args.a c.args.b c.args.first c.args.last c.args.kind last) c.in_err-last.ensures.1)

pub returns-then-b-a : goal.returns-then-b-a
returns-then-b-a c =
    let has =
    has_cell c.args.format c.args.a c.args.b c.args.first c.args.last c.ranges.a c.ranges.b c.ranges.first c.ranges.last
    c.in_ok-a.ensures.0 c.in_ok-b.ensures.0 c.in_ok-first.ensures.0 c.in_ok-last.ensures.0 in
    let a : c.in_ok-a.a ≡ object_of c.args.a = rw (to_z-of_z c.ranges.a) at c.in_ok-a.ensures.1 in
    let b : c.in_ok-b.b ≡ object_of c.args.b = rw (to_z-of_z c.ranges.b) at c.in_ok-b.ensures.1 in
    objects_refused c.args.format c.args.a c.args.b c.args.first c.args.last c.args.kind has (omega (arith, a, b, c.if-b-a.true))

pub returns-then-last-first : goal.returns-then-last-first
returns-then-last-first c =
    let has =
    has_cell c.args.format c.args.a c.args.b c.args.first c.args.last c.ranges.a c.ranges.b c.ranges.first c.ranges.last
    c.in_ok-a.ensures.0 c.in_ok-b.ensures.0 c.in_ok-first.ensures.0 c.in_ok-last.ensures.0 in
    let first : c.in_ok-first.first.micros ≡ unsigned_abs c.args.first = rw (to_z-of_z c.ranges.first) at c.in_ok-first.ensures.1 in
    let last : c.in_ok-last.last.micros ≡ unsigned_abs c.args.last = rw (to_z-of_z c.ranges.last) at c.in_ok-last.ensures.1 in
    ticks_refused c.args.format c.args.a c.args.b c.args.first c.args.last c.args.kind has (omega (arith, first, last, c.if-last-first.true))

pub returns : goal.returns
returns c =
    let has =
    has_cell c.args.format c.args.a c.args.b c.args.first c.args.last c.ranges.a c.ranges.b c.ranges.first c.ranges.last
    c.in_ok-a.ensures.0 c.in_ok-b.ensures.0 c.in_ok-first.ensures.0 c.in_ok-last.ensures.0 in
    let a : c.in_ok-a.a ≡ object_of c.args.a = rw (to_z-of_z c.ranges.a) at c.in_ok-a.ensures.1 in
    let b : c.in_ok-b.b ≡ object_of c.args.b = rw (to_z-of_z c.ranges.b) at c.in_ok-b.ensures.1 in
    let first : c.in_ok-first.first.micros ≡ unsigned_abs c.args.first = rw (to_z-of_z c.ranges.first) at c.in_ok-first.ensures.1 in
    let last : c.in_ok-last.last.micros ≡ unsigned_abs c.args.last = rw (to_z-of_z c.ranges.last) at c.in_ok-last.ensures.1 in
    cell_taken c.args.format c.args.a c.args.b c.args.first c.args.last c.args.kind has (omega (arith, a, b, c.if-b-a.false)) (omega (arith, first, last, c.if-last-first.false))
    ∙ ap (λ (l : PlainLine). Ok l) (same_cell _ _ _ _ _ _ _ _ c.args.kind (sym a) (sym b) (sym first) (sym last))

pub returns-in_err-a : goal.returns-in_err-a
returns-in_err-a c =
    let none = rw (to_z-of_z c.ranges.a) at c.in_err-a.ensures.0 in
    let p = err_from_is_err_and c.from_residual.result c.from_residual.ensures.1 in
    rw (p.1, p.2) (as_cause _ c.in_err-a.field-0.0 (one_refused c.args.format c.args.a c.args.b c.args.first c.args.last c.args.kind none) c.in_err-a.ensures.1)

pub returns-in_err-b : goal.returns-in_err-b
returns-in_err-b c =
    let none = rw (to_z-of_z c.ranges.b) at c.in_err-b.ensures.0 in
    let p = err_from_is_err_and c.from_residual-in_err-b.result c.from_residual-in_err-b.ensures.1 in
    rw (p.1, p.2) (as_cause _ c.in_err-b.field-0.0 (other_refused c.args.format c.args.a c.args.b c.args.first c.args.last c.args.kind none) c.in_err-b.ensures.1)

pub returns-in_err-first : goal.returns-in_err-first
returns-in_err-first c =
    let none = rw (to_z-of_z c.ranges.first) at c.in_err-first.ensures.0 in
    let p = err_from_is_err_and c.from_residual-in_err-first.result c.from_residual-in_err-first.ensures.1 in
    rw (p.1, p.2) (as_cause _ c.in_err-first.field-0.0 (first_refused c.args.format c.args.a c.args.b c.args.first c.args.last c.args.kind none) c.in_err-first.ensures.1)
