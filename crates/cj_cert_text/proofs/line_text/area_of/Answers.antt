use Rattle.std.proofs.Common.{Ok, ap, of_z, rules, sym, to_z, to_z-of_z, ◌≡◌, ◌∙◌, ℤ}
use Rattle.std.proofs.lemmas.Result.{err_from_is_err_and}
use Rattle.std.specs.Int.{w64}
use Rattle.cj_cert.specs.Certificates.{PlainBoxLine}
use Rattle.cj_cert_text.specs.Lines.{Box}
use Rattle.cj_cert_text.proofs.BoxLemmas.{IsRefused, IsTaken, as_cause, at, box_taken, from_refused, has_slots, object_refused, passed, same_box, to_refused, too_few, too_many, x_refused, y_refused, z_refused}
use Rattle.cj_cert_text.proofs.line_text.area_of.Goals as goal

abbrev stored : ℤ → ℤ
stored z = to_z w64 (of_z w64 z)

pub returns-in_err-x_least : goal.returns-in_err-x_least
returns-in_err-x_least c =
    let ns = c.args.ends.now in
    let e0 : passed (at ns 0) ≡ at ns 0 = search (rules, to_z-of_z) in
    let e1 : passed (at ns 1) ≡ at ns 1 = search (rules, to_z-of_z) in
    let x : IsRefused (passed (at ns 0)) (passed (at ns 1)) c.in_err-x_least.field-0.0 = c.in_err-x_least.ensures.value in
    let slots = has_slots c.args.format c.args.number c.args.first c.args.last c.in_ok-first.first c.ranges.number c.ranges.first c.ranges.last
    c.in_ok-object.ensures.0 c.in_ok-first.ensures.0 c.in_ok-first.ensures.1 (rw (c.from.ensures, c.from-2.ensures) at c.in_ok-last.ensures.0) in
    let refused = x_refused c.args.format c.args.number c.args.first c.args.last ns c.in-len6.len_at_least c.in-len6.len_below slots (rw (e0, e1) at x.0) in
    let p = err_from_is_err_and c.from_residual-in_err-x_least.result c.from_residual-in_err-x_least.ensures.1 in
    rw (p.1, p.2) (as_cause _ c.in_err-x_least.field-0.0 refused x.1)

pub returns-in_err-y_least : goal.returns-in_err-y_least
returns-in_err-y_least c =
    let ns = c.args.ends.now in
    let e0 : passed (at ns 0) ≡ at ns 0 = search (rules, to_z-of_z) in
    let e1 : passed (at ns 1) ≡ at ns 1 = search (rules, to_z-of_z) in
    let e2 : passed (at ns 2) ≡ at ns 2 = search (rules, to_z-of_z) in
    let e3 : passed (at ns 3) ≡ at ns 3 = search (rules, to_z-of_z) in
    let x : IsTaken (passed (at ns 0)) (passed (at ns 1)) c.in_ok-x_least.x_least c.in_ok-x_least.x_most = c.in_ok-x_least.ensures.value in
    let y : IsRefused (passed (at ns 2)) (passed (at ns 3)) c.in_err-y_least.field-0.0 = c.in_err-y_least.ensures.value in
    let slots = has_slots c.args.format c.args.number c.args.first c.args.last c.in_ok-first.first c.ranges.number c.ranges.first c.ranges.last
    c.in_ok-object.ensures.0 c.in_ok-first.ensures.0 c.in_ok-first.ensures.1 (rw (c.from.ensures, c.from-2.ensures) at c.in_ok-last.ensures.0) in
    let refused = y_refused c.args.format c.args.number c.args.first c.args.last ns c.in-len6.len_at_least c.in-len6.len_below slots (rw (e0, e1) at x.0) (rw (e2, e3) at y.0) in
    let p = err_from_is_err_and c.from_residual-in_err-y_least.result c.from_residual-in_err-y_least.ensures.1 in
    rw (p.1, p.2) (as_cause _ c.in_err-y_least.field-0.0 refused y.1)

pub returns-in_err-z_least : goal.returns-in_err-z_least
returns-in_err-z_least c =
    let ns = c.args.ends.now in
    let e0 : passed (at ns 0) ≡ at ns 0 = search (rules, to_z-of_z) in
    let e1 : passed (at ns 1) ≡ at ns 1 = search (rules, to_z-of_z) in
    let e2 : passed (at ns 2) ≡ at ns 2 = search (rules, to_z-of_z) in
    let e3 : passed (at ns 3) ≡ at ns 3 = search (rules, to_z-of_z) in
    let e4 : passed (at ns 4) ≡ at ns 4 = search (rules, to_z-of_z) in
    let e5 : passed (at ns 5) ≡ at ns 5 = search (rules, to_z-of_z) in
    let x : IsTaken (passed (at ns 0)) (passed (at ns 1)) c.in_ok-x_least.x_least c.in_ok-x_least.x_most = c.in_ok-x_least.ensures.value in
    let y : IsTaken (passed (at ns 2)) (passed (at ns 3)) c.in_ok-y_least.y_least c.in_ok-y_least.y_most = c.in_ok-y_least.ensures.value in
    let z : IsRefused (passed (at ns 4)) (passed (at ns 5)) c.in_err-z_least.field-0.0 = c.in_err-z_least.ensures.value in
    let slots = has_slots c.args.format c.args.number c.args.first c.args.last c.in_ok-first.first c.ranges.number c.ranges.first c.ranges.last
    c.in_ok-object.ensures.0 c.in_ok-first.ensures.0 c.in_ok-first.ensures.1 (rw (c.from.ensures, c.from-2.ensures) at c.in_ok-last.ensures.0) in
    let refused = z_refused c.args.format c.args.number c.args.first c.args.last ns c.in-len6.len_at_least c.in-len6.len_below slots (rw (e0, e1) at x.0) (rw (e2, e3) at y.0) (rw (e4, e5) at z.0) in
    let p = err_from_is_err_and c.from_residual-in_err-z_least.result c.from_residual-in_err-z_least.ensures.1 in
    rw (p.1, p.2) (as_cause _ c.in_err-z_least.field-0.0 refused z.1)

pub returns : goal.returns
returns c =
    let ns = c.args.ends.now in
    let e0 : passed (at ns 0) ≡ at ns 0 = search (rules, to_z-of_z) in
    let e1 : passed (at ns 1) ≡ at ns 1 = search (rules, to_z-of_z) in
    let e2 : passed (at ns 2) ≡ at ns 2 = search (rules, to_z-of_z) in
    let e3 : passed (at ns 3) ≡ at ns 3 = search (rules, to_z-of_z) in
    let e4 : passed (at ns 4) ≡ at ns 4 = search (rules, to_z-of_z) in
    let e5 : passed (at ns 5) ≡ at ns 5 = search (rules, to_z-of_z) in
    let x : IsTaken (passed (at ns 0)) (passed (at ns 1)) c.in_ok-x_least.x_least c.in_ok-x_least.x_most = c.in_ok-x_least.ensures.value in
    let y : IsTaken (passed (at ns 2)) (passed (at ns 3)) c.in_ok-y_least.y_least c.in_ok-y_least.y_most = c.in_ok-y_least.ensures.value in
    let z : IsTaken (passed (at ns 4)) (passed (at ns 5)) c.in_ok-z_least.z_least c.in_ok-z_least.z_most = c.in_ok-z_least.ensures.value in
    let x_least : stored c.in_ok-x_least.x_least ≡ c.in_ok-x_least.x_least = search (rules, to_z-of_z) in
    let x_most : stored c.in_ok-x_least.x_most ≡ c.in_ok-x_least.x_most = search (rules, to_z-of_z) in
    let y_least : stored c.in_ok-y_least.y_least ≡ c.in_ok-y_least.y_least = search (rules, to_z-of_z) in
    let y_most : stored c.in_ok-y_least.y_most ≡ c.in_ok-y_least.y_most = search (rules, to_z-of_z) in
    let z_least : stored c.in_ok-z_least.z_least ≡ c.in_ok-z_least.z_least = search (rules, to_z-of_z) in
    let z_most : stored c.in_ok-z_least.z_most ≡ c.in_ok-z_least.z_most = search (rules, to_z-of_z) in
    let slots = has_slots c.args.format c.args.number c.args.first c.args.last c.in_ok-first.first c.ranges.number c.ranges.first c.ranges.last
    c.in_ok-object.ensures.0 c.in_ok-first.ensures.0 c.in_ok-first.ensures.1 (rw (c.from.ensures, c.from-2.ensures) at c.in_ok-last.ensures.0) in
    let object = sym (rw (to_z-of_z c.ranges.number) at c.in_ok-object.ensures.1) in
    let from = sym (rw (to_z-of_z c.ranges.first) at c.in_ok-first.ensures.1) in
    let to = sym (rw (to_z-of_z c.ranges.last) at c.in_ok-last.ensures.1) in
    let taken = box_taken c.args.format c.args.number c.args.first c.args.last ns c.in-len6.len_at_least c.in-len6.len_below slots (rw (e0, e1) at x.0) (rw (e2, e3) at y.0) (rw (e4, e5) at z.0) in
    taken
    ∙ ap (λ (b : PlainBoxLine). Ok (Box b)) (
    same_box _ _ _ _ _ _ _ _ _ _ _ _ _ _ _ _ _ _ object from to
    (sym (x_least ∙ (ap (λ (q : ℤ × ℤ). q.0) x.1 ∙ e0)))
    (sym (x_most ∙ (ap (λ (q : ℤ × ℤ). q.1) x.1 ∙ e1)))
    (sym (y_least ∙ (ap (λ (q : ℤ × ℤ). q.0) y.1 ∙ e2)))
    (sym (y_most ∙ (ap (λ (q : ℤ × ℤ). q.1) y.1 ∙ e3)))
    (sym (z_least ∙ (ap (λ (q : ℤ × ℤ). q.0) z.1 ∙ e4)))
    (sym (z_most ∙ (ap (λ (q : ℤ × ℤ). q.1) z.1 ∙ e5)))
    )

pub returns-in_default : goal.returns-in_default
returns-in_default c = too_few c.args.format c.args.number c.args.first c.args.last c.args.ends.now c.in_default.len_below

pub returns-in_default-2 : goal.returns-in_default-2
returns-in_default-2 c = too_many c.args.format c.args.number c.args.first c.args.last c.args.ends.now c.in_default.len_at_least

pub returns-in_err-object : goal.returns-in_err-object
returns-in_err-object c =
    let ns = c.args.ends.now in
    let object = rw (to_z-of_z c.ranges.number) at c.in_err-object.ensures.0 in
    let p = err_from_is_err_and c.from_residual.result c.from_residual.ensures.1 in
    rw (p.1, p.2) (as_cause _ c.in_err-object.field-0.0 (object_refused c.args.format c.args.number c.args.first c.args.last ns c.in-len6.len_at_least c.in-len6.len_below object) c.in_err-object.ensures.1)

pub returns-in_err-first : goal.returns-in_err-first
returns-in_err-first c =
    let ns = c.args.ends.now in
    let object = rw (to_z-of_z c.ranges.number) at c.in_ok-object.ensures.0 in
    let from = rw (to_z-of_z c.ranges.first) at c.in_err-first.ensures.0 in
    let p = err_from_is_err_and c.from_residual-in_err-first.result c.from_residual-in_err-first.ensures.1 in
    rw (p.1, p.2) (as_cause _ c.in_err-first.field-0.0 (from_refused c.args.format c.args.number c.args.first c.args.last ns c.in-len6.len_at_least c.in-len6.len_below object from) c.in_err-first.ensures.1)

pub returns-in_err-last : goal.returns-in_err-last
returns-in_err-last c =
    let ns = c.args.ends.now in
    let object = rw (to_z-of_z c.ranges.number) at c.in_ok-object.ensures.0 in
    let from = rw (to_z-of_z c.ranges.first) at c.in_ok-first.ensures.0 in
    let to = rw (c.from.ensures, c.from-2.ensures, c.in_ok-first.ensures.1, to_z-of_z c.ranges.first, to_z-of_z c.ranges.last) at c.in_err-last.ensures.0 in
    let p = err_from_is_err_and c.from_residual-in_err-last.result c.from_residual-in_err-last.ensures.1 in
    rw (p.1, p.2) (as_cause _ c.in_err-last.field-0.0 (to_refused c.args.format c.args.number c.args.first c.args.last ns c.in-len6.len_at_least c.in-len6.len_below object from to) c.in_err-last.ensures.1)
