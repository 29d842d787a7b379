use Rattle.std.proofs.Common.{◌≡◌, ◌∙◌, ℕ, suc, length, Option, Some, refl, sym, ap, arith}
use Rattle.std.specs.Prelude.{option_map}
use Rattle.std.proofs.lemmas.Option.{slice_get_past, slice_get_read}
use Rattle.cj_case.specs.Boxes.{plain_box}
use Rattle.cj_cert.specs.declared.cert_lines.BoxLine.{BoxLine}
use Rattle.cj_checker.proofs.TableLemmas.{box_beyond, box_of_place}
use Rattle.cj_checker.proofs.listed.Listed.of.Goals as goal
use Rattle.cj_checker.proofs.listed.Listed.of.Goals.{then-slots-slot-via-then-slots-slot, then-slots-slot-via-else-slots-slot+then-objects-object}

pub returns-then-slots-slot : goal.returns-then-slots-slot
returns-then-slots-slot c =
    let t = c.args.self.now in
    let slots = c.slots.ensures.value in
    box_beyond t.boxes.now t.numbers c.args.slot c.args.object c.slots.ensures.even (elim c.then-slots-slot.branch [
      | then-slots-slot-via-then-slots-slot w ↦ λ there inside. let beyond = w.if-slots-slot.true in omega arith
      | then-slots-slot-via-else-slots-slot+then-objects-object w ↦ λ there inside. let objects = w.objects.ensures.value in let gone = w.if-objects-object.true in omega arith
    ])

pub returns-in_err-before : goal.returns-in_err-before
returns-in_err-before c =
    let t = c.args.self.now in
    let zero : c.at.result ≡ 0 = omega (arith, c.in_err-before.ensures) in
    ap (option_map plain_box) c.from_residual.ensures ∙ box_of_place t.boxes.now t.numbers c.args.slot c.args.object (Some 0) (c.at.ensures ∙ ap (λ (n : ℕ). Some n) zero)

pub returns-in_err-line : goal.returns-in_err-line
returns-in_err-line c =
    let t = c.args.self.now in
    let before = c.in_ok-before.before in
    let next : c.at.result ≡ suc before = omega (arith, c.in_ok-before.ensures) in
    let past = c.in_err-line.ensures.lookup in
    let none = slice_get_past t.boxes.now before past.3 in
    ap (option_map plain_box) c.from_residual-in_err-line.ensures
    ∙ (ap (λ (o : Option BoxLine). option_map (λ line. plain_box line.area) o) (sym none)
    ∙ box_of_place t.boxes.now t.numbers c.args.slot c.args.object (Some (suc before)) (c.at.ensures ∙ ap (λ (n : ℕ). Some n) next))

pub returns : goal.returns
returns c =
    let t = c.args.self.now in
    let before = c.in_ok-before.before in
    let next : c.at.result ≡ suc before = omega (arith, c.in_ok-before.ensures) in
    let line = c.in_ok-line.line.now in
    let one = c.in_ok-line.ensures.lookup in
    let there = one.3 in
    let is = slice_get_read t.boxes.now (length t.boxes.now) before line refl there.0 (there.1 line) in
    ap (λ (o : Option BoxLine). option_map (λ line. plain_box line.area) o) (sym is)
    ∙ box_of_place t.boxes.now t.numbers c.args.slot c.args.object (Some (suc before)) (c.at.ensures ∙ ap (λ (n : ℕ). Some n) next)
