use Rattle.std.proofs.Common.{arith, ◌+◌, ◌-◌, ◌∷◌, ◌∙◌, List, ℕ, ap, drop, length, sym, take}
use Rattle.std.specs.Prelude.{◌==◌}
use Rattle.std.specs.List.{slice_split}
use Rattle.std.proofs.lemmas.List.{length-drop, take_all}
use Rattle.cj_kvn.proofs.LineLemmas.{split_here, split_nowhere}
use Rattle.cj_cert_text.proofs.words.split_at_byte.Goals as goal

pub returns-in_err-place-clause-parts : goal.returns-in_err-place-clause-parts
returns-in_err-place-clause-parts c = rw c.from_residual.ensures (split_nowhere (λ b. b == c.args.byte) c.args.text.now (sym c.in_err-place.ensures))

pub returns-clause-parts : goal.returns-clause-parts
returns-clause-parts c =
    let text = c.args.text.now in
    let n = c.in_ok-place.place in
    split_here (λ b. b == c.args.byte) text n (sym c.in_ok-place.ensures)
    ∙ ap (λ (t : List ℕ). take n text ∷ slice_split (λ b. b == c.args.byte) t) (sym (take_all (length text - (n + 1)) (drop (n + 1) text) (omega (arith, length-drop (n + 1) text))))
