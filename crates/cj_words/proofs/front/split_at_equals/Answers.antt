use Rattle.std.proofs.Common.{arith, ◌≡◌, ◌+◌, ℕ, ap, ◌∙◌, take, drop, sym, Option, Some, None}
use Rattle.std.specs.Prelude.{IfNone}
use Rattle.std.proofs.lemmas.List.{take_all, length-drop}
use Rattle.cj_kvn.proofs.LineLemmas.{found}
use Rattle.cj_kvn.specs.Lines.{is_equals}
use Rattle.cj_words.proofs.PlaceLemmas.{stands, stands_not}
use Rattle.cj_words.proofs.front.split_at_equals.Goals as goal

pub returns-in_err-at-clause-none : goal.returns-in_err-at-clause-none
returns-in_err-at-clause-none c =
    IfNone_of c.from_residual.result c.from_residual.ensures (stands_not is_equals c.args.word.now (sym c.in_err-at.ensures))
  where
    IfNone_of : {A P : Type 0} (o : Option A) → o ≡ None → P → IfNone o P
    IfNone_of None e p = p
    IfNone_of (Some x) e p = absurd cc

pub returns-clause-some : goal.returns-clause-some
returns-clause-some c = stands is_equals c.args.word.now c.in_ok-at.at (sym c.in_ok-at.ensures)

pub returns-clause-parts : goal.returns-clause-parts
returns-clause-parts c =
    let here = found is_equals c.args.word.now c.in_ok-at.at (sym c.in_ok-at.ensures) in
    let text = c.args.word.now in
    (ap (λ (i : ℕ). take i text) (sym here.1), take_all _ _ (omega (arith, length-drop (c.in_ok-at.at + 1) text)) ∙ ap (λ (i : ℕ). drop (i + 1) text) (sym here.1))
