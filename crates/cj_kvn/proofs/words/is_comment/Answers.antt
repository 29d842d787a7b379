use Rattle.std.proofs.Common.{◌≡◌, ℕ, ◌-◌, List, [], ◌∷◌, refl, length, take, drop, Bool, true, false, arith, ap, sym, ◌∙◌, length-drop}
use Rattle.std.specs.Prelude.{◌&&◌, codes, nat_eq}
use Rattle.std.specs.Cmp.Lexicographic.{pointwise}
use Rattle.std.proofs.lemmas.Bool.Decides.{nat_tests}
use Rattle.std.proofs.lemmas.List.{take_all}
use Rattle.cj_kvn.specs.Lines.{is_comment, is_end_or_blank, without_leading_blanks}
use Rattle.cj_kvn.proofs.words.is_comment.Goals as goal

equals_either_way : (a b : ℕ) → nat_eq a b ≡ nat_eq b a
equals_either_way a b = grind (arith, nat_tests)

-- a text is another one where that is this one
either_way : (a b : List ℕ) → pointwise nat_eq a b ≡ pointwise nat_eq b a
either_way [] [] = refl
either_way [] (y ∷ b) = refl
either_way (x ∷ a) [] = refl
either_way (x ∷ a) (y ∷ b) = ap (λ (e : Bool). e && pointwise nat_eq a b) (equals_either_way x y) ∙ ap (λ (e : Bool). nat_eq y x && e) (either_way a b)

-- it is decided by the word at the front and by what stands behind it
decided : (line : List ℕ) (blanks : ℕ) (begins : Bool) → drop blanks line ≡ without_leading_blanks line
    → pointwise nat_eq (take 7 (take (length line - blanks) (drop blanks line))) (codes "COMMENT") ≡ begins
    → (begins && is_end_or_blank (drop 7 (take (length line - blanks) (drop blanks line)))) ≡ is_comment line
decided line blanks begins behind word =
    let text = take (length line - blanks) (drop blanks line) in
    let same : text ≡ without_leading_blanks line = take_all (length line - blanks) (drop blanks line) (omega (arith, length-drop blanks line)) ∙ behind in
    ap (λ (b : Bool). b && is_end_or_blank (drop 7 text)) (sym word ∙ either_way (take 7 text) (codes "COMMENT"))
    ∙ ap (λ (t : List ℕ). pointwise nat_eq (codes "COMMENT") (take 7 t) && is_end_or_blank (drop 7 t)) same

pub returns-in-None : goal.returns-in-None
returns-in-None c =
    let behind = ap (λ (k : ℕ). drop k c.args.line.now) c.leading_blanks.ensures.count in
    decided c.args.line.now c.leading_blanks.result false behind c.in-None.ensures.cases

pub returns-in-Some : goal.returns-in-Some
returns-in-Some c =
    let behind = ap (λ (k : ℕ). drop k c.args.line.now) c.leading_blanks.ensures.count in
    c.is_end_or_blank.ensures
    ∙ ap is_end_or_blank c.in-Some.ensures.cases.1
    ∙ decided c.args.line.now c.leading_blanks.result true behind c.in-Some.ensures.cases.0
