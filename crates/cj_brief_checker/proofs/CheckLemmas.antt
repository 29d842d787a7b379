-- The first failure of a certificate in brief from those of its parts.
use Rattle.std.proofs.Common.{◌≡◌, ℕ, List, true, false, length, Option, Some, None, refl, sym, ap, ◌∙◌}
use Rattle.std.specs.Prelude.{is_some}
use Rattle.std.specs.Option.{option_or}
use Rattle.std.proofs.lemmas.List.{length-map}
use Rattle.std.proofs.lemmas.List.FromFn.{length-range_with_len}
use Rattle.cj_case.specs.PlainProblems.{PlainProblem}
use Rattle.cj_cert.specs.declared.cert_lines.ShellLine.{ShellLine}
use Rattle.cj_brief.specs.Certificates.{PlainBrief}
use Rattle.cj_checker.specs.First.{Failure}
use Rattle.cj_checker.proofs.CheckLemmas.{none_of, some_first}
use Rattle.cj_checker.proofs.FirstLemmas.{shells_from_law}
use Rattle.cj_brief_checker.specs.Shown.{first_unfit_shell}
use Rattle.cj_brief_checker.specs.First.{first_failure_in_brief, first_shell_line_in_brief, head_failure_in_brief, shell_failure_in_brief, told_failure}

-- the head first, then the shells and the cells
by_head : (case : PlainProblem) (c : PlainBrief) → first_failure_in_brief case c ≡ option_or (head_failure_in_brief case c) (option_or (shell_failure_in_brief case c) (told_failure case c))
unfolding first_failure_in_brief
by_head case c = regroup (head_failure_in_brief case c) (shell_failure_in_brief case c) (told_failure case c)
  where
    regroup : (h t l : Option Failure) → option_or (option_or h t) l ≡ option_or h (option_or t l)
    regroup (Some f) t l = refl
    regroup None t l = refl

pub fails_in_head : (case : PlainProblem) (c : PlainBrief) (o : Option Failure) → o ≡ head_failure_in_brief case c → is_some o ≡ true → o ≡ first_failure_in_brief case c
fails_in_head case c o is some =
    let rest = option_or (shell_failure_in_brief case c) (told_failure case c) in
    sym (by_head case c ∙ (ap (λ (p : Option Failure). option_or p rest) (sym is) ∙ some_first o rest some))

behind_head : (case : PlainProblem) (c : PlainBrief) (o : Option Failure) → o ≡ head_failure_in_brief case c → is_some o ≡ false
    → first_failure_in_brief case c ≡ option_or (shell_failure_in_brief case c) (told_failure case c)
behind_head case c o is none = by_head case c ∙ ap (λ (p : Option Failure). option_or p (option_or (shell_failure_in_brief case c) (told_failure case c))) (sym is ∙ none_of o none)

pub fails_in_shells : (case : PlainProblem) (c : PlainBrief) (o : Option Failure) (f : Failure) → o ≡ head_failure_in_brief case c → is_some o ≡ false → shell_failure_in_brief case c ≡ Some f
    → Some f ≡ first_failure_in_brief case c
fails_in_shells case c o f is none fails = sym (behind_head case c o is none ∙ ap (λ (p : Option Failure). option_or p (told_failure case c)) fails)

pub fails_in_cells : (case : PlainProblem) (c : PlainBrief) (o : Option Failure) → o ≡ head_failure_in_brief case c → is_some o ≡ false → shell_failure_in_brief case c ≡ None
    → first_failure_in_brief case c ≡ told_failure case c
fails_in_cells case c o is none passes = behind_head case c o is none ∙ ap (λ (p : Option Failure). option_or p (told_failure case c)) passes

-- the lines of shells by themselves
pub shells_are : (case : PlainProblem) (c : PlainBrief) (first : ℕ) (lines : List ShellLine) → first ≡ first_shell_line_in_brief c → lines ≡ c.shells
    → first_unfit_shell case first lines ≡ shell_failure_in_brief case c
shells_are case c first lines at are = λ i. first_unfit_shell case (at i) (are i)

pub same_shells : (case : PlainProblem) (c : PlainBrief) → shell_failure_in_brief case c ≡ None → length c.shells ≡ length case.tracks
same_shells case c passes =
    let are = (shells_from_law case (first_shell_line_in_brief c) c.shells).0 passes in
    sym (length-map c.shells (λ (line : ShellLine). line.object)) ∙ ap length are.objects ∙ length-range_with_len 0 (length case.tracks)

-- ---- of what fails in the head

pub first_fails : (h o : Option Failure) (rest : Option Failure) → h ≡ o → is_some h ≡ true → h ≡ option_or o rest
first_fails h o rest is some = sym (ap (λ (p : Option Failure). option_or p rest) (sym is) ∙ some_first h rest some)

pub next_fails : (h o rest found : Option Failure) → h ≡ o → is_some h ≡ false → found ≡ rest → found ≡ option_or o rest
next_fails h o rest found is none same = same ∙ sym (ap (λ (p : Option Failure). option_or p rest) (sym is ∙ none_of h none))

-- of three parts

regrouped : (h s p : Option Failure) → option_or (option_or h s) p ≡ option_or h (option_or s p)
regrouped (Some f) s p = refl
regrouped None s p = refl

pub fails_before : (o h s p : Option Failure) → o ≡ option_or h s → is_some o ≡ true → o ≡ option_or h (option_or s p)
fails_before o h s p is some = first_fails o (option_or h s) p is some ∙ regrouped h s p

pub fails_next : (o h s p found : Option Failure) → o ≡ option_or h s → is_some o ≡ false → found ≡ p → found ≡ option_or h (option_or s p)
fails_next o h s p found is none same = next_fails o (option_or h s) p found is none same ∙ regrouped h s p
