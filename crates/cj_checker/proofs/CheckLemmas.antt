-- The first failure of a certificate from those of its parts.
use Rattle.std.proofs.Common.{◌≡◌, true, false, length, Option, Some, None, refl, sym, ap, ◌∙◌}
use Rattle.std.specs.Prelude.{is_some}
use Rattle.std.specs.Option.{option_or}
use Rattle.std.proofs.lemmas.List.{length-map}
use Rattle.std.proofs.lemmas.List.FromFn.{length-range_with_len}
use Rattle.cj_case.specs.PlainProblems.{PlainProblem}
use Rattle.cj_cert.specs.declared.cert_lines.ShellLine.{ShellLine}
use Rattle.cj_cert.specs.Certificates.{PlainCertificate}
use Rattle.cj_checker.specs.declared.answer.Answer.{Answer}
use Rattle.cj_checker.specs.declared.answer.Answer.TheVariants as answers
use Rattle.cj_checker.specs.Answers.{failure_of}
use Rattle.cj_checker.specs.First.{header_failure, size_failure, shell_failure, box_failure, cell_failure, first_failure, Failure}
use Rattle.cj_checker.proofs.FirstLemmas.{header_law, shell_law}

-- what fails before the cells
abbrev pub before_cells : PlainProblem → PlainCertificate → Option Failure
before_cells case c = option_or (header_failure case c) (option_or (size_failure case c) (option_or (shell_failure case c) (box_failure case c)))

regroup : (h s t b l : Option Failure) → option_or h (option_or s (option_or t (option_or b l))) ≡ option_or (option_or h (option_or s (option_or t b))) l
regroup (Some f) s t b l = refl
regroup None (Some f) t b l = refl
regroup None None (Some f) b l = refl
regroup None None None b l = refl

chained : (case : PlainProblem) (c : PlainCertificate) → first_failure case c ≡ option_or (before_cells case c) (cell_failure case c)
unfolding first_failure
chained case c = regroup (header_failure case c) (size_failure case c) (shell_failure case c) (box_failure case c) (cell_failure case c)

pub some_first : (o l : Option Failure) → is_some o ≡ true → option_or o l ≡ o
some_first None l is = absurd cc
some_first (Some f) l is = refl

pub fails_before : (case : PlainProblem) (c : PlainCertificate) (o : Option Failure) → o ≡ before_cells case c → is_some o ≡ true → o ≡ first_failure case c
fails_before case c o is some = sym (chained case c ∙ ap (λ (p : Option Failure). option_or p (cell_failure case c)) (sym is) ∙ some_first o (cell_failure case c) some)

pub none_of : (o : Option Failure) → is_some o ≡ false → o ≡ None
none_of None is = refl
none_of (Some f) is = absurd cc

pub fails_in_cells : (case : PlainProblem) (c : PlainCertificate) (o : Option Failure) → o ≡ before_cells case c → is_some o ≡ false → first_failure case c ≡ cell_failure case c
fails_in_cells case c o is none = chained case c ∙ ap (λ (p : Option Failure). option_or p (cell_failure case c)) (sym is ∙ none_of o none)

pub both_none : (o p : Option Failure) → option_or o p ≡ None → (o ≡ None) × (p ≡ None)
both_none None p h = (refl, h)
both_none (Some f) p h = absurd cc

-- what holds where nothing fails before the cells
pub same_count : (case : PlainProblem) (c : PlainCertificate) (o : Option Failure) → o ≡ before_cells case c → is_some o ≡ false → c.objects ≡ length case.tracks
same_count case c o is none =
    let parts = both_none (header_failure case c) (option_or (size_failure case c) (option_or (shell_failure case c) (box_failure case c))) (sym is ∙ none_of o none) in
    ((header_law case c).0 parts.0).objects

pub same_shells : (case : PlainProblem) (c : PlainCertificate) (o : Option Failure) → o ≡ before_cells case c → is_some o ≡ false → length c.shells ≡ length case.tracks
same_shells case c o is none =
    let a = both_none (header_failure case c) (option_or (size_failure case c) (option_or (shell_failure case c) (box_failure case c))) (sym is ∙ none_of o none) in
    let b = both_none (size_failure case c) (option_or (shell_failure case c) (box_failure case c)) a.1 in
    let d = both_none (shell_failure case c) (box_failure case c) b.1 in
    let are = (shell_law case c).0 d.0 in
    sym (length-map c.shells (λ (line : ShellLine). line.object)) ∙ ap length are.objects ∙ length-range_with_len 0 (length case.tracks)

pub none_accepted : (a : Answer) → failure_of a ≡ None → a ≡ answers.Accepted
none_accepted answers.Accepted is = refl
none_accepted (answers.Refused line cause) is = absurd cc
