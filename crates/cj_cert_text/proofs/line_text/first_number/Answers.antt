use Rattle.std.proofs.Common.{FitsSigned, List, ℕ, rules, subst, sym, to_z-of_z}
use Rattle.std.specs.Int.{w128}
use Rattle.cj_cert_text.specs.Readers.{HasNoNumber, LeadsTo, words_in}
use Rattle.cj_cert_text.proofs.WordLemmas.{nothing_first, read_first, unread}
use Rattle.cj_cert_text.proofs.line_text.first_number.Goals as goal

pub returns-in_err-word-clause-none : goal.returns-in_err-word-clause-none
returns-in_err-word-clause-none c = rw c.from_residual.ensures (subst HasNoNumber (sym c.in_err-word.ensures) nothing_first)

pub returns-in_err-read_number-clause-none : goal.returns-in_err-read_number-clause-none
returns-in_err-read_number-clause-none c =
    rw c.from_residual-in_err-read_number.ensures (subst HasNoNumber (sym c.in_ok-word.ensures) (unread c.in_ok-word.word.now (words_in c.in_ok-word.behind.rest) c.in_err-read_number.ensures))

pub returns-clause-some : goal.returns-clause-some
returns-clause-some c =
    let z = c.in_ok-read_number.field-0 in
    let fits : FitsSigned w128 z = search rules in
    let words = words_in c.in_ok-word.behind.rest in
    let read = read_first c.in_ok-word.word.now words z c.in_ok-read_number.ensures in
    let first = subst (λ (ws : List (List ℕ)). LeadsTo ws z words) (sym c.in_ok-word.ensures) read in
    subst (λ y. LeadsTo (words_in c.args.words.rest) y (words_in c.in_ok-word.behind.rest)) (sym (to_z-of_z fits)) first
