use Rattle.std.proofs.Common.{◌≡◌, ◌∙◌, ◌+◌, ◌*◌, ◌&&◌, ℕ, true, false, List, map, Option, Some, None, ap, refl, subst, sym, arith}
use Rattle.std.specs.Prelude.{◌==◌, IfNone, IfSome, not, slice_get}
use Rattle.std.specs.List.{enumerate_from}
use Rattle.std.proofs.lemmas.Bool.{eq-eqb, ne_eqb}
use Rattle.cj_track.specs.Tracks.{plain_track}
use Rattle.cj_case.specs.Problems.{plain_problem}
use Rattle.cj_hermite.specs.Walks.{HasNone}
use Rattle.cj_case.specs.declared.shells.Shell.{Shell}
use Rattle.cj_cert.specs.Certificates.{plain_box_line}
use Rattle.cj_checker.specs.declared.boxes_read.BoxesRead.{BoxesRead}
use Rattle.cj_checker.specs.BoxesRead.{fails_behind}
use Rattle.cj_checker.specs.First.{fits_at}
use Rattle.cj_checker.specs.Tests.{has_state_between, is_shell_over, is_shell_line}
use Rattle.cj_checker.proofs.PlaceLemmas.{next_object, no_slot}
use Rattle.cj_checker.proofs.TestLemmas.{decides_none}
use Rattle.cj_checker.proofs.UnfitLemmas.{fits_some, fits_none, read_at, read_past}
use Rattle.cj_checker.proofs.shells.read_object.Goals.{In_ok-track}
use Rattle.cj_checker.proofs.shells.read_object.Goals as goal

-- the object has the track
own_track : (c : In_ok-track) → slice_get (map plain_track c.args.problem.now.tracks) c.args.object ≡ Some (plain_track c.in_ok-track.track.now)
own_track c =
    let track = c.in_ok-track.track.now in
    let found = c.in_ok-track.ensures.lookup in
    let at = found.3 in
    read_at plain_track c.args.problem.now.tracks c.as_slice.result.now c.args.object c.args.object track c.as_slice.ensures.value at.0 (at.1 track) refl

-- whether the line is the object's
here : (c : In_ok-track) → fits_at (is_shell_line c.args.problem.now.window.first.micros c.args.problem.now.window.last.micros) (enumerate_from 0 (map plain_track c.args.problem.now.tracks)) c.args.object c.args.line.now
    ≡ ((c.args.line.now.object == c.args.object) && is_shell_over (plain_track c.in_ok-track.track.now) c.args.problem.now.window.first.micros c.args.problem.now.window.last.micros c.args.line.now.shell)
here c =
    let window = c.args.problem.now.window in
    sym (fits_some (is_shell_line window.first.micros window.last.micros) (map plain_track c.args.problem.now.tracks) c.args.object (plain_track c.in_ok-track.track.now) c.args.line.now (own_track c))

-- what follows of a result of one kind
of_none : {P Q : Type 0} (r : Option BoxesRead) → (P → Q) → IfNone r P → IfNone r Q
of_none None f h = f h
of_none (Some x) f h = tt

of_some : {P Q : Type 0} (r : Option BoxesRead) → (P → Q) → IfSome r (λ x. P) → IfSome r (λ x. Q)
of_some None f h = tt
of_some (Some x) f h = f h

pub returns-in_err-track-clause-none : goal.returns-in_err-track-clause-none
returns-in_err-track-clause-none c =
    let problem = c.args.problem.now in
    let window = problem.window in
    let past = c.in_err-track.ensures.lookup in
    rw c.from_residual.ensures (sym (fits_none (is_shell_line window.first.micros window.last.micros) (map plain_track problem.tracks) c.args.object c.args.line.now
    (read_past plain_track problem.tracks c.as_slice.result.now c.args.object c.as_slice.ensures.value past.3)))

pub returns-then-line-object-clause-none : goal.returns-then-line-object-clause-none
returns-then-line-object-clause-none c =
    let window = c.args.problem.now.window in
    let line = c.args.line.now in
    let other = ne_eqb line.object c.args.object c.if-line-object.true in
    let over = is_shell_over (plain_track c.in_ok-track.track.now) window.first.micros window.last.micros line.shell in
    let fails : ((line.object == c.args.object) && over) ≡ false = λ j. other j && over in
    here (goal.at.returns-then-line-object-clause-none c).In_ok-track ∙ fails

-- no shell, where there is a state
pub returns-then-has_state-clause-none : goal.returns-then-has_state-clause-none
returns-then-has_state-clause-none c =
    let window = c.args.problem.now.window in
    let line = c.args.line.now in
    let e = plain_track c.in_ok-track.track.now in
    let own = eq-eqb line.object c.args.object c.if-line-object.false in
    let some : has_state_between e window.first.micros window.last.micros ≡ true = sym c.has_state.ensures ∙ c.if-has_state.true in
    let over : is_shell_over e window.first.micros window.last.micros line.shell ≡ false =
    ap (λ (shell : Option Shell). is_shell_over e window.first.micros window.last.micros shell) c.in-None.is ∙ (λ j. not (some j)) in
    let fails : ((line.object == c.args.object) && is_shell_over e window.first.micros window.last.micros line.shell) ≡ false = λ j. own j && over j in
    here (goal.at.returns-then-has_state-clause-none c).In_ok-track ∙ fails

-- no shell and no state
pub returns-else-has_state-clause-some : goal.returns-else-has_state-clause-some
returns-else-has_state-clause-some c =
    let window = c.args.problem.now.window in
    let line = c.args.line.now in
    let e = plain_track c.in_ok-track.track.now in
    let own = eq-eqb line.object c.args.object c.if-line-object.false in
    let none : has_state_between e window.first.micros window.last.micros ≡ false = sym c.has_state.ensures ∙ c.if-has_state.false in
    let over : is_shell_over e window.first.micros window.last.micros line.shell ≡ true =
    ap (λ (shell : Option Shell). is_shell_over e window.first.micros window.last.micros shell) c.in-None.is ∙ (λ j. not (none j)) in
    let fits : ((line.object == c.args.object) && is_shell_over e window.first.micros window.last.micros line.shell) ≡ true = λ j. own j && over j in
    here (goal.at.returns-else-has_state-clause-some c).In_ok-track ∙ fits

pub returns-else-has_state-clause-on : goal.returns-else-has_state-clause-on
returns-else-has_state-clause-on c line =
    let case = plain_problem c.args.problem.now in
    let e = plain_track c.in_ok-track.track.now in
    let none : has_state_between e case.first case.last ≡ false = sym c.has_state.ensures ∙ c.if-has_state.false in
    let empty = (decides_none e case.first case.last).0 (λ j. not (none j)) in
    let begin : case.first ≡ case.first + 60_000_000 * 0 = omega arith in
    let own = own_track (goal.at.returns-else-has_state-clause-on c).In_ok-track in
    ap (λ (places : List (ℕ × ℕ)). fails_behind case line places (map plain_box_line c.args.boxes.now) c.args.read)
    (next_object case c.args.object 0 e own (no_slot case e 0 (subst (λ (k : ℕ). HasNone e k case.last) begin empty)))

-- a shell
pub read_course-requires-clause-object : goal.read_course-requires-clause-object
read_course-requires-clause-object c = own_track (goal.at.read_course-requires-clause-object c).In_ok-track

pub returns-in-Some-clause-none : goal.returns-in-Some-clause-none
returns-in-Some-clause-none c =
    let window = c.args.problem.now.window in
    let line = c.args.line.now in
    let e = plain_track c.in_ok-track.track.now in
    let own = eq-eqb line.object c.args.object c.if-line-object.false in
    of_none c.read_course.result
    (λ (fails : is_shell_over e window.first.micros window.last.micros (Some c.in-Some.shell) ≡ false).
    let over = ap (λ (shell : Option Shell). is_shell_over e window.first.micros window.last.micros shell) c.in-Some.is ∙ fails in
    let all : ((line.object == c.args.object) && is_shell_over e window.first.micros window.last.micros line.shell) ≡ false = λ j. own j && over j in
    here (goal.at.returns-in-Some-clause-none c).In_ok-track ∙ all)
    c.read_course.ensures.none

pub returns-in-Some-clause-some : goal.returns-in-Some-clause-some
returns-in-Some-clause-some c =
    let window = c.args.problem.now.window in
    let line = c.args.line.now in
    let e = plain_track c.in_ok-track.track.now in
    let own = eq-eqb line.object c.args.object c.if-line-object.false in
    of_some c.read_course.result
    (λ (fits : is_shell_over e window.first.micros window.last.micros (Some c.in-Some.shell) ≡ true).
    let over = ap (λ (shell : Option Shell). is_shell_over e window.first.micros window.last.micros shell) c.in-Some.is ∙ fits in
    let all : ((line.object == c.args.object) && is_shell_over e window.first.micros window.last.micros line.shell) ≡ true = λ j. own j && over j in
    here (goal.at.returns-in-Some-clause-some c).In_ok-track ∙ all)
    c.read_course.ensures.some
