use Rattle.std.proofs.Common.{◌≡◌, ◌∙◌, ◌+◌, ◌<◌, ◌≤◌, ℕ, List, [], length, get_or, map, min, refl, sym, ap, arith, None, Option, subst}
use Rattle.std.specs.List.{enumerate_from}
use Rattle.std.specs.Option.{option_or}
use Rattle.std.specs.Prelude.{slice_get}
use Rattle.std.proofs.lemmas.List.{length-map}
use Rattle.std.proofs.lemmas.List.FromFn.{length-enumerate_from}
use Rattle.std.proofs.lemmas.Option.{slice_get-get_or, slice_get_past}
use Rattle.cj_track.specs.declared.track.Track.{Track}
use Rattle.cj_track.specs.Tracks.{plain_track}
use Rattle.cj_case.specs.Problems.{plain_problem}
use Rattle.cj_cert.specs.declared.cert_lines.BoxLine.{BoxLine}
use Rattle.cj_cert.specs.declared.cert_lines.ShellLine.{ShellLine}
use Rattle.cj_cert.specs.Certificates.{plain_box_line, plain_certificate}
use Rattle.cj_formats.specs.declared.check_cause.CheckCause.TheVariants.{ShellOf}
use Rattle.cj_checker.specs.BoxesRead.{IsObjectRead, IsReadOn, fails_behind}
use Rattle.cj_checker.specs.First.{box_failure, failed, first_box_line, first_line, Failure}
use Rattle.cj_checker.specs.Places.{places_from}
use Rattle.cj_checker.specs.Tests.{is_shell_line}
use Rattle.cj_checker.proofs.PlaceLemmas.{no_place}
use Rattle.cj_checker.proofs.UnfitLemmas.{fits_none, unfit_more, unfit_now, unfit_short, unfit_done, unnumbered, read_past}
use Rattle.cj_checker.proofs.shells.hull_failure.Goals as goal

-- what is behind the lesser of two, and not behind the first, is behind the second
min_past : (a b n : ℕ) → min a b ≤ n → n < a → b ≤ n
min_past a b n behind before = omega (arith, behind, before)

-- a line that was not tried is behind the last object's
pub returns-in_default : goal.returns-in_default
returns-in_default g c =
    let case = plain_problem c.args.problem.now in
    let lines = c.args.cert.now.shells.items in
    let tracks = c.args.problem.now.tracks in
    let boxes = box_failure case (plain_certificate c.args.cert.now) in
    let object = c.loop-line.object in
    let first = first_line + length c.args.cert.now.sizes.items in
    let at : 5 + c.len.result + object ≡ first + object = omega (arith, c.len.ensures) in
    let line = get_or c.deref-line-items.result.now c.loop-line.line-index (record { object = 0; shell = None }) in
    let is = (λ j. slice_get (sym c.deref-line-items.ensures.value j) (c.loop-line.invariant.place j))
    ∙ slice_get-get_or c.deref-line-items.result.now c.loop-line.line-index (record { object = 0; shell = None }) c.loop-line-test.true in
    let own : object < length lines = omega (arith, c.loop-line.invariant.place, c.loop-line-test.true, ap length c.deref-line-items.ensures.value) in
    let untried : length c.in_ok-tries.tries.items ≤ object = omega (arith, c.in_default.ensures.lookup.3, ap length c.deref.ensures.value) in
    let past : length tracks ≤ object = min_past (length lines) (length tracks) object (subst (λ (n : ℕ). n ≤ object) c.in_ok-tries.ensures.many untried) own in
    let none = read_past plain_track tracks tracks object refl past in
    let wrong = sym (fits_none (is_shell_line case.first case.last) case.tracks object line none) in
    c.failed.ensures
    ∙ (ap (λ (n : ℕ). failed n ShellOf) at
    ∙ ap (λ (o : Option Failure). option_or o boxes) (sym (c.loop-line.invariant.shells
    ∙ unfit_now (is_shell_line case.first case.last) ShellOf first (enumerate_from 0 case.tracks) lines object line is wrong)))

pub returns-in_default-read_from : goal.returns-in_default-read_from
returns-in_default-read_from g c =
    let case = plain_problem c.args.problem.now in
    let lines = c.args.cert.now.shells.items in
    let boxes = box_failure case (plain_certificate c.args.cert.now) in
    let object = c.loop-line.object in
    let first = first_line + length c.args.cert.now.sizes.items in
    let at : 5 + c.len.result + object ≡ first + object = omega (arith, c.len.ensures) in
    let line = get_or c.deref-line-items.result.now c.loop-line.line-index (record { object = 0; shell = None }) in
    let is = (λ j. slice_get (sym c.deref-line-items.ensures.value j) (c.loop-line.invariant.place j))
    ∙ slice_get-get_or c.deref-line-items.result.now c.loop-line.line-index (record { object = 0; shell = None }) c.loop-line-test.true in
    c.failed-in_default-read_from.ensures
    ∙ (ap (λ (n : ℕ). failed n ShellOf) at
    ∙ ap (λ (o : Option Failure). option_or o boxes) (sym (c.loop-line.invariant.shells
    ∙ unfit_now (is_shell_line case.first case.last) ShellOf first (enumerate_from 0 case.tracks) lines object line is c.in_default-read_from.ensures.none)))

pub loop-line-preserved : goal.loop-line-preserved
loop-line-preserved g c =
    let case = plain_problem c.args.problem.now in
    let cert = plain_certificate c.args.cert.now in
    let lines = c.args.cert.now.shells.items in
    let object = c.loop-line.object in
    let first = first_line + length c.args.cert.now.sizes.items in
    let line = get_or c.deref-line-items.result.now c.loop-line.line-index (record { object = 0; shell = None }) in
    let is = (λ j. slice_get (sym c.deref-line-items.ensures.value j) (c.loop-line.invariant.place j))
    ∙ slice_get-get_or c.deref-line-items.result.now c.loop-line.line-index (record { object = 0; shell = None }) c.loop-line-test.true in
    record {
      place = omega (arith, c.loop-line.invariant.place);
      passed = omega (arith, c.in-Some-read_from.ensures.place, ap (λ (bs : List BoxLine). length bs) c.deref-in-loop-line.ensures.value);
      shells = c.loop-line.invariant.shells
          ∙ unfit_more (is_shell_line case.first case.last) ShellOf first (enumerate_from 0 case.tracks) lines object line is c.in-Some-read_from.ensures.some;
      boxes = c.loop-line.invariant.boxes
          ∙ subst (λ (bs : List BoxLine). IsReadOn case object (map plain_box_line bs) c.loop-line.read c.in-Some-read_from.more) c.deref-in-loop-line.ensures.value c.in-Some-read_from.ensures.on (first_box_line cert);
    }

pub returns-then-object-as_slice : goal.returns-then-object-as_slice
returns-then-object-as_slice g c =
    let case = plain_problem c.args.problem.now in
    let lines = c.args.cert.now.shells.items in
    let boxes = box_failure case (plain_certificate c.args.cert.now) in
    let object = c.loop-line.object in
    let first = first_line + length c.args.cert.now.sizes.items in
    let at : 5 + c.len.result + object ≡ first + object = omega (arith, c.len.ensures) in
    let past = (λ j. slice_get (sym c.deref-line-items.ensures.value j) object) ∙ slice_get_past c.deref-line-items.result.now object (omega (arith, c.loop-line.invariant.place, c.loop-line-test.false)) in
    let tracks = ap (λ (ts : List Track). length ts) c.as_slice.ensures.value in
    let count = length-enumerate_from 0 case.tracks in
    let objects = length-map c.args.problem.now.tracks plain_track in
    c.failed-then-object-as_slice.ensures
    ∙ (ap (λ (n : ℕ). failed n ShellOf) at
    ∙ ap (λ (o : Option Failure). option_or o boxes) (sym (c.loop-line.invariant.shells
    ∙ unfit_short (is_shell_line case.first case.last) ShellOf first (enumerate_from 0 case.tracks) lines object past (omega (arith, tracks, count, objects, c.if-object-as_slice.true)))))

pub returns : goal.returns
returns g c =
    let case = plain_problem c.args.problem.now in
    let cert = plain_certificate c.args.cert.now in
    let lines = c.args.cert.now.shells.items in
    let object = c.loop-line.object in
    let first = first_line + length c.args.cert.now.sizes.items in
    let past = (λ j. slice_get (sym c.deref-line-items.ensures.value j) object) ∙ slice_get_past c.deref-line-items.result.now object (omega (arith, c.loop-line.invariant.place, c.loop-line-test.false)) in
    let count = ap length c.deref-line-items.ensures.value in
    let none = read_past plain_track c.args.problem.now.tracks c.as_slice.result.now object c.as_slice.ensures.value c.if-object-as_slice.false in
    let unnumbered_too = unnumbered 0 case.tracks object none in
    let shells = c.loop-line.invariant.shells ∙ unfit_done (is_shell_line case.first case.last) ShellOf first (enumerate_from 0 case.tracks) lines object past unnumbered_too in
    let at : 5 + c.len.result + object ≡ first_box_line cert = omega (arith, c.len.ensures, c.loop-line.invariant.place, c.loop-line-test.false, count) in
    let items = c.deref-2.ensures.value in
    let places = no_place case object 0 none in
    let same : fails_behind case (5 + c.len.result + object) [] (map plain_box_line c.deref-2.result.now) c.loop-line.read
    ≡ fails_behind case (first_box_line cert) (places_from case object 0) (map plain_box_line c.args.cert.now.boxes.items) c.loop-line.read =
    λ j. fails_behind case (at j) (sym places j) (map plain_box_line (items j)) c.loop-line.read in
    c.failure_of_boxes.ensures case
    ∙ same
    ∙ sym (c.loop-line.invariant.boxes)
    ∙ ap (λ (o : Option Failure). option_or o (box_failure case cert)) (sym shells)

-- what was tried of the object
pub read_from-requires-clause-tried : goal.read_from-requires-clause-tried
read_from-requires-clause-tried g c =
    let object = c.loop-line.object in
    let lines = c.deref-line-items.result.now in
    let d : ShellLine = record { object = 0; shell = None } in
    let line = get_or lines c.loop-line.line-index d in
    let is : get_or c.args.cert.now.shells.items object d ≡ line = λ j. get_or (sym c.deref-line-items.ensures.value j) (c.loop-line.invariant.place j) d in
    let tried = c.in-Some.tried.now in
    let found = c.in-Some.ensures.lookup.3 in
    let own : object < length c.in_ok-tries.tries.items = omega (arith, found.0, ap length c.deref.ensures.value) in
    let same = found.1 tried ∙ (λ j. get_or (c.deref.ensures.value j) object tried) in
    subst (λ bs. IsObjectRead c.args.problem.now object line bs tried) (sym c.deref-in-loop-line.ensures.value)
    (subst (λ l. IsObjectRead c.args.problem.now object l c.args.cert.now.boxes.items tried) is
    (subst (λ t. IsObjectRead c.args.problem.now object (get_or c.args.cert.now.shells.items object d) c.args.cert.now.boxes.items t) (sym same)
    (c.in_ok-tries.ensures.each object tried d own)))
