use Rattle.std.proofs.Common.{◌≡◌, ◌+◌, ◌∙◌, sym}
use Rattle.std.specs.Prelude.{◌==◌, slice_get}
use Rattle.std.proofs.lemmas.Bool.{and_parts, eqb-true}
use Rattle.cj_track.specs.Tracks.{plain_track}
use Rattle.cj_case.specs.Problems.{plain_problem}
use Rattle.cj_cert.specs.Certificates.{plain_box_line}
use Rattle.cj_checker.specs.Places.{places_from}
use Rattle.cj_checker.proofs.BoxLemmas.{line_test, behind_line, other_line}
use Rattle.cj_checker.proofs.boxes.is_box_line.Goals as goal

pub returns-then-not-begins_at-clause-value : goal.returns-then-not-begins_at-clause-value
returns-then-not-begins_at-clause-value c =
    let case = plain_problem c.args.course.now.problem.now in
    let place = c.args.place in
    other_line case (plain_box_line c.args.line.now) place.object place.slot (places_from case place.object place.slot) (places_from case place.object (place.slot + 1)) c.requires.next
    (sym c.begins_at.ensures ∙ c.if-not-begins_at.true)

pub returns-clause-value : goal.returns-clause-value
returns-clause-value c =
    let case = plain_problem c.args.course.now.problem.now in
    let line = plain_box_line c.args.line.now in
    let place = c.args.place in
    let e = plain_track c.args.course.now.track.now in
    let both = and_parts (line.object == place.object) (line.first == place.slot) (sym c.begins_at.ensures ∙ c.if-not-begins_at.false) in
    let object = eqb-true line.object place.object both.0 in
    let first = eqb-true line.first place.slot both.1 in
    let here : slice_get case.tracks line.object ≡ slice_get case.tracks place.object = λ j. slice_get case.tracks (object j) in
    let are : places_from case place.object place.slot ≡ places_from case line.object line.first = λ j. places_from case (sym object j) (sym first j) in
    c.holds_hulls.ensures.value ∙ line_test case (places_from case place.object place.slot) line e (here ∙ c.requires.object) are

pub returns-clause-behind : goal.returns-clause-behind
returns-clause-behind c holds =
    let case = plain_problem c.args.course.now.problem.now in
    let line = plain_box_line c.args.line.now in
    let place = c.args.place in
    let e = plain_track c.args.course.now.track.now in
    let both = and_parts (line.object == place.object) (line.first == place.slot) (sym c.begins_at.ensures ∙ c.if-not-begins_at.false) in
    let object = eqb-true line.object place.object both.0 in
    let first = eqb-true line.first place.slot both.1 in
    let here : slice_get case.tracks line.object ≡ slice_get case.tracks place.object = λ j. slice_get case.tracks (object j) in
    let are : places_from case place.object place.slot ≡ places_from case line.object line.first = λ j. places_from case (sym object j) (sym first j) in
    let own : places_from case line.object (line.last + 1) ≡ places_from case place.object (line.last + 1) = λ j. places_from case (object j) (line.last + 1) in
    behind_line case (places_from case place.object place.slot) line e (here ∙ c.requires.object) are (sym c.holds_hulls.ensures.value ∙ holds) ∙ own
