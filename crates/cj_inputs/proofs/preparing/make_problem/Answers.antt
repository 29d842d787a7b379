use Rattle.std.proofs.Common.{◌≡◌, ◌∙◌, ◌*◌, ℕ, List, Ok, map, length, sym, ap, ap₂, arith}
use Rattle.std.proofs.lemmas.List.{length-map}
use Rattle.cj_track.specs.Tracks.{plain_track}
use Rattle.cj_track.specs.declared.track.Track.{Track}
use Rattle.cj_case.specs.PlainProblems.{PlainProblem}
use Rattle.cj_inputs.specs.Cases.{case_with}
use Rattle.cj_inputs.proofs.StepLemmas.{no_limit, too_long, too_many_slots}
use Rattle.cj_inputs.proofs.preparing.make_problem.Goals as goal

pub returns-then-length-gt-MAX_LENGTH-clause-told : goal.returns-then-length-gt-MAX_LENGTH-clause-told
returns-then-length-gt-MAX_LENGTH-clause-told c =
    let window = c.args.window in
    let case = case_with (map plain_track c.args.tracks.items) window.first.micros window.last.micros c.args.threshold c.args.sizes c.args.primaries in
    too_long c.args.limits.object_slots case c.saturating_sub-length.result c.saturating_sub-length.ensures c.if-length-gt-MAX_LENGTH.true

pub returns-then-count-limits-clause-told : goal.returns-then-count-limits-clause-told
returns-then-count-limits-clause-told c =
    let window = c.args.window in
    let case = case_with (map plain_track c.args.tracks.items) window.first.micros window.last.micros c.args.threshold c.args.sizes c.args.primaries in
    let many : c.len.result ≡ length c.args.tracks.items = omega (arith, c.len.ensures, c.args.tracks.ok.0) in
    let count = ap₂ (λ (a b : ℕ). a * b) (many ∙ sym (length-map c.args.tracks.items plain_track)) (c.from.ensures ∙ c.slot_count.ensures) in
    too_many_slots c.args.limits.object_slots case c.saturating_sub-length.result (c.len.result * c.from.result) c.saturating_sub-length.ensures c.if-length-gt-MAX_LENGTH.false count c.if-count-limits.true

pub returns-clause-told : goal.returns-clause-told
returns-clause-told c =
    let window = c.args.window in
    let case_of : List Track → PlainProblem = λ ts. case_with (map plain_track ts) window.first.micros window.last.micros c.args.threshold c.args.sizes c.args.primaries in
    let many : c.len.result ≡ length c.args.tracks.items = omega (arith, c.len.ensures, c.args.tracks.ok.0) in
    let count = ap₂ (λ (a b : ℕ). a * b) (many ∙ sym (length-map c.args.tracks.items plain_track)) (c.from.ensures ∙ c.slot_count.ensures) in
    no_limit c.args.limits.object_slots (case_of c.args.tracks.items) c.saturating_sub-length.result (c.len.result * c.from.result) c.saturating_sub-length.ensures c.if-length-gt-MAX_LENGTH.false count
    c.if-count-limits.false ∙ ap (λ (ts : List Track). Ok (case_of ts)) (sym c.new.ensures)
