use Rattle.std.proofs.Common.{arith, ◌≡◌, ◌+◌, ◌-◌, ◌∙◌, ◌<◌, ◌≤◌, List, ap, drop, length, subst, sym, take, ℕ}
use Rattle.std.specs.List.{count_by}
use Rattle.std.proofs.lemmas.List.{length-drop, take_all}
use Rattle.cj_base.specs.Bytes.{is_feed}
use Rattle.cj_cdm.specs.Relative.{behind_lines, front_lines}
use Rattle.cj_cdm.proofs.AddedLemmas.{behind_more, fewer_feeds, front_more, no_feeds}
use Rattle.cj_cdm.proofs.adding.+end_of_lines.Goals as goal

-- what stands behind a line, as the text is cut there
cut : (at : ℕ) (text : List ℕ) → take (length text - (at + 1)) (drop (at + 1) text) ≡ drop (at + 1) text
cut at text = take_all (length text - (at + 1)) (drop (at + 1) text) (omega (arith, length-drop (at + 1) text))

pub end_of_lines-requires : goal.end_of_lines-requires
end_of_lines-requires t c =
    let text = c.args.text.now in
    let at = c.in-Some.at in
    let some : 0 < c.args.count = omega (arith, c.if-count-eq0.false) in (
      omega (arith, c.decreases, some),
      subst (λ (u : List ℕ). c.args.count - 1 ≤ count_by is_feed u) (sym (cut at text)) (fewer_feeds c.args.count at text some c.requires (sym c.in-Some.ensures)),
    )

pub returns-in-Some-clause-front : goal.returns-in-Some-clause-front
returns-in-Some-clause-front t c =
    let text = c.args.text.now in
    let at = c.in-Some.at in
    let some : 0 < c.args.count = omega (arith, c.if-count-eq0.false) in
    front_more c.args.count at c.end_of_lines.result text some (sym c.in-Some.ensures)
    (ap (λ (u : List ℕ). take c.end_of_lines.result u) (sym (cut at text)) ∙ c.end_of_lines.ensures.front ∙ ap (λ (u : List ℕ). front_lines (c.args.count - 1) u) (cut at text))

pub returns-in-Some-clause-behind : goal.returns-in-Some-clause-behind
returns-in-Some-clause-behind t c =
    let text = c.args.text.now in
    let at = c.in-Some.at in
    let some : 0 < c.args.count = omega (arith, c.if-count-eq0.false) in
    behind_more c.args.count at c.end_of_lines.result text some (sym c.in-Some.ensures)
    (ap (λ (u : List ℕ). drop c.end_of_lines.result u) (sym (cut at text)) ∙ c.end_of_lines.ensures.behind ∙ ap (λ (u : List ℕ). behind_lines (c.args.count - 1) u) (cut at text))

pub returns-in-None-clause-front : goal.returns-in-None-clause-front
returns-in-None-clause-front t c = absurd (no_feeds c.args.count c.args.text.now (omega (arith, c.if-count-eq0.false)) c.requires (sym c.in-None.ensures))

pub returns-in-None-clause-behind : goal.returns-in-None-clause-behind
returns-in-None-clause-behind t c = absurd (no_feeds c.args.count c.args.text.now (omega (arith, c.if-count-eq0.false)) c.requires (sym c.in-None.ensures))
