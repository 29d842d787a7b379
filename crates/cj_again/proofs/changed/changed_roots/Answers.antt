use Rattle.std.proofs.Common.{ℕ, ◌<◌, List, All, length, sym, ap, subst, ◌∙◌, arith}
use Rattle.std.specs.Prelude.{AllPairs, filter, not}
use Rattle.std.proofs.lemmas.List.{length-map}
use Rattle.cj_case.specs.Cells.{PlainCell, IsRootUpTo, plain_cell, plain_cells}
use Rattle.cj_case.specs.Problems.{plain_problem}
use Rattle.cj_case.specs.Unchanged.{is_unchanged}
use Rattle.cj_bezier.specs.Candidates.{is_candidate, is_candidate_anew}
use Rattle.cj_track.specs.Tracks.{plain_track}
use Rattle.cj_again.proofs.ChangedLemmas.{changed_are, changed_few, roots_exist, roots_ordered}
use Rattle.cj_again.proofs.changed.changed_roots.Goals as goal

pub select-requires : goal.select-requires
select-requires c =
    let problem = c.args.matching.now.new.now in
    let new = plain_problem problem in
    subst (λ (n : ℕ). All (λ root. root.pair.b < n) c.args.roots.now) (length-map problem.tracks plain_track)
    (roots_exist (is_candidate new) new c.args.roots.now c.requires.all)

pub number_roots-requires-clause-few : goal.number_roots-requires-clause-few
number_roots-requires-clause-few c =
    let some = c.in_ok-some.some in
    let few = changed_few (plain_problem c.args.matching.now.old.now) (plain_problem c.args.matching.now.new.now) (plain_cells c.args.roots.now) (plain_cells some.items) c.requires.all c.in_ok-some.ensures in
    omega (arith, few, c.requires.few, length-map some.items plain_cell, length-map c.args.roots.now plain_cell, some.ok.0)

pub number_roots-requires-clause-ordered : goal.number_roots-requires-clause-ordered
number_roots-requires-clause-ordered c =
    let old = plain_problem c.args.matching.now.old.now in
    let new = plain_problem c.args.matching.now.new.now in
    let found = c.in_ok-some.ensures ∙ ap (filter (λ r. not (is_unchanged old new (r.a, r.b)))) c.requires.all ∙ changed_are old new in
    subst (λ (rs : List PlainCell). AllPairs IsRootUpTo rs) (sym found) (roots_ordered (is_candidate_anew old new) new)

pub returns-clause-value : goal.returns-clause-value
returns-clause-value c =
    let old = plain_problem c.args.matching.now.old.now in
    let new = plain_problem c.args.matching.now.new.now in
    c.number_roots.ensures.kept ∙ c.in_ok-some.ensures ∙ ap (filter (λ r. not (is_unchanged old new (r.a, r.b)))) c.requires.all ∙ changed_are old new

pub returns-clause-numbered : goal.returns-clause-numbered
returns-clause-numbered c = c.number_roots.ensures.numbered

pub returns-clause-fewer : goal.returns-clause-fewer
returns-clause-fewer c =
    let some = c.in_ok-some.some in
    let new = c.number_roots.new.roots in
    let few = changed_few (plain_problem c.args.matching.now.old.now) (plain_problem c.args.matching.now.new.now) (plain_cells c.args.roots.now) (plain_cells some.items) c.requires.all c.in_ok-some.ensures in
    omega (
      arith,
      few,
      ap (λ (cells : List PlainCell). length cells) c.number_roots.ensures.kept,
      length-map some.items plain_cell,
      length-map new.items plain_cell,
      length-map c.args.roots.now plain_cell,
      new.ok.0,
    )
