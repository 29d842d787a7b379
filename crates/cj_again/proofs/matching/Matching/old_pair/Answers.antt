use Rattle.std.proofs.Common.{◌∙◌, ap, arith}
use Rattle.std.specs.Prelude.{option_map}
use Rattle.std.proofs.lemmas.List.{length-map}
use Rattle.cj_case.specs.Problems.{plain_problem}
use Rattle.cj_track.specs.Tracks.{plain_track}
use Rattle.cj_again.specs.Matchings.{plain_ends}
use Rattle.cj_again.proofs.MatchLemmas.{ends_at, ends_count, pair_found}
use Rattle.cj_again.proofs.matching.Matching.old_pair.Goals as goal

pub index-requires : goal.index-requires
index-requires c =
    let m = c.args.self.now in
    let count = ends_count (plain_problem m.old.now) (plain_problem m.new.now) m.ends.items m.matched in
    omega (arith, count, length-map m.new.now.tracks plain_track, m.ends.ok.0, c.requires, c.args.pair.ordered)

pub index-requires-2 : goal.index-requires-2
index-requires-2 c =
    let m = c.args.self.now in
    let count = ends_count (plain_problem m.old.now) (plain_problem m.new.now) m.ends.items m.matched in
    omega (arith, count, length-map m.new.now.tracks plain_track, m.ends.ok.0, c.requires)

pub returns-clause-found : goal.returns-clause-found
returns-clause-found c =
    let m = c.args.self.now in
    let old = plain_problem m.old.now in
    let new = plain_problem m.new.now in
    let some = length-map m.new.now.tracks plain_track in
    (pair_found old new c.args.pair.a c.args.pair.b c.between.result _ _ c.between.ensures
    (ap (option_map plain_ends) c.index.ensures ∙ ends_at old new m.ends.items c.args.pair.a _ m.matched (omega (arith, some, c.requires, c.args.pair.ordered)))
    (ap (option_map plain_ends) c.index-2.ensures ∙ ends_at old new m.ends.items c.args.pair.b _ m.matched (omega (arith, some, c.requires)))).found

pub returns-clause-is : goal.returns-clause-is
returns-clause-is c =
    let m = c.args.self.now in
    let old = plain_problem m.old.now in
    let new = plain_problem m.new.now in
    let some = length-map m.new.now.tracks plain_track in
    (pair_found old new c.args.pair.a c.args.pair.b c.between.result _ _ c.between.ensures
    (ap (option_map plain_ends) c.index.ensures ∙ ends_at old new m.ends.items c.args.pair.a _ m.matched (omega (arith, some, c.requires, c.args.pair.ordered)))
    (ap (option_map plain_ends) c.index-2.ensures ∙ ends_at old new m.ends.items c.args.pair.b _ m.matched (omega (arith, some, c.requires)))).is
