use Rattle.std.proofs.Common.{◌∙◌, ◌≤◌, Err, List, length, refl, ap, arith}
use Rattle.std.proofs.lemmas.List.{length-map}
use Rattle.cj_bezier.specs.ToldLeaves.{told_leaves}
use Rattle.cj_case.specs.Leaves.{PlainLeaf, plain_leaf, plain_leaves}
use Rattle.cj_case.specs.Problems.{plain_problem}
use Rattle.cj_cells.specs.Lists.{list_candidates}
use Rattle.cj_slabs.specs.Slabs.{leaves_listed}
use Rattle.cj_screen.specs.Refining.{HoldsAllTicks}
use Rattle.cj_screen.proofs.LinesLemmas.{all_asked, between_sifted, few_enough, leaves_have_ticks, marked_few, marked_keep, marked_meet, stops_sifted}
use Rattle.cj_screen.proofs.sifting.sift_all.Goals as goal

pub returns-in-Err : goal.returns-in-Err
returns-in-Err g c =
    let case = plain_problem c.args.problem.now in
    let wanted = c.args.wanted in
    let says = c.in-Err.ensures in
    rw c.not_sifted.ensures (record {
      between = between_sifted wanted.leaves wanted.told c.in-Err.error;
      told = stops_sifted wanted.leaves wanted.told case c.in-Err.error (λ is. says.too_many (ap Err is)) (λ is. says.few_leaves (ap Err is)) (λ is. says.too_many_told (ap Err is));
      few = tt;
      few_told = tt;
      found = tt;
      ticks = tt;
    })

pub returns : goal.returns
returns g c =
    let case = plain_problem c.args.problem.now in
    let wanted = c.args.wanted in
    let says = c.in-Ok.ensures in
    let counts = says.counts in
    let slabs = c.in-Ok.sifted.slabs.items in
    let measured = c.in_ok-measured.ensures.measured in
    let all : length (list_candidates case) ≤ wanted.leaves = omega (arith, says.within, counts.leaves) in
    let told : length (told_leaves case) ≤ wanted.told = omega (arith, says.told_within, ap (λ (ss : List PlainLeaf). length ss) says.told, length-map (leaves_listed slabs) plain_leaf) in
    let ticks : HoldsAllTicks case = record { sound = says.sound; complete = says.complete; far = says.far; ordered = says.ordered; pieces = says.pieces } in
    let marks = c.in_ok-met.ensures case says.told (leaves_have_ticks case ticks) says.ordered in
    let met = c.in_ok-met.met.items in
    record {
      between = tt;
      told = all_asked wanted.leaves wanted.told case all told;
      few = all;
      few_told = few_enough wanted.told case told;
      found = record {
        lines = record {
          made = record { shells = c.shells_alone-shells.ensures ∙ measured.shells; told = ap plain_leaves c.in_ok-told.ensures ∙ says.told };
          met = marked_meet case met marks;
        };
        format = refl;
        few = marked_few case met marks (omega (arith, all, wanted.few_leaves));
        ordered = marks.ordered;
        pieces = marked_keep case met marks says.pieces;
        kept = c.in_ok-kept.ensures;
        touching = says.touching;
        leaves = counts;
      };
      ticks = ticks;
    }
