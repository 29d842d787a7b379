use Rattle.std.proofs.Common.{◌≡◌, ◌∙◌, All, List, length, map, ap, refl, sym, subst, arith}
use Rattle.std.proofs.lemmas.Result.{err_from_is_err_and}
use Rattle.cj_case.specs.Problems.{plain_problem}
use Rattle.cj_case.specs.Leaves.{PlainLeaf, plain_leaves}
use Rattle.cj_case.specs.Order.{AreInOrder}
use Rattle.cj_case.specs.declared.leaf.Leaf.{Leaf}
use Rattle.cj_cells.specs.Lists.{list_candidates}
use Rattle.cj_meet.specs.Closest.{HasNearest, KeepTheirPieces}
use Rattle.cj_meet.specs.Encounters.{encounters_of}
use Rattle.cj_outputs.specs.Either.{any_written}
use Rattle.cj_outputs.specs.Lines.{leaves_met}
use Rattle.cj_outputs.specs.Meetings.{AreMeetings}
use Rattle.cj_outputs.specs.Messages.{has_message}
use Rattle.cj_outputs.specs.Outcome.{report_bytes}
use Rattle.cj_report.specs.declared.tells.Tells.{Tells}
use Rattle.cj_screen.proofs.CoverLemmas.{covers_exactly}
use Rattle.cj_meet.proofs.SpanLemmas.{exact_spans_of}
use Rattle.cj_screen.proofs.LinesLemmas.{leaves_have_ticks}
use Rattle.cj_screen.proofs.ReportLemmas.{written_accepted}
use Rattle.cj_screen.proofs.SplitLemmas.{splits}
use Rattle.cj_screen.proofs.screening.tell.Goals as goal

pub find_meetings-requires-clause-in_order : goal.find_meetings-requires-clause-in_order
find_meetings-requires-clause-in_order g c = λ lifetimes outlive. subst (λ (ls : List Leaf). AreInOrder (plain_leaves ls)) (sym c.met.ensures) c.requires.found.ordered

pub find_meetings-requires-clause-few : goal.find_meetings-requires-clause-few
find_meetings-requires-clause-few g c = omega (arith, ap (λ (ls : List Leaf). length ls) c.met.ensures, c.requires.found.few)

pub find_meetings-requires-clause-pieces : goal.find_meetings-requires-clause-pieces
find_meetings-requires-clause-pieces g c = λ lifetimes outlive.
    subst (λ (ls : List Leaf). KeepTheirPieces (plain_problem c.args.problem) (plain_leaves ls)) (sym c.met.ensures) c.requires.found.pieces

pub count-counts-requires : goal.count-counts-requires
count-counts-requires g c =
    let case = plain_problem c.args.problem in
    let found = c.requires.found in
    let met = c.in_ok-met.ensures.meetings in
    let shown = ap (λ (ls : List Leaf). encounters_of (plain_leaves ls)) c.met.ensures ∙ found.lines.met in
    record {
      kept = found.kept;
      touching = found.touching;
      leaves = found.leaves;
      messages = c.deref.ensures.value ∙ met.messages ∙ ap (map (has_message case)) (met.encounters.groups ∙ shown);
    }

pub returns : goal.returns
returns g c =
    let case = plain_problem c.args.problem in
    let found = c.requires.found in
    let lent : plain_leaves c.met.result.now ≡ plain_leaves (leaves_met c.args.found.lines) = ap plain_leaves c.met.ensures in
    let met = subst (λ (ss : List PlainLeaf). AreMeetings case ss c.in_ok-met.met) lent c.in_ok-met.ensures.meetings in
    let shown = ap encounters_of lent ∙ found.lines.met in
    let nearest = subst (All (HasNearest case)) shown c.in_ok-met.ensures.nearest in
    record {
      same = refl;
      wanted = refl;
      behind = refl;
      found = record {
        lines = found.lines;
        format = found.format;
        few = found.few;
        encounters = met.encounters;
        closest = met.closest;
        messages = met.messages;
        counts = c.count-counts.ensures;
      };
      reports = λ settings tells. record {
        text = ap (λ (t : Tells). report_bytes t case (list_candidates case)) tells;
        split = splits case (list_candidates case) refl c.requires.ticks (exact_spans_of (list_candidates case) (leaves_have_ticks case c.requires.ticks));
        nearest = nearest;
        relative = c.exact_relatives.ensures c.requires.ticks.sound nearest;
        covered = covers_exactly case;
        certified = record {
          certificate = any_written c.args.wanted.format case;
          text = refl;
          accepted = written_accepted case c.args.wanted.format c.acceptance_in_blocks.ensures.in_version c.acceptance_in_brief.ensures.written;
          implies = (c.acceptance.ensures.splits, c.acceptance_in_brief.ensures.splits);
        };
      };
    }

pub returns-in_err-met : goal.returns-in_err-met
returns-in_err-met g c =
    let p = err_from_is_err_and c.from_residual.result c.from_residual.ensures.1 in
    rw p.1 (record { same = tt; wanted = tt; behind = tt; found = tt; reports = λ settings tells. tt })
