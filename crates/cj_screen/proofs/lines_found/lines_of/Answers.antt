use Rattle.std.proofs.Common.{◌∙◌, ap, sym, subst}
use Rattle.cj_case.specs.Order.{AreInOrder}
use Rattle.cj_formats.specs.declared.cert_format.CertFormat.{CertFormat}
use Rattle.cj_meet.specs.Closest.{KeepTheirPieces}
use Rattle.cj_meet.specs.Encounters.{encounters_of}
use Rattle.cj_outputs.specs.Findings.{told_in}
use Rattle.cj_screen.proofs.LinesLemmas.{counts_listed}
use Rattle.cj_screen.proofs.lines_found.lines_of.Goals as goal

pub returns-in-Full : goal.returns-in-Full
returns-in-Full c = λ case are ticks.
    let counts = c.of_list.ensures in
    record {
      lines = record { made = record { measured = are.measured; leaves = are.leaves }; met = ap encounters_of are.leaves };
      format = sym c.in-Full.is;
      few = are.few;
      ordered = subst AreInOrder (sym are.leaves) ticks.ordered;
      pieces = subst (KeepTheirPieces case) (sym are.leaves) ticks.pieces;
      kept = are.kept;
      touching = are.touching;
      leaves = counts_listed case c.args.refined.leaves.items c.deref.result.now c.args.refined.counted.roots c.of_list.result c.deref.ensures.value are.leaves are.roots are.splits
          counts.roots counts.leaves counts.far counts.near counts.undecided;
    }

pub returns-in-Brief : goal.returns-in-Brief
returns-in-Brief c = λ case are ticks.
    let counts = c.of_list.ensures in
    record {
      lines = record {
        made = record { shells = c.shells_alone.ensures ∙ are.measured.shells; told = are.told ∙ ap (λ (format : CertFormat). told_in format case) c.in-Brief.is };
        met = ap encounters_of are.leaves;
      };
      format = sym c.in-Brief.is;
      few = are.few;
      ordered = subst AreInOrder (sym are.leaves) ticks.ordered;
      pieces = subst (KeepTheirPieces case) (sym are.leaves) ticks.pieces;
      kept = are.kept;
      touching = are.touching;
      leaves = counts_listed case c.args.refined.leaves.items c.deref.result.now c.args.refined.counted.roots c.of_list.result c.deref.ensures.value are.leaves are.roots are.splits
          counts.roots counts.leaves counts.far counts.near counts.undecided;
    }
