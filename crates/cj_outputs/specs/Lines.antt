-- What certificates are made of.
use Rattle.std.specs.Prelude.{◌≡◌, List, Option}
use Rattle.cj_case.specs.PlainProblems.{PlainProblem}
use Rattle.cj_case.specs.Leaves.{plain_leaves}
use Rattle.cj_case.specs.declared.leaf.Leaf.{Leaf}
use Rattle.cj_case.specs.declared.measured.Measured.{Measured}
use Rattle.cj_case.specs.declared.shells.Shell.{Shell}
use Rattle.cj_formats.specs.declared.cert_format.CertFormat.{CertFormat}
use Rattle.cj_formats.specs.declared.cert_format.CertFormat.TheVariants.{Full, Brief}
use Rattle.cj_bezier.specs.Candidates.{shells_of}
use Rattle.cj_bezier.specs.MeasuredObjects.{AreMeasured}
use Rattle.cj_bezier.specs.ToldLeaves.{told_leaves}
use Rattle.cj_cells.specs.Lists.{list_candidates}
use Rattle.cj_meet.specs.Encounters.{encounters_of}
use Rattle.cj_outputs.specs.declared.lines.Lines.{Lines}
use Rattle.cj_outputs.specs.declared.lines.Lines.TheVariants.{InFull, InBrief}
use Rattle.cj_outputs.specs.Outcome.{encounters_in}

-- the format of the certificate that is made of these
abbrev pub format_of : Lines → CertFormat
format_of (InFull version measured leaves) = Full version
format_of (InBrief shells told met) = Brief

-- the leaves of which the encounters are
abbrev pub leaves_met : Lines → List Leaf
leaves_met (InFull version measured leaves) = leaves.items
leaves_met (InBrief shells told met) = met.items

-- what is measured of the objects of a case, and its leaves
pub record AreInFull (case : PlainProblem) (found : Measured) (all : List Leaf) : Type 0 where
  pub measured : AreMeasured case found
  pub leaves : plain_leaves all ≡ list_candidates case

-- the shells of the objects of a case, and those of its leaves that are told
pub record AreInBrief (case : PlainProblem) (found : List (Option Shell)) (some : List Leaf) : Type 0 where
  pub shells : found ≡ shells_of case
  pub told : plain_leaves some ≡ told_leaves case

-- they are what a certificate of the case is made of
abbrev pub AreMadeOf : PlainProblem → Lines → Type 0
AreMadeOf case (InFull version measured leaves) = AreInFull case measured leaves.items
AreMadeOf case (InBrief shells told met) = AreInBrief case shells.items told.items

-- and the encounters of the case are those of the leaves beside
pub record AreLines (case : PlainProblem) (lines : Lines) : Type 0 where
  pub made : AreMadeOf case lines
  pub met : encounters_of (plain_leaves (leaves_met lines)) ≡ encounters_in case
