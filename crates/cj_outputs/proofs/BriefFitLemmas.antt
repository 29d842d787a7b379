-- The certificate in brief that a run writes fits, and its text is short enough for a check.
use Rattle.std.proofs.Common.{◌≡◌, ℕ, ◌^◌, ◌+◌, ◌*◌, ◌<◌, ◌≤◌, Bool, true, false, List, length, map, ap, refl, arith}
use Rattle.std.specs.Prelude.{All}
use Rattle.std.specs.List.{enumerate_from}
use Rattle.cj_interval.proofs.ListLemmas.{All-from_each, each_from_All}
use Rattle.cj_base.specs.Ticks.{IsTick}
use Rattle.cj_formats.specs.declared.cert_format.CertFormat.TheVariants.{Brief}
use Rattle.cj_formats.specs.Formats.{most_objects_in}
use Rattle.cj_case.specs.CaseLimits.{MAX_SIZE}
use Rattle.cj_case.specs.PlainProblems.{PlainProblem}
use Rattle.cj_case.specs.Primaries.{marks_of, named}
use Rattle.cj_case.specs.Cells.{PlainCell}
use Rattle.cj_case.specs.Leaves.{PlainLeaf}
use Rattle.cj_hermite.proofs.RootLemmas.{IsRootOf}
use Rattle.cj_bezier.specs.Tiles.{IsLeaf}
use Rattle.cj_bezier.specs.ToldLeaves.{told_leaves}
use Rattle.cj_cert.specs.Accepted.{IsSupported}
use Rattle.cj_cert.specs.Written.{shell_line, size_lines}
use Rattle.cj_brief.specs.Accepted.{AcceptedInBrief}
use Rattle.cj_brief.specs.Written.{written_in_brief}
use Rattle.cj_brief.proofs.PrimaryLemmas.{few_named, named_below}
use Rattle.cj_cert_text.specs.Fits.{FitsCell, FitsInBrief, FitsShell, FitsSize}
use Rattle.cj_cert_text.specs.Texts.{brief_text}
use Rattle.cj_cert_text.proofs.LengthLemmas.{brief_length}
use Rattle.cj_cert_text.proofs.WrittenFitsLemmas.{few_shells, few_sizes, shells_fit, shells_low}
use Rattle.cj_words.specs.Limits.{limits_of, most_certificate_bytes, most_told}
use Rattle.cj_outputs.proofs.BlocksFitLemmas.{sizes_fit}
use Rattle.cj_outputs.proofs.ByPairLemmas.{each_cell}

-- what is so of the problem of any run, also of one over a whole sky
pub record IsOfAnyRun (case : PlainProblem) : Type 0 where
  pub few : length case.tracks ≤ most_objects_in Brief
  pub first : IsTick case.first
  pub last : IsTick case.last
  pub least : 10 ^ 9 ≤ case.threshold
  pub most : case.threshold ≤ 10 ^ 15
  pub sizes : All (λ size. size ≤ MAX_SIZE) case.sizes
  pub sized : length case.sizes ≡ length case.tracks
  pub marked : marks_of case.primaries (length case.tracks) ≡ length case.tracks

told_fits : (case : PlainProblem) → IsOfAnyRun case → AcceptedInBrief case (written_in_brief case) → All (FitsCell (most_objects_in Brief)) (written_in_brief case).cells
told_fits case run accepted =
    All-from_each (FitsCell (most_objects_in Brief)) (written_in_brief case).cells (each_cell (FitsCell (most_objects_in Brief)) case (written_in_brief case) law accepted)
  where
    law : (r : PlainCell) (s : PlainLeaf) → IsRootOf case r → IsLeaf (IsSupported case) r.a r.b r.first r.last s → FitsCell (most_objects_in Brief) s
    law r s is leaf =
        let few = run.few in
        let a = leaf.first_object in
        let b = leaf.second_object in
        let up = is.ordered in
        let exists = is.exists in
        let from = leaf.from in
        let some = leaf.some in
        let to = leaf.to in
        let low = is.root.from in
        let high = is.root.to in
        let first = run.first.0 in
        let last = run.last.1 in
        record { ordered = omega arith; objects = omega arith; first = (omega arith, omega arith); last = (omega arith, omega arith); some = some }

own_shells : (case : PlainProblem) → IsOfAnyRun case → AcceptedInBrief case (written_in_brief case) → All (FitsShell (most_objects_in Brief)) (map (shell_line case) (enumerate_from 0 case.tracks))
unfolding written_in_brief
own_shells case run accepted =
    let lines = map (shell_line case) (enumerate_from 0 case.tracks) in
    All-from_each (FitsShell (most_objects_in Brief)) lines (shells_fit (most_objects_in Brief) case lines run.few accepted.shells (shells_low case))

own_sizes : (case : PlainProblem) → IsOfAnyRun case → All (FitsSize (most_objects_in Brief)) (size_lines case.sizes)
own_sizes case run =
    let few = run.few in
    let sized = run.sized in
    All-from_each (FitsSize (most_objects_in Brief)) (size_lines case.sizes)
    (sizes_fit (most_objects_in Brief) 0 case.sizes (each_from_All (λ size. size ≤ MAX_SIZE) case.sizes run.sizes) (omega arith))

pub written_in_brief_fits : (case : PlainProblem) → IsOfAnyRun case → AcceptedInBrief case (written_in_brief case) → FitsInBrief (written_in_brief case)
unfolding written_in_brief
written_in_brief_fits case run accepted =
    let least = run.least in
    let most = run.most in
    record {
      first = run.first;
      last = run.last;
      some = omega arith;
      threshold = omega arith;
      objects = run.few;
      sizes = own_sizes case run;
      primaries =
          All-from_each (λ object. object < most_objects_in Brief) (named case.primaries)
          (named_below (most_objects_in Brief) case.primaries (length case.tracks) run.marked run.few);
      shells = own_shells case run accepted;
      cells = told_fits case run accepted;
    }

told_cells : (case : PlainProblem) → (written_in_brief case).cells ≡ told_leaves case
unfolding written_in_brief
told_cells case = refl

told_primaries : (case : PlainProblem) → length (written_in_brief case).primaries ≡ length (named case.primaries)
unfolding written_in_brief
told_primaries case = refl

-- ---- how long its text is

text_length : (case : PlainProblem) → IsOfAnyRun case → AcceptedInBrief case (written_in_brief case) → (objects told : ℕ) → length case.tracks ≤ objects → length (told_leaves case) ≤ told
    → length (brief_text (written_in_brief case)) ≤ 204 + objects * 103 + told * 53
text_length case run accepted objects told few few_told =
    let c = written_in_brief case in
    let sized = run.sized in
    let sizes = few_sizes case c.sizes accepted.sizes in
    let shells = few_shells case c.shells accepted.shells in
    let primaries = few_named case.primaries (length case.tracks) run.marked in
    let primary_lines = told_primaries case in
    let cells = ap (λ (ss : List PlainLeaf). length ss) (told_cells case) in
    brief_length objects told c (written_in_brief_fits case run accepted) (omega arith) (omega arith) (omega arith) (omega arith)

-- a check reads what a run wrote within its limits
pub written_in_brief_short : (large : Bool) (case : PlainProblem) → IsOfAnyRun case → AcceptedInBrief case (written_in_brief case) → length case.tracks ≤ (limits_of large).objects
    → length (told_leaves case) ≤ most_told large → length (brief_text (written_in_brief case)) ≤ most_certificate_bytes large
written_in_brief_short false case run accepted few told =
    let whole = text_length case run accepted 2000 4_000_000 few told in
    let short : length (brief_text (written_in_brief case)) ≤ 1_073_741_824 = omega (arith, whole) in
    short
written_in_brief_short true case run accepted few told =
    let whole = text_length case run accepted 50_000 80_000_000 few told in
    let short : length (brief_text (written_in_brief case)) ≤ 4_294_967_290 = omega (arith, whole) in
    short
