-- The lines of covered spans.
use Rattle.std.proofs.Common.{◌≡◌, true, false, List, [], ◌∷◌, length, map, refl, arith}
use Rattle.std.specs.Prelude.{◌==◌, codes, flat_map}
use Rattle.std.proofs.lemmas.Bool.{eqb-true}
use Rattle.cj_base.specs.declared.tick.Window.{Window}
use Rattle.cj_hermite.specs.CommonRuns.{run_of}
use Rattle.cj_kvn.specs.Entries.{line_of_words}
use Rattle.cj_report.specs.Report.{covered_line, covered_lines}

-- where there is none
pub none_told : (spans : List Window) → (length spans == 0) ≡ true → covered_lines (map run_of spans) ≡ line_of_words (codes "COVERED" ∷ codes "NONE" ∷ [])
none_told [] h = refl
none_told (span ∷ spans) h = let zero_long : length (span ∷ spans) ≡ 0 = eqb-true (length (span ∷ spans)) 0 h in absurd (omega (arith, zero_long))

-- where there are some
pub some_told : (spans : List Window) → (length spans == 0) ≡ false → covered_lines (map run_of spans) ≡ flat_map covered_line (map run_of spans)
some_told [] h = absurd cc
some_told (span ∷ spans) h = refl
