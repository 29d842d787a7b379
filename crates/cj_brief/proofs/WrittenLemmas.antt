-- The certificate in brief that a run writes is accepted.
use Rattle.std.proofs.Common.{◌≡◌, ℕ, ◌^◌, ◌≤◌, inl, inr, Bool, true, false, cond, List, [], ◌∷◌, ◌++◌, map, Option, refl, sym, ap, subst}
use Rattle.std.specs.List.{AllZip, enumerate_from, flat_map}
use Rattle.cj_interval.proofs.ListLemmas.{Each}
use Rattle.cj_case.specs.PlainProblems.{PlainProblem}
use Rattle.cj_case.specs.Cells.{PlainCell}
use Rattle.cj_case.specs.Leaves.{PlainLeaf}
use Rattle.cj_case.specs.declared.shells.Shell.{Shell}
use Rattle.cj_hermite.specs.Roots.{roots_by_slot}
use Rattle.cj_hermite.proofs.RootLemmas.{IsRootOf}
use Rattle.cj_bezier.specs.Candidates.{boxes_in, candidate_by, is_candidate, shells_of}
use Rattle.cj_bezier.specs.RootLeaves.{is_far_throughout, leaves_of_root, told_of_root}
use Rattle.cj_bezier.specs.ToldLeaves.{told_by, told_leaves}
use Rattle.cj_cert.specs.Accepted.{AreShells, IsSupported, Accepted}
use Rattle.cj_cert.specs.Written.{shell_line, written}
use Rattle.cj_cert.proofs.ListedLemmas.{AreAllInTime}
use Rattle.cj_cert.proofs.WrittenLemmas.{root_tile, shells_same}
use Rattle.cj_cert.proofs.WrittenLineLemmas.{sizes_numbered}
use Rattle.cj_brief.specs.Accepted.{is_candidate_in_brief, TilesOrFar, TileOrFar, IsFarThroughout, AcceptedInBrief}
use Rattle.cj_brief.specs.Certificates.{shells_in_brief}
use Rattle.cj_brief.specs.Written.{written_in_brief}
use Rattle.cj_brief.proofs.RootsBySlotLemmas.{Each-by_slot}

-- ---- shells and candidates

shells_shown : (case : PlainProblem) → Accepted case (written case) → AreShells case (map (shell_line case) (enumerate_from 0 case.tracks))
unfolding written
shells_shown case accepted = accepted.shells

own_shells : (case : PlainProblem) → shells_in_brief (written_in_brief case) ≡ shells_of case
unfolding written written_in_brief
own_shells case = shells_same case

candidates_same : (case : PlainProblem) → is_candidate_in_brief case (written_in_brief case) ≡ is_candidate case
unfolding is_candidate_in_brief is_candidate
candidates_same case = ap (λ (shells : List (Option Shell)). candidate_by case shells (boxes_in case)) (own_shells case)

-- ---- cells

-- what is told of a root tiles it, or the root is far throughout
told_tiles : (case : PlainProblem) → AreAllInTime case → 10 ^ 9 ≤ case.threshold → (r : PlainCell) → IsRootOf case r → TilesOrFar (IsSupported case) (IsFarThroughout case) r (told_of_root case r)
unfolding told_of_root
told_tiles case time big r is = go (is_far_throughout case r) refl
  where
    go : (far : Bool) → is_far_throughout case r ≡ far → TilesOrFar (IsSupported case) (IsFarThroughout case) r (cond far [] (leaves_of_root case r))
    go true far = inr (refl, far)
    go false near = inl (root_tile case r time big is)

each_told : (case : PlainProblem) → AreAllInTime case → 10 ^ 9 ≤ case.threshold → (roots : List PlainCell) → Each (IsRootOf case) roots
    → AllZip (TilesOrFar (IsSupported case) (IsFarThroughout case)) roots (map (told_of_root case) roots)
each_told case time big [] each = tt
each_told case time big (r ∷ roots) each = (told_tiles case time big r each.0, each_told case time big roots each.1)

told_whole : (case : PlainProblem) (roots : List PlainCell) → flat_map (told_of_root case) roots ≡ flat_map (λ part. part) (map (told_of_root case) roots)
told_whole case [] = refl
told_whole case (r ∷ roots) = ap (λ (ss : List PlainLeaf). told_of_root case r ++ ss) (told_whole case roots)

cells_told : (case : PlainProblem) → AreAllInTime case → 10 ^ 9 ≤ case.threshold → TileOrFar (IsSupported case) (IsFarThroughout case) (roots_by_slot (is_candidate case) case) (told_leaves case)
unfolding told_by
cells_told case time big =
    let roots = roots_by_slot (is_candidate case) case in
    record { parts = map (told_of_root case) roots; whole = told_whole case roots; tiles = each_told case time big roots (Each-by_slot (is_candidate case) case) }

-- ---- the certificate

pub written_in_brief_accepted : (case : PlainProblem) → AreAllInTime case → 10 ^ 9 ≤ case.threshold → Accepted case (written case) → AcceptedInBrief case (written_in_brief case)
unfolding written_in_brief
written_in_brief_accepted case time big accepted = record {
  first = refl;
  last = refl;
  threshold = refl;
  objects = refl;
  sizes = sizes_numbered 0 case.sizes;
  primaries = refl;
  shells = shells_shown case accepted;
  cells = subst (λ (candidate : ℕ → ℕ → ℕ → Bool). TileOrFar (IsSupported case) (IsFarThroughout case) (roots_by_slot candidate case) (told_leaves case)) (sym (candidates_same case))
      (cells_told case time big);
}
