-- Certificates of version 2 from their parts.
use Rattle.std.proofs.Common.{◌≡◌, ℕ, ◌+◌, ◌<◌, Bool, List, [], ◌∷◌, ◌++◌, length, get_or, map, filter, take, Option, sym, ap, ◌∙◌, subst}
use Rattle.std.specs.Prelude.{All}
use Rattle.std.specs.List.{enumerate_from, range_with_len}
use Rattle.std.proofs.lemmas.List.{map_push, take_more}
use Rattle.cj_interval.proofs.ListLemmas.{Each, Each-weaker, All-from_each, each_from_map, Each-filter}
use Rattle.cj_formats.specs.declared.cert_version.CertVersion.TheVariants.{Two}
use Rattle.cj_case.specs.declared.pair.Pair.{Pair}
use Rattle.cj_case.specs.Pairs.{objects_of, pairs_of}
use Rattle.cj_case.specs.PlainProblems.{PlainProblem}
use Rattle.cj_case.specs.Slots.{slot_count}
use Rattle.cj_case.proofs.PairLemmas.{IsPair, Each-pairs}
use Rattle.cj_case.specs.Leaves.{PlainLeaf}
use Rattle.cj_bezier.specs.Candidates.{pairs_kept}
use Rattle.cj_case.specs.Boxes.{PlainBox}
use Rattle.cj_blocks.specs.Blocks.{blocks_of}
use Rattle.cj_cert.specs.declared.cert_lines.ShellLine.{ShellLine}
use Rattle.cj_cert.specs.declared.cert_lines.SizeOfLine.{SizeOfLine}
use Rattle.cj_cert.specs.Certificates.{PlainBoxLine, PlainCertificate}
use Rattle.cj_cert.specs.Listed.{box_listed}
use Rattle.cj_blocks.specs.Rewritten.{line_of_block, boxes_by_lines, pairs_by_shells, given_of, with_blocks, rewritten, written_in}
use Rattle.cj_bezier.specs.AllBoxes.{boxes_of}
use Rattle.cj_cert.specs.Written.{leaves_in_order, shell_line, size_lines, written}
use Rattle.cj_cert.proofs.WrittenLineLemmas.{of_lines_in}

-- pairs that are left of all are of the objects
pub pairs_of_objects : (n m : ℕ) (test : ℕ × ℕ → Bool) (kept : List Pair) → map objects_of kept ≡ filter test (pairs_of n) → n ≡ m → All (λ pair. pair.b < m) kept
pairs_of_objects n m test kept same count =
    subst (λ (k : ℕ). All (λ pair. pair.b < k) kept) count
    (All-from_each (λ pair. pair.b < n) kept
    (each_from_map (λ pair. pair.1 < n) objects_of kept
    (subst (λ (ps : List (ℕ × ℕ)). Each (λ pair. pair.1 < n) ps) (sym same)
    (Each-weaker (IsPair n) (λ pair. pair.1 < n) (λ pair is. is.exists) (filter test (pairs_of n)) (Each-filter (IsPair n) test (pairs_of n) (Each-pairs n))))))

-- a certificate in version 2 with these sizes and boxes
abbrev with_lines : PlainCertificate → List SizeOfLine → List PlainBoxLine → PlainCertificate
with_lines c sizes boxes = record {
  version = Two;
  first = c.first;
  last = c.last;
  threshold = c.threshold;
  objects = c.objects;
  sizes = sizes;
  shells = c.shells;
  boxes = boxes;
  cells = c.cells;
}

-- the lines of the blocks over boxes and kept pairs that are the listed ones
abbrev lines_over : PlainProblem → List (List (Option PlainBox)) → List (ℕ × ℕ) → List PlainBoxLine
lines_over case boxes kept = map line_of_block (blocks_of (given_of case boxes kept))

pub listed_in_order : (case : PlainProblem) (lines : List PlainBoxLine) (objects slots : ℕ) → objects ≡ length case.tracks → slots ≡ slot_count case.first case.last
    → map (λ object. map (λ slot. box_listed lines slot object) (range_with_len 0 slots)) (range_with_len 0 objects) ≡ boxes_by_lines case lines
unfolding boxes_by_lines
listed_in_order case lines objects slots many wide = λ i. map (λ object. map (λ slot. box_listed lines slot object) (range_with_len 0 (wide i))) (range_with_len 0 (many i))

pub rewritten_is : (case : PlainProblem) (c : PlainCertificate) (sizes : List SizeOfLine) (lines : List PlainBoxLine) (boxes : List (List (Option PlainBox))) (kept : List (ℕ × ℕ))
    → sizes ≡ size_lines case.sizes → lines ≡ lines_over case boxes kept → boxes ≡ boxes_by_lines case c.boxes → kept ≡ pairs_by_shells case c → with_lines c sizes lines ≡ rewritten case c
unfolding with_blocks
rewritten_is case c sizes lines boxes kept same are by_lines by_shells =
    (λ i. with_lines c (same i) (are i))
    ∙ (λ i. with_lines c (size_lines case.sizes) (lines_over case (by_lines i) (by_shells i)))

-- what a run writes in version 2
pub written_is : (case : PlainProblem) (objects : ℕ) (sizes : List SizeOfLine) (shells : List ShellLine) (lines : List PlainBoxLine) (cells : List PlainLeaf) (boxes : List (List (Option PlainBox))) (kept : List (ℕ × ℕ))
    → objects ≡ length case.tracks → sizes ≡ size_lines case.sizes → shells ≡ map (shell_line case) (enumerate_from 0 case.tracks) → lines ≡ lines_over case boxes kept
    → boxes ≡ boxes_of case → kept ≡ pairs_kept case → cells ≡ leaves_in_order case → of_lines_in Two case objects sizes shells lines cells ≡ written_in Two case
unfolding with_blocks written
written_is case objects sizes shells lines cells boxes kept many same rounds are by_place by_pair leaves =
    (λ i. of_lines_in Two case (many i) (same i) (rounds i) (are i) (leaves i))
    ∙ (λ i. of_lines_in Two case (length case.tracks) (size_lines case.sizes) (map (shell_line case) (enumerate_from 0 case.tracks)) (lines_over case (by_place i) (by_pair i)) (leaves_in_order case))

-- what comes of one element more
pub mapped_more : {A B : Type 0} (f : A → B) (xs : List A) (i : ℕ) (d : A) (old new : List B) → i < length xs → old ≡ map f (take i xs) → new ≡ old ++ f (get_or xs i d) ∷ []
    → new ≡ map f (take (i + 1) xs)
mapped_more f xs i d old new lt before now =
    now ∙ (λ j. before j ++ f (get_or xs i d) ∷ []) ∙ sym (map_push f (take i xs) (get_or xs i d)) ∙ ap (map f) (sym (take_more xs i d lt))
