use Rattle.std.proofs.Common.{◌≡◌, ◌<◌, ◌+◌, ℕ, List, length, drop, vec_len, ap, sym, subst, ◌∙◌, arith}
use Rattle.std.specs.Prelude.{All, OnOk}
use Rattle.std.proofs.lemmas.List.{length-map}
use Rattle.std.proofs.lemmas.Result.{err_from_is_err_and}
use Rattle.cj_interval.proofs.ListLemmas.{Each, each_from_All}
use Rattle.cj_track.specs.Tracks.{plain_track}
use Rattle.cj_case.specs.declared.cell.Cell.{Cell}
use Rattle.cj_case.specs.declared.pair.Pair.{Pair}
use Rattle.cj_case.specs.Cells.{PlainCell, plain_cells}
use Rattle.cj_case.specs.Problems.{plain_problem}
use Rattle.cj_case.specs.declared.problem.Problem.{Problem}
use Rattle.cj_hermite.specs.Roots.{KeepPieces}
use Rattle.cj_bezier.specs.RootLeaves.{leaves_of_roots}
use Rattle.cj_cells.proofs.ListingLemmas.{error_is}
use Rattle.cj_slabs.specs.Slabs.{AddRoots}
use Rattle.cj_slabs.proofs.SlabLemmas.{all_added, fewer_with, roots_with}
use Rattle.cj_slabs.proofs.roots_sifted.sift_searched.Goals as goal

pub returns-in_err-roots_of_slot-clause-too_many : goal.returns-in_err-roots_of_slot-clause-too_many
returns-in_err-roots_of_slot-clause-too_many c =
    let problem = c.args.problem.now in
    let pairs = c.args.pairs.now in
    let p = err_from_is_err_and c.from_residual.result c.from_residual.ensures.1 in
    let exist = subst (λ (n : ℕ). Each (λ (pair : Pair). pair.b < n) pairs) (sym (length-map problem.tracks plain_track)) (each_from_All (λ (pair : Pair). pair.b < length problem.tracks) pairs c.requires.exist) in
    let fewer = fewer_with (plain_problem problem) c.args.slot pairs exist in
    rw (p.1, p.2) (λ is. let many = c.in_err-roots_of_slot.ensures.too_many (error_is _ _ is) in omega (arith, many, fewer, c.clear.new.self.ok.0, ap length c.clear.ensures.items))

pub sift_roots-requires-clause-pieces : goal.sift_roots-requires-clause-pieces
sift_roots-requires-clause-pieces c =
    let case = plain_problem c.args.problem.now in
    let P = λ (cell : Cell). KeepPieces case cell.pair.a cell.pair.b cell.first.micros cell.last.micros in
    let none : vec_len c.clear.new.self ≡ 0 = omega (arith, c.clear.new.self.ok.0, ap length c.clear.ensures.items) in
    subst (λ (p : Problem). All (λ (cell : Cell). KeepPieces (plain_problem p) cell.pair.a cell.pair.b cell.first.micros cell.last.micros) c.deref.result.now) (sym c.requires.cuts)
    (subst (All P) (sym c.deref.ensures.value) (subst (λ (n : ℕ). All P (drop n c.roots_of_slot.new.roots.items)) none c.roots_of_slot.ensures.pieces))

pub returns-clause-added : goal.returns-clause-added
returns-clause-added c =
    let case = plain_problem c.args.problem.now in
    let rs = roots_with case c.args.slot c.args.pairs.now in
    let same = ap plain_cells c.deref.ensures.value ∙ all_added c.clear.new.self.items c.roots_of_slot.new.roots.items rs c.clear.ensures.items c.in_ok-roots_of_slot.ensures.ok in
    subst (λ (cells : List PlainCell). OnOk c.sift_roots.result (AddRoots case cells c.args.slab.now c.sift_roots.new.slab)) same
    (subst (λ (p : Problem). OnOk c.sift_roots.result (AddRoots (plain_problem p) (plain_cells c.deref.result.now) c.args.slab.now c.sift_roots.new.slab)) c.requires.cuts c.sift_roots.ensures.added)

pub returns-clause-too_many : goal.returns-clause-too_many
returns-clause-too_many c is =
    let case = plain_problem c.args.problem.now in
    let rs = roots_with case c.args.slot c.args.pairs.now in
    let same = ap plain_cells c.deref.ensures.value ∙ all_added c.clear.new.self.items c.roots_of_slot.new.roots.items rs c.clear.ensures.items c.in_ok-roots_of_slot.ensures.ok in
    let many = subst (λ (p : Problem). c.args.limit < c.args.slab.now.counts.leaves + length (leaves_of_roots (plain_problem p) (plain_cells c.deref.result.now))) c.requires.cuts
    (c.sift_roots.ensures.too_many is) in
    omega (arith, many, ap (λ (cells : List PlainCell). length (leaves_of_roots case cells)) same)
