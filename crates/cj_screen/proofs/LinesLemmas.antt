-- What certificates are made of, from lists of all leaves and slab by slab.
use Rattle.std.proofs.Common.{◌≡◌, ◌∙◌, ℕ, ◌+◌, ◌<◌, ◌≤◌, true, false, List, Result, Ok, Err, length, refl, sym, ap, subst, arith}
use Rattle.std.specs.Prelude.{nat_le, not}
use Rattle.std.proofs.lemmas.Bool.Decides.{nat_tests}
use Rattle.std.proofs.lemmas.List.{length-map}
use Rattle.std.proofs.lemmas.List.Elements.{All-filter}
use Rattle.std.proofs.lemmas.List.Sums.{count_by-le-length, length-filter}
use Rattle.cj_base.specs.Bounds.{MOST_LEAVES}
use Rattle.cj_case.specs.PlainProblems.{PlainProblem}
use Rattle.cj_case.specs.declared.kind.Kind.TheVariants.{Far, Near, Undecided}
use Rattle.cj_case.specs.declared.leaf.Leaf.{Leaf}
use Rattle.cj_case.specs.Leaves.{PlainLeaf, plain_leaf, plain_leaves, same_kind}
use Rattle.cj_case.specs.Order.{HaveTicks}
use Rattle.cj_hermite.specs.Roots.{KeepPieces, roots_of}
use Rattle.cj_bezier.specs.ToldLeaves.{told_leaves}
use Rattle.cj_bezier.specs.Candidates.{is_candidate}
use Rattle.cj_cells.specs.Lists.{list_candidates, marked_leaves, splits_of}
use Rattle.cj_formats.specs.declared.cert_format.CertFormat.TheVariants.{Brief}
use Rattle.cj_meet.specs.Closest.{KeepTheirPieces}
use Rattle.cj_meet.specs.Encounters.{encounters_of}
use Rattle.cj_meet.proofs.MarkedLemmas.{encounters_of_marked}
use Rattle.cj_slabs.specs.declared.leaf_counts.LeafCounts.{LeafCounts}
use Rattle.cj_slabs.specs.Counts.{AreCounts, count_of}
use Rattle.cj_slabs.specs.Marks.{AreMarked}
use Rattle.cj_slabs.specs.declared.sift_error.SiftError.{SiftError}
use Rattle.cj_slabs.specs.declared.sift_error.SiftError.TheVariants as sift
use Rattle.cj_io.specs.declared.file.FileBytes.{FileBytes}
use Rattle.cj_status.specs.declared.status.Status.{Status}
use Rattle.cj_status.specs.Steps.{◌>>=◌, ComesBetween, Stops}
use Rattle.cj_outputs.specs.declared.findings.Findings.{Findings}
use Rattle.cj_outputs.specs.declared.wanted.Wanted.{Wanted}
use Rattle.cj_outputs.specs.Findings.{AreFound, case_in, lines_of, outputs_in}
use Rattle.cj_outputs.specs.Messages.{PlainOrigin}
use Rattle.cj_outputs.specs.Outcome.{encounters_in, outputs_limited, outputs_with, outputs_within, within_cells, within_told}
use Rattle.cj_outputs.proofs.AcceptingLemmas.{stops_then}
use Rattle.cj_screen.proofs.ReportLemmas.{same_outputs}
use Rattle.cj_screen.specs.Errors.{sifted_status}
use Rattle.cj_screen.specs.Refining.{HoldsAllTicks, leaves_asked}

-- each leaf of a case has ticks
pub leaves_have_ticks : (case : PlainProblem) → HoldsAllTicks case → HaveTicks (list_candidates case)
leaves_have_ticks case ticks = λ k d lt. let one = ticks.sound k d lt in one.some

-- ---- how a run ends

pub between_sifted : (limit most : ℕ) (e : SiftError) → ComesBetween (sifted_status limit most e)
between_sifted limit most sift.Memory = tt
between_sifted limit most sift.TooMany = tt
between_sifted limit most sift.TooManyTold = tt

pub stops_sifted : (limit most : ℕ) (case : PlainProblem) (e : SiftError) → (e ≡ sift.TooMany → limit < length (list_candidates case))
    → (e ≡ sift.TooManyTold → length (list_candidates case) ≤ limit) → (e ≡ sift.TooManyTold → most < length (told_leaves case))
    → Stops ⊥ (sifted_status limit most e) (leaves_asked limit most Brief case)
stops_sifted limit most case sift.Memory many few told = tt
stops_sifted limit most case sift.TooMany many few told =
    let more = many refl in
    let large : nat_le (length (list_candidates case)) limit ≡ false = grind (arith, nat_tests) in
    rw large refl
stops_sifted limit most case sift.TooManyTold many few told =
    let less = few refl in
    let more = told refl in
    let small : nat_le (length (list_candidates case)) limit ≡ true = grind (arith, nat_tests) in
    let large : nat_le (length (told_leaves case)) most ≡ false = grind (arith, nat_tests) in
    rw (small, large) refl

pub few_enough : (most : ℕ) (case : PlainProblem) → length (told_leaves case) ≤ most → within_told most Brief case ≡ Ok tt
few_enough most case less = let small : nat_le (length (told_leaves case)) most ≡ true = grind (arith, nat_tests) in rw small refl

pub all_asked : (limit most : ℕ) (case : PlainProblem) → length (list_candidates case) ≤ limit → length (told_leaves case) ≤ most → leaves_asked limit most Brief case ≡ Ok (list_candidates case)
all_asked limit most case few told =
    let all : nat_le (length (list_candidates case)) limit ≡ true = grind (arith, nat_tests) in
    let some : nat_le (length (told_leaves case)) most ≡ true = grind (arith, nat_tests) in
    rw (all, some) refl

-- ---- the near and undecided leaves

-- they show the encounters of the case
pub marked_meet : (case : PlainProblem) (met : List Leaf) → AreMarked case met → encounters_of (plain_leaves met) ≡ encounters_in case
unfolding marked_leaves
marked_meet case met are = ap encounters_of are.value ∙ encounters_of_marked (list_candidates case)

pub marked_keep : (case : PlainProblem) (met : List Leaf) → AreMarked case met → KeepTheirPieces case (list_candidates case) → KeepTheirPieces case (plain_leaves met)
unfolding marked_leaves
marked_keep case met are keep =
    subst (KeepTheirPieces case) (sym are.value)
    (All-filter (λ (s : PlainLeaf). not (same_kind Far s.kind)) (λ s. KeepPieces case s.a s.b s.first s.last) (list_candidates case) keep)

pub marked_few : (case : PlainProblem) (met : List Leaf) → AreMarked case met → length (list_candidates case) ≤ MOST_LEAVES → length met ≤ MOST_LEAVES
unfolding marked_leaves
marked_few case met are few =
    let p = λ (s : PlainLeaf). not (same_kind Far s.kind) in
    let all = length-filter p (list_candidates case) in
    let some = count_by-le-length p (list_candidates case) in
    omega (arith, few, all, some, ap (λ (ss : List PlainLeaf). length ss) are.value, length-map met plain_leaf)

-- ---- from a list

-- the counts of a list of all leaves are those of its case
pub counts_listed : (case : PlainProblem) (leaves lent : List Leaf) (roots : ℕ) (counts : LeafCounts) → lent ≡ leaves → plain_leaves leaves ≡ list_candidates case
    → roots ≡ length (roots_of (is_candidate case) case) → length leaves ≡ roots + splits_of case → counts.roots ≡ roots → counts.leaves ≡ length lent
    → counts.far ≡ count_of Far (plain_leaves lent) → counts.near ≡ count_of Near (plain_leaves lent) → counts.undecided ≡ count_of Undecided (plain_leaves lent) → AreCounts case counts
counts_listed case leaves lent roots counts same is all split as_many number far near undecided =
    let listed = ap plain_leaves same ∙ is in
    record {
      roots = as_many ∙ all;
      leaves = number ∙ sym (length-map lent plain_leaf) ∙ ap (λ (ss : List PlainLeaf). length ss) listed;
      splits = omega (arith, number, ap (λ (ls : List Leaf). length ls) same, split, as_many);
      far = far ∙ ap (count_of Far) listed;
      near = near ∙ ap (count_of Near) listed;
      undecided = undecided ∙ ap (count_of Undecided) listed;
    }

-- ---- the outputs that are due

-- they are made of the leaves that are asked
limited_is : (wanted : Wanted) (origin : PlainOrigin) (behind : List ℕ) (case : PlainProblem) → outputs_limited wanted.leaves wanted.told wanted.tells wanted.format origin behind case
    ≡ (leaves_asked wanted.leaves wanted.told wanted.format case >>= λ leaves. Ok (outputs_with wanted.tells wanted.format origin behind case leaves))
unfolding outputs_limited outputs_within
limited_is wanted origin behind case = go (within_cells wanted.leaves (list_candidates case)) (within_told wanted.told wanted.format case)
  where
    f : List PlainLeaf → List FileBytes
    f leaves = outputs_with wanted.tells wanted.format origin behind case leaves

    go : (r : Result (List PlainLeaf) Status) (t : Result (Unit {0}) Status) → ((r >>= λ leaves. Ok (f leaves)) >>= λ outputs. t >>= λ done. Ok outputs) ≡ ((r >>= λ leaves. t >>= λ done. Ok leaves) >>= λ leaves. Ok (f leaves))
    go (Err s) t = refl
    go (Ok leaves) (Err s) = refl
    go (Ok leaves) (Ok done) = refl

-- what ends the search for these leaves ends that for the outputs
pub asked_stop : (wanted : Wanted) (origin : PlainOrigin) (behind : List ℕ) (case : PlainProblem) (s : Status) → Stops ⊥ s (leaves_asked wanted.leaves wanted.told wanted.format case)
    → Stops ⊥ s (outputs_limited wanted.leaves wanted.told wanted.tells wanted.format origin behind case)
asked_stop wanted origin behind case s stops =
    subst (λ (r : Result (List FileBytes) Status). Stops ⊥ s r) (sym (limited_is wanted origin behind case))
    (stops_then ⊥ s (leaves_asked wanted.leaves wanted.told wanted.format case) (λ leaves. Ok (outputs_with wanted.tells wanted.format origin behind case leaves)) stops)

-- what is found is what is due
pub asked_told : (wanted : Wanted) (origin : PlainOrigin) (behind : List ℕ) (case : PlainProblem) (found : Findings) → leaves_asked wanted.leaves wanted.told wanted.format case ≡ Ok (list_candidates case)
    → case_in found ≡ case → found.wanted ≡ wanted → lines_of found.behind ≡ behind → AreFound found
    → outputs_limited wanted.leaves wanted.told wanted.tells wanted.format origin behind case ≡ Ok (outputs_in origin found)
asked_told wanted origin behind case found asked same as_wanted lines are =
    limited_is wanted origin behind case
    ∙ ap (λ (r : Result (List PlainLeaf) Status). r >>= λ leaves. Ok (outputs_with wanted.tells wanted.format origin behind case leaves)) asked
    ∙ ap (λ (outputs : List FileBytes). Ok outputs) (same_outputs wanted origin behind case found same as_wanted lines are)
