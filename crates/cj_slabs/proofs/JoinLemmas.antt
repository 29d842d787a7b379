-- What comes of runs of slots, and what is put together of it.
use Rattle.std.proofs.Common.{◌≡◌, ℕ, ◌+◌, ◌<◌, ◌≤◌, true, List, [], ◌∷◌, ◌++◌, Vec, Global, length, take, drop, min, refl, sym, ap, subst, ◌∙◌, arith, append-nil, append_assoc, length-append}
use Rattle.std.specs.Prelude.{All, Option, Some, None, IfSome}
use Rattle.std.specs.List.{list_all}
use Rattle.std.proofs.lemmas.Bool.{and_parts}
use Rattle.std.proofs.lemmas.List.{length-map, map-append, take-append-drop}
use Rattle.std.proofs.lemmas.List.Elements.{All-append, All-nil}
use Rattle.std.proofs.lemmas.List.Sums.{sum_by-append, sum_by-cons}
use Rattle.cj_threads.proofs.RunLemmas.{pushed}
use Rattle.cj_case.specs.PlainProblems.{PlainProblem}
use Rattle.cj_case.specs.declared.leaf.Leaf.{Leaf}
use Rattle.cj_case.specs.Cells.{PlainCell}
use Rattle.cj_case.specs.Leaves.{PlainLeaf, plain_leaf, plain_leaves}
use Rattle.cj_bezier.specs.Candidates.{candidate_pairs}
use Rattle.cj_bezier.specs.RootLeaves.{leaves_of_root, leaves_of_roots, Describe}
use Rattle.cj_slabs.specs.declared.leaf_limits.LeafLimits.{LeafLimits}
use Rattle.cj_slabs.specs.declared.so_far.SoFar.{SoFar}
use Rattle.cj_slabs.specs.declared.so_far.SoFar.TheVariants.{Kept, Given}
use Rattle.cj_slabs.specs.declared.sifted.Sifted.{Sifted}
use Rattle.cj_slabs.specs.declared.slab.Slab.{Slab}
use Rattle.cj_slabs.specs.declared.slab.Outcome.{Outcome}
use Rattle.cj_slabs.specs.declared.slab.Outcome.TheVariants.{Whole, Counted, Stopped}
use Rattle.cj_slabs.specs.Counts.{AreCountsOf}
use Rattle.cj_slabs.specs.Slabs.{AreOutcomes, AreSlabsOf, AreSoFar, IsOutcome, IsSlabOf, IsWithinOrOver, is_searched, least, least_of, leaves_listed, leaves_so_far, roots_at, told_by_outcome, told_by_outcomes, told_of_roots}
use Rattle.cj_slabs.proofs.CountLemmas.{counts_both, none_counted, number_both}
use Rattle.cj_slabs.proofs.SlabLemmas.{roots_both, told_both}

-- ---- how many leaves there are at least

least_few : (case : PlainProblem) (slots : List ℕ) (outcome : Outcome) → IsOutcome case slots outcome → least outcome ≤ length (leaves_of_roots case (roots_at case slots))
least_few case slots (Whole slab) is = let counts = is.counts in omega (arith, counts.leaves)
least_few case slots (Counted leaves told) is = omega (arith, is.0)
least_few case slots (Stopped leaves) is = is

-- runs of slots have at least so many
pub least_in_all : (case : PlainProblem) (slots : List ℕ) (outcomes : List Outcome) → AreOutcomes case slots outcomes → least_of outcomes ≤ length (leaves_of_roots case (roots_at case slots))
least_in_all case slots [] are = omega arith
least_in_all case slots (outcome ∷ outcomes) are =
    let some = are.0 in
    let rest = are.1 in
    let here = least_few case some outcome are.3 in
    let there = least_in_all case rest outcomes are.4 in
    let both = ap (λ (ks : List ℕ). length (leaves_of_roots case (roots_at case ks))) are.2 ∙ ap (λ (rs : List PlainCell). length (leaves_of_roots case rs)) (roots_both case some rest)
    ∙ number_both case (roots_at case some) (roots_at case rest) in
    omega (arith, here, there, both, sum_by-cons least outcome outcomes)

least_exact : (case : PlainProblem) (slots : List ℕ) (outcome : Outcome) → is_searched outcome ≡ true → IsOutcome case slots outcome → least outcome ≡ length (leaves_of_roots case (roots_at case slots))
least_exact case slots (Whole slab) searched is = let counts = is.counts in counts.leaves
least_exact case slots (Counted leaves told) searched is = is.0
least_exact case slots (Stopped leaves) searched is = absurd cc

no_leaves : (case : PlainProblem) → length (leaves_of_roots case (roots_at case [])) ≡ 0
unfolding leaves_of_roots
no_leaves case = refl

-- they have as many, where all were searched to their end
pub leaves_in_all : (case : PlainProblem) (slots : List ℕ) (outcomes : List Outcome) → list_all is_searched outcomes ≡ true → AreOutcomes case slots outcomes
    → least_of outcomes ≡ length (leaves_of_roots case (roots_at case slots))
leaves_in_all case slots [] searched are = sym (ap (λ (ks : List ℕ). length (leaves_of_roots case (roots_at case ks))) are ∙ no_leaves case)
leaves_in_all case slots (outcome ∷ outcomes) searched are =
    let some = are.0 in
    let rest = are.1 in
    let parts = and_parts (is_searched outcome) (list_all is_searched outcomes) searched in
    let here = least_exact case some outcome parts.0 are.3 in
    let there = leaves_in_all case rest outcomes parts.1 are.4 in
    let both = ap (λ (ks : List ℕ). length (leaves_of_roots case (roots_at case ks))) are.2 ∙ ap (λ (rs : List PlainCell). length (leaves_of_roots case rs)) (roots_both case some rest)
    ∙ number_both case (roots_at case some) (roots_at case rest) in
    omega (arith, here, there, both, sum_by-cons least outcome outcomes)

-- ---- how many of them are told

told_few : (case : PlainProblem) (slots : List ℕ) (outcome : Outcome) → IsOutcome case slots outcome → told_by_outcome outcome ≤ length (told_of_roots case (roots_at case slots))
told_few case slots (Whole slab) is = omega (arith, ap length is.told, length-map slab.told.items plain_leaf)
told_few case slots (Counted leaves told) is = omega (arith, is.1)
told_few case slots (Stopped leaves) is = omega arith

-- runs of slots have at least so many
pub told_in_all : (case : PlainProblem) (slots : List ℕ) (outcomes : List Outcome) → AreOutcomes case slots outcomes → told_by_outcomes outcomes ≤ length (told_of_roots case (roots_at case slots))
told_in_all case slots [] are = omega arith
told_in_all case slots (outcome ∷ outcomes) are =
    let some = are.0 in
    let rest = are.1 in
    let here = told_few case some outcome are.3 in
    let there = told_in_all case rest outcomes are.4 in
    let both = ap (λ (ks : List ℕ). length (told_of_roots case (roots_at case ks))) are.2 ∙ ap (λ (rs : List PlainCell). length (told_of_roots case rs)) (roots_both case some rest)
    ∙ ap length (told_both case (roots_at case some) (roots_at case rest)) ∙ length-append (told_of_roots case (roots_at case some)) (told_of_roots case (roots_at case rest)) in
    omega (arith, here, there, both, sum_by-cons told_by_outcome outcome outcomes)

-- a list more of what is told
pub told_pushed : (old new : List (Vec Leaf Global)) (list : Vec Leaf Global) → new ≡ old ++ list ∷ [] → length (leaves_listed new) ≡ length (leaves_listed old) + length list.items
told_pushed old new list more =
    ap (λ (lists : List (Vec Leaf Global)). length (leaves_listed lists)) more ∙ ap length (pushed (λ (l : Vec Leaf Global). l.items) old list) ∙ length-append (leaves_listed old) list.items

-- ---- slabs put together

-- what holds of something, where there is something, gives what follows of it
pub some_weaker : {X : Type 0} (o : Option X) (P Q : X → Type 0) → ((x : X) → P x → Q x) → IfSome o P → IfSome o Q
some_weaker None P Q from is = tt
some_weaker (Some x) P Q from is = from x is

pub no_slabs : (case : PlainProblem) (found : Sifted) → found.slabs.items ≡ [] → found.touching ≡ 0 → found.counts.leaves ≡ 0 → AreSlabsOf case [] found
no_slabs case found slabs touching counts = record {
  told = ap (λ (lists : List (Vec Leaf Global)). plain_leaves (leaves_listed lists)) slabs;
  counts = none_counted case found.counts counts;
  described = All-nil (λ r. Describe case r (leaves_of_root case r));
  touching = touching;
}

-- one slab more, of slots that follow
pub slabs_more : (case : PlainProblem) (some more : List ℕ) (old new : Sifted) (slab : Slab) → new.slabs.items ≡ old.slabs.items ++ slab.told ∷ []
    → new.touching ≡ min (old.touching + slab.touching) 18_446_744_073_709_551_615
    → new.counts.roots ≡ old.counts.roots + slab.counts.roots → new.counts.leaves ≡ old.counts.leaves + slab.counts.leaves → new.counts.far ≡ old.counts.far + slab.counts.far
    → new.counts.near ≡ old.counts.near + slab.counts.near → new.counts.undecided ≡ old.counts.undecided + slab.counts.undecided
    → AreSlabsOf case some old → IsSlabOf case more slab → AreSlabsOf case (some ++ more) new
slabs_more case some more old new slab pushes touching roots leaves far near undecided first second =
    let both : roots_at case (some ++ more) ≡ roots_at case some ++ roots_at case more = roots_both case some more in
    let f = λ (k : ℕ). length (candidate_pairs case k) in
    let listed = leaves_listed old.slabs.items in
    record {
      told = ap (λ (lists : List (Vec Leaf Global)). plain_leaves (leaves_listed lists)) pushes
          ∙ ap plain_leaves (pushed (λ (list : Vec Leaf Global). list.items) old.slabs.items slab.told)
          ∙ map-append plain_leaf listed slab.told.items
          ∙ ap (λ (ts : List PlainLeaf). ts ++ plain_leaves slab.told.items) first.told
          ∙ ap (λ (ts : List PlainLeaf). told_of_roots case (roots_at case some) ++ ts) second.told
          ∙ sym (told_both case (roots_at case some) (roots_at case more)) ∙ ap (told_of_roots case) (sym both);
      counts = subst (λ (rs : List PlainCell). AreCountsOf case rs new.counts) (sym both)
          (counts_both case (roots_at case some) (roots_at case more) old.counts slab.counts new.counts first.counts second.counts roots leaves far near undecided);
      described = subst (All (λ r. Describe case r (leaves_of_root case r))) (sym both)
          (All-append (λ r. Describe case r (leaves_of_root case r)) (roots_at case some) (roots_at case more) first.described second.described);
      touching = let all = sum_by-append f some more in omega (arith, touching, first.touching, second.touching, all);
    }

-- slabs of the first slots are put together, and these outcomes are left
pub record FoundSoFar (case : PlainProblem) (slots : List ℕ) (found : Sifted) (left : List Outcome) : Type 0 where
  pub done : List ℕ
  pub rest : List ℕ
  pub whole : slots ≡ done ++ rest
  pub slabs : AreSlabsOf case done found
  pub others : AreOutcomes case rest left

-- one more of them
pub found_next : (case : PlainProblem) (slots : List ℕ) (old new : Sifted) (slab : Slab) (left rest : List Outcome) → left ≡ Whole slab ∷ rest
    → ((some more : List ℕ) → AreSlabsOf case some old → IsSlabOf case more slab → AreSlabsOf case (some ++ more) new) → FoundSoFar case slots old left → FoundSoFar case slots new rest
found_next case slots old new slab left rest first join so_far = go (subst (AreOutcomes case so_far.rest) first so_far.others)
  where
    go : AreOutcomes case so_far.rest (Whole slab ∷ rest) → FoundSoFar case slots new rest
    go are = record {
      done = so_far.done ++ are.0;
      rest = are.1;
      whole = so_far.whole ∙ ap (λ (ks : List ℕ). so_far.done ++ ks) are.2 ∙ sym (append_assoc so_far.done are.0 are.1);
      slabs = join so_far.done are.0 so_far.slabs are.3;
      others = are.4;
    }

-- none is left
pub all_found : (case : PlainProblem) (slots : List ℕ) (found : Sifted) (left : List Outcome) → left ≡ [] → FoundSoFar case slots found left → AreSlabsOf case slots found
all_found case slots found left none so_far =
    let nothing : so_far.rest ≡ [] = subst (AreOutcomes case so_far.rest) none so_far.others in
    let whole : slots ≡ so_far.done = so_far.whole ∙ ap (λ (ks : List ℕ). so_far.done ++ ks) nothing ∙ append-nil so_far.done in
    subst (λ (ks : List ℕ). AreSlabsOf case ks found) (sym whole) so_far.slabs

-- ---- slot by slot, by a thread alone

-- leaves of slots and of those that follow
pub leaves_more : (case : PlainProblem) (some more : List ℕ)
    → length (leaves_of_roots case (roots_at case (some ++ more))) ≡ length (leaves_of_roots case (roots_at case some)) + length (leaves_of_roots case (roots_at case more))
leaves_more case some more =
    ap (λ (rs : List PlainCell). length (leaves_of_roots case rs)) (roots_both case some more) ∙ number_both case (roots_at case some) (roots_at case more)

-- the first of some slots have no more than all
pub leaves_taken : (case : PlainProblem) (slots : List ℕ) (n : ℕ) → length (leaves_of_roots case (roots_at case (take n slots))) ≤ length (leaves_of_roots case (roots_at case slots))
leaves_taken case slots n =
    omega (arith, leaves_more case (take n slots) (drop n slots), ap (λ (ks : List ℕ). length (leaves_of_roots case (roots_at case ks))) (take-append-drop n slots))

-- and those of them that are told
pub told_more : (case : PlainProblem) (some more : List ℕ)
    → length (told_of_roots case (roots_at case (some ++ more))) ≡ length (told_of_roots case (roots_at case some)) + length (told_of_roots case (roots_at case more))
told_more case some more =
    ap (λ (rs : List PlainCell). length (told_of_roots case rs)) (roots_both case some more)
    ∙ ap length (told_both case (roots_at case some) (roots_at case more)) ∙ length-append (told_of_roots case (roots_at case some)) (told_of_roots case (roots_at case more))

pub found_so_far : (limits : LeafLimits) (case : PlainProblem) (slots : List ℕ) (all : SoFar) → AreSoFar limits case slots all → leaves_so_far all ≡ length (leaves_of_roots case (roots_at case slots))
found_so_far limits case slots (Kept found room) are = let counts = are.0.counts in counts.leaves
found_so_far limits case slots (Given leaves) are = are.0

-- more leaves are found than may be
pub over_more : (limits : LeafLimits) (case : PlainProblem) (some more : List ℕ) (all : SoFar) (next : Outcome) → limits.leaves < leaves_so_far all + least next
    → AreSoFar limits case some all → IsOutcome case more next → limits.leaves < length (leaves_of_roots case (roots_at case (some ++ more)))
over_more limits case some more all next over are is =
    omega (arith, over, found_so_far limits case some all are, least_few case more next is, leaves_more case some more)

-- slots that a thread alone has searched have exactly so many leaves, where these are no more than may be
exact_within : (limits : LeafLimits) (case : PlainProblem) (slots : List ℕ) (next : Outcome) → IsWithinOrOver limits next → least next ≤ limits.leaves → IsOutcome case slots next
    → least next ≡ length (leaves_of_roots case (roots_at case slots))
exact_within limits case slots (Whole slab) within few is = let counts = is.counts in counts.leaves
exact_within limits case slots (Counted leaves told) within few is = is.0
exact_within limits case slots (Stopped leaves) within few is = absurd (omega (arith, within, few))

-- where more is told than may be, more is told with further slots
pub given_more : (limits : LeafLimits) (case : PlainProblem) (some more : List ℕ) (old leaves : ℕ) (next : Outcome) → IsWithinOrOver limits next → leaves ≡ old + least next → leaves ≤ limits.leaves
    → AreSoFar limits case some (Given old) → IsOutcome case more next → AreSoFar limits case (some ++ more) (Given leaves)
given_more limits case some more old leaves next within sum few are is =
    (omega (arith, sum, are.0, exact_within limits case more next within (omega (arith, sum, few)) is, leaves_more case some more), omega (arith, are.1, told_more case some more))

-- or with these slots alone
pub given_now : (limits : LeafLimits) (case : PlainProblem) (some more : List ℕ) (found : Sifted) (leaves here told : ℕ) → limits.told < told → leaves ≡ found.counts.leaves + here
    → AreSlabsOf case some found → IsOutcome case more (Counted here told) → AreSoFar limits case (some ++ more) (Given leaves)
given_now limits case some more found leaves here told over sum are is =
    let counts = are.counts in
    (omega (arith, sum, counts.leaves, is.0, leaves_more case some more), omega (arith, over, is.1, told_more case some more))

-- or with all of them, where a slab has more than there is room for
pub given_up : (limits : LeafLimits) (case : PlainProblem) (some more : List ℕ) (found : Sifted) (slab : Slab) (leaves room told : ℕ) → told ≡ length slab.told.items → room < told
    → leaves ≡ found.counts.leaves + slab.counts.leaves → AreSlabsOf case some found → room + length (leaves_listed found.slabs.items) ≡ limits.told → IsSlabOf case more slab
    → AreSoFar limits case (some ++ more) (Given leaves)
given_up limits case some more found slab leaves room told long over sum are all is =
    let counts = are.counts in
    let own = is.counts in (
      omega (arith, sum, counts.leaves, own.leaves, leaves_more case some more),
      omega (
        arith,
        over,
        long,
        all,
        ap length are.told,
        length-map (leaves_listed found.slabs.items) plain_leaf,
        ap length is.told,
        length-map slab.told.items plain_leaf,
        told_more case some more,
      ),
    )
