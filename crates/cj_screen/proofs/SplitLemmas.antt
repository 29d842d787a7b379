-- The spans of a case's encounters split its common ticks, where its leaves are sound and hold each of them.
use Rattle.std.proofs.Common.{◌≡◌, ℕ, Bool, true, List, subst}
use Rattle.std.specs.Prelude.{All}
use Rattle.cj_interval.proofs.ListLemmas.{Each-both, Each-weaker, All-from_each, each_from_All}
use Rattle.cj_case.specs.PlainProblems.{PlainProblem}
use Rattle.cj_case.specs.Primaries.{concerns}
use Rattle.cj_case.specs.Slots.{slot_of}
use Rattle.cj_case.specs.declared.kind.Kind.TheVariants.{Near, Undecided}
use Rattle.cj_case.specs.Leaves.{PlainLeaf}
use Rattle.cj_bezier.specs.Candidates.{is_candidate}
use Rattle.cj_bezier.proofs.CandidateLemmas.{candidate_looked_at}
use Rattle.cj_bezier.proofs.TrueLeafLemmas.{IsTrueLeaf, tells_of, outside_of}
use Rattle.cj_cells.specs.Lists.{IsSound, list_candidates, list_of}
use Rattle.cj_again.proofs.PairLeafLemmas.{leaves_admitted}
use Rattle.cj_meet.specs.Spans.{HaveExactSpans}
use Rattle.cj_outputs.specs.Outcome.{encounters_in}
use Rattle.cj_outputs.specs.SpanSplits.{SplitsTicks}
use Rattle.cj_screen.specs.Refining.{HoldsAllTicks}

-- of candidates that are looked at
pub all_true : (case : PlainProblem) (candidate : ℕ → ℕ → ℕ → Bool) → ((a b slot : ℕ) → candidate a b slot ≡ true → concerns case (a, b) ≡ true)
    → All (IsSound case) (list_of candidate case) → All (IsTrueLeaf case) (list_of candidate case)
all_true case candidate law sound =
    let ss = list_of candidate case in
    All-from_each (IsTrueLeaf case) ss
    (Each-weaker (λ s. IsSound case s × (concerns case (s.a, s.b) ≡ true)) (IsTrueLeaf case)
    (λ s both. let is = both.0 in record { ordered = is.ordered; concerned = both.1; from = is.from; to = is.to; holds = is.holds }) ss
    (Each-both (IsSound case) (λ s. concerns case (s.a, s.b) ≡ true) ss (each_from_All (IsSound case) ss sound)
    (leaves_admitted (λ a b. concerns case (a, b) ≡ true) candidate case law)))

-- these leaves are those of the case
pub splits : (case : PlainProblem) (ss : List PlainLeaf) → ss ≡ list_candidates case → HoldsAllTicks case → HaveExactSpans ss
    → SplitsTicks case (encounters_in case)
splits case ss same ticks spans =
    let all = list_candidates case in
    let true_all = all_true case (is_candidate case) (candidate_looked_at case) ticks.sound in
    let exact : HaveExactSpans all = subst HaveExactSpans same spans in
    record {
      near = λ a b m here.
          let told = tells_of case all Near a b m true_all ((exact.near a b m).0 here) in (told.common, told.holds);
      undecided = λ a b m here.
          let told = tells_of case all Undecided a b m true_all ((exact.undecided a b m).0 here) in (told.common, told.holds);
      outside = λ a b m common near undecided.
          outside_of case all a b m (is_candidate case a b (slot_of case.first m)) true_all
          (ticks.complete a b m common) (ticks.far a b m common) (λ h. near ((exact.near a b m).1 h)) (λ h. undecided ((exact.undecided a b m).1 h));
    }
