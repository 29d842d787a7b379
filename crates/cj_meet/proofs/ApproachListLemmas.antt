-- The closest approaches of several encounters: one more, and of some with those behind them.
use Rattle.std.proofs.Common.{◌≡◌, ℕ, ◌+◌, ◌<◌, List, [], ◌∷◌, ◌++◌, map, length, get_or, take, Option, All, refl, sym, ap, subst, ◌∙◌}
use Rattle.std.proofs.lemmas.List.{map-append, map_more, map_push}
use Rattle.std.proofs.lemmas.List.Elements.{All-append, All-nil, All-same, All-push, All-take, All-drop}
use Rattle.std.proofs.lemmas.Slice.{between_is}
use Rattle.cj_case.specs.PlainProblems.{PlainProblem}
use Rattle.cj_hermite.specs.Roots.{KeepPieces}
use Rattle.cj_case.specs.declared.encounter.Closest.{Closest}
use Rattle.cj_case.specs.declared.encounter.Encounter.{Encounter}
use Rattle.cj_case.specs.Leaves.{PlainLeaf}
use Rattle.cj_meet.specs.ApproachLists.{AreClosest}
use Rattle.cj_meet.specs.Closest.{PlainClosest, plain_closest, some_closest, closest_of, KeepTheirPieces, HasNearest, IsNearest}
use Rattle.cj_meet.specs.Encounters.{second_object, Describes, groups_in, leaves_in}
use Rattle.cj_meet.proofs.EncounterLemmas.{described_objects}

-- the leaves of an encounter keep their pieces where all do
pub keep_in : (case : PlainProblem) (ss : List PlainLeaf) (e : Encounter) → KeepTheirPieces case ss → KeepTheirPieces case (leaves_in ss e)
keep_in case ss e all =
    let P : PlainLeaf → Type 0 = λ s. KeepPieces case s.a s.b s.first s.last in
    subst (All P) (sym (between_is ss e.leaf e.past)) (All-drop P e.leaf (take e.past ss) (All-take P e.past ss all))

groups_more : (ss : List PlainLeaf) (es : List Encounter) (i : ℕ) (e : Encounter) → i < length es → e ≡ get_or es i e → groups_in ss (take (i + 1) es) ≡ groups_in ss (take i es) ++ leaves_in ss e ∷ []
groups_more ss es i e lt is = map_more (leaves_in ss) es i e lt ∙ ap (λ (x : Encounter). groups_in ss (take i es) ++ leaves_in ss x ∷ []) (sym is)

pub approaches_more : (case : PlainProblem) (ss : List PlainLeaf) (es : List Encounter) (i : ℕ) (e : Encounter) (found : List Closest) (x : Closest) → i < length es → e ≡ get_or es i e →
    map some_closest found ≡ map (closest_of case) (groups_in ss (take i es)) → closest_of case (leaves_in ss e) ≡ some_closest x →
    map some_closest (found ++ x ∷ []) ≡ map (closest_of case) (groups_in ss (take (i + 1) es))
approaches_more case ss es i e found x lt is before exact =
    map_push some_closest found x
    ∙ ap (λ (xs : List (Option PlainClosest)). xs ++ some_closest x ∷ []) before
    ∙ ap (λ (a : Option PlainClosest). map (closest_of case) (groups_in ss (take i es)) ++ a ∷ []) (sym exact)
    ∙ sym (ap (map (closest_of case)) (groups_more ss es i e lt is) ∙ map_push (closest_of case) (groups_in ss (take i es)) (leaves_in ss e))

pub has_nearest : (case : PlainProblem) (ss : List PlainLeaf) (e : Encounter) (x : Closest) → Describes ss e → closest_of case (leaves_in ss e) ≡ some_closest x →
    IsNearest case e.pair.a e.pair.b (leaves_in ss e) x.tick.micros x.high → HasNearest case (leaves_in ss e)
has_nearest case ss e x d exact law =
    let objects = described_objects ss e d in
    record {
      at = plain_closest x;
      is = exact;
      law = subst (λ (a : ℕ). IsNearest case a (second_object (leaves_in ss e)) (leaves_in ss e) x.tick.micros x.high) (sym objects.0)
          (subst (λ (b : ℕ). IsNearest case e.pair.a b (leaves_in ss e) x.tick.micros x.high) (sym objects.1) law);
    }

pub nearest_one_more : (case : PlainProblem) (ss : List PlainLeaf) (es : List Encounter) (i : ℕ) (e : Encounter) → i < length es → e ≡ get_or es i e →
    All (HasNearest case) (groups_in ss (take i es)) → HasNearest case (leaves_in ss e) → All (HasNearest case) (groups_in ss (take (i + 1) es))
nearest_one_more case ss es i e lt is before here =
    All-same (HasNearest case) _ _ (groups_more ss es i e lt is) (All-push (HasNearest case) (groups_in ss (take i es)) (leaves_in ss e) before here)

-- of no encounters
pub none_closest : (case : PlainProblem) (ss : List PlainLeaf) → AreClosest case ss [] []
none_closest case ss = record { exact = refl; law = All-nil (HasNearest case) }

-- of some encounters and of those behind them
pub both_closest : (case : PlainProblem) (ss : List PlainLeaf) (some others : List Encounter) (front back : List Closest)
    → AreClosest case ss some front → AreClosest case ss others back → AreClosest case ss (some ++ others) (front ++ back)
both_closest case ss some others front back one two =
    let groups = map-append (leaves_in ss) some others in
    record {
      exact = map-append some_closest front back
          ∙ ap (λ (xs : List (Option PlainClosest)). xs ++ map some_closest back) one.exact
          ∙ ap (λ (xs : List (Option PlainClosest)). map (closest_of case) (groups_in ss some) ++ xs) two.exact
          ∙ sym (ap (map (closest_of case)) groups ∙ map-append (closest_of case) (groups_in ss some) (groups_in ss others));
      law = All-same (HasNearest case) _ _ groups (All-append (HasNearest case) (groups_in ss some) (groups_in ss others) one.law two.law);
    }
