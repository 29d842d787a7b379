-- Which states are kept: after each the one to which a step goes that is allowed.
use Rattle.std.proofs.Common.{◌≡◌, ℕ, zero, suc, ◌+◌, ◌-◌, ◌<◌, ◌≤◌, Bool, true, false, not, ◌&&◌, List, [], ◌∷◌, ◌++◌, map, length, get_or, take, drop, refl, ap, sym, ◌∙◌, subst, inl, inr, arith, length-drop, take-append-drop, append_assoc, append-nil, take_all}
use Rattle.std.specs.Prelude.{nat_le}
use Rattle.std.proofs.lemmas.Bool.{cases_lt, not-false}
use Rattle.std.proofs.lemmas.Bool.Decides.{nat_tests}
use Rattle.std.proofs.lemmas.List.{drop_more, take_more, drop_all, drop-map, take-map, length-map}
use Rattle.cj_track.specs.declared.node.Node.{Node}
use Rattle.cj_track.specs.Limits.{MAX_STEP}
use Rattle.cj_track.specs.PlainTracks.{PlainNode}
use Rattle.cj_track.specs.Tracks.{plain_node}
use Rattle.cj_hermite.specs.Interpolant.{Curve}
use Rattle.cj_interval.specs.Passing.{least_from}
use Rattle.cj_interval.proofs.PassingLemmas.{least_fails_before, least_goes_on, least_here, least_upto}
use Rattle.cj_thin.specs.Thinned.{MAX_PIECES, all_near, curve_between, last_of, stands_for, is_allowed, is_refused, left_out, kept_behind, kept}
use Rattle.cj_thin.proofs.StepLemmas.{IsPlainStep, ArePlainSteps, steps_behind, later_behind, last_behind_out, IsEnd, drop_next}

-- ---- what is left out

pub left_out_within : (e : ℕ) (a : PlainNode) (behind : List PlainNode) → left_out e a behind ≤ length behind - 1
unfolding left_out
left_out_within e a behind =
    let most = least_upto (length behind - 1) 1 (is_refused e a behind) in
    omega (arith, most)

-- the step over some is allowed
pub left_out_allowed : (e : ℕ) (a : PlainNode) (behind : List PlainNode) → 1 ≤ left_out e a behind → is_allowed e a (take (left_out e a behind + 1) behind) ≡ true
unfolding left_out
left_out_allowed e a behind some =
    let test : ℕ → Bool = is_refused e a behind in
    let n = least_from (length behind - 1) 1 test - 1 in
    not-false (is_allowed e a (take (n + 1) behind)) (least_fails_before (length behind - 1) 1 n test some (omega (arith, some)))

-- ---- what is kept

pub skipped : (e n : ℕ) (xs : List PlainNode) → kept_behind e n xs ≡ kept_behind e 0 (drop n xs)
unfolding kept_behind
skipped e zero [] = refl
skipped e (suc n) [] = refl
skipped e zero (a ∷ xs) = refl
skipped e (suc n) (a ∷ xs) = skipped e n xs

pub kept_fewer : (e n : ℕ) (xs : List PlainNode) → length (kept_behind e n xs) ≤ length xs
unfolding kept_behind
kept_fewer e n [] = omega arith
kept_fewer e zero (a ∷ xs) = let rest = kept_fewer e (left_out e a xs) xs in omega (arith, rest)
kept_fewer e (suc n) (a ∷ xs) = let rest = kept_fewer e n xs in omega (arith, rest)

-- a step from a state to one behind those that are left out: to the next, or one that stands for the pieces between
pub data MayStep (e : ℕ) (a b : PlainNode) (out : List PlainNode) : Type 0 where
  next : out ≡ [] → MayStep e a b out
  over : b.at ≤ a.at + MAX_STEP → all_near e (curve_between a b) (a ∷ (out ++ b ∷ [])) ≡ true → MayStep e a b out

-- steps lead from the first of these states to the last, over those that are left out
pub data Thins (e : ℕ) : List PlainNode → List PlainNode → Type 0 where
  last : (a b : PlainNode) (out : List PlainNode) → MayStep e a b out → Thins e (a ∷ (out ++ b ∷ [])) (a ∷ b ∷ [])
  step : (a b : PlainNode) (out xs ys : List PlainNode) → MayStep e a b out → Thins e (b ∷ xs) (b ∷ ys) → Thins e (a ∷ (out ++ b ∷ xs)) (a ∷ b ∷ ys)

and_true : (a b : Bool) → (a && b) ≡ true → (a ≡ true) × (b ≡ true)
and_true true b h = (refl, h)
and_true false b h = absurd cc

allowed_step : (e : ℕ) (a b : PlainNode) (out : List PlainNode) → is_allowed e a (out ++ b ∷ []) ≡ true → MayStep e a b out
unfolding is_allowed
allowed_step e a b out h =
    let parts = and_true (nat_le (length (out ++ b ∷ [])) MAX_PIECES) (nat_le (last_of a (out ++ b ∷ [])).at (a.at + MAX_STEP) && stands_for e a (out ++ b ∷ [])) h in
    let both = and_true (nat_le (last_of a (out ++ b ∷ [])).at (a.at + MAX_STEP)) (stands_for e a (out ++ b ∷ [])) parts.1 in
    let to : last_of a (out ++ b ∷ []) ≡ b = last_behind_out a b out [] in
    over (short b.at (a.at + MAX_STEP) (subst (λ (x : PlainNode). nat_le x.at (a.at + MAX_STEP) ≡ true) to both.0))
    (subst (λ (x : PlainNode). all_near e (curve_between a x) (a ∷ (out ++ b ∷ [])) ≡ true) to both.1)
  where
    short : (x y : ℕ) → nat_le x y ≡ true → x ≤ y
    short x y h = grind (arith, nat_tests)

-- the state behind those that are left out, and what is behind that one
record IsCut (n : ℕ) (xs : List PlainNode) : Type 0 where
  pub to : PlainNode
  pub rest : List PlainNode
  pub all : take n xs ++ to ∷ rest ≡ xs
  pub from : drop n xs ≡ to ∷ rest
  pub upto : take (n + 1) xs ≡ take n xs ++ to ∷ []
  pub fewer : length rest < length xs

cut : (n : ℕ) (xs : List PlainNode) → n < length xs → IsCut n xs
cut n [] lt = absurd (omega (arith, lt))
cut n (x ∷ xs) lt =
    let split = drop_more (x ∷ xs) n x lt in
    record {
      to = get_or (x ∷ xs) n x;
      rest = drop (n + 1) (x ∷ xs);
      all = ap (λ ys. take n (x ∷ xs) ++ ys) (sym split) ∙ take-append-drop n (x ∷ xs);
      from = split;
      upto = take_more (x ∷ xs) n x lt;
      fewer = omega (arith, length-drop (n + 1) (x ∷ xs));
    }

may_step : (e : ℕ) (a : PlainNode) (behind : List PlainNode) (c : IsCut (left_out e a behind) behind) → MayStep e a c.to (take (left_out e a behind) behind)
may_step e a behind c = elim (cases_lt 0 (left_out e a behind)) [
  | inl some ↦ allowed_step e a c.to (take (left_out e a behind) behind) (ap (is_allowed e a) (sym c.upto) ∙ left_out_allowed e a behind (omega (arith, some)))
  | inr none ↦ let zero_is : left_out e a behind ≡ 0 = omega (arith, none) in next (ap (λ (k : ℕ). take k behind) zero_is)
]

more_kept : (e : ℕ) (a b : PlainNode) (out rest : List PlainNode) → MayStep e a b out → (1 ≤ length rest → Thins e (b ∷ rest) (kept e (b ∷ rest))) → Thins e (a ∷ (out ++ b ∷ rest)) (a ∷ kept e (b ∷ rest))
unfolding kept_behind
more_kept e a b out [] may behind = last a b out may
more_kept e a b out (d ∷ rest) may behind = step a b out (d ∷ rest) (kept_behind e (left_out e b (d ∷ rest)) (d ∷ rest)) may (behind (omega arith))

-- what is kept of two states or more
pub thins : (e fuel : ℕ) (a : PlainNode) (behind : List PlainNode) → length behind ≤ fuel → 1 ≤ length behind → Thins e (a ∷ behind) (kept e (a ∷ behind))
unfolding kept_behind
thins e zero a behind enough some = absurd (omega (arith, enough, some))
thins e (suc fuel) a behind enough some =
    let within = left_out_within e a behind in
    let c = cut (left_out e a behind) behind (omega (arith, within, some)) in
    let out = take (left_out e a behind) behind in
    let tail : kept_behind e (left_out e a behind) behind ≡ kept e (c.to ∷ c.rest) = skipped e (left_out e a behind) behind ∙ ap (kept_behind e 0) c.from in
    subst (λ (xs : List PlainNode). Thins e (a ∷ xs) (a ∷ kept_behind e (left_out e a behind) behind)) c.all
    (subst (λ (ys : List PlainNode). Thins e (a ∷ (out ++ c.to ∷ c.rest)) (a ∷ ys)) (sym tail)
    (more_kept e a c.to out c.rest (may_step e a behind c) (λ more. thins e fuel c.to c.rest (omega (arith, enough, c.fewer)) more)))

kept_step : (e : ℕ) (a b : PlainNode) (out xs : List PlainNode) → MayStep e a b out → ArePlainSteps (a ∷ (out ++ b ∷ xs)) → IsPlainStep a b
kept_step e a b [] xs (next none) steps = steps.0
kept_step e a b (c ∷ out) xs (next none) steps = absurd cc
kept_step e a b out xs (over short near) steps = let later = later_behind a b out xs steps in record { rises = later.rises; short = short; steady = later.steady }

-- the states that are kept are steps too
pub kept_steps : (e : ℕ) (xs ys : List PlainNode) → Thins e xs ys → ArePlainSteps xs → ArePlainSteps ys
kept_steps e _ _ (last a b out may) steps = (kept_step e a b out [] may steps, tt)
kept_steps e _ _ (step a b out xs ys may rest) steps = (kept_step e a b out xs may steps, kept_steps e (b ∷ xs) (b ∷ ys) rest (steps_behind a b out xs steps))

-- ---- which step is allowed, test by test

pub too_many : (e : ℕ) (a : Node) (path : List Node) → MAX_PIECES < length path → false ≡ is_allowed e (plain_node a) (map plain_node path)
unfolding is_allowed
too_many e a path long = sym (first_fails _ _ (many (length (map plain_node path)) (omega (arith, long, length-map path plain_node))))
  where
    many : (n : ℕ) → 64 < n → nat_le n 64 ≡ false
    many n h = grind (arith, nat_tests)

    first_fails : (x y : Bool) → x ≡ false → (x && y) ≡ false
    first_fails x y h = rw h refl

few : (n : ℕ) → n ≤ 64 → nat_le n 64 ≡ true
few n h = grind (arith, nat_tests)

by_length : (x y z : Bool) → x ≡ true → y ≡ false → false ≡ (x && (y && z))
by_length x y z h k = rw (h, k) refl

pub too_long : (e : ℕ) (a t : Node) (path : List Node) → length path ≤ MAX_PIECES → IsEnd a path t → a.at.micros + MAX_STEP < t.at.micros → false ≡ is_allowed e (plain_node a) (map plain_node path)
unfolding is_allowed
too_long e a t path short end long =
    by_length _ _ _ (few (length (map plain_node path)) (omega (arith, short, length-map path plain_node)))
    (late (last_of (plain_node a) (map plain_node path)).at (a.at.micros + MAX_STEP) (omega (arith, long, ap (λ (x : PlainNode). x.at) end.state)))
  where
    late : (m n : ℕ) → n < m → nat_le m n ≡ false
    late m n h = grind (arith, nat_tests)

by_pieces : (x y z : Bool) → x ≡ true → y ≡ true → z ≡ (x && (y && z))
by_pieces x y z h k = rw (h, k) refl

pub by_its_pieces : (e : ℕ) (a t : Node) (path : List Node) (c : Curve) (b : Bool) → length path ≤ MAX_PIECES → IsEnd a path t → t.at.micros ≤ a.at.micros + MAX_STEP → c ≡ curve_between (plain_node a) (plain_node t) →
    b ≡ all_near e c (plain_node a ∷ map plain_node path) → b ≡ is_allowed e (plain_node a) (map plain_node path)
unfolding is_allowed
by_its_pieces e a t path c b short end within is told =
    told
    ∙ ap (λ (d : Curve). all_near e d (plain_node a ∷ map plain_node path)) (is ∙ ap (curve_between (plain_node a)) (sym end.state))
    ∙ by_pieces _ _ _ (few (length (map plain_node path)) (omega (arith, short, length-map path plain_node)))
    (early (last_of (plain_node a) (map plain_node path)).at (a.at.micros + MAX_STEP) (omega (arith, within, ap (λ (x : PlainNode). x.at) end.state)))
  where
    early : (m n : ℕ) → m ≤ n → nat_le m n ≡ true
    early m n h = grind (arith, nat_tests)

-- ---- how many are left out, step by step

refusal : (e k : ℕ) (a : Node) (behind : List Node) (b : Bool) → b ≡ is_allowed e (plain_node a) (map plain_node (take (k + 2) behind)) → is_refused e (plain_node a) (map plain_node behind) (k + 1) ≡ not b
refusal e k a behind b is =
    let two : k + 1 + 1 ≡ k + 2 = omega arith in
    ap (λ (n : ℕ). not (is_allowed e (plain_node a) (take n (map plain_node behind)))) two
    ∙ ap (λ (path : List PlainNode). not (is_allowed e (plain_node a) path)) (take-map plain_node (k + 2) behind)
    ∙ ap not (sym is)

pub tried_more : (e k : ℕ) (a : Node) (behind : List Node) (b : Bool) → k + 1 < length behind → b ≡ is_allowed e (plain_node a) (map plain_node (take (k + 2) behind)) → b ≡ true →
    least_from (length behind - 1 - (k + 1)) (k + 1 + 1) (is_refused e (plain_node a) (map plain_node behind)) ≡ least_from (length behind - 1 - k) (k + 1) (is_refused e (plain_node a) (map plain_node behind))
tried_more e k a behind b lt is allowed =
    let test = is_refused e (plain_node a) (map plain_node behind) in
    let n = length behind - 1 - (k + 1) in
    let one_more : suc n ≡ length behind - 1 - k = omega (arith, lt) in
    sym (least_goes_on n (k + 1) test (refusal e k a behind b is ∙ ap not allowed)) ∙ ap (λ (j : ℕ). least_from j (k + 1) test) one_more

pub refused_here : (e k : ℕ) (a : Node) (behind : List Node) (b : Bool) → k + 1 < length behind → b ≡ is_allowed e (plain_node a) (map plain_node (take (k + 2) behind)) → b ≡ false →
    least_from (length behind - 1 - k) (k + 1) (is_refused e (plain_node a) (map plain_node behind)) ≡ k + 1
refused_here e k a behind b lt is refused =
    let test = is_refused e (plain_node a) (map plain_node behind) in
    let n = length behind - 1 - (k + 1) in
    let one_more : suc n ≡ length behind - 1 - k = omega (arith, lt) in
    sym (ap (λ (j : ℕ). least_from j (k + 1) test) one_more) ∙ least_here n (k + 1) test (refusal e k a behind b is ∙ ap not refused)

pub none_refused : (k : ℕ) (behind : List Node) (test : ℕ → Bool) → length behind ≤ k + 1 → least_from (length behind - 1 - k) (k + 1) test ≡ k + 1
unfolding least_from
none_refused k behind test le = let none : length behind - 1 - k ≡ 0 = omega (arith, le) in ap (λ (n : ℕ). least_from n (k + 1) test) none

pub left_out_is : (e k : ℕ) (a : Node) (behind : List Node) → least_from (length behind - 1) 1 (is_refused e (plain_node a) (map plain_node behind)) ≡ k + 1 → k ≡ left_out e (plain_node a) (map plain_node behind)
unfolding left_out
left_out_is e k a behind h =
    let same : length (map plain_node behind) ≡ length behind = length-map behind plain_node in
    let here : least_from (length (map plain_node behind) - 1) 1 (is_refused e (plain_node a) (map plain_node behind)) ≡ k + 1 =
    ap (λ (n : ℕ). least_from (n - 1) 1 (is_refused e (plain_node a) (map plain_node behind))) same ∙ h in
    omega (arith, here)

-- ---- what is kept, node by node

pub kept_more : (e at r : ℕ) (nodes : List Node) (x : Node) (done whole : List PlainNode) → at < length nodes → x ≡ get_or nodes at x →
    r ≡ left_out e (plain_node x) (map plain_node (take (length nodes - (at + 1)) (drop (at + 1) nodes))) → done ++ kept e (map plain_node (drop at nodes)) ≡ whole →
    (done ++ plain_node x ∷ []) ++ kept e (map plain_node (drop (at + (1 + r)) nodes)) ≡ whole
unfolding kept_behind
kept_more e at r nodes x done whole lt is out told =
    let rest = drop (at + 1) nodes in
    let all : take (length nodes - (at + 1)) rest ≡ rest = take_all (length nodes - (at + 1)) rest (omega (arith, length-drop (at + 1) nodes)) in
    let count : r ≡ left_out e (plain_node x) (map plain_node rest) = out ∙ ap (λ (ns : List Node). left_out e (plain_node x) (map plain_node ns)) all in
    let behind : kept_behind e (left_out e (plain_node x) (map plain_node rest)) (map plain_node rest) ≡ kept e (map plain_node (drop (at + (1 + r)) nodes)) =
    ap (λ (k : ℕ). kept_behind e k (map plain_node rest)) (sym count)
    ∙ skipped e r (map plain_node rest)
    ∙ ap (kept_behind e 0) (drop-map plain_node r rest)
    ∙ ap (λ (ns : List Node). kept_behind e 0 (map plain_node ns)) (dropped r (at + 1) (at + (1 + r)) nodes (omega arith)) in
    append_assoc done (plain_node x ∷ []) (kept e (map plain_node (drop (at + (1 + r)) nodes)))
    ∙ ap (λ (ns : List PlainNode). done ++ plain_node x ∷ ns) (sym behind)
    ∙ ap (λ (ns : List Node). done ++ kept e (map plain_node ns)) (sym (drop_next at nodes x lt is))
    ∙ told
  where
    dropped : (i j k : ℕ) (ns : List Node) → k ≡ j + i → drop i (drop j ns) ≡ drop k ns
    dropped i zero k ns e = ap (λ (n : ℕ). drop n ns) (sym (e ∙ omega arith))
    dropped zero (suc j) k [] e = sym (drop_all k [] (omega arith))
    dropped (suc i) (suc j) k [] e = sym (drop_all k [] (omega arith))
    dropped i (suc j) zero (a ∷ ns) e = absurd (omega (arith, e))
    dropped i (suc j) (suc k) (a ∷ ns) e = dropped i j k ns (omega (arith, e))

pub kept_all : (e at : ℕ) (nodes : List Node) (done whole : List PlainNode) → length nodes ≤ at → done ++ kept e (map plain_node (drop at nodes)) ≡ whole → done ≡ whole
unfolding kept_behind
kept_all e at nodes done whole le told =
    sym (append-nil done) ∙ ap (λ (ns : List Node). done ++ kept e (map plain_node ns)) (sym (drop_all at nodes le)) ∙ told
