-- Keys that are collected slot by slot, and put in order.
use Rattle.std.proofs.Common.{◌≡◌, ℕ, zero, suc, ◌+◌, ◌<◌, ◌≤◌, Bool, true, false, List, [], ◌∷◌, ◌++◌, cond, filter, map, length, get_or, Option, Some, refl, sym, ap, ◌∙◌, subst, inl, inr, arith, nat_cmp}
use Rattle.std.specs.Prelude.{option_and_then, option_map, nat_eq, nat_lt, ◌&&◌}
use Rattle.std.specs.Ordering.{ordering_then, eq_by_cmp, is_eq}
use Rattle.std.specs.declared.cmp.Ordering.{Ordering}
use Rattle.std.specs.declared.cmp.Ordering.TheVariants.{Less}
use Rattle.std.specs.Cmp.{IsTotalOrder, IsEquivalence}
use Rattle.std.specs.List.{AllByRecursion, Contains, dedup, range_with_len}
use Rattle.std.specs.List.Sorted.{IsSorted, IsStrictlySortedBy, IsPermutation}
use Rattle.std.proofs.lemmas.Cmp.{then_total, on_total, nat_cmp_total, eq_by_cmp_equiv}
use Rattle.std.proofs.lemmas.Bool.Decides.{nat_tests}
use Rattle.std.proofs.lemmas.List.Kept.{Contains-dedup, Contains-from_dedup, IsStrictlySortedBy-dedup}
use Rattle.std.proofs.lemmas.List.Sorted.{Contains-permutation, IsPermutation-sym}
use Rattle.std.proofs.lemmas.List.{length-map, map_push}
use Rattle.std.proofs.lemmas.List.FromFn.{length-range_with_len}
use Rattle.std.proofs.lemmas.Option.{slice_get-get_or, slice_get-map}
use Rattle.std.proofs.lemmas.List.Elements.{Contains-append_left}
use Rattle.cj_interval.proofs.ListLemmas.{Each, Exists, Ordered, All-from_each, AllPairs-from_ordered, Contains-from_exists, each_from_All, exists_from_Contains, member_passes}
use Rattle.cj_interval.proofs.RangeLemmas.{range_more}
use Rattle.cj_case.specs.declared.pair.Pair.{Pair}
use Rattle.cj_case.specs.Pairs.{objects_of}
use Rattle.cj_case.specs.declared.axis_box.AxisBox.{AxisBox}
use Rattle.cj_case.specs.declared.shells.Shell.{Shell}
use Rattle.cj_bezier.specs.Shells.{are_kept, shell_in}
use Rattle.cj_case.specs.Boxes.{PlainBox, plain_box, plain_boxes}
use Rattle.cj_bezier.specs.SlotBoxes.{both_touch, reaches_in, touch_between}
use Rattle.cj_case.specs.PlainProblems.{PlainProblem, threshold_of}
use Rattle.cj_cert.specs.declared.cert_lines.ShellLine.{ShellLine}
use Rattle.cj_cert.specs.Certificates.{PlainCertificate}
use Rattle.cj_cert.specs.Listed.{boxes_listed, is_candidate_listed}
use Rattle.cj_checker.specs.declared.keys.Key.{Key}
use Rattle.cj_checker.specs.Keys.{PlainKey, plain_key, HasKey, AreKeysIn, AreKeysKept, IsKeyBefore, IsKeyIn, AreInOrder, candidate_with, close_with}

-- ---- one more

pub keys_more : (old : List Key) (k : Key) → AreKeysKept old (old ++ k ∷ [])
keys_more old k a b slot has =
    let own : PlainKey = record { a = a; b = b; slot = slot } in
    subst (λ (ks : List PlainKey). Contains ks own) (sym (map_push plain_key old k)) (Contains-append_left (map plain_key old) (plain_key k ∷ []) own has)

pub boxes_more : (f : ℕ → Option PlainBox) (n : ℕ) (old : List (Option AxisBox)) (x : Option AxisBox) → plain_boxes old ≡ map f (range_with_len 0 n) → option_map plain_box x ≡ f n
    → plain_boxes (old ++ x ∷ []) ≡ map f (range_with_len 0 (n + 1))
boxes_more f n old x are is =
    let at : 0 + n ≡ n = omega arith in
    map_push (option_map plain_box) old x
    ∙ (λ i. are i ++ is i ∷ [])
    ∙ ap (λ (k : ℕ). map f (range_with_len 0 n) ++ f k ∷ []) (sym at)
    ∙ sym (map_push f (range_with_len 0 n) (0 + n))
    ∙ ap (map f) (sym (range_more 0 n))

-- a pair of a list, by its place
pub pair_read : (pairs : List Pair) (k : ℕ) (p : Pair) (a b : ℕ) → k < length pairs → p ≡ get_or pairs k p → get_or (map objects_of pairs) k (a, b) ≡ (a, b) → (p.a ≡ a) × (p.b ≡ b)
pair_read [] k p a b lt is at = absurd (omega arith)
pair_read (q ∷ pairs) zero p a b lt is at =
    let same : ◌≡◌ {A = ℕ × ℕ} (p.a, p.b) (a, b) = ap objects_of is ∙ at in
    (ap (λ (x : ℕ × ℕ). x.0) same, ap (λ (x : ℕ × ℕ). x.1) same)
pair_read (q ∷ pairs) (suc k) p a b lt is at = pair_read pairs k p a b (omega arith) is at

-- ---- in order, each once

abbrev pub key_cmp : Key → Key → Ordering
key_cmp k l = ordering_then (nat_cmp k.a l.a) (ordering_then (nat_cmp k.b l.b) (nat_cmp k.slot l.slot))

abbrev pub key_eq : Key → Key → Bool
key_eq k l = nat_eq k.a l.a && (nat_eq k.b l.b && nat_eq k.slot l.slot)

keys_total : IsTotalOrder key_cmp
keys_total = then_total (on_total (λ (k : Key). k.a) nat_cmp_total) (then_total (on_total (λ (k : Key). k.b) nat_cmp_total) (on_total (λ (k : Key). k.slot) nat_cmp_total))

ties : (k l : Key) → key_eq k l ≡ eq_by_cmp key_cmp k l
ties k l = numbers k.a k.b k.slot l.a l.b l.slot
  where
    numbers : (a b s a' b' s' : ℕ) → (nat_eq a a' && (nat_eq b b' && nat_eq s s')) ≡ is_eq (ordering_then (nat_cmp a a') (ordering_then (nat_cmp b b') (nat_cmp s s')))
    numbers a b s a' b' s' = grind (arith, nat_tests)

exact : (k l : Key) → key_eq k l ≡ true → k ≡ l
exact k l h = λ i. record { a = first i; b = second i; slot = third i }
  where
    first : k.a ≡ l.a
    first = grind (arith, nat_tests)

    second : k.b ≡ l.b
    second = grind (arith, nat_tests)

    third : k.slot ≡ l.slot
    third = grind (arith, nat_tests)

equivalence : IsEquivalence key_eq
equivalence = subst (λ (e : Key → Key → Bool). IsEquivalence e) (λ i k l. sym (ties k l) i) (eq_by_cmp_equiv keys_total)

before : (k l : Key) → key_cmp k l ≡ Less → IsKeyBefore (plain_key k) (plain_key l)
before k l h = record { first_object = a; second_object = b; later = s }
  where
    a : k.a ≤ l.a
    a = grind (arith, nat_tests)

    b : k.a ≡ l.a → k.b ≤ l.b
    b e = grind (arith, nat_tests)

    s : k.a ≡ l.a → k.b ≡ l.b → k.slot < l.slot
    s e f = grind (arith, nat_tests)

strictly : (keys : List Key) → IsStrictlySortedBy key_cmp keys → Ordered IsKeyBefore (map plain_key keys)
unfolding IsStrictlySortedBy
strictly [] up = tt
strictly (k ∷ keys) up = (behind keys up.0, strictly keys up.1)
  where
    behind : (ls : List Key) → AllByRecursion (λ l. key_cmp k l ≡ Less) ls → Each (IsKeyBefore (plain_key k)) (map plain_key ls)
    behind [] all = tt
    behind (l ∷ ls) all = (before k l all.0, behind ls all.1)

pub deduped_in_order : (keys : List Key) → IsSorted key_cmp keys → AreInOrder (dedup key_eq keys)
deduped_in_order keys up =
    AllPairs-from_ordered IsKeyBefore (map plain_key (dedup key_eq keys)) (strictly (dedup key_eq keys) (IsStrictlySortedBy-dedup keys_total ties keys up))

-- ---- which keys a list has

to_key : (keys : List Key) (a b slot : ℕ) → HasKey keys a b slot → Contains keys (record { a = a; b = b; slot = slot })
to_key keys a b slot has = Contains-from_exists keys (record { a = a; b = b; slot = slot }) (go keys (exists_from_Contains (map plain_key keys) (record { a = a; b = b; slot = slot }) has))
  where
    go : (ks : List Key) → Exists (λ y. y ≡ record { a = a; b = b; slot = slot }) (map plain_key ks) → Exists (λ (y : Key). y ≡ record { a = a; b = b; slot = slot }) ks
    go [] e = absurd e
    go (k ∷ ks) (inl e) = inl (λ i. record { a = (e i).a; b = (e i).b; slot = (e i).slot })
    go (k ∷ ks) (inr later) = inr (go ks later)

from_key : (keys : List Key) (a b slot : ℕ) → Contains keys (record { a = a; b = b; slot = slot }) → HasKey keys a b slot
from_key keys a b slot has = Contains-from_exists (map plain_key keys) (record { a = a; b = b; slot = slot }) (go keys (exists_from_Contains keys (record { a = a; b = b; slot = slot }) has))
  where
    go : (ks : List Key) → Exists (λ (y : Key). y ≡ record { a = a; b = b; slot = slot }) ks → Exists (λ y. y ≡ record { a = a; b = b; slot = slot }) (map plain_key ks)
    go [] e = absurd e
    go (k ∷ ks) (inl e) = inl (ap plain_key e)
    go (k ∷ ks) (inr later) = inr (go ks later)

pub ordered_has : (old sorted new : List Key) → IsPermutation old sorted → new ≡ dedup key_eq sorted → AreKeysKept old new
ordered_has old sorted new moved is a b slot has =
    from_key new a b slot (subst (λ (ks : List Key). Contains ks (record { a = a; b = b; slot = slot })) (sym is)
    (Contains-dedup equivalence exact sorted (record { a = a; b = b; slot = slot }) (Contains-permutation old sorted (record { a = a; b = b; slot = slot }) moved (to_key old a b slot has))))

pub ordered_from : (old sorted new : List Key) → IsPermutation old sorted → new ≡ dedup key_eq sorted → AreKeysKept new old
ordered_from old sorted new moved is a b slot has =
    from_key old a b slot (Contains-permutation sorted old (record { a = a; b = b; slot = slot }) (IsPermutation-sym old sorted moved)
    (Contains-from_dedup key_eq sorted (record { a = a; b = b; slot = slot }) (subst (λ (ks : List Key). Contains ks (record { a = a; b = b; slot = slot })) is (to_key new a b slot has))))

-- ---- the keys of the rows before one

abbrev before_row : ℕ → Key → Bool
before_row row key = nat_lt key.a row

pub keys_before : (candidate : ℕ → ℕ → ℕ → Bool) (first end row objects slots : ℕ) (keys : List Key) → AreKeysIn candidate first end objects slots keys
    → AreKeysIn candidate first row objects slots (filter (before_row row) keys)
keys_before candidate first end row objects slots keys are =
    All-from_each (λ k. IsKeyIn candidate first row objects slots (plain_key k)) (filter (before_row row) keys)
    (go keys (each_from_All (λ k. IsKeyIn candidate first end objects slots (plain_key k)) keys are))
  where
    one : (k : Key) (ks : List Key) (t : Bool) → nat_lt k.a row ≡ t → IsKeyIn candidate first end objects slots (plain_key k) → Each (λ x. IsKeyIn candidate first row objects slots (plain_key x)) ks
        → Each (λ x. IsKeyIn candidate first row objects slots (plain_key x)) (cond t (k ∷ ks) ks)
    one k ks true e is rest =
        (record { ordered = is.ordered; exists = is.exists; from = is.from; to = grind (arith, nat_tests); slot = is.slot; candidates_at = is.candidates_at }, rest)
    one k ks false e is rest = rest

    go : (ks : List Key) → Each (λ k. IsKeyIn candidate first end objects slots (plain_key k)) ks → Each (λ k. IsKeyIn candidate first row objects slots (plain_key k)) (filter (before_row row) ks)
    go [] are = tt
    go (k ∷ ks) are = one k (filter (before_row row) ks) (nat_lt k.a row) refl are.0 (go ks are.1)

pub key_before : (keys : List Key) (row a b slot : ℕ) → a < row → HasKey keys a b slot → HasKey (filter (before_row row) keys) a b slot
key_before keys row a b slot lt has =
    let own : Key = record { a = a; b = b; slot = slot } in
    from_key (filter (before_row row) keys) a b slot
    (Contains-from_exists (filter (before_row row) keys) own (member_passes (before_row row) own (lt_test a row lt) keys (exists_from_Contains keys own (to_key keys a b slot has))))
  where
    lt_test : (a row : ℕ) → a < row → nat_lt a row ≡ true
    lt_test a row lt = grind (arith, nat_tests)

-- a key of some rows is one of more rows
pub wider_rows : (candidate : ℕ → ℕ → ℕ → Bool) (first end more objects slots : ℕ) → end ≤ more → (slot a b : ℕ)
    → IsKeyIn candidate first end objects slots (record { a = a; b = b; slot = slot }) → IsKeyIn candidate first more objects slots (record { a = a; b = b; slot = slot })
wider_rows candidate first end more objects slots le slot a b is =
    let to = is.to in
    record { ordered = is.ordered; exists = is.exists; from = is.from; to = omega arith; slot = is.slot; candidates_at = is.candidates_at }

-- ---- what a pair is a candidate by

pub filled_length : (f : ℕ → Option PlainBox) (n : ℕ) (areas : List (Option AxisBox)) → plain_boxes areas ≡ map f (range_with_len 0 n) → length areas ≡ n
filled_length f n areas are =
    sym (length-map areas (option_map plain_box)) ∙ ap length are ∙ length-map (range_with_len 0 n) f ∙ length-range_with_len 0 n

pub candidates_listed : (case : PlainProblem) (c : PlainCertificate) (shells : List ShellLine) (areas : List (Option PlainBox)) (slot : ℕ) → shells ≡ c.shells → areas ≡ boxes_listed c slot
    → (a b : ℕ) → candidate_with case (map (λ line. line.shell) shells) areas (a, b) ≡ is_candidate_listed case c a b slot
unfolding is_candidate_listed
candidates_listed case c shells areas slot same are a b = λ i. candidate_with case (map (λ line. line.shell) (same i)) (are i) (a, b)

-- the shell of a line in its place, and a box
pub shell_on : (shells : List ShellLine) (k : ℕ) (d : ShellLine) → k < length shells → shell_in (map (λ line. line.shell) shells) k ≡ (get_or shells k d).shell
shell_on shells k d lt =
    ap (option_and_then (λ (shell : Option Shell). shell)) (slice_get-map (λ (line : ShellLine). line.shell) shells k ∙ ap (option_map (λ (line : ShellLine). line.shell)) (slice_get-get_or shells k d lt))

pub box_in : (boxes : List (Option AxisBox)) (k : ℕ) (box : Option AxisBox) → k < length boxes → box ≡ get_or boxes k box → reaches_in (plain_boxes boxes) k ≡ option_map plain_box box
box_in boxes k box lt is =
    ap (option_and_then (λ (x : Option PlainBox). x))
    (slice_get-map (option_map plain_box) boxes k ∙ ap (option_map (option_map plain_box)) (slice_get-get_or boxes k box lt ∙ ap (λ (x : Option AxisBox). Some x) (sym is)))

-- whether a pair is close, by its two shells and its two boxes
pub candidate_by : (case : PlainProblem) (shells : List ShellLine) (boxes : List (Option AxisBox)) (a b thr : ℕ) (s t : Option Shell) (x y : Option AxisBox)
    → thr ≡ threshold_of case a b
    → shell_in (map (λ line. line.shell) shells) a ≡ s → shell_in (map (λ line. line.shell) shells) b ≡ t
    → reaches_in (plain_boxes boxes) a ≡ option_map plain_box x → reaches_in (plain_boxes boxes) b ≡ option_map plain_box y
    → close_with case (map (λ line. line.shell) shells) (plain_boxes boxes) (a, b) ≡ (are_kept thr s t && both_touch thr (option_map plain_box x) (option_map plain_box y))
candidate_by case shells boxes a b thr s t x y is sa sb ba bb = λ i. are_kept (sym is i) (sa i) (sb i) && both_touch (sym is i) (ba i) (bb i)

pub not_kept : (case : PlainProblem) (shells : List ShellLine) (boxes : List (Option AxisBox)) (a b thr : ℕ) (s t : Option Shell) → thr ≡ threshold_of case a b
    → shell_in (map (λ line. line.shell) shells) a ≡ s → shell_in (map (λ line. line.shell) shells) b ≡ t → are_kept thr s t ≡ false
    → close_with case (map (λ line. line.shell) shells) (plain_boxes boxes) (a, b) ≡ false
not_kept case shells boxes a b thr s t is sa sb none =
    let touch = touch_between case.threshold case.sizes (plain_boxes boxes) (a, b) in
    (λ i. are_kept (sym is i) (sa i) (sb i) && touch) ∙ (λ i. none i && touch)
