-- Refining: the parts of a cell that wait, the innermost first, each no longer than its place allows.
use Rattle.std.proofs.Common.{◌≡◌, ℕ, zero, suc, ◌+◌, ◌-◌, ◌*◌, ◌^◌, ◌<◌, ◌≤◌, List, [], ◌∷◌, ◌++◌, length, get_or, set, take, drop, Option, Some, None, sym, ap, subst, ◌∙◌, arith, append_assoc, append-nil, length-append}
use Rattle.std.specs.List.{All}
use Rattle.std.proofs.lemmas.List.{drop_more, drop-set, drop_all, drop-append-le, take-append-le, length-take, length-drop, length-map, map_push}
use Rattle.std.proofs.lemmas.List.Elements.{All-push}
use Rattle.cj_base.specs.declared.tick.Tick.{Tick}
use Rattle.cj_case.specs.declared.kind.Kind.{Kind}
use Rattle.cj_case.specs.declared.leaf.Leaf.{Leaf}
use Rattle.cj_case.specs.Leaves.{PlainLeaf, plain_leaf, plain_leaves}
use Rattle.cj_cells.specs.Cells.{added_leaves}
use Rattle.cj_hermite.specs.Interpolant.{Curve, IsOver}
use Rattle.cj_bezier.specs.RootLeaves.{kind_between}
use Rattle.cj_bezier.proofs.JudgeLemmas.{settled_over}
use Rattle.cj_bezier.specs.Halving.{middle, closed, leaves_within, leaves_between, splits_between}
use Rattle.cj_bezier.proofs.HalvingLemmas.{HasKind, IsSettled, tiles, two_ticks, leaves-closed, leaves-halved}
use Rattle.cj_bezier.proofs.LeafLemmas.{leaves_split}
use Rattle.cj_bezier.specs.Tiles.{Tile}

-- the leaves of the parts that wait, from first on
unfoldable pub rest : (ℕ → ℕ → Option Kind) → ℕ → ℕ → ℕ → List Tick → List PlainLeaf
rest judge a b first [] = []
rest judge a b first (l ∷ ls) = leaves_between judge a b first l.micros ++ rest judge a b (l.micros + 1) ls

-- the parts that wait follow one another up to end, and the part at place h has at most 2 ^ h ticks
unfoldable pub Fit : ℕ → ℕ → ℕ → List Tick → Type 0
Fit end first h [] = first ≡ end + 1
Fit end first h (l ∷ ls) = (first ≤ l.micros) × (l.micros < first + 2 ^ h) × Fit end (l.micros + 1) (suc h) ls

pub fit_end : (end first h : ℕ) (ls : List Tick) → Fit end first h ls → first ≤ end + 1
unfolding Fit
fit_end end first h [] f = omega arith
fit_end end first h (l ∷ ls) f = let later = fit_end end (l.micros + 1) (suc h) ls f.2 in omega (arith, f.0)

pub fit_top : (end first h : ℕ) (l : Tick) (ls : List Tick) → Fit end first h (l ∷ ls) → (first ≤ l.micros) × (l.micros ≤ end)
unfolding Fit
fit_top end first h l ls f = let later = fit_end end (l.micros + 1) (suc h) ls f.2 in (f.0, omega arith)

pub fit_closed : (end first h : ℕ) (l : Tick) (ls : List Tick) → Fit end first h (l ∷ ls) → Fit end (l.micros + 1) (suc h) ls
unfolding Fit
fit_closed end first h l ls f = f.2

-- a part of two ticks or more is not at the last place
pub fit_place : (end first h : ℕ) (l : Tick) (ls : List Tick) → Fit end first h (l ∷ ls) → first < l.micros → 0 < h
unfolding Fit
fit_place end first zero l ls f lt = let one = f.1 in absurd (omega arith)
fit_place end first (suc h) l ls f lt = omega arith

pub fit_halved : (end first h : ℕ) (l m : Tick) (ls : List Tick) → Fit end first (suc h) (l ∷ ls) → first < l.micros → m.micros ≡ middle first l.micros → Fit end first h (m ∷ l ∷ ls)
unfolding Fit
fit_halved end first h l m ls f lt e =
    let double : 2 ^ suc h ≡ 2 * 2 ^ h = omega arith in
    let wide = f.1 in
    (omega arith, omega arith, (omega arith, omega arith, f.2))

pub rest-closed : (judge : ℕ → ℕ → Option Kind) (a b first : ℕ) (l : Tick) (ls : List Tick) (kind : Kind) (done all : List PlainLeaf) → judge first l.micros ≡ Some kind →
    done ++ rest judge a b first (l ∷ ls) ≡ all → (done ++ closed a b first l.micros kind ∷ []) ++ rest judge a b (l.micros + 1) ls ≡ all
unfolding rest
rest-closed judge a b first l ls kind done all is whole =
    append_assoc done (closed a b first l.micros kind ∷ []) (rest judge a b (l.micros + 1) ls)
    ∙ ap (λ ss. done ++ (ss ++ rest judge a b (l.micros + 1) ls)) (sym (leaves-closed judge a b first l.micros kind is))
    ∙ whole

pub rest-halved : (judge : ℕ → ℕ → Option Kind) (a b first : ℕ) (l m : Tick) (ls : List Tick) → first ≤ l.micros → IsSettled judge first l.micros → judge first l.micros ≡ None → m.micros ≡ middle first l.micros →
    rest judge a b first (m ∷ l ∷ ls) ≡ rest judge a b first (l ∷ ls)
unfolding rest
rest-halved judge a b first l m ls le settled none e =
    ap (λ (k : ℕ). leaves_between judge a b first k ++ (leaves_between judge a b (k + 1) l.micros ++ rest judge a b (l.micros + 1) ls)) e
    ∙ sym (append_assoc (leaves_between judge a b first (middle first l.micros)) (leaves_between judge a b (middle first l.micros + 1) l.micros) (rest judge a b (l.micros + 1) ls))
    ∙ ap (λ ss. ss ++ rest judge a b (l.micros + 1) ls) (sym (leaves-halved judge a b first l.micros le settled none))

-- a part has a leaf
some_leaf : (P : PlainLeaf → Type 0) (a b lo hi : ℕ) (ss : List PlainLeaf) → lo ≤ hi → Tile P a b lo hi ss → 0 < length ss
some_leaf P a b lo hi [] le t = absurd (omega (arith, t))
some_leaf P a b lo hi (s ∷ ss) le t = omega arith

pub rest-some : (judge : ℕ → ℕ → Option Kind) (a b first : ℕ) (l : Tick) (ls : List Tick) → first ≤ l.micros → IsSettled judge first l.micros → 0 < length (rest judge a b first (l ∷ ls))
unfolding rest leaves_between
rest-some judge a b first l ls le settled =
    let some = some_leaf (HasKind judge) a b first l.micros (leaves_within judge a b (l.micros - first) first l.micros) le (tiles judge a b (l.micros - first) first l.micros le (omega arith) settled) in
    omega (arith, length-append (leaves_within judge a b (l.micros - first) first l.micros) (rest judge a b (l.micros + 1) ls))

-- at the beginning the whole cell waits
pub rest-all : (judge : ℕ → ℕ → Option Kind) (a b first : ℕ) (l : Tick) → rest judge a b first (l ∷ []) ≡ leaves_between judge a b first l.micros
unfolding rest
rest-all judge a b first l = append-nil (leaves_between judge a b first l.micros)

pub fit_all : (first h : ℕ) (l : Tick) → first ≤ l.micros → l.micros < first + 2 ^ h → Fit l.micros first h (l ∷ [])
unfolding Fit
fit_all first h l le few = (le, few, omega arith)

-- ---- the parts that wait in an array

-- the part at the top, and those behind it
pub waiting : (lasts : List Tick) (top : ℕ) (d : Tick) → top < length lasts → drop top lasts ≡ get_or lasts top d ∷ drop (top + 1) lasts
waiting lasts top d lt = drop_more lasts top d lt

pub part_bounds : (end first top : ℕ) (lasts : List Tick) (d : Tick) → top < length lasts → Fit end first top (drop top lasts) → (first ≤ (get_or lasts top d).micros) × ((get_or lasts top d).micros ≤ end)
part_bounds end first top lasts d lt f = fit_top end first top (get_or lasts top d) (drop (top + 1) lasts) (subst (Fit end first top) (waiting lasts top d lt) f)

pub closed_fit : (end first top : ℕ) (lasts : List Tick) (d : Tick) → top < length lasts → Fit end first top (drop top lasts) → Fit end ((get_or lasts top d).micros + 1) (top + 1) (drop (top + 1) lasts)
closed_fit end first top lasts d lt f =
    let next : suc top ≡ top + 1 = omega arith in
    subst (λ (h : ℕ). Fit end ((get_or lasts top d).micros + 1) h (drop (top + 1) lasts)) next
    (fit_closed end first top (get_or lasts top d) (drop (top + 1) lasts) (subst (Fit end first top) (waiting lasts top d lt) f))

pub halved_place : (end first top : ℕ) (lasts : List Tick) (d : Tick) → top < length lasts → Fit end first top (drop top lasts) → first < (get_or lasts top d).micros → 1 ≤ top
halved_place end first top lasts d lt f more = fit_place end first top (get_or lasts top d) (drop (top + 1) lasts) (subst (Fit end first top) (waiting lasts top d lt) f) more

-- the first half on top of its cell
pushed : (lasts : List Tick) (i : ℕ) (m d : Tick) → suc i < length lasts → drop i (set lasts i m) ≡ m ∷ get_or lasts (suc i) d ∷ drop (suc i + 1) lasts
pushed lasts i m d lt =
    let next : i + 1 ≡ suc i = omega arith in
    drop-set lasts i m (omega arith) ∙ ap (λ (k : ℕ). m ∷ drop k lasts) next ∙ ap (λ ls. m ∷ ls) (waiting lasts (suc i) d lt)

pub halved_fit : (end first top : ℕ) (lasts : List Tick) (d m : Tick) → top < length lasts → Fit end first top (drop top lasts) → first < (get_or lasts top d).micros → m.micros ≡ middle first (get_or lasts top d).micros →
    Fit end first (top - 1) (drop (top - 1) (set lasts (top - 1) m))
halved_fit end first zero lasts d m lt f more e = let some = halved_place end first zero lasts d lt f more in absurd (omega arith)
halved_fit end first (suc i) lasts d m lt f more e =
    let at : suc i - 1 ≡ i = omega arith in
    rw (at, pushed lasts i m d lt)
    (fit_halved end first i (get_or lasts (suc i) d) m (drop (suc i + 1) lasts) (subst (Fit end first (suc i)) (waiting lasts (suc i) d lt) f) more e)

pub halved_rest : (judge : ℕ → ℕ → Option Kind) (a b end first top : ℕ) (lasts : List Tick) (d m : Tick) → top < length lasts → Fit end first top (drop top lasts) → first < (get_or lasts top d).micros →
    IsSettled judge first (get_or lasts top d).micros → judge first (get_or lasts top d).micros ≡ None → m.micros ≡ middle first (get_or lasts top d).micros →
    rest judge a b first (drop (top - 1) (set lasts (top - 1) m)) ≡ rest judge a b first (drop top lasts)
halved_rest judge a b end first zero lasts d m lt f more settled none e = let some = halved_place end first zero lasts d lt f more in absurd (omega arith)
halved_rest judge a b end first (suc i) lasts d m lt f more settled none e =
    let at : suc i - 1 ≡ i = omega arith in
    rw (at, pushed lasts i m d lt, waiting lasts (suc i) d lt)
    (rest-halved judge a b first (get_or lasts (suc i) d) m (drop (suc i + 1) lasts) (omega arith) settled none e)

pub closed_rest : (judge : ℕ → ℕ → Option Kind) (a b first top : ℕ) (lasts : List Tick) (d : Tick) (kind : Kind) (done all : List PlainLeaf) → top < length lasts → judge first (get_or lasts top d).micros ≡ Some kind →
    done ++ rest judge a b first (drop top lasts) ≡ all → (done ++ closed a b first (get_or lasts top d).micros kind ∷ []) ++ rest judge a b ((get_or lasts top d).micros + 1) (drop (top + 1) lasts) ≡ all
closed_rest judge a b first top lasts d kind done all lt is whole =
    let here = waiting lasts top d lt in
    rest-closed judge a b first (get_or lasts top d) (drop (top + 1) lasts) kind done all is (subst (λ (ls : List Tick). done ++ rest judge a b first ls ≡ all) here whole)

pub more_to_come : (judge : ℕ → ℕ → Option Kind) (a b end first top : ℕ) (lasts : List Tick) (d : Tick) (done all : List PlainLeaf) → top < length lasts → Fit end first top (drop top lasts) →
    IsSettled judge first (get_or lasts top d).micros → done ++ rest judge a b first (drop top lasts) ≡ all → length done < length all
more_to_come judge a b end first top lasts d done all lt f settled whole =
    let bounds = part_bounds end first top lasts d lt f in
    let some = rest-some judge a b first (get_or lasts top d) (drop (top + 1) lasts) bounds.0 settled in
    let here : rest judge a b first (drop top lasts) ≡ rest judge a b first (get_or lasts top d ∷ drop (top + 1) lasts) = ap (rest judge a b first) (waiting lasts top d lt) in
    let same : length (rest judge a b first (drop top lasts)) ≡ length (rest judge a b first (get_or lasts top d ∷ drop (top + 1) lasts)) = ap length here in
    let sum : length (done ++ rest judge a b first (drop top lasts)) ≡ length all = ap length whole in
    omega (arith, length-append done (rest judge a b first (drop top lasts)))

-- once no part waits, all leaves are there
pub nothing_waits : (judge : ℕ → ℕ → Option Kind) (a b first top : ℕ) (lasts : List Tick) (done all : List PlainLeaf) → length lasts ≤ top → done ++ rest judge a b first (drop top lasts) ≡ all → done ≡ all
unfolding rest
nothing_waits judge a b first top lasts done all le whole =
    let none : drop top lasts ≡ [] = drop_all top lasts le in
    sym (append-nil done) ∙ (rw none at whole)

-- ---- the list of leaves with one more

old_length : (old xs : List Leaf) → take (length old) xs ≡ old → length old ≤ length xs
old_length old xs kept = let same : length (take (length old) xs) ≡ length old = ap length kept in omega (arith, length-take (length old) xs)

pub added_more : (old xs : List Leaf) (leaf : Leaf) → take (length old) xs ≡ old → added_leaves old (xs ++ leaf ∷ []) ≡ added_leaves old xs ++ plain_leaf leaf ∷ []
added_more old xs leaf kept =
    let le = old_length old xs kept in
    ap plain_leaves (drop-append-le (length old) xs (leaf ∷ []) le) ∙ map_push plain_leaf (drop (length old) xs) leaf

pub kept_more : (old xs : List Leaf) (leaf : Leaf) → take (length old) xs ≡ old → take (length old) (xs ++ leaf ∷ []) ≡ old
kept_more old xs leaf kept = let le = old_length old xs kept in take-append-le (length old) xs (leaf ∷ []) le ∙ kept

pub root_more : (root : ℕ) (old xs : List Leaf) (leaf : Leaf) → take (length old) xs ≡ old → All (λ l. l.cell.root ≡ root) (drop (length old) xs) → leaf.cell.root ≡ root →
    All (λ l. l.cell.root ≡ root) (drop (length old) (xs ++ leaf ∷ []))
root_more root old xs leaf kept all here =
    let le = old_length old xs kept in
    rw (drop-append-le (length old) xs (leaf ∷ []) le) (All-push (λ l. l.cell.root ≡ root) (drop (length old) xs) leaf all here)

pub added_length : (old xs : List Leaf) → take (length old) xs ≡ old → length old + length (added_leaves old xs) ≡ length xs
added_length old xs kept =
    let le = old_length old xs kept in
    omega (arith, length-map (drop (length old) xs) plain_leaf, length-drop (length old) xs)

-- ---- how often was looked

-- each part that waits comes to a leaf at least
rest_waits : (judge : ℕ → ℕ → Option Kind) (a b first : ℕ) (ls : List Tick) → length ls ≤ length (rest judge a b first ls)
unfolding rest leaves_between
rest_waits judge a b first [] = omega arith
rest_waits judge a b first (l ∷ ls) =
    let later = rest_waits judge a b (l.micros + 1) ls in
    let here = leaves_split judge a b (l.micros - first) first l.micros in
    omega (arith, later, here, length-append (leaves_within judge a b (l.micros - first) first l.micros) (rest judge a b (l.micros + 1) ls))

-- a leaf more than there are halvings
pub one_more : (judge : ℕ → ℕ → Option Kind) (a b first last : ℕ) → length (leaves_between judge a b first last) ≡ 1 + splits_between judge first last
unfolding leaves_between
one_more judge a b first last = leaves_split judge a b (last - first) first last

-- each leaf took a look and a halving, and each part that waits a halving
pub few_looks : (judge : ℕ → ℕ → Option Kind) (a b lo hi first top old new : ℕ) (lasts : List Tick) (done : List PlainLeaf) → top < length lasts →
    done ++ rest judge a b first (drop top lasts) ≡ leaves_between judge a b lo hi → new ≤ old + (2 * length done + (length lasts - top)) →
    new ≤ old + (length (leaves_between judge a b lo hi) + splits_between judge lo hi)
few_looks judge a b lo hi first top old new lasts done lt whole few =
    let left = rest judge a b first (drop top lasts) in
    let sum = ap length whole in
    omega (arith, few, sum, one_more judge a b lo hi, rest_waits judge a b first (drop top lasts), length-drop top lasts, length-append done left)

-- a part that is closed has one look, and is one leaf more; one that is halved has one look, and one part more waits
pub closed_counted : (old now new top : ℕ) (first xs ys : List Leaf) (leaf : Leaf) → take (length first) xs ≡ first → ys ≡ xs ++ leaf ∷ [] → top < 33 → new ≡ now + 1 →
    now + 1 ≡ old + (2 * length (added_leaves first xs) + (33 - top)) → new + 1 ≡ old + (2 * length (added_leaves first ys) + (33 - (top + 1)))
closed_counted old now new top first xs ys leaf kept pushed lt tick counted =
    let more = ap (λ zs. length (added_leaves first zs)) pushed ∙ ap length (added_more first xs leaf kept) ∙ length-append (added_leaves first xs) (plain_leaf leaf ∷ []) in
    omega (arith, more, counted, tick, lt)

pub halved_counted : (old now new top done : ℕ) → 1 ≤ top → top < 33 → new ≡ now + 1 → now + 1 ≡ old + (2 * done + (33 - top)) → new + 1 ≡ old + (2 * done + (33 - (top - 1)))
halved_counted old now new top done some lt tick counted = omega (arith, tick, counted, some, lt)

-- at the end no part waits
pub all_looks : (judge : ℕ → ℕ → Option Kind) (a b lo hi old new : ℕ) (done : List PlainLeaf) → done ≡ leaves_between judge a b lo hi → new + 1 ≡ old + 2 * length done →
    new ≡ old + (length (leaves_between judge a b lo hi) + splits_between judge lo hi)
all_looks judge a b lo hi old new done whole counted = let sum = ap length whole in omega (arith, counted, sum, one_more judge a b lo hi)

-- ---- the same of two interpolants

module _ (c d : Curve) (thr a b lo hi first top : ℕ) (lasts : List Tick) where
  -- the interpolants give a place at each tick of the part at the top
  pub part_over : (e : Curve) (x : Tick) → IsOver e lo hi → lo ≤ first → top < length lasts → Fit hi first top (drop top lasts) → IsOver e first (get_or lasts top x).micros
  part_over e x over from lt f =
      let bounds = part_bounds hi first top lasts x lt f in
      record { some = over.some; from = omega (arith, over.from); to = omega (arith, over.to, bounds.1) }

  -- a part that is halved has two ticks or more
  pub part_ticks : (x : Tick) → 10 ^ 9 ≤ thr → IsOver c lo hi → IsOver d lo hi → lo ≤ first → top < length lasts → Fit hi first top (drop top lasts) →
      kind_between c d thr first (get_or lasts top x).micros ≡ None → first < (get_or lasts top x).micros
  part_ticks x big oc od from lt f none =
      let bounds = part_bounds hi first top lasts x lt f in
      two_ticks (kind_between c d thr) first (get_or lasts top x).micros bounds.0
      (settled_over c d thr first (get_or lasts top x).micros big (part_over c x oc from lt f) (part_over d x od from lt f)) none

  -- what waits comes to a leaf at least
  pub more_behind : (x : Tick) (done all : List PlainLeaf) → 10 ^ 9 ≤ thr → IsOver c lo hi → IsOver d lo hi → lo ≤ first → top < length lasts → Fit hi first top (drop top lasts) →
      done ++ rest (kind_between c d thr) a b first (drop top lasts) ≡ all → length done < length all
  more_behind x done all big oc od from lt f whole =
      more_to_come (kind_between c d thr) a b hi first top lasts x done all lt f
      (settled_over c d thr first (get_or lasts top x).micros big (part_over c x oc from lt f) (part_over d x od from lt f)) whole

  -- the halves of the part at the top come to its leaves
  pub part_halved : (x m : Tick) → 10 ^ 9 ≤ thr → IsOver c lo hi → IsOver d lo hi → lo ≤ first → top < length lasts → Fit hi first top (drop top lasts) →
      kind_between c d thr first (get_or lasts top x).micros ≡ None → m.micros ≡ middle first (get_or lasts top x).micros →
      rest (kind_between c d thr) a b first (drop (top - 1) (set lasts (top - 1) m)) ≡ rest (kind_between c d thr) a b first (drop top lasts)
  part_halved x m big oc od from lt f none e =
      halved_rest (kind_between c d thr) a b hi first top lasts x m lt f (part_ticks x big oc od from lt f none)
      (settled_over c d thr first (get_or lasts top x).micros big (part_over c x oc from lt f) (part_over d x od from lt f)) none e
