-- What a look at the cell of a turn gives.
use Rattle.std.proofs.Common.{◌≡◌, ◌⊎◌, Bool, true, false, ℕ, zero, suc, ◌+◌, ◌<◌, ◌≤◌, List, [], ◌∷◌, ◌++◌, inl, inr, get_or, length, refl, sym, ap, ◌∙◌, subst, arith, length-append}
use Rattle.std.specs.Prelude.{All, Some, None, Result, Ok, Err, MatchBool, MatchResult}
use Rattle.std.proofs.lemmas.List.Elements.{All-push}
use Rattle.cj_case.specs.PlainProblems.{PlainProblem}
use Rattle.cj_case.specs.declared.cell.Cell.{Cell}
use Rattle.cj_case.specs.declared.kind.Kind.{Kind}
use Rattle.cj_case.specs.declared.leaf.Leaf.{Leaf}
use Rattle.cj_case.specs.Cells.{plain_cell}
use Rattle.cj_bezier.specs.Halves.{AreHalves}
use Rattle.cj_bezier.specs.RootLeaves.{kind_of_cell}
use Rattle.cj_ledger.specs.declared.count.Count.{Count}
use Rattle.cj_ledger.specs.declared.why.Why.{Why}
use Rattle.cj_ledger.specs.Shares.{IsOf}
use Rattle.cj_ledger.specs.Words.{why_of}
use Rattle.cj_pool.specs.declared.account.Account.{Account}
use Rattle.cj_pool.specs.declared.turn.Turn.{Turn}
use Rattle.cj_pool.specs.declared.turn.Turn.TheVariants.{Idle, Done, Halted, Kept}
use Rattle.cj_pool.specs.Accounts.{AreLeft, Settled}
use Rattle.cj_pool.specs.Hands.{RefinerySeen, HandSeen, IsHandOf, SameHand}
use Rattle.cj_pool.specs.Narrow.{Narrow}
use Rattle.cj_pool.specs.Parted.{ArePushed, AreKept, AreParted, IsEnough, pushed_one, held_both}
use Rattle.cj_pool.specs.Passes.{around}
use Rattle.cj_pool.specs.RootLists.{IsKept, AreRoots}
use Rattle.cj_pool.specs.Tree.{InTree, IsLeafOf, Halved}
use Rattle.cj_pool.specs.Turns.{CellCame, SameCells, MadeLeaf, MadeHalves, KeptBoth, Wanted, FoundEnd, FoundNone, Heard, WasHalted, Made, SetsCells, Ended}
use Rattle.cj_pool.specs.Weights.{weigh}
use Rattle.cj_pool.proofs.NarrowLemmas.{narrow_length}
use Rattle.cj_pool.proofs.WeightLemmas.{weigh_one}
use Rattle.cj_pool.proofs.TreeLemmas.{tree_keeps, tree_halves}

-- what holds of the run's problem holds of the hand's
pub keeps_here : (case case' : PlainProblem) (roots : List Cell) (c : Cell) → case' ≡ case → AreRoots case roots → InTree case roots c → IsKept case' c
keeps_here case case' roots c same are tree = subst (λ (k : PlainProblem). IsKept k c) (sym same) (tree_keeps case roots c are tree)

-- a cell that the look halved
pub halved_here : (case case' : PlainProblem) (c l r : Cell) → case' ≡ case → AreHalves c l r → None ≡ kind_of_cell case' (plain_cell c) → Halved case c l r
halved_here case case' c l r same halves kind = record {
  halves = halves;
  open_cell = ap (λ (k : PlainProblem). kind_of_cell k (plain_cell c)) (sym same) ∙ sym kind;
}

-- and a cell that it closed
pub closed_here : (case case' : PlainProblem) (c d : Cell) (kind : Kind) → case' ≡ case → d ≡ c → Some kind ≡ kind_of_cell case' (plain_cell c) → kind_of_cell case (plain_cell d) ≡ Some kind
closed_here case case' c d kind same cell is = ap (λ (k : PlainProblem). kind_of_cell k (plain_cell d)) (sym same) ∙ ap (λ (x : Cell). kind_of_cell case' (plain_cell x)) cell ∙ sym is

-- the first half is in the tree, beside the kept cells
pub keeps_first : (case : PlainProblem) (roots kept : List Cell) (c l r : Cell) → All (InTree case roots) kept → InTree case roots c → Halved case c l r → All (InTree case roots) (kept ++ l ∷ [])
keeps_first case roots kept c l r trees tree halved = All-push (InTree case roots) kept l trees (tree_halves case roots c l r tree halved).0

-- both halves are
pub keeps_both : (case : PlainProblem) (roots kept : List Cell) (c l r : Cell) → All (InTree case roots) kept → InTree case roots c → Halved case c l r → All (InTree case roots) ((kept ++ r ∷ []) ++ l ∷ [])
keeps_both case roots kept c l r trees tree halved =
    let halves = tree_halves case roots c l r tree halved in
    All-push (InTree case roots) (kept ++ r ∷ []) l (All-push (InTree case roots) kept r trees halves.1) halves.0

-- there is room for two more beside the cells below a cell
pub room : (kept : List Cell) (c : Cell) → Narrow 26 (kept ++ c ∷ []) → length kept ≤ 26
room kept c narrow = omega (arith, narrow_length 26 (kept ++ c ∷ []) narrow, length-append kept (c ∷ []))

-- a leaf that the look made
pub leaf_here : (case case' : PlainProblem) (roots : List Cell) (c : Cell) (leaf : Leaf) → case' ≡ case → InTree case roots c → leaf.cell ≡ c → Some leaf.kind ≡ kind_of_cell case' (plain_cell c) → IsLeafOf case roots leaf
leaf_here case case' roots c leaf same tree cell is = record {
  tree = subst (InTree case roots) (sym cell) tree;
  kind = closed_here case case' c leaf.cell leaf.kind same cell is;
}

-- the cell by another name
pub came_as : (kept : List Cell) (old new : List (List Cell)) (c d : Cell) (rest : List Cell) → d ≡ c → CellCame kept old new c rest → CellCame kept old new d rest
came_as kept old new c d rest same came = subst (λ (x : Cell). CellCame kept old new x rest) (sym same) came

-- what a split tells is told after what was told before it
pub sets_after : (limit : ℕ) (old mid new : Count) → mid.cells ≡ old.cells → mid.leaves ≡ old.leaves → SetsCells limit mid new → SetsCells limit old new
sets_after limit old mid new cells leaves (inl (kept, inl same)) = inl (kept ∙ cells, inl (same ∙ leaves))
sets_after limit old mid new cells leaves (inl (kept, inr told)) = inl (kept ∙ cells, inr (omega (arith, told.0, ap (λ l. l.times) leaves), told.1))
sets_after limit old mid new cells leaves (inr told) = inr (omega (arith, told.0, cells), omega (arith, told.1, ap (λ l. l.times) leaves), told.2)

-- what was taken, by another name
pub came_to : (kept : List Cell) (old new new' : List (List Cell)) (c : Cell) (rest : List Cell) → new' ≡ new → CellCame kept old new c rest → CellCame kept old new' c rest
came_to kept old new new' c rest same came = subst (λ (x : List (List Cell)). CellCame kept old x c rest) (sym same) came

-- a hand that is alone has a pass of its own deque only
alone_taken : (w : Cell → ℕ) (below : List (List Cell)) (own : List Cell) (above : List (List Cell)) → length (around below own above) ≡ 1 → weigh (weigh w) (around below own above) ≡ weigh w own
alone_taken w [] own [] one = omega arith
alone_taken w [] own (x ∷ xs) one = absurd (omega arith)
alone_taken w (x ∷ xs) own above one = absurd (omega (arith, one, length-append xs (own ∷ above)))

-- and it knows that nothing is left in it
pub alone_settled : (n : ℕ) (v : Account) (below above : List (List Cell)) → v.parts ≡ 1 → v.all ≡ n → Settled v [] → length (around below v.taken above) ≡ n → n ≡ 1 → (w : Cell → ℕ)
    → weigh w v.opening + weigh w v.pushed ≡ weigh (weigh w) (around below v.taken above)
alone_settled n v below above parts all settled long one w =
    let all_taken = settled (parts ∙ sym (all ∙ one)) w in
    omega (arith, all_taken, alone_taken w below v.taken above (long ∙ one))

-- what a turn made, of the hand as it was seen before
pub leaf_of : (case : PlainProblem) (old old' new : HandSeen) → old' ≡ old → MadeLeaf case old' new → MadeLeaf case old new
leaf_of case old old' new same made = subst (λ (h : HandSeen). MadeLeaf case h new) same made

pub halves_of : (case : PlainProblem) (old old' new : HandSeen) → old' ≡ old → MadeHalves case old' new → MadeHalves case old new
halves_of case old old' new same made = subst (λ (h : HandSeen). MadeHalves case h new) same made

pub both_of : (case : PlainProblem) (old old' new : HandSeen) → old' ≡ old → KeptBoth case old' new → Wanted case old new
both_of case old old' new same made = subst (λ (h : HandSeen). Wanted case h new) same (inr made)

-- a turn that found no cell tells the end where none is live
pub without_of : (case : PlainProblem) (r : RefinerySeen) (old old' new : HandSeen) (live : ℕ) (t : Turn) → old' ≡ old → (live ≡ 0 → t ≡ Done) → (0 < live → t ≡ Idle live)
    → SameCells old' new → old'.kept ≡ [] → new.uncounted ≡ 0 → Heard live old' new → (r.hands ≡ 1 → (w : Cell → ℕ) → weigh w new.opening + weigh w new.pushed ≡ weigh (weigh w) new.taken)
    → Made case r old new t
without_of case r old old' new zero t same done idle cells held counted heard alone =
    subst (Made case r old new) (sym (done refl)) (subst (λ (h : HandSeen). FoundEnd h new) same (record { same = cells; counted = counted; heard = heard }))
without_of case r old old' new (suc n) t same done idle cells held counted heard alone =
    subst (Made case r old new) (sym (idle (omega arith)))
    (subst (λ (h : HandSeen). FoundNone r h new (suc n)) same (record { same = cells; held = held; counted = counted; some = omega arith; heard = heard; alone = alone }))

-- the hand stays what it is, as it was seen before
pub still_of : (r : RefinerySeen) (old old' new : HandSeen) → old' ≡ old → IsHandOf r old → new.deques ≡ old'.deques → IsOf r.ledger new.share → SameHand old' new
    → IsHandOf r new × SameHand old new
still_of r old old' new same hand deques mine kept = ((deques ∙ ap (λ (h : HandSeen). h.deques) same ∙ hand.0, mine), subst (λ (h : HandSeen). SameHand h new) same kept)

-- and what it was at the start
pub still_after : (r : RefinerySeen) (start old old' new : HandSeen) → old' ≡ old → IsHandOf r old × SameHand start old → new.deques ≡ old'.deques →
    IsOf r.ledger new.share → SameHand old' new → IsHandOf r new × SameHand start new
still_after r start old old' new same hand deques mine kept =
    let still = still_of r old old' new same hand.0 deques mine kept in
    let before = hand.1 in
    let after = still.1 in
    (still.0, record { number = after.number ∙ before.number; problem = after.problem ∙ before.problem; opening = after.opening ∙ before.opening })

-- a turn that wanted memory, of a hand with the same cells
pub wanted_same : (case : PlainProblem) (old new new' : HandSeen) → SameCells new new' → Wanted case old new → Wanted case old new'
wanted_same case old new new' same (inl cells) = inl (record {
  taken = same.taken ∙ cells.taken;
  closed = same.closed ∙ cells.closed;
  pushed = same.pushed ∙ cells.pushed;
  kept = same.kept ∙ cells.kept;
})
wanted_same case old new new' same (inr both) = inr (record {
  cell = both.cell;
  left = both.left;
  right = both.right;
  rest = both.rest;
  came = came_to old.kept old.taken new.taken new'.taken both.cell both.rest same.taken both.came;
  halved = both.halved;
  kept = same.kept ∙ both.kept;
  pushed = same.pushed ∙ both.pushed;
  closed = same.closed ∙ both.closed;
})

-- ---- the halves of a cell, wherever the second went

pub where_parted : {A E : Type 0} (r : Result Turn E) (old new : Account) (before after : List Cell) (first second : Cell)
    → MatchResult r (AreParted old new before after first second) (λ _. AreKept old new before after first second)
    → (ArePushed old new before after first second → A) → (AreKept old new before after first second → A) → A
where_parted (Ok turn) old new before after first second (pushed_one is parted) pushed kept = pushed parted
where_parted (Ok turn) old new before after first second (held_both is enough parted) pushed kept = kept parted
where_parted (Err e) old new before after first second parted pushed kept = kept parted

pub made_of : {E : Type 0} (case : PlainProblem) (r : RefinerySeen) (hand hand' now : HandSeen) (result : Result Turn E) (old new : Account) (before after : List Cell) (first second : Cell)
    → hand' ≡ hand → MatchResult result (AreParted old new before after first second) (λ _. AreKept old new before after first second)
    → (ArePushed old new before after first second → MadeHalves case hand' now) → (AreKept old new before after first second → KeptBoth case hand' now)
    → MatchResult result (Made case r hand now) (λ _. Wanted case hand now)
made_of case r hand hand' now (Ok turn) old new before after first second same (pushed_one is parted) pushed kept =
    subst (Made case r hand now) (sym is) (subst (λ (h : HandSeen). MadeHalves case h now) same (pushed parted))
made_of case r hand hand' now (Ok turn) old new before after first second same (held_both is enough parted) pushed kept =
    subst (Made case r hand now) (sym is) (subst (λ (h : HandSeen). KeptBoth case h now) same (kept parted))
made_of case r hand hand' now (Err e) old new before after first second same parted pushed kept =
    subst (λ (h : HandSeen). Wanted case h now) same (inr (kept parted))

-- ---- what is left for others

-- what the owner counted in its deque, it has not taken
pub enough_left : (v : Account) (items : List Cell) (count : ℕ) → length items ≡ count → 4 ≤ count → AreLeft v items → IsEnough v
enough_left v items count many some left =
    let all = left (λ _. 1) in
    omega (arith, all, weigh_one v.taken, weigh_one items, weigh_one v.opening, weigh_one v.pushed)

-- both halves are kept where enough is left
pub enough_of : {E : Type 0} (r : Result Turn E) (old new : Account) (before after : List Cell) (first second : Cell)
    → MatchResult r (AreParted old new before after first second) (λ _. AreKept old new before after first second) → r ≡ Ok Kept → IsEnough new
enough_of (Ok turn) old new before after first second (pushed_one is parted) kept = absurd cc
enough_of (Ok turn) old new before after first second (held_both is enough parted) kept = subst IsEnough (sym parted.own) enough
enough_of (Err e) old new before after first second parted kept = absurd cc

-- the own one stands at its number
pub around_own : {X : Type 0} (below : List X) (own : X) (above : List X) (n : ℕ) (d : X) → length below ≡ n → get_or (around below own above) n d ≡ own
around_own [] own above zero d len = refl
around_own [] own above (suc n) d len = absurd (omega arith)
around_own (x ∷ xs) own above zero d len = absurd (omega arith)
around_own (x ∷ xs) own above (suc n) d len = around_own xs own above n d (omega arith)

-- so it is left among all that the hand has taken
pub leaves_enough : (v : Account) (below above : List (List Cell)) (n : ℕ) → IsEnough v → length below ≡ n
    → length (get_or (around below v.taken above) n []) + 4 ≤ length v.opening + length v.pushed
leaves_enough v below above n left number = omega (arith, left, ap length (around_own below v.taken above n [] number))

-- ---- the last turn

-- halt bits that tell a cause are not zero
some_bits : (bits : ℕ) (why : Why) → why_of bits ≡ Some why → 0 < bits
some_bits zero why told = absurd cc
some_bits (suc bits) why told = omega arith

-- it was told of the end
pub last_ended : (case : PlainProblem) (r : RefinerySeen) (old new : HandSeen) (turn : Turn) → (turn ≡ Done) ⊎ ((why : Why) × (turn ≡ Halted why)) →
    Made case r old new turn → Ended new
last_ended case r old new turn (inl done) made =
    let end : FoundEnd old new = subst (λ (t : Turn). Made case r old new t) done made in
    let times = end.heard.1 in
    inl (end.heard.0, omega (arith, times))
last_ended case r old new turn (inr (why, halted)) made =
    let stop : WasHalted why old new = subst (λ (t : Turn). Made case r old new t) halted made in
    let times = stop.heard in
    inr (inl (some_bits new.share.count.halts.last why stop.told, omega (arith, times)))

-- one that was told to stop did not count a leaf
pub record WasStopped (old new : HandSeen) (turn : Turn) : Type 0 where
  pub why : Why
  pub is : turn ≡ Halted why
  pub leaves : new.share.count.leaves ≡ old.share.count.leaves

pub told_to_stop : (case : PlainProblem) (r : RefinerySeen) (old new : HandSeen) (turn : Turn) → (why : Why) × (turn ≡ Halted why) →
    Made case r old new turn → WasStopped old new turn
told_to_stop case r old new turn (why, halted) made =
    let stop : WasHalted why old new = subst (λ (t : Turn). Made case r old new t) halted made in
    record { why = why; is = halted; leaves = stop.leaves }

pub last_or_not : (last : Bool) (P Q : Type 0) → (last ≡ true → P) → Q → MatchBool last P Q
last_or_not true P Q ended goes = ended refl
last_or_not false P Q ended goes = goes
