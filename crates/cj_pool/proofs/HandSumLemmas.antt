-- What all hands did together: the pushes cancel.
use Rattle.std.proofs.Common.{◌≡◌, ℕ, ◌+◌, ◌<◌, List, [], ◌∷◌, ◌++◌, length, drop, refl, sym, ap, ◌∙◌, arith, length-append}
use Rattle.std.specs.List.{flat_map, range_with_len}
use Rattle.std.proofs.lemmas.List.{take-append-drop, map-append}
use Rattle.cj_interval.proofs.ListLemmas.{Each}
use Rattle.cj_case.specs.PlainProblems.{PlainProblem}
use Rattle.cj_case.specs.declared.cell.Cell.{Cell}
use Rattle.cj_case.specs.declared.leaf.Leaf.{Leaf}
use Rattle.cj_pool.specs.Hands.{RefinerySeen, HandSeen, Accounts, cells_of, roots_dealt}
use Rattle.cj_pool.specs.Refined.{AreLeft, AreOpen, kept_in, leaves_in, numbers_of}
use Rattle.cj_pool.specs.Tree.{IsShared}
use Rattle.cj_pool.specs.Weights.{weigh, has}
use Rattle.cj_pool.proofs.DealLemmas.{dealt_all, weigh_add}
use Rattle.cj_pool.proofs.SharedLemmas.{has_shared}
use Rattle.cj_pool.proofs.WeightLemmas.{weigh_append, weigh_one}

pub weigh_each : {X : Type 0} (f g : X → ℕ) (P : X → Type 0) → ((x : X) → P x → f x ≡ g x) → (xs : List X) → Each P xs → weigh f xs ≡ weigh g xs
weigh_each f g P e [] each = refl
weigh_each f g P e (x ∷ xs) each = let here = e x each.0 in let rest = weigh_each f g P e xs each.1 in omega arith

pub weigh_flat_map : {X Y : Type 0} (w : Y → ℕ) (f : X → List Y) (xs : List X) → weigh w (flat_map f xs) ≡ weigh (λ x. weigh w (f x)) xs
weigh_flat_map w f [] = refl
weigh_flat_map w f (x ∷ xs) = weigh_append w (f x) (flat_map f xs) ∙ ap (λ n. weigh w (f x) + n) (weigh_flat_map w f xs)

-- the lengths of lists
pub weigh_length : {X Y : Type 0} (f : X → List Y) (xs : List X) → weigh (λ x. length (f x)) xs ≡ length (flat_map f xs)
weigh_length f [] = refl
weigh_length f (x ∷ xs) = let rest = weigh_length f xs in omega (arith, length-append (f x) (flat_map f xs))

lengths_one : {X : Type 0} (xss : List (List X)) → weigh length xss ≡ weigh (weigh (λ (x : X). 1)) xss
lengths_one [] = refl
lengths_one (xs ∷ xss) = let rest = lengths_one xss in omega (arith, weigh_one xs)

-- ---- sums over hands

abbrev pub all_opening : (Cell → ℕ) → List HandSeen → ℕ
all_opening w hands = weigh (λ h. weigh w h.opening) hands

abbrev pub all_pushed : (Cell → ℕ) → List HandSeen → ℕ
all_pushed w hands = weigh (λ h. weigh w h.pushed) hands

abbrev pub all_taken : (Cell → ℕ) → List HandSeen → ℕ
all_taken w hands = weigh (λ h. weigh (weigh w) h.taken) hands

abbrev pub all_closed : (Cell → ℕ) → List HandSeen → ℕ
all_closed w hands = weigh (λ h. weigh w (cells_of h.closed)) hands

abbrev pub all_kept : (Cell → ℕ) → List HandSeen → ℕ
all_kept w hands = weigh (λ h. weigh w h.kept) hands

module _ (case : PlainProblem) (roots : List Cell) (n : ℕ) where
  -- what hands took is what they closed, pushed and keep
  all_balanced : (w : Cell → ℕ) (hands : List HandSeen) → IsShared case w → Each (Accounts case roots n) hands →
      all_taken w hands ≡ all_closed w hands + all_pushed w hands + all_kept w hands
  all_balanced w [] shared each = refl
  all_balanced w (h ∷ hands) shared each =
      let account = each.0 in
      let here = account.balanced w shared in
      let rest = all_balanced w hands shared each.1 in omega arith

  opening_dealt : (w : Cell → ℕ) (hands : List HandSeen) → Each (Accounts case roots n) hands →
      all_opening w hands ≡ weigh (λ j. weigh w (roots_dealt roots n j)) (numbers_of hands)
  opening_dealt w [] each = refl
  opening_dealt w (h ∷ hands) each =
      let account = each.0 in
      let here = ap (weigh w) account.opening in
      let rest = opening_dealt w hands each.1 in omega arith

  -- the roots of all deques are the roots
  all_dealt : (w : Cell → ℕ) (hands : List HandSeen) → 0 < n → Each (Accounts case roots n) hands → numbers_of hands ≡ range_with_len 0 n →
      all_opening w hands ≡ weigh w roots
  all_dealt w hands some each numbers = opening_dealt w hands each ∙ ap (weigh (λ j. weigh w (roots_dealt roots n j))) numbers ∙ dealt_all n w roots
      some

  -- what the shares of hands count
  all_closes : (hands : List HandSeen) → Each (Accounts case roots n) hands → weigh (λ h. h.share.count.closes + h.uncounted) hands ≡ length (leaves_in hands)
  all_closes [] each = refl
  all_closes (h ∷ hands) each =
      let account = each.0 in
      let here = account.closes in
      let rest = all_closes hands each.1 in omega (arith, length-append h.closed (leaves_in hands))

  all_firsts : (hands : List HandSeen) → Each (Accounts case roots n) hands →
      weigh (λ h. h.share.count.firsts) hands + all_taken (λ _. 1) hands ≡ length (leaves_in hands) + all_pushed (λ _. 1) hands + length
      (kept_in hands)
  all_firsts [] each = refl
  all_firsts (h ∷ hands) each =
      let account = each.0 in
      let here = account.splits in
      let rest = all_firsts hands each.1 in
      omega (arith, lengths_one h.taken, weigh_one h.pushed, length-append h.closed (leaves_in hands), length-append h.kept (kept_in hands))

-- ---- what is left in the deques

abbrev pub left_of : List HandSeen → List Cell → List Cell
left_of hands cells = drop (length (kept_in hands)) cells

module _ (case : PlainProblem) (roots : List Cell) (n : ℕ) (hands : List HandSeen) (cells : List Cell) (some : 0 < n) (accounts : Each (Accounts case roots n) hands) (numbers : numbers_of hands ≡ range_with_len 0 n) (are : AreOpen hands cells) where
  pub open_cells : cells ≡ kept_in hands ++ left_of hands cells
  open_cells = sym (take-append-drop (length (kept_in hands)) cells) ∙ ap (λ (xs : List Cell). xs ++ left_of hands cells) are.kept

  -- the deques
  pub left_queues : (w : Cell → ℕ) → weigh w roots + all_pushed w hands ≡ all_taken w hands + weigh w (left_of hands cells)
  left_queues w =
      let q = are.queues w in
      let opened = all_dealt case roots n w hands some accounts numbers in
      let both = weigh_add (λ (h : HandSeen). weigh w h.opening) (λ (h : HandSeen). weigh w h.pushed) hands in
      let whole = ap (weigh w) open_cells in
      omega (arith, q, opened, both, whole, weigh_append w (kept_in hands) (left_of hands cells))

  -- the hands and the deques
  pub left_shared : (w : Cell → ℕ) → IsShared case w → all_closed w hands + all_kept w hands + weigh w (left_of hands cells) ≡ weigh w roots
  left_shared w shared =
      let q = left_queues w in
      let b = all_balanced case roots n w hands shared accounts in omega (arith, q, b)

  -- the same over the lists of leaves and of open cells
  pub open_shared : (w : Cell → ℕ) → IsShared case w → weigh w (cells_of (leaves_in hands)) + weigh w cells ≡ weigh w roots
  open_shared w shared =
      let all = left_shared w shared in
      let c : weigh w (cells_of (leaves_in hands)) ≡ all_closed w hands = closed_in hands in
      let k = weigh_flat_map w (λ (h : HandSeen). h.kept) hands in
      let whole = ap (weigh w) open_cells in
      omega (arith, all, c, k, whole, weigh_append w (kept_in hands) (left_of hands cells))
    where
      closed_in : (hs : List HandSeen) → weigh w (cells_of (leaves_in hs)) ≡ all_closed w hs
      closed_in [] = refl
      closed_in (h ∷ hs) =
          ap (weigh w) (map-append (λ (l : Leaf). l.cell) h.closed (leaves_in hs)) ∙ weigh_append w (cells_of h.closed) (cells_of (leaves_in hs)) ∙
          ap (λ k. weigh w (cells_of h.closed) + k) (closed_in hs)

  -- each half that was split off is a leaf or a cell more
  pub open_splits : weigh (λ h. h.share.count.firsts) hands + length roots ≡ length (leaves_in hands) + length cells
  open_splits =
      let q = left_queues (λ _. 1) in
      let f = all_firsts case roots n hands accounts in
      let whole = ap length open_cells in
      omega (arith, q, f, whole, weigh_one roots, weigh_one (left_of hands cells), length-append (kept_in hands) (left_of hands cells))

  pub open_closes : weigh (λ h. h.share.count.closes + h.uncounted) hands ≡ length (leaves_in hands)
  open_closes = all_closes case roots n hands accounts

-- no cell was lost or made twice
pub are_left : (r : RefinerySeen) (case : PlainProblem) (hands : List HandSeen) (cells : List Cell) → 0 < r.hands →
    Each (Accounts case r.roots r.hands) hands → numbers_of hands ≡ range_with_len 0 r.hands → AreOpen hands cells →
    AreLeft r hands (left_of hands cells)
are_left r case hands cells some accounts numbers are = record {
  queues = left_queues case r.roots r.hands hands cells some accounts numbers are;
  ticks = λ a b m.
      let all = left_shared case r.roots r.hands hands cells some accounts numbers are (has a b m) (has_shared case a b m) in
      let both = weigh_add (λ (h : HandSeen). weigh (has a b m) (cells_of h.closed)) (λ (h : HandSeen). weigh (has a b m) h.kept) hands in
      omega (arith, all, both);
}
