-- Each step on a deque keeps its balance.
use Rattle.std.proofs.Common.{◌≡◌, ◌≢◌, ℕ, zero, suc, ◌<◌, ◌≤◌, List, [], ◌∷◌, ◌++◌, set, refl, sym, ap, ◌∙◌, subst, ⊎_elim, arith}
use mathlib.Core.Option.{some, some-ne-none, some-injective}
use lib.ListN.{get_elem?}
use Rattle.crossbeam_deque.specs.Tasks.{Pushes, Takes, Finds, Forks, Merges, Learns}
use Rattle.crossbeam_deque.proofs.Lists.{at_set, at_snoc, set_else}
use Rattle.cj_case.specs.declared.cell.Cell.{Cell}
use Rattle.cj_pool.specs.declared.account.Account.{Account}
use Rattle.cj_pool.specs.Accounts.{nobody, whole, Fits, Balanced, with_opening, with_pushed, with_taken, less_a_part, new_pass, both, AreLeft, Settled}
use Rattle.cj_pool.specs.Weights.{weigh}
use Rattle.cj_pool.proofs.WeightLemmas.{weigh_append, weigh_snoc, weigh_set}

-- each of these accounts fits
abbrev AllFit : ℕ → List Account → Type 0
AllFit n vs = (i : ℕ) (v : Account) → get_elem? vs i ≡ some v → Fits n v

fit_set : (n : ℕ) (vs : List Account) (i : ℕ) (w : Account) → Fits n w → AllFit n vs → AllFit n (set vs i w)
fit_set n vs i w mine others j u e =
    ⊎_elim
    (λ (x : (j ≡ i) × (w ≡ u)). subst (Fits n) x.1 mine)
    (λ (x : (j ≢ i) × (get_elem? vs j ≡ some u)). others j u x.1)
    (at_set vs i j w u e)

fit_snoc : (n : ℕ) (vs : List Account) (w : Account) → Fits n w → AllFit n vs → AllFit n (vs ++ w ∷ [])
fit_snoc n vs w mine others j u e = ⊎_elim (λ x. others j u x) (λ (x : w ≡ u). subst (Fits n) x mine) (at_snoc vs w u j e)

nobody_fits : (n : ℕ) → Fits n nobody
nobody_fits n = record { spent = λ _. refl; owner = λ h. absurd (omega arith); guest = λ _. (refl, refl) }

-- an account that fits, with other parts of the same deque
fits_as : (n : ℕ) (v w : Account) → 0 < w.parts → w.all ≡ v.all → (w.all ≡ 0 → (w.opening ≡ []) × (w.pushed ≡ [])) → Fits n v → Fits n w
fits_as n v w some_part all guest fit = record {
  spent = λ none. absurd (omega arith);
  owner = λ owns. all ∙ fit.owner (omega (arith, owns, all));
  guest = guest;
}

-- accounts without parts weigh nothing
all_zero : (f : Account → ℕ) (vs : List Account) → f nobody ≡ 0 → ((j : ℕ) (u : Account) → get_elem? vs j ≡ some u → u.parts ≡ 0 → u ≡ nobody) → weigh (λ u. u.parts) vs ≡ 0 → weigh f vs ≡ 0
all_zero f [] none idle zero_parts = refl
all_zero f (x ∷ xs) none idle zero_parts =
    let here : f x ≡ 0 = ap f (idle 0 x refl (omega arith)) ∙ none in
    let rest = all_zero f xs none (λ j u e. idle (suc j) u e) (omega arith) in omega arith

-- who has all parts has done all
alone : (f : Account → ℕ) (n : ℕ) (vs : List Account) (i : ℕ) (v : Account) → f nobody ≡ 0 → get_elem? vs i ≡ some v → AllFit n vs → weigh (λ u. u.parts) vs ≡ v.parts → weigh f vs ≡ f v
alone f n vs i v none at idle whole_parts =
    let others = fit_set n vs i nobody (nobody_fits n) idle in
    let parts = weigh_set (λ u. u.parts) vs i v nobody at in
    let rest = all_zero f (set vs i nobody) none (λ j u e. (others j u e).spent) (omega arith) in
    let mine = weigh_set f vs i v nobody at in omega arith

-- accounts of guests weigh nothing by what was opened and pushed
guests_zero : (n : ℕ) (f : Account → ℕ) (vs : List Account) → ((u : Account) → u.opening ≡ [] → u.pushed ≡ [] → f u ≡ 0) → AllFit n vs → weigh (λ u. u.all) vs ≡ 0 → weigh f vs ≡ 0
guests_zero n f [] nothing fit guests = refl
guests_zero n f (x ∷ xs) nothing fit guests =
    let none = (fit 0 x refl).guest (omega arith) in
    let here : f x ≡ 0 = nothing x none.0 none.1 in
    let rest = guests_zero n f xs nothing (λ j u e. fit (suc j) u e) (omega arith) in omega arith

-- the owner has opened and pushed all
owner_all : (n : ℕ) (f : Account → ℕ) (vs : List Account) (i : ℕ) (v : Account) → ((u : Account) → u.opening ≡ [] → u.pushed ≡ [] → f u ≡ 0) → 0 < v.all
    → get_elem? vs i ≡ some v → AllFit n vs → weigh (λ u. u.all) vs ≡ n → weigh f vs ≡ f v
owner_all n f vs i v nothing owns at fit one =
    let others = fit_set n vs i nobody (nobody_fits n) fit in
    let owners = weigh_set (λ u. u.all) vs i v nobody at in
    let mine = (fit i v at).owner owns in
    let rest = guests_zero n f (set vs i nobody) nothing others (omega arith) in
    let none : f nobody ≡ 0 = nothing nobody refl refl in
    let here = weigh_set f vs i v nobody at in omega arith

-- what one account weighs is part of what all weigh
one_of_all : (f : Account → ℕ) (vs : List Account) (i : ℕ) (v : Account) → get_elem? vs i ≡ some v → f v ≤ weigh f vs
one_of_all f [] i v at = absurd (some-ne-none v (sym at))
one_of_all f (x ∷ xs) zero v at = let same = some-injective x v at in subst (λ (u : Account). f u ≤ weigh f (x ∷ xs)) same (omega arith)
one_of_all f (x ∷ xs) (suc i) v at = let rest = one_of_all f xs i v at in omega (arith, rest)

-- beside the owner there are guests
is_guest : (n : ℕ) (vs : List Account) (i : ℕ) (v : Account) (j : ℕ) (w : Account) → 0 < v.all → get_elem? vs i ≡ some v → AllFit n vs → weigh (λ u. u.all) vs ≡ n
    → j ≢ i → get_elem? vs j ≡ some w → w.all ≡ 0
is_guest n vs i v j w owns at fit one other there =
    let owners = weigh_set (λ u. u.all) vs i v nobody at in
    let mine = (fit i v at).owner owns in
    let within = one_of_all (λ u. u.all) (set vs i nobody) j w (set_else vs i j nobody other ∙ there) in omega arith

pub begins : (n : ℕ) → 0 < n → Balanced n [] (whole n ∷ [])
begins n some_part = record { parts = omega arith; owner = omega arith; weights = λ w. omega arith; idle = one }
  where
    one : AllFit n (whole n ∷ [])
    one zero u e = subst (Fits n) (some-injective (whole n) u e) (record { spent = λ none. absurd (omega arith); owner = λ _. refl; guest = λ _. (refl, refl) })
    one (suc j) u e = absurd (some-ne-none u (sym e))

pub opens : (n port : ℕ) (v : Account) (cells : List Cell) → 0 < v.parts → 0 < v.all → Pushes (Balanced n) port v cells (λ w. w ≡ with_opening v cells)
opens n port v cells some_part owns items views b at =
    let w = with_opening v cells in (
      w,
      record {
        parts = (let p = weigh_set (λ u. u.parts) views port v w at in let q = b.parts in omega arith);
        owner = (let p = weigh_set (λ u. u.all) views port v w at in let q = b.owner in omega arith);
        weights = λ h.
            let o = weigh_set (λ u. weigh h u.opening) views port v w at in
            let s = weigh_set (λ u. weigh h u.pushed) views port v w at in
            let t = weigh_set (λ u. weigh h u.taken) views port v w at in
            let k = b.weights h in
            omega (arith, weigh_append h v.opening cells, weigh_append h items cells);
        idle = fit_set n views port w (fits_as n v w some_part refl (λ none. absurd (omega arith)) (b.idle port v at)) b.idle;
      },
      refl,
    )

pub puts : (n port : ℕ) (v : Account) (cells : List Cell) → 0 < v.parts → 0 < v.all → Pushes (Balanced n) port v cells (λ w. w ≡ with_pushed v cells)
puts n port v cells some_part owns items views b at =
    let w = with_pushed v cells in (
      w,
      record {
        parts = (let p = weigh_set (λ u. u.parts) views port v w at in let q = b.parts in omega arith);
        owner = (let p = weigh_set (λ u. u.all) views port v w at in let q = b.owner in omega arith);
        weights = λ h.
            let o = weigh_set (λ u. weigh h u.opening) views port v w at in
            let s = weigh_set (λ u. weigh h u.pushed) views port v w at in
            let t = weigh_set (λ u. weigh h u.taken) views port v w at in
            let k = b.weights h in
            omega (arith, weigh_append h v.pushed cells, weigh_append h items cells);
        idle = fit_set n views port w (fits_as n v w some_part refl (λ none. absurd (omega arith)) (b.idle port v at)) b.idle;
      },
      refl,
    )

pub takes : (n port : ℕ) (v : Account) (most : ℕ) → 0 < v.parts → Takes (Balanced n) port v most (λ cells w. w ≡ with_taken v cells)
takes n port v most some_part cells items views _ _ b at =
    let w = with_taken v cells in (
      w,
      record {
        parts = (let p = weigh_set (λ u. u.parts) views port v w at in let q = b.parts in omega arith);
        owner = (let p = weigh_set (λ u. u.all) views port v w at in let q = b.owner in omega arith);
        weights = λ h.
            let o = weigh_set (λ u. weigh h u.opening) views port v w at in
            let s = weigh_set (λ u. weigh h u.pushed) views port v w at in
            let t = weigh_set (λ u. weigh h u.taken) views port v w at in
            let k = b.weights h in
            omega (arith, weigh_append h v.taken cells, weigh_append h cells items);
        idle = fit_set n views port w (fits_as n v w some_part refl (b.idle port v at).guest (b.idle port v at)) b.idle;
      },
      refl,
    )

pub learns : (n port : ℕ) (v : Account) → 0 < v.parts → Learns (Balanced n) port v (Settled v)
learns n port v some_part items views b at is_whole h =
    let same : weigh (λ u. u.parts) views ≡ v.parts = b.parts ∙ sym (is_whole ∙ (b.idle port v at).owner (omega (arith, is_whole, some_part))) in
    let o = alone (λ u. weigh h u.opening) n views port v refl at b.idle same in
    let s = alone (λ u. weigh h u.pushed) n views port v refl at b.idle same in
    let t = alone (λ u. weigh h u.taken) n views port v refl at b.idle same in
    let k = b.weights h in omega arith

-- what is left in the deque, the owner has opened or pushed, and has not taken
pub owner_learns : (n port : ℕ) (v : Account) → 0 < v.all → Learns (Balanced n) port v (AreLeft v)
owner_learns n port v owns items views b at h =
    let o = owner_all n (λ u. weigh h u.opening) views port v (λ u opening pushed. ap (weigh h) opening) owns at b.idle b.owner in
    let s = owner_all n (λ u. weigh h u.pushed) views port v (λ u opening pushed. ap (weigh h) pushed) owns at b.idle b.owner in
    let t = one_of_all (λ u. weigh h u.taken) views port v at in
    let k = b.weights h in omega arith

pub finds : (n port : ℕ) (v : Account) → 0 < v.parts → Finds (Balanced n) port v (Settled v [])
finds n port v some_part views b at = learns n port v some_part [] views b at

pub forks : (n port : ℕ) (v : Account) → 1 < v.parts → Forks (Balanced n) port v (less_a_part v) (new_pass v)
forks n port v two items views b at =
    let l = less_a_part v in
    let r = new_pass v in
    record {
      parts = (let p = weigh_set (λ u. u.parts) views port v l at in let q = weigh_snoc (λ u. u.parts) (set views port l) r in let k = b.parts in omega arith);
      owner = (let p = weigh_set (λ u. u.all) views port v l at in let q = weigh_snoc (λ u. u.all) (set views port l) r in let k = b.owner in omega arith);
      weights = λ h.
          let o = weigh_set (λ u. weigh h u.opening) views port v l at in
          let s = weigh_set (λ u. weigh h u.pushed) views port v l at in
          let t = weigh_set (λ u. weigh h u.taken) views port v l at in
          let o' = weigh_snoc (λ u. weigh h u.opening) (set views port l) r in
          let s' = weigh_snoc (λ u. weigh h u.pushed) (set views port l) r in
          let t' = weigh_snoc (λ u. weigh h u.taken) (set views port l) r in
          let k = b.weights h in omega arith;
      idle = fit_snoc n (set views port l) r (record { spent = λ none. absurd (omega arith); owner = λ owns. absurd (omega arith); guest = λ _. (refl, refl) })
          (fit_set n views port l (fits_as n v l (omega arith) refl (b.idle port v at).guest (b.idle port v at)) b.idle);
    }

pub merges : (n port : ℕ) (v : Account) (other : ℕ) (w : Account) → 0 < v.parts → 0 < v.all → Merges (Balanced n) port v other w (both v w) nobody
merges n port v other w some_part owns items views b at two there =
    let c = both v w in
    let mid = set views port c in
    let fit = fit_set n views port c (fits_as n v c (omega arith) refl (λ none. absurd (omega arith)) (b.idle port v at)) b.idle in
    let owners = weigh_set (λ u. u.all) views port v c at in
    let gone = weigh_set (λ u. u.all) mid other w nobody there in
    let guest = is_guest n views port v other w owns at b.idle b.owner two (sym (set_else views port other c two) ∙ there) in
    record {
      parts = (let p = weigh_set (λ u. u.parts) views port v c at in let q = weigh_set (λ u. u.parts) mid other w nobody there in let k = b.parts in omega arith);
      owner = omega (arith, owners, gone, b.owner, guest);
      weights = λ h.
          let o = weigh_set (λ u. weigh h u.opening) views port v c at in
          let s = weigh_set (λ u. weigh h u.pushed) views port v c at in
          let t = weigh_set (λ u. weigh h u.taken) views port v c at in
          let o' = weigh_set (λ u. weigh h u.opening) mid other w nobody there in
          let s' = weigh_set (λ u. weigh h u.pushed) mid other w nobody there in
          let t' = weigh_set (λ u. weigh h u.taken) mid other w nobody there in
          let k = b.weights h in
          omega (arith, weigh_append h v.opening w.opening, weigh_append h v.pushed w.pushed, weigh_append h v.taken w.taken);
      idle = fit_set n mid other nobody (nobody_fits n) fit;
    }
