-- Steps between states, apart from how a program keeps them.
use Rattle.std.proofs.Common.{◌≡◌, ℕ, zero, suc, ◌+◌, ◌-◌, ◌<◌, ◌≤◌, Bool, true, false, ◌&&◌, ◌||◌, List, [], ◌∷◌, ◌++◌, map, length, get_or, take, drop, refl, ap, sym, ◌∙◌, subst, arith}
use Rattle.std.specs.Prelude.{nat_lt, nat_le}
use Rattle.std.specs.List.{list_any}
use Rattle.std.proofs.lemmas.Bool.Decides.{nat_tests}
use Rattle.std.proofs.lemmas.List.{drop_more, drop_all}
use Rattle.cj_base.specs.LeapSeconds.{leap_days, leap_lies_between, tick_after}
use Rattle.cj_track.specs.declared.node.Node.{Node}
use Rattle.cj_track.specs.Limits.{MAX_STEP}
use Rattle.cj_track.specs.Nodes.{IsStep, AreSteps}
use Rattle.cj_track.specs.PlainTracks.{PlainNode}
use Rattle.cj_track.specs.Tracks.{plain_node}
use Rattle.cj_track.specs.Useable.{last_tick}
use Rattle.cj_hermite.specs.Interpolant.{Curve, IsOver}
use Rattle.cj_thin.specs.Thinned.{are_near, all_near, last_of, curve_between}

-- the second comes after the first, at most an hour later, with no leap second between
pub record IsPlainStep (a b : PlainNode) : Type 0 where
  pub rises : a.at < b.at
  pub short : b.at ≤ a.at + MAX_STEP
  pub steady : leap_lies_between a.at b.at ≡ false

-- each state is a step from the one before
abbrev pub ArePlainSteps : List PlainNode → Type 0
ArePlainSteps [] = Unit {0}
ArePlainSteps (a ∷ []) = Unit {0}
ArePlainSteps (a ∷ b ∷ nodes) = IsPlainStep a b × ArePlainSteps (b ∷ nodes)

pub plain_steps : (nodes : List Node) → AreSteps nodes → ArePlainSteps (map plain_node nodes)
plain_steps [] h = tt
plain_steps (a ∷ []) h = tt
plain_steps (a ∷ b ∷ nodes) h = let s = h.0 in (record { rises = s.rises; short = s.short; steady = s.steady }, plain_steps (b ∷ nodes) h.1)

pub steps_from_plain : (nodes : List Node) → ArePlainSteps (map plain_node nodes) → AreSteps nodes
steps_from_plain [] h = tt
steps_from_plain (a ∷ []) h = tt
steps_from_plain (a ∷ b ∷ nodes) h = let s = h.0 in (record { rises = s.rises; short = s.short; steady = s.steady }, steps_from_plain (b ∷ nodes) h.1)

-- ---- leap seconds

-- a number lies above low, and not above high
abbrev is_within : ℕ → ℕ → ℕ → Bool
is_within low high n = nat_lt low n && nat_le n high

or_false : (a b : Bool) → (a || b) ≡ false → (a ≡ false) × (b ≡ false)
or_false true b h = absurd cc
or_false false b h = (refl, h)

both_false : (a b : Bool) → a ≡ false → b ≡ false → (a || b) ≡ false
both_false a b p q = rw (p, q) refl

one_through : (a b c t : ℕ) → is_within a b t ≡ false → is_within b c t ≡ false → is_within a c t ≡ false
one_through a b c t h k = grind (arith, nat_tests)

none_through : (a b c : ℕ) (ts : List ℕ) → list_any (is_within a b) ts ≡ false → list_any (is_within b c) ts ≡ false → list_any (is_within a c) ts ≡ false
none_through a b c [] h k = refl
none_through a b c (t ∷ ts) h k =
    let p = or_false (is_within a b t) (list_any (is_within a b) ts) h in
    let q = or_false (is_within b c t) (list_any (is_within b c) ts) k in
    both_false (is_within a c t) (list_any (is_within a c) ts) (one_through a b c t p.0 q.0) (none_through a b c ts p.1 q.1)

-- no leap second lies between two ticks where none lies between either and a third
pub no_leap_through : (a b c : ℕ) → leap_lies_between a b ≡ false → leap_lies_between b c ≡ false → leap_lies_between a c ≡ false
unfolding leap_lies_between
no_leap_through a b c h k = none_through a b c (map tick_after leap_days) h k

-- ---- over several states

-- a later state, with no leap second between
pub record IsLater (a b : PlainNode) : Type 0 where
  pub rises : a.at < b.at
  pub steady : leap_lies_between a.at b.at ≡ false

pub later_through : (a b c : PlainNode) → IsPlainStep a b → IsLater b c → IsLater a c
later_through a b c h k = record { rises = omega (arith, h.rises, k.rises); steady = no_leap_through a.at b.at c.at h.steady k.steady }

-- of states the one behind those that are left out is later, and the steps go on from there
pub steps_behind : (a b : PlainNode) (out xs : List PlainNode) → ArePlainSteps (a ∷ (out ++ b ∷ xs)) → ArePlainSteps (b ∷ xs)
steps_behind a b [] xs h = h.1
steps_behind a b (c ∷ out) xs h = steps_behind c b out xs h.1

pub later_behind : (a b : PlainNode) (out xs : List PlainNode) → ArePlainSteps (a ∷ (out ++ b ∷ xs)) → IsLater a b
later_behind a b [] xs h = let s = h.0 in record { rises = s.rises; steady = s.steady }
later_behind a b (c ∷ out) xs h = later_through a c b h.0 (later_behind c b out xs h.1)

pub steps_until : (a b : PlainNode) (out xs : List PlainNode) → ArePlainSteps (a ∷ (out ++ b ∷ xs)) → ArePlainSteps (a ∷ (out ++ b ∷ []))
steps_until a b [] xs h = (h.0, tt)
steps_until a b (c ∷ out) xs h = (h.0, steps_until c b out xs h.1)

pub last_behind_out : (a b : PlainNode) (out xs : List PlainNode) → last_of a (out ++ b ∷ xs) ≡ last_of b xs
last_behind_out a b [] xs = refl
last_behind_out a b (c ∷ out) xs = last_behind_out c b out xs

-- the last of states is none before the first
pub upto_last : (a : PlainNode) (path : List PlainNode) → ArePlainSteps (a ∷ path) → a.at ≤ (last_of a path).at
upto_last a [] h = omega arith
upto_last a (b ∷ path) h = let s = h.0 in let rest = upto_last b path h.1 in omega (arith, s.rises, rest)

-- ---- nodes of a program

pub last_is : (a : Node) (path : List Node) → (last_of (plain_node a) (map plain_node path)).at ≡ last_tick a.at.micros path
last_is a [] = refl
last_is a (b ∷ path) = last_is b path

pub last_node : (a : Node) (path : List Node) (d : Node) → 1 ≤ length path → last_of (plain_node a) (map plain_node path) ≡ plain_node (get_or path (length path - 1) d)
last_node a [] d some = absurd (omega (arith, some))
last_node a (b ∷ path) d some = end b path (length (b ∷ path) - 1) d (omega arith)
  where
    end : (b : Node) (path : List Node) (i : ℕ) (d : Node) → i ≡ length path → last_of (plain_node b) (map plain_node path) ≡ plain_node (get_or (b ∷ path) i d)
    end b [] zero d e = refl
    end b [] (suc i) d e = absurd (omega (arith, e))
    end b (c ∷ path) zero d e = absurd (omega (arith, e))
    end b (c ∷ path) (suc i) d e = end c path i d (omega (arith, e))

pub steps_from : (i : ℕ) (nodes : List Node) → AreSteps nodes → AreSteps (drop i nodes)
steps_from zero nodes h = h
steps_from (suc i) [] h = tt
steps_from (suc i) (a ∷ []) h = steps_from i [] tt
steps_from (suc i) (a ∷ b ∷ nodes) h = steps_from i (b ∷ nodes) h.1

pub steps_upto : (i : ℕ) (a : Node) (nodes : List Node) → AreSteps (a ∷ nodes) → AreSteps (a ∷ take i nodes)
steps_upto zero a nodes h = tt
steps_upto (suc i) a [] h = tt
steps_upto (suc i) a (b ∷ nodes) h = (h.0, steps_upto i b nodes h.1)

-- ---- places in a list of nodes

pub drop_next : (i : ℕ) (nodes : List Node) (x : Node) → i < length nodes → x ≡ get_or nodes i x → drop i nodes ≡ x ∷ drop (i + 1) nodes
drop_next i nodes x lt is = drop_more nodes i x lt ∙ ap (λ (y : Node). y ∷ drop (i + 1) nodes) (sym is)

pub upto_end : (a : Node) (path : List Node) → AreSteps (a ∷ path) → a.at.micros ≤ last_tick a.at.micros path
upto_end a [] h = omega arith
upto_end a (b ∷ path) h = let s = h.0 in let rest = upto_end b path h.1 in omega (arith, s.rises, rest)

-- a step to the last of the nodes behind one
pub record IsEnd (a : Node) (path : List Node) (t : Node) : Type 0 where
  pub later : a.at.micros < t.at.micros
  pub tick : last_tick a.at.micros path ≡ t.at.micros
  pub state : last_of (plain_node a) (map plain_node path) ≡ plain_node t

pub end_is : (a : Node) (path : List Node) (t : Node) → AreSteps (a ∷ path) → 1 ≤ length path → t ≡ get_or path (length path - 1) t → IsEnd a path t
end_is a [] t steps some is = absurd (omega (arith, some))
end_is a (b ∷ path) t steps some is =
    let state : last_of (plain_node a) (map plain_node (b ∷ path)) ≡ plain_node t = last_node a (b ∷ path) t some ∙ ap plain_node (sym is) in
    let tick : last_tick a.at.micros (b ∷ path) ≡ t.at.micros = sym (last_is a (b ∷ path)) ∙ ap (λ (x : PlainNode). x.at) state in
    let s = steps.0 in
    let rest = upto_end b path steps.1 in
    record { later = omega (arith, s.rises, rest, tick); tick = tick; state = state }

-- a node and some of those behind it
pub rest_steps : (at n : ℕ) (nodes : List Node) (x : Node) → at < length nodes → x ≡ get_or nodes at x → AreSteps nodes → AreSteps (x ∷ take n (drop (at + 1) nodes))
rest_steps at n nodes x lt is steps = steps_upto n x (drop (at + 1) nodes) (subst AreSteps (drop_next at nodes x lt is) (steps_from at nodes steps))

-- the interpolant of the step gives a place from the first node to the last
pub step_over : (c : Curve) (a t : Node) (path : List Node) → IsEnd a path t → c ≡ curve_between (plain_node a) (plain_node t) → IsOver c a.at.micros (last_tick a.at.micros path)
step_over c a t path end is =
    subst (λ (d : Curve). IsOver d a.at.micros (last_tick a.at.micros path)) (sym is)
    (record { some = omega (arith, end.later); from = omega arith; to = omega (arith, end.later, end.tick) })

-- ---- piece by piece

-- the first of the pieces from a node on, and those behind it
first_piece : (e at : ℕ) (c d : Curve) (a b : Node) (path : List Node) (r : Bool) → at < length path → b ≡ get_or path at b → c ≡ curve_between (plain_node a) (plain_node b) →
    r ≡ are_near e c d a.at.micros b.at.micros →
    all_near e d (plain_node a ∷ map plain_node (drop at path)) ≡ (r && all_near e d (plain_node b ∷ map plain_node (drop (at + 1) path)))
unfolding all_near
first_piece e at c d a b path r lt is curve near =
    let rest = all_near e d (plain_node b ∷ map plain_node (drop (at + 1) path)) in
    ap (λ (ns : List Node). all_near e d (plain_node a ∷ map plain_node ns)) (drop_next at path b lt is)
    ∙ ap (λ (x : Curve). are_near e x d a.at.micros b.at.micros && rest) (sym curve)
    ∙ ap (λ (x : Bool). x && rest) (sym near)

-- where it stays near those behind it decide, and else it does
pub pieces_more : (e at : ℕ) (c d : Curve) (a b : Node) (path : List Node) (r whole : Bool) → at < length path → b ≡ get_or path at b → c ≡ curve_between (plain_node a) (plain_node b) →
    r ≡ are_near e c d a.at.micros b.at.micros → all_near e d (plain_node a ∷ map plain_node (drop at path)) ≡ whole → r ≡ true →
    all_near e d (plain_node b ∷ map plain_node (drop (at + 1) path)) ≡ whole
pieces_more e at c d a b path r whole lt is curve near told own =
    let rest = all_near e d (plain_node b ∷ map plain_node (drop (at + 1) path)) in
    ap (λ (x : Bool). x && rest) (sym own) ∙ sym (first_piece e at c d a b path r lt is curve near) ∙ told

pub pieces_end : (e at : ℕ) (c d : Curve) (a b : Node) (path : List Node) (r whole : Bool) → at < length path → b ≡ get_or path at b → c ≡ curve_between (plain_node a) (plain_node b) →
    r ≡ are_near e c d a.at.micros b.at.micros → all_near e d (plain_node a ∷ map plain_node (drop at path)) ≡ whole → r ≡ false → false ≡ whole
pieces_end e at c d a b path r whole lt is curve near told own =
    let rest = all_near e d (plain_node b ∷ map plain_node (drop (at + 1) path)) in
    ap (λ (x : Bool). x && rest) (sym own) ∙ sym (first_piece e at c d a b path r lt is curve near) ∙ told

-- once none is left
pub pieces_all : (e at : ℕ) (d : Curve) (a : Node) (path : List Node) (whole : Bool) → length path ≤ at → all_near e d (plain_node a ∷ map plain_node (drop at path)) ≡ whole → true ≡ whole
unfolding all_near
pieces_all e at d a path whole le told = ap (λ (ns : List Node). all_near e d (plain_node a ∷ map plain_node ns)) (sym (drop_all at path le)) ∙ told

-- how a walk over the nodes behind one goes on
pub record IsUnderway (a b : Node) (at end : ℕ) (path : List Node) : Type 0 where
  pub step : IsStep a b
  pub steps : AreSteps (b ∷ drop (at + 1) path)
  pub to : last_tick b.at.micros (drop (at + 1) path) ≡ end
  pub within : b.at.micros ≤ end

pub underway : (a b : Node) (at end : ℕ) (path : List Node) → at < length path → b ≡ get_or path at b → AreSteps (a ∷ drop at path) → last_tick a.at.micros (drop at path) ≡ end → IsUnderway a b at end path
underway a b at end path lt is steps to =
    let more : drop at path ≡ b ∷ drop (at + 1) path = drop_next at path b lt is in
    let all : AreSteps (a ∷ b ∷ drop (at + 1) path) = subst (λ (ns : List Node). AreSteps (a ∷ ns)) more steps in
    let ends : last_tick b.at.micros (drop (at + 1) path) ≡ end = sym (ap (λ (ns : List Node). last_tick a.at.micros ns) more) ∙ to in
    record { step = all.0; steps = all.1; to = ends; within = omega (arith, upto_end b (drop (at + 1) path) all.1, ends) }
