-- Encounters of leaves that grow at their end.
use Rattle.std.proofs.Common.{◌≡◌, ℕ, ◌+◌, ◌-◌, ◌<◌, ◌≤◌, ◌==◌, Bool, true, false, ◌&&◌, ◌||◌, cond, List, [], ◌∷◌, ◌++◌, length, get_or, take, drop, set, zero, suc, eqb-true, Some, None, slice_get, append_assoc, ⊎_elim, refl, sym, subst, take_all, ◌∙◌, ap, arith, length-append, length-take, get_or-take}
use Rattle.std.proofs.lemmas.Bool.{and_parts, cases_lt}
use Rattle.std.proofs.lemmas.List.{take-append-le, take_more, get_or_push, get_or_append_left, map_push, set_split, drop_all, get_or-map, length-map, take-map, drop-map}
use Rattle.std.proofs.lemmas.List.Edits.{between_more, between_none, length-between, get_or-between}
use Rattle.std.proofs.lemmas.List.Elements.{All-nil, All-cons, All-head, All-tail, All-push, All-pop, All-weaker, All-take}
use Rattle.std.proofs.lemmas.List.Folds.{list_any-append}
use Rattle.std.proofs.lemmas.Option.{slice_get_within, get_or_from_slice_get}
use Rattle.std.proofs.lemmas.Slice.{between_is}
use Rattle.std.specs.Prelude.{All, slice_range}
use Rattle.std.specs.List.{list_any}
use Rattle.cj_case.specs.declared.encounter.Encounter.{Encounter}
use Rattle.cj_case.specs.declared.encounter.Mark.TheVariants as mark
use Rattle.cj_case.specs.Leaves.{PlainLeaf, plain_leaf, plain_leaves}
use Rattle.cj_case.specs.declared.leaf.Leaf.{Leaf}
use Rattle.cj_meet.proofs.SpanLemmas.{leaves_have_ticks}
use Rattle.cj_case.specs.Order.{AreInOrder, HaveTicks, IsBefore}
use Rattle.cj_meet.specs.Encounters.{is_far, is_near, follows, with_front, encounters_of, first_object, second_object, first_tick, last_tick, mark_of, is_near_mark, leaves_in, groups_in, Describes, AreEncounters}

-- whether a leaf goes on where these end
abbrev pub ends : List PlainLeaf → PlainLeaf → Bool
ends [] x = true
ends (s ∷ []) x = follows s x
ends (s ∷ t ∷ ss) x = ends (t ∷ ss) x

-- a leaf behind encounters: it joins the last of them where it goes on from there, else it is one of its own
abbrev pub with_back : PlainLeaf → List (List PlainLeaf) → List (List PlainLeaf)
with_back x [] = (x ∷ []) ∷ []
with_back x (g ∷ []) = cond (ends g x) ((g ++ x ∷ []) ∷ []) (g ∷ (x ∷ []) ∷ [])
with_back x (g ∷ h ∷ gs) = g ∷ with_back x (h ∷ gs)

-- one leaf in front and one behind can be put there in either order
with_back-with_front : (s x : PlainLeaf) (gs : List (List PlainLeaf)) → with_back x (with_front s gs) ≡ with_front s (with_back x gs)
with_back-with_front s x [] = elim (follows s x) as (λ b. cond b ((s ∷ x ∷ []) ∷ []) ((s ∷ []) ∷ (x ∷ []) ∷ []) ≡ cond b ((s ∷ x ∷ []) ∷ []) ((s ∷ []) ∷ (x ∷ []) ∷ [])) [ true ↦ refl | false ↦ refl ]
with_back-with_front s x ([] ∷ []) = refl
with_back-with_front s x ([] ∷ h ∷ gs) = refl
with_back-with_front s x ((t ∷ ts) ∷ []) = grind arith
with_back-with_front s x ((t ∷ ts) ∷ h ∷ gs) = grind arith

-- a far leaf behind the others adds nothing
encounters_of-far : (ss : List PlainLeaf) (x : PlainLeaf) → is_far x ≡ true → encounters_of (ss ++ x ∷ []) ≡ encounters_of ss
encounters_of-far [] x far = grind arith
encounters_of-far (s ∷ ss) x far = rw (encounters_of-far ss x far) refl

-- any other one goes behind the encounters
encounters_of-with_back : (ss : List PlainLeaf) (x : PlainLeaf) → is_far x ≡ false → encounters_of (ss ++ x ∷ []) ≡ with_back x (encounters_of ss)
encounters_of-with_back [] x far = grind arith
encounters_of-with_back (s ∷ ss) x far =
    rw (encounters_of-with_back ss x far)
    (elim (is_far s) as (λ b. cond b (with_back x (encounters_of ss)) (with_front s (with_back x (encounters_of ss))) ≡ with_back x (cond b (encounters_of ss) (with_front s (encounters_of ss))))
    [ true ↦ refl | false ↦ sym (with_back-with_front s x (encounters_of ss)) ])

-- behind several encounters it joins the last, or follows it
with_back-last : (x : PlainLeaf) (gs : List (List PlainLeaf)) (g : List PlainLeaf) → with_back x (gs ++ g ∷ []) ≡ gs ++ with_back x (g ∷ [])
with_back-last x [] g = refl
with_back-last x (h ∷ []) g = refl
with_back-last x (h ∷ i ∷ gs) g = ap (λ l. h ∷ l) (with_back-last x (i ∷ gs) g)

-- the leaves of an encounter stay when more come behind
leaves_in-more : (ss ts : List PlainLeaf) (e : Encounter) → e.past ≤ length ss → leaves_in (ss ++ ts) e ≡ leaves_in ss e
leaves_in-more ss ts e h = between_is (ss ++ ts) e.leaf e.past ∙ (ap (drop e.leaf) (take-append-le e.past ss ts h) ∙ sym (between_is ss e.leaf e.past))

Describes-more : (ss ts : List PlainLeaf) (e : Encounter) → Describes ss e → Describes (ss ++ ts) e
Describes-more ss ts e d =
    let same = leaves_in-more ss ts e d.within in
    record {
      within = omega (arith, length-append ss ts, d.within);
      objects = rw same d.objects;
      first = rw same d.first;
      last = rw same d.last;
      mark = rw same d.mark;
    }

groups_in-more : (ss ts : List PlainLeaf) (es : List Encounter) → All (Describes ss) es → groups_in (ss ++ ts) es ≡ groups_in ss es
groups_in-more ss ts [] d = refl
groups_in-more ss ts (e ∷ es) d =
    let here = All-head (Describes ss) e es d in
    rw (leaves_in-more ss ts e here.within) (ap (λ l. leaves_in ss e ∷ l) (groups_in-more ss ts es (All-tail (Describes ss) e es d)))

-- a far leaf leaves the encounters as they are
pub encounters_past_far : (ss : List PlainLeaf) (x : PlainLeaf) (es : List Encounter) → is_far x ≡ true → AreEncounters ss es → AreEncounters (ss ++ x ∷ []) es
encounters_past_far ss x es far before = record {
  groups = groups_in-more ss (x ∷ []) es before.described ∙ (before.groups ∙ sym (encounters_of-far ss x far));
  described = All-weaker (Describes ss) (Describes (ss ++ x ∷ [])) (Describes-more ss (x ∷ [])) es before.described;
}

-- what a test of the encounter's end says of a leaf
abbrev pub goes_on : Encounter → PlainLeaf → Bool
goes_on e x = e.pair.a == x.a && (e.pair.b == x.b && e.last.micros + 1 == x.first)

-- a leaf goes on where these end if it does so by their objects and their last tick
ends-told : (a b : ℕ) (g : List PlainLeaf) (x : PlainLeaf) → 0 < length g → All (λ s. (s.a ≡ a) × (s.b ≡ b)) g →
    ends g x ≡ (a == x.a && (b == x.b && last_tick g + 1 == x.first))
ends-told a b [] x some objects = absurd (omega arith)
ends-told a b (s ∷ []) x some objects =
    let here = All-head (λ s. (s.a ≡ a) × (s.b ≡ b)) s [] objects in
    rw (here.0, here.1) refl
ends-told a b (s ∷ t ∷ ss) x some objects = ends-told a b (t ∷ ss) x (omega arith) (All-tail (λ s. (s.a ≡ a) × (s.b ≡ b)) s (t ∷ ss) objects)

last_tick-get_or : (g : List PlainLeaf) (d : PlainLeaf) → 0 < length g → last_tick g ≡ (get_or g (length g - 1) d).last
last_tick-get_or [] d some = absurd (omega arith)
last_tick-get_or (s ∷ []) d some = refl
last_tick-get_or (s ∷ t ∷ ss) d some =
    let e : length (s ∷ t ∷ ss) - 1 ≡ suc (length (t ∷ ss) - 1) = omega arith in
    rw e (last_tick-get_or (t ∷ ss) d (omega arith))

first_tick-push : (g : List PlainLeaf) (x : PlainLeaf) → 0 < length g → first_tick (g ++ x ∷ []) ≡ first_tick g
first_tick-push [] x some = absurd (omega arith)
first_tick-push (s ∷ ss) x some = refl

last_tick-push : (g : List PlainLeaf) (x : PlainLeaf) → last_tick (g ++ x ∷ []) ≡ x.last
last_tick-push [] x = refl
last_tick-push (s ∷ []) x = refl
last_tick-push (s ∷ t ∷ ss) x = last_tick-push (t ∷ ss) x

length-leaves_in : (ss : List PlainLeaf) (e : Encounter) → e.past ≤ length ss → length (leaves_in ss e) ≡ e.past - e.leaf
length-leaves_in ss e h = length-between ss e.leaf e.past h

leaves_in-some : (ss : List PlainLeaf) (e : Encounter) → e.past ≤ length ss → 0 < length (leaves_in ss e)
leaves_in-some ss e h = omega (arith, length-leaves_in ss e h, e.leaves)

ends-goes_on : (ss : List PlainLeaf) (e : Encounter) (x : PlainLeaf) → Describes ss e → ends (leaves_in ss e) x ≡ goes_on e x
ends-goes_on ss e x d =
    rw d.last (ends-told e.pair.a e.pair.b (leaves_in ss e) x (leaves_in-some ss e d.within) d.objects)

-- the last leaf of an encounter stands before the place where the encounter ends
last-leaves_in : (ss : List PlainLeaf) (e : Encounter) (d : PlainLeaf) → e.past ≤ length ss →
    get_or (leaves_in ss e) (length (leaves_in ss e) - 1) d ≡ get_or ss (e.past - 1) d
last-leaves_in ss e d h =
    let place : e.leaf + (e.past - e.leaf - 1) ≡ e.past - 1 = omega (arith, e.leaves) in
    rw (length-leaves_in ss e h) (get_or-between ss e.leaf e.past (e.past - e.leaf - 1) d (omega (arith, e.leaves)) ∙ rw place refl)

-- no leaf lies between two of consecutive ticks
no_gap : (l u x : PlainLeaf) → IsBefore l u → IsBefore u x → u.first ≤ u.last → l.a ≡ x.a → l.b ≡ x.b → l.last + 1 ≡ x.first → ⊥
no_gap l u x before after ticks a b next =
    let a_is : l.a ≡ u.a = omega (arith, before.first_object, after.first_object) in
    let b_is : l.b ≡ u.b = omega (arith, before.second_object a_is, after.second_object (sym a_is ∙ a)) in
    omega (arith, before.ticks a_is b_is, after.ticks (sym a_is ∙ a) (sym b_is ∙ b))

-- where a leaf goes on from an encounter, no other leaf lies between
none_between : (ss : List PlainLeaf) (e : Encounter) (x : PlainLeaf) → HaveTicks ss → AreInOrder (ss ++ x ∷ []) → Describes ss e →
    goes_on e x ≡ true → e.past < length ss → ⊥
none_between ss e x ticks order d on short =
    let test = and_parts (e.pair.a == x.a) (e.pair.b == x.b && e.last.micros + 1 == x.first) on in
    let tests = and_parts (e.pair.b == x.b) (e.last.micros + 1 == x.first) test.1 in
    let all = ss ++ x ∷ [] in
    let long : length (ss ++ x ∷ []) ≡ length ss + 1 = omega (arith, length-append ss (x ∷ [])) in
    let len = length-leaves_in ss e d.within in
    let last_is = last-leaves_in ss e x d.within in
    let objects = d.objects (length (leaves_in ss e) - 1) x (omega (arith, len, e.leaves)) in
    let l_is = get_or_append_left ss (x ∷ []) x (e.past - 1) (omega (arith, e.leaves)) in
    let u_is = get_or_append_left ss (x ∷ []) x e.past short in
    let x_is = get_or_push ss x x (length ss) refl in
    let before : IsBefore (get_or ss (e.past - 1) x) (get_or ss e.past x) =
    rw (← l_is, ← u_is) (order (e.past - 1) e.past x (omega (arith, e.leaves)) (omega (arith, long))) in
    let after : IsBefore (get_or ss e.past x) x =
    subst (λ y. IsBefore (get_or ss e.past x) y) x_is (rw (← u_is) (order e.past (length ss) x short (omega (arith, long)))) in
    let at_end : (get_or ss (e.past - 1) x).last + 1 ≡ x.first =
    ap (λ y. y.last + 1) (sym last_is) ∙ (ap (λ n. n + 1) (sym (d.last ∙ last_tick-get_or (leaves_in ss e) x (leaves_in-some ss e d.within))) ∙ eqb-true _ _ tests.1) in
    no_gap (get_or ss (e.past - 1) x) (get_or ss e.past x) x before after (ticks e.past x short)
    (ap (λ y. y.a) (sym last_is) ∙ (objects.0 ∙ eqb-true _ _ test.0))
    (ap (λ y. y.b) (sym last_is) ∙ (objects.1 ∙ eqb-true _ _ tests.0))
    at_end

-- the last of n encounters and those before it
last_split : (es : List Encounter) (n : ℕ) (e : Encounter) → n ≡ length es → 0 < n → e ≡ get_or es (n - 1) e → es ≡ take (n - 1) es ++ e ∷ []
last_split es n e count some is =
    let one : n - 1 + 1 ≡ n = omega arith in
    sym (take_all n es (omega arith)) ∙ (rw one at (take_more es (n - 1) e (omega arith)) ∙ ap (λ y. take (n - 1) es ++ y ∷ []) (sym is))

set_last : (es : List Encounter) (n : ℕ) (e : Encounter) → n ≡ length es → 0 < n → set es (n - 1) e ≡ take (n - 1) es ++ e ∷ []
set_last es n e count some =
    set_split es (n - 1) e (omega arith) ∙ ap (λ l. take (n - 1) es ++ e ∷ l) (drop_all (suc (n - 1)) es (omega arith))

mark_of-push : (g : List PlainLeaf) (x : PlainLeaf) → mark_of (g ++ x ∷ []) ≡ cond (is_near_mark (mark_of g)) mark.Near (mark_of (x ∷ []))
mark_of-push g x =
    rw (list_any-append is_near g (x ∷ []))
    (elim (list_any is_near g) as (λ b. cond (b || (is_near x || false)) mark.Near mark.Undecided ≡ cond (is_near_mark (cond b mark.Near mark.Undecided)) mark.Near (cond (is_near x || false) mark.Near mark.Undecided))
    [ true ↦ refl | false ↦ refl ])

-- the encounter that begins with a leaf behind the others
begun-leaves : (ss : List PlainLeaf) (x : PlainLeaf) (e : Encounter) → e.leaf ≡ length ss → e.past ≡ length ss + 1 → leaves_in (ss ++ x ∷ []) e ≡ x ∷ []
begun-leaves ss x e leaf past =
    rw (leaf, past) (between_more (ss ++ x ∷ []) (length ss) (length ss) x (omega arith) (omega (arith, length-append ss (x ∷ []))) ∙ rw (between_none, get_or_push ss x x (length ss) refl) refl)

pub record Begins (ss : List PlainLeaf) (x : PlainLeaf) (e : Encounter) : Type 0 where
  pub leaf : e.leaf ≡ length ss
  pub past : e.past ≡ length ss + 1
  pub a : e.pair.a ≡ x.a
  pub b : e.pair.b ≡ x.b
  pub first : e.first.micros ≡ x.first
  pub last : e.last.micros ≡ x.last
  pub mark : e.mark ≡ mark_of (x ∷ [])

Describes-begun : (ss : List PlainLeaf) (x : PlainLeaf) (e : Encounter) → Begins ss x e → Describes (ss ++ x ∷ []) e
Describes-begun ss x e begins =
    let is = begun-leaves ss x e begins.leaf begins.past in
    record {
      within = omega (arith, length-append ss (x ∷ []), begins.past);
      objects = rw is (All-cons (λ s. (s.a ≡ e.pair.a) × (s.b ≡ e.pair.b)) x [] (sym begins.a, sym begins.b) (All-nil (λ s. (s.a ≡ e.pair.a) × (s.b ≡ e.pair.b))));
      first = rw is begins.first;
      last = rw is begins.last;
      mark = rw is begins.mark;
    }

-- the encounter that goes on with a leaf behind the others
joined-leaves : (ss : List PlainLeaf) (x : PlainLeaf) (o e : Encounter) → e.leaf ≡ o.leaf → e.past ≡ length ss + 1 → o.past ≡ length ss →
    leaves_in (ss ++ x ∷ []) e ≡ leaves_in ss o ++ x ∷ []
joined-leaves ss x o e leaf past end =
    let before : slice_range (ss ++ x ∷ []) o.leaf (length ss) ≡ leaves_in ss o = rw (← end) (leaves_in-more ss (x ∷ []) o (omega arith)) in
    rw (leaf, past) (between_more (ss ++ x ∷ []) o.leaf (length ss) x (omega (arith, o.leaves)) (omega (arith, length-append ss (x ∷ []))) ∙ rw (before, get_or_push ss x x (length ss) refl) refl)

pub record Joins (ss : List PlainLeaf) (x : PlainLeaf) (o e : Encounter) : Type 0 where
  pub pair : e.pair ≡ o.pair
  pub first : e.first ≡ o.first
  pub leaf : e.leaf ≡ o.leaf
  pub past : e.past ≡ length ss + 1
  pub last : e.last.micros ≡ x.last
  pub mark : e.mark ≡ cond (is_near_mark o.mark) mark.Near (mark_of (x ∷ []))

Describes-joined : (ss : List PlainLeaf) (x : PlainLeaf) (o e : Encounter) → Describes ss o → goes_on o x ≡ true → o.past ≡ length ss → Joins ss x o e → Describes (ss ++ x ∷ []) e
Describes-joined ss x o e d on end joins =
    let is = joined-leaves ss x o e joins.leaf joins.past end in
    let some = leaves_in-some ss o d.within in
    let test = and_parts (o.pair.a == x.a) (o.pair.b == x.b && o.last.micros + 1 == x.first) on in
    let tests = and_parts (o.pair.b == x.b) (o.last.micros + 1 == x.first) test.1 in
    record {
      within = omega (arith, length-append ss (x ∷ []), joins.past);
      objects = rw (is, joins.pair) (All-push (λ s. (s.a ≡ o.pair.a) × (s.b ≡ o.pair.b)) (leaves_in ss o) x d.objects (sym (eqb-true _ _ test.0), sym (eqb-true _ _ tests.0)));
      first = rw (is, joins.first, first_tick-push (leaves_in ss o) x some) d.first;
      last = rw (is, last_tick-push (leaves_in ss o) x) joins.last;
      mark = rw (is, mark_of-push (leaves_in ss o) x, ← d.mark) joins.mark;
    }

-- any other leaf joins the last encounter where it goes on from there, and it is then the next leaf
encounters_joined : (ss : List PlainLeaf) (x : PlainLeaf) (os : List Encounter) (o e : Encounter) → is_far x ≡ false → HaveTicks ss → AreInOrder (ss ++ x ∷ []) →
    goes_on o x ≡ true → Joins ss x o e → AreEncounters ss (os ++ o ∷ []) → AreEncounters (ss ++ x ∷ []) (os ++ e ∷ [])
encounters_joined ss x os o e far ticks order on joins before =
    let split = All-pop (Describes ss) (os ++ o ∷ []) os (Some o) refl before.described in
    let here : Describes ss o = split.1 in
    let end : o.past ≡ length ss = ⊎_elim (λ short. absurd (none_between ss o x ticks order here on short)) (λ long. omega (arith, here.within)) (cases_lt o.past (length ss)) in
    let g = leaves_in ss o in
    let gs = groups_in ss os in
    let ends_is : ends g x ≡ true = ends-goes_on ss o x here ∙ on in
    let was : encounters_of ss ≡ gs ++ g ∷ [] = sym before.groups ∙ map_push (leaves_in ss) os o in
    let now : encounters_of (ss ++ x ∷ []) ≡ gs ++ (g ++ x ∷ []) ∷ [] =
    encounters_of-with_back ss x far ∙ (ap (with_back x) was ∙ (with_back-last x gs g ∙ ap (λ b. gs ++ cond b ((g ++ x ∷ []) ∷ []) (g ∷ (x ∷ []) ∷ [])) ends_is)) in
    let told : groups_in (ss ++ x ∷ []) (os ++ e ∷ []) ≡ gs ++ (g ++ x ∷ []) ∷ [] =
    map_push (leaves_in (ss ++ x ∷ [])) os e ∙ rw (groups_in-more ss (x ∷ []) os split.0, joined-leaves ss x o e joins.leaf joins.past end) refl in
    record {
      groups = told ∙ sym now;
      described = All-push (Describes (ss ++ x ∷ [])) os e (All-weaker (Describes ss) (Describes (ss ++ x ∷ [])) (Describes-more ss (x ∷ [])) os split.0) (Describes-joined ss x o e here on end joins);
    }

-- a leaf begins an encounter where there is none before it
pub encounters_first : (ss : List PlainLeaf) (x : PlainLeaf) (e : Encounter) → is_far x ≡ false → Begins ss x e →
    AreEncounters ss [] → AreEncounters (ss ++ x ∷ []) (e ∷ [])
encounters_first ss x e far begins before = record {
  groups = rw (begun-leaves ss x e begins.leaf begins.past) (sym (encounters_of-with_back ss x far ∙ ap (with_back x) (sym before.groups)));
  described = All-cons (Describes (ss ++ x ∷ [])) e [] (Describes-begun ss x e begins) (All-nil (Describes (ss ++ x ∷ [])));
}

-- a leaf begins an encounter where it does not go on from the last one
encounters_begun : (ss : List PlainLeaf) (x : PlainLeaf) (os : List Encounter) (o e : Encounter) → is_far x ≡ false → goes_on o x ≡ false → Begins ss x e →
    AreEncounters ss (os ++ o ∷ []) → AreEncounters (ss ++ x ∷ []) ((os ++ o ∷ []) ++ e ∷ [])
encounters_begun ss x os o e far on begins before =
    let split = All-pop (Describes ss) (os ++ o ∷ []) os (Some o) refl before.described in
    let g = leaves_in ss o in
    let gs = groups_in ss os in
    let ends_is : ends g x ≡ false = ends-goes_on ss o x split.1 ∙ on in
    let was : encounters_of ss ≡ gs ++ g ∷ [] = sym before.groups ∙ map_push (leaves_in ss) os o in
    let now : encounters_of (ss ++ x ∷ []) ≡ gs ++ g ∷ (x ∷ []) ∷ [] =
    encounters_of-with_back ss x far ∙ (ap (with_back x) was ∙ (with_back-last x gs g ∙ ap (λ b. gs ++ cond b ((g ++ x ∷ []) ∷ []) (g ∷ (x ∷ []) ∷ [])) ends_is)) in
    let told : groups_in (ss ++ x ∷ []) ((os ++ o ∷ []) ++ e ∷ []) ≡ gs ++ g ∷ (x ∷ []) ∷ [] =
    map_push (leaves_in (ss ++ x ∷ [])) (os ++ o ∷ []) e ∙
    (rw (groups_in-more ss (x ∷ []) (os ++ o ∷ []) before.described, begun-leaves ss x e begins.leaf begins.past, map_push (leaves_in ss) os o) (append_assoc gs (g ∷ []) ((x ∷ []) ∷ []))) in
    record {
      groups = told ∙ sym now;
      described = All-push (Describes (ss ++ x ∷ [])) (os ++ o ∷ []) e (All-weaker (Describes ss) (Describes (ss ++ x ∷ [])) (Describes-more ss (x ∷ [])) (os ++ o ∷ []) before.described) (Describes-begun ss x e begins);
    }

-- what a look at a place of a list tells of it
pub told_there : (es : List Encounter) (k : ℕ) (o : Encounter) → Some o ≡ slice_get es k → (k < length es) × (o ≡ get_or es k o)
told_there es k o is = (slice_get_within es k o (sym is), sym (get_or_from_slice_get es k o o (sym is)))

pub told_none : (es : List Encounter) (k : ℕ) → None ≡ slice_get es k → length es ≤ k
told_none [] k is = omega arith
told_none (e ∷ es) zero is = cc
told_none (e ∷ es) (suc k) is = omega (arith, told_none es k is)

-- where the last is found there is one
pub told_some : (es : List Encounter) (o : Encounter) → Some o ≡ slice_get es (length es - 1) → 0 < length es
told_some es o is = omega (arith, (told_there es (length es - 1) o is).0)

-- what ends before a place ends before the next one
pub past_later : (es : List Encounter) (at : ℕ) → All (λ e. e.past ≤ at) es → All (λ e. e.past ≤ at + 1) es
past_later es at before = All-weaker (λ e. e.past ≤ at) (λ e. e.past ≤ at + 1) (λ e h. omega arith) es before

-- the encounter at a place ends before what all end before
pub told_past : (es : List Encounter) (k : ℕ) (o : Encounter) (at : ℕ) → Some o ≡ slice_get es k → All (λ e. e.past ≤ at) es → o.past ≤ at
told_past es k o at is before =
    let there = told_there es k o is in
    subst (λ e. e.past ≤ at) (sym there.1) (before k o there.0)

-- a leaf that goes on begins behind the last tick
pub goes_on_later : (o : Encounter) (x : PlainLeaf) → goes_on o x ≡ true → o.last.micros ≤ x.first
goes_on_later o x on =
    let times = (and_parts (o.pair.b == x.b) (o.last.micros + 1 == x.first) (and_parts (o.pair.a == x.a) (o.pair.b == x.b && o.last.micros + 1 == x.first) on).1).1 in
    omega (arith, eqb-true (o.last.micros + 1) x.first times)

-- the last of n encounters is replaced by one that goes on
pub encounters_extended : (ss : List PlainLeaf) (x : PlainLeaf) (es : List Encounter) (n : ℕ) (o e : Encounter) → n ≡ length es → 0 < n → o ≡ get_or es (n - 1) o →
    is_far x ≡ false → HaveTicks ss → AreInOrder (ss ++ x ∷ []) → goes_on o x ≡ true → Joins ss x o e →
    AreEncounters ss es → AreEncounters (ss ++ x ∷ []) (set es (n - 1) e)
encounters_extended ss x es n o e count some last far ticks order on joins before =
    let split = last_split es n o count some last in
    subst (AreEncounters (ss ++ x ∷ [])) (sym (set_last es n e count some))
    (encounters_joined ss x (take (n - 1) es) o e far ticks order on joins (subst (AreEncounters ss) split before))

-- an encounter is added behind the last of n
pub encounters_added : (ss : List PlainLeaf) (x : PlainLeaf) (es : List Encounter) (n : ℕ) (o e : Encounter) → n ≡ length es → 0 < n → o ≡ get_or es (n - 1) o →
    is_far x ≡ false → goes_on o x ≡ false → Begins ss x e → AreEncounters ss es → AreEncounters (ss ++ x ∷ []) (es ++ e ∷ [])
encounters_added ss x es n o e count some last far on begins before =
    let split = last_split es n o count some last in
    subst (λ l. AreEncounters (ss ++ x ∷ []) (l ++ e ∷ [])) (sym split)
    (encounters_begun ss x (take (n - 1) es) o e far on begins (subst (AreEncounters ss) split before))

in_order-take : (ss : List PlainLeaf) (n : ℕ) → AreInOrder ss → AreInOrder (take n ss)
in_order-take ss n order = λ i j d below short.
    let cut = length-take n ss in
    rw (get_or-take n ss i d (omega (arith, cut, below, short)), get_or-take n ss j d (omega (arith, cut, short))) (order i j d below (omega (arith, cut, short)))

-- of a leaf of the same pair the tick alone decides
pub same_pair : (a b next : Bool) → true ≡ (a && b) → next ≡ (a && (b && next))
same_pair true true next same = refl
same_pair true false next same = absurd cc
same_pair false b next same = absurd cc

-- the encounters of all leaves
pub all_of : (leaves : List Leaf) (at : ℕ) (es : List Encounter) → length leaves ≤ at → AreEncounters (take at (plain_leaves leaves)) es
    → AreEncounters (plain_leaves leaves) es
all_of leaves at es end found =
    subst (λ (ss : List PlainLeaf). AreEncounters ss es) (take_all at (plain_leaves leaves) (omega (arith, end, length-map leaves plain_leaf))) found

-- the encounters of one leaf more
pub encounters_more : (leaves : List Leaf) (at : ℕ) (leaf : Leaf) (old new : List Encounter) → AreInOrder (plain_leaves leaves) → at < length leaves → leaf ≡ get_or leaves at leaf →
    ((ss : List PlainLeaf) → length ss ≡ at → HaveTicks ss → AreInOrder (ss ++ plain_leaf leaf ∷ []) → AreEncounters ss old → AreEncounters (ss ++ plain_leaf leaf ∷ []) new) →
    AreEncounters (take at (plain_leaves leaves)) old → AreEncounters (take (at + 1) (plain_leaves leaves)) new
encounters_more leaves at leaf old new order short is step before =
    let all = plain_leaves leaves in
    let long : length (plain_leaves leaves) ≡ length leaves = length-map leaves plain_leaf in
    let next : take (at + 1) (plain_leaves leaves) ≡ take at (plain_leaves leaves) ++ plain_leaf leaf ∷ [] =
    take_more (plain_leaves leaves) at (plain_leaf leaf) (omega (arith, long, short)) ∙
    ap (λ s. take at (plain_leaves leaves) ++ s ∷ []) (get_or-map plain_leaf leaves at leaf (plain_leaf leaf) short ∙ ap plain_leaf (sym is)) in
    subst (λ l. AreEncounters l new) (sym next)
    (step (take at (plain_leaves leaves)) (omega (arith, length-take at (plain_leaves leaves), long, short)) (All-take (λ s. s.first ≤ s.last) at (plain_leaves leaves) (leaves_have_ticks leaves))
    (subst AreInOrder next (in_order-take (plain_leaves leaves) (at + 1) order)) before)

first-of_all : (a b : ℕ) (g : List PlainLeaf) → 0 < length g → All (λ s. (s.a ≡ a) × (s.b ≡ b)) g → (first_object g ≡ a) × (second_object g ≡ b)
first-of_all a b [] some all = absurd (omega arith)
first-of_all a b (s ∷ g) some all = let here = All-head (λ s. (s.a ≡ a) × (s.b ≡ b)) s g all in (here.0, here.1)

-- the objects of the leaves of an encounter are those of its pair
pub described_objects : (ss : List PlainLeaf) (e : Encounter) → Describes ss e → (first_object (leaves_in ss e) ≡ e.pair.a) × (second_object (leaves_in ss e) ≡ e.pair.b)
described_objects ss e d = first-of_all e.pair.a e.pair.b (leaves_in ss e) (leaves_in-some ss e d.within) d.objects

-- the leaves of an encounter as plain facts are those of the plain list
pub leaves_in_encounter : (leaves : List Leaf) (e : Encounter) → plain_leaves (slice_range leaves e.leaf e.past) ≡ leaves_in (plain_leaves leaves) e
leaves_in_encounter leaves e = sym (take-map plain_leaf (e.past - e.leaf) (drop e.leaf leaves)) ∙ ap (take (e.past - e.leaf)) (sym (drop-map plain_leaf e.leaf leaves))
