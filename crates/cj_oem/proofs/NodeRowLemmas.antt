-- The rows of nodes: reading them one after another asks for just what the grammar says of them.
use Rattle.std.proofs.Common.{◌≡◌, ℕ, ◌+◌, ◌<◌, ◌≤◌, List, [], ◌∷◌, length, drop, true, false, All, IfSome, Option, Some, None, ◌⊎◌, inl, inr, Result, Ok, Err, ℤ, pos, negsuc, arith, ap, ◌∙◌, refl, subst}
use Rattle.std.specs.Prelude.{Bool, if◌then◌else◌, ◌||◌, ◌==◌, not, nat_le, nat_lt, unsigned_abs, IsOk}
use Rattle.std.specs.List.{list_all}
use Rattle.std.specs.Ordering.{is_le, nat_cmp}
use Rattle.std.proofs.lemmas.Bool.{and_parts, leb-true, leb-false, ltb-false}
use Rattle.std.proofs.lemmas.Bool.Decides.{nat_tests}
use Rattle.std.proofs.lemmas.Int.{ints}
use Rattle.std.proofs.lemmas.List.Elements.{All-cons, All-head, All-nil, All-tail}
use Rattle.cj_kvn.specs.Decimals.{decimal_of}
use Rattle.cj_kvn.specs.Fields.{fields}
use Rattle.cj_base.specs.Numbers.{Number}
use Rattle.cj_kvn.specs.Numbers.{scaled_of}
use Rattle.cj_kvn.specs.declared.numbers.NumFault.{NumFault}
use Rattle.cj_kvn.specs.declared.numbers.NumFault.TheVariants.{NotNumber, TooLarge}
use Rattle.cj_base.specs.LeapSeconds.{leap_lies_between}
use Rattle.cj_epoch.specs.Reading.{reading_of}
use Rattle.cj_formats.specs.declared.oem_cause.OemCause.{OemCause}
use Rattle.cj_formats.specs.declared.oem_cause.OemCause.TheVariants as causes
use Rattle.cj_oem.specs.declared.figures.Figures.{Figures}
use Rattle.cj_track.specs.declared.vec3.Vec3.{Vec3}
use Rattle.cj_track.specs.PlainTracks.{PlainNode}
use Rattle.cj_oem.specs.Grammar.{AreNodeSteps, IsNodeRow, IsNodeStep, SayNodes}
use Rattle.cj_track.specs.Limits.{IsWithin, MAX_COORDINATE, MAX_RATE, MAX_STEP}
use Rattle.cj_kvn.specs.Faults.{◌>>=◌}
use Rattle.cj_oem.specs.Metadata.{parse_epoch, unless}
use Rattle.cj_oem.specs.NodeRows.{field_in, figure_or, figures_in, parse_figure, following, is_decimal, is_decimal_read, state_of_fields, state_of_row, state_said, vector_within, within_or}
use Rattle.cj_oem.proofs.MetadataLemmas.{epoch_is}
use Rattle.cj_oem.proofs.StateAgainLemmas.{vector_again}
use Rattle.cj_kvn.proofs.FaultLemmas.{bind_ok}
use Rattle.cj_oem.proofs.StepLemmas.{ok_is, unless_not, unless_ok, wanted}

-- ---- numbers

within_size : (limit : ℕ) (z : ℤ) → unsigned_abs z ≤ limit → IsWithin limit z
within_size limit (pos k) h = (omega (arith, ints, h), omega (arith, ints, h))
within_size limit (negsuc k) h = (omega (arith, ints, h), omega (arith, ints, h))

within_is : (limit : ℕ) (cause : OemCause) (o : Option ℤ) (z : ℤ) → within_or limit cause o ≡ Ok z → (o ≡ Some z) × IsWithin limit z
within_is limit cause None z e = absurd cc
within_is limit cause (Some y) z e =
    let said = wanted (nat_le (unsigned_abs y) limit) (Ok y) cause z e in
    let same : y ≡ z = ok_is y z said.1 in
    (ap (λ x. Some x) same, subst (IsWithin limit) same (within_size limit y (leb-true (unsigned_abs y) limit said.0)))

-- three numbers within a limit
record IsVectorOf (limit : ℕ) (a b c : Option ℤ) (v : Vec3) : Type 0 where
  x : (a ≡ Some v.x) × IsWithin limit v.x
  y : (b ≡ Some v.y) × IsWithin limit v.y
  z : (c ≡ Some v.z) × IsWithin limit v.z

vector_is : (limit : ℕ) (cause : OemCause) (a b c : Option ℤ) (v : Vec3) → vector_within limit cause a b c ≡ Ok v → IsVectorOf limit a b c v
vector_is limit cause a b c v e =
    let x = bind_ok (within_or limit cause a) _ v e in
    let y = bind_ok (within_or limit cause b) _ v x.2 in
    let z = bind_ok (within_or limit cause c) _ v y.2 in
    subst (IsVectorOf limit a b c) (ok_is _ v z.2) (record {
      x = within_is limit cause a x.0 x.1;
      y = within_is limit cause b y.0 y.1;
      z = within_is limit cause c z.0 z.1;
    })

figure_is : (r : Result ℤ NumFault) (o : Option ℤ) (z : ℤ) → figure_or r ≡ Ok o → o ≡ Some z → r ≡ Ok z
figure_is (Ok y) o z e f = let both : Some y ≡ Some z = ok_is (Some y) o e ∙ f in cc
figure_is (Err TooLarge) o z e f = let both : None ≡ Some z = ok_is None o e ∙ f in absurd cc
figure_is (Err NotNumber) o z e f = absurd cc

decimal_is : (r : Result Number NumFault) → is_decimal_read r ≡ true → IsOk r
decimal_is (Ok n) e = e
decimal_is (Err fault) e = e

decimal_again : (r : Result Number NumFault) → IsOk r → is_decimal_read r ≡ true
decimal_again (Ok n) e = e
decimal_again (Err fault) e = e

abbrev IsDecimal : List ℕ → Type 0
IsDecimal text = IsOk (decimal_of text)

decimals_are : (texts : List (List ℕ)) → list_all is_decimal texts ≡ true → All IsDecimal texts
decimals_are [] e = All-nil IsDecimal
decimals_are (text ∷ texts) e =
    let each = and_parts (is_decimal text) (list_all is_decimal texts) e in
    All-cons IsDecimal text texts (decimal_is (decimal_of text) each.0) (decimals_are texts each.1)

decimals_again : (texts : List (List ℕ)) → All IsDecimal texts → list_all is_decimal texts ≡ true
decimals_again [] all = refl
decimals_again (text ∷ texts) all =
    rw (decimal_again (decimal_of text) (All-head IsDecimal text texts all), decimals_again texts (All-tail IsDecimal text texts all)) refl

-- ---- one row

count_is : (n : ℕ) → ((n == 7) || (n == 10)) ≡ true → (n ≡ 7) ⊎ (n ≡ 10)
count_is n e = grind (arith, nat_tests)

count_again : (n : ℕ) → (n ≡ 7) ⊎ (n ≡ 10) → ((n == 7) || (n == 10)) ≡ true
count_again n (inl e) = ap (λ (k : ℕ). (k == 7) || (k == 10)) e
count_again n (inr e) = ap (λ (k : ℕ). (k == 7) || (k == 10)) e

abbrev Steps : Option PlainNode → PlainNode → Type 0
Steps before s = IfSome before (λ b. IsNodeStep b s)

step_is : (b s : PlainNode) → nat_le s.at b.at ≡ false → nat_lt (b.at + MAX_STEP) s.at ≡ false → leap_lies_between b.at s.at ≡ false → IsNodeStep b s
step_is b s rises short steady = record { rises = leb-false s.at b.at rises; short = ltb-false (b.at + MAX_STEP) s.at short; steady = steady }

following_is : (before : Option PlainNode) (a s : PlainNode) → following before a ≡ Ok s → (a ≡ s) × Steps before s
following_is None a s e = (ok_is a s e, tt)
following_is (Some b) a s e =
    let rises = bind_ok (unless (nat_le a.at b.at) causes.TimesFall) _ s e in
    let short = bind_ok (unless (nat_lt (b.at + MAX_STEP) a.at) causes.StepTooLong) _ s rises.2 in
    let steady = bind_ok (unless (leap_lies_between b.at a.at) causes.LeapSecond) _ s short.2 in
    let same : a ≡ s = ok_is a s steady.2 in
    (same, subst (IsNodeStep b) same (step_is b a (unless_ok _ causes.TimesFall rises.0 rises.1) (unless_ok _ causes.StepTooLong short.0 short.1) (unless_ok _ causes.LeapSecond steady.0 steady.1)))

following_again : (before : Option PlainNode) (s : PlainNode) → Steps before s → following before s ≡ Ok s
following_again None s h = refl
following_again (Some b) s h =
    let rises = h.rises in
    let short = h.short in
    let a : nat_le s.at b.at ≡ false = grind (arith, nat_tests) in
    let d : nat_lt (b.at + MAX_STEP) s.at ≡ false = grind (arith, nat_tests) in
    rw (a, d, h.steady) refl

-- three fields that say numbers say these
record AreFigures (row : List (List ℕ)) (first : ℕ) (f : Figures) : Type 0 where
  x : parse_figure (field_in row first) ≡ Ok f.x
  y : parse_figure (field_in row (first + 1)) ≡ Ok f.y
  z : parse_figure (field_in row (first + 2)) ≡ Ok f.z

figures_are : (row : List (List ℕ)) (first : ℕ) (f : Figures) → figures_in row first ≡ Ok f → AreFigures row first f
unfolding figures_in
figures_are row first f e =
    let x = bind_ok (parse_figure (field_in row first)) _ f e in
    let y = bind_ok (parse_figure (field_in row (first + 1))) _ f x.2 in
    let z = bind_ok (parse_figure (field_in row (first + 2))) _ f y.2 in
    subst (AreFigures row first) (ok_is _ f z.2) (record { x = x.1; y = y.1; z = z.1 })

said_is : (row : List (List ℕ)) (s : PlainNode) → state_said row ≡ Ok s → IsNodeRow row s
unfolding state_said
said_is row s e =
    let count = bind_ok (unless (not ((length row == 7) || (length row == 10))) causes.Fields) _ s e in
    let at = bind_ok (parse_epoch (field_in row 0)) _ s count.2 in
    let f = bind_ok (figures_in row 1) _ s at.2 in
    let g = bind_ok (figures_in row 4) _ s f.2 in
    let others = bind_ok (unless (not (list_all is_decimal (drop 7 row))) causes.Number) _ s g.2 in
    let place = bind_ok (vector_within MAX_COORDINATE causes.CoordinateRange f.0.x f.0.y f.0.z) _ s others.2 in
    let rate = bind_ok (vector_within MAX_RATE causes.RateRange g.0.x g.0.y g.0.z) _ s place.2 in
    let places = figures_are row 1 f.0 f.1 in
    let rates = figures_are row 4 g.0 g.1 in
    let p = vector_is MAX_COORDINATE causes.CoordinateRange f.0.x f.0.y f.0.z place.0 place.1 in
    let q = vector_is MAX_RATE causes.RateRange g.0.x g.0.y g.0.z rate.0 rate.1 in
    subst (IsNodeRow row) (ok_is _ s rate.2) (record {
      count = count_is (length row) (unless_not _ causes.Fields count.0 count.1);
      epoch = epoch_is (reading_of (field_in row 0)) at.0 at.1;
      x = (figure_is (scaled_of 12 (field_in row 1)) f.0.x place.0.x places.x p.x.0, p.x.1);
      y = (figure_is (scaled_of 12 (field_in row 2)) f.0.y place.0.y places.y p.y.0, p.y.1);
      z = (figure_is (scaled_of 12 (field_in row 3)) f.0.z place.0.z places.z p.z.0, p.z.1);
      x_dot = (figure_is (scaled_of 12 (field_in row 4)) g.0.x rate.0.x rates.x q.x.0, q.x.1);
      y_dot = (figure_is (scaled_of 12 (field_in row 5)) g.0.y rate.0.y rates.y q.y.0, q.y.1);
      z_dot = (figure_is (scaled_of 12 (field_in row 6)) g.0.z rate.0.z rates.z q.z.0, q.z.1);
      accelerations = decimals_are (drop 7 row) (unless_not _ causes.Number others.0 others.1);
    })

fields_are : (before : Option PlainNode) (row : List (List ℕ)) (s : PlainNode) → state_of_fields before row ≡ Ok s → IsNodeRow row s × Steps before s
unfolding state_of_fields
fields_are before row s e =
    let said = bind_ok (state_said row) _ s e in
    let end = following_is before said.0 s said.2 in
    (subst (IsNodeRow row) end.0 (said_is row said.0 said.1), end.1)

fields_again : (before : Option PlainNode) (row : List (List ℕ)) (s : PlainNode) → IsNodeRow row s → Steps before s → state_of_fields before row ≡ Ok s
unfolding state_of_fields state_said figures_in
fields_again before row s r step =
    rw (
      count_again (length row) r.count,
      r.epoch,
      r.x.0,
      r.y.0,
      r.z.0,
      r.x_dot.0,
      r.y_dot.0,
      r.z_dot.0,
      decimals_again (drop 7 row) r.accelerations,
      vector_again MAX_COORDINATE causes.CoordinateRange s.p (record { x = r.x.1; y = r.y.1; z = r.z.1 }),
      vector_again MAX_RATE causes.RateRange s.v (record { x = r.x_dot.1; y = r.y_dot.1; z = r.z_dot.1 }),
    ) (following_again before s step)

-- ---- all rows

-- what the rows of a block say, one after another
abbrev pub nodes_from : Option PlainNode → List (List ℕ) → Result (List PlainNode) OemCause
nodes_from before [] = Ok []
nodes_from before (row ∷ rows) = do
  state ← state_of_row before row
  nodes ← nodes_from (Some state) rows
  Ok (state ∷ nodes)

-- each node is a step from the one before, the first from the given one
abbrev Follow : Option PlainNode → List PlainNode → Type 0
Follow before [] = Unit {0}
Follow before (s ∷ nodes) = Steps before s × Follow (Some s) nodes

steps_behind : (s : PlainNode) (nodes : List PlainNode) → Follow (Some s) nodes → AreNodeSteps (s ∷ nodes)
steps_behind s [] f = tt
steps_behind s (t ∷ nodes) f = (f.0, steps_behind t nodes f.1)

behind_steps : (s : PlainNode) (nodes : List PlainNode) → AreNodeSteps (s ∷ nodes) → Follow (Some s) nodes
behind_steps s [] f = tt
behind_steps s (t ∷ nodes) f = (f.0, behind_steps t nodes f.1)

steps_are : (nodes : List PlainNode) → Follow None nodes → AreNodeSteps nodes
steps_are [] f = tt
steps_are (s ∷ nodes) f = steps_behind s nodes f.1

steps_again : (nodes : List PlainNode) → AreNodeSteps nodes → Follow None nodes
steps_again [] steps = tt
steps_again (s ∷ nodes) steps = (tt, behind_steps s nodes steps)

rows_are : (rows : List (List ℕ)) (before : Option PlainNode) (nodes : List PlainNode) → nodes_from before rows ≡ Ok nodes → SayNodes rows nodes × Follow before nodes
rows_are [] before nodes e = subst (λ (ss : List PlainNode). SayNodes [] ss × Follow before ss) (ok_is [] nodes e) (tt, tt)
rows_are (row ∷ rows) before nodes e =
    let state = bind_ok (state_of_row before row) _ nodes e in
    let others = bind_ok (nodes_from (Some state.0) rows) _ nodes state.2 in
    let here = fields_are before (fields row) state.0 state.1 in
    let later = rows_are rows (Some state.0) others.0 others.1 in
    subst (λ (ss : List PlainNode). SayNodes (row ∷ rows) ss × Follow before ss) (ok_is (state.0 ∷ others.0) nodes others.2) ((here.0, later.0), (here.1, later.1))

rows_again : (rows : List (List ℕ)) (before : Option PlainNode) (nodes : List PlainNode) → SayNodes rows nodes → Follow before nodes → nodes_from before rows ≡ Ok nodes
rows_again [] before [] said follow = refl
rows_again [] before (s ∷ nodes) said follow = absurd said
rows_again (row ∷ rows) before [] said follow = absurd said
rows_again (row ∷ rows) before (s ∷ nodes) said follow =
    rw (fields_again before (fields row) s said.0 follow.0, rows_again rows (Some s) nodes said.1 follow.1) refl

-- rows that are read from the start say their nodes, each a step from the one before
pub nodes_are : (rows : List (List ℕ)) (nodes : List PlainNode) → nodes_from None rows ≡ Ok nodes → SayNodes rows nodes × AreNodeSteps nodes
nodes_are rows nodes e = let each = rows_are rows None nodes e in (each.0, steps_are nodes each.1)

pub nodes_again : (rows : List (List ℕ)) (nodes : List PlainNode) → SayNodes rows nodes → AreNodeSteps nodes → nodes_from None rows ≡ Ok nodes
nodes_again rows nodes said steps = rows_again rows None nodes said (steps_again nodes steps)

-- a number that is not at most another lies above it
pub above_if_not_le : (a b : ℕ) → is_le (nat_cmp a b) ≡ false → b < a
above_if_not_le a b h = grind (arith, nat_tests)

-- where one node comes after another, at most the longest step later, a leap second between them decides
pub leap_decides : (before state : PlainNode) (leap : Bool) → before.at < state.at → state.at ≤ before.at + MAX_STEP →
    leap_lies_between before.at state.at ≡ leap → following (Some before) state ≡ (if leap then Err causes.LeapSecond else Ok state)
leap_decides before state leap later near is = grind (arith, nat_tests)
