-- The lines of a relative state, within a message.
use Rattle.std.proofs.Common.{◌≡◌, ℕ, Bool, true, false, List, [], ◌++◌, ap, sym, ◌∙◌, refl, subst, append_assoc, append-nil, Option, Some, None, Result, Ok, ℤ, pos, ◌^◌, arith}
use Rattle.std.specs.Prelude.{nat_eq, if◌then◌else◌, codes, IfSome, FitsSigned, neg_ℤ, int_le, int_lt, ◌≤ℤ◌, ◌<ℤ◌}
use Rattle.std.proofs.lemmas.Bool.{and_from}
use Rattle.std.proofs.lemmas.Int.{ints}
use mir.Syntax.{w64}
use Rattle.std.specs.List.{list_any, starts_with}
use Rattle.cj_base.specs.Bytes.{is_feed}
use Rattle.cj_kvn.specs.Faults.{◌>>=◌ as and_then}
use Rattle.cj_interval.proofs.IntegerLemmas.{le_test}
use Rattle.cj_rtn.specs.declared.relative.AxisValues.{AxisValues}
use Rattle.cj_rtn.specs.declared.relative.Rtn.{Rtn}
use Rattle.cj_cdm.specs.Fits.{Fits, IsSide}
use Rattle.cj_cdm.specs.Messages.{PlainMessage, PlainSide}
use Rattle.cj_cdm.specs.Reading.{Fault, Front, Period, Reading, Rest, axis_values_said, ended, entry_said, front_said, give, message_with_said, perhaps, period_said, reading_with, relative_said, side_said, ◌>>=◌}
use Rattle.cj_cdm.specs.Relative.{AreAxisValues, IsRelative, relative_text, text_with}
use Rattle.cj_cdm.specs.Texts.{front_text, heading_text, metres, quantity, side_text, text_of}
use Rattle.cj_cdm.specs.Values.{axis_value_said, is_axis_value}
use Rattle.cj_cdm.proofs.ExactLemmas.{Anything, IsExact, given, in_order, ok_is, refitted, retold, stepped}
use Rattle.cj_cdm.proofs.FigureLemmas.{axis_value_law}
use Rattle.cj_cdm.proofs.GrammarLemmas.{FrontFits, PeriodFits, ended_is, entry_exact, front_exact, front_fits, front_of, front_parts, front_told, message_fits, period_exact, period_fits, period_of, period_parts, period_told, side_exact}

-- ---- three values along axes
abbrev make_values : ℤ → ℤ → ℤ → AxisValues
make_values r t n = record { r = r; t = t; n = n }

abbrev values_parts : List ℕ → List ℕ → List ℕ → List ℕ → AxisValues → List ℕ
values_parts kr kt kn unit v = quantity kr (metres v.r) unit ++ (quantity kt (metres v.t) unit ++ (quantity kn (metres v.n) unit ++ []))

value_exact : (key unit : List ℕ) → list_any is_feed key ≡ false → list_any is_feed unit ≡ false
    → IsExact (entry_said key (axis_value_said unit)) (λ z. quantity key (metres z) unit) Anything (λ z. is_axis_value z ≡ true)
value_exact key unit free none = entry_exact key (axis_value_said unit) (λ z. metres z ++ codes " [" ++ unit ++ codes "]") (λ z. is_axis_value z ≡ true) free (axis_value_law unit none)

values_exact : (kr kt kn unit : List ℕ) → list_any is_feed kr ≡ false → list_any is_feed kt ≡ false → list_any is_feed kn ≡ false → list_any is_feed unit ≡ false
    → IsExact (axis_values_said kr kt kn unit) (values_parts kr kt kn unit) Anything AreAxisValues
unfolding axis_values_said
values_exact kr kt kn unit fr ft fn free =
    refitted _ _ _ _ AreAxisValues to from (
    in_order _ _ _ _ (λ v. v.r) _ Anything _ (value_exact kr unit fr free) (λ r rf.
    in_order _ _ _ _ (λ v. v.t) _ (λ v. (v.r ≡ r) × Anything v) _ (value_exact kt unit ft free) (λ t tf.
    in_order _ _ _ _ (λ v. v.n) _ (λ v. (v.t ≡ t) × ((v.r ≡ r) × Anything v)) _ (value_exact kn unit fn free) (λ n nf.
    given (make_values r t n) (λ v. (v.n ≡ n) × ((v.t ≡ t) × ((v.r ≡ r) × Anything v))) (refl, (refl, (refl, tt))) (alone r t n)))))
  where
    alone : (r t n : ℤ) (v : AxisValues) → (v.n ≡ n) × ((v.t ≡ t) × ((v.r ≡ r) × Anything v)) → make_values r t n ≡ v
    alone r t n v e = ap (λ (c : ℤ). make_values c t n) (sym e.1.1.0) ∙ ap (λ (c : ℤ). make_values v.r c n) (sym e.1.0) ∙ ap (λ (c : ℤ). make_values v.r v.t c) (sym e.0)

    to : (v : AxisValues) → (is_axis_value v.r ≡ true) × ((is_axis_value v.t ≡ true) × ((is_axis_value v.n ≡ true) × Anything v)) → AreAxisValues v
    to v f = record { of_r = f.0; of_t = f.1.0; of_n = f.1.1.0 }

    from : (v : AxisValues) → AreAxisValues v → (is_axis_value v.r ≡ true) × ((is_axis_value v.t ≡ true) × ((is_axis_value v.n ≡ true) × Anything v))
    from v f = (f.of_r, (f.of_t, (f.of_n, tt)))

-- ---- the six lines
abbrev place_parts : AxisValues → List ℕ
place_parts v = values_parts (codes "RELATIVE_POSITION_R") (codes "RELATIVE_POSITION_T") (codes "RELATIVE_POSITION_N") (codes "m") v

abbrev rate_parts : AxisValues → List ℕ
rate_parts v = values_parts (codes "RELATIVE_VELOCITY_R") (codes "RELATIVE_VELOCITY_T") (codes "RELATIVE_VELOCITY_N") (codes "m/s") v

abbrev relative_parts : Rtn → List ℕ
relative_parts x = place_parts x.place ++ (rate_parts x.rate ++ [])

six : (a b c d e f : List ℕ) → (a ++ (b ++ (c ++ []))) ++ ((d ++ (e ++ (f ++ []))) ++ []) ≡ a ++ b ++ c ++ d ++ e ++ f
six a b c d e f = simp (append_assoc, append-nil)

relative_told : (x : Rtn) → relative_parts x ≡ relative_text x
unfolding relative_text
relative_told x =
    six (quantity (codes "RELATIVE_POSITION_R") (metres x.place.r) (codes "m")) (quantity (codes "RELATIVE_POSITION_T") (metres x.place.t) (codes "m"))
    (quantity (codes "RELATIVE_POSITION_N") (metres x.place.n) (codes "m")) (quantity (codes "RELATIVE_VELOCITY_R") (metres x.rate.r) (codes "m/s"))
    (quantity (codes "RELATIVE_VELOCITY_T") (metres x.rate.t) (codes "m/s")) (quantity (codes "RELATIVE_VELOCITY_N") (metres x.rate.n) (codes "m/s"))

abbrev make_relative : AxisValues → AxisValues → Rtn
make_relative place rate = record { place = place; rate = rate }

relative_exact : IsExact relative_said relative_text Anything IsRelative
unfolding relative_said
relative_exact =
    retold _ relative_parts relative_text _ _ (λ x same. relative_told x) (
    refitted _ _ _ _ IsRelative to from (
    in_order _ _ place_parts _ (λ x. x.place) AreAxisValues Anything _
    (values_exact (codes "RELATIVE_POSITION_R") (codes "RELATIVE_POSITION_T") (codes "RELATIVE_POSITION_N") (codes "m") refl refl refl refl) (λ p pf.
    in_order _ _ rate_parts _ (λ x. x.rate) AreAxisValues (λ x. (x.place ≡ p) × Anything x) _
    (values_exact (codes "RELATIVE_VELOCITY_R") (codes "RELATIVE_VELOCITY_T") (codes "RELATIVE_VELOCITY_N") (codes "m/s") refl refl refl refl) (λ v vf.
    given (make_relative p v) (λ x. (x.rate ≡ v) × ((x.place ≡ p) × Anything x)) (refl, (refl, tt)) (alone p v)))))
  where
    alone : (p v : AxisValues) (x : Rtn) → (x.rate ≡ v) × ((x.place ≡ p) × Anything x) → make_relative p v ≡ x
    alone p v x e = ap (λ (k : AxisValues). make_relative k v) (sym e.1.0) ∙ ap (λ (k : AxisValues). make_relative x.place k) (sym e.0)

    to : (x : Rtn) → AreAxisValues x.place × (AreAxisValues x.rate × Anything x) → IsRelative x
    to x f = record { placed = f.0; moved = f.1.0 }

    from : (x : Rtn) → IsRelative x → AreAxisValues x.place × (AreAxisValues x.rate × Anything x)
    from x f = (f.placed, (f.moved, tt))

-- ---- the lines, or none
abbrev perhaps_parts : Option Rtn → List ℕ
perhaps_parts None = []
perhaps_parts (Some x) = relative_text x

abbrev first_key : List ℕ
first_key = codes "RELATIVE_POSITION_R = "

abbrev perhaps_said : Reading (Option Rtn)
perhaps_said = perhaps first_key relative_said

abbrev found : Rtn × Rest → Result (Option Rtn × Rest) Fault
found x = Ok (Some x.0, x.1)

relative_only : (r s : Rest) (o : Option Rtn) → perhaps_said r ≡ Ok (o, s) → (r.text ≡ perhaps_parts o ++ s.text) × IfSome o IsRelative
unfolding perhaps
relative_only r s o h = by_front (starts_with nat_eq r.text first_key) h
  where
    by_front : (b : Bool) → (if b then and_then (relative_said r) found else Ok (None, r)) ≡ Ok (o, s) → (r.text ≡ perhaps_parts o ++ s.text) × IfSome o IsRelative
    by_front true h =
        let one = stepped (relative_said r) found (o, s) h in
        let both : (Some one.0.0, one.0.1) ≡ (o, s) = ok_is (Some one.0.0, one.0.1) (o, s) (Ok (Some one.0.0, one.0.1)) refl one.2 in
        let was = relative_exact.only r one.0.1 one.0.0 one.1 in
        subst (λ (p : Option Rtn × Rest). (r.text ≡ perhaps_parts p.0 ++ p.1.text) × IfSome p.0 IsRelative) both (was.0, was.2)
    by_front false h =
        let both : (None, r) ≡ (o, s) = ok_is (None, r) (o, s) (Ok (None, r)) refl h in
        subst (λ (p : Option Rtn × Rest). (r.text ≡ perhaps_parts p.0 ++ p.1.text) × IfSome p.0 IsRelative) both (refl, tt)

first_stands : (x : Rtn) (behind : List ℕ) → starts_with nat_eq (relative_text x ++ behind) first_key ≡ true
unfolding relative_text
first_stands x behind = refl

relative_again : (o : Option Rtn) (behind : List ℕ) (line : ℕ) → IfSome o IsRelative → starts_with nat_eq behind first_key ≡ false
    → (k : ℕ) × (perhaps_said (record { text = perhaps_parts o ++ behind; line = line }) ≡ Ok (o, record { text = behind; line = k }))
unfolding perhaps
relative_again None behind line fit other = (line, rw other refl)
relative_again (Some x) behind line fit other =
    let was = relative_exact.again x behind line tt fit in
    (was.0, rw (first_stands x behind) (ap (λ (q : Result (Rtn × Rest) Fault). and_then q found) was.1))

-- ---- what stands behind the front and the lines
abbrev With : Type 0
With = PlainMessage × Option Rtn

abbrev message_by : Front → Period → PlainSide → PlainSide → PlainMessage
message_by f p a b = record { stamp = f.stamp; tca = f.tca; miss = f.miss; start = p.start; stop = p.stop; object1 = a; object2 = b }

abbrev behind_said : Front → Option Rtn → Reading With
behind_said f x = period_said >>= λ p. side_said (codes "OBJECT1") >>= λ a. side_said (codes "OBJECT2") >>= λ b. give (message_by f p a b, x)

abbrev behind_parts : With → List ℕ
behind_parts z = period_parts (period_of z.0) ++ (side_text (codes "OBJECT1") z.0.object1 ++ (side_text (codes "OBJECT2") z.0.object2 ++ []))

abbrev BehindFits : With → Type 0
BehindFits z = PeriodFits (period_of z.0) × (IsSide z.0.object1 × (IsSide z.0.object2 × Anything z))

abbrev IsBehind : Front → Option Rtn → With → Type 0
IsBehind f x z = (z.1 ≡ x) × (front_of z.0 ≡ f)

abbrev IsWhole : Front → Option Rtn → Period → PlainSide → PlainSide → With → Type 0
IsWhole f x p a b z = (z.0.object2 ≡ b) × ((z.0.object1 ≡ a) × ((period_of z.0 ≡ p) × IsBehind f x z))

behind_exact : (f : Front) (x : Option Rtn) → IsExact (behind_said f x) behind_parts (IsBehind f x) BehindFits
behind_exact f x =
    in_order _ _ period_parts _ (λ z. period_of z.0) PeriodFits (IsBehind f x) _ period_exact (λ p pf.
    in_order _ _ (side_text (codes "OBJECT1")) _ (λ z. z.0.object1) IsSide (λ z. (period_of z.0 ≡ p) × IsBehind f x z) _ (side_exact (codes "OBJECT1") refl) (λ a af.
    in_order _ _ (side_text (codes "OBJECT2")) _ (λ z. z.0.object2) IsSide (λ z. (z.0.object1 ≡ a) × ((period_of z.0 ≡ p) × IsBehind f x z)) _ (side_exact (codes "OBJECT2") refl) (λ b bf.
    given (message_by f p a b, x) (IsWhole f x p a b) (refl, (refl, (refl, (refl, refl)))) (alone p a b))))
  where
    alone : (p : Period) (a b : PlainSide) (z : With) → IsWhole f x p a b z → (message_by f p a b, x) ≡ z
    alone p a b z is =
        ap (λ (k : Front). (message_by k p a b, x)) (sym is.1.1.1.1) ∙ ap (λ (k : Period). (message_by (front_of z.0) k a b, x)) (sym is.1.1.0)
        ∙ ap (λ (k : PlainSide). (message_by (front_of z.0) (period_of z.0) k b, x)) (sym is.1.0)
        ∙ ap (λ (k : PlainSide). (message_by (front_of z.0) (period_of z.0) z.0.object1 k, x)) (sym is.0)
        ∙ ap (λ (k : Option Rtn). (z.0, k)) (sym is.1.1.1.0)

-- ---- the whole
three : (f r p x y : List ℕ) → f ++ (r ++ (p ++ (x ++ (y ++ [])))) ≡ f ++ r ++ p ++ x ++ y
three f r p x y = simp (append_assoc, append-nil)

none_told : (f p x y : List ℕ) → f ++ (p ++ (x ++ (y ++ []))) ≡ (f ++ p) ++ x ++ y
none_told f p x y = simp (append_assoc, append-nil)

with_told : (m : PlainMessage) (x : Option Rtn) → front_parts (front_of m) ++ (perhaps_parts x ++ behind_parts (m, x)) ≡ text_with x m
unfolding text_with text_of heading_text
with_told m None =
    let a = side_text (codes "OBJECT1") m.object1 in
    let b = side_text (codes "OBJECT2") m.object2 in
    none_told (front_parts (front_of m)) (period_parts (period_of m)) a b
    ∙ ap (λ (t : List ℕ). (t ++ period_parts (period_of m)) ++ a ++ b) (front_told m)
    ∙ ap (λ (t : List ℕ). (front_text m ++ t) ++ a ++ b) (period_told m)
with_told m (Some x) =
    let a = side_text (codes "OBJECT1") m.object1 in
    let b = side_text (codes "OBJECT2") m.object2 in
    three (front_parts (front_of m)) (relative_text x) (period_parts (period_of m)) a b
    ∙ ap (λ (t : List ℕ). t ++ relative_text x ++ period_parts (period_of m) ++ a ++ b) (front_told m)
    ∙ ap (λ (t : List ℕ). front_text m ++ relative_text x ++ t ++ a ++ b) (period_told m)

-- parts of a message that are what is left, one behind another
in_parts : (f : Front) (x : Option Rtn) (z : With) (text left last end : List ℕ) → text ≡ front_parts f ++ left → left ≡ perhaps_parts x ++ last → last ≡ behind_parts z ++ end → end ≡ []
    → IsBehind f x z → text ≡ text_with z.1 z.0
in_parts f x z text left last end first second third none is =
    first ∙ ap (λ (t : List ℕ). front_parts f ++ t) (second ∙ ap (λ (t : List ℕ). perhaps_parts x ++ t) (third ∙ ap (λ (t : List ℕ). behind_parts z ++ t) none ∙ append-nil (behind_parts z)))
    ∙ ap (λ (k : Front). front_parts k ++ (perhaps_parts x ++ behind_parts z)) (sym is.1)
    ∙ ap (λ (k : Option Rtn). front_parts (front_of z.0) ++ (perhaps_parts k ++ behind_parts z)) (sym is.0)
    ∙ with_told z.0 z.1

-- what is read is the text of the message with the relative state, and both fit
pub with_only : (text : List ℕ) (z : With) → reading_with text ≡ Ok z → (text ≡ text_with z.1 z.0) × Fits z.0 × IfSome z.1 IsRelative
unfolding reading_with message_with_said
with_only text z h =
    let start : Rest = record { text = text; line = 1 } in
    let read = stepped (message_with_said start) ended z h in
    let end = ended_is read.0 z read.2 in
    let one = stepped (front_said start) (λ y. (perhaps_said >>= λ x. behind_said y.0 x) y.1) read.0 read.1 in
    let two = stepped (perhaps_said one.0.1) (λ y. behind_said one.0.0 y.0 y.1) read.0 one.2 in
    let front = front_exact.only start one.0.1 one.0.0 one.1 in
    let lines = relative_only one.0.1 two.0.1 two.0.0 two.1 in
    let rest = (behind_exact one.0.0 two.0.0).only two.0.1 read.0.1 read.0.0 two.2 in
    let same = in_parts one.0.0 two.0.0 read.0.0 text one.0.1.text two.0.1.text read.0.1.text front.0 lines.0 rest.0 end.1 rest.1 in
    let fits = message_fits read.0.0.0 (subst FrontFits (sym rest.1.1) front.2) rest.2.0 rest.2.1.0 rest.2.1.1.0 in
    let state = subst (λ (o : Option Rtn). IfSome o IsRelative) (sym rest.1.0) lines.1 in
    subst (λ (y : With). (text ≡ text_with y.1 y.0) × Fits y.0 × IfSome y.1 IsRelative) end.0 (same, fits, state)

other_stands : (z : With) → starts_with nat_eq (behind_parts z ++ []) first_key ≡ false
other_stands z = refl

-- the text of each message with a relative state, or without one, is read as both, where they fit
pub with_again : (m : PlainMessage) (x : Option Rtn) → Fits m → IfSome x IsRelative → reading_with (text_with x m) ≡ Ok (m, x)
unfolding reading_with message_with_said
with_again m x fit state =
    let f = front_of m in
    let left = behind_parts (m, x) ++ [] in
    let one = front_exact.again f (perhaps_parts x ++ left) 1 tt (front_fits m fit) in
    let two = relative_again x left one.0 state (other_stands (m, x)) in
    let three = (behind_exact f x).again (m, x) [] two.0 (refl, refl) (period_fits m fit, (fit.first, (fit.second, tt))) in
    let text : text_with x m ≡ front_parts f ++ (perhaps_parts x ++ left) =
    sym (ap (λ (t : List ℕ). front_parts f ++ (perhaps_parts x ++ t)) (append-nil (behind_parts (m, x))) ∙ with_told m x) in
    ap (λ (t : List ℕ). and_then (message_with_said (record { text = t; line = 1 })) ended) text
    ∙ ap (λ (q : Result (Front × Rest) Fault). and_then (and_then q (λ y. (perhaps_said >>= λ o. behind_said y.0 o) y.1)) ended) one.1
    ∙ ap (λ (q : Result (Option Rtn × Rest) Fault). and_then (and_then q (λ y. behind_said f y.0 y.1)) ended) two.1
    ∙ ap (λ (q : Result (With × Rest) Fault). and_then q ended) three.1

-- a text that is read, as it was told
pub with_told_again : (text : List ℕ) (q : Result With Fault) → q ≡ reading_with text → (m : PlainMessage) (x : Option Rtn) → Fits m → IfSome x IsRelative → text ≡ text_with x m → q ≡ Ok (m, x)
with_told_again text q is m x fit state same = is ∙ ap reading_with same ∙ with_again m x fit state

-- ---- what is there as numbers of 64 bits is read
lt_test : (x y : ℤ) → x <ℤ y → int_lt x y ≡ true
lt_test x y h = grind (arith, ints)

value_fits : (z : ℤ) → FitsSigned w64 z → is_axis_value z ≡ true
value_fits z f =
    let low : neg_ℤ (pos (2 ^ 63)) ≤ℤ z = omega (arith, ints) in
    let high : z <ℤ pos (2 ^ 63) = omega (arith, ints) in
    and_from (int_le (neg_ℤ (pos (2 ^ 63))) z) (int_lt z (pos (2 ^ 63))) (le_test (neg_ℤ (pos (2 ^ 63))) z low) (lt_test z (pos (2 ^ 63)) high)

pub values_fit : (r t n : ℤ) → FitsSigned w64 r → FitsSigned w64 t → FitsSigned w64 n → AreAxisValues (make_values r t n)
values_fit r t n fr ft fn = record { of_r = value_fits r fr; of_t = value_fits t ft; of_n = value_fits n fn }
