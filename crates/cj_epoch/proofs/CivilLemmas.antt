-- The day so many days after 1 January 1970 is jiff's date with that day count.
use Rattle.std.proofs.Common.{◌≡◌, ℕ, zero, suc, ◌+◌, ◌<◌, ◌≤◌, pos, ℤ, subst, arith, ap, ◌∙◌, sym, rules, refl, nat_lt, true, false, Bool, cond, inl, inr}
use Rattle.std.proofs.lemmas.Bool.{cases_order, ltb-true, ltb-false}
use Rattle.std.proofs.lemmas.Int.{by_lt_z}
use Rattle.jiff_core.specs.Calendar.{day_count, days_in_month, IsCivilDate}
use Rattle.jiff_core.proofs.SignedLemmas.{signed_arith}
use Rattle.jiff_core.proofs.CalendarLemmas.{day_count-epoch, day_count-next_year, day_count-next_month, day_count-day, day_count-last_of_year, day_count-lt_year, day_count-lt_month, days_in_month_bounds}
use Rattle.jiff_core.specs.declared.civil.date.Date.{Date}
use Rattle.cj_base.specs.Calendar.{Civil, civil_of, day_after}

-- the calendar has this day, and so many days lie between 1 January 1970 and it
pub record IsAt (n : ℕ) (c : Civil) : Type 0 where
  pub year_low : 1970 ≤ c.year
  pub month_low : 1 ≤ c.month
  pub month_high : c.month ≤ 12
  pub day_low : 1 ≤ c.day
  pub day_high : c.day ≤ days_in_month (pos c.year) c.month
  pub count : day_count (pos c.year) c.month c.day ≡ 4_371_953 + n

of_three : (P : Civil → Type 0) (a b : Bool) (x y z : Civil) → (a ≡ true → P x) → (a ≡ false → b ≡ true → P y) → (a ≡ false → b ≡ false → P z) → P (cond a x (cond b y z))
of_three P true b x y z f g h = f refl
of_three P false true x y z f g h = g refl refl
of_three P false false x y z f g h = h refl refl

next_day : (n : ℕ) (c : Civil) → IsAt n c → c.day < days_in_month (pos c.year) c.month → IsAt (suc n) (record { year = c.year; month = c.month; day = c.day + 1 })
next_day n c at within = record {
  year_low = at.year_low;
  month_low = at.month_low;
  month_high = at.month_high;
  day_low = omega arith;
  day_high = omega arith;
  count = omega (arith, at.count, day_count-day (pos c.year) c.month c.day (c.day + 1) at.day_low (omega arith));
}

next_month : (n : ℕ) (c : Civil) → IsAt n c → c.day ≡ days_in_month (pos c.year) c.month → c.month < 12 → IsAt (suc n) (record { year = c.year; month = c.month + 1; day = 1 })
next_month n c at last within = record {
  year_low = at.year_low;
  month_low = omega arith;
  month_high = omega arith;
  day_low = omega arith;
  day_high = omega (arith, days_in_month_bounds (pos c.year) (c.month + 1));
  count = omega (arith, at.count, day_count-next_month (pos c.year) c.month at.month_low, day_count-day (pos c.year) c.month c.day 1 at.day_low (omega arith));
}

next_year : (n : ℕ) (c : Civil) → IsAt n c → c.day ≡ days_in_month (pos c.year) c.month → c.month ≡ 12 → IsAt (suc n) (record { year = c.year + 1; month = 1; day = 1 })
next_year n c at last december =
    let thirty_one : c.day ≡ 31 = last ∙ ap (days_in_month (pos c.year)) december in
    let count : day_count (pos c.year) 12 31 ≡ 4_371_953 + n =
    sym (ap (λ (m : ℕ). day_count (pos c.year) m c.day) december ∙ ap (day_count (pos c.year) 12) thirty_one) ∙ at.count in
    record {
      year_low = omega (arith, at.year_low);
      month_low = omega arith;
      month_high = omega arith;
      day_low = omega arith;
      day_high = omega (arith, days_in_month_bounds (pos (c.year + 1)) 1);
      count = omega (arith, count, day_count-last_of_year (pos c.year), day_count-next_year (pos c.year) (pos (c.year + 1)) (search rules) refl);
    }

day_after-at : (n : ℕ) (c : Civil) → IsAt n c → IsAt (suc n) (day_after c)
day_after-at n c at =
    let long = days_in_month (pos c.year) c.month in
    of_three (IsAt (suc n)) (nat_lt c.day long) (nat_lt c.month 12) _ _ _
    (λ within. next_day n c at (ltb-true c.day long within))
    (λ last within. next_month n c at (omega (arith, ltb-false c.day long last, at.day_high)) (ltb-true c.month 12 within))
    (λ last december. next_year n c at (omega (arith, ltb-false c.day long last, at.day_high)) (omega (arith, ltb-false c.month 12 december, at.month_high)))

pub civil_of-at : (n : ℕ) → IsAt n (civil_of n)
unfolding civil_of
civil_of-at zero = record {
  year_low = omega arith;
  month_low = omega arith;
  month_high = omega arith;
  day_low = omega arith;
  day_high = omega (arith, days_in_month_bounds (pos 1970) 1);
  count = day_count-epoch;
}
civil_of-at (suc n) = day_after-at n (civil_of n) (civil_of-at n)

-- the date has these parts
pub record IsParts (c : Civil) (d : Date) : Type 0 where
  pub year : d.year ≡ pos c.year
  pub month : d.month ≡ c.month
  pub day : d.day ≡ c.day

same_year : (d : Date) (c : Civil) (n : ℕ) → IsAt n c → day_count d.year d.month d.day ≡ 4_371_953 + n → d.year ≡ pos c.year
same_year d c n at count =
    by_lt_z d.year (pos c.year)
    (λ earlier. absurd (omega (arith, at.count, day_count-lt_year d.year d.month d.day (pos c.year) c.month c.day (d.year_in, d.month_in, d.day_in) at.day_low earlier)))
    (λ not_earlier. by_lt_z (pos c.year) d.year
    (λ later.
    let civil : IsCivilDate (pos c.year) c.month c.day = ((omega (arith, signed_arith), omega (arith, signed_arith, d.year_in)), (at.month_low, at.month_high), (at.day_low, at.day_high)) in
    absurd (omega (arith, at.count, day_count-lt_year (pos c.year) c.month c.day d.year d.month d.day civil d.day_in.0 later)))
    (λ not_later. omega (arith, signed_arith)))

-- a date with the same count has the same parts
pub same_parts : (d : Date) (c : Civil) (n : ℕ) → IsAt n c → day_count d.year d.month d.day ≡ 4_371_953 + n → IsParts c d
same_parts d c n at count =
    let year : d.year ≡ pos c.year = same_year d c n at count in
    let here : day_count (pos c.year) d.month d.day ≡ 4_371_953 + n = subst (λ (y : ℤ). day_count y d.month d.day ≡ 4_371_953 + n) year count in
    let dated : IsCivilDate (pos c.year) d.month d.day = subst (λ (y : ℤ). IsCivilDate y d.month d.day) year (d.year_in, d.month_in, d.day_in) in
    let civil : IsCivilDate (pos c.year) c.month c.day = (dated.0, (at.month_low, at.month_high), (at.day_low, at.day_high)) in
    let month : d.month ≡ c.month = elim (cases_order d.month c.month) [
      | inr (inl lt) ↦ absurd (omega (arith, here, at.count, day_count-lt_month (pos c.year) d.month d.day c.month c.day dated at.day_low lt))
      | inl same ↦ same
      | inr (inr gt) ↦ absurd (omega (arith, here, at.count, day_count-lt_month (pos c.year) c.month c.day d.month d.day civil d.day_in.0 gt))
    ] in
    let there : day_count (pos c.year) c.month d.day ≡ 4_371_953 + n = subst (λ (m : ℕ). day_count (pos c.year) m d.day ≡ 4_371_953 + n) month here in
    record {
      year = year;
      month = month;
      day = omega (arith, there, at.count, day_count-day (pos c.year) c.month c.day d.day at.day_low d.day_in.0);
    }
