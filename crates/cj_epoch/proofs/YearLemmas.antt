-- The years of ticks by jiff's day counts.
use Rattle.std.proofs.Common.{◌≡◌, ℕ, zero, suc, ◌+◌, ◌-◌, ◌<◌, ◌≤◌, pos, negsuc, ◌+ℤ◌, ◌≤ℤ◌, ℤ, unsigned_abs, subst, arith, ap, ◌∙◌, sym, rules, refl, true, false, Bool, cond, Some, None, inl, inr}
use Rattle.std.specs.Prelude.{◌&&◌, IsTrue}
use Rattle.std.specs.Int.{IsInRange}
use Rattle.std.proofs.lemmas.Bool.Decides.{nat_tests}
use Rattle.std.proofs.lemmas.Bool.{cases_lt}
use Rattle.jiff_core.specs.Calendar.{day_count, day_of_year, days_in_month, days_in_year, IsCivilDate}
use Rattle.jiff_core.proofs.SignedLemmas.{signed_arith}
use Rattle.jiff_core.proofs.CalendarLemmas.{day_count-epoch, day_count-next_year, day_count-day_of_year, day_of_year_bound}
use Rattle.jiff_core.specs.declared.civil.date.Date.{Date}
use Rattle.cj_base.specs.Calendar.{days_of_years, day_of_date, day_of_ordinal, is_year, is_date, is_ordinal, day_at_date, day_at_ordinal}
use Rattle.cj_base.specs.Ticks.{IsTickDay}

pub january : (n : ℕ) → day_count (pos (1970 + n)) 1 1 ≡ 4_371_953 + days_of_years n
unfolding days_of_years
january zero = day_count-epoch
january (suc n) =
    let next : pos (1970 + suc n) ≡ pos (1970 + n) +ℤ pos 1 = ap (λ (m : ℕ). pos m) (omega arith) in
    omega (arith, day_count-next_year (pos (1970 + n)) (pos (1970 + suc n)) (search rules) next, january n)

pub january_of : (y : ℕ) → 1970 ≤ y → day_count (pos y) 1 1 ≡ 4_371_953 + days_of_years (y - 1970)
january_of y low =
    let at : 1970 + (y - 1970) ≡ y = omega arith in
    subst (λ (z : ℕ). day_count (pos z) 1 1 ≡ 4_371_953 + days_of_years (y - 1970)) at (january (y - 1970))

year_more : (n : ℕ) → days_of_years (suc n) ≡ days_of_years n + days_in_year (pos (1970 + n))
unfolding days_of_years
year_more n = refl

years_grow : (n k : ℕ) → days_of_years n ≤ days_of_years (k + n)
years_grow n zero = let same : 0 + n ≡ n = omega arith in rw same (omega arith)
years_grow n (suc k) =
    let next : suc k + n ≡ suc (k + n) = omega arith in
    rw next (omega (arith, years_grow n k, year_more (k + n)))

years_mono : (m n : ℕ) → m ≤ n → days_of_years m ≤ days_of_years n
years_mono m n le = let same : n - m + m ≡ n = omega arith in rw same at (years_grow m (n - m))

years_first : days_of_years 2 ≡ 730
unfolding days_of_years
years_first = refl

years_last : days_of_years 130 ≡ 47_482
unfolding days_of_years
years_last = refl

year_end : (y k : ℕ) → 1970 ≤ y → y < 1970 + k → days_of_years (y - 1970) + days_in_year (pos y) ≤ days_of_years k
year_end y k low high =
    let at : 1970 + (y - 1970) ≡ y = omega arith in
    let this : days_of_years (suc (y - 1970)) ≡ days_of_years (y - 1970) + days_in_year (pos y) =
    subst (λ (z : ℕ). days_of_years (suc (y - 1970)) ≡ days_of_years (y - 1970) + days_in_year (pos z)) at (year_more (y - 1970)) in
    omega (arith, this, years_mono (suc (y - 1970)) k (omega arith))

-- a year of ticks begins and ends among the days of ticks
year_within : (y : ℕ) → 1972 ≤ y → y ≤ 2099 → (730 ≤ days_of_years (y - 1970)) × (days_of_years (y - 1970) + days_in_year (pos y) ≤ 47_482)
year_within y low high =
    omega (arith, years_first, years_last, years_mono 2 (y - 1970) (omega arith), year_end y 130 (omega arith) (omega arith))

-- the year of a day among the days of ticks
pub year_of_tick : (y m k n : ℕ) → 1970 ≤ y → IsInRange 1 12 m → IsInRange 1 (days_in_month (pos y) m) k → day_count (pos y) m k ≡ 4_371_953 + n → IsTickDay n → (1972 ≤ y) × (y ≤ 2099)
year_of_tick y m k n low month day count within =
    let placed = day_count-day_of_year (pos y) m k day.0 in
    let start = january_of y low in (
      elim (cases_lt y 1972) [
        | inl early ↦
            let civil : IsCivilDate (pos y) m k = ((omega (arith, signed_arith), omega (arith, signed_arith)), month, day) in
            absurd (omega (arith, count, placed, start, years_first, day_of_year_bound (pos y) m k civil, year_end y 2 low (omega arith)))
        | inr late ↦ late
      ],
      elim (cases_lt 2099 y) [
        | inl late ↦ absurd (omega (arith, count, placed, start, years_last, day.0, years_mono 130 (y - 1970) (omega arith)))
        | inr early ↦ early
      ],
    )

natural : (z : ℤ) → pos 1972 ≤ℤ z → z ≡ pos (unsigned_abs z)
natural (pos n) low = refl
natural (negsuc n) low = absurd (omega (arith, signed_arith))

-- a date in the years of ticks lies among the days of ticks
pub date_within : (d : Date) (n : ℕ) → pos 1972 ≤ℤ d.year → d.year ≤ℤ pos 2099 → day_count d.year d.month d.day ≡ n → (4_372_683 ≤ n) × (n ≤ 4_419_434)
date_within d n low high count =
    let y = unsigned_abs d.year in
    let year : d.year ≡ pos y = natural d.year low in
    let civil : IsCivilDate (pos y) d.month d.day = subst (λ (z : ℤ). IsCivilDate z d.month d.day) year (d.year_in, d.month_in, d.day_in) in
    let here : day_count (pos y) d.month d.day ≡ n = subst (λ (z : ℤ). day_count z d.month d.day ≡ n) year count in
    let y_low : 1972 ≤ y = omega (arith, signed_arith, subst (λ (z : ℤ). pos 1972 ≤ℤ z) year low) in
    let y_high : y ≤ 2099 = omega (arith, signed_arith, subst (λ (z : ℤ). z ≤ℤ pos 2099) year high) in
    omega (arith, here, january_of y (omega arith), year_within y y_low y_high, day_count-day_of_year (pos y) d.month d.day d.day_in.0, day_of_year_bound (pos y) d.month d.day civil)

-- the days before a date, by its month and day
pub days_of_date : (y m k n : ℕ) → 1970 ≤ y → 1 ≤ k → day_count (pos y) m k ≡ 4_371_953 + n → n ≡ day_of_date y m k
days_of_date y m k n low first count =
    omega (arith, count, january_of y low, day_count-day_of_year (pos y) m k first)

holds : (a : Bool) (n k : ℕ) → IsTrue a → n ≡ k → Some n ≡ cond a (Some k) None
holds true n k h e = ap (λ (i : ℕ). Some i) e
holds false n k h e = absurd cc

-- the day that the parts of a date name
pub date_named : (y m k n : ℕ) → 1972 ≤ y → y ≤ 2099 → IsCivilDate (pos y) m k → day_count (pos y) m k ≡ n + 4_371_953 → Some n ≡ day_at_date y m k
date_named y m k n low high civil count =
    let m_low : 1 ≤ m = civil.1.0 in
    let m_high : m ≤ 12 = civil.1.1 in
    let k_low : 1 ≤ k = civil.2.0 in
    let k_high : k ≤ days_in_month (pos y) m = civil.2.1 in
    holds (is_year y && is_date y m k) n (day_of_date y m k) (grind (arith, nat_tests)) (days_of_date y m k n (omega arith) k_low (omega arith))

-- the day that a date of these parts names
pub date_read : (y m k n : ℕ) (d : Date) → 1972 ≤ y → y ≤ 2099 → d.year ≡ pos y → d.month ≡ m → d.day ≡ k → n + 4_371_953 ≡ day_count d.year d.month d.day → Some n ≡ day_at_date y m k
date_read y m k n d low high year month day count =
    let civil : IsCivilDate (pos y) m k =
    subst (λ (i : ℕ). IsCivilDate (pos y) m i) day
    (subst (λ (i : ℕ). IsCivilDate (pos y) i d.day) month
    (subst (λ (z : ℤ). IsCivilDate z d.month d.day) year (d.year_in, d.month_in, d.day_in))) in
    let same : day_count d.year d.month d.day ≡ day_count (pos y) m k =
    ap (λ (z : ℤ). day_count z d.month d.day) year ∙ ap (λ (i : ℕ). day_count (pos y) i d.day) month ∙ ap (day_count (pos y) m) day in
    date_named y m k n low high civil (sym same ∙ sym count)

-- the day that a date at this place in the year names
pub ordinal_read : (y k n : ℕ) (d : Date) → 1972 ≤ y → y ≤ 2099 → d.year ≡ pos y → day_of_year d.year d.month d.day ≡ k → n + 4_371_953 ≡ day_count d.year d.month d.day → Some n ≡ day_at_ordinal y k
ordinal_read y k n d low high year place count =
    let here : n + 4_371_953 ≡ day_count (pos y) d.month d.day = subst (λ (z : ℤ). n + 4_371_953 ≡ day_count z d.month d.day) year count in
    let placed : day_of_year (pos y) d.month d.day ≡ k = subst (λ (z : ℤ). day_of_year z d.month d.day ≡ k) year place in
    let civil : IsCivilDate (pos y) d.month d.day = subst (λ (z : ℤ). IsCivilDate z d.month d.day) year (d.year_in, d.month_in, d.day_in) in
    let k_low : 1 ≤ k = omega (arith, placed, d.day_in.0) in
    let k_high : k ≤ days_in_year (pos y) = omega (arith, placed, day_of_year_bound (pos y) d.month d.day civil) in
    holds (is_year y && is_ordinal y k) n (day_of_ordinal y k) (grind (arith, nat_tests)) (omega (arith, here, placed, january_of y (omega arith), day_count-day_of_year (pos y) d.month d.day d.day_in.0))
