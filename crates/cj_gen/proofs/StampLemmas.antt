-- The epochs of a catalogue are read: those of whole minutes, to the second.
use Rattle.std.proofs.Common.{◌≡◌, ℕ, ◌%◌, ◌≤◌, List, [], ◌∷◌, ◌++◌, Bool, true, length, take, drop, Option, Some, None, Result, Ok, Err, sym, subst, ◌∙◌, refl, arith}
use Rattle.std.specs.Prelude.{nat_lt, codes}
use Rattle.std.specs.List.{list_all}
use Rattle.std.proofs.lemmas.Bool.{and_parts}
use Rattle.std.proofs.lemmas.List.Folds.{list_all-append}
use Rattle.jiff_core.specs.Calendar.{days_of_months}
use Rattle.cj_epoch.specs.declared.fault.EpochFault.{EpochFault}
use Rattle.cj_base.specs.Calendar.{day_at_date, days_of_years}
use Rattle.cj_epoch.specs.Picture.{begins_like, number_at}
use Rattle.cj_epoch.specs.Reading.{CALENDAR, calendar_reading, clock_at, moment_of, reading_of}
use Rattle.cj_base.specs.Ticks.{IsTick, SECOND}
use Rattle.cj_epoch.specs.Written.{epoch_of, six}
use Rattle.cj_epoch.proofs.WrittenLemmas.{epoch_of-read, begins, read_by_calendar}
use Rattle.cj_oem.proofs.PrintedNumberLemmas.{epoch_field, field_is}
use Rattle.cj_oem.proofs.PrintedRowLemmas.{is_field, is_figure_byte}
use Rattle.cj_gen.specs.Texts.{stamp}
use Rattle.cj_gen.specs.MadeTracks.{tick_at}

-- ---- fields

front_all : (p : ℕ → Bool) (xs ys : List ℕ) → list_all p (xs ++ ys) ≡ true → list_all p xs ≡ true
front_all p xs ys all = (and_parts (list_all p xs) (list_all p ys) (sym (list_all-append p xs ys) ∙ all)).0

pub stamp_field : (n : ℕ) → is_field (stamp n) ≡ true
unfolding stamp epoch_of
stamp_field n =
    let text = epoch_of (tick_at n) in
    let all = (and_parts (nat_lt 0 (length text)) (list_all is_figure_byte text) (epoch_field (tick_at n))).1 in
    field_is (take 19 text) (omega arith) (front_all is_figure_byte (take 19 text) (drop 19 text) all)

-- ---- what they say

-- six zeros behind the second may be left out
without_zeros : (day : Option ℕ) (second : Result ℕ EpochFault) (t : ℕ) → moment_of day second (46 ∷ 48 ∷ 48 ∷ 48 ∷ 48 ∷ 48 ∷ 48 ∷ []) ≡ Ok t → moment_of day second [] ≡ Ok t
without_zeros None second t h = absurd cc
without_zeros (Some d) (Err e) t h = absurd cc
without_zeros (Some d) (Ok s) t h = h

cut_said : (t : ℕ) → t % SECOND ≡ 0 → calendar_reading (epoch_of t) ≡ Ok t → calendar_reading (take 19 (epoch_of t)) ≡ Ok t
unfolding epoch_of calendar_reading
cut_said t whole h =
    let text = take 19 (epoch_of t) in
    let day = day_at_date (number_at CALENDAR text "Y") (number_at CALENDAR text "M") (number_at CALENDAR text "D") in
    let second = clock_at CALENDAR text in
    without_zeros day second t (subst (λ (z : ℕ). moment_of day second (46 ∷ six z) ≡ Ok t) whole h)

cut_begins : (t : ℕ) → begins_like CALENDAR (take 19 (epoch_of t)) ≡ true
unfolding epoch_of
cut_begins t = begins t

pub is_tick : (n : ℕ) → n ≤ 1440 → IsTick (tick_at n)
is_tick n few = (omega arith, omega arith)

pub stamp_read : (n : ℕ) → n ≤ 1440 → reading_of (stamp n) ≡ Ok (tick_at n)
unfolding stamp
stamp_read n few =
    let t = tick_at n in
    read_by_calendar (take 19 (epoch_of t)) (cut_begins t)
    ∙ cut_said t (omega arith) (sym (read_by_calendar (epoch_of t) (begins t)) ∙ epoch_of-read t (is_tick n few))

pub start_read : reading_of (codes "2025-01-01T00:00:00") ≡ Ok 1_735_689_600_000_000
unfolding reading_of calendar_reading days_of_years days_of_months
start_read = refl
