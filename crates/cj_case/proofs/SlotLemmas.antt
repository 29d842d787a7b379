-- Slots of a window: each tick lies in one, and they follow one another.
use Rattle.std.proofs.Common.{ℕ, ◌<◌, ◌≤◌, arith}
use Rattle.cj_case.specs.Slots.{slot_first, slot_last, slot_count, slot_of}

pub slot_exists : (first last m : ℕ) → first ≤ m → m ≤ last → slot_of first m < slot_count first last
slot_exists first last m low high = omega arith

pub slot_begins : (first m : ℕ) → first ≤ m → slot_first first (slot_of first m) ≤ m
slot_begins first m low = omega arith

pub slot_ends : (first last m : ℕ) → first ≤ m → m ≤ last → m ≤ slot_last first last (slot_of first m)
slot_ends first last m low high = omega arith

pub slots_follow : (first last j k : ℕ) → j < k → slot_last first last j < slot_first first k
slots_follow first last j k lt = omega arith

pub slot_within : (first last k : ℕ) → slot_last first last k ≤ last
slot_within first last k = omega arith
