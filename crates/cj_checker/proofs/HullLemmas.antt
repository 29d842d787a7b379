-- The hulls of a track against a bound, part by part.
use Rattle.std.proofs.Common.{◌≡◌, ℕ, ◌+◌, ◌≤◌, Bool, true, false, ◌&&◌, List, ◌∷◌, Option, Some, None, refl, sym, ap, ◌∙◌, arith}
use Rattle.std.specs.Bool.{beq}
use Rattle.std.specs.Prelude.{IfNone, IfSome, MatchOption, is_some}
use Rattle.std.specs.List.{list_all}
use Rattle.std.specs.Option.{option_eq}
use Rattle.cj_base.specs.declared.tick.Window.{Window}
use Rattle.cj_track.specs.PlainTracks.{PlainTrack}
use Rattle.cj_hermite.specs.Pieces.{piece_at}
use Rattle.cj_hermite.specs.Walks.{HasNone, IsNextRun}
use Rattle.cj_bezier.specs.Hulls.{PlainHull}
use Rattle.cj_bezier.specs.Parts.{hulls_of}
use Rattle.cj_bezier.proofs.HullListLemmas.{no_hulls}
use Rattle.cj_checker.specs.Tests.{has_state_between}
use Rattle.cj_checker.proofs.TestLemmas.{state_none, state_some}

-- All hulls pass a test exactly where this one does, which ends at tick `at`, and those behind it.
pub record IsMetUpTo (p : PlainHull → Bool) (e : PlainTrack) (from at last : ℕ) (h : PlainHull) : Type 0 where
  pub within : at ≤ last
  pub some : ¬ HasNone e from last
  pub rest : list_all p (hulls_of e from last) ≡ (p h && list_all p (hulls_of e (at + 1) last))

-- where there is a hull there is a state
pub some_hull : (e : PlainTrack) (from last : ℕ) (h : PlainHull) (hs : List PlainHull) → hulls_of e from last ≡ h ∷ hs → ¬ HasNone e from last
some_hull e from last h hs are none = let empty = no_hulls e from last none in absurd cc

pub first_met : (p : PlainHull → Bool) (e : PlainTrack) (from at last : ℕ) (h : PlainHull) → at ≤ last → hulls_of e from last ≡ h ∷ hulls_of e (at + 1) last → IsMetUpTo p e from at last h
first_met p e from at last h within are = record { within = within; some = some_hull e from last h (hulls_of e (at + 1) last) are; rest = ap (list_all p) are }

pub next_met : (p : PlainHull → Bool) (e : PlainTrack) (from at next last : ℕ) (h g : PlainHull) → IsMetUpTo p e from at last h → p h ≡ true → next ≤ last
    → hulls_of e (at + 1) last ≡ g ∷ hulls_of e (next + 1) last → IsMetUpTo p e from next last g
next_met p e from at next last h g met passes within are = record {
  within = within;
  some = met.some;
  rest = met.rest ∙ (ap (λ (b : Bool). b && list_all p (hulls_of e (at + 1) last)) passes ∙ ap (list_all p) are);
}

pub all_met : (p : PlainHull → Bool) (e : PlainTrack) (from at last : ℕ) (h : PlainHull) → IsMetUpTo p e from at last h → p h ≡ true → HasNone e (at + 1) last → true ≡ list_all p (hulls_of e from last)
all_met p e from at last h met passes none = sym (met.rest ∙ (ap (λ (b : Bool). b && list_all p (hulls_of e (at + 1) last)) passes ∙ ap (list_all p) (no_hulls e (at + 1) last none)))

at_last : (p : PlainHull → Bool) (e : PlainTrack) (from at last : ℕ) (h : PlainHull) → IsMetUpTo p e from at last h → p h ≡ true → last ≤ at → true ≡ list_all p (hulls_of e from last)
at_last p e from at last h met passes ended = all_met p e from at last h met passes (λ m after before. absurd (omega arith))

not_met : (p : PlainHull → Bool) (e : PlainTrack) (from at last : ℕ) (h : PlainHull) → IsMetUpTo p e from at last h → p h ≡ false → false ≡ list_all p (hulls_of e from last)
not_met p e from at last h met fails = sym (met.rest ∙ ap (λ (b : Bool). b && list_all p (hulls_of e (at + 1) last)) fails)

-- the last hull
pub last_met : (p : PlainHull → Bool) (e : PlainTrack) (from at last : ℕ) (h : PlainHull) (b : Bool) → IsMetUpTo p e from at last h → b ≡ p h → last ≤ at → b ≡ list_all p (hulls_of e from last)
last_met p e from at last h true met is ended = at_last p e from at last h met (sym is) ended
last_met p e from at last h false met is ended = not_met p e from at last h met (sym is)

-- what is told of the hulls where there is a state, as a test
pub met_there : (p : PlainHull → Bool) (e : PlainTrack) (from to : ℕ) (r : Option Bool) → IfNone r (HasNone e from to) → IfSome r (λ met. ¬ HasNone e from to)
    → IfSome r (λ met. met ≡ list_all p (hulls_of e from to)) → option_eq beq r (Some true) ≡ (has_state_between e from to && list_all p (hulls_of e from to))
met_there p e from to None none some value = let missing = state_none e from to none in rw missing refl
met_there p e from to (Some true) none some value = let there = state_some e from to some in rw there value
met_there p e from to (Some false) none some value = let there = state_some e from to some in rw there value

-- a next run is there exactly where there is a state
pub is_there : (e : PlainTrack) (from to : ℕ) (r : Option Window) → MatchOption r (HasNone e from to) (IsNextRun e from to) → is_some r ≡ has_state_between e from to
is_there e from to None none = sym (state_none e from to none)
is_there e from to (Some run) is =
    sym (state_some e from to (λ none.
    let missing : is_some (piece_at e run.last.micros) ≡ false = ap is_some (none run.last.micros is.later is.within) in
    let some = is.some in
    absurd cc))
