-- Whether the hulls of a track pass a test, part by part.
use Rattle.std.proofs.Common.{◌≡◌, ℕ, ◌+◌, ◌≤◌, Bool, true, false, ◌&&◌, ◌∷◌, Option, Some, None, IfSome, sym, ap, arith, ◌∙◌}
use Rattle.std.specs.List.{list_all}
use Rattle.cj_track.specs.PlainTracks.{PlainTrack}
use Rattle.cj_hermite.specs.Walks.{HasNone}
use Rattle.cj_bezier.specs.declared.part.Part.{Part}
use Rattle.cj_bezier.specs.FirstParts.{IsFirstPart}
use Rattle.cj_bezier.specs.Hulls.{PlainHull, axes_of}
use Rattle.cj_bezier.specs.Parts.{hulls_of}
use Rattle.cj_bezier.proofs.HullListLemmas.{no_hulls}

-- a first hull, and those behind it
pub first_passes : (p : PlainHull → Bool) (e : PlainTrack) (from at last : ℕ) (h : PlainHull) (b : Bool) → hulls_of e from last ≡ h ∷ hulls_of e (at + 1) last → b ≡ p h
    → list_all p (hulls_of e from last) ≡ (b && list_all p (hulls_of e (at + 1) last))
first_passes p e from at last h b are is = ap (list_all p) are ∙ (λ j. sym is j && list_all p (hulls_of e (at + 1) last))

-- one more hull
pub next_passes : (all b c : Bool) (p : PlainHull → Bool) (e : PlainTrack) (from at last : ℕ) (h : PlainHull) → all ≡ (b && list_all p (hulls_of e from last))
    → hulls_of e from last ≡ h ∷ hulls_of e (at + 1) last → c ≡ (b && p h) → all ≡ (c && list_all p (hulls_of e (at + 1) last))
next_passes all true c p e from at last h so_far are is = so_far ∙ first_passes p e from at last h c are is
next_passes all false c p e from at last h so_far are is = so_far ∙ (λ j. sym is j && list_all p (hulls_of e (at + 1) last))

-- no hull is left
pub last_passes : (all b : Bool) (p : PlainHull → Bool) (e : PlainTrack) (at last : ℕ) → all ≡ (b && list_all p (hulls_of e at last)) → HasNone e at last → b ≡ all
last_passes all true p e at last so_far none = sym (so_far ∙ ap (list_all p) (no_hulls e at last none))
last_passes all false p e at last so_far none = sym so_far

-- a first part that ends in time
pub hulls_found : (e : PlainTrack) (from last : ℕ) (part : Option Part) → IfSome part (IsFirstPart e from last) → IfSome part (λ p. p.last.micros ≤ last)
    → IfSome part (λ p. hulls_of e from last ≡ axes_of p.hull.points ∷ hulls_of e (p.last.micros + 1) last)
hulls_found e from last None first within = tt
hulls_found e from last (Some p) first within = first last within (omega arith)
