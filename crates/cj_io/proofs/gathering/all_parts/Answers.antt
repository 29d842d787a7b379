use Rattle.std.proofs.Common.{◌≡◌, ℕ, List, ◌++◌, ◌∙◌, ap, sym, append_assoc}
use Rattle.std.specs.Global.{Vec}
use Rattle.std.proofs.lemmas.Grind.{flat_map-append}
use Rattle.cj_io.specs.Parts.{joined}
use Rattle.cj_io.proofs.gathering.all_parts.Goals as goal

-- the parts with the next ones, and what is left behind them, are still the whole
gathered : (parts next now : List (Vec ℕ)) (left behind all : List ℕ) → now ≡ parts ++ next → left ≡ joined next ++ behind → joined parts ++ left ≡ all
    → joined now ++ behind ≡ all
gathered parts next now left behind all e f whole =
    rw (e, flat_map-append) (append_assoc (joined parts) (joined next) behind ∙ ap (λ (t : List ℕ). joined parts ++ t) (sym f) ∙ whole)

pub loop-parts-preserved : goal.loop-parts-preserved
loop-parts-preserved g c =
    gathered c.loop-parts.parts.items c.in_ok-next.next.items c.append.new.self.items _ _ _
    c.in_ok-append.ensures.items c.in_ok-next.ensures.parts c.loop-parts.invariant
