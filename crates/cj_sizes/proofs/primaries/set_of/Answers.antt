use Rattle.std.proofs.Common.{◌≡◌, ℕ, ◌+◌, List, Bor, length, map, take, subst, ap, ◌∙◌, arith}
use Rattle.std.proofs.Math.Seq.{take-length}
use Rattle.cj_sizes.specs.Primaries.{Holds}
use Rattle.cj_sizes.proofs.PrimaryLemmas.{holds_more, text_of, texts_more}
use Rattle.cj_sizes.proofs.primaries.set_of.Goals as goal

pub loop-id-preserved : goal.loop-id-preserved
loop-id-preserved c =
    let ids = c.args.ids.now in
    let at = c.loop-id.id-index in
    holds_more c.loop-id.set c.insert.new.self _ (map text_of (take at ids)) (map text_of (take (at + 1) ids)) c.loop-id.invariant c.in_ok-insert.ensures.updates
    (texts_more ids at _ c.loop-id-test.true)

pub returns : goal.returns
returns c =
    let all : c.loop-id.id-index ≡ length c.args.ids.now = omega arith in
    subst (λ (ids : List (Bor (List ℕ))). Holds c.loop-id.set (map text_of ids)) (ap (λ (k : ℕ). take k c.args.ids.now) all ∙ take-length c.args.ids.now) c.loop-id.invariant
