use Rattle.std.proofs.Common.{◌-◌, ◌++◌, take, replicate, sym, subst}
use Rattle.std.specs.Vec.{vec_len}
use Rattle.std.proofs.lemmas.List.Elements.{All-append, All-replicate, All-same, All-take}
use Rattle.cj_meet.specs.Encounters.{Describes}
use Rattle.cj_encounter_tests.proofs.approaches.again.Goals as goal

pub loop-encounter-preserved : goal.loop-encounter-preserved
loop-encounter-preserved c = λ leaves all.
    let P = Describes leaves in
    let e = c.encounter-item.result in
    let old = c.loop-encounter.many in
    let n = c.saturating_add.result in
    let more = n - vec_len old in
    let here : P e = subst P (sym c.encounter-item.is) (all c.loop-encounter.encounter-index e c.loop-encounter-test.true) in
    All-same P c.resize.new.self.items (take n old.items ++ replicate more e) c.in_ok-resize.ensures.items
    (All-append P (take n old.items) (replicate more e) (All-take P n old.items (c.loop-encounter.invariant leaves all)) (All-replicate P more e here))
