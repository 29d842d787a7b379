use Rattle.std.proofs.Common.{◌≡◌, ◌++◌, ap, ◌∙◌, rules, to_z, of_z}
use Rattle.std.specs.Prelude.{codes, List, ℕ, ℤ}
use Rattle.std.proofs.lemmas.Int.{to_z-of_z}
use Rattle.std.proofs.lemmas.Result.{on_ok_weaker}
use mir.Syntax.{w128}
use Rattle.cj_cdm.specs.Texts.{kilometres, quantity, state_text}
use Rattle.cj_cdm.proofs.TextLemmas.{joined, joined_ok}
use Rattle.cj_cdm.proofs.printing.object.push_state.Goals as goal

-- a line of a number that was read
same : (old now key unit : List ℕ) (read z : ℤ) → read ≡ z → now ≡ old ++ quantity key (kilometres read) unit → now ≡ old ++ quantity key (kilometres z) unit
same old now key unit read z e h = h ∙ ap (λ (y : ℤ). old ++ quantity key (kilometres y) unit) e

pub returns : goal.returns
unfolding state_text
returns c =
    let old = c.args.text.now.items in
    let p = c.args.place in
    let v = c.args.rate in
    let px : to_z w128 (of_z w128 p.x) ≡ p.x = to_z-of_z w128 p.x (search rules) in
    let py : to_z w128 (of_z w128 p.y) ≡ p.y = to_z-of_z w128 p.y (search rules) in
    let pz : to_z w128 (of_z w128 p.z) ≡ p.z = to_z-of_z w128 p.z (search rules) in
    let vx : to_z w128 (of_z w128 v.x) ≡ v.x = to_z-of_z w128 v.x (search rules) in
    let vy : to_z w128 (of_z w128 v.y) ≡ v.y = to_z-of_z w128 v.y (search rules) in
    let vz : to_z w128 (of_z w128 v.z) ≡ v.z = to_z-of_z w128 v.z (search rules) in
    let x = same _ _ (codes "X") (codes "km") _ p.x px c.in_ok-push_kilometres.ensures in
    let y = same _ _ (codes "Y") (codes "km") _ p.y py c.in_ok-push_kilometres-2.ensures in
    let z = same _ _ (codes "Z") (codes "km") _ p.z pz c.in_ok-push_kilometres-3.ensures in
    let x_dot = same _ _ (codes "X_DOT") (codes "km/s") _ v.x vx c.in_ok-push_kilometres-4.ensures in
    let y_dot = same _ _ (codes "Y_DOT") (codes "km/s") _ v.y vy c.in_ok-push_kilometres-5.ensures in
    let z_dot = on_ok_weaker c.push_kilometres-6.result (same _ _ (codes "Z_DOT") (codes "km/s") _ v.z vz) c.push_kilometres-6.ensures in
    let place = joined old _ _ _ _ (joined old _ _ _ _ x y) z in
    joined_ok c.push_kilometres-6.result old _ _ _ _ (joined old _ _ _ _ (joined old _ _ _ _ place x_dot) y_dot) z_dot
