use Rattle.std.proofs.Common.{◌≡◌, ◌++◌, List, ap, ◌∙◌, ℕ, ℤ, rules, to_z, of_z}
use Rattle.std.specs.Prelude.{FitsSigned, codes}
use Rattle.std.proofs.lemmas.Int.{to_z-of_z}
use Rattle.std.proofs.lemmas.Result.{on_ok_weaker}
use mir.Syntax.{w64, w128}
use Rattle.cj_cdm.specs.Relative.{IsRelative, relative_text}
use Rattle.cj_cdm.specs.Texts.{metres, quantity}
use Rattle.cj_cdm.proofs.RelativeLemmas.{values_fit}
use Rattle.cj_cdm.proofs.TextLemmas.{joined, joined_ok}
use Rattle.cj_cdm.proofs.printing.relative.push_relative.Goals as goal

-- a line of a number that was read
same : (old now key unit : List ℕ) (read z : ℤ) → read ≡ z → now ≡ old ++ quantity key (metres read) unit → now ≡ old ++ quantity key (metres z) unit
same old now key unit read z e h = h ∙ ap (λ (y : ℤ). old ++ quantity key (metres y) unit) e

pub returns-clause-text : goal.returns-clause-text
unfolding relative_text
returns-clause-text c =
    let old = c.args.text.now.items in
    let p = c.args.rtn.now.place in
    let v = c.args.rtn.now.rate in
    let pr : to_z w128 (of_z w128 c.from.result) ≡ p.r = to_z-of_z w128 c.from.result (search rules) ∙ c.from.ensures ∙ to_z-of_z w64 p.r (search rules) in
    let pt : to_z w128 (of_z w128 c.from-2.result) ≡ p.t = to_z-of_z w128 c.from-2.result (search rules) ∙ c.from-2.ensures ∙ to_z-of_z w64 p.t (search rules) in
    let pn : to_z w128 (of_z w128 c.from-3.result) ≡ p.n = to_z-of_z w128 c.from-3.result (search rules) ∙ c.from-3.ensures ∙ to_z-of_z w64 p.n (search rules) in
    let vr : to_z w128 (of_z w128 c.from-4.result) ≡ v.r = to_z-of_z w128 c.from-4.result (search rules) ∙ c.from-4.ensures ∙ to_z-of_z w64 v.r (search rules) in
    let vt : to_z w128 (of_z w128 c.from-5.result) ≡ v.t = to_z-of_z w128 c.from-5.result (search rules) ∙ c.from-5.ensures ∙ to_z-of_z w64 v.t (search rules) in
    let vn : to_z w128 (of_z w128 c.from-6.result) ≡ v.n = to_z-of_z w128 c.from-6.result (search rules) ∙ c.from-6.ensures ∙ to_z-of_z w64 v.n (search rules) in
    let place_r = same _ _ (codes "RELATIVE_POSITION_R") (codes "m") _ p.r pr c.in_ok-push_metres.ensures in
    let place_t = same _ _ (codes "RELATIVE_POSITION_T") (codes "m") _ p.t pt c.in_ok-push_metres-2.ensures in
    let place_n = same _ _ (codes "RELATIVE_POSITION_N") (codes "m") _ p.n pn c.in_ok-push_metres-3.ensures in
    let rate_r = same _ _ (codes "RELATIVE_VELOCITY_R") (codes "m/s") _ v.r vr c.in_ok-push_metres-4.ensures in
    let rate_t = same _ _ (codes "RELATIVE_VELOCITY_T") (codes "m/s") _ v.t vt c.in_ok-push_metres-5.ensures in
    let rate_n = on_ok_weaker c.push_metres-6.result (same _ _ (codes "RELATIVE_VELOCITY_N") (codes "m/s") _ v.n vn) c.push_metres-6.ensures in
    let place = joined old _ _ _ _ (joined old _ _ _ _ place_r place_t) place_n in
    joined_ok c.push_metres-6.result old _ _ _ _ (joined old _ _ _ _ (joined old _ _ _ _ place rate_r) rate_t) rate_n

pub returns-clause-fits : goal.returns-clause-fits
returns-clause-fits c =
    let p = c.args.rtn.now.place in
    let v = c.args.rtn.now.rate in
    let pr : FitsSigned w64 p.r = search rules in
    let pt : FitsSigned w64 p.t = search rules in
    let pn : FitsSigned w64 p.n = search rules in
    let vr : FitsSigned w64 v.r = search rules in
    let vt : FitsSigned w64 v.t = search rules in
    let vn : FitsSigned w64 v.n = search rules in
    let state : IsRelative c.args.rtn.now = record { placed = values_fit p.r p.t p.n pr pt pn; moved = values_fit v.r v.t v.n vr vt vn } in
    on_ok_weaker c.push_metres-6.result (λ e. state) c.push_metres-6.ensures
