use Rattle.std.proofs.Common.{◌∙◌, ◌-◌, ◌^◌, ◌<◌, ◌≤◌, List, length, ap, subst, sym, arith}
use Rattle.std.proofs.lemmas.List.{length-map}
use Rattle.cj_base.specs.Bounds.{MOST_LEAVES}
use Rattle.cj_case.specs.Leaves.{PlainLeaf, plain_leaf, plain_leaves}
use Rattle.cj_cells.specs.Lists.{list_candidates}
use Rattle.cj_cert.specs.Certificates.{PlainCertificate, line_count}
use Rattle.cj_outputs.specs.declared.lines.Lines.{Lines}
use Rattle.cj_outputs.specs.Findings.{case_in}
use Rattle.cj_outputs.specs.Lines.{AreInFull, AreMadeOf, leaves_met}
use Rattle.cj_outputs.proofs.CertificateLemmas.{leaves_alike}
use Rattle.cj_outputs.proofs.CheckLemmas.{found_few}
use Rattle.cj_screen.proofs.selfruns.confirm.Goals as goal

pub written_certificate-requires-clause-measured : goal.written_certificate-requires-clause-measured
written_certificate-requires-clause-measured g c =
    let case = case_in c.args.found.now in
    let made : AreInFull case c.in-InFull.measured c.in-InFull.leaves.items = subst (λ (l : Lines). AreMadeOf case l) c.in-InFull.is c.requires.found.lines.made in
    made.measured

pub written_certificate-requires-clause-leaves : goal.written_certificate-requires-clause-leaves
written_certificate-requires-clause-leaves g c =
    let case = case_in c.args.found.now in
    let made : AreInFull case c.in-InFull.measured c.in-InFull.leaves.items = subst (λ (l : Lines). AreMadeOf case l) c.in-InFull.is c.requires.found.lines.made in
    ap plain_leaves c.deref.ensures.value ∙ (made.leaves ∙ leaves_alike case)

pub check-requires : goal.check-requires
check-requires g c =
    let case = case_in c.args.found.now in
    let leaves = c.in-InFull.leaves.items in
    let made : AreInFull case c.in-InFull.measured leaves = subst (λ (l : Lines). AreMadeOf case l) c.in-InFull.is c.requires.found.lines.made in
    let met : length leaves ≤ MOST_LEAVES = subst (λ (l : Lines). length (leaves_met l) ≤ MOST_LEAVES) c.in-InFull.is c.requires.found.few in
    let all : length (list_candidates case) ≤ MOST_LEAVES = omega (arith, met, ap (λ (ss : List PlainLeaf). length ss) made.leaves, length-map leaves plain_leaf) in
    (c.type_bounds.sync-R, subst (λ (x : PlainCertificate). line_count x < 2 ^ 32 - 5) (sym c.in_ok-certificate.ensures.value) (found_few c.args.found.now all))
