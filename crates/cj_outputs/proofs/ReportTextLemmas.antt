-- What the report that is made of findings says.
use Rattle.std.proofs.Common.{◌≡◌, ℕ, Option, map, List, ◌++◌, Bool, append_assoc, refl, sym, ap, ◌∙◌}
use Rattle.cj_case.specs.declared.encounter.Closest.{Closest}
use Rattle.cj_case.specs.declared.encounter.Encounter.{Encounter}
use Rattle.cj_case.specs.declared.leaf.Leaf.{Leaf}
use Rattle.cj_case.specs.Leaves.{PlainLeaf, plain_leaves}
use Rattle.cj_meet.specs.Closest.{PlainClosest, closest_of, some_closest}
use Rattle.cj_meet.specs.Encounters.{encounters_of, groups_in}
use Rattle.cj_report.specs.Report.{changed_of, report_of, told}
use Rattle.cj_case.specs.Problems.{plain_problem}
use Rattle.cj_cells.specs.Lists.{list_candidates}
use Rattle.cj_outputs.specs.declared.changes.Changes.{Changes}
use Rattle.cj_outputs.specs.declared.findings.Findings.{Findings}
use Rattle.cj_outputs.specs.Changes.{AreChanges}
use Rattle.cj_outputs.specs.Lines.{leaves_met}
use Rattle.cj_outputs.specs.Messages.{has_message}
use Rattle.cj_outputs.specs.Outcome.{changed_bytes, encounters_in, report_bytes}
use Rattle.cj_outputs.specs.Findings.{AreFound, case_in}
use Rattle.cj_outputs.proofs.MessageLemmas.{groups_are}

-- the text that is made of findings is their report
pub report_is : (found : Findings) (leaves : List Leaf) (es : List Encounter) (xs : List Closest) (bs : List Bool) (text : List ℕ) → AreFound found →
    leaves ≡ leaves_met found.lines → es ≡ found.encounters.items → xs ≡ found.closest.items → bs ≡ found.messages.items
    → (let case = case_in found in (approach : List PlainLeaf → Option PlainClosest) (has : List PlainLeaf → Bool) → map some_closest xs ≡ map approach (groups_in (plain_leaves leaves) es)
    → bs ≡ map has (groups_in (plain_leaves leaves) es)
    → text ≡ report_of case.first case.last case.threshold case.tracks (told found.wanted.tells.sizes case.sizes) case.primaries found.wanted.tells.coverage approach has (groups_in (plain_leaves leaves) es))
    → text ≡ report_bytes found.wanted.tells (case_in found) (list_candidates (case_in found))
report_is found leaves es xs bs text are p q r b given =
    let case = case_in found in
    let groups : groups_in (plain_leaves leaves) es ≡ encounters_in case = (λ i. groups_in (plain_leaves (p i)) (q i)) ∙ groups_are found are in
    let each = ap (map some_closest) r ∙ are.closest ∙ sym (λ i. map (closest_of case) (groups_in (plain_leaves (p i)) (q i))) in
    let noted = b ∙ are.messages ∙ sym (λ i. map (has_message case) (groups_in (plain_leaves (p i)) (q i))) in
    given (closest_of case) (has_message case) each noted
    ∙ ap (report_of case.first case.last case.threshold case.tracks (told found.wanted.tells.sizes case.sizes) case.primaries found.wanted.tells.coverage (closest_of case) (has_message case)) groups

-- the text that is made of the pairs that are not unchanged is their report
pub changes_are : (changes : Changes) (leaves : List Leaf) (es : List Encounter) (xs : List Closest) (bs : List Bool) (text : List ℕ) → AreChanges changes →
    leaves ≡ changes.leaves.items → es ≡ changes.met.encounters.items → xs ≡ changes.met.closest.items → bs ≡ changes.met.messages.items
    → (let case = plain_problem changes.problem in (approach : List PlainLeaf → Option PlainClosest) (has : List PlainLeaf → Bool)
    → map some_closest xs ≡ map approach (groups_in (plain_leaves leaves) es) → bs ≡ map has (groups_in (plain_leaves leaves) es)
    → text ≡ changed_of case.first case.last case.threshold case.tracks (told changes.tells.sizes case.sizes) case.primaries changes.tells.coverage approach has (groups_in (plain_leaves leaves) es))
    → text ≡ changed_bytes changes.tells (plain_problem changes.problem) (plain_leaves changes.leaves.items)
changes_are changes leaves es xs bs text are p q r b given =
    let case = plain_problem changes.problem in
    let met = are.met in
    let groups : groups_in (plain_leaves leaves) es ≡ encounters_of (plain_leaves changes.leaves.items) = (λ i. groups_in (plain_leaves (p i)) (q i)) ∙ met.encounters.groups in
    let each = ap (map some_closest) r ∙ met.closest ∙ sym (λ i. map (closest_of case) (groups_in (plain_leaves (p i)) (q i))) in
    let noted = b ∙ met.messages ∙ sym (λ i. map (has_message case) (groups_in (plain_leaves (p i)) (q i))) in
    given (closest_of case) (has_message case) each noted
    ∙ ap (changed_of case.first case.last case.threshold case.tracks (told changes.tells.sizes case.sizes) case.primaries changes.tells.coverage (closest_of case) (has_message case)) groups

-- a text that is added behind a summary
pub added : (summary told one two bytes : List ℕ) → bytes ≡ two → two ≡ one ++ told → one ≡ summary → bytes ≡ summary ++ told
added summary told one two bytes last second first = last ∙ second ∙ ap (λ (text : List ℕ). text ++ told) first

-- two texts that are added behind a summary, one after the other
pub added_behind : (summary behind told one two three bytes : List ℕ) → bytes ≡ three → three ≡ two ++ told → two ≡ one ++ behind → one ≡ summary
    → bytes ≡ summary ++ (behind ++ told)
added_behind summary behind told one two three bytes last third second first =
    added (summary ++ behind) told two three bytes last third (added summary behind one two two refl second first) ∙ append_assoc summary behind told
