-- What a report says that is that of the cells of an accepted certificate.
use Rattle.std.proofs.Common.{◌≡◌, ℕ, ◌≤◌, Bool, true, false, List, length, map, option_map, Option, Some, None, Result, Ok, Err, Vec, Global, refl, sym, ap, subst, ◌∙◌, arith}
use Rattle.std.specs.Prelude.{All, count_by, IfErr, IfOk, IfSome, OnOk, if◌then◌else◌, nat_le}
use Rattle.std.specs.List.{prefix_len, zip}
use Rattle.std.specs.Str.{bytes_eq}
use Rattle.std.proofs.lemmas.List.{length-take}
use Rattle.std.proofs.lemmas.List.Sums.{count_by-le-length}
use Rattle.std.specs.declared.alloc.AllocError.{AllocError}
use Rattle.std.proofs.lemmas.Bool.Decides.{nat_tests}
use Rattle.std.proofs.lemmas.Slice.Eq.{bytes_eq-Decides}
use Rattle.std.proofs.lemmas.Slice.Zip.{length-zip}
use Rattle.cj_io.specs.declared.file.FileBytes.{FileBytes}
use Rattle.cj_case.specs.PlainProblems.{PlainProblem}
use Rattle.cj_case.specs.declared.encounter.Closest.{Closest}
use Rattle.cj_case.specs.declared.encounter.Encounter.{Encounter}
use Rattle.cj_case.specs.Leaves.{PlainLeaf}
use Rattle.cj_meet.specs.Closest.{HasNearest, PlainClosest, closest_of, some_closest}
use Rattle.cj_meet.specs.Encounters.{encounters_of, groups_in}
use Rattle.cj_meet.specs.Spans.{HaveExactSpans}
use Rattle.cj_report.specs.Report.{report_of, told}
use Rattle.cj_cert.specs.Splits.{CellsSplit}
use Rattle.cj_status.specs.declared.status.Status.{Status}
use Rattle.cj_status.specs.declared.status.Status.TheVariants as status
use Rattle.cj_status.specs.declared.status.CertificateCause.TheVariants.{Report}
use Rattle.cj_status.specs.Steps.{◌>>=◌, ComesBetween, Gives}
use Rattle.cj_inputs.proofs.StepLemmas.{stops_behind}
use Rattle.cj_outputs.specs.declared.meetings.Meetings.{Meetings}
use Rattle.cj_outputs.specs.Checks.{AcceptedReport}
use Rattle.cj_outputs.specs.Differences.{common_front, differing_line, ends_line, is_same}
use Rattle.cj_outputs.specs.Meetings.{AreMeetings}
use Rattle.cj_outputs.specs.Messages.{has_message}
use Rattle.cj_outputs.specs.Outcome.{as_due, report_accepting, report_bytes}
use Rattle.cj_outputs.specs.SpanSplits.{SplitsTicks}
use Rattle.cj_report.specs.declared.tells.Tells.{Tells}

-- ---- the spans

-- where cells split the common ticks, the spans of their encounters do
spans_split : (case : PlainProblem) (cells : List PlainLeaf) → CellsSplit case cells → HaveExactSpans cells → SplitsTicks case (encounters_of cells)
spans_split case cells split spans = record {
  near = λ a b m here. split.near a b m ((spans.near a b m).0 here);
  undecided = λ a b m here. split.undecided a b m ((spans.undecided a b m).0 here);
  outside = λ a b m common near undecided.
      split.outside a b m common (λ h. near ((spans.near a b m).1 h)) (λ h. undecided ((spans.undecided a b m).1 h));
}

-- ---- the text that is due

-- the text that is made of what is told of the encounters of these leaves is the report of the case with them
report_made : (tells : Tells) (case : PlainProblem) (ss : List PlainLeaf) (met : Meetings) (es : List Encounter) (xs : List Closest) (bs : List Bool) (text : List ℕ)
    → AreMeetings case ss met → es ≡ met.encounters.items → xs ≡ met.closest.items → bs ≡ met.messages.items
    → ((approach : List PlainLeaf → Option PlainClosest) (has : List PlainLeaf → Bool) → map some_closest xs ≡ map approach (groups_in ss es) → bs ≡ map has (groups_in ss es)
    → text ≡ report_of case.first case.last case.threshold case.tracks (told tells.sizes case.sizes) case.primaries tells.coverage approach has (groups_in ss es))
    → text ≡ report_bytes tells case ss
report_made tells case ss met es xs bs text are p q r given =
    let groups : groups_in ss es ≡ encounters_of ss = ap (groups_in ss) p ∙ are.encounters.groups in
    let each = ap (map some_closest) q ∙ are.closest ∙ sym (ap (λ (es : List Encounter). map (closest_of case) (groups_in ss es)) p) in
    let noted = r ∙ are.messages ∙ sym (ap (λ (es : List Encounter). map (has_message case) (groups_in ss es)) p) in
    given (closest_of case) (has_message case) each noted
    ∙ ap (report_of case.first case.last case.threshold case.tracks (told tells.sizes case.sizes) case.primaries tells.coverage (closest_of case) (has_message case)) groups

-- the same where there is memory for it
pub report_if_made : (tells : Tells) (case : PlainProblem) (ss : List PlainLeaf) (met : Meetings) (es : List Encounter) (xs : List Closest) (bs : List Bool)
    (r : Result (Vec ℕ Global) AllocError) → AreMeetings case ss met → es ≡ met.encounters.items → xs ≡ met.closest.items → bs ≡ met.messages.items
    → IfOk r (λ text. (approach : List PlainLeaf → Option PlainClosest) (has : List PlainLeaf → Bool) → map some_closest xs ≡ map approach (groups_in ss es)
    → bs ≡ map has (groups_in ss es)
    → text.items ≡ report_of case.first case.last case.threshold case.tracks (told tells.sizes case.sizes) case.primaries tells.coverage approach has (groups_in ss es))
    → IfOk r (λ text. text.items ≡ report_bytes tells case ss)
report_if_made tells case ss met es xs bs (Ok text) are p q r given = report_made tells case ss met es xs bs text.items are p q r given
report_if_made tells case ss met es xs bs (Err e) are p q r given = tt

pub on_ok : {X E P : Type 0} (r : Result X E) → P → OnOk r P
on_ok (Ok x) holds = holds
on_ok (Err e) holds = tt

pub on_ok_so : {X E P Q : Type 0} (r : Result X E) → (P → Q) → OnOk r P → OnOk r Q
on_ok_so (Ok x) so holds = so holds
on_ok_so (Err e) so holds = tt

-- what is said of what may be there is said of it as it is seen
pub if_some_seen : {A B : Type 0} (view : A → B) (P : B → Type 0) (o : Option A) → IfSome o (λ x. P (view x)) → IfSome (option_map view o) P
if_some_seen view P None holds = tt
if_some_seen view P (Some x) holds = holds

-- ---- where a text differs

-- no more lines end in what two texts both begin with than the first has bytes
pub lines_few : (bytes others : List ℕ) → count_by ends_line (common_front bytes others) ≤ length bytes
lines_few bytes others =
    let pairs = zip bytes others in
    omega (arith, count_by-le-length ends_line (common_front bytes others), length-take (prefix_len is_same pairs) pairs, length-zip bytes others)

-- ---- a report that is judged

-- what is said of a report by how its judging ends, where P is what follows of one that is accepted
pub record Judges (P : Type 0) (r due : Result (Unit {0}) Status) : Type 0 where
  pub between : IfErr r ComesBetween
  pub read : ¬ (r ≡ Err status.ReadFault)
  pub told : Gives ⊥ (λ done. done) r due
  pub holds : OnOk r P

judged : (P : Type 0) (bytes due : List ℕ) → (bytes ≡ due → P) → Judges P (as_due bytes due) (as_due bytes due)
judged P bytes due follows = go (bytes_eq bytes due) refl
  where
    judge : Bool → Result (Unit {0}) Status
    judge t = if t then Ok tt else Err (status.NotAccepted (differing_line bytes due) Report)

    go : (t : Bool) → bytes_eq bytes due ≡ t → Judges P (judge t) (judge t)
    go true is = record { between = tt; read = λ e. absurd cc; told = refl; holds = follows ((bytes_eq-Decides bytes due).0 is) }
    go false is = record { between = tt; read = λ e. absurd cc; told = refl; holds = tt }

-- no more cells than may be
few_enough : (limit : ℕ) (tells : Tells) (case : PlainProblem) (cells : List PlainLeaf) (bytes : List ℕ) → length cells ≤ limit
    → report_accepting limit tells case cells bytes ≡ as_due bytes (report_bytes tells case cells)
unfolding report_accepting
few_enough limit tells case cells bytes few =
    let small : nat_le (length cells) limit ≡ true = grind (arith, nat_tests) in
    rw small refl

-- a report that is judged by the text that is due of these cells
pub report_judged : (limit : ℕ) (tells : Tells) (case : PlainProblem) (cells : List PlainLeaf) (bytes due : List ℕ) (r : Result (Unit {0}) Status) → length cells ≤ limit
    → r ≡ as_due bytes due → due ≡ report_bytes tells case cells → CellsSplit case cells → HaveExactSpans cells → All (HasNearest case) (encounters_of cells)
    → Judges (AcceptedReport tells case cells bytes) r (report_accepting limit tells case cells bytes)
report_judged limit tells case cells bytes due r few is text split spans nearest =
    let whole : report_accepting limit tells case cells bytes ≡ as_due bytes due = few_enough limit tells case cells bytes few ∙ sym (ap (as_due bytes) text) in
    subst (λ (q : Result (Unit {0}) Status). Judges (AcceptedReport tells case cells bytes) q (report_accepting limit tells case cells bytes)) (sym is)
    (subst (λ (d : Result (Unit {0}) Status). Judges (AcceptedReport tells case cells bytes) (as_due bytes due) d) (sym whole)
    (judged (AcceptedReport tells case cells bytes) bytes due
    (λ same. record { text = same ∙ text; split = spans_split case cells split spans; nearest = nearest })))

-- the outputs of a check whose report is judged
pub outputs_behind : (rose : Type 0) (outputs : List FileBytes) (r due : Result (Unit {0}) Status) → Gives ⊥ (λ done. done) r due
    → Gives rose (λ done. outputs) r (due >>= λ done. Ok outputs)
outputs_behind rose outputs (Ok done) due gives = ap (λ (d : Result (Unit {0}) Status). d >>= λ done. Ok outputs) gives
outputs_behind rose outputs (Err s) due gives = stops_behind ⊥ rose s due (λ done. Ok outputs) (λ none. absurd none) gives
