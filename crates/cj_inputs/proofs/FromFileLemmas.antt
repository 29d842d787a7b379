-- The ephemerides of a case are what their files say.
use Rattle.std.proofs.Common.{◌≡◌, ℕ, ◌≤◌, Bool, true, false, List, [], ◌∷◌, length, map, Option, Some, None, Ok, Err, Result, refl, sym, subst, arith, append-nil}
use Rattle.std.specs.Prelude.{IfOk, IsSomeAnd, if◌then◌else◌, unwrap_or}
use Rattle.std.specs.List.{AllZip, last_or}
use Rattle.cj_interval.proofs.ListLemmas.{Each}
use Rattle.cj_io.specs.declared.file.FileBytes.{FileBytes}
use Rattle.cj_io.specs.Files.{bytes_of, names_of}
use Rattle.cj_kvn.specs.Lines.{Form}
use Rattle.cj_track.specs.PlainTracks.{PlainNode, PlainSegment, PlainTrack}
use Rattle.cj_oem.specs.Metadata.{Object}
use Rattle.cj_oem.specs.Grammar as grammar
use Rattle.cj_oem.specs.Grammar.{AreBlocks, AreNodeSteps, IsBlock, IsUseable}
use Rattle.cj_oem.specs.Reading.{reading}
use Rattle.cj_oem.proofs.GrammarLemmas.{reading_says}
use Rattle.cj_case.specs.PlainProblems.{PlainProblem}
use Rattle.cj_case.specs.declared.problem.Problem.{Problem}
use Rattle.cj_case.specs.Problems.{plain_problem}
use Rattle.cj_trim.specs.Same.{HasRun, IsSameWithin}
use Rattle.cj_trim.proofs.SameLemmas.{Rise, FromTo, IsSound, last_of, same_within}
use Rattle.cj_words.specs.Settings.{PlainSettings}
use Rattle.cj_status.specs.declared.status.Status.{Status}
use Rattle.cj_status.specs.declared.status.Status.TheVariants as status
use Rattle.cj_status.specs.declared.status.LimitFault.TheVariants.{Objects}
use Rattle.cj_status.specs.Steps.{◌>>=◌, Gives}
use Rattle.cj_inputs.specs.declared.input_files.Entry.{Entry}
use Rattle.cj_inputs.specs.Cases.{case_asked, case_of_run, within_limits, within_objects}
use Rattle.cj_inputs.specs.FromFiles.{IsFromFile, AreFromFiles}
use Rattle.cj_inputs.specs.InputFiles.{apart_of, inputs_of}
use Rattle.cj_inputs.specs.ObjectAttributes.{PlainAttributes, attributes_asked}
use Rattle.cj_inputs.specs.Readings.{reading_of, readings_of, refused_of, within_bytes}
use Rattle.cj_inputs.specs.Trims.{both_ends, left_of, trims_of}
use Rattle.cj_inputs.specs.Windows.{least, greatest, start_of, stop_of}
use Rattle.cj_inputs.proofs.TrimLemmas.{left_there}
use Rattle.cj_inputs.proofs.UpdateLemmas.{IsRead, files_read, none_good, unrefused}
use Rattle.cj_inputs.proofs.WithinLemmas.{let_through, step_there, within_there}

-- ---- what a file says is sound

rises : (nodes : List PlainNode) → AreNodeSteps nodes → Rise nodes
rises [] steps = tt
rises (a ∷ []) steps = tt
rises (a ∷ b ∷ nodes) steps = (steps.0.rises, rises (b ∷ nodes) steps.1)

last_is : (o : Option PlainNode) (a : PlainNode) (path : List PlainNode) → last_or o (a ∷ path) ≡ Some (last_of a path)
last_is o a [] = refl
last_is o a (b ∷ path) = last_is (Some a) b path

all_round : (first last m : ℕ) (nodes : List PlainNode) → IsUseable first last nodes → first ≤ m → m ≤ last → FromTo m nodes
all_round first last m [] useable after before = absurd useable.after
all_round first last m (a ∷ path) useable after before =
    let end = subst (λ (o : Option PlainNode). IsSomeAnd o (λ state. last ≤ state.at)) (last_is None a path) useable.before in
    (omega (arith, useable.after, after), omega (arith, end, before))

block_sound : (as_hermite3 : Bool) (object : Object) (from : ℕ) (lines : List Form) (segment : PlainSegment) → IsBlock as_hermite3 object from lines segment → IsSound segment
block_sound as_hermite3 object from lines segment block = record {
  enough = block.enough;
  some = block.useable.some;
  rise = rises segment.nodes block.steps;
  round = λ m after before. all_round segment.first segment.last m segment.nodes block.useable after before;
}

blocks_sound : (as_hermite3 : Bool) (object : Object) (from : ℕ) (lines : List Form) (segments : List PlainSegment) → AreBlocks as_hermite3 object from lines segments → Each IsSound segments
blocks_sound as_hermite3 object _ _ _ (grammar.last from lines segment block) = (block_sound as_hermite3 object from lines segment block, tt)
blocks_sound as_hermite3 object _ _ _ (grammar.more from lines rest segment segments block blocks) =
    (block_sound as_hermite3 object from lines segment block, blocks_sound as_hermite3 object segment.last rest segments blocks)

file_sound : (as_hermite3 : Bool) (name bytes : List ℕ) (e : PlainTrack) → reading_of as_hermite3 name bytes ≡ Ok e → Each IsSound e.segments
unfolding reading_of
file_sound as_hermite3 name bytes e is =
    let whole = step_there (within_bytes name bytes) (λ some. refused_of name (reading name some as_hermite3)) e is in
    let file = (reading_says as_hermite3 name whole.0 e (unrefused name (reading name whole.0 as_hermite3) e whole.2)).whole in
    blocks_sound as_hermite3 (record { name = e.name; id = e.id; frame = e.frame }) 0 file.blocks e.segments file.segments

-- ---- what is taken of it

each_run : (segments : List PlainSegment) → AllZip HasRun (map (λ s. s.nodes) segments) (map (λ s. s.nodes) segments)
each_run [] = tt
each_run (s ∷ segments) = (record { before = []; behind = []; whole = sym (append-nil s.nodes) }, each_run segments)

same_itself : (first last : ℕ) (e : PlainTrack) → IsSameWithin first last e e
same_itself first last e = record {
  file = refl;
  name = refl;
  id = refl;
  frame = refl;
  covariances = refl;
  nodes = each_run e.segments;
  states = λ m from within. refl;
  curves = λ m from within. refl;
}

same_taken : (large : Bool) (from to : Option ℕ) (f l : ℕ) (e : PlainTrack) → Each IsSound e.segments
    → IsSameWithin (unwrap_or from f) (unwrap_or to l) e (left_of (if large then both_ends from to else None) e)
same_taken false from to f l e sound = same_itself (unwrap_or from f) (unwrap_or to l) e
same_taken true None to f l e sound = same_itself f (unwrap_or to l) e
same_taken true (Some first) None f l e sound = same_itself first l e
same_taken true (Some first) (Some last) f l e sound = same_within first last e sound

each_from : (settings : PlainSettings) (files : List FileBytes) (f l : ℕ) (entries : List Entry) (es : List PlainTrack) → AllZip (IsRead settings files) entries es
    → AllZip (IsFromFile settings files (unwrap_or settings.from f) (unwrap_or settings.to l)) entries es
each_from settings files f l [] [] each = tt
each_from settings files f l [] (e ∷ es) each = absurd each
each_from settings files f l (entry ∷ entries) [] each = absurd each
each_from settings files f l (entry ∷ entries) (e ∷ es) each =
    let bytes = bytes_of files entry.number in
    let whole = left_there (trims_of settings) (reading_of settings.as_hermite3 entry.name bytes) e each.0.said in
    let same = same_taken settings.large settings.from settings.to f l whole.0 (file_sound settings.as_hermite3 entry.name bytes whole.0 whole.1) in (
      record {
        whole = whole.0;
        said = whole.1;
        same = subst (IsSameWithin (unwrap_or settings.from f) (unwrap_or settings.to l) whole.0) whole.2 same;
      },
      each_from settings files f l entries es each.1,
    )

-- ---- the case

case_from_files : (files : List FileBytes) (settings : PlainSettings) (case : PlainProblem) → case_asked files settings ≡ Ok case → AreFromFiles settings files case
unfolding case_asked
case_from_files files settings case is =
    let limits = settings.limits in
    let entries = inputs_of settings.suffix (apart_of settings) (names_of files) in
    let made : List PlainTrack → PlainAttributes → PlainProblem = case_of_run settings in
    let beside : List PlainTrack → Result PlainProblem Status = λ es. attributes_asked es [] files settings >>= λ said. within_limits limits.object_slots (made es said) in
    let listed = step_there (within_objects limits.objects entries) (λ some. readings_of settings files some >>= beside) case is in
    let few = let_through (length entries) limits.objects entries listed.0 (status.Limit (Objects (length entries))) listed.1 in
    let read = step_there (readings_of settings files listed.0) beside case listed.2 in
    let told = step_there (attributes_asked read.0 [] files settings) (λ said. within_limits limits.object_slots (made read.0 said)) case read.2 in
    let there = within_there limits.object_slots (made read.0 told.0) case told.2 in
    let all = files_read settings files [] read.0 listed.0 (none_good limits.nodes) read.1 in
    let each : AllZip (IsRead settings files) entries read.0 =
    subst (λ (some : List Entry). AllZip (IsRead settings files) some read.0) (sym few.1)
    (subst (AllZip (IsRead settings files) listed.0) (sym all.whole) all.each) in
    let from : AreFromFiles settings files (made read.0 told.0) = each_from settings files (least (map start_of read.0)) (greatest (map stop_of read.0)) entries read.0 each in
    subst (AreFromFiles settings files) there.1 from

-- and of what comes of a run that is asked for it
pub problem_from_files : (rose : Type 0) (files : List FileBytes) (settings : PlainSettings) (r : Result Problem Status) → Gives rose plain_problem r (case_asked files settings)
    → IfOk r (λ problem. AreFromFiles settings files (plain_problem problem))
problem_from_files rose files settings (Ok problem) given = case_from_files files settings (plain_problem problem) given
problem_from_files rose files settings (Err s) given = tt
