-- Screening again: which causes come of it, what it puts, and what stays so of unchanged pairs.
use Rattle.std.proofs.Common.{◌≡◌, ℕ, ◌-◌, ◌≤◌, Bool, true, false, not, cond, List, [], ◌∷◌, ◌++◌, filter, length, Option, Some, None, Result, Ok, Err, refl, sym, ap, subst, ◌∙◌, arith}
use Rattle.std.specs.Prelude.{◌||◌, IfErr, IsSomeAnd, nat_le, slice_get}
use Rattle.std.specs.Cmp.{second_so}
use Rattle.std.proofs.lemmas.List.{length-map}
use Rattle.cj_io.specs.declared.file.FileBytes.{FileBytes}
use Rattle.cj_io.specs.Files.{bytes_of, names_of}
use Rattle.cj_formats.specs.declared.cert_format.CertFormat.{CertFormat}
use Rattle.cj_track.specs.PlainTracks.{PlainTrack}
use Rattle.cj_track.specs.Tracks.{plain_track}
use Rattle.cj_oem.specs.Reading.{Fault, reading}
use Rattle.cj_sizes.specs.Primaries.{Fault as PrimariesFault, reading as primaries_said}
use Rattle.cj_sizes.specs.Reading.{Fault as SizesFault, reading as sizes_said}
use Rattle.cj_sizes.specs.Sizes.{Size}
use Rattle.cj_case.specs.declared.problem.Problem.{Problem}
use Rattle.cj_case.specs.Pairs.{pairs_of}
use Rattle.cj_case.specs.PlainProblems.{PlainProblem, threshold_of}
use Rattle.cj_case.specs.Primaries.{concerns, has_primary}
use Rattle.cj_case.specs.Problems.{plain_problem}
use Rattle.cj_case.specs.Leaves.{PlainLeaf}
use Rattle.cj_case.specs.Slots.{slot_of}
use Rattle.cj_case.specs.declared.kind.Kind.TheVariants.{Near, Undecided}
use Rattle.cj_hermite.specs.Distance.{IsNear, IsFar, IsInBand}
use Rattle.cj_hermite.specs.Interpolant.{Curve}
use Rattle.cj_hermite.specs.ObjectsAtTicks.{OfObjectsAt}
use Rattle.cj_hermite.specs.Pieces.{OfBothAt}
use Rattle.cj_bezier.specs.Candidates.{is_candidate}
use Rattle.cj_bezier.proofs.CandidateLemmas.{candidate_looked_at}
use Rattle.cj_bezier.proofs.TrueLeafLemmas.{tells_of as leaf_tells, outside_of}
use Rattle.cj_case.specs.Cells.{PlainCell}
use Rattle.cj_hermite.specs.Roots.{roots_of}
use Rattle.cj_hermite.proofs.RootLemmas.{Each-roots}
use Rattle.cj_cells.specs.Lists.{list_candidates, list_of}
use Rattle.cj_cells.proofs.LeafLemmas.{roots_split}
use Rattle.cj_bezier.specs.Candidates.{is_candidate_anew, is_kept_unchanged}
use Rattle.cj_bezier.specs.RootLeaves.{leaves_of_roots}
use Rattle.cj_candidates.specs.SoughtPairs.{is_wanted_candidate}
use Rattle.cj_case.specs.Unchanged.{is_unchanged}
use Rattle.cj_again.proofs.TransportLemmas.{object_is}
use Rattle.cj_meet.specs.Encounters.{encounters_of}
use Rattle.cj_meet.specs.Spans.{HaveExactSpans}
use Rattle.cj_report.specs.Summary.{kept_line}
use Rattle.cj_words.specs.declared.option.UsageFault.{UsageFault}
use Rattle.cj_words.specs.Commands.{PlainRescreening, Rescreens, command_of}
use Rattle.cj_words.specs.Settings.{PlainSettings}
use Rattle.cj_status.specs.declared.status.Status.{Status}
use Rattle.cj_status.specs.declared.status.Status.TheVariants as status
use Rattle.cj_status.specs.declared.status.LimitFault.{LimitFault}
use Rattle.cj_status.specs.declared.status.LimitFault.TheVariants as limit
use Rattle.cj_status.specs.declared.status.FileCause.TheVariants.{MixedFrames}
use Rattle.cj_status.specs.Steps.{◌>>=◌, ComesBefore, Stops}
use Rattle.cj_inputs.specs.declared.input_files.Entry.{Entry}
use Rattle.cj_inputs.specs.Cases.{object_slots, within_limits, within_objects, within_slots, within_window}
use Rattle.cj_inputs.specs.InputFiles.{apart_of}
use Rattle.cj_inputs.specs.ObjectAttributes.{attributes_asked}
use Rattle.cj_inputs.specs.ObjectPrimaries.{ids_of, primaries_asked, primaries_at, primaries_of_file, refused_primaries}
use Rattle.cj_inputs.specs.ObjectSizes.{first_named, refused_sizes, sizes_asked, sizes_at, sizes_of_file}
use Rattle.cj_inputs.specs.Readings.{checked_after, has_frame_of, nodes_in, reading_after, reading_of, readings_after, refused_of, same_frame_as, within_bytes, within_nodes}
use Rattle.cj_inputs.specs.Trims.{left_said, trims_of}
use Rattle.cj_inputs.proofs.TrimLemmas.{left_ends}
use Rattle.cj_coverage.specs.Coverage.{first_uncovered}
use Rattle.cj_inputs.specs.Coverings.{all_cover, cases_covered, covering, whole_or}
use Rattle.cj_inputs.specs.Updates.{PlainUpdating, base_of, both_within, cases_asked, cases_of_run, larger, read_as, said_behind, tracks_updated, update_after, updated_name, updated_of, updated_with, updates_after, updates_of}
use Rattle.cj_outputs.specs.declared.findings.Findings.{Findings}
use Rattle.cj_outputs.specs.declared.wanted.Wanted.{Wanted}
use Rattle.cj_outputs.specs.Findings.{AreFound, case_in, lines_of, outputs_in, summary_in}
use Rattle.cj_outputs.specs.Messages.{PlainOrigin}
use Rattle.cj_outputs.specs.Outcome.{EndsRescreening, kept_unchanged, list_anew, origin_of, outputs_again, outputs_changed, outputs_of, outputs_of_changes, outputs_rescreened, outputs_updated, outputs_with, outputs_within, summary_with, tells_of, within_cells, uncovered_told}
use Rattle.cj_outputs.specs.SpanSplits.{SplitsChangedTicks, StillSo}
use Rattle.cj_outputs.proofs.AcceptingLemmas.{stops_then}
use Rattle.cj_screen.specs.Refining.{HoldsChangedTicks, leaves_within}
use Rattle.cj_screen.proofs.ReportLemmas.{few_leaves, same_outputs}
use Rattle.cj_screen.proofs.SplitLemmas.{all_true}
use Rattle.cj_report.specs.declared.tells.Tells.{Tells}

-- ---- no certificate is judged

-- one step after another
then : {A B : Type 0} (r : Result A Status) (f : A → Result B Status) → IfErr r EndsRescreening → ((x : A) → IfErr (f x) EndsRescreening) → IfErr (r >>= f) EndsRescreening
then (Ok x) f is more = more x
then (Err s) f is more = is

limited : {A : Type 0} (b : Bool) (x : A) (fault : LimitFault) → IfErr (cond b (Ok x) (Err (status.Limit fault))) EndsRescreening
limited true x fault = tt
limited false x fault = tt

refused : (name : List ℕ) (r : Result PlainTrack Fault) → IfErr (refused_of name r) EndsRescreening
refused name (Ok track) = tt
refused name (Err fault) = tt

framed : (b : Bool) (track : PlainTrack) (name : List ℕ) → IfErr (cond b (Ok track) (Err (status.BadFile name 0 MixedFrames))) EndsRescreening
framed true track name = tt
framed false track name = tt

checked : (most : ℕ) (before : List PlainTrack) (name : List ℕ) (track : PlainTrack) → IfErr (checked_after most before name track) EndsRescreening
checked most before name track =
    then (same_frame_as before name track) (within_nodes most before) (framed (has_frame_of before track) track name)
    (λ t. limited (nat_le (nodes_in (before ++ t ∷ [])) most) t (limit.Nodes (nodes_in (before ++ t ∷ []))))

one_read : (as_hermite3 : Bool) (name bytes : List ℕ) → IfErr (reading_of as_hermite3 name bytes) EndsRescreening
unfolding reading_of
one_read as_hermite3 name bytes =
    then (within_bytes name bytes) (λ whole. refused_of name (reading name whole as_hermite3)) (limited (nat_le (length bytes) 67_108_864) bytes (limit.FileBytes name))
    (λ whole. refused name (reading name whole as_hermite3))

all_read : (settings : PlainSettings) (files : List FileBytes) (before : List PlainTrack) (entries : List Entry) → IfErr (readings_after settings files before entries) EndsRescreening
all_read settings files before [] = tt
all_read settings files before (entry ∷ entries) =
    then (reading_after settings files before entry) (λ track. readings_after settings files (before ++ track ∷ []) entries)
    (then (left_said (trims_of settings) (reading_of settings.as_hermite3 entry.name (bytes_of files entry.number))) (checked_after settings.limits.nodes before entry.name)
    (left_ends EndsRescreening (trims_of settings) (reading_of settings.as_hermite3 entry.name (bytes_of files entry.number)) (one_read settings.as_hermite3 entry.name (bytes_of files entry.number)))
    (checked settings.limits.nodes before entry.name))
    (λ track. all_read settings files (before ++ track ∷ []) entries)

update_said : (settings : PlainSettings) (update : List ℕ) (before : List PlainTrack) (name bytes : List ℕ) → IfErr (said_behind settings update before name bytes) EndsRescreening
update_said settings update before name [] = tt
update_said settings update before name (b ∷ bytes) =
    let said = refused_of name (reading (updated_name update name) (b ∷ bytes) settings.as_hermite3) in
    then (left_said (trims_of settings) said >>= checked_after settings.limits.nodes before name) (λ track. Ok (before ++ track ∷ []))
    (then (left_said (trims_of settings) said) (checked_after settings.limits.nodes before name)
    (left_ends EndsRescreening (trims_of settings) said (refused name (reading (updated_name update name) (b ∷ bytes) settings.as_hermite3))) (checked settings.limits.nodes before name))
    (λ track. tt)

updates_read : (settings : PlainSettings) (update : List ℕ) (files : List FileBytes) (before : List PlainTrack) (entries : List Entry)
    → IfErr (updates_after settings update files before entries) EndsRescreening
updates_read settings update files before [] = tt
updates_read settings update files before (entry ∷ entries) =
    then (update_after settings update files before entry) (λ all. updates_after settings update files all entries)
    (then (within_bytes entry.name (bytes_of files entry.number)) (said_behind settings update before entry.name)
    (limited (nat_le (length (bytes_of files entry.number)) 67_108_864) (bytes_of files entry.number) (limit.FileBytes entry.name))
    (λ bytes. update_said settings update before entry.name bytes))
    (λ all. updates_read settings update files all entries)

few_objects : (most : ℕ) (entries : List Entry) → IfErr (within_objects most entries) EndsRescreening
few_objects most entries = limited (nat_le (length entries) most) entries (limit.Objects (length entries))

tracks_read : (files : List FileBytes) (settings : PlainSettings) (update : List ℕ) → IfErr (tracks_updated files settings update) EndsRescreening
unfolding tracks_updated read_as
tracks_read files settings update =
    let names = names_of files in
    let updates = updates_of settings.suffix update (apart_of settings) names in
    then (within_objects settings.limits.objects (base_of settings.suffix update (apart_of settings) names)) (λ entries. read_as files settings update entries updates)
    (few_objects settings.limits.objects (base_of settings.suffix update (apart_of settings) names))
    (λ entries. then (readings_after settings files [] entries)
    (λ base. updates_after settings update files base updates >>= λ all. updated_with files settings update entries updates base)
    (all_read settings files [] entries)
    (λ base. then (updates_after settings update files base updates) (λ all. updated_with files settings update entries updates base)
    (updates_read settings update files base updates)
    (λ all. then (within_objects settings.limits.objects (updated_of update files entries updates))
    (λ updated. readings_after settings files [] updated >>= λ new. Ok (record { base = base; new = new }))
    (few_objects settings.limits.objects (updated_of update files entries updates))
    (λ updated. then (readings_after settings files [] updated) (λ new. Ok (record { base = base; new = new })) (all_read settings files [] updated) (λ new. tt)))))

sizes_refused : (name : List ℕ) (r : Result (List Size) SizesFault) → IfErr (refused_sizes name r) EndsRescreening
sizes_refused name (Ok sizes) = tt
sizes_refused name (Err fault) = tt

sizes_in : (files : List FileBytes) (name : List ℕ) (number : Option ℕ) → IfErr (sizes_at files name number) EndsRescreening
unfolding sizes_of_file
sizes_in files name None = tt
sizes_in files name (Some number) =
    then (within_bytes name (bytes_of files number)) (λ whole. refused_sizes name (sizes_said whole))
    (limited (nat_le (length (bytes_of files number)) 67_108_864) (bytes_of files number) (limit.FileBytes name)) (λ whole. sizes_refused name (sizes_said whole))

sizes_read : (files : List FileBytes) (name : Option (List ℕ)) → IfErr (sizes_asked files name) EndsRescreening
unfolding sizes_asked
sizes_read files None = tt
sizes_read files (Some name) = sizes_in files name (first_named name (names_of files))

primaries_refused : (name : List ℕ) (r : Result (List (List ℕ)) PrimariesFault) → IfErr (refused_primaries name r) EndsRescreening
primaries_refused name (Ok []) = tt
primaries_refused name (Ok (id ∷ ids)) = tt
primaries_refused name (Err fault) = tt

primaries_in : (known : List (List ℕ)) (files : List FileBytes) (name : List ℕ) (number : Option ℕ) → IfErr (primaries_at known files name number) EndsRescreening
unfolding primaries_of_file
primaries_in known files name None = tt
primaries_in known files name (Some number) =
    then (within_bytes name (bytes_of files number)) (λ whole. refused_primaries name (primaries_said known whole))
    (limited (nat_le (length (bytes_of files number)) 67_108_864) (bytes_of files number) (limit.FileBytes name)) (λ whole. primaries_refused name (primaries_said known whole))

primaries_read : (known : List (List ℕ)) (files : List FileBytes) (name : Option (List ℕ)) → IfErr (primaries_asked known files name) EndsRescreening
unfolding primaries_asked
primaries_read known files None = tt
primaries_read known files (Some name) =
    then (primaries_at known files name (first_named name (names_of files))) (λ ids. Ok (Some ids)) (primaries_in known files name (first_named name (names_of files))) (λ ids. tt)

attributes_read : (es others : List PlainTrack) (files : List FileBytes) (settings : PlainSettings) → IfErr (attributes_asked es others files settings) EndsRescreening
unfolding attributes_asked
attributes_read es others files settings =
    let known = ids_of es ++ ids_of others in
    then (sizes_asked files settings.sizes) (λ sizes. primaries_asked known files settings.primaries >>= λ primaries. Ok (record { sizes = sizes; primaries = primaries })) (sizes_read files settings.sizes)
    (λ sizes. then (primaries_asked known files settings.primaries) (λ primaries. Ok (record { sizes = sizes; primaries = primaries })) (primaries_read known files settings.primaries) (λ primaries. tt))

-- the cases of a screening again are there, or a file is refused, or a limit is exceeded
pub never_asked : (files : List FileBytes) (asked : PlainRescreening) → IfErr (cases_asked files asked) EndsRescreening
unfolding cases_asked
never_asked files asked =
    let settings = asked.screening.settings in
    let most = settings.limits.object_slots in
    then (tracks_updated files settings asked.update) (λ tracks. attributes_asked tracks.base tracks.new files settings >>= λ said. both_within most (cases_of_run settings tracks said))
    (tracks_read files settings asked.update)
    (λ tracks. then (attributes_asked tracks.base tracks.new files settings) (λ said. both_within most (cases_of_run settings tracks said))
    (attributes_read tracks.base tracks.new files settings)
    (λ said. let cases = cases_of_run settings tracks said in
    let case = larger cases in
    then (within_limits most case) (λ large. Ok cases)
    (then (within_window case) (within_slots most) (limited (nat_le (case.last - case.first) 1_209_600_000_000) case (limit.Window (case.last - case.first)))
    (λ c. limited (nat_le (object_slots c) most) c (limit.Slots (object_slots c)))) (λ large. tt)))

-- so are those that cover what they have to
never_covered : (files : List FileBytes) (asked : PlainRescreening) → IfErr (cases_covered files asked) EndsRescreening
unfolding cases_covered
never_covered files asked =
    then (cases_asked files asked) (λ cases. covering asked.screening.settings.must_cover cases.new >>= λ done. Ok cases) (never_asked files asked)
    (λ cases. then (covering asked.screening.settings.must_cover cases.new) (λ done. Ok cases) (judged asked.screening.settings.must_cover cases.new) (λ done. tt))
  where
    one : (file : List ℕ) (o : Option ℕ) → IfErr (whole_or file o) EndsRescreening
    one file None = tt
    one file (Some micros) = tt

    each : (first last : ℕ) (es : List PlainTrack) → IfErr (all_cover first last es) EndsRescreening
    each first last [] = tt
    each first last (e ∷ es) = then (whole_or e.file (first_uncovered e first last)) (λ done. all_cover first last es) (one e.file (first_uncovered e first last)) (λ done. each first last es)

    judged : (b : Bool) (case : PlainProblem) → IfErr (covering b case) EndsRescreening
    judged false case = tt
    judged true case = each case.first case.last case.tracks

-- the outputs are due, or such a cause stands
few_or_not : (b : Bool) (most : ℕ) (leaves : List PlainLeaf) (outputs : List PlainLeaf → Result (List FileBytes) Status) → ((ss : List PlainLeaf) → IfErr (outputs ss) EndsRescreening)
    → IfErr (cond b (Ok leaves) (Err (status.Limit (limit.Cells most))) >>= outputs) EndsRescreening
few_or_not true most leaves outputs more = more leaves
few_or_not false most leaves outputs more = tt

never_updated : (now : ℕ) (asked : PlainRescreening) (cases : PlainUpdating) → IfErr (outputs_updated now asked cases) EndsRescreening
unfolding outputs_again outputs_changed outputs_within
never_updated now asked cases = by_kind asked.changed
  where
    cells : ℕ
    cells = asked.screening.cells

    tells : Tells
    tells = tells_of asked.screening.settings

    origin : PlainOrigin
    origin = origin_of now asked.screening

    all : Result (List FileBytes) Status
    all = outputs_again cells tells asked.screening.format origin cases.base cases.new

    by_kind : (b : Bool) → IfErr (cond b (outputs_changed cells tells cases.base cases.new) all) EndsRescreening
    by_kind true =
        few_or_not (nat_le (length (list_anew cases.base cases.new)) cells) cells (list_anew cases.base cases.new)
        (λ leaves. Ok (outputs_of_changes tells cases.new (kept_unchanged cases.base cases.new) leaves)) (λ leaves. tt)
    by_kind false =
        few_or_not (nat_le (length (list_candidates cases.base)) cells) cells (list_candidates cases.base)
        (λ base. outputs_within cells tells asked.screening.format origin (kept_line (kept_unchanged cases.base cases.new)) cases.new)
        (λ base. few_or_not (nat_le (length (list_candidates cases.new)) cells) cells (list_candidates cases.new)
        (λ leaves. Ok (outputs_with tells asked.screening.format origin (kept_line (kept_unchanged cases.base cases.new)) cases.new leaves)) (λ leaves. tt))

never_due : (words : List (List ℕ)) (files : List FileBytes) (now : ℕ) (asked : PlainRescreening) → command_of words ≡ Ok (Rescreens asked) → IfErr (outputs_of words files now) EndsRescreening
unfolding outputs_of outputs_rescreened
never_due words files now asked is =
    rw is (then (cases_covered files asked) (λ cases. outputs_updated now asked cases) (never_covered files asked) (λ cases. never_updated now asked cases))

-- what ends such a run before its writes
pub stopped_rescreening : (read : Type 0) (words : List (List ℕ)) (files : List FileBytes) (now : ℕ) (asked : PlainRescreening) (s : Status) → command_of words ≡ Ok (Rescreens asked)
    → Stops read s (outputs_of words files now) → ComesBefore s → ((fault : UsageFault) → s ≡ status.Usage fault → ⊥) → EndsRescreening s
stopped_rescreening read words files now asked status.Ok is stops before usage = tt
stopped_rescreening read words files now asked (status.NotAccepted line cause) is stops before usage =
    subst (λ (r : Result (List FileBytes) Status). IfErr r EndsRescreening) stops (never_due words files now asked is)
stopped_rescreening read words files now asked (status.Usage fault) is stops before usage = usage fault refl
stopped_rescreening read words files now asked (status.BadFile file line cause) is stops before usage = tt
stopped_rescreening read words files now asked status.ReadFault is stops before usage = tt
stopped_rescreening read words files now asked status.WriteFault is stops before usage = tt
stopped_rescreening read words files now asked (status.Limit fault) is stops before usage = tt
stopped_rescreening read words files now asked status.OutOfMemory is stops before usage = tt

-- ---- the leaves of both cases

-- what is so of two problems is so of those that they are
pub of_both : (P : Problem → Problem → Type 0) (one old two new : Problem) → one ≡ old → two ≡ new → P one two → P old new
of_both P one old two new first second here = subst (λ (o : Problem). P o new) first (subst (λ (n : Problem). P one n) second here)

pub kept_of_both : (one old two new : Problem) (kept : ℕ) → one ≡ old → two ≡ new
    → kept ≡ length (filter (is_kept_unchanged (plain_problem one) (plain_problem two)) (pairs_of (length two.tracks))) → kept ≡ kept_unchanged (plain_problem old) (plain_problem new)
unfolding kept_unchanged
kept_of_both one old two new kept first second is =
    let counted = λ (count : ℕ). length (filter (is_kept_unchanged (plain_problem one) (plain_problem two)) (pairs_of count)) in
    of_both (λ o n. kept ≡ kept_unchanged (plain_problem o) (plain_problem n)) one old two new first second (is ∙ ap counted (sym (length-map two.tracks plain_track)))

-- the pairs that are not unchanged
abbrev pub pairs_anew : PlainProblem → PlainProblem → List (ℕ × ℕ)
pairs_anew old new = filter (λ pair. not (is_unchanged old new pair)) (pairs_of (length new.tracks))

pub pairs_of_both : (one old two new : Problem) (pairs : List (ℕ × ℕ)) → one ≡ old → two ≡ new → pairs ≡ pairs_anew (plain_problem one) (plain_problem two)
    → pairs ≡ pairs_anew (plain_problem old) (plain_problem new)
pairs_of_both one old two new pairs = of_both (λ o n. pairs ≡ pairs_anew (plain_problem o) (plain_problem n)) one old two new

-- both are few enough
pub leaves_there : (limit : ℕ) (old new : PlainProblem) (ss : List PlainLeaf) → within_cells limit (list_candidates old) ≡ Ok ss → length (list_candidates new) ≤ limit
    → leaves_within limit old new ≡ Ok (list_candidates new)
leaves_there limit old new ss base few = rw base (few_leaves limit (list_candidates new) few)

-- those of the old case are too many
pub base_stops : (limit : ℕ) (old new : PlainProblem) (s : Status) → Stops ⊥ s (within_cells limit (list_candidates old)) → Stops ⊥ s (leaves_within limit old new)
base_stops limit old new s stops = stops_then ⊥ s (within_cells limit (list_candidates old)) (λ base. within_cells limit (list_candidates new)) stops

-- those of the new case are
pub new_stops : (limit : ℕ) (old new : PlainProblem) (ss : List PlainLeaf) (s : Status) → within_cells limit (list_candidates old) ≡ Ok ss → Stops ⊥ s (within_cells limit (list_candidates new))
    → Stops ⊥ s (leaves_within limit old new)
new_stops limit old new ss s base stops = rw base stops

-- what is due comes of both
again_of_leaves : (most : ℕ) (tells : Tells) (format : CertFormat) (origin : PlainOrigin) (old new : PlainProblem)
    → outputs_again most tells format origin old new
    ≡ (leaves_within most old new >>= λ leaves. Ok (outputs_with tells format origin (kept_line (kept_unchanged old new)) new leaves))
unfolding outputs_again outputs_within
again_of_leaves most tells format origin old new = by_base (nat_le (length (list_candidates old)) most)
  where
    outputs : List PlainLeaf → Result (List FileBytes) Status
    outputs leaves = Ok (outputs_with tells format origin (kept_line (kept_unchanged old new)) new leaves)

    by_base : (b : Bool) → (cond b (Ok (list_candidates old)) (Err (status.Limit (limit.Cells most))) >>= λ base. within_cells most (list_candidates new) >>= outputs)
        ≡ ((cond b (Ok (list_candidates old)) (Err (status.Limit (limit.Cells most))) >>= λ base. within_cells most (list_candidates new)) >>= outputs)
    by_base true = refl
    by_base false = refl

pub again_stops : (wanted : Wanted) (origin : PlainOrigin) (old new : PlainProblem) (s : Status) → Stops ⊥ s (leaves_within wanted.leaves old new)
    → Stops ⊥ s (outputs_again wanted.leaves wanted.tells wanted.format origin old new)
again_stops wanted origin old new s stops =
    let outputs = λ (leaves : List PlainLeaf). Ok (outputs_with wanted.tells wanted.format origin (kept_line (kept_unchanged old new)) new leaves) in
    subst (λ (r : Result (List FileBytes) Status). Stops ⊥ s r) (sym (again_of_leaves wanted.leaves wanted.tells wanted.format origin old new))
    (stops_then ⊥ s (leaves_within wanted.leaves old new) outputs stops)

pub again_told : (wanted : Wanted) (origin : PlainOrigin) (old new : PlainProblem) (found : Findings) → leaves_within wanted.leaves old new ≡ Ok (list_candidates new) → case_in found ≡ new
    → found.wanted ≡ wanted → lines_of found.behind ≡ kept_line (kept_unchanged old new) → AreFound found
    → outputs_again wanted.leaves wanted.tells wanted.format origin old new ≡ Ok (outputs_in origin found)
again_told wanted origin old new found within same as_wanted lines are =
    let behind = kept_line (kept_unchanged old new) in
    again_of_leaves wanted.leaves wanted.tells wanted.format origin old new
    ∙ ap (λ (r : Result (List PlainLeaf) Status). r >>= λ leaves. Ok (outputs_with wanted.tells wanted.format origin behind new leaves)) within
    ∙ ap (λ (outputs : List FileBytes). Ok outputs) (same_outputs wanted origin behind new found same as_wanted lines are)

-- the summary of what is found
pub summary_told : (wanted : Wanted) (behind : List ℕ) (case : PlainProblem) (found : Findings) → case_in found ≡ case → found.wanted ≡ wanted → lines_of found.behind ≡ behind → AreFound found
    → summary_in found ≡ summary_with (behind ++ uncovered_told wanted.tells case) case (list_candidates case)
summary_told wanted behind case found same as_wanted lines are =
    ap (λ (c : PlainProblem). summary_with (lines_of found.behind ++ uncovered_told found.wanted.tells c) c (list_candidates c)) same
    ∙ ap (λ (w : Wanted). summary_with (lines_of found.behind ++ uncovered_told w.tells case) case (list_candidates case)) as_wanted
    ∙ ap (λ (b : List ℕ). summary_with (b ++ uncovered_told wanted.tells case) case (list_candidates case)) lines

-- ---- the pairs that are not unchanged

anew_is : (old new : PlainProblem) (a b slot : ℕ) → is_unchanged old new (a, b) ≡ false → is_candidate new a b slot ≡ true → is_candidate_anew old new a b slot ≡ true
unfolding is_candidate_anew
anew_is old new a b slot other is = rw (other, is) refl

anew_looked_at : (old new : PlainProblem) (a b slot : ℕ) → is_candidate_anew old new a b slot ≡ true → concerns new (a, b) ≡ true
unfolding is_candidate_anew
anew_looked_at old new a b slot is = candidate_looked_at new a b slot (second_so (not (is_unchanged old new (a, b))) (is_candidate new a b slot) is)

-- these leaves are theirs
pub changed_splits : (old new : PlainProblem) (ss : List PlainLeaf) → ss ≡ list_anew old new → HoldsChangedTicks old new → HaveExactSpans ss
    → SplitsChangedTicks old new (encounters_of (list_anew old new))
unfolding list_anew
changed_splits old new ss same ticks spans =
    let all = list_of (is_candidate_anew old new) new in
    let lists = ticks.lists in
    let true_all = all_true new (is_candidate_anew old new) (anew_looked_at old new) lists.sound in
    let exact : HaveExactSpans all = subst HaveExactSpans same spans in
    record {
      near = λ a b m here.
          let told = leaf_tells new all Near a b m true_all ((exact.near a b m).0 here) in (told.common, told.holds);
      undecided = λ a b m here.
          let told = leaf_tells new all Undecided a b m true_all ((exact.undecided a b m).0 here) in (told.common, told.holds);
      outside = λ a b m other common near undecided.
          let slot = slot_of new.first m in
          outside_of new all a b m (is_candidate new a b slot) true_all
          (λ is. lists.complete a b m common (anew_is old new a b slot other is)) (ticks.far a b m common) (λ h. near ((exact.near a b m).1 h)) (λ h. undecided ((exact.undecided a b m).1 h));
    }

-- those of their roots are these leaves
pub anew_leaves : (old new : PlainProblem) (roots : List PlainCell) → roots ≡ roots_of (is_candidate_anew old new) new → leaves_of_roots new roots ≡ list_anew old new
unfolding list_anew list_of
anew_leaves old new roots same = ap (leaves_of_roots new) same

-- the roots of the candidates of these pairs are theirs
pub anew_wanted : (old new : PlainProblem) → roots_of (is_wanted_candidate (λ pair. not (is_unchanged old new pair)) new) new ≡ roots_of (is_candidate_anew old new) new
unfolding is_wanted_candidate is_candidate_anew
anew_wanted old new = refl

-- they have at least as many leaves as roots
pub anew_roots : (old new : PlainProblem) (roots : List PlainCell) → roots ≡ roots_of (is_candidate_anew old new) new → length roots ≤ length (list_anew old new)
unfolding list_anew list_of
anew_roots old new roots same =
    let candidate = is_candidate_anew old new in
    omega (arith, roots_split new (roots_of candidate new) (Each-roots candidate new), ap (λ (rs : List PlainCell). length rs) same)

-- what is due of them
pub changed_leaves : (most : ℕ) (tells : Tells) (old new : PlainProblem) (ss : List PlainLeaf) → within_cells most (list_anew old new) ≡ Ok ss
    → outputs_changed most tells old new ≡ Ok (outputs_of_changes tells new (kept_unchanged old new) ss)
unfolding outputs_changed
changed_leaves most tells old new ss there =
    ap (λ (r : Result (List PlainLeaf) Status). r >>= λ leaves. Ok (outputs_of_changes tells new (kept_unchanged old new) leaves)) there

pub changed_stops : (most : ℕ) (tells : Tells) (old new : PlainProblem) (s : Status) → Stops ⊥ s (within_cells most (list_anew old new))
    → Stops ⊥ s (outputs_changed most tells old new)
unfolding outputs_changed
changed_stops most tells old new s =
    stops_then ⊥ s (within_cells most (list_anew old new)) (λ leaves. Ok (outputs_of_changes tells new (kept_unchanged old new) leaves))

-- ---- what stays so

-- objects p and q of one case are a and b of another
moved : (old new : PlainProblem) (p q a b m : ℕ) (P : Curve → Curve → Type 0) → slice_get new.tracks a ≡ slice_get old.tracks p → slice_get new.tracks b ≡ slice_get old.tracks q
    → OfObjectsAt old p q m P → OfObjectsAt new a b m P
moved old new p q a b m P first second here =
    subst (λ (x : Option PlainTrack). IsSomeAnd x (λ e. IsSomeAnd (slice_get new.tracks b) (λ f. OfBothAt e f m P))) (sym first)
    (subst (λ (y : Option PlainTrack). IsSomeAnd (slice_get old.tracks p) (λ e. IsSomeAnd y (λ f. OfBothAt e f m P))) (sym second) here)

pub still_so : (old new : PlainProblem) → new.first ≡ old.first → new.last ≡ old.last → new.threshold ≡ old.threshold → StillSo old new
unfolding has_primary
still_so old new first last threshold p q a b before ordered one other =
    let o = object_is old new p a one in
    let t = object_is old new q b other in
    let looked : concerns new (a, b) ≡ concerns old (p, q) = (λ i. o.2 i || t.2 i) in
    let same : threshold_of old p q ≡ threshold_of new a b = omega (arith, threshold, o.1, t.1) in
    record {
      common = λ m. (
        λ c. record {
          ordered = ordered;
          concerned = looked ∙ c.concerned;
          after = omega (arith, first, c.after);
          before = omega (arith, last, c.before);
          nodes = moved old new p q a b m (λ c d. Unit {0}) o.0 t.0 c.nodes;
        },
        λ c. record {
          ordered = before;
          concerned = sym looked ∙ c.concerned;
          after = omega (arith, first, c.after);
          before = omega (arith, last, c.before);
          nodes = moved new old a b p q m (λ c d. Unit {0}) (sym o.0) (sym t.0) c.nodes;
        },
      );
      near = λ m here. subst (λ (k : ℕ). OfObjectsAt new a b m (λ c d. IsNear c d k m)) same (moved old new p q a b m (λ c d. IsNear c d (threshold_of old p q) m) o.0 t.0 here);
      undecided = λ m here. subst (λ (k : ℕ). OfObjectsAt new a b m (λ c d. IsInBand c d k m)) same (moved old new p q a b m (λ c d. IsInBand c d (threshold_of old p q) m) o.0 t.0 here);
      far = λ m here. subst (λ (k : ℕ). OfObjectsAt new a b m (λ c d. IsFar c d k m)) same (moved old new p q a b m (λ c d. IsFar c d (threshold_of old p q) m) o.0 t.0 here);
    }
