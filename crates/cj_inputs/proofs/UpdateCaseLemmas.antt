-- The cases before and after updates, step by step.
use Rattle.std.proofs.Common.{◌≡◌, ◌∙◌, ℕ, ◌*◌, ◌-◌, ◌≤◌, ◌<◌, true, false, List, length, map, Option, Some, None, Ok, Err, Result, refl, sym, ap, subst, arith}
use Rattle.std.specs.Prelude.{is_some, nat_le, option_map, unwrap_or}
use Rattle.std.proofs.lemmas.Bool.Decides.{nat_tests}
use Rattle.std.proofs.Math.Nat.{mul-le-mul_right}
use Rattle.cj_case.specs.PlainProblems.{PlainProblem}
use Rattle.cj_case.specs.Slots.{slot_count}
use Rattle.cj_io.specs.declared.file.FileBytes.{FileBytes}
use Rattle.cj_io.specs.declared.name.Name.{Name}
use Rattle.cj_io.specs.Files.{names_of}
use Rattle.cj_track.specs.PlainTracks.{PlainTrack}
use Rattle.cj_words.specs.Commands.{PlainRescreening}
use Rattle.cj_words.specs.Settings.{PlainSettings}
use Rattle.cj_status.specs.declared.status.Status.{Status}
use Rattle.cj_status.specs.declared.status.Status.TheVariants as status
use Rattle.cj_status.specs.declared.status.LimitFault.TheVariants.{Window}
use Rattle.cj_status.specs.Steps.{◌>>=◌, Stops}
use Rattle.cj_inputs.specs.declared.input_files.Entry.{Entry}
use Rattle.cj_inputs.specs.declared.reading.InputError.{InputError}
use Rattle.cj_inputs.specs.Cases.{case_of_run, object_slots, within_limits, within_objects, within_slots, within_window}
use Rattle.cj_inputs.specs.Errors.{input_status}
use Rattle.cj_inputs.specs.InputFiles.{apart_of}
use Rattle.cj_inputs.specs.ObjectAttributes.{PlainAttributes, attributes_asked}
use Rattle.cj_inputs.specs.Readings.{Reads}
use Rattle.cj_inputs.specs.Updates.{PlainUpdated, PlainUpdating, base_of, both_within, cases_asked, cases_of_run, larger, read_as, tracks_updated, updated_asked, updates_of}
use Rattle.cj_inputs.specs.Windows.{greatest, least, start_of, stop_of, window_first, window_last}
use Rattle.cj_inputs.proofs.StepLemmas.{input_stops, stops_behind}
use Rattle.cj_inputs.proofs.WithinLemmas.{let_through, step_there, within_there}

-- ---- the files

-- the base files are not listed
pub base_unlisted : (rose : Type 0) (files : List FileBytes) (settings : PlainSettings) (update : List ℕ) (names : List Name) (s : Status) → names ≡ names_of files
    → Stops ⊥ s (within_objects settings.limits.objects (base_of settings.suffix update (apart_of settings) names)) → Stops rose s (tracks_updated files settings update)
unfolding tracks_updated
base_unlisted rose files settings update names s known stops =
    stops_behind ⊥ rose s (within_objects settings.limits.objects (base_of settings.suffix update (apart_of settings) (names_of files)))
    (λ entries. read_as files settings update entries (updates_of settings.suffix update (apart_of settings) (names_of files))) (λ none. absurd none)
    (subst (λ (ns : List Name). Stops ⊥ s (within_objects settings.limits.objects (base_of settings.suffix update (apart_of settings) ns))) known stops)

-- they are, and so are the updates
pub both_listed : (files : List FileBytes) (settings : PlainSettings) (update : List ℕ) (names : List Name) (entries updates : List Entry) → names ≡ names_of files
    → within_objects settings.limits.objects (base_of settings.suffix update (apart_of settings) names) ≡ Ok entries → updates ≡ updates_of settings.suffix update (apart_of settings) names
    → tracks_updated files settings update ≡ read_as files settings update entries updates
unfolding tracks_updated
both_listed files settings update names entries updates known listed is =
    ap (λ (r : Result (List Entry) Status). r >>= λ some. read_as files settings update some (updates_of settings.suffix update (apart_of settings) (names_of files)))
    (subst (λ (ns : List Name). within_objects settings.limits.objects (base_of settings.suffix update (apart_of settings) ns) ≡ Ok entries) known listed)
    ∙ ap (λ (es : List Entry). read_as files settings update entries es) (sym (is ∙ ap (λ (ns : List Name). updates_of settings.suffix update (apart_of settings) ns) known))

-- ---- the updated files alone

-- their tracks are not read
pub updated_unread : (rose : Type 0) (files : List FileBytes) (settings : PlainSettings) (update : List ℕ) (s : Status) → Stops rose s (tracks_updated files settings update)
    → Stops rose s (updated_asked files settings update)
unfolding updated_asked
updated_unread rose files settings update s stops =
    stops_behind rose rose s (tracks_updated files settings update)
    (λ tracks. attributes_asked tracks.base tracks.new files settings >>= λ said. within_limits settings.limits.object_slots (case_of_run settings tracks.new said)) (λ risen. risen) stops

updated_of_tracks : (files : List FileBytes) (settings : PlainSettings) (update : List ℕ) (tracks : PlainUpdated) → tracks_updated files settings update ≡ Ok tracks
    → updated_asked files settings update ≡ (attributes_asked tracks.base tracks.new files settings >>= λ said. within_limits settings.limits.object_slots (case_of_run settings tracks.new said))
unfolding updated_asked
updated_of_tracks files settings update tracks is = rw is refl

-- the files beside ephemerides are not
pub updated_unsaid : {X : Type 0} (later rose : Type 0) (view : X → PlainAttributes) (files : List FileBytes) (settings : PlainSettings) (update : List ℕ) (tracks : PlainUpdated) (why : InputError)
    → (later → rose) → tracks_updated files settings update ≡ Ok tracks → Reads later view (Err why) (attributes_asked tracks.base tracks.new files settings)
    → Stops rose (input_status why) (updated_asked files settings update)
updated_unsaid later rose view files settings update tracks why wider is read =
    rw (updated_of_tracks files settings update tracks is)
    (input_stops later rose view why (attributes_asked tracks.base tracks.new files settings) (λ said. within_limits settings.limits.object_slots (case_of_run settings tracks.new said)) wider read)

-- all is read
pub updated_of_attributes : (files : List FileBytes) (settings : PlainSettings) (update : List ℕ) (tracks : PlainUpdated) (said : PlainAttributes) → tracks_updated files settings update ≡ Ok tracks
    → attributes_asked tracks.base tracks.new files settings ≡ Ok said → updated_asked files settings update ≡ within_limits settings.limits.object_slots (case_of_run settings tracks.new said)
updated_of_attributes files settings update tracks said is read = updated_of_tracks files settings update tracks is ∙ rw read refl

-- ---- both cases

pub cases_unread : (rose : Type 0) (files : List FileBytes) (asked : PlainRescreening) (s : Status) → Stops rose s (tracks_updated files asked.screening.settings asked.update)
    → Stops rose s (cases_asked files asked)
unfolding cases_asked
cases_unread rose files asked s stops =
    let settings = asked.screening.settings in
    stops_behind rose rose s (tracks_updated files settings asked.update)
    (λ tracks. attributes_asked tracks.base tracks.new files settings >>= λ said. both_within settings.limits.object_slots (cases_of_run settings tracks said)) (λ risen. risen) stops

cases_of_tracks : (files : List FileBytes) (asked : PlainRescreening) (tracks : PlainUpdated) → tracks_updated files asked.screening.settings asked.update ≡ Ok tracks
    → cases_asked files asked ≡ (attributes_asked tracks.base tracks.new files asked.screening.settings
    >>= λ said. both_within asked.screening.settings.limits.object_slots (cases_of_run asked.screening.settings tracks said))
unfolding cases_asked
cases_of_tracks files asked tracks is = rw is refl

pub cases_unsaid : {X : Type 0} (later rose : Type 0) (view : X → PlainAttributes) (files : List FileBytes) (asked : PlainRescreening) (tracks : PlainUpdated) (why : InputError) → (later → rose)
    → tracks_updated files asked.screening.settings asked.update ≡ Ok tracks → Reads later view (Err why) (attributes_asked tracks.base tracks.new files asked.screening.settings)
    → Stops rose (input_status why) (cases_asked files asked)
cases_unsaid later rose view files asked tracks why wider is read =
    rw (cases_of_tracks files asked tracks is)
    (input_stops later rose view why (attributes_asked tracks.base tracks.new files asked.screening.settings)
    (λ said. both_within asked.screening.settings.limits.object_slots (cases_of_run asked.screening.settings tracks said)) wider read)

pub cases_of_attributes : (files : List FileBytes) (asked : PlainRescreening) (tracks : PlainUpdated) (said : PlainAttributes) → tracks_updated files asked.screening.settings asked.update ≡ Ok tracks
    → attributes_asked tracks.base tracks.new files asked.screening.settings ≡ Ok said
    → cases_asked files asked ≡ both_within asked.screening.settings.limits.object_slots (cases_of_run asked.screening.settings tracks said)
cases_of_attributes files asked tracks said is read = cases_of_tracks files asked tracks is ∙ rw read refl

-- ---- their limits

-- an end of the window that is given is one end for all tracks
given : (o : Option ℕ) (a b : ℕ) → is_some o ≡ true → unwrap_or o a ≡ unwrap_or o b
given None a b h = absurd cc
given (Some tick) a b h = refl

given_first : (settings : PlainSettings) (some more : List PlainTrack) → is_some settings.from ≡ true → window_first settings some ≡ window_first settings more
given_first settings some more is = given settings.from (least (map start_of some)) (least (map start_of more)) is

given_last : (settings : PlainSettings) (some more : List PlainTrack) → is_some settings.to ≡ true → window_last settings some ≡ window_last settings more
given_last settings some more is = given settings.to (greatest (map stop_of some)) (greatest (map stop_of more)) is

-- two cases of one window
pub record AreOver (a b : PlainProblem) : Type 0 where
  pub first : a.first ≡ b.first
  pub last : a.last ≡ b.last
  pub threshold : a.threshold ≡ b.threshold

pub one_window : (settings : PlainSettings) (some more : List PlainTrack) (said : PlainAttributes) → is_some settings.from ≡ true → is_some settings.to ≡ true
    → AreOver (case_of_run settings some said) (case_of_run settings more said)
one_window settings some more said begins ends = record { first = given_first settings some more begins; last = given_last settings some more ends; threshold = refl }

-- a case of the window of another that is within limits, and of no more objects, is within them too
pub smaller_within : (most : ℕ) (a b kept : PlainProblem) → AreOver a b → length a.tracks ≤ length b.tracks → within_limits most b ≡ Ok kept → within_limits most a ≡ Ok a
smaller_within most a b kept over fewer is =
    let there = within_there most b kept is in
    let window = step_there (within_window b) (within_slots most) kept is in
    let short = (let_through (b.last - b.first) 1_209_600_000_000 b window.0 (status.Limit (Window (b.last - b.first))) window.1).0 in
    let slots : slot_count a.first a.last ≡ slot_count b.first b.last = ap (λ (f : ℕ). slot_count f a.last) over.first ∙ ap (slot_count b.first) over.last in
    let more : length a.tracks * slot_count a.first a.last ≤ length b.tracks * slot_count a.first a.last = mul-le-mul_right (slot_count a.first a.last) fewer in
    let same : length b.tracks * slot_count a.first a.last ≡ object_slots b = ap (λ (n : ℕ). length b.tracks * n) slots in
    let few : object_slots a ≤ most = omega (arith, more, same, there.0) in
    let long : a.last - a.first ≤ 1_209_600_000_000 = omega (arith, short, over.first, over.last) in
    let small : nat_le (a.last - a.first) 1_209_600_000_000 ≡ true = grind (arith, nat_tests) in
    let fits : nat_le (object_slots a) most ≡ true = grind (arith, nat_tests) in
    rw (small, fits) refl

-- where nothing but want of memory ends what is due, nothing else does
pub only_memory : {A B : Type 0} (s : Status) (x : A) (due : Result B Status) → Stops ⊥ s (Ok x) → Stops ⊥ s due
only_memory status.Ok x due stops = stops
only_memory (status.NotAccepted line cause) x due stops = absurd cc
only_memory (status.Usage fault) x due stops = absurd cc
only_memory (status.BadFile file line cause) x due stops = absurd cc
only_memory status.ReadFault x due stops = stops
only_memory status.WriteFault x due stops = stops
only_memory (status.Limit fault) x due stops = absurd cc
only_memory status.OutOfMemory x due stops = tt

-- the larger one
pub larger_new : (cases : PlainUpdating) → length cases.base.tracks ≤ length cases.new.tracks → larger cases ≡ cases.new
larger_new cases fewer =
    let fits : nat_le (length cases.base.tracks) (length cases.new.tracks) ≡ true = grind (arith, nat_tests) in
    rw fits refl

pub larger_base : (cases : PlainUpdating) → length cases.new.tracks < length cases.base.tracks → larger cases ≡ cases.base
larger_base cases more =
    let large : nat_le (length cases.base.tracks) (length cases.new.tracks) ≡ false = grind (arith, nat_tests) in
    rw large refl

-- both cases, where the one that is made first is the larger one: this one ends it
pub larger_ends : (most : ℕ) (cases : PlainUpdating) (first : PlainProblem) (s : Status) → larger cases ≡ first → Stops ⊥ s (within_limits most first) → Stops ⊥ s (both_within most cases)
larger_ends most cases first s is stops =
    stops_behind ⊥ ⊥ s (within_limits most (larger cases)) (λ kept. Ok cases) (λ none. none)
    (subst (λ (c : PlainProblem). Stops ⊥ s (within_limits most c)) (sym is) stops)

-- the other one ends it for want of memory alone
pub smaller_ends : (most : ℕ) (cases : PlainUpdating) (first other kept : PlainProblem) (s : Status) → AreOver other first → length other.tracks ≤ length first.tracks
    → within_limits most first ≡ Ok kept → Stops ⊥ s (within_limits most other) → Stops ⊥ s (both_within most cases)
smaller_ends most cases first other kept s over fewer is stops =
    only_memory s other (both_within most cases) (subst (λ (r : Result PlainProblem Status). Stops ⊥ s r) (smaller_within most other first kept over fewer is) stops)

-- both are made
pub both_made : (most : ℕ) (cases made : PlainUpdating) (first : PlainProblem) (kept : PlainProblem) → larger cases ≡ first → within_limits most first ≡ Ok kept → made ≡ cases
    → both_within most cases ≡ Ok made
both_made most cases made first kept is within same =
    ap (λ (c : PlainProblem). within_limits most c >>= λ some. Ok cases) is ∙ ap (λ (r : Result PlainProblem Status). r >>= λ some. Ok cases) within
    ∙ ap (λ (c : PlainUpdating). Ok c) (sym same)

-- what is made within limits is what is asked
pub made_is : (most : ℕ) (asked made : PlainProblem) → within_limits most asked ≡ Ok made → made ≡ asked
made_is most asked made is = sym (within_there most asked made is).1

-- and what is made of two cases of one window is of one window
pub made_over : (most : ℕ) (a b made kept : PlainProblem) → AreOver a b → within_limits most a ≡ Ok made → within_limits most b ≡ Ok kept → AreOver made kept
made_over most a b made kept over is also =
    let one = made_is most a made is in
    let other = made_is most b kept also in
    record {
      first = ap (λ (c : PlainProblem). c.first) one ∙ over.first ∙ ap (λ (c : PlainProblem). c.first) (sym other);
      last = ap (λ (c : PlainProblem). c.last) one ∙ over.last ∙ ap (λ (c : PlainProblem). c.last) (sym other);
      threshold = ap (λ (c : PlainProblem). c.threshold) one ∙ over.threshold ∙ ap (λ (c : PlainProblem). c.threshold) (sym other);
    }

-- both are what is asked
pub both_are : (most : ℕ) (cases made : PlainUpdating) → within_limits most cases.base ≡ Ok made.base → within_limits most cases.new ≡ Ok made.new → made ≡ cases
both_are most cases made is also = λ i. record { base = made_is most cases.base made.base is i; new = made_is most cases.new made.new also i }

-- an end that is given is given as a number
pub given_end : {A : Type 0} (f : A → ℕ) (o : Option A) → is_some o ≡ true → is_some (option_map f o) ≡ true
given_end f None h = absurd cc
given_end f (Some a) h = refl
