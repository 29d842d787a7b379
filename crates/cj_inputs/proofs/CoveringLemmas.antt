-- Objects that have to cover the window of a case.
use Rattle.std.proofs.Common.{◌≡◌, ℕ, ◌+◌, ◌<◌, ◌≤◌, true, All, List, [], ◌∷◌, length, map, drop, get_or, Option, Some, None, Result, Ok, Err, refl, sym, ap, subst, ◌∙◌}
use Rattle.std.specs.Prelude.{option_map}
use Rattle.std.proofs.lemmas.List.{drop_all, drop_more}
use Rattle.cj_base.specs.PlainTicks.{micros_of}
use Rattle.cj_base.specs.declared.tick.Tick.{Tick}
use Rattle.cj_io.specs.declared.file.FileBytes.{FileBytes}
use Rattle.cj_case.specs.PlainProblems.{PlainProblem}
use Rattle.cj_coverage.proofs.UncoveredLemmas.{none_missing}
use Rattle.cj_coverage.specs.Coverage.{HasAll, first_uncovered}
use Rattle.cj_interval.proofs.ListLemmas.{All-from_each, Each}
use Rattle.cj_track.specs.PlainTracks.{PlainTrack}
use Rattle.cj_track.specs.Tracks.{plain_track}
use Rattle.cj_track.specs.declared.track.Track.{Track}
use Rattle.cj_words.specs.Commands.{PlainRescreening}
use Rattle.cj_words.specs.Settings.{PlainSettings}
use Rattle.cj_status.specs.declared.status.FileCause.TheVariants.{Uncovered}
use Rattle.cj_status.specs.declared.status.Status.{Status}
use Rattle.cj_status.specs.declared.status.Status.TheVariants.{BadFile}
use Rattle.cj_status.specs.Steps.{◌>>=◌, Stops}
use Rattle.cj_inputs.specs.Cases.{case_asked}
use Rattle.cj_inputs.specs.Coverings.{all_cover, case_covered, cases_covered, covering, whole_or}
use Rattle.cj_inputs.specs.Updates.{PlainUpdating, cases_asked}
use Rattle.cj_inputs.proofs.StepLemmas.{stops_behind}
use Rattle.cj_inputs.proofs.WithinLemmas.{step_there}

-- ---- tracks one after another

from_here : (first last : ℕ) (tracks : List Track) (i : ℕ) (track : Track) → i < length tracks → track ≡ get_or tracks i track
    → all_cover first last (map plain_track (drop i tracks)) ≡ (whole_or track.file (first_uncovered (plain_track track) first last) >>= λ done. all_cover first last (map plain_track (drop (i + 1) tracks)))
from_here first last tracks i track below is =
    let behind : drop i tracks ≡ track ∷ drop (i + 1) tracks = drop_more tracks i track below ∙ ap (λ (t : Track). t ∷ drop (i + 1) tracks) (sym is) in
    ap (λ (ts : List Track). all_cover first last (map plain_track ts)) behind

-- one that leaves out no tick, and those behind it
pub next_covers : (first last : ℕ) (tracks : List Track) (i : ℕ) (track : Track) (whole : Result (Unit {0}) Status) → i < length tracks → track ≡ get_or tracks i track
    → first_uncovered (plain_track track) first last ≡ None → all_cover first last (map plain_track (drop i tracks)) ≡ whole → all_cover first last (map plain_track (drop (i + 1) tracks)) ≡ whole
next_covers first last tracks i track whole below is none before =
    sym (from_here first last tracks i track below is
    ∙ ap (λ (o : Option ℕ). whole_or track.file o >>= λ done. all_cover first last (map plain_track (drop (i + 1) tracks))) none) ∙ before

-- one that leaves out a tick is the first cause
pub one_fails : (first last : ℕ) (tracks : List Track) (i : ℕ) (track : Track) (micros : ℕ) (whole : Result (Unit {0}) Status) → i < length tracks → track ≡ get_or tracks i track
    → first_uncovered (plain_track track) first last ≡ Some micros → all_cover first last (map plain_track (drop i tracks)) ≡ whole → whole ≡ Err (BadFile track.file 0 (Uncovered micros))
one_fails first last tracks i track micros whole below is some before =
    sym before
    ∙ from_here first last tracks i track below is
    ∙ ap (λ (o : Option ℕ). whole_or track.file o >>= λ done. all_cover first last (map plain_track (drop (i + 1) tracks))) some

-- ---- a case

-- it is not read
pub unasked : (rose : Type 0) (files : List FileBytes) (settings : PlainSettings) (s : Status) → Stops rose s (case_asked files settings) → Stops rose s (case_covered files settings)
unfolding case_covered
unasked rose files settings s stops =
    stops_behind rose rose s (case_asked files settings) (λ case. covering settings.must_cover case >>= λ done. Ok case) (λ risen. risen) stops

after_case : (files : List FileBytes) (settings : PlainSettings) (case : PlainProblem) → case_asked files settings ≡ Ok case
    → case_covered files settings ≡ (covering settings.must_cover case >>= λ done. Ok case)
unfolding case_covered
after_case files settings case is = rw is refl

-- an object does not cover its window
pub uncovered : (rose : Type 0) (files : List FileBytes) (settings : PlainSettings) (case : PlainProblem) (s : Status) → case_asked files settings ≡ Ok case
    → Stops ⊥ s (covering settings.must_cover case) → Stops rose s (case_covered files settings)
uncovered rose files settings case s is stops =
    subst (λ (r : Result PlainProblem Status). Stops rose s r) (sym (after_case files settings case is))
    (stops_behind ⊥ rose s (covering settings.must_cover case) (λ done. Ok case) (λ none. absurd none) stops)

-- all do, or need not
pub covered : (files : List FileBytes) (settings : PlainSettings) (case : PlainProblem) (done : Unit {0}) → case_asked files settings ≡ Ok case
    → covering settings.must_cover case ≡ Ok done → case_covered files settings ≡ Ok case
covered files settings case done is cover = after_case files settings case is ∙ rw cover refl

-- what is asked then, and that it is covered where it has to be
pub asked_there : (files : List FileBytes) (settings : PlainSettings) (case : PlainProblem) → case_covered files settings ≡ Ok case
    → (case_asked files settings ≡ Ok case) × (covering settings.must_cover case ≡ Ok tt)
unfolding case_covered
asked_there files settings case is =
    let read = step_there (case_asked files settings) (λ c. covering settings.must_cover c >>= λ done. Ok c) case is in
    let judged = step_there (covering settings.must_cover read.0) (λ done. Ok read.0) case read.2 in
    let same : read.0 ≡ case = let e : ◌≡◌ {A = Result PlainProblem Status} (Ok read.0) (Ok case) = judged.2 in cc in
    (read.1 ∙ ap (λ (c : PlainProblem). Ok c) same, subst (λ (c : PlainProblem). covering settings.must_cover c ≡ Ok tt) same judged.1)

-- ---- two cases

pub cases_unasked : (rose : Type 0) (files : List FileBytes) (asked : PlainRescreening) (s : Status) → Stops rose s (cases_asked files asked) → Stops rose s (cases_covered files asked)
unfolding cases_covered
cases_unasked rose files asked s stops =
    stops_behind rose rose s (cases_asked files asked) (λ cases. covering asked.screening.settings.must_cover cases.new >>= λ done. Ok cases) (λ risen. risen) stops

after_cases : (files : List FileBytes) (asked : PlainRescreening) (cases : PlainUpdating) → cases_asked files asked ≡ Ok cases
    → cases_covered files asked ≡ (covering asked.screening.settings.must_cover cases.new >>= λ done. Ok cases)
unfolding cases_covered
after_cases files asked cases is = rw is refl

pub cases_uncovered : (rose : Type 0) (files : List FileBytes) (asked : PlainRescreening) (cases : PlainUpdating) (s : Status) → cases_asked files asked ≡ Ok cases
    → Stops ⊥ s (covering asked.screening.settings.must_cover cases.new) → Stops rose s (cases_covered files asked)
cases_uncovered rose files asked cases s is stops =
    subst (λ (r : Result PlainUpdating Status). Stops rose s r) (sym (after_cases files asked cases is))
    (stops_behind ⊥ rose s (covering asked.screening.settings.must_cover cases.new) (λ done. Ok cases) (λ none. absurd none) stops)

pub both_covered : (files : List FileBytes) (asked : PlainRescreening) (cases : PlainUpdating) (done : Unit {0}) → cases_asked files asked ≡ Ok cases
    → covering asked.screening.settings.must_cover cases.new ≡ Ok done → cases_covered files asked ≡ Ok cases
both_covered files asked cases done is cover = after_cases files asked cases is ∙ rw cover refl

pub cases_there : (files : List FileBytes) (asked : PlainRescreening) (cases : PlainUpdating) → cases_covered files asked ≡ Ok cases
    → (cases_asked files asked ≡ Ok cases) × (covering asked.screening.settings.must_cover cases.new ≡ Ok tt)
unfolding cases_covered
cases_there files asked cases is =
    let must = asked.screening.settings.must_cover in
    let read = step_there (cases_asked files asked) (λ c. covering must c.new >>= λ done. Ok c) cases is in
    let judged = step_there (covering must read.0.new) (λ done. Ok read.0) cases read.2 in
    let same : read.0 ≡ cases = let e : ◌≡◌ {A = Result PlainUpdating Status} (Ok read.0) (Ok cases) = judged.2 in cc in
    (read.1 ∙ ap (λ (c : PlainUpdating). Ok c) same, subst (λ (c : PlainUpdating). covering must c.new ≡ Ok tt) same judged.1)

-- ---- what is covered

whole_there : (file : List ℕ) (o : Option ℕ) (done : Unit {0}) → whole_or file o ≡ Ok done → o ≡ None
whole_there file None done is = refl
whole_there file (Some micros) done is = absurd cc

each_covered : (first last : ℕ) (es : List PlainTrack) → all_cover first last es ≡ Ok tt → Each (λ e. HasAll e first last) es
each_covered first last [] is = tt
each_covered first last (e ∷ es) is =
    let one = step_there (whole_or e.file (first_uncovered e first last)) (λ done. all_cover first last es) tt is in
    (none_missing e first last (whole_there e.file (first_uncovered e first last) one.0 one.1), each_covered first last es one.2)

-- where objects have to cover the window and none is refused, each has a state at each of its ticks
pub all_covered : (case : PlainProblem) → covering true case ≡ Ok tt → All (λ e. HasAll e case.first case.last) case.tracks
all_covered case is = All-from_each (λ e. HasAll e case.first case.last) case.tracks (each_covered case.first case.last case.tracks is)

-- no tick was found
pub none_of : (o : Option Tick) (found : Option ℕ) → option_map micros_of o ≡ found → ((tick : Tick) → o ≡ Some tick → ⊥) → found ≡ None
none_of None found is other = sym is
none_of (Some tick) found is other = absurd (other tick refl)

-- each track was looked at
pub all_looked_at : (first last : ℕ) (tracks : List Track) (count : ℕ) (whole : Result (Unit {0}) Status) → length tracks ≤ count
    → all_cover first last (map plain_track (drop count tracks)) ≡ whole → whole ≡ Ok tt
all_looked_at first last tracks count whole past is =
    sym is ∙ ap (λ (ts : List Track). all_cover first last (map plain_track ts)) (drop_all count tracks past)
