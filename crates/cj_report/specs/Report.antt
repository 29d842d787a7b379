-- The text of a report.
use Rattle.std.specs.Prelude.{ℕ, ◌+◌, ◌-◌, Bool, true, false, if◌then◌else◌, List, [], ◌∷◌, ◌++◌, Option, Some, None, codes, decimal, flat_map, slice_get}
use Rattle.cj_case.specs.declared.kind.Kind.{Kind}
use Rattle.cj_case.specs.declared.kind.Kind.TheVariants as kind
use Rattle.cj_case.specs.declared.encounter.Mark.{Mark}
use Rattle.cj_case.specs.declared.encounter.Mark.TheVariants as mark
use Rattle.cj_case.specs.Leaves.{PlainLeaf}
use Rattle.cj_case.specs.Primaries.{is_named}
use Rattle.cj_coverage.specs.Coverage.{covered_spans}
use Rattle.cj_epoch.specs.Written.{epoch_of}
use Rattle.cj_hermite.specs.CommonRuns.{Run}
use Rattle.cj_kvn.specs.Entries.{line_of_words}
use Rattle.cj_meet.specs.Closest.{PlainClosest}
use Rattle.cj_meet.specs.Encounters.{first_object, second_object, mark_of}
use Rattle.cj_meet.specs.Spans.{spans_of}
use Rattle.cj_track.specs.PlainTracks.{PlainTrack}

-- what several things give, as texts, where they have the numbers from n on
abbrev pub numbered : {A B : Type 0} → (ℕ → A → List B) → ℕ → List A → List B
numbered given n [] = []
numbered given n (x ∷ xs) = given n x ++ numbered given (n + 1) xs

-- a size in nm, where it is told
abbrev pub size_line : Option ℕ → List ℕ
size_line None = []
size_line (Some size) = line_of_words (codes "SIZE" ∷ decimal size ∷ [])

-- that an object is named as a primary
abbrev pub primary_line : Bool → List ℕ
primary_line true = line_of_words (codes "PRIMARY" ∷ [])
primary_line false = []

-- the object with this number
abbrev pub name_lines : ℕ → PlainTrack → List ℕ
name_lines n object =
    line_of_words (codes "OBJECT" ∷ decimal n ∷ [])
    ++ line_of_words (codes "FILE" ∷ object.file ∷ [])
    ++ line_of_words (codes "ID" ∷ object.id ∷ [])
    ++ line_of_words (codes "NAME" ∷ object.name ∷ [])

-- a covered span with its first tick and its last
abbrev pub covered_line : Run → List ℕ
covered_line span = line_of_words (codes "COVERED" ∷ epoch_of span.first ∷ epoch_of span.last ∷ [])

-- covered spans, or that there are none
abbrev pub covered_lines : List Run → List ℕ
covered_lines [] = line_of_words (codes "COVERED" ∷ codes "NONE" ∷ [])
covered_lines (span ∷ spans) = flat_map covered_line (span ∷ spans)

-- which of the ticks from first to last an object covers, where this is told
abbrev pub coverage_lines : Bool → ℕ → ℕ → PlainTrack → List ℕ
coverage_lines with_coverage first last object = if with_coverage then covered_lines (covered_spans object first last) else []

-- its names with its size, where these sizes are told; numbers count from 1
abbrev pub sized_lines : List ℕ → ℕ → PlainTrack → List ℕ
sized_lines sizes n object = name_lines n object ++ size_line (slice_get sizes (n - 1))

-- the same, and whether it is one of these primaries
abbrev pub marked_lines : List ℕ → Option (List Bool) → ℕ → PlainTrack → List ℕ
marked_lines sizes primaries n object = sized_lines sizes n object ++ primary_line (is_named primaries (n - 1))

-- all that is told of it
abbrev pub object_lines : List ℕ → Option (List Bool) → Bool → ℕ → ℕ → ℕ → PlainTrack → List ℕ
object_lines sizes primaries with_coverage first last n object = marked_lines sizes primaries n object ++ coverage_lines with_coverage first last object

abbrev pub mark_word : Mark → List ℕ
mark_word mark.Near = codes "NEAR"
mark_word mark.Undecided = codes "UNDECIDED"

abbrev pub kind_word : Kind → List ℕ
kind_word kind.Far = codes "FAR"
kind_word kind.Near = codes "NEAR"
kind_word kind.Undecided = codes "UNDECIDED"

-- whether an encounter has a message, or there is none for want of a covariance
abbrev pub message_word : Bool → List ℕ
message_word true = codes "CDM"
message_word false = codes "NOCOV"

-- the time of the closest approach and the bound of the distance there in nm, where there is one, and whether there is a message
abbrev pub approach_words : Option PlainClosest → Bool → List (List ℕ)
approach_words None has_message = codes "-" ∷ codes "-" ∷ message_word has_message ∷ []
approach_words (Some closest) has_message = epoch_of closest.tick ∷ decimal closest.high ∷ message_word has_message ∷ []

-- a span with its first tick and its last
abbrev pub span_line : PlainLeaf → List ℕ
span_line span = line_of_words (codes "SPAN" ∷ kind_word span.kind ∷ epoch_of span.first ∷ epoch_of span.last ∷ [])

-- the encounter with this number, of the objects a and b, which are numbered from 1 in the text
abbrev pub encounter_line : ℕ → ℕ → ℕ → Mark → List (List ℕ) → List ℕ
encounter_line n a b mark approach =
    line_of_words (codes "ENCOUNTER" ∷ decimal n ∷ decimal (a + 1) ∷ decimal (b + 1) ∷ mark_word mark ∷ approach)

-- the encounter, with the closest approach that it has by the one function and the message that it has by the other, and its spans
abbrev pub encounter_lines : (List PlainLeaf → Option PlainClosest) → (List PlainLeaf → Bool) → ℕ → List PlainLeaf → List ℕ
encounter_lines approach has_message n encounter =
    encounter_line n (first_object encounter) (second_object encounter) (mark_of encounter) (approach_words (approach encounter) (has_message encounter))
    ++ flat_map span_line (spans_of encounter)

-- the sizes that a report tells
abbrev pub told : Bool → List ℕ → List ℕ
told with_sizes sizes = if with_sizes then sizes else []

-- a report under a title: its window from the first tick to the last, its threshold in nm, its objects, the sizes that are told, the primaries that
-- are named, whether it is told which ticks each object covers, its encounters with the closest approaches that they have by the one function and the messages that they have
-- by the other
abbrev pub report_titled : List ℕ → ℕ → ℕ → ℕ → List PlainTrack → List ℕ → Option (List Bool) → Bool → (List PlainLeaf → Option PlainClosest) → (List PlainLeaf → Bool) → List (List PlainLeaf) → List ℕ
report_titled title first last threshold objects sizes primaries with_coverage approach has_message encounters =
    line_of_words (title ∷ codes "1" ∷ [])
    ++ line_of_words (codes "WINDOW" ∷ epoch_of first ∷ epoch_of last ∷ [])
    ++ line_of_words (codes "THRESHOLD" ∷ decimal threshold ∷ [])
    ++ numbered (object_lines sizes primaries with_coverage first last) 1 objects
    ++ numbered (encounter_lines approach has_message) 1 encounters
    ++ line_of_words (codes "END" ∷ [])

-- the report
abbrev pub report_of : ℕ → ℕ → ℕ → List PlainTrack → List ℕ → Option (List Bool) → Bool → (List PlainLeaf → Option PlainClosest) → (List PlainLeaf → Bool) → List (List PlainLeaf) → List ℕ
report_of first last threshold objects sizes primaries with_coverage approach has_message encounters =
    report_titled (codes "CONJ-REPORT") first last threshold objects sizes primaries with_coverage approach has_message encounters

-- the report of those encounters alone whose pairs are not unchanged
abbrev pub changed_of : ℕ → ℕ → ℕ → List PlainTrack → List ℕ → Option (List Bool) → Bool → (List PlainLeaf → Option PlainClosest) → (List PlainLeaf → Bool) → List (List PlainLeaf) → List ℕ
changed_of first last threshold objects sizes primaries with_coverage approach has_message encounters =
    report_titled (codes "CONJ-CHANGED") first last threshold objects sizes primaries with_coverage approach has_message encounters
