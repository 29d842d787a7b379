-- The messages of a case: one for each encounter at whose closest approach both objects have a covariance.
use Rattle.std.specs.Prelude.{ℕ, Bool, false, if◌then◌else◌, List, Option, Some, None, option_map, option_and_then, option_to_list}
use Rattle.std.specs.Option.{option_map_or}
use Rattle.cj_io.specs.declared.file.FileBytes.{FileBytes}
use Rattle.cj_case.specs.PlainProblems.{PlainProblem}
use Rattle.cj_case.specs.Leaves.{PlainLeaf}
use Rattle.cj_meet.specs.Closest.{closest_of}
use Rattle.cj_meet.specs.Encounters.{first_object, second_object}
use Rattle.cj_rtn.specs.declared.relative.Rtn.{Rtn}
use Rattle.cj_rtn.specs.Relative.{object_relative}
use Rattle.cj_cdm.specs.Building.{have_covariances, message_of}
use Rattle.cj_cdm.specs.Messages.{PlainMessage, PlainStamp}
use Rattle.cj_cdm.specs.Names.{name_of}
use Rattle.cj_cdm.specs.Relative.{added}
use Rattle.cj_cdm.specs.Texts.{text_of}
use Rattle.cj_report.specs.Report.{numbered}

-- at which tick the messages of a run are made, by whom, and whether they tell the relative state
pub record PlainOrigin : Type 0 where
  pub created : ℕ
  pub originator : List ℕ
  pub relative : Bool

-- the stamp of the message with this number
abbrev pub stamp_from : PlainOrigin → ℕ → PlainStamp
stamp_from origin number = record { created = origin.created; originator = origin.originator; number = number }

-- both objects of an encounter have a covariance at its closest approach
abbrev pub has_message : PlainProblem → List PlainLeaf → Bool
has_message case encounter =
    option_map_or (λ at. have_covariances case (first_object encounter) (second_object encounter) at.tick) (closest_of case encounter) false

-- the message of the encounter with this number, where it has one
abbrev pub message_in : PlainProblem → PlainOrigin → ℕ → List PlainLeaf → Option PlainMessage
message_in case origin number encounter =
    option_and_then (λ at. message_of case (first_object encounter) (second_object encounter) at.tick at.high (stamp_from origin number)) (closest_of case encounter)

-- what object b is relative to object a at tick m, along the axes of a, where it is to be told and there is such a state
abbrev pub relative_to_tell : Bool → PlainProblem → ℕ → ℕ → ℕ → Option Rtn
relative_to_tell tells case a b m = if tells then object_relative case a b m else None

-- what the messages tell of the second object of an encounter relative to the first, at its closest approach
abbrev pub relative_in : PlainProblem → PlainOrigin → List PlainLeaf → Option Rtn
relative_in case origin encounter =
    option_and_then (λ at. relative_to_tell origin.relative case (first_object encounter) (second_object encounter) at.tick) (closest_of case encounter)

-- the text of a message, with the lines of a relative state where there is one
abbrev pub told_with : Option Rtn → List ℕ → List ℕ
told_with None text = text
told_with (Some relative) text = added relative text

-- the output of a message with its number
abbrev pub message_output : ℕ → Option Rtn → PlainMessage → FileBytes
message_output number relative message = record { name = name_of number; bytes = told_with relative (text_of message) }

-- the output of the message of an encounter, where it has one
abbrev pub outputs_at : PlainProblem → PlainOrigin → ℕ → List PlainLeaf → List FileBytes
outputs_at case origin number encounter =
    option_to_list (option_map (message_output number (relative_in case origin encounter)) (message_in case origin number encounter))

-- the outputs of the messages of these encounters, which are numbered from 1
abbrev pub message_outputs : PlainProblem → PlainOrigin → List (List PlainLeaf) → List FileBytes
message_outputs case origin encounters = numbered (outputs_at case origin) 1 encounters
