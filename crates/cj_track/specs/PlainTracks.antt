-- What an orbit ephemeris says, apart from how a program keeps it.
use Rattle.std.specs.Prelude.{ℕ, List, [], ◌∷◌, Option, Some, None}
use Rattle.std.specs.List.{last_or}
use Rattle.cj_base.specs.Numbers.{Number}
use Rattle.cj_track.specs.declared.vec3.Vec3.{Vec3}
use Rattle.cj_track.specs.declared.frame.Frame.{Frame}

-- a state vector at a tick: place in nm, rate in nm/s
pub record PlainNode : Type 0 where
  pub at : ℕ
  pub p : Vec3
  pub v : Vec3

-- the first of these nodes
abbrev pub first_state : List PlainNode → Option PlainNode
first_state [] = None
first_state (s ∷ nodes) = Some s

-- the last of them
abbrev pub last_state : List PlainNode → Option PlainNode
last_state nodes = last_or None nodes

-- a covariance at a tick, in the frame RTN: the lower triangle of a symmetric matrix of 6 rows, in km and km/s
pub record PlainMatrix : Type 0 where
  pub at : ℕ
  pub values : List Number

-- a segment: its nodes in order of time, its useable span from the first to the last tick, its covariances as they stand in the file
pub record PlainSegment : Type 0 where
  pub first : ℕ
  pub last : ℕ
  pub nodes : List PlainNode
  pub covariances : List PlainMatrix

abbrev pub first_of : PlainSegment → ℕ
first_of segment = segment.first

abbrev pub last_of : PlainSegment → ℕ
last_of segment = segment.last

-- one object: the file that it comes from, its name, its designator, its frame, its segments
pub record PlainTrack : Type 0 where
  pub file : List ℕ
  pub name : List ℕ
  pub id : List ℕ
  pub frame : Frame
  pub segments : List PlainSegment
