-- What a conjunction data message says.
use Rattle.std.specs.Prelude.{ℕ, List}
use Rattle.cj_base.specs.Numbers.{Number}
use Rattle.cj_track.specs.declared.frame.Frame.{Frame}
use Rattle.cj_rtn.specs.declared.vector.Vector.{Vector}

-- One object: its designator, its name, its international designator, the file of its ephemeris and the frame of that; its state at
-- the closest approach, in nm and nm/s; the epoch of its covariance, and the lower triangle of that in RTN, row by row, in m and m/s.
pub record PlainSide : Type 0 where
  pub id : List ℕ
  pub name : List ℕ
  pub designator : List ℕ
  pub file : List ℕ
  pub frame : Frame
  pub place : Vector
  pub rate : Vector
  pub epoch : ℕ
  pub values : List Number

-- when a message is made, by whom, and its number
pub record PlainStamp : Type 0 where
  pub created : ℕ
  pub originator : List ℕ
  pub number : ℕ

-- A message: its stamp; the tick of the closest approach and the miss distance there in nm; the screened window from its first to its
-- last tick; the two objects.
pub record PlainMessage : Type 0 where
  pub stamp : PlainStamp
  pub tca : ℕ
  pub miss : ℕ
  pub start : ℕ
  pub stop : ℕ
  pub object1 : PlainSide
  pub object2 : PlainSide
