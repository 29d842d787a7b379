-- The messages whose texts are read.
use Rattle.std.specs.Prelude.{◌≡◌, true, length}
use Rattle.std.specs.List.{list_all}
use Rattle.cj_track.specs.Labels.{is_label}
use Rattle.cj_cdm.specs.Messages.{PlainSide, PlainStamp, PlainMessage}
use Rattle.cj_kvn.specs.Originators.{is_originator}
use Rattle.cj_cdm.specs.Values.{is_decimal, is_international, is_miss, is_number, is_short, is_tick}
use Rattle.cj_rtn.specs.declared.vector.Vector.{Vector}

-- made at a tick, by an originator, with a number from 1 to 2^32 - 1
pub record IsStamp (s : PlainStamp) : Type 0 where
  pub made : is_tick s.created ≡ true
  pub by : is_originator s.originator ≡ true
  pub numbered : is_number s.number ≡ true

-- coordinates below 10^36 in size
pub record IsShort (v : Vector) : Type 0 where
  pub of_x : is_short v.x ≡ true
  pub of_y : is_short v.y ≡ true
  pub of_z : is_short v.z ≡ true

-- Names of printable bytes without outer spaces, coordinates below 10^36, and 21 elements of at most 18 digits.
pub record IsSide (s : PlainSide) : Type 0 where
  pub designated : is_label s.id ≡ true
  pub named : is_label s.name ≡ true
  pub international : is_international s.designator ≡ true
  pub from : is_label s.file ≡ true
  pub placed : IsShort s.place
  pub moved : IsShort s.rate
  pub at : is_tick s.epoch ≡ true
  pub whole : length s.values ≡ 21
  pub elements : list_all is_decimal s.values ≡ true

-- a message whose parts all have such values, with a miss distance below 2^64 nm
pub record Fits (m : PlainMessage) : Type 0 where
  pub stamp_fits : IsStamp m.stamp
  pub near : is_tick m.tca ≡ true
  pub missed : is_miss m.miss ≡ true
  pub begun : is_tick m.start ≡ true
  pub ended : is_tick m.stop ≡ true
  pub first : IsSide m.object1
  pub second : IsSide m.object2

-- what a message has from outside is of its form: who made it, its number, and the names of the files
pub record HasNames (m : PlainMessage) : Type 0 where
  pub by : is_originator m.stamp.originator ≡ true
  pub numbered : is_number m.stamp.number ≡ true
  pub first : is_label m.object1.file ≡ true
  pub second : is_label m.object2.file ≡ true
