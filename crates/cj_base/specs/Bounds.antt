-- Fixed bounds: what every number of a case stays within, whatever limits a run is given.
use Rattle.std.specs.Prelude.{ℕ}

-- the most objects of a case
abbrev pub MOST_OBJECTS : ℕ
MOST_OBJECTS = 65_535

-- the most nodes of all tracks of a case
abbrev pub MOST_NODES : ℕ
MOST_NODES = 64_000_000

-- the most objects times slots of a case
abbrev pub MOST_OBJECT_SLOTS : ℕ
MOST_OBJECT_SLOTS = 64_000_000

-- the most leaves of a case
abbrev pub MOST_LEAVES : ℕ
MOST_LEAVES = 400_000_000

-- the most objects of a made-up catalogue
abbrev pub MOST_MADE_OBJECTS : ℕ
MOST_MADE_OBJECTS = 2000
