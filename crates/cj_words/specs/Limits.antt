-- How much a run may take.
use Rattle.std.specs.Prelude.{ℕ, Bool, true, false}
use Rattle.cj_base.specs.Limits.{PlainLimits, USUAL}

-- that of a run over a whole sky
abbrev pub LARGE : PlainLimits
LARGE = record { objects = 50_000; nodes = 64_000_000; object_slots = 64_000_000; leaves = 400_000_000 }

-- that of any run: of one over a whole sky where this is asked
abbrev pub limits_of : Bool → PlainLimits
limits_of false = USUAL
limits_of true = LARGE

-- the most leaves that its certificate tells in brief
abbrev pub most_told : Bool → ℕ
most_told false = 4_000_000
most_told true = 80_000_000

-- the most bytes of a certificate in any run, so that the number of each line is one of 32 bits
abbrev pub MOST_CERTIFICATE_BYTES : ℕ
MOST_CERTIFICATE_BYTES = 4_294_967_290

-- the most bytes of a certificate that is checked, and of a report
abbrev pub most_certificate_bytes : Bool → ℕ
most_certificate_bytes false = 1_073_741_824
most_certificate_bytes true = MOST_CERTIFICATE_BYTES
