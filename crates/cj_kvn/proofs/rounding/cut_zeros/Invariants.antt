use Rattle.std.proofs.Common.{◌≡◌, ◌+◌, ◌/◌, ◌^◌, ◌<◌, ◌≤◌}
use Rattle.cj_kvn.specs.Decimals.{trailing_zeros}
use Rattle.cj_kvn.proofs.rounding.cut_zeros.Given as goal

abbrev pub invariant-loop-digits : goal.invariant-loop-digits
invariant-loop-digits l = record {
  some : 0 < l.digits;
  short : l.digits ≤ l.number;
  cut : l.digits / 10 ^ trailing_zeros l.digits ≡ l.number / 10 ^ trailing_zeros l.number;
  zeros : l.zeros + trailing_zeros l.digits ≡ trailing_zeros l.number;
}

abbrev pub decreases-loop-digits : goal.decreases-loop-digits
decreases-loop-digits l = l.digits
