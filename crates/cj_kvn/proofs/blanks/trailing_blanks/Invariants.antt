use Rattle.std.proofs.Common.{◌≡◌, ◌+◌, ◌≤◌, length, take}
use Rattle.std.specs.List.{suffix_len}
use Rattle.cj_kvn.specs.Lines.{is_blank}
use Rattle.cj_kvn.proofs.blanks.trailing_blanks.Given as goal

abbrev pub invariant-loop-left : goal.invariant-loop-left
invariant-loop-left l = record {
  within : l.left ≤ length l.text;
  rest : l.left + suffix_len is_blank l.text ≡ length l.text + suffix_len is_blank (take l.left l.text);
}

abbrev pub decreases-loop-left : goal.decreases-loop-left
decreases-loop-left l = l.left
