use Rattle.std.proofs.Common.{◌≡◌, ℕ, ◌≤◌, List, [], ◌∷◌, length, get_or, Some, arith, refl, sym}
use Rattle.cj_kvn.specs.RawLines.{end_len}
use Rattle.cj_kvn.proofs.raw_line.end_len.Goals as goal

-- a carriage return and a line feed
both : (text : List ℕ) → 2 ≤ length text → get_or text 0 0 ≡ 13 → get_or text 1 0 ≡ 10 → end_len text ≡ Some 2
both [] long return feed = absurd (omega arith)
both (b ∷ []) long return feed = absurd (omega arith)
both (b ∷ d ∷ text) long return feed = rw (return, feed) refl

pub returns-in-13 : goal.returns-in-13
returns-in-13 c = sym (both c.args.text.now c.in-13.len_at_least (omega arith) (omega arith))
