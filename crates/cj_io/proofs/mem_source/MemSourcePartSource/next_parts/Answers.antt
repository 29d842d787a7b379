use Rattle.std.proofs.Common.{◌≡◌, ◌++◌, List, ℕ, length, append_assoc, ap, arith, sym, refl}
use Rattle.std.proofs.lemmas.List.{nil_from_length}
use Rattle.std.proofs.lemmas.Bool.{eqb-true}
use Rattle.cj_io.proofs.mem_source.MemSourcePartSource.next_parts.Goals as goal

-- what is cut twice stands behind one another
cut_twice : (all front behind back rest two : List ℕ) → all ≡ front ++ behind → behind ≡ back ++ rest → two ≡ front ++ back → all ≡ two ++ rest
cut_twice all front behind back rest two e f g = rw (e, f, g) (sym (append_assoc front back rest))

pub returns-then-is_empty-clause-parts : goal.returns-then-is_empty-clause-parts
returns-then-is_empty-clause-parts g c = rw c.new.ensures.items refl

pub returns-then-is_empty-clause-end : goal.returns-then-is_empty-clause-end
returns-then-is_empty-clause-end g c =
    let bytes = c.args.self.now.left.now in
    λ none. nil_from_length bytes (eqb-true (length bytes) 0 (sym c.if-is_empty.ensures))

pub returns-then-is_empty-clause-falls : goal.returns-then-is_empty-clause-falls
returns-then-is_empty-clause-falls g c = λ some. absurd (omega (arith, ap length c.new.ensures.items))

pub returns-clause-parts : goal.returns-clause-parts
returns-clause-parts g c =
    cut_twice c.args.self.now.left.now c.split_at.result.0.now c.split_at.result.1.now c.split_at-2.result.0.now c.split_at-2.result.1.now _
    c.split_at.ensures.by_index.0 c.split_at-2.ensures.by_index.0 c.in_ok-parts.ensures.joined

pub returns-clause-end : goal.returns-clause-end
returns-clause-end g c = λ none. absurd (omega (arith, ap length none, c.in_ok-parts.ensures.some))

pub returns-clause-falls : goal.returns-clause-falls
returns-clause-falls g c = λ some. omega (arith, c.clamp-part.ensures, c.split_at.ensures.back_len, c.split_at-2.ensures.back_len)
