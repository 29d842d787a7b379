use Rattle.std.proofs.Common.{ℕ, List, ◌++◌, ◌∙◌, ap}
use Rattle.cj_gen.proofs.TextLemmas.{joined, joined_ok}
use Rattle.cj_gen.proofs.text.push_naming.Goals as goal

pub returns : goal.returns
returns c =
    let old = c.args.text.now.items in
    let first = c.in_ok-extend_from_slice-2.ensures.items ∙ ap (λ (ds : List ℕ). c.extend_from_slice.new.self.items ++ ds) c.five-digits.ensures in
    let second = c.in_ok-extend_from_slice-4.ensures.items ∙ ap (λ (ds : List ℕ). c.extend_from_slice-3.new.self.items ++ ds) c.five-digits.ensures in
    let name = joined old _ _ _ _ c.in_ok-extend_from_slice.ensures.items first in
    let id = joined old _ _ _ _ (joined old _ _ _ _ name c.in_ok-extend_from_slice-3.ensures.items) second in
    joined_ok c.push_frame.result old _ _ _ _ id c.push_frame.ensures
