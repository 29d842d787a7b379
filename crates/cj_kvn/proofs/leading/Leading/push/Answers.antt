use Rattle.std.proofs.Common.{arith, ◌∙◌, ap, sym, ℕ, ◌+◌, ◌*◌, ◌/◌, ◌^◌}
use Rattle.cj_kvn.proofs.ScanningLemmas.{digit_kept, digit_past}
use Rattle.cj_kvn.proofs.leading.Leading.push.Goals.{then-self-lt-LEAST_FULL, else-self-lt-LEAST_FULL}
use Rattle.cj_kvn.proofs.leading.Leading.push.Goals as goal

abbrev Fields : Type 0
Fields = ℕ × (ℕ × Unit {0})

pub returns-clause-leads : goal.returns-clause-leads
returns-clause-leads c n l =
    let v = c.args.self.value in
    let q = c.args.self.past in
    let d = c.args.digit in
    elim c.if-self-lt-LEAST_FULL.branch [
      | then-self-lt-LEAST_FULL w ↦
          let past = ap (λ (f : Fields). f.1.0) w.result-is in
          record {
            value =
                ap (λ (f : Fields). f.0) w.result-is
                ∙ ap (λ (m : ℕ). v * 10 + m) w.from.ensures
                ∙ digit_kept v q n d l.value l.full w.if-self-lt-LEAST_FULL.true
                ∙ ap (λ (j : ℕ). (n * 10 + d) / 10 ^ j) (sym past);
            full = λ some. absurd (omega (arith, l.full (omega (arith, past))));
          }
      | else-self-lt-LEAST_FULL w ↦
          let past = ap (λ (f : Fields). f.1.0) w.result-is in
          let same = ap (λ (f : Fields). f.0) w.result-is in
          record {
            value = same ∙ digit_past v q n d l.value c.requires.digit ∙ ap (λ (j : ℕ). (n * 10 + d) / 10 ^ j) (sym past);
            full = λ _. omega (arith, same);
          }
    ]
