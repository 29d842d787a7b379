use Rattle.std.proofs.Common.{arith, sym, ◌∙◌, ◌≡◌, ap, ℕ, List, subst, length, get_or, drop, ◌-◌, refl, false, ◌≤◌}
use Rattle.std.specs.Char.{is_ascii_digit}
use Rattle.std.specs.Str.Parse.{digits_value_after}
use Rattle.std.proofs.lemmas.List.{length-drop, length-take}
use Rattle.cj_kvn.specs.Scanning.{Leads, run}
use Rattle.cj_kvn.proofs.RunLemmas.{run_more, after_run_more, run_none}
use Rattle.cj_kvn.proofs.scanning.read_run.Goals.{in_default, in-len1-up+then-not-is_ascii_digit}
use Rattle.cj_kvn.proofs.scanning.read_run.Goals as goal

pub loop-rest-init : goal.loop-rest-init
loop-rest-init c = record { leads = λ n l. (n, (l, refl)); past = omega arith; rest = refl }

pub loop-rest-preserved : goal.loop-rest-preserved
loop-rest-preserved c =
    let rest = c.loop-rest.rest.now in
    let digit = sym c.is_ascii_digit.ensures.value ∙ c.if-not-is_ascii_digit.false in
    record {
      leads = λ n l.
          let m = c.loop-rest.invariant.leads n l in
          (_, (c.push-digits.ensures.leads m.0 m.1.0, run_more rest m.0 c.in-len1-up.len_at_least digit ∙ m.1.1));
      past = omega (arith, c.push-digits.ensures.past, length-take (length rest - 1) (drop 1 rest), length-drop 1 rest);
      rest = after_run_more rest c.in-len1-up.len_at_least digit ∙ c.loop-rest.invariant.rest;
    }

-- no digit stands where the loop ends
ended : (c : goal.Joined-rest-lt1) → 1 ≤ length c.loop-rest.rest.now → is_ascii_digit (get_or c.loop-rest.rest.now 0 0) ≡ false
ended c some = elim c.if-rest-lt1.branch [
  | in_default w ↦ absurd (omega arith)
  | in-len1-up+then-not-is_ascii_digit w ↦ sym w.is_ascii_digit.ensures.value ∙ w.if-not-is_ascii_digit.true
]

pub returns-clause-leads : goal.returns-clause-leads
returns-clause-leads c n l =
    let m = c.loop-rest.invariant.leads n l in
    let none = (run_none c.loop-rest.rest.now (ended c)).0 in
    let same : m.0 ≡ digits_value_after 10 n (run c.args.text.now) = ap (λ (t : List ℕ). digits_value_after 10 m.0 t) (sym none) ∙ m.1.1 in
    subst (λ (k : ℕ). Leads c.loop-rest.digits k) same m.1.0

pub returns-clause-rest : goal.returns-clause-rest
returns-clause-rest c = sym (run_none c.loop-rest.rest.now (ended c)).1 ∙ c.loop-rest.invariant.rest
