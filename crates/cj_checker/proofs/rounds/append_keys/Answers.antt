use Rattle.std.proofs.Common.{◌≡◌, ℕ, ◌<◌, ◌≤◌, true, map, length, get_or, subst, sym, arith, below_more}
use Rattle.std.proofs.lemmas.List.{length-map}
use Rattle.cj_case.specs.declared.pair.Pair.{Pair}
use Rattle.cj_case.specs.Pairs.{objects_of}
use Rattle.cj_checker.specs.Keys.{HasKey}
use Rattle.cj_checker.proofs.RoundLemmas.{pair_read}
use Rattle.cj_checker.proofs.rounds.append_keys.Goals as goal

pub loop-pair-preserved : goal.loop-pair-preserved
loop-pair-preserved c =
    let i = c.loop-pair.invariant in
    let at = c.loop-pair.pair-index in
    let told = c.in_ok-append_key.ensures in
    let pair = c.pair-item.result in
    let pairs = c.args.pairs.now in
    let slot = c.args.slot in
    let lt : at < length pairs = omega arith in
    record {
      keys = λ candidate objects slots below exist all old.
          told.keys candidate objects slots below
          (subst (λ (p : Pair). p.b < objects) (sym c.pair-item.is) (exist at pair lt))
          (subst (λ (p : Pair). candidate p.a p.b slot ≡ true) (sym c.pair-item.is) (all at pair lt))
          (i.keys candidate objects slots below exist all old);
      kept = λ a b s has. told.kept a b s (i.kept a b s has);
      found = below_more (λ k. (a b : ℕ) → get_or (map objects_of pairs) k (a, b) ≡ (a, b) → c.args.first ≤ a → a < c.args.end → HasKey c.append_key.new.keys.items a b slot) at
          (λ k before a b is low high. told.kept a b slot (i.found k before a b is low high))
          (λ a b is low high.
          let same = pair_read pairs at pair a b lt c.pair-item.is is in
          subst (λ (x : ℕ). HasKey c.append_key.new.keys.items x b slot) same.0
          (subst (λ (y : ℕ). HasKey c.append_key.new.keys.items pair.a y slot) same.1
          (told.found (subst (λ (x : ℕ). c.args.first ≤ x) (sym same.0) low) (subst (λ (x : ℕ). x < c.args.end) (sym same.0) high))));
    }

pub loop-pair-init : goal.loop-pair-init
loop-pair-init c = record {
  keys = λ candidate objects slots below exist all old. old;
  kept = λ a b slot has. has;
  found = λ k lt. absurd (omega arith);
}

pub append_key-requires : goal.append_key-requires
append_key-requires c =
    record { few = subst (λ (p : Pair). p.b ≤ 65_535) (sym c.pair-item.is) (c.requires.few c.loop-pair.pair-index c.pair-item.result c.loop-pair-test.true) }

pub returns-clause-keys : goal.returns-clause-keys
returns-clause-keys c = c.loop-pair.invariant.keys

pub returns-clause-found : goal.returns-clause-found
returns-clause-found c a b has =
    c.loop-pair.invariant.found has.0 (let lt = has.1 in omega (arith, lt, length-map c.args.pairs.now objects_of, c.loop-pair-test.false)) a b has.2
