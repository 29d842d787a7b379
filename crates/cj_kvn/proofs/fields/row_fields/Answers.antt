use Rattle.std.proofs.Common.{arith, ℕ, ◌≡◌, ◌<◌, ap, refl, sym, ◌∙◌, length, map, take, take_all}
use Rattle.std.proofs.Math.ListN.{length-set}
use Rattle.std.proofs.lemmas.List.{length-map, length-take}
use Rattle.std.proofs.lemmas.List.Elements.{All-replicate, All-set}
use Rattle.cj_kvn.specs.declared.range.Range32.{Range32}
use Rattle.cj_kvn.specs.Ranges.{IsWithin, text_at}
use Rattle.cj_kvn.proofs.RowLemmas.{all_found, field_found, ten_found}
use Rattle.cj_kvn.proofs.fields.row_fields.Goals as goal

pub returns-in_default-clause-count : goal.returns-in_default-clause-count
returns-in_default-clause-count c =
    let front = take c.loop-count.count c.loop-count.found in
    let long : length (map (text_at c.args.bytes.now) front) ≡ c.loop-count.count = omega (arith, length-map front (text_at c.args.bytes.now), length-take c.loop-count.count c.loop-count.found) in
    sym long ∙ (all_found _ _ _ c.in_default.ensures.fields c.loop-count.invariant.said (omega arith)).0

pub returns-in_default-clause-texts : goal.returns-in_default-clause-texts
returns-in_default-clause-texts c =
    let front = take c.loop-count.count c.loop-count.found in
    let long : length (map (text_at c.args.bytes.now) front) ≡ c.loop-count.count = omega (arith, length-map front (text_at c.args.bytes.now), length-take c.loop-count.count c.loop-count.found) in
    (all_found _ _ _ c.in_default.ensures.fields c.loop-count.invariant.said (omega arith)).1

pub returns-in-Some-first_field-clause-count : goal.returns-in-Some-first_field-clause-count
returns-in-Some-first_field-clause-count c =
    let front = take c.loop-count.count c.loop-count.found in
    let long : length (map (text_at c.args.bytes.now) front) ≡ 10 = omega
    (arith, length-map front (text_at c.args.bytes.now), length-take c.loop-count.count c.loop-count.found) in
    (ten_found _ _ _ _ _ c.in-Some-first_field.ensures.fields c.loop-count.invariant.said long).0

pub loop-count-preserved : goal.loop-count-preserved
loop-count-preserved c =
    let bytes = c.args.bytes.now in
    let found = c.loop-count.found in
    let inside : c.loop-count.count < length found = omega arith in
    record {
      said = field_found bytes found c.loop-count.count c.in-Some.field _ _ _ inside c.in-Some.ensures.fields c.loop-count.invariant.said;
      rest = c.in-Some.ensures.within.1;
      all = All-set (IsWithin bytes) found c.loop-count.count c.in-Some.field c.in-Some.ensures.within.0 c.loop-count.invariant.all;
      ten = length-set found c.loop-count.count c.in-Some.field ∙ c.loop-count.invariant.ten;
    }

pub returns-in_default-clause-within : goal.returns-in_default-clause-within
returns-in_default-clause-within c = c.loop-count.invariant.all

pub returns-in-None-clause-within : goal.returns-in-None-clause-within
returns-in-None-clause-within c = c.loop-count.invariant.all

pub returns-in-Some-first_field-clause-within : goal.returns-in-Some-first_field-clause-within
returns-in-Some-first_field-clause-within c = c.loop-count.invariant.all

pub returns-in-None-clause-count : goal.returns-in-None-clause-count
returns-in-None-clause-count c =
    let front = take c.loop-count.count c.loop-count.found in
    let long : length (map (text_at c.args.bytes.now) front) ≡ 10 = omega
    (arith, length-map front (text_at c.args.bytes.now), length-take c.loop-count.count c.loop-count.found) in
    sym long ∙ (all_found _ _ _ c.in-None.ensures.fields c.loop-count.invariant.said (omega arith)).0

pub returns-in-None-clause-texts : goal.returns-in-None-clause-texts
returns-in-None-clause-texts c =
    let front = take c.loop-count.count c.loop-count.found in
    let long : length (map (text_at c.args.bytes.now) front) ≡ 10 = omega
    (arith, length-map front (text_at c.args.bytes.now), length-take c.loop-count.count c.loop-count.found) in
    let all : c.loop-count.count ≡ 10 = omega arith in
    ap (λ (n : ℕ). map (text_at c.args.bytes.now) (take n c.loop-count.found)) (sym all)
    ∙ (all_found _ _ _ c.in-None.ensures.fields c.loop-count.invariant.said (omega arith)).1

pub returns-in-Some-first_field-clause-texts : goal.returns-in-Some-first_field-clause-texts
returns-in-Some-first_field-clause-texts c =
    let front = take c.loop-count.count c.loop-count.found in
    let long : length (map (text_at c.args.bytes.now) front) ≡ 10 = omega
    (arith, length-map front (text_at c.args.bytes.now), length-take c.loop-count.count c.loop-count.found) in
    let more : take 11 c.loop-count.found ≡ take c.loop-count.count c.loop-count.found =
    take_all 11 c.loop-count.found (omega (arith, c.loop-count.invariant.ten)) ∙ sym
    (take_all c.loop-count.count c.loop-count.found (omega (arith, c.loop-count.invariant.ten))) in
    ap (map (text_at c.args.bytes.now)) more ∙ (ten_found _ _ _ _ _ c.in-Some-first_field.ensures.fields c.loop-count.invariant.said long).1

pub loop-count-init : goal.loop-count-init
loop-count-init c =
    let none : Range32 = record { first = 0; past = 0 } in
    record {
      said = refl;
      rest = c.requires;
      all = All-replicate (IsWithin c.args.bytes.now) 10 none (record { ordered = omega arith; inside = omega arith });
      ten = refl;
    }
