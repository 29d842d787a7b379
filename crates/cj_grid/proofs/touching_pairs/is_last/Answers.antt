use Rattle.std.proofs.Common.{◌≡◌, Bool, true, false, Option, sym, ap, ◌∙◌, eq-eqb}
use Rattle.std.proofs.lemmas.Bool.{ne_eqb}
use Rattle.std.specs.Prelude.{◌&&◌, nat_eq, option_map}
use Rattle.cj_case.specs.declared.pair.Pair.{Pair}
use Rattle.cj_case.specs.Pairs.{objects_of}
use Rattle.cj_grid.specs.Found.{is_again}
use Rattle.cj_grid.proofs.touching_pairs.is_last.Goals as goal

pub returns-in-None : goal.returns-in-None
returns-in-None c = sym (ap (λ (o : Option Pair). is_again (option_map objects_of o) (objects_of c.args.pair)) c.in-None.is)

pub returns-then-last-pair : goal.returns-then-last-pair
returns-then-last-pair c =
    let first : nat_eq c.in-Some.last.a c.args.pair.a ≡ true = eq-eqb c.in-Some.last.a c.args.pair.a c.if-last-pair.true in
    sym (ap (λ (o : Option Pair). is_again (option_map objects_of o) (objects_of c.args.pair)) c.in-Some.is ∙ ap (λ (b : Bool). b && nat_eq c.in-Some.last.b c.args.pair.b) first)

pub returns-else-last-pair : goal.returns-else-last-pair
returns-else-last-pair c =
    let first : nat_eq c.in-Some.last.a c.args.pair.a ≡ false = ne_eqb c.in-Some.last.a c.args.pair.a c.if-last-pair.false in
    first ∙ sym (ap (λ (o : Option Pair). is_again (option_map objects_of o) (objects_of c.args.pair)) c.in-Some.is ∙ ap (λ (b : Bool). b && nat_eq c.in-Some.last.b c.args.pair.b) first)
