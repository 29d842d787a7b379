use Rattle.std.proofs.Common.{map, refl, sym, subst}
use Rattle.std.proofs.lemmas.Result.{err_from_is_err_and}
use Rattle.cj_kvn.specs.Faults.{Gives}
use Rattle.cj_sizes.proofs.PrimaryGrammarLemmas.{ids_in, named_says, says_named}
use Rattle.cj_sizes.proofs.PrimaryLemmas.{text_of}
use Rattle.cj_sizes.proofs.PrimaryReaderLemmas.{ids_by_said}
use Rattle.cj_sizes.proofs.primaries.read_primaries.Goals as goal

pub returns-clause-value : goal.returns-clause-value
returns-clause-value c =
    let known = map text_of c.args.known.now in
    subst (Gives ids_in c.ids_said.result) (sym (ids_by_said known c.args.bytes.now)) (c.ids_said.ensures known c.in_ok-known.ensures)

pub returns-clause-says : goal.returns-clause-says
returns-clause-says c = named_says (map text_of c.args.known.now) c.args.bytes.now c.ids_said.result (returns-clause-value c)

pub returns-clause-accepts : goal.returns-clause-accepts
returns-clause-accepts c = λ ids says. says_named (map text_of c.args.known.now) c.args.bytes.now ids c.ids_said.result says (returns-clause-value c)

pub returns-in_err-known : goal.returns-in_err-known
returns-in_err-known c =
    let p = err_from_is_err_and c.from_residual.result c.from_residual.ensures.1 in
    rw (p.1, p.2) (record { value = tt; says = tt; accepts = λ ids says. refl })
