use Rattle.std.proofs.Common.{sym, ap, arith}
use Rattle.std.specs.Prelude.{is_some}
use Rattle.cj_hermite.proofs.walking.next_found.Goals as goal

pub returns-in-Some : goal.returns-in-Some
returns-in-Some c =
    let told = c.in-Some.ensures in
    record {
      state = record { later = omega arith; none = λ m low high. absurd (omega arith); some = sym (ap is_some told.value) };
      place = told.place;
      number = sym told.value;
      later = told.later;
    }

pub returns-in_err-first : goal.returns-in_err-first
returns-in_err-first c = rw c.from_residual.ensures (record { state = c.in_err-first.ensures; place = tt; number = tt; later = tt })

pub returns-in_err-found-clause-place : goal.returns-in_err-found-clause-place
returns-in_err-found-clause-place c = rw c.from_residual-in_err-found.ensures tt

pub returns-in_err-found-clause-number : goal.returns-in_err-found-clause-number
returns-in_err-found-clause-number c = rw c.from_residual-in_err-found.ensures tt

pub returns-in_err-found-clause-later : goal.returns-in_err-found-clause-later
returns-in_err-found-clause-later c = rw c.from_residual-in_err-found.ensures tt

pub returns : goal.returns
returns c =
    let told = c.in_ok-found.ensures in
    record { state = c.in_ok-first.ensures; place = told.place; number = sym told.value; later = told.later }
