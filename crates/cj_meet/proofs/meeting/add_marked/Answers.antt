use Rattle.std.proofs.Common.{arith, ◌≡◌, ◌+◌, ◌-◌, ◌≤◌, length, slice_get, refl, sym, ◌∙◌, subst, ap, [], ◌∷◌, ◌++◌, cond}
use Rattle.cj_case.specs.declared.encounter.Mark.TheVariants as Mark
use Rattle.cj_case.specs.Leaves.{plain_leaf}
use Rattle.cj_meet.specs.Encounters.{AreEncounters, is_near_mark}
use Rattle.cj_meet.proofs.EncounterLemmas.{Begins, encounters_extended, encounters_first, encounters_added, told_there, told_none, told_some, told_past, past_later, goes_on_later}
use Rattle.std.proofs.lemmas.List.{nil_from_length}
use Rattle.std.proofs.lemmas.List.Elements.{All-push, All-set}
use Rattle.std.proofs.lemmas.Result.{err_from_is_err_and}
use Rattle.cj_meet.proofs.meeting.add_marked.Goals as goal
use Rattle.cj_meet.proofs.meeting.add_marked.Goals.{in_default-via-in-Some+else-goes_on, in_default-via-in_default}

pub returns-in-Some-clause-found : goal.returns-in-Some-clause-found
returns-in-Some-clause-found c = λ ss len ticks order before.
    let x = plain_leaf c.args.leaf.now in
    let es = c.args.found.now.items in
    let there = told_there es (length es - 1) c.in-Some.last.now (c.in-Some.ensures.value ∙ ap (λ l. slice_get l (length l - 1)) c.deref.ensures.value) in
    let count : c.len-place.result ≡ length es = c.len-place.ensures ∙ c.args.found.now.ok.0 in
    let kept = c.extended-longer.ensures.kept in
    encounters_extended ss x es c.len-place.result c.in-Some.last.now c.extended-longer.result count (omega (arith, there.0)) (rw count there.1) c.requires.not_far ticks order (sym c.goes_on.ensures ∙ c.if-goes_on.true)
    (record {
      pair = kept.0;
      first = kept.1;
      leaf = kept.2;
      past = omega arith;
      last = ap (λ t. t.micros) c.extended-longer.ensures.end.0;
      mark = c.extended-longer.ensures.mark ∙ ap (λ m. cond (is_near_mark c.in-Some.last.now.mark) Mark.Near m) c.requires.marked;
    }) before

pub returns-in_ok-push-in_default-clause-found : goal.returns-in_ok-push-in_default-clause-found
returns-in_ok-push-in_default-clause-found c = λ ss len ticks order before.
    let x = plain_leaf c.args.leaf.now in
    let es = c.args.found.now.items in
    let begins : Begins ss x c.begun.result = record {
      leaf = c.begun.ensures.place.0 ∙ sym len;
      past = omega arith;
      a = ap (λ p. p.a) c.begun.ensures.cell.0;
      b = ap (λ p. p.b) c.begun.ensures.cell.0;
      first = ap (λ t. t.micros) c.begun.ensures.cell.1;
      last = ap (λ t. t.micros) c.begun.ensures.cell.2;
      mark = c.begun.ensures.mark ∙ c.requires.marked;
    } in
    let pushed = c.in_ok-push-in_default.ensures.items in
    elim c.in_default.branch [
      | in_default-via-in-Some+else-goes_on w ↦
          let there = told_there es (length es - 1) w.in-Some.last.now (w.in-Some.ensures.value ∙ ap (λ l. slice_get l (length l - 1)) c.deref.ensures.value) in
          subst (AreEncounters (ss ++ x ∷ [])) (sym pushed) (encounters_added ss x es (length es) w.in-Some.last.now c.begun.result refl (omega (arith, there.0)) there.1 c.requires.not_far (sym w.goes_on.ensures ∙ w.if-goes_on.false) begins before)
      | in_default-via-in_default w ↦
          let none : es ≡ [] = nil_from_length es (omega (arith, told_none es (length es - 1) (w.in_default.ensures.value ∙ ap (λ l. slice_get l (length l - 1)) c.deref.ensures.value))) in
          subst (AreEncounters (ss ++ x ∷ [])) (sym (pushed ∙ ap (λ l. l ++ c.begun.result ∷ []) none)) (encounters_first ss x c.begun.result c.requires.not_far begins (subst (AreEncounters ss) none before))
    ]

pub returns-in-Some-clause-within : goal.returns-in-Some-clause-within
returns-in-Some-clause-within c =
    let es = c.args.found.now.items in
    All-set (λ e. e.past ≤ c.args.at + 1) es (c.len-place.result - 1) c.extended-longer.result
    (omega arith) (past_later es c.args.at c.requires.within)

pub returns-in_ok-push-in_default-clause-within : goal.returns-in_ok-push-in_default-clause-within
returns-in_ok-push-in_default-clause-within c =
    let es = c.args.found.now.items in
    rw c.in_ok-push-in_default.ensures.items
    (All-push (λ e. e.past ≤ c.args.at + 1) es c.begun.result (past_later es c.args.at c.requires.within) (omega arith))

pub returns-in_err-push-in_default-clause-within : goal.returns-in_err-push-in_default-clause-within
returns-in_err-push-in_default-clause-within c = rw (err_from_is_err_and c.from_residual.result c.from_residual.ensures.1).1 tt

pub returns-in_err-push-in_default-clause-found : goal.returns-in_err-push-in_default-clause-found
returns-in_err-push-in_default-clause-found c = rw (err_from_is_err_and c.from_residual.result c.from_residual.ensures.1).1 tt

pub extended-longer-requires-clause-behind : goal.extended-longer-requires-clause-behind
extended-longer-requires-clause-behind c =
    let es = c.args.found.now.items in
    let last = c.in-Some.ensures.value ∙ ap (λ l. slice_get l (length l - 1)) c.deref.ensures.value in
    omega (arith, told_past es (length es - 1) c.in-Some.last.now c.args.at last c.requires.within)

pub extended-longer-requires-clause-later : goal.extended-longer-requires-clause-later
extended-longer-requires-clause-later c = goes_on_later c.in-Some.last.now (plain_leaf c.args.leaf.now) (sym c.goes_on.ensures ∙ c.if-goes_on.true)

pub overflow_sub-place : goal.overflow_sub-place
overflow_sub-place c =
    let last = c.in-Some.ensures.value ∙ ap (λ l. slice_get l (length l - 1)) c.deref.ensures.value in
    let count : c.len-place.result ≡ length c.args.found.now.items = c.len-place.ensures ∙ c.args.found.now.ok.0 in
    rw count (told_some c.args.found.now.items c.in-Some.last.now last)

pub index_mut-requires : goal.index_mut-requires
index_mut-requires c =
    let last = c.in-Some.ensures.value ∙ ap (λ l. slice_get l (length l - 1)) c.deref.ensures.value in
    omega (arith, c.len-place.ensures, c.args.found.now.ok.0, told_some c.args.found.now.items c.in-Some.last.now last)
