use Rattle.std.proofs.Common.{ℕ, ◌≤◌, List, Option, Vec, Global, Ok, option_map, ap, sym, subst, ◌∙◌}
use Rattle.std.specs.List.{count_by}
use Rattle.std.specs.Prelude.{IfSome}
use Rattle.cj_base.specs.Bytes.{is_feed}
use Rattle.cj_io.specs.declared.file.FileBytes.{FileBytes}
use Rattle.cj_outputs.specs.Findings.{ended}
use Rattle.cj_outputs.specs.Outcome.{Leaves}
use Rattle.cj_outputs.proofs.EndLemmas.{nothing_made}
use Rattle.cj_outputs.proofs.MessageLemmas.{message_put}
use Rattle.cj_outputs.proofs.messages.put_message.Goals as goal

pub returns-in_err-made : goal.returns-in_err-made
returns-in_err-made g c = nothing_made _ _ _ _ c.from_residual.ensures.1

pub with_relative-requires : goal.with_relative-requires
with_relative-requires g c = subst (λ (o : Option (Vec ℕ Global)). IfSome o (λ t. 6 ≤ count_by is_feed t.items)) c.in-Some.is c.in_ok-made.ensures.lines

pub returns-in_err-told : goal.returns-in_err-told
returns-in_err-told g c = nothing_made _ _ _ _ c.from_residual-in_err-told.ensures.1

pub returns-in_err-name : goal.returns-in_err-name
returns-in_err-name g c = nothing_made _ _ _ _ c.from_residual-in_err-name.ensures.1

pub returns-clause-comes : goal.returns-clause-comes
returns-clause-comes g c = c.put.ensures.comes

pub returns-clause-write : goal.returns-clause-write
returns-clause-write g c = c.put.ensures.write

pub returns-clause-leaves : goal.returns-clause-leaves
returns-clause-leaves g c = λ old stood.
    subst (λ (ps : List FileBytes). Leaves (ended c.put.result) (Ok ps) old (g.S.Shelf.outputs c.put.new.shelf))
    (message_put c.args.stamp.number c.args.relative _ c.in-Some.text.items _ _
    (ap (option_map (λ (t : Vec ℕ Global). t.items)) (sym c.in-Some.is) ∙ c.in_ok-made.ensures.text)
    (c.deref.ensures.value ∙ c.in_ok-name.ensures) (c.deref-2.ensures.value ∙ c.in_ok-told.ensures)) (c.put.ensures.leaves old stood)

pub returns-clause-later : goal.returns-clause-later
returns-clause-later g c = c.put.ensures.later
