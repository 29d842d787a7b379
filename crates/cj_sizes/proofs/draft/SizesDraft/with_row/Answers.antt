use Rattle.std.proofs.Common.{refl}
use Rattle.cj_sizes.specs.Readers.{row_of}
use Rattle.cj_sizes.specs.Sizes.{sizes_of}
use Rattle.cj_sizes.proofs.DraftLemmas.{ids_more, put_behind, sizes_pushed}
use Rattle.cj_sizes.proofs.draft.SizesDraft.with_row.Goals as goal

pub invariant_of-result : goal.invariant_of-result
invariant_of-result c = ids_more c.self.inside.ids c.insert.new.self c.args.row.id (sizes_of c.self.inside.sizes.items) (sizes_of c.push.new.self.items)
    (row_of c.args.row) c.self.invariant c.in_ok-insert.ensures.updates
    (sizes_pushed c.self.inside.sizes.items c.push.new.self.items _ c.args.row.id.now c.in_ok-push.ensures.items c.in_ok-copy_of.ensures) refl

pub returns : goal.returns
returns c =
    rw (← c.self.view_is)
    (put_behind c.self.inside.ids c.args.row.id (sizes_of c.self.inside.sizes.items) (sizes_of c.push.new.self.items) (row_of c.args.row)
    c.in_ok-insert.field-0 c.self.invariant
    c.in_ok-insert.ensures.added c.if-not-branch.false refl
    (sizes_pushed c.self.inside.sizes.items c.push.new.self.items _ c.args.row.id.now c.in_ok-push.ensures.items c.in_ok-copy_of.ensures))
