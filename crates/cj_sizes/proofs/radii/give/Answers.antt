use Rattle.std.proofs.Common.{Some, bytes_eq, sym, ◌∙◌}
use Rattle.std.proofs.lemmas.Map.Text.{btree_map_updates_str}
use Rattle.cj_sizes.specs.Radii.{radius_in}
use Rattle.cj_sizes.proofs.RadiusLemmas.{kept, not_asked, put, same_radius}
use Rattle.cj_sizes.proofs.radii.give.Goals as goal

pub returns-then-not-contains : goal.returns-then-not-contains
returns-then-not-contains c = λ id is.
    not_asked c.args.asked.now c.args.id.now id (radius_in c.args.given.now id) c.args.radius (sym c.contains.ensures ∙ c.if-not-contains.true) is

pub returns-then-contains_key : goal.returns-then-contains_key
returns-then-contains_key c = λ id is.
    let old = c.args.given.now in
    kept (radius_in old id) (radius_in old c.args.id.now) (bytes_eq c.args.id.now id) c.args.radius (sym c.contains_key.ensures ∙ c.if-contains_key.true) (same_radius old c.args.id.now id)

pub returns : goal.returns
returns c = λ id is.
    let old = c.args.given.now in
    put (radius_in c.insert.new.self id) (radius_in old id) (radius_in old c.args.id.now) (bytes_eq c.args.id.now id) c.args.radius (sym c.contains_key.ensures ∙ c.if-contains_key.false)
    (btree_map_updates_str c.args.id.now old c.insert.new.self (Some c.args.radius) c.in_ok-insert.ensures.updates id) (same_radius old c.args.id.now id)
