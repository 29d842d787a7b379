use Rattle.std.proofs.Common.{rules, ◌≡◌, ◌-◌, ◌∙◌, ap, sym, length, slice_get}
use Rattle.std.specs.Option.{option_map}
use Rattle.cj_track.specs.Tracks.{plain_node}
use Rattle.cj_oem.proofs.ListLemmas.{last_state_is}
use Rattle.cj_oem.proofs.node_list.NodeList.last.Goals as goal

pub returns-clause-state : goal.returns-clause-state
returns-clause-state c =
    let here : c.copied.result ≡ slice_get c.args.self.now (length c.args.self.now - 1) = search rules in
    ap (option_map plain_node) here ∙ sym (last_state_is c.args.self.now)
