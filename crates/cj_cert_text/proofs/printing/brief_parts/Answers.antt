use Rattle.std.proofs.Common.{◌++◌, ap, ◌∙◌}
use Rattle.std.specs.Prelude.{flat_map}
use Rattle.cj_io.specs.Parts.{joined}
use Rattle.cj_cert_text.specs.Texts.{primary_text}
use Rattle.cj_cert_text.proofs.PartLemmas.{joined_more}
use Rattle.cj_cert_text.proofs.TextLemmas.{brief_written}
use Rattle.cj_cert_text.proofs.printing.brief_parts.Goals as goal

pub returns : goal.returns
returns g c =
    let front = joined_more c.new-parts.result.items c.push.new.self.items c.in_ok-front.front c.in_ok-push.ensures.items in
    let primaries = joined_more c.push_lines.new.parts.items c.push-2.new.self.items c.push_primaries.new.text c.in_ok-push-2.ensures.items in
    let lines = c.in_ok-push_primaries.ensures ∙ ap (λ t. t ++ flat_map primary_text c.deref-2.result.now) c.new-primaries.ensures.items in
    let back = joined_more c.push_lines-3.new.parts.items c.push-3.new.self.items c.in_ok-back.back c.in_ok-push-3.ensures.items in
    brief_written c.args.cert.now c.deref.result.now c.deref-2.result.now c.deref-3.result.now c.deref-4.result.now
    (joined c.new-parts.result.items) (joined c.push.new.self.items) (joined c.push_lines.new.parts.items) (joined c.push-2.new.self.items)
    (joined c.push_lines-2.new.parts.items) (joined c.push_lines-3.new.parts.items) (joined c.push-3.new.self.items)
    c.deref.ensures.value c.deref-2.ensures.value c.deref-3.ensures.value c.deref-4.ensures.value
    (ap joined c.new-parts.ensures.items) (front ∙ ap (λ t. joined c.new-parts.result.items ++ t) c.in_ok-front.ensures) c.in_ok-push_lines.ensures
    (primaries ∙ ap (λ t. joined c.push_lines.new.parts.items ++ t) lines) c.in_ok-push_lines-2.ensures c.in_ok-push_lines-3.ensures
    (back ∙ ap (λ t. joined c.push_lines-3.new.parts.items ++ t) c.in_ok-back.ensures)
