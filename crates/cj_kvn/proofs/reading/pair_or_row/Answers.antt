use Rattle.std.proofs.Common.{◌≡◌, ◌∙◌, ap, sym, refl, true}
use Rattle.cj_kvn.specs.Lines.{is_key}
use Rattle.cj_kvn.specs.Ranges.{text_at}
use Rattle.cj_kvn.proofs.LineLemmas.{row_is}
use Rattle.cj_kvn.proofs.RawLemmas.{equals_none, pair_at}
use Rattle.cj_kvn.proofs.reading.pair_or_row.Goals as goal

pub returns-in_default-clause-exact : goal.returns-in_default-clause-exact
returns-in_default-clause-exact c =
    row_is c.args.number (text_at c.args.bytes.now c.args.inner) (equals_none c.args.bytes.now c.args.inner (sym c.in_default.is ∙ c.requires.equals))

pub returns-then-is_key-clause-exact : goal.returns-then-is_key-clause-exact
returns-then-is_key-clause-exact c =
    let key : is_key (text_at c.args.bytes.now c.trimmed-key.result) ≡ true = ap is_key (sym c.text.ensures.text) ∙ sym c.is_key.ensures ∙ c.if-is_key.true in
    pair_at c.args.number c.args.bytes.now c.args.inner c.in-Some.equals _ _ c.requires.within (sym c.in-Some.is ∙ c.requires.equals) c.trimmed-key.ensures.text c.trimmed-value.ensures.text
    ∙ rw key refl

pub returns-else-is_key-clause-exact : goal.returns-else-is_key-clause-exact
returns-else-is_key-clause-exact c =
    let key = ap is_key (sym c.text.ensures.text) ∙ sym c.is_key.ensures ∙ c.if-is_key.false in
    pair_at c.args.number c.args.bytes.now c.args.inner c.in-Some.equals _ _ c.requires.within (sym c.in-Some.is ∙ c.requires.equals) c.trimmed-key.ensures.text c.trimmed-value.ensures.text
    ∙ rw key refl
