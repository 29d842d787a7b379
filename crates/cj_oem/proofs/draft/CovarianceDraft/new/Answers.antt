use Rattle.std.proofs.lemmas.List.Elements.{All-replicate}
use Rattle.cj_base.specs.Decimals.{IsReadable, number_of}
use Rattle.cj_base.specs.declared.decimals.Decimal.{Decimal}
use Rattle.cj_kvn.proofs.DecimalLemmas.{zero_readable}
use Rattle.cj_oem.proofs.draft.CovarianceDraft.new.Goals as goal

pub invariant_of-result-clause-readable : goal.invariant_of-result-clause-readable
invariant_of-result-clause-readable c = let P : Decimal → Type 0 = λ d. IsReadable (number_of d) in All-replicate P 21 _ zero_readable
