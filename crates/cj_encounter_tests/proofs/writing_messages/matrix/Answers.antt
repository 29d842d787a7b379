use Rattle.std.proofs.Common.{List, [], ◌∷◌, All, arith, refl}
use Rattle.std.proofs.lemmas.List.Elements.{All-cons}
use Rattle.cj_base.specs.declared.decimals.Decimal.{Decimal}
use Rattle.cj_base.specs.Decimals.{IsReadable, is_huge, is_tiny, number_of}
use Rattle.cj_encounter_tests.proofs.writing_messages.matrix.Goals as goal

abbrev R : Decimal → Type 0
R d = IsReadable (number_of d)

abbrev six : Decimal → List Decimal → List Decimal
six z ds = z ∷ z ∷ z ∷ z ∷ z ∷ z ∷ ds

six_more : (z : Decimal) (ds : List Decimal) → R z → All R ds → All R (six z ds)
six_more z ds rz rest =
    All-cons R z (z ∷ z ∷ z ∷ z ∷ z ∷ ds) rz (All-cons R z (z ∷ z ∷ z ∷ z ∷ ds) rz (All-cons R z (z ∷ z ∷ z ∷ ds) rz
    (All-cons R z (z ∷ z ∷ ds) rz (All-cons R z (z ∷ ds) rz (All-cons R z ds rz rest)))))

none : All R []
none = λ k d less. absurd (omega arith)

three_and_zeros : (a b c z : Decimal) → R a → R b → R c → R z → All R (a ∷ b ∷ c ∷ six z (six z (six z [])))
three_and_zeros a b c z ra rb rc rz =
    let zeros = six z (six z (six z [])) in
    All-cons R a (b ∷ c ∷ zeros) ra (All-cons R b (c ∷ zeros) rb (All-cons R c zeros rc
    (six_more z (six z (six z [])) rz (six_more z (six z []) rz (six_more z [] rz none)))))

pub invariant_of-result : goal.invariant_of-result
unfolding is_tiny is_huge
invariant_of-result c = record {
  whole = refl;
  readable = three_and_zeros c.args.first c.args.second c.args.third _ c.requires.first c.requires.second c.requires.third (refl, refl);
}
