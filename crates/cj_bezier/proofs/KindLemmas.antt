-- Kinds of leaves.
use Rattle.std.proofs.Common.{◌≡◌, true, refl}
use Rattle.cj_case.specs.declared.kind.Kind.{Kind}
use Rattle.cj_case.specs.declared.kind.Kind.TheVariants.{Far, Near, Undecided}
use Rattle.cj_case.specs.Leaves.{same_kind}

pub same_kind-self : (k : Kind) → same_kind k k ≡ true
same_kind-self Far = refl
same_kind-self Near = refl
same_kind-self Undecided = refl

pub from_same_kind : (k l : Kind) → same_kind k l ≡ true → k ≡ l
from_same_kind Far Far h = refl
from_same_kind Far Near h = cc
from_same_kind Far Undecided h = cc
from_same_kind Near Far h = cc
from_same_kind Near Near h = refl
from_same_kind Near Undecided h = cc
from_same_kind Undecided Far h = cc
from_same_kind Undecided Near h = cc
from_same_kind Undecided Undecided h = refl
