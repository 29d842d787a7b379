-- An element of a covariance, as its key and its unit.
use Rattle.std.specs.Prelude.{ℕ, List}
use Rattle.cj_cdm.specs.declared.elements.Element.{Element}

abbrev pub element_of : Element → List ℕ × List ℕ
element_of element = (element.key.now, element.unit.now)
