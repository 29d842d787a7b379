-- What a warning is.
use Rattle.std.specs.Prelude.{ℕ, ◌≡◌, ◌++◌, ◌&&◌, Bool, List, [], ◌∷◌, IsTrue, codes, nat_le}
use Rattle.std.specs.List.{list_all}

-- a byte that is shown as it is
abbrev pub is_shown : ℕ → Bool
is_shown b = nat_le 32 b && nat_le b 126

-- a text, and behind it nothing but such bytes
abbrev pub IsAppended : List ℕ → List ℕ → Type 0
IsAppended before after = (more : List ℕ) × (after ≡ before ++ more) × IsTrue (list_all is_shown more)

-- one line that says what it is: no name breaks it
abbrev pub IsWarning : List ℕ → Type 0
IsWarning text = (body : List ℕ) × (text ≡ (codes "conj: warning: " ++ body) ++ 10 ∷ []) × IsTrue (list_all is_shown body)
