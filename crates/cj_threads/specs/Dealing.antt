-- What comes of numbers, and of the parts of a list.
use Rattle.std.specs.Prelude.{◌≡◌, ℕ, ◌<◌, ◌*◌, List, [], ◌∷◌, ◌++◌, get_or, take, drop, Option, Some, None, Result, Ok}
use Rattle.std.specs.Borrow.{Bor}
use Rattle.std.specs.Fn.{Shared, FnReturns}
use Rattle.std.specs.declared.alloc.AllocError.{AllocError}
use Rattle.cj_threads.specs.declared.dealing.Done.{Done}

module _ {F X : Type 0} (g : Shared F (ℕ × Unit {0}) X) (f : F) where
  -- of so many numbers, this came of the one that it has
  pub record IsDone (count : ℕ) (done : Done X) : Type 0 where
    pub number : done.number < count
    pub output : FnReturns g f (done.number, tt) done.output

  -- what stands at a place came of its number
  abbrev pub HoldWhatIsDone : List (Option X) → Type 0
  HoldWhatIsDone places = (i : ℕ) (x : X) → get_or places i None ≡ Some x → FnReturns g f (i, tt) x

-- these elements stand in the list, one behind another
pub record IsPartOf {T : Type 0} (list part : List T) : Type 0 where
  pub front : List T
  pub back : List T
  pub whole : list ≡ front ++ (part ++ back)

module _ {F T X : Type 0} (g : Shared F (Bor (List T) × Unit {0}) (Result X AllocError)) (f : F) where
  -- it may be called with each part of the list
  abbrev pub TakesParts : List T → Type 0
  TakesParts list = (part : Bor (List T)) → IsPartOf list part.now → g.pre f (part, tt)

  -- this came of the part with a number of a list in parts of so many elements
  pub record GivesPart (size : ℕ) (list : List T) (number : ℕ) (result : Result X AllocError) : Type 0 where
    pub part : Bor (List T)
    pub is : part.now ≡ take size (drop (number * size) list)
    pub call : FnReturns g f (part, tt) result

  -- this came of the first elements of a list, and those are the rest
  pub record ComesFirst (list : List T) (x : X) (rest : List T) : Type 0 where
    pub part : Bor (List T)
    pub whole : list ≡ part.now ++ rest
    pub call : FnReturns g f (part, tt) (Ok x)

  -- each came of the first elements of what those before left, and nothing is left
  abbrev pub ComeInTurn : List T → List X → Type 0
  ComeInTurn list [] = list ≡ []
  ComeInTurn list (x ∷ xs) = (rest : List T) × ComesFirst list x rest × ComeInTurn rest xs

  -- these came of the parts of a list, one behind another
  pub record ComeOfParts (list : List T) (outputs : List X) : Type 0 where
    pub in_turn : ComeInTurn list outputs
