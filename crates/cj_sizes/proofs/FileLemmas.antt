-- What a reader answers for a file as a whole.
use Rattle.std.proofs.Common.{◌≡◌, ℕ, List, [], Result, Ok, Err, Vec, Global, IfOk, MatchResult, refl}
use Rattle.cj_kvn.specs.Lines as kvn
use Rattle.cj_formats.specs.declared.sizes_cause.SizesCause.{SizesCause}
use Rattle.cj_sizes.specs.Grammar.{Says}
use Rattle.cj_sizes.specs.Reading.{reading, sizes_said}
use Rattle.cj_kvn.specs.Faults.{Gives}
use Rattle.cj_sizes.specs.Sizes.{Size, sizes_of}
use Rattle.cj_kvn.specs.declared.text_fault.TextFault.{TextFault}
use Rattle.cj_kvn.specs.declared.text_fault.TextFault.TheVariants.{Memory, At}
use Rattle.cj_sizes.specs.declared.size_line.SizeLine.{SizeLine}
use Rattle.cj_sizes.proofs.GrammarLemmas.{reading_says, says_reading}

abbrev pub sizes_in : Vec SizeLine Global → List Size
sizes_in lines = sizes_of lines.items

-- a file is read by its lines
pub by_said : (bytes : List ℕ) → reading bytes ≡ sizes_said [] (kvn.reading bytes)
unfolding reading
by_said bytes = refl

-- a file that is read says what the grammar says
pub gives_says : (bytes : List ℕ) (result : Result (Vec SizeLine Global) (TextFault SizesCause)) → Gives sizes_in result (reading bytes) → IfOk result (λ lines. Says bytes (sizes_in lines))
gives_says bytes (Ok lines) e = reading_says bytes (sizes_in lines) e
gives_says bytes (Err fault) e = tt

-- and what the grammar says is read, as long as memory lasts
pub says_gives : (bytes : List ℕ) (sizes : List Size) (result : Result (Vec SizeLine Global) (TextFault SizesCause)) → Says bytes sizes → Gives sizes_in result (reading bytes)
    → MatchResult result (λ lines. sizes_in lines ≡ sizes) (λ fault. fault ≡ Memory)
says_gives bytes sizes (Ok lines) says e = let f = says_reading bytes sizes says in cc
says_gives bytes sizes (Err Memory) says e = refl
says_gives bytes sizes (Err (At line cause)) says e = let f = says_reading bytes sizes says in absurd cc
