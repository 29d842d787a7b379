-- What a file says, by its name, its lines and what these lead to.
use Rattle.std.proofs.Common.{◌≡◌, ℕ, ◌+◌, ◌^◌, ◌<◌, ◌≤◌, List, Bool, true, false, length, Result, Ok, Err, arith, ap, sym, subst, ◌∙◌, refl}
use Rattle.std.proofs.lemmas.List.{length-map}
use Rattle.cj_kvn.specs.Lines as kvn
use Rattle.cj_track.specs.Labels.{is_file_name}
use Rattle.cj_kvn.specs.Faults as faults
use Rattle.cj_oem.specs.Readers.{body_of}
use Rattle.cj_kvn.specs.Faults.{lines_or, ◌>>=◌}
use Rattle.cj_oem.specs.Reading.{Fault, Gives, body_said, lines_read, read_on, reading, with_object}
use Rattle.cj_track.specs.Segments.{node_count}
use Rattle.cj_oem.specs.Stages.{Body, Start}
use Rattle.cj_track.specs.Tracks.{plain_segment, plain_track}
use Rattle.cj_oem.specs.declared.body.Body as program
use Rattle.cj_formats.specs.declared.oem_cause.OemCause.{OemCause}
use Rattle.cj_formats.specs.declared.oem_cause.OemCause.TheVariants as causes
use Rattle.cj_kvn.specs.declared.text_fault.TextFault.{TextFault}
use Rattle.cj_kvn.specs.declared.text_fault.TextFault.TheVariants.{Memory, At}
use Rattle.cj_track.specs.declared.track.Track.{Track}
use Rattle.cj_oem.proofs.CountLemmas.{body_whole, nodes_fit, nodes_said}
use Rattle.cj_kvn.proofs.FaultLemmas.{bind_ok, lines_ok}

-- a name that is none
pub name_refused : (file bytes : List ℕ) (as_hermite3 : Bool) → is_file_name file ≡ false → reading file bytes as_hermite3 ≡ Err (record { line = 0; cause = causes.Name })
unfolding reading
name_refused file bytes as_hermite3 e = rw e refl

by_name : (file bytes : List ℕ) (as_hermite3 : Bool) → is_file_name file ≡ true → reading file bytes as_hermite3 ≡ lines_or causes.Kvn (kvn.reading bytes) >>= lines_read as_hermite3 file
unfolding reading
by_name file bytes as_hermite3 e = rw e refl

bound_twice : {A B C : Type 0} (r : Result A Fault) (f : A → Result B Fault) (g : B → Result C Fault) → r >>= (λ x. f x >>= g) ≡ (r >>= f) >>= g
bound_twice (Ok x) f g = refl
bound_twice (Err fault) f g = refl

-- by the object and its segments
by_body : (file bytes : List ℕ) (as_hermite3 : Bool) → is_file_name file ≡ true
    → reading file bytes as_hermite3 ≡ body_said as_hermite3 (kvn.reading bytes) >>= λ body. with_object file body body.object
unfolding lines_read
by_body file bytes as_hermite3 name =
    by_name file bytes as_hermite3 name
    ∙ bound_twice (lines_or causes.Kvn (kvn.reading bytes)) (read_on as_hermite3 Start 1) (λ body. with_object file body body.object)

-- a line that may not stand in its place, or has no form
pub body_refused : (file bytes : List ℕ) (as_hermite3 : Bool) (fault : TextFault OemCause) → is_file_name file ≡ true
    → faults.Gives body_of (Err fault) (body_said as_hermite3 (kvn.reading bytes)) → Gives (Err fault) (reading file bytes as_hermite3)
body_refused file bytes as_hermite3 Memory name h = tt
body_refused file bytes as_hermite3 (At line cause) name h =
    by_body file bytes as_hermite3 name ∙ ap (λ (r : Result Body Fault). r >>= λ body. with_object file body body.object) h

-- a file without a fault
pub body_read : (file bytes : List ℕ) (as_hermite3 : Bool) (body : Body) (result : Result Track (TextFault OemCause)) → is_file_name file ≡ true
    → body_said as_hermite3 (kvn.reading bytes) ≡ Ok body → faults.Gives plain_track result (with_object file body body.object) → Gives result (reading file bytes as_hermite3)
body_read file bytes as_hermite3 body result name e h =
    let whole = by_body file bytes as_hermite3 name ∙ ap (λ (r : Result Body Fault). r >>= λ b. with_object file b b.object) e in
    subst (Gives result) (sym whole) h

-- it has a segment
pub some_segment : (as_hermite3 : Bool) (bytes : List ℕ) (body : program.Body) → body_said as_hermite3 (kvn.reading bytes) ≡ Ok (body_of body) → 1 ≤ length body.segments
some_segment as_hermite3 bytes body e =
    let step = bind_ok (lines_or causes.Kvn (kvn.reading bytes)) (read_on as_hermite3 Start 1) (body_of body) e in
    omega (arith, (body_whole as_hermite3 1 step.0 (body_of body) step.2).1, length-map body.segments plain_segment)

-- and its nodes can be counted
pub few_nodes : (as_hermite3 : Bool) (bytes : List ℕ) (body : program.Body) → length bytes + 1 < 2 ^ 32 → body_said as_hermite3 (kvn.reading bytes) ≡ Ok (body_of body)
    → node_count body.segments < 2 ^ 32
few_nodes as_hermite3 bytes body short e =
    let step = bind_ok (lines_or causes.Kvn (kvn.reading bytes)) (read_on as_hermite3 Start 1) (body_of body) e in
    omega (arith, nodes_fit as_hermite3 bytes step.0 (body_of body) (lines_ok causes.Kvn (kvn.reading bytes) step.0 step.1) step.2, nodes_said body.segments)
