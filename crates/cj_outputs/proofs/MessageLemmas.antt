-- The messages of the encounters of a run.
use Rattle.std.proofs.Common.{◌≡◌, ℕ, ◌+◌, ◌<◌, ◌≤◌, All, Bool, true, false, cond, List, [], ◌∷◌, ◌++◌, length, map, take, drop, get_or, Option, Some, None, Ok, Err, sym, ap, subst, ◌∙◌, refl, arith}
use Rattle.std.proofs.Common.{is_some, option_map, option_to_list}
use Rattle.std.specs.Prelude.{option_and_then, count_by}
use Rattle.std.specs.Option.{option_map_or}
use Rattle.std.proofs.lemmas.List.{length-append, length-map, map_more, map_push}
use Rattle.std.proofs.lemmas.List.Sums.{sum_by-cons}
use Rattle.cj_base.specs.Bounds.{MOST_LEAVES}
use Rattle.cj_io.specs.declared.file.FileBytes.{FileBytes}
use Rattle.cj_case.specs.declared.problem.Problem.{Problem}
use Rattle.cj_case.specs.PlainProblems.{PlainProblem}
use Rattle.cj_case.specs.Problems.{plain_problem}
use Rattle.cj_case.specs.declared.encounter.Closest.{Closest}
use Rattle.cj_case.specs.declared.encounter.Encounter.{Encounter}
use Rattle.cj_case.specs.declared.leaf.Leaf.{Leaf}
use Rattle.cj_case.specs.Leaves.{PlainLeaf, plain_leaf, plain_leaves}
use Rattle.cj_meet.specs.Closest.{PlainClosest, closest_of, some_closest}
use Rattle.cj_meet.specs.Encounters.{AreEncounters, Describes, encounters_of, first_object, follows, groups_in, is_far, second_object, leaves_in, with_front}
use Rattle.cj_meet.proofs.EncounterLemmas.{described_objects}
use Rattle.cj_rtn.specs.declared.relative.Rtn.{Rtn}
use Rattle.cj_cdm.specs.Building.{have_covariances, message_of}
use Rattle.cj_cdm.specs.Messages.{PlainMessage, PlainStamp}
use Rattle.cj_cdm.specs.Names.{name_of}
use Rattle.cj_cdm.specs.Texts.{text_of}
use Rattle.cj_cdm.proofs.MessageLemmas.{message_some}
use Rattle.cj_report.specs.Report.{numbered}
use Rattle.cj_report.specs.Summary.{Tally}
use Rattle.cj_report.proofs.EncounterTextLemmas.{approach_at}
use Rattle.cj_report.proofs.NumberLemmas.{numbered_parts, numbered_step}
use Rattle.cj_status.specs.declared.status.Status.{Status}
use Rattle.cj_outputs.specs.declared.findings.Findings.{Findings}
use Rattle.cj_outputs.specs.Findings.{AreFound, case_in, messages_in, met_in}
use Rattle.cj_outputs.specs.Messages.{PlainOrigin, has_message, message_output, message_outputs, outputs_at, relative_in, relative_to_tell, stamp_from, told_with}
use Rattle.cj_outputs.specs.Outcome.{ComesOfPuts, encounters_in, Leaves, output}
use Rattle.cj_outputs.proofs.EndLemmas.{first_leaves, second_leaves}

-- whether the objects of an encounter have covariances at this tick is whether the encounter has a message
pub message_noted : (case : PlainProblem) (ss : List PlainLeaf) (e : Encounter) (x : Closest) → Describes ss e → some_closest x ≡ closest_of case (leaves_in ss e) →
    have_covariances case e.pair.a e.pair.b x.tick.micros ≡ has_message case (leaves_in ss e)
message_noted case ss e x d at =
    let group = leaves_in ss e in
    let objects = described_objects ss e d in
    let noted : ℕ → ℕ → Option PlainClosest → Bool = λ a b at. option_map_or (λ at. have_covariances case a b at.tick) at false in
    ap (λ (a : ℕ). noted a e.pair.b (some_closest x)) (sym objects.0)
    ∙ ap (λ (b : ℕ). noted (first_object group) b (some_closest x)) (sym objects.1)
    ∙ ap (λ (at : Option PlainClosest). noted (first_object group) (second_object group) at) at

-- there is a closest approach for each encounter
pub as_many_closest : (case : PlainProblem) (ss : List PlainLeaf) (es : List Encounter) (xs : List Closest) → map some_closest xs ≡ map (closest_of case) (groups_in ss es) → length xs ≡ length es
as_many_closest case ss es xs at =
    let same : length (map some_closest xs) ≡ length (map (closest_of case) (groups_in ss es)) = ap length at in
    sym (length-map xs some_closest) ∙ same ∙ length-map (groups_in ss es) (closest_of case) ∙ length-map es (leaves_in ss)

-- and a note
pub as_many_notes : (case : PlainProblem) (ss : List PlainLeaf) (es : List Encounter) (bs : List Bool) → bs ≡ map (has_message case) (groups_in ss es)
    → length bs ≡ length es
as_many_notes case ss es bs noted =
    ap (λ (xs : List Bool). length xs) noted ∙ length-map (groups_in ss es) (has_message case) ∙ length-map es (leaves_in ss)

-- the notes of the encounters before place i and of that one
pub noted_more : (case : PlainProblem) (ss : List PlainLeaf) (es : List Encounter) (i : ℕ) (e : Encounter) (bs : List Bool) (b : Bool) → i < length es → e ≡ get_or es i e →
    bs ≡ map (has_message case) (groups_in ss (take i es)) → b ≡ has_message case (leaves_in ss e) → bs ++ b ∷ [] ≡ map (has_message case) (groups_in ss (take (i + 1) es))
noted_more case ss es i e bs b lt is before here =
    let f : Encounter → List PlainLeaf = leaves_in ss in
    let groups : groups_in ss (take (i + 1) es) ≡ groups_in ss (take i es) ++ f e ∷ [] =
    map_more f es i e lt ∙ ap (λ (y : Encounter). groups_in ss (take i es) ++ f y ∷ []) (sym is) in
    ap (λ (cs : List Bool). cs ++ b ∷ []) before
    ∙ ap (λ (c : Bool). map (has_message case) (groups_in ss (take i es)) ++ c ∷ []) here
    ∙ sym (ap (map (has_message case)) groups ∙ map_push (has_message case) (groups_in ss (take i es)) (f e))

-- the output that is made of the fields of an encounter is that of its message
pub output_made : (case : PlainProblem) (origin : PlainOrigin) (n k : ℕ) (stamp : PlainStamp) (relative : Option Rtn) (ss : List PlainLeaf) (e : Encounter) (x : Closest) →
    Describes ss e → some_closest x ≡ closest_of case (leaves_in ss e) → stamp ≡ stamp_from origin n → k ≡ n →
    relative ≡ relative_to_tell origin.relative case e.pair.a e.pair.b x.tick.micros →
    option_to_list (option_map (message_output k relative) (message_of case e.pair.a e.pair.b x.tick.micros x.high stamp)) ≡ outputs_at case origin n (leaves_in ss e)
output_made case origin n k stamp relative ss e x d at stamped number tells =
    let group = leaves_in ss e in
    let objects = described_objects ss e d in
    let made : ℕ → ℕ → ℕ → PlainStamp → Option PlainClosest → List FileBytes =
    λ k a b s at. option_to_list (option_map (message_output k (option_and_then (λ (at : PlainClosest). relative_to_tell origin.relative case a b at.tick) at))
    (option_and_then (λ (at : PlainClosest). message_of case a b at.tick at.high s) at)) in
    ap (λ (r : Option Rtn). option_to_list (option_map (message_output k r) (message_of case e.pair.a e.pair.b x.tick.micros x.high stamp))) tells
    ∙ ap (λ (k : ℕ). made k e.pair.a e.pair.b stamp (some_closest x)) number
    ∙ ap (λ (a : ℕ). made n a e.pair.b stamp (some_closest x)) (sym objects.0)
    ∙ ap (λ (b : ℕ). made n (first_object group) b stamp (some_closest x)) (sym objects.1)
    ∙ ap (λ (s : PlainStamp). made n (first_object group) (second_object group) s (some_closest x)) stamped
    ∙ ap (λ (at : Option PlainClosest). made n (first_object group) (second_object group) (stamp_from origin n) at) at

-- the output of a message by its name and its text, with the lines that are told
pub message_put : (k : ℕ) (relative : Option Rtn) (o : Option PlainMessage) (text name told : List ℕ) → Some text ≡ option_map text_of o → name ≡ name_of k →
    told ≡ told_with relative text → output name told ∷ [] ≡ option_to_list (option_map (message_output k relative) o)
message_put k relative None text name told made named lines = absurd cc
message_put k relative (Some m) text name told made named lines =
    let same : text ≡ text_of m = cc in
    ap (λ (n : List ℕ). output n told ∷ []) named ∙ ap (λ (t : List ℕ). output (name_of k) t ∷ []) (lines ∙ ap (told_with relative) same)

-- how many notes are true
pub count_noted : {A : Type 0} (f : A → Bool) (xs : List A) → count_by (λ (b : Bool). b) (map f xs) ≡ count_by f xs
count_noted f [] = refl
count_noted f (x ∷ xs) =
    sum_by-cons (λ (b : Bool). cond b 1 0) (f x) (map f xs)
    ∙ ap (λ (n : ℕ). cond (f x) 1 0 + n) (count_noted f xs)
    ∙ sym (sum_by-cons (λ y. cond (f y) 1 0) x xs)

front_few : (s : PlainLeaf) (groups : List (List PlainLeaf)) → length (with_front s groups) ≤ length groups + 1
front_few s [] = omega arith
front_few s ([] ∷ others) = omega arith
front_few s ((t ∷ ts) ∷ others) = joined (follows s t)
  where
    joined : (b : Bool) → length (cond b ((s ∷ t ∷ ts) ∷ others) ((s ∷ []) ∷ (t ∷ ts) ∷ others)) ≤ length ((t ∷ ts) ∷ others) + 1
    joined true = omega arith
    joined false = omega arith

-- there are no more encounters than leaves
pub encounters_few : (ss : List PlainLeaf) → length (encounters_of ss) ≤ length ss
encounters_few [] = omega arith
encounters_few (s ∷ ss) = one_more (is_far s) (encounters_few ss)
  where
    one_more : (b : Bool) → length (encounters_of ss) ≤ length ss → length (cond b (encounters_of ss) (with_front s (encounters_of ss))) ≤ length (s ∷ ss)
    one_more true fewer = omega (arith, fewer)
    one_more false fewer = omega (arith, fewer, front_few s (encounters_of ss))

one_or_none : {A B : Type 0} (f : A → B) (o : Option A) → length (option_to_list (option_map f o)) ≡ cond (is_some o) 1 0
one_or_none f None = refl
one_or_none f (Some x) = refl

output_counted : (case : PlainProblem) (origin : PlainOrigin) (n : ℕ) (e : List PlainLeaf) → length (outputs_at case origin n e) ≡ cond (has_message case e) 1 0
output_counted case origin n e = by_closest (closest_of case e)
  where
    relative : Option Rtn
    relative = relative_in case origin e

    by_closest : (o : Option PlainClosest) →
        length (option_to_list (option_map (message_output n relative) (option_and_then (λ at. message_of case (first_object e) (second_object e) at.tick at.high (stamp_from origin n)) o)))
        ≡ cond (option_map_or (λ at. have_covariances case (first_object e) (second_object e) at.tick) o false) 1 0
    by_closest None = refl
    by_closest (Some at) =
        let made = message_of case (first_object e) (second_object e) at.tick at.high (stamp_from origin n) in
        one_or_none (message_output n relative) made ∙ ap (λ (b : Bool). cond b 1 0) (message_some case (first_object e) (second_object e) at.tick at.high (stamp_from origin n))

-- there are as many outputs as encounters that have a message
pub outputs_counted : (case : PlainProblem) (origin : PlainOrigin) (n : ℕ) (es : List (List PlainLeaf)) → length (numbered (outputs_at case origin) n es) ≡ count_by (has_message case) es
outputs_counted case origin n [] = refl
outputs_counted case origin n (e ∷ es) =
    let others = numbered (outputs_at case origin) (n + 1) es in
    length-append (outputs_at case origin n e) others
    ∙ ap (λ (k : ℕ). k + length others) (output_counted case origin n e)
    ∙ ap (λ (k : ℕ). cond (has_message case e) 1 0 + k) (outputs_counted case origin (n + 1) es)
    ∙ sym (sum_by-cons (λ y. cond (has_message case y) 1 0) e es)

-- what is put of the encounter at place i stands behind what was put of those before it
pub messages_more : (case : PlainProblem) (origin : PlainOrigin) (ss : List PlainLeaf) (es : List Encounter) (i : ℕ) (e : Encounter) (here old : List FileBytes) (now : Option (List FileBytes)) →
    i < length es → e ≡ get_or es i e → here ≡ outputs_at case origin (i + 1) (leaves_in ss e) → now ≡ Some ((old ++ message_outputs case origin (groups_in ss (take i es))) ++ here) →
    now ≡ Some (old ++ message_outputs case origin (groups_in ss (take (i + 1) es)))
messages_more case origin ss es i e here old now lt is made put =
    let before = message_outputs case origin (groups_in ss (take i es)) in
    put ∙ ap (λ (ps : List FileBytes). Some ps) (numbered_step (outputs_at case origin) (leaves_in ss) es i e old (old ++ before) ((old ++ before) ++ here) lt is refl (ap (λ (ps : List FileBytes). (old ++ before) ++ ps) made))

-- the put of the encounter at place i ended the run
pub messages_cut : (case : PlainProblem) (origin : PlainOrigin) (ss : List PlainLeaf) (es : List Encounter) (i : ℕ) (e : Encounter) (here old : List FileBytes) (now : Option (List FileBytes)) (s : Status) →
    i < length es → e ≡ get_or es i e → here ≡ outputs_at case origin (i + 1) (leaves_in ss e) → ComesOfPuts s →
    Leaves s (Ok here) (old ++ message_outputs case origin (groups_in ss (take i es))) now → Leaves s (Ok (message_outputs case origin (groups_in ss es))) old now
messages_cut case origin ss es i e here old now s lt is made comes leaves =
    let before = message_outputs case origin (groups_in ss (take i es)) in
    let behind = numbered (outputs_at case origin) (i + 2) (groups_in ss (drop (i + 1) es)) in
    let whole = numbered_parts (outputs_at case origin) (leaves_in ss) es i e lt is ∙ ap (λ (ps : List FileBytes). before ++ (ps ++ behind)) (sym made) in
    subst (λ (ps : List FileBytes). Leaves s (Ok ps) old now) (sym whole)
    (second_leaves (Err s) before (here ++ behind) old now comes (first_leaves s here behind (old ++ before) now comes leaves))

-- the number of an encounter is small
pub encounters_within : (leaves : List Leaf) (es : List Encounter) → AreEncounters (plain_leaves leaves) es → length leaves ≤ MOST_LEAVES → length es ≤ MOST_LEAVES
encounters_within leaves es are few =
    let ss = plain_leaves leaves in
    omega (arith, ap (λ (gs : List (List PlainLeaf)). length gs) are.groups, encounters_few ss, length-map leaves plain_leaf, length-map es (leaves_in ss), few)

-- what is made of the encounter at place i of findings is the output of its message
made_of_found : (found : Findings) (origin : PlainOrigin) (i k : ℕ) (stamp : PlainStamp) (relative : Option Rtn) (e : Encounter) (x : Closest) → AreFound found →
    i < length found.encounters.items → e ≡ get_or found.encounters.items i e → x ≡ get_or found.closest.items i x → stamp ≡ stamp_from origin (i + 1) → k ≡ i + 1 →
    relative ≡ relative_to_tell origin.relative (case_in found) e.pair.a e.pair.b x.tick.micros →
    option_to_list (option_map (message_output k relative) (message_of (case_in found) e.pair.a e.pair.b x.tick.micros x.high stamp))
    ≡ outputs_at (case_in found) origin (i + 1) (leaves_in (met_in found) e)
made_of_found found origin i k stamp relative e x are lt e_is x_is stamped number tells =
    let case = case_in found in
    let ss = met_in found in
    let es = found.encounters.items in
    let xs = found.closest.items in
    let d = subst (Describes ss) (sym e_is) (are.encounters.described i e lt) in
    let many : length xs ≡ length es =
    omega (arith, ap (λ (os : List (Option PlainClosest)). length os) are.closest, length-map xs some_closest, length-map (groups_in ss es) (closest_of case), length-map es (leaves_in ss)) in
    output_made case origin (i + 1) k stamp relative ss e x d (approach_at (closest_of case) ss es xs i e x lt many e_is x_is are.closest) stamped number tells

-- the same of a problem that is that of the findings
pub made_of_index : (found : Findings) (problem : Problem) (origin : PlainOrigin) (i k : ℕ) (stamp : PlainStamp) (relative : Option Rtn) (e : Encounter) (x : Closest) →
    problem ≡ found.problem → AreFound found →
    i < length found.encounters.items → e ≡ get_or found.encounters.items i e → x ≡ get_or found.closest.items i x → stamp ≡ stamp_from origin (i + 1) → k ≡ i + 1 →
    relative ≡ relative_to_tell origin.relative (case_in found) e.pair.a e.pair.b x.tick.micros →
    option_to_list (option_map (message_output k relative) (message_of (plain_problem problem) e.pair.a e.pair.b x.tick.micros x.high stamp))
    ≡ outputs_at (case_in found) origin (i + 1) (leaves_in (met_in found) e)
made_of_index found problem origin i k stamp relative e x same are lt e_is x_is stamped number tells =
    ap (λ (p : Problem). option_to_list (option_map (message_output k relative) (message_of (plain_problem p) e.pair.a e.pair.b x.tick.micros x.high stamp))) same
    ∙ made_of_found found origin i k stamp relative e x are lt e_is x_is stamped number tells

-- the summary counts the messages
pub messages_tallied : (found : Findings) (origin : PlainOrigin) → AreFound found → length (messages_in origin found) ≡ found.counts.messages
messages_tallied found origin are =
    outputs_counted (case_in found) origin 1 (encounters_in (case_in found)) ∙ sym (ap (λ (t : Tally). t.messages) are.counts)

-- the notes of a run's encounters, which were made of what was lent
pub noted_in : (case : PlainProblem) (ss : List PlainLeaf) (es lent : List Encounter) (xs lent_closest : List Closest) (bs : List Bool) → lent ≡ es → lent_closest ≡ xs →
    All (Describes ss) es → map some_closest xs ≡ map (closest_of case) (groups_in ss es) →
    ((ss : List PlainLeaf) → All (Describes ss) lent → map some_closest lent_closest ≡ map (closest_of case) (groups_in ss lent) → bs ≡ map (has_message case) (groups_in ss lent)) →
    bs ≡ map (has_message case) (groups_in ss es)
noted_in case ss es lent xs lent_closest bs p q described each noted =
    noted ss (subst (λ (y : List Encounter). All (Describes ss) y) (sym p) described)
    (ap (map some_closest) q ∙ each ∙ sym (ap (λ (y : List Encounter). map (closest_of case) (groups_in ss y)) p))
    ∙ ap (λ (y : List Encounter). map (has_message case) (groups_in ss y)) p

-- the encounters of findings are those of their case
pub groups_are : (found : Findings) → AreFound found → groups_in (met_in found) found.encounters.items ≡ encounters_in (case_in found)
groups_are found are = are.encounters.groups ∙ are.lines.met
