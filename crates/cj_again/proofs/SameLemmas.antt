-- Tracks that are the same in all fields are equal; and how segments are compared is how their plain records are.
use Rattle.std.proofs.Common.{◌≡◌, ◌<◌, ℕ, Bool, true, false, List, [], ◌∷◌, Some, length, get_or, map, refl, ap, ◌∙◌}
use Rattle.std.specs.Prelude.{◌&&◌, ℤ, nat_eq, option_map, slice_get}
use Rattle.std.specs.Bool.{beq}
use Rattle.std.specs.Cmp.{first_so, second_so, signed_Decides, unsigned_Decides}
use Rattle.std.specs.Cmp.Lexicographic.{pointwise}
use Rattle.std.specs.Ordering.{eq_of_both, int_eq, on}
use Rattle.std.proofs.lemmas.Option.{slice_get-map, slice_get_read}
use Rattle.cj_base.specs.Decimals.{number_of}
use Rattle.cj_base.specs.Numbers.{Number}
use Rattle.cj_track.specs.PlainTracks.{PlainNode, PlainMatrix, PlainSegment, PlainTrack}
use Rattle.cj_track.specs.Sameness.{same_matrix, same_segment, same_vector}
use Rattle.cj_track.specs.Tracks.{plain_matrix, plain_node, plain_segment, plain_track}
use Rattle.cj_track.specs.declared.matrix.Matrix.{Matrix}
use Rattle.cj_track.specs.declared.segment.Segment.{Segment}
use Rattle.cj_track.specs.declared.track.Track.{Track}
use Rattle.cj_case.specs.Unchanged.{are_same}
use Rattle.cj_track.specs.SameTracks.{same_covariance, same_frame, same_number, same_part, same_state, same_track}
use Rattle.cj_track.specs.declared.frame.Frame.{Frame}
use Rattle.cj_track.specs.declared.frame.Frame.TheVariants.{Eme2000, Gcrf}
use Rattle.cj_track.specs.declared.vec3.Vec3.{Vec3}

-- where a test holds of equal elements alone, so does that of lists
exact_lists : {X : Type 0} (E : X → X → Bool) → ((x y : X) → E x y ≡ true → x ≡ y) → (xs ys : List X) → pointwise E xs ys ≡ true → xs ≡ ys
exact_lists E exact [] [] is = refl
exact_lists E exact [] (y ∷ ys) is = absurd cc
exact_lists E exact (x ∷ xs) [] is = absurd cc
exact_lists E exact (x ∷ xs) (y ∷ ys) is =
    let head = exact x y (first_so (E x y) (pointwise E xs ys) is) in
    let tail = exact_lists E exact xs ys (second_so (E x y) (pointwise E xs ys) is) in
    λ i. head i ∷ tail i

exact_nat : (x y : ℕ) → nat_eq x y ≡ true → x ≡ y
exact_nat x y is = (unsigned_Decides x y).0 is

exact_int : (x y : ℤ) → int_eq x y ≡ true → x ≡ y
exact_int x y is = (signed_Decides x y).0 is

exact_bool : (x y : Bool) → beq x y ≡ true → x ≡ y
exact_bool true true is = refl
exact_bool true false is = absurd cc
exact_bool false true is = absurd cc
exact_bool false false is = refl

exact_vector : (v w : Vec3) → same_vector v w ≡ true → v ≡ w
exact_vector v w is =
    let rest = second_so (int_eq v.x w.x) (eq_of_both (on (λ u. u.y) int_eq) (on (λ u. u.z) int_eq) v w) is in
    let x = exact_int v.x w.x (first_so (int_eq v.x w.x) (eq_of_both (on (λ u. u.y) int_eq) (on (λ u. u.z) int_eq) v w) is) in
    let y = exact_int v.y w.y (first_so (int_eq v.y w.y) (int_eq v.z w.z) rest) in
    let z = exact_int v.z w.z (second_so (int_eq v.y w.y) (int_eq v.z w.z) rest) in
    λ i. record { x = x i; y = y i; z = z i }

exact_state : (n m : PlainNode) → same_state n m ≡ true → n ≡ m
exact_state n m is =
    let rest = second_so (nat_eq n.at m.at) (eq_of_both (on (λ k. k.p) same_vector) (on (λ k. k.v) same_vector) n m) is in
    let at = exact_nat n.at m.at (first_so (nat_eq n.at m.at) (eq_of_both (on (λ k. k.p) same_vector) (on (λ k. k.v) same_vector) n m) is) in
    let p = exact_vector n.p m.p (first_so (same_vector n.p m.p) (same_vector n.v m.v) rest) in
    let v = exact_vector n.v m.v (second_so (same_vector n.p m.p) (same_vector n.v m.v) rest) in
    λ i. record { at = at i; p = p i; v = v i }

exact_number : (n m : Number) → same_number n m ≡ true → n ≡ m
exact_number n m is =
    let rest = second_so (beq n.negative m.negative) (eq_of_both (on (λ k. k.digits) nat_eq) (on (λ k. k.power) int_eq) n m) is in
    let negative = exact_bool n.negative m.negative (first_so (beq n.negative m.negative) (eq_of_both (on (λ k. k.digits) nat_eq) (on (λ k. k.power) int_eq) n m) is) in
    let digits = exact_nat n.digits m.digits (first_so (nat_eq n.digits m.digits) (int_eq n.power m.power) rest) in
    let power = exact_int n.power m.power (second_so (nat_eq n.digits m.digits) (int_eq n.power m.power) rest) in
    λ i. record { negative = negative i; digits = digits i; power = power i }

exact_covariance : (x y : PlainMatrix) → same_covariance x y ≡ true → x ≡ y
exact_covariance x y is =
    let at = exact_nat x.at y.at (first_so (nat_eq x.at y.at) (pointwise same_number x.values y.values) is) in
    let values = exact_lists same_number exact_number x.values y.values (second_so (nat_eq x.at y.at) (pointwise same_number x.values y.values) is) in
    λ i. record { at = at i; values = values i }

exact_part : (s t : PlainSegment) → same_part s t ≡ true → s ≡ t
exact_part s t is =
    let lists = eq_of_both (on (λ r. r.nodes) (pointwise same_state)) (on (λ r. r.covariances) (pointwise same_covariance)) s t in
    let from_last = eq_of_both (on (λ r. r.last) nat_eq) (eq_of_both (on (λ r. r.nodes) (pointwise same_state)) (on (λ r. r.covariances) (pointwise same_covariance))) s t in
    let behind = second_so (nat_eq s.first t.first) from_last is in
    let inner = second_so (nat_eq s.last t.last) lists behind in
    let first = exact_nat s.first t.first (first_so (nat_eq s.first t.first) from_last is) in
    let last = exact_nat s.last t.last (first_so (nat_eq s.last t.last) lists behind) in
    let nodes = exact_lists same_state exact_state s.nodes t.nodes (first_so (pointwise same_state s.nodes t.nodes) (pointwise same_covariance s.covariances t.covariances) inner) in
    let covariances = exact_lists same_covariance exact_covariance s.covariances t.covariances (second_so (pointwise same_state s.nodes t.nodes) (pointwise same_covariance s.covariances t.covariances) inner) in
    λ i. record { first = first i; last = last i; nodes = nodes i; covariances = covariances i }

exact_frame : (f g : Frame) → same_frame f g ≡ true → f ≡ g
exact_frame Eme2000 Eme2000 is = refl
exact_frame Eme2000 Gcrf is = absurd cc
exact_frame Gcrf Eme2000 is = absurd cc
exact_frame Gcrf Gcrf is = refl

pub exact_track : (e f : PlainTrack) → same_track e f ≡ true → e ≡ f
unfolding same_track
exact_track e f is =
    let behind_id = eq_of_both (on (λ d. d.frame) same_frame) (on (λ d. d.segments) (pointwise same_part)) e f in
    let behind_name = eq_of_both (on (λ d. d.id) (pointwise nat_eq)) (eq_of_both (on (λ d. d.frame) same_frame) (on (λ d. d.segments) (pointwise same_part))) e f in
    let behind_file = eq_of_both (on (λ d. d.name) (pointwise nat_eq)) (eq_of_both (on (λ d. d.id) (pointwise nat_eq)) (eq_of_both (on (λ d. d.frame) same_frame) (on (λ d. d.segments) (pointwise same_part)))) e f in
    let one = second_so (pointwise nat_eq e.file f.file) behind_file is in
    let two = second_so (pointwise nat_eq e.name f.name) behind_name one in
    let three = second_so (pointwise nat_eq e.id f.id) behind_id two in
    let file = exact_lists nat_eq exact_nat e.file f.file (first_so (pointwise nat_eq e.file f.file) behind_file is) in
    let name = exact_lists nat_eq exact_nat e.name f.name (first_so (pointwise nat_eq e.name f.name) behind_name one) in
    let id = exact_lists nat_eq exact_nat e.id f.id (first_so (pointwise nat_eq e.id f.id) behind_id two) in
    let frame = exact_frame e.frame f.frame (first_so (same_frame e.frame f.frame) (pointwise same_part e.segments f.segments) three) in
    let segments = exact_lists same_part exact_part e.segments f.segments (second_so (same_frame e.frame f.frame) (pointwise same_part e.segments f.segments) three) in
    λ i. record { file = file i; name = name i; id = id i; frame = frame i; segments = segments i }

-- ---- segments and their plain records

mapped : {X Y : Type 0} (h : X → Y) (E : Y → Y → Bool) (xs ys : List X) → pointwise (λ a b. E (h a) (h b)) xs ys ≡ pointwise E (map h xs) (map h ys)
mapped h E [] [] = refl
mapped h E [] (y ∷ ys) = refl
mapped h E (x ∷ xs) [] = refl
mapped h E (x ∷ xs) (y ∷ ys) = ap (λ r. E (h x) (h y) && r) (mapped h E xs ys)

matrices_same : same_matrix ≡ (λ a b. same_covariance (plain_matrix a) (plain_matrix b))
matrices_same = λ i a b. nat_eq a.at.micros b.at.micros && mapped number_of same_number a.values b.values i

covariances_same : (xs ys : List Matrix) → pointwise same_matrix xs ys ≡ pointwise same_covariance (map plain_matrix xs) (map plain_matrix ys)
covariances_same xs ys = ap (λ (E : Matrix → Matrix → Bool). pointwise E xs ys) matrices_same ∙ mapped plain_matrix same_covariance xs ys

parts_same : same_segment ≡ (λ s t. same_part (plain_segment s) (plain_segment t))
parts_same = λ i s t.
    nat_eq s.first.micros t.first.micros && (nat_eq s.last.micros t.last.micros
    && (mapped plain_node same_state s.nodes t.nodes i && covariances_same s.matrices t.matrices i))

pub segments_same : (xs ys : List Segment) → pointwise same_segment xs ys ≡ pointwise same_part (map plain_segment xs) (map plain_segment ys)
segments_same xs ys = ap (λ (E : Segment → Segment → Bool). pointwise E xs ys) parts_same ∙ mapped plain_segment same_part xs ys

-- ---- objects

pub tracks_told : (old new : List Track) (p i : ℕ) (one other : Track) → p < length old → i < length new → one ≡ get_or old p one → other ≡ get_or new i other →
    are_same (slice_get (map plain_track old) p) (slice_get (map plain_track new) i) ≡ same_track (plain_track one) (plain_track other)
tracks_told old new p i one other first second is_one is_other =
    let at_one : slice_get (map plain_track old) p ≡ Some (plain_track one) =
    slice_get-map plain_track old p ∙ ap (option_map plain_track) (slice_get_read old (length old) p one refl first is_one) in
    let at_other : slice_get (map plain_track new) i ≡ Some (plain_track other) =
    slice_get-map plain_track new i ∙ ap (option_map plain_track) (slice_get_read new (length new) i other refl second is_other) in
    λ j. are_same (at_one j) (at_other j)
