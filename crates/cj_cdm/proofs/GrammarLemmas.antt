-- The lines of a message in their order are exact.
use Rattle.std.proofs.Common.{◌≡◌, ℕ, Bool, true, false, List, [], ◌∷◌, ◌++◌, length, ap, sym, ◌∙◌, refl, subst, arith, append_assoc, append-nil, Option, Result, Ok, ℤ, pos}
use Rattle.std.specs.Prelude.{◌&&◌, not, if◌then◌else◌, codes}
use Rattle.std.specs.List.{list_all, list_any}
use Rattle.std.proofs.lemmas.Bool.{and_parts, not-true}
use Rattle.cj_epoch.specs.Written.{epoch_of}
use Rattle.cj_base.specs.Numbers.{Number}
use Rattle.cj_kvn.specs.Decimals.{decimal_text_of}
use Rattle.cj_track.specs.Labels.{is_label}
use Rattle.cj_track.specs.declared.frame.Frame.{Frame}
use Rattle.cj_cdm.specs.declared.fault.CdmCause.TheVariants as causes
use Rattle.cj_rtn.specs.declared.vector.Vector.{Vector}
use Rattle.cj_cdm.specs.Fits.{Fits, IsShort, IsSide, IsStamp}
use Rattle.cj_cdm.specs.Messages.{PlainMessage, PlainSide, PlainStamp}
use Rattle.cj_base.specs.Bytes.{is_feed}
use Rattle.cj_kvn.specs.Faults.{◌>>=◌ as and_then}
use Rattle.cj_cdm.specs.Reading.{Fault, Front, Heading, Object, Period, Rest, elements_said, ended, entry_said, fault_at, front_said, give, heading_by, heading_said, is_none_left, line_said, message_said, object_said, period_said, place_said, rate_said, reading, side_said, stamp_said, vector_said, ◌>>=◌, source_said}
use Rattle.cj_kvn.specs.Entries.{entry, line}
use Rattle.cj_track.specs.Frames.{frame_text}
use Rattle.cj_cdm.specs.Texts.{covariance_text, element_text, elements, elements_text, front_text, heading_text, kilometres, metres, number_text, object_text, period_text, quantity, side_text, state_text, text_of}
use Rattle.cj_kvn.specs.Originators.{is_originator}
use Rattle.cj_cdm.specs.Values.{constant_said, designator_said, element_said, epoch_said, frame_said, id_said, is_decimal, is_international, is_miss, is_number, is_short, is_tick, kilometres_said, label_said, miss_said, originator_said}
use Rattle.cj_cdm.proofs.ExactLemmas.{Anything, IsExact, behind, given, in_order, ok_is, refitted, retold, stepped}
use Rattle.cj_cdm.proofs.LineLemmas.{IsSaid, line_exact}
use Rattle.cj_cdm.proofs.ValueLemmas.{constant_law, designator_law, epoch_law, frame_law, free_joined, label_law, originator_law}
use Rattle.cj_cdm.proofs.FigureLemmas.{element_law, id_law, kilometres_law, miss_law}

-- a key with its value
pub entry_exact : {A : Type 0} (key : List ℕ) (said : List ℕ → Option A) (write : A → List ℕ) (Fit : A → Type 0) → list_any is_feed key ≡ false → IsSaid said write Fit
    → IsExact (entry_said key said) (λ x. entry key (write x)) Anything Fit
entry_exact key said write Fit free law = line_exact (key ++ codes " = ") said write Fit (free_joined key (codes " = ") free refl) law

constant_exact : (key text : List ℕ) → list_any is_feed key ≡ false → list_any is_feed text ≡ false → IsExact (entry_said key (constant_said text)) (λ _. entry key text) Anything Anything
constant_exact key text free none = entry_exact key (constant_said text) (λ _. text) Anything free (constant_law text none)

epoch_exact : (key : List ℕ) → list_any is_feed key ≡ false → IsExact (entry_said key epoch_said) (λ m. entry key (epoch_of m)) Anything (λ m. is_tick m ≡ true)
epoch_exact key free = entry_exact key epoch_said epoch_of (λ m. is_tick m ≡ true) free epoch_law

label_exact : (key : List ℕ) → list_any is_feed key ≡ false → IsExact (entry_said key label_said) (λ t. entry key t) Anything (λ t. is_label t ≡ true)
label_exact key free = entry_exact key label_said (λ t. t) (λ t. is_label t ≡ true) free label_law

kilometres_exact : (key unit : List ℕ) → list_any is_feed key ≡ false → list_any is_feed unit ≡ false
    → IsExact (entry_said key (kilometres_said unit)) (λ z. quantity key (kilometres z) unit) Anything (λ z. is_short z ≡ true)
kilometres_exact key unit free none = entry_exact key (kilometres_said unit) (λ z. kilometres z ++ codes " [" ++ unit ++ codes "]") (λ z. is_short z ≡ true) free (kilometres_law unit none)

-- ---- three coordinates
abbrev make_vector : ℤ → ℤ → ℤ → Vector
make_vector x y z = record { x = x; y = y; z = z }

abbrev vector_text : List ℕ → List ℕ → List ℕ → List ℕ → Vector → List ℕ
vector_text kx ky kz unit v = quantity kx (kilometres v.x) unit ++ (quantity ky (kilometres v.y) unit ++ (quantity kz (kilometres v.z) unit ++ []))

vector_exact : (kx ky kz unit : List ℕ) → list_any is_feed kx ≡ false → list_any is_feed ky ≡ false → list_any is_feed kz ≡ false → list_any is_feed unit ≡ false
    → IsExact (vector_said kx ky kz unit) (vector_text kx ky kz unit) Anything IsShort
unfolding vector_said
vector_exact kx ky kz unit fx fy fz free =
    refitted _ _ _ _ IsShort to from (
    in_order _ _ _ _ (λ v. v.x) _ Anything _ (kilometres_exact kx unit fx free) (λ x xf.
    in_order _ _ _ _ (λ v. v.y) _ (λ v. (v.x ≡ x) × Anything v) _ (kilometres_exact ky unit fy free) (λ y yf.
    in_order _ _ _ _ (λ v. v.z) _ (λ v. (v.y ≡ y) × ((v.x ≡ x) × Anything v)) _ (kilometres_exact kz unit fz free) (λ z zf.
    given (make_vector x y z) (λ v. (v.z ≡ z) × ((v.y ≡ y) × ((v.x ≡ x) × Anything v))) (refl, (refl, (refl, tt))) (alone x y z)))))
  where
    alone : (x y z : ℤ) (v : Vector) → (v.z ≡ z) × ((v.y ≡ y) × ((v.x ≡ x) × Anything v)) → make_vector x y z ≡ v
    alone x y z v e = ap (λ (c : ℤ). make_vector c y z) (sym e.1.1.0) ∙ ap (λ (c : ℤ). make_vector v.x c z) (sym e.1.0) ∙ ap (λ (c : ℤ). make_vector v.x v.y c) (sym e.0)

    to : (v : Vector) → (is_short v.x ≡ true) × ((is_short v.y ≡ true) × ((is_short v.z ≡ true) × Anything v)) → IsShort v
    to v f = record { of_x = f.0; of_y = f.1.0; of_z = f.1.1.0 }

    from : (v : Vector) → IsShort v → (is_short v.x ≡ true) × ((is_short v.y ≡ true) × ((is_short v.z ≡ true) × Anything v))
    from v f = (f.of_x, (f.of_y, (f.of_z, tt)))

pub place_exact : IsExact place_said (vector_text (codes "X") (codes "Y") (codes "Z") (codes "km")) Anything IsShort
place_exact = vector_exact (codes "X") (codes "Y") (codes "Z") (codes "km") refl refl refl refl

rate_exact : IsExact rate_said (vector_text (codes "X_DOT") (codes "Y_DOT") (codes "Z_DOT") (codes "km/s")) Anything IsShort
rate_exact = vector_exact (codes "X_DOT") (codes "Y_DOT") (codes "Z_DOT") (codes "km/s") refl refl refl refl

-- ---- the stamp
abbrev make_stamp : ℕ → List ℕ → ℕ → PlainStamp
make_stamp created originator number = record { created = created; originator = originator; number = number }

abbrev id_text : PlainStamp → List ℕ
id_text s = entry (codes "MESSAGE_ID") (s.originator ++ codes "_" ++ number_text s.number)

abbrev stamp_text : PlainStamp → List ℕ
stamp_text s = entry (codes "CCSDS_CDM_VERS") (codes "1.0") ++ (entry (codes "CREATION_DATE") (epoch_of s.created) ++ (entry (codes "ORIGINATOR") s.originator ++ (id_text s ++ [])))

abbrev StampFits : PlainStamp → Type 0
StampFits s = (is_tick s.created ≡ true) × ((is_originator s.originator ≡ true) × ((is_number s.number ≡ true) × Anything s))

pub stamp_exact : IsExact stamp_said stamp_text Anything IsStamp
unfolding stamp_said
stamp_exact =
    refitted _ _ _ StampFits IsStamp to from (
    behind _ _ (entry (codes "CCSDS_CDM_VERS") (codes "1.0")) _ Anything _ (constant_exact (codes "CCSDS_CDM_VERS") (codes "1.0") refl refl) (λ v.
    in_order _ _ _ _ (λ s. s.created) _ Anything _ (epoch_exact (codes "CREATION_DATE") refl) (λ c cf.
    in_order _ _ (λ t. entry (codes "ORIGINATOR") t) _ (λ s. s.originator) (λ t. is_originator t ≡ true) (λ s. (s.created ≡ c) × Anything s) _ (entry_exact (codes "ORIGINATOR") originator_said (λ t. t) (λ t. is_originator t ≡ true) refl originator_law) (λ o of.
    retold _ (λ s. entry (codes "MESSAGE_ID") (o ++ codes "_" ++ number_text s.number) ++ []) (λ s. id_text s ++ []) _ _ (λ s e. ap (λ (t : List ℕ). entry (codes "MESSAGE_ID") (t ++ codes "_" ++ number_text s.number) ++ []) (sym e.0)) (
    in_order _ _ _ _ (λ s. s.number) _ (λ s. (s.originator ≡ o) × ((s.created ≡ c) × Anything s)) _ (id_exact o of) (λ n nf.
    given (make_stamp c o n) (λ s. (s.number ≡ n) × ((s.originator ≡ o) × ((s.created ≡ c) × Anything s))) (refl, (refl, (refl, tt))) (alone c o n)))))))
  where
    id_exact : (o : List ℕ) → is_originator o ≡ true
        → IsExact (entry_said (codes "MESSAGE_ID") (id_said o)) (λ n. entry (codes "MESSAGE_ID") (o ++ codes "_" ++ number_text n)) Anything (λ n. is_number n ≡ true)
    id_exact o is = entry_exact (codes "MESSAGE_ID") (id_said o) (λ n. o ++ codes "_" ++ number_text n) (λ n. is_number n ≡ true) refl (id_law o (originator_law.lone o is))

    alone : (c : ℕ) (o : List ℕ) (n : ℕ) (s : PlainStamp) → (s.number ≡ n) × ((s.originator ≡ o) × ((s.created ≡ c) × Anything s)) → make_stamp c o n ≡ s
    alone c o n s e = ap (λ (k : ℕ). make_stamp k o n) (sym e.1.1.0) ∙ ap (λ (k : List ℕ). make_stamp s.created k n) (sym e.1.0) ∙ ap (λ (k : ℕ). make_stamp s.created s.originator k) (sym e.0)

    to : (s : PlainStamp) → StampFits s → IsStamp s
    to s f = record { made = f.0; by = f.1.0; numbered = f.1.1.0 }

    from : (s : PlainStamp) → IsStamp s → StampFits s
    from s f = (f.made, (f.by, (f.numbered, tt)))

-- ---- the front
abbrev make_front : PlainStamp → ℕ → ℕ → Front
make_front stamp tca miss = record { stamp = stamp; tca = tca; miss = miss }

abbrev pub front_parts : Front → List ℕ
front_parts f = stamp_text f.stamp ++ (entry (codes "TCA") (epoch_of f.tca) ++ (quantity (codes "MISS_DISTANCE") (metres (pos f.miss)) (codes "m") ++ []))

abbrev pub FrontFits : Front → Type 0
FrontFits f = IsStamp f.stamp × ((is_tick f.tca ≡ true) × ((is_miss f.miss ≡ true) × Anything f))

abbrev IsFront : PlainStamp → ℕ → ℕ → Front → Type 0
IsFront s t m f = (f.miss ≡ m) × ((f.tca ≡ t) × ((f.stamp ≡ s) × Anything f))

pub front_exact : IsExact front_said front_parts Anything FrontFits
unfolding front_said
front_exact =
    in_order _ _ stamp_text _ (λ f. f.stamp) IsStamp Anything _ stamp_exact (λ s sf.
    in_order _ _ _ _ (λ f. f.tca) _ (λ f. (f.stamp ≡ s) × Anything f) _ (epoch_exact (codes "TCA") refl) (λ t tf.
    in_order _ _ (λ n. quantity (codes "MISS_DISTANCE") (metres (pos n)) (codes "m")) _ (λ f. f.miss) (λ n. is_miss n ≡ true) (λ f. (f.tca ≡ t) × ((f.stamp ≡ s) × Anything f)) _ miss_exact (λ m mf.
    given (make_front s t m) (IsFront s t m) (refl, (refl, (refl, tt))) (alone s t m))))
  where
    miss_exact : IsExact (entry_said (codes "MISS_DISTANCE") miss_said) (λ n. quantity (codes "MISS_DISTANCE") (metres (pos n)) (codes "m")) Anything (λ n. is_miss n ≡ true)
    miss_exact = entry_exact (codes "MISS_DISTANCE") miss_said (λ n. metres (pos n) ++ codes " [" ++ codes "m" ++ codes "]") (λ n. is_miss n ≡ true) refl miss_law

    alone : (s : PlainStamp) (t m : ℕ) (f : Front) → IsFront s t m f → make_front s t m ≡ f
    alone s t m f is =
        ap (λ (k : PlainStamp). make_front k t m) (sym is.1.1.0) ∙ ap (λ (k : ℕ). make_front f.stamp k m) (sym is.1.0) ∙ ap (λ (k : ℕ). make_front f.stamp f.tca k) (sym is.0)

-- ---- the screened window
abbrev make_period : ℕ → ℕ → Period
make_period start stop = record { start = start; stop = stop }

abbrev pub period_parts : Period → List ℕ
period_parts p = entry (codes "START_SCREEN_PERIOD") (epoch_of p.start) ++ (entry (codes "STOP_SCREEN_PERIOD") (epoch_of p.stop) ++ [])

abbrev pub PeriodFits : Period → Type 0
PeriodFits p = (is_tick p.start ≡ true) × ((is_tick p.stop ≡ true) × Anything p)

pub period_exact : IsExact period_said period_parts Anything PeriodFits
unfolding period_said
period_exact =
    in_order _ _ _ _ (λ p. p.start) _ Anything _ (epoch_exact (codes "START_SCREEN_PERIOD") refl) (λ b bf.
    in_order _ _ _ _ (λ p. p.stop) _ (λ p. (p.start ≡ b) × Anything p) _ (epoch_exact (codes "STOP_SCREEN_PERIOD") refl) (λ e ef.
    given (make_period b e) (λ p. (p.stop ≡ e) × ((p.start ≡ b) × Anything p)) (refl, (refl, tt)) (alone b e)))
  where
    alone : (b e : ℕ) (p : Period) → (p.stop ≡ e) × ((p.start ≡ b) × Anything p) → make_period b e ≡ p
    alone b e p is = ap (λ (k : ℕ). make_period k e) (sym is.1.0) ∙ ap (λ (k : ℕ). make_period p.start k) (sym is.0)

-- ---- the heading
abbrev front_of_heading : Heading → Front
front_of_heading h = make_front h.stamp h.tca h.miss

abbrev period_of_heading : Heading → Period
period_of_heading h = make_period h.start h.stop

abbrev heading_parts : Heading → List ℕ
heading_parts h = front_parts (front_of_heading h) ++ (period_parts (period_of_heading h) ++ [])

abbrev HeadingFits : Heading → Type 0
HeadingFits h = FrontFits (front_of_heading h) × (PeriodFits (period_of_heading h) × Anything h)

abbrev IsHeading : Front → Period → Heading → Type 0
IsHeading f p h = (period_of_heading h ≡ p) × ((front_of_heading h ≡ f) × Anything h)

heading_exact : IsExact heading_said heading_parts Anything HeadingFits
unfolding heading_said
heading_exact =
    in_order _ _ front_parts _ front_of_heading FrontFits Anything _ front_exact (λ f ff.
    in_order _ _ period_parts _ period_of_heading PeriodFits (λ h. (front_of_heading h ≡ f) × Anything h) _ period_exact (λ p pf.
    given (heading_by f p) (IsHeading f p) (refl, (refl, tt)) (alone f p)))
  where
    alone : (f : Front) (p : Period) (h : Heading) → IsHeading f p h → heading_by f p ≡ h
    alone f p h is = ap (λ (k : Front). heading_by k p) (sym is.1.0) ∙ ap (λ (k : Period). heading_by (front_of_heading h) k) (sym is.0)

-- ---- what an object is
abbrev make_object : List ℕ → List ℕ → List ℕ → List ℕ → Frame → Object
make_object id name designator file frame = record { id = id; name = name; designator = designator; file = file; frame = frame }

abbrev pub object_lines : List ℕ → Object → List ℕ
object_lines called o =
    entry (codes "OBJECT") called ++ (entry (codes "OBJECT_DESIGNATOR") o.id ++ (entry (codes "CATALOG_NAME") (codes "OEM") ++ (entry (codes "OBJECT_NAME") o.name
    ++ (entry (codes "INTERNATIONAL_DESIGNATOR") o.designator ++ (entry (codes "EPHEMERIS_NAME") o.file ++ (entry (codes "COVARIANCE_METHOD") (codes "CALCULATED")
    ++ (entry (codes "MANEUVERABLE") (codes "N/A") ++ (entry (codes "REF_FRAME") (frame_text o.frame) ++ []))))))))

abbrev pub ObjectFits : Object → Type 0
ObjectFits o = (is_label o.id ≡ true) × ((is_label o.name ≡ true) × ((is_international o.designator ≡ true) × ((is_label o.file ≡ true) × (Anything o.frame × Anything o))))

abbrev IsObject : List ℕ → List ℕ → List ℕ → List ℕ → Frame → Object → Type 0
IsObject i n d f r o = (o.frame ≡ r) × ((o.file ≡ f) × ((o.designator ≡ d) × ((o.name ≡ n) × ((o.id ≡ i) × Anything o))))

pub object_exact : (called : List ℕ) → list_any is_feed called ≡ false → IsExact (object_said called) (object_lines called) Anything ObjectFits
unfolding object_said source_said
object_exact called free =
    behind _ _ (entry (codes "OBJECT") called) _ Anything _ (constant_exact (codes "OBJECT") called refl free) (λ v.
    in_order _ _ _ _ (λ o. o.id) _ Anything _ (label_exact (codes "OBJECT_DESIGNATOR") refl) (λ i if1.
    behind _ _ (entry (codes "CATALOG_NAME") (codes "OEM")) _ (λ o. (o.id ≡ i) × Anything o) _ (constant_exact (codes "CATALOG_NAME") (codes "OEM") refl refl) (λ v2.
    in_order _ _ _ _ (λ o. o.name) _ (λ o. (o.id ≡ i) × Anything o) _ (label_exact (codes "OBJECT_NAME") refl) (λ n nf.
    in_order _ _ (λ t. entry (codes "INTERNATIONAL_DESIGNATOR") t) _ (λ o. o.designator) (λ t. is_international t ≡ true) (λ o. (o.name ≡ n) × ((o.id ≡ i) × Anything o)) _
    (entry_exact (codes "INTERNATIONAL_DESIGNATOR") designator_said (λ t. t) (λ t. is_international t ≡ true) refl designator_law) (λ d df.
    in_order _ _ _ _ (λ o. o.file) _ (λ o. (o.designator ≡ d) × ((o.name ≡ n) × ((o.id ≡ i) × Anything o))) _ (label_exact (codes "EPHEMERIS_NAME") refl) (λ f ff.
    behind _ _ (entry (codes "COVARIANCE_METHOD") (codes "CALCULATED")) _ (λ o. (o.file ≡ f) × ((o.designator ≡ d) × ((o.name ≡ n) × ((o.id ≡ i) × Anything o)))) _
    (constant_exact (codes "COVARIANCE_METHOD") (codes "CALCULATED") refl refl) (λ v3.
    behind _ _ (entry (codes "MANEUVERABLE") (codes "N/A")) _ (λ o. (o.file ≡ f) × ((o.designator ≡ d) × ((o.name ≡ n) × ((o.id ≡ i) × Anything o)))) _
    (constant_exact (codes "MANEUVERABLE") (codes "N/A") refl refl) (λ v4.
    in_order _ _ (λ r. entry (codes "REF_FRAME") (frame_text r)) _ (λ o. o.frame) Anything (λ o. (o.file ≡ f) × ((o.designator ≡ d) × ((o.name ≡ n) × ((o.id ≡ i) × Anything o)))) _
    (entry_exact (codes "REF_FRAME") frame_said frame_text Anything refl frame_law) (λ r rf.
    given (make_object i n d f r) (IsObject i n d f r) (refl, (refl, (refl, (refl, (refl, tt))))) (alone i n d f r))))))))))
  where
    alone : (i n d f : List ℕ) (r : Frame) (o : Object) → IsObject i n d f r o → make_object i n d f r ≡ o
    alone i n d f r o is =
        ap (λ (k : List ℕ). make_object k n d f r) (sym is.1.1.1.1.0) ∙ ap (λ (k : List ℕ). make_object o.id k d f r) (sym is.1.1.1.0)
        ∙ ap (λ (k : List ℕ). make_object o.id o.name k f r) (sym is.1.1.0) ∙ ap (λ (k : List ℕ). make_object o.id o.name o.designator k r) (sym is.1.0)
        ∙ ap (λ (k : Frame). make_object o.id o.name o.designator o.file k) (sym is.0)

-- ---- the elements of a covariance
abbrev are_free : List (List ℕ × List ℕ) → Bool
are_free es = list_all (λ e. not (list_any is_feed e.0) && not (list_any is_feed e.1)) es

abbrev ElementsFit : List (List ℕ × List ℕ) → List Number → Type 0
ElementsFit es values = (length values ≡ length es) × (list_all is_decimal values ≡ true)

element_exact : (e : List ℕ × List ℕ) → list_any is_feed e.0 ≡ false → list_any is_feed e.1 ≡ false → IsExact (entry_said e.0 (element_said e.1)) (element_text e) Anything (λ n. is_decimal n ≡ true)
element_exact e free none = entry_exact e.0 (element_said e.1) (λ n. decimal_text_of n ++ codes " [" ++ e.1 ++ codes "]") (λ n. is_decimal n ≡ true) free (element_law e.1 none)

abbrev read_pair : List Number → Rest → List Number × Rest
read_pair values rest = (values, rest)

no_elements : IsExact (elements_said []) (elements_text []) Anything (ElementsFit [])
unfolding elements_said
no_elements = record {
  only = λ r s x h. only r s x (ok_is ([], r) (x, s) (give [] r) refl h);
  again = λ x more at same fit. again x more at fit.0;
}
  where
    only : (r s : Rest) (x : List Number) → read_pair [] r ≡ read_pair x s → (r.text ≡ elements_text [] x ++ s.text) × Anything x × ElementsFit [] x
    only r s x both =
        let none : [] ≡ x = ap (λ (p : List Number × Rest). p.0) both in
        (ap (λ (p : List Number × Rest). p.1.text) both, tt, subst (ElementsFit []) none (refl, refl))

    again : (x : List Number) (more : List ℕ) (at : ℕ) → length x ≡ 0 → (k : ℕ) × (give [] (record { text = elements_text [] x ++ more; line = at }) ≡ Ok (x, record { text = more; line = k }))
    again [] more at none = (at, refl)
    again (v ∷ x) more at none = absurd (omega arith)

more_elements : (e : List ℕ × List ℕ) (es : List (List ℕ × List ℕ)) → IsExact (entry_said e.0 (element_said e.1)) (element_text e) Anything (λ n. is_decimal n ≡ true)
    → IsExact (elements_said es) (elements_text es) Anything (ElementsFit es) → IsExact (elements_said (e ∷ es)) (elements_text (e ∷ es)) Anything (ElementsFit (e ∷ es))
unfolding elements_said
more_elements e es first rest = record {
  only = λ r s x h.
      let one = stepped (entry_said e.0 (element_said e.1) r) (λ y. (elements_said es >>= λ values. give (y.0 ∷ values)) y.1) (x, s) h in
      let value = one.0.0 in
      let two = stepped (elements_said es one.0.1) (λ y. give (value ∷ y.0) y.1) (x, s) one.2 in
      let both : read_pair (value ∷ two.0.0) two.0.1 ≡ read_pair x s = ok_is (value ∷ two.0.0, two.0.1) (x, s) (give (value ∷ two.0.0) two.0.1) refl two.2 in
      only r one.0.1 s two.0.1 x value two.0.0 both (first.only r one.0.1 value one.1) (rest.only one.0.1 two.0.1 two.0.0 two.1);
  again = λ x more at same fit. again x more at fit.0 fit.1;
}
  where
    only : (r mid s last : Rest) (x : List Number) (value : Number) (values : List Number) → read_pair (value ∷ values) last ≡ read_pair x s
        → (r.text ≡ element_text e value ++ mid.text) × Anything value × (is_decimal value ≡ true) → (mid.text ≡ elements_text es values ++ last.text) × Anything values × ElementsFit es values
        → (r.text ≡ elements_text (e ∷ es) x ++ s.text) × Anything x × ElementsFit (e ∷ es) x
    only r mid s last x value values both one two =
        let same : value ∷ values ≡ x = ap (λ (p : List Number × Rest). p.0) both in
        let end : last.text ≡ s.text = ap (λ (p : List Number × Rest). p.1.text) both in
        let whole : r.text ≡ elements_text (e ∷ es) (value ∷ values) ++ s.text =
        one.0 ∙ ap (λ (t : List ℕ). element_text e value ++ t) two.0 ∙ ap (λ (t : List ℕ). element_text e value ++ (elements_text es values ++ t)) end
        ∙ sym (append_assoc (element_text e value) (elements_text es values) s.text) in
        let fit : ElementsFit (e ∷ es) (value ∷ values) = (omega (arith, two.2.0), rw one.2 two.2.1) in
        (subst (λ (xs : List Number). r.text ≡ elements_text (e ∷ es) xs ++ s.text) same whole, tt, subst (ElementsFit (e ∷ es)) same fit)

    again : (x : List Number) (more : List ℕ) (at : ℕ) → length x ≡ length (e ∷ es) → list_all is_decimal x ≡ true
        → (k : ℕ) × ((entry_said e.0 (element_said e.1) >>= λ value. elements_said es >>= λ values. give (value ∷ values)) (record { text = elements_text (e ∷ es) x ++ more; line = at }) ≡ Ok (x, record { text = more; line = k }))
    again [] more at long all = absurd (omega arith)
    again (v ∷ x) more at long all =
        let parts = and_parts (is_decimal v) (list_all is_decimal x) all in
        let one = first.again v (elements_text es x ++ more) at tt parts.0 in
        let two = rest.again x more one.0 tt (omega arith, parts.1) in (
          two.0,
          ap (λ (t : List ℕ). (entry_said e.0 (element_said e.1) >>= λ value. elements_said es >>= λ values. give (value ∷ values)) (record { text = t; line = at }))
              (append_assoc (element_text e v) (elements_text es x) more)
              ∙ ap (λ (q : Result (Number × Rest) Fault). and_then q (λ y. (elements_said es >>= λ values. give (y.0 ∷ values)) y.1)) one.1
              ∙ ap (λ (q : Result (List Number × Rest) Fault). and_then q (λ y. give (v ∷ y.0) y.1)) two.1,
        )

elements_exact : (es : List (List ℕ × List ℕ)) → are_free es ≡ true → IsExact (elements_said es) (elements_text es) Anything (ElementsFit es)
elements_exact [] free = no_elements
elements_exact (e ∷ es) free =
    let here = and_parts (not (list_any is_feed e.0) && not (list_any is_feed e.1)) (are_free es) free in
    let names = and_parts (not (list_any is_feed e.0)) (not (list_any is_feed e.1)) here.0 in
    more_elements e es (element_exact e (not-true (list_any is_feed e.0) names.0) (not-true (list_any is_feed e.1) names.1)) (elements_exact es here.1)

-- ---- one object
abbrev object_of : PlainSide → Object
object_of s = make_object s.id s.name s.designator s.file s.frame

abbrev make_side : Object → Vector → Vector → ℕ → List Number → PlainSide
make_side o place rate epoch values = record {
  id = o.id;
  name = o.name;
  designator = o.designator;
  file = o.file;
  frame = o.frame;
  place = place;
  rate = rate;
  epoch = epoch;
  values = values;
}

abbrev comment_text : ℕ → List ℕ
comment_text epoch = line (codes "COMMENT COVARIANCE EPOCH " ++ epoch_of epoch)

abbrev place_text : Vector → List ℕ
place_text v = vector_text (codes "X") (codes "Y") (codes "Z") (codes "km") v

abbrev rate_text : Vector → List ℕ
rate_text v = vector_text (codes "X_DOT") (codes "Y_DOT") (codes "Z_DOT") (codes "km/s") v

abbrev side_lines : List ℕ → PlainSide → List ℕ
side_lines called s =
    object_lines called (object_of s) ++ (place_text s.place ++ (rate_text s.rate ++ (comment_text s.epoch ++ (elements_text elements s.values ++ []))))

abbrev SideFits : PlainSide → Type 0
SideFits s = ObjectFits (object_of s) × (IsShort s.place × (IsShort s.rate × ((is_tick s.epoch ≡ true) × (ElementsFit elements s.values × Anything s))))

abbrev IsSideOf : Object → Vector → Vector → ℕ → List Number → PlainSide → Type 0
IsSideOf o p r m v s = (s.values ≡ v) × ((s.epoch ≡ m) × ((s.rate ≡ r) × ((s.place ≡ p) × ((object_of s ≡ o) × Anything s))))

sixteen : (a b c d e f g h i x y z u v w m n : List ℕ)
    → (a ++ (b ++ (c ++ (d ++ (e ++ (f ++ (g ++ (h ++ (i ++ []))))))))) ++ ((x ++ (y ++ (z ++ []))) ++ ((u ++ (v ++ (w ++ []))) ++ (m ++ (n ++ []))))
    ≡ a ++ b ++ c ++ d ++ e ++ f ++ g ++ h ++ i ++ (x ++ y ++ z ++ u ++ v ++ w) ++ (m ++ n)
sixteen a b c d e f g h i x y z u v w m n = simp (append_assoc, append-nil)

side_told : (called : List ℕ) (s : PlainSide) → side_lines called s ≡ side_text called s
unfolding side_text object_text state_text covariance_text
side_told called s =
    sixteen (entry (codes "OBJECT") called) (entry (codes "OBJECT_DESIGNATOR") s.id) (entry (codes "CATALOG_NAME") (codes "OEM")) (entry (codes "OBJECT_NAME") s.name)
    (entry (codes "INTERNATIONAL_DESIGNATOR") s.designator) (entry (codes "EPHEMERIS_NAME") s.file) (entry (codes "COVARIANCE_METHOD") (codes "CALCULATED"))
    (entry (codes "MANEUVERABLE") (codes "N/A")) (entry (codes "REF_FRAME") (frame_text s.frame))
    (quantity (codes "X") (kilometres s.place.x) (codes "km")) (quantity (codes "Y") (kilometres s.place.y) (codes "km")) (quantity (codes "Z") (kilometres s.place.z) (codes "km"))
    (quantity (codes "X_DOT") (kilometres s.rate.x) (codes "km/s")) (quantity (codes "Y_DOT") (kilometres s.rate.y) (codes "km/s")) (quantity (codes "Z_DOT") (kilometres s.rate.z) (codes "km/s"))
    (comment_text s.epoch) (elements_text elements s.values)

pub side_exact : (called : List ℕ) → list_any is_feed called ≡ false → IsExact (side_said called) (side_text called) Anything IsSide
unfolding side_said
side_exact called free =
    retold _ (side_lines called) (side_text called) _ _ (λ s same. side_told called s) (
    refitted _ _ _ SideFits IsSide to from (
    in_order _ _ _ _ object_of _ Anything _ (object_exact called free) (λ o of.
    in_order _ _ place_text _ (λ s. s.place) IsShort (λ s. (object_of s ≡ o) × Anything s) _ place_exact (λ p pf.
    in_order _ _ rate_text _ (λ s. s.rate) IsShort (λ s. (s.place ≡ p) × ((object_of s ≡ o) × Anything s)) _ rate_exact (λ r rf.
    in_order _ _ comment_text _ (λ s. s.epoch) (λ m. is_tick m ≡ true) (λ s. (s.rate ≡ r) × ((s.place ≡ p) × ((object_of s ≡ o) × Anything s))) _ comment_exact (λ m mf.
    in_order _ _ (elements_text elements) _ (λ s. s.values) (ElementsFit elements) (λ s. (s.epoch ≡ m) × ((s.rate ≡ r) × ((s.place ≡ p) × ((object_of s ≡ o) × Anything s)))) _ (elements_exact elements refl) (λ v vf.
    given (make_side o p r m v) (IsSideOf o p r m v) (refl, (refl, (refl, (refl, (refl, tt))))) (alone o p r m v))))))))
  where
    comment_exact : IsExact (line_said (codes "COMMENT COVARIANCE EPOCH ") epoch_said) comment_text Anything (λ m. is_tick m ≡ true)
    comment_exact = line_exact (codes "COMMENT COVARIANCE EPOCH ") epoch_said epoch_of (λ m. is_tick m ≡ true) refl epoch_law

    alone : (o : Object) (p r : Vector) (m : ℕ) (v : List Number) (s : PlainSide) → IsSideOf o p r m v s → make_side o p r m v ≡ s
    alone o p r m v s is =
        ap (λ (k : Object). make_side k p r m v) (sym is.1.1.1.1.0) ∙ ap (λ (k : Vector). make_side (object_of s) k r m v) (sym is.1.1.1.0)
        ∙ ap (λ (k : Vector). make_side (object_of s) s.place k m v) (sym is.1.1.0) ∙ ap (λ (k : ℕ). make_side (object_of s) s.place s.rate k v) (sym is.1.0)
        ∙ ap (λ (k : List Number). make_side (object_of s) s.place s.rate s.epoch k) (sym is.0)

    to : (s : PlainSide) → SideFits s → IsSide s
    to s f = record {
      designated = f.0.0;
      named = f.0.1.0;
      international = f.0.1.1.0;
      from = f.0.1.1.1.0;
      placed = f.1.0;
      moved = f.1.1.0;
      at = f.1.1.1.0;
      whole = f.1.1.1.1.0.0;
      elements = f.1.1.1.1.0.1;
    }

    from : (s : PlainSide) → IsSide s → SideFits s
    from s f = ((f.designated, (f.named, (f.international, (f.from, (tt, tt))))), (f.placed, (f.moved, (f.at, ((f.whole, f.elements), tt)))))

-- ---- the whole message
abbrev pub front_of : PlainMessage → Front
front_of m = make_front m.stamp m.tca m.miss

abbrev pub period_of : PlainMessage → Period
period_of m = make_period m.start m.stop

abbrev heading_of : PlainMessage → Heading
heading_of m = heading_by (front_of m) (period_of m)

abbrev make_message : Heading → PlainSide → PlainSide → PlainMessage
make_message h first second = record { stamp = h.stamp; tca = h.tca; miss = h.miss; start = h.start; stop = h.stop; object1 = first; object2 = second }

abbrev message_lines : PlainMessage → List ℕ
message_lines m = heading_parts (heading_of m) ++ (side_text (codes "OBJECT1") m.object1 ++ (side_text (codes "OBJECT2") m.object2 ++ []))

abbrev MessageFits : PlainMessage → Type 0
MessageFits m = HeadingFits (heading_of m) × (IsSide m.object1 × (IsSide m.object2 × Anything m))

abbrev IsMessageOf : Heading → PlainSide → PlainSide → PlainMessage → Type 0
IsMessageOf h a b m = (m.object2 ≡ b) × ((m.object1 ≡ a) × ((heading_of m ≡ h) × Anything m))

six : (a b c d e f : List ℕ) → (a ++ (b ++ (c ++ (d ++ [])))) ++ (e ++ (f ++ [])) ≡ a ++ b ++ c ++ d ++ e ++ f
six a b c d e f = simp (append_assoc, append-nil)

pub front_told : (m : PlainMessage) → front_parts (front_of m) ≡ front_text m
unfolding front_text
front_told m =
    six (entry (codes "CCSDS_CDM_VERS") (codes "1.0")) (entry (codes "CREATION_DATE") (epoch_of m.stamp.created)) (entry (codes "ORIGINATOR") m.stamp.originator) (id_text m.stamp)
    (entry (codes "TCA") (epoch_of m.tca)) (quantity (codes "MISS_DISTANCE") (metres (pos m.miss)) (codes "m"))

pub period_told : (m : PlainMessage) → period_parts (period_of m) ≡ period_text m
unfolding period_text
period_told m = ap (λ (t : List ℕ). entry (codes "START_SCREEN_PERIOD") (epoch_of m.start) ++ t) (append-nil (entry (codes "STOP_SCREEN_PERIOD") (epoch_of m.stop)))

four : (f p x y : List ℕ) → (f ++ (p ++ [])) ++ (x ++ (y ++ [])) ≡ (f ++ p) ++ x ++ y
four f p x y = simp (append_assoc, append-nil)

message_told : (m : PlainMessage) → message_lines m ≡ text_of m
unfolding text_of heading_text
message_told m =
    let x = side_text (codes "OBJECT1") m.object1 in
    let y = side_text (codes "OBJECT2") m.object2 in
    four (front_parts (front_of m)) (period_parts (period_of m)) x y
    ∙ ap (λ (t : List ℕ). (t ++ period_parts (period_of m)) ++ x ++ y) (front_told m)
    ∙ ap (λ (t : List ℕ). (front_text m ++ t) ++ x ++ y) (period_told m)

pub message_fits : (m : PlainMessage) → FrontFits (front_of m) → PeriodFits (period_of m) → IsSide m.object1 → IsSide m.object2 → Fits m
message_fits m f p first second = record { stamp_fits = f.0; near = f.1.0; missed = f.1.1.0; begun = p.0; ended = p.1.0; first = first; second = second }

pub front_fits : (m : PlainMessage) → Fits m → FrontFits (front_of m)
front_fits m f = (f.stamp_fits, (f.near, (f.missed, tt)))

pub period_fits : (m : PlainMessage) → Fits m → PeriodFits (period_of m)
period_fits m f = (f.begun, (f.ended, tt))

message_exact : IsExact message_said text_of Anything Fits
unfolding message_said
message_exact =
    retold _ message_lines text_of _ _ (λ m same. message_told m) (
    refitted _ _ _ MessageFits Fits to from (
    in_order _ _ _ _ heading_of _ Anything _ heading_exact (λ h hf.
    in_order _ _ _ _ (λ m. m.object1) _ (λ m. (heading_of m ≡ h) × Anything m) _ (side_exact (codes "OBJECT1") refl) (λ a af.
    in_order _ _ _ _ (λ m. m.object2) _ (λ m. (m.object1 ≡ a) × ((heading_of m ≡ h) × Anything m)) _ (side_exact (codes "OBJECT2") refl) (λ b bf.
    given (make_message h a b) (IsMessageOf h a b) (refl, (refl, (refl, tt))) (alone h a b))))))
  where
    alone : (h : Heading) (a b : PlainSide) (m : PlainMessage) → IsMessageOf h a b m → make_message h a b ≡ m
    alone h a b m is =
        ap (λ (k : Heading). make_message k a b) (sym is.1.1.0) ∙ ap (λ (k : PlainSide). make_message (heading_of m) k b) (sym is.1.0)
        ∙ ap (λ (k : PlainSide). make_message (heading_of m) m.object1 k) (sym is.0)

    to : (m : PlainMessage) → MessageFits m → Fits m
    to m f = message_fits m f.0.0 f.0.1.0 f.1.0 f.1.1.0

    from : (m : PlainMessage) → Fits m → MessageFits m
    from m f = ((front_fits m f, (period_fits m f, tt)), (f.first, (f.second, tt)))

-- ---- a text that is read
none_left : (text : List ℕ) → is_none_left text ≡ true → text ≡ []
none_left [] h = refl
none_left (c ∷ text) h = absurd cc

pub ended_is : {A : Type 0} (x : A × Rest) (m : A) → ended x ≡ Ok m → (x.0 ≡ m) × (x.1.text ≡ [])
ended_is {A} x m h = by_text (is_none_left x.1.text) refl h
  where
    by_text : (b : Bool) → is_none_left x.1.text ≡ b → (if b then Ok x.0 else fault_at x.1.line causes.End) ≡ Ok m → (x.0 ≡ m) × (x.1.text ≡ [])
    by_text true e h = (ok_is x.0 m (Ok x.0) refl h, none_left x.1.text e)
    by_text false e h = absurd cc

-- what is read is the text of what it gives, which fits
pub reading_only : (text : List ℕ) (m : PlainMessage) → reading text ≡ Ok m → (text ≡ text_of m) × Fits m
unfolding reading
reading_only text m h =
    let found = stepped (message_said (record { text = text; line = 1 })) ended m h in
    let end = ended_is found.0 m found.2 in
    let exact = message_exact.only (record { text = text; line = 1 }) found.0.1 found.0.0 found.1 in (
      exact.0 ∙ ap (λ (t : List ℕ). text_of found.0.0 ++ t) end.1 ∙ append-nil (text_of found.0.0) ∙ ap text_of end.0,
      subst Fits end.0 exact.2,
    )

-- the text of each message that fits is read as it
pub reading_again : (m : PlainMessage) → Fits m → reading (text_of m) ≡ Ok m
unfolding reading
reading_again m fit =
    let found = message_exact.again m [] 1 tt fit in
    ap (λ (t : List ℕ). and_then (message_said (record { text = t; line = 1 })) ended) (sym (append-nil (text_of m)))
    ∙ ap (λ (q : Result (PlainMessage × Rest) Fault). and_then q ended) found.1
