-- The ends of the window, where both stand.
use Rattle.std.proofs.Common.{◌≡◌, ℕ, ◌+◌, List, [], ◌∷◌, Bool, true, false, Option, Some, None, Result, Ok, Err, cond, refl, sym, ap, subst, ◌∙◌, arith}
use Rattle.std.specs.Prelude.{codes, is_some, nat_le, option_map}
use Rattle.std.proofs.lemmas.Bool.{and_parts}
use Rattle.std.proofs.lemmas.List.Sums.{sum_by-cons}
use Rattle.cj_base.proofs.LogicLemmas.{some_is}
use Rattle.cj_epoch.specs.Reading.{reading_of}
use Rattle.cj_epoch.specs.declared.fault.EpochFault.{EpochFault}
use Rattle.cj_formats.specs.declared.cert_format.CertFormat.{CertFormat}
use Rattle.cj_words.specs.declared.option.Opt.{Opt}
use Rattle.cj_words.specs.declared.option.Opt.TheVariants.{From, To, Originator, Cells, AsHermite3, Sizes, Primaries, CertVersion as Version, Rtn, Coverage, MustCover, Large}
use Rattle.cj_words.specs.declared.option.UsageFault.{UsageFault}
use Rattle.cj_words.specs.Commands.{PlainScreening, screening_of, workers_of}
use Rattle.cj_words.specs.Limits.{limits_of}
use Rattle.cj_words.specs.Options.{Given, asks_brief, count_of, has_ends, is_given, is_named, value_of}
use Rattle.cj_words.specs.Settings.{◌>>=◌, PlainSettings, are_in_order, epoch_or, format_or, in_range, name_or, not_before, number_or, originator_or, sized_of, suffix_of, threshold_of, unsized_of}

-- an option that stands has a value
pub given_value : (option : Opt) (gs : List Given) → is_given option gs ≡ true → is_some (value_of option gs) ≡ true
given_value option [] given = absurd cc
given_value option (g ∷ gs) given = decided (is_named option g) refl (given_value option gs)
  where
    counted : count_of option (g ∷ gs) ≡ cond (is_named option g) 1 0 + count_of option gs
    counted = sum_by-cons (λ x. cond (is_named option x) 1 0) g gs

    same : (b : Bool) → b ≡ false → count_of option (g ∷ gs) ≡ cond b 1 0 + count_of option gs → count_of option (g ∷ gs) ≡ count_of option gs
    same true is more = absurd cc
    same false is more = omega (arith, more)

    decided : (b : Bool) → is_named option g ≡ b → (is_given option gs ≡ true → is_some (value_of option gs) ≡ true) → is_some (value_of option (g ∷ gs)) ≡ true
    decided true named later = rw named refl
    decided false named later =
        rw named (later (ap (nat_le 1) (sym (same (is_named option g) named counted)) ∙ given))

-- what a first step gives where all steps give something
step_of : {A B : Type 0} (r : Result A UsageFault) (f : A → Result B UsageFault) (b : B) → (r >>= f) ≡ Ok b → (a : A) × (r ≡ Ok a) × (f a ≡ Ok b)
step_of (Ok a) f b is = (a, refl, is)
step_of (Err fault) f b is = absurd cc

ok_is : {A : Type 0} (x y : A) → ◌≡◌ {A = Result A UsageFault} (Ok x) (Ok y) → x ≡ y
ok_is x y h = cc

range_of : {A : Type 0} (option : Opt) (o : Option A) (a : A) → in_range option o ≡ Ok a → o ≡ Some a
range_of option None a is = absurd cc
range_of option (Some x) a is = ap Some (ok_is x a is)

-- an epoch that is given is a tick
epoch_given : (value : Option (List ℕ)) (end : Option ℕ) → is_some value ≡ true → epoch_or value ≡ Some end → is_some end ≡ true
epoch_given None end given is = absurd cc
epoch_given (Some text) end given is = decided (reading_of text) refl
  where
    decided : (r : Result ℕ EpochFault) → reading_of text ≡ r → is_some end ≡ true
    decided (Ok tick) said =
        let one : epoch_or (Some text) ≡ Some (Some tick) = rw said refl in
        ap is_some (some_is end (Some tick) (sym is ∙ one))
    decided (Err fault) said = let none : epoch_or (Some text) ≡ None = rw said refl in absurd cc

-- and so is one that is not before another
later_given : (from : Option ℕ) (read : Option (Option ℕ)) (end : Option ℕ) → not_before from read ≡ Some end → read ≡ Some end
later_given from None end is = absurd cc
later_given from (Some to) end is = decided (are_in_order from to) refl
  where
    decided : (b : Bool) → are_in_order from to ≡ b → Some to ≡ Some end
    decided true order = let one : not_before from (Some to) ≡ Some to = rw order refl in sym one ∙ is
    decided false order = let none : not_before from (Some to) ≡ None = rw order refl in absurd cc

-- settings have the ends that are read
ends_made : (begin end : Option (List ℕ)) (suffix : Result (List ℕ) UsageFault) (make : Option ℕ → Option ℕ → List ℕ → PlainSettings) (s : PlainSettings)
    → ((f t : Option ℕ) (x : List ℕ) → (make f t x).from ≡ f) → ((f t : Option ℕ) (x : List ℕ) → (make f t x).to ≡ t) → is_some begin ≡ true → is_some end ≡ true
    → (in_range From (epoch_or begin) >>= λ from. in_range To (not_before from (epoch_or end)) >>= λ to. suffix >>= λ x. Ok (make from to x)) ≡ Ok s
    → (is_some s.from ≡ true) × (is_some s.to ≡ true)
ends_made begin end suffix make s froms tos begins ends is =
    let from = step_of (in_range From (epoch_or begin)) (λ f. in_range To (not_before f (epoch_or end)) >>= λ t. suffix >>= λ x. Ok (make f t x)) s is in
    let to = step_of (in_range To (not_before from.0 (epoch_or end))) (λ t. suffix >>= λ x. Ok (make from.0 t x)) s from.2 in
    let last = step_of suffix (λ x. Ok (make from.0 to.0 x)) s to.2 in
    let whole = ok_is (make from.0 to.0 last.0) s last.2 in
    let first = epoch_given begin from.0 begins (range_of From (epoch_or begin) from.0 from.1) in
    let second = epoch_given end to.0 ends (later_given from.0 (epoch_or end) to.0 (range_of To (not_before from.0 (epoch_or end)) to.0 to.1)) in (
      ap (λ (some : PlainSettings). is_some some.from) (sym whole) ∙ ap (λ (o : Option ℕ). is_some o) (froms from.0 to.0 last.0) ∙ first,
      ap (λ (some : PlainSettings). is_some some.to) (sym whole) ∙ ap (λ (o : Option ℕ). is_some o) (tos from.0 to.0 last.0) ∙ second,
    )

-- both ends are given
abbrev HasEnds : PlainSettings → Type 0
HasEnds s = (is_some s.from ≡ true) × (is_some s.to ≡ true)

unsized_ends : (threshold : ℕ) (gs : List Given) (s : PlainSettings) → is_some (value_of From gs) ≡ true → is_some (value_of To gs) ≡ true
    → unsized_of threshold gs ≡ Ok s → HasEnds s
unfolding unsized_of
unsized_ends threshold gs s begins ends is =
    ends_made (value_of From gs) (value_of To gs) (suffix_of gs)
    (λ from to suffix. record {
      threshold = threshold;
      from = from;
      to = to;
      suffix = suffix;
      as_hermite3 = is_given AsHermite3 gs;
      sizes = None;
      primaries = None;
      coverage = is_given Coverage gs;
      must_cover = is_given MustCover gs;
      large = is_given Large gs;
      limits = limits_of (is_given Large gs);
    })
    s
    (λ f t x. refl) (λ f t x. refl) begins ends is

sized_ends : (some s : PlainSettings) (gs : List Given) → HasEnds some → sized_of some gs ≡ Ok s → HasEnds s
unfolding sized_of
sized_ends some s gs has is =
    let made : Option (List ℕ) → Option (List ℕ) → PlainSettings = λ sizes primaries. record some { sizes = sizes; primaries = primaries } in
    let read : Result (Option (List ℕ)) UsageFault = in_range Primaries (name_or (value_of Primaries gs)) in
    let sizes = step_of (in_range Sizes (name_or (value_of Sizes gs))) (λ x. read >>= λ y. Ok (made x y)) s is in
    let primaries = step_of read (λ y. Ok (made sizes.0 y)) s sizes.2 in
    let whole = ok_is (made sizes.0 primaries.0) s primaries.2 in
    (ap (λ (x : PlainSettings). is_some x.from) (sym whole) ∙ has.0, ap (λ (x : PlainSettings). is_some x.to) (sym whole) ∙ has.1)

settings_of : (P : PlainSettings → Type 0) (made s : PlainScreening) (x : PlainSettings) → made ≡ s → x ≡ made.settings → P x → P s.settings
settings_of P made s x is same here = subst (λ (some : PlainScreening). P some.settings) is (subst P same here)

-- what holds of the settings of a screening, where it holds of what they are made of
settings_made : (P : PlainSettings → Type 0) (threshold workers : Result ℕ UsageFault) (unsized : ℕ → Result PlainSettings UsageFault) (originator : Result (List ℕ) UsageFault)
    (cells : PlainSettings → Result ℕ UsageFault) (sized : PlainSettings → Result PlainSettings UsageFault) (format : Result CertFormat UsageFault)
    (make : PlainSettings → ℕ → List ℕ → ℕ → CertFormat → PlainScreening) (s : PlainScreening)
    → ((x : PlainSettings) (w : ℕ) (o : List ℕ) (n : ℕ) (k : CertFormat) → x ≡ (make x w o n k).settings)
    → ((t : ℕ) (x : PlainSettings) → unsized t ≡ Ok x → P x) → ((x y : PlainSettings) → P x → sized x ≡ Ok y → P y)
    → (threshold >>= λ t. workers >>= λ w. unsized t >>= λ x. originator >>= λ o. cells x >>= λ n. sized x >>= λ y. format >>= λ k. Ok (make y w o n k)) ≡ Ok s → P s.settings
settings_made P threshold workers unsized originator cells sized format make s kept first more is =
    let a = step_of threshold (λ t. workers >>= λ w. unsized t >>= λ x. originator >>= λ o. cells x >>= λ n. sized x >>= λ y. format >>= λ k. Ok (make y w o n k)) s is in
    let b = step_of workers (λ w. unsized a.0 >>= λ x. originator >>= λ o. cells x >>= λ n. sized x >>= λ y. format >>= λ k. Ok (make y w o n k)) s a.2 in
    let c = step_of (unsized a.0) (λ x. originator >>= λ o. cells x >>= λ n. sized x >>= λ y. format >>= λ k. Ok (make y b.0 o n k)) s b.2 in
    let d = step_of originator (λ o. cells c.0 >>= λ n. sized c.0 >>= λ y. format >>= λ k. Ok (make y b.0 o n k)) s c.2 in
    let e = step_of (cells c.0) (λ n. sized c.0 >>= λ y. format >>= λ k. Ok (make y b.0 d.0 n k)) s d.2 in
    let f = step_of (sized c.0) (λ y. format >>= λ k. Ok (make y b.0 d.0 e.0 k)) s e.2 in
    let g = step_of format (λ k. Ok (make f.0 b.0 d.0 e.0 k)) s f.2 in
    settings_of P (make f.0 b.0 d.0 e.0 g.0) s f.0 (ok_is (make f.0 b.0 d.0 e.0 g.0) s g.2) (kept f.0 b.0 d.0 e.0 g.0) (more c.0 f.0 (first a.0 c.0 c.1) f.1)

-- a screening whose ends stand has both
pub screening_ends : (gs : List Given) (s : PlainScreening) → has_ends gs ≡ true → screening_of gs ≡ Ok s → HasEnds s.settings
unfolding screening_of
screening_ends gs s has is =
    let given = and_parts (is_given From gs) (is_given To gs) has in
    settings_made HasEnds (threshold_of gs) (workers_of gs) (λ t. unsized_of t gs) (in_range Originator (originator_or (codes "CONJ") (value_of Originator gs)))
    (λ x. in_range Cells (number_or 1 x.limits.leaves x.limits.leaves (value_of Cells gs))) (λ x. sized_of x gs) (in_range Version (format_or (asks_brief gs) (value_of Version gs)))
    (λ x w o n k. record { settings = x; workers = w; originator = o; cells = n; format = k; rtn = is_given Rtn gs }) s (λ x w o n k. refl)
    (λ t x made. unsized_ends t gs x (given_value From gs given.0) (given_value To gs given.1) made) (λ x y both made. sized_ends x y gs both made) is

pub some_mapped : {A B : Type 0} (f : A → B) (o : Option A) → is_some (option_map f o) ≡ is_some o
some_mapped f None = refl
some_mapped f (Some a) = refl
