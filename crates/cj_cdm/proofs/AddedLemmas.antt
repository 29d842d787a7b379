-- Lines that are put behind the first lines of a text.
use Rattle.std.proofs.Common.{◌≡◌, ℕ, zero, suc, ◌+◌, ◌-◌, ◌<◌, ◌≤◌, Bool, true, false, cond, List, [], ◌∷◌, ◌++◌, length, take, drop, ap, sym, ◌∙◌, refl, arith, append_assoc, append-nil, Some, None, pos}
use Rattle.std.specs.Prelude.{codes}
use Rattle.std.specs.List.{after_first, before_first, count_by, list_any, position}
use Rattle.std.proofs.Math.Seq.{take-add}
use Rattle.std.proofs.lemmas.Bool.{or_parts}
use Rattle.std.proofs.lemmas.List.{drop-drop, length-append, length-take-le, take_at}
use Rattle.std.proofs.lemmas.List.Sums.{sum_by-append, sum_by-cons}
use Rattle.cj_base.specs.Bytes.{is_feed}
use Rattle.cj_epoch.specs.Written.{epoch_of}
use Rattle.cj_kvn.specs.Entries.{line}
use Rattle.cj_kvn.proofs.LineLemmas.{found, not_found}
use Rattle.cj_kvn.proofs.ListLemmas.{after_no, after_yes, any_no}
use Rattle.cj_rtn.specs.declared.relative.Rtn.{Rtn}
use Rattle.cj_cdm.specs.Fits.{Fits}
use Rattle.cj_cdm.specs.Messages.{PlainMessage}
use Rattle.cj_cdm.specs.Relative.{added, behind_lines, front_lines, relative_text, text_with}
use Rattle.cj_cdm.specs.Texts.{front_text, heading_text, metres, number_text, period_text, side_text, text_of}
use Rattle.cj_cdm.proofs.LineLemmas.{before_place, behind_place, cut_at, line_split}
use Rattle.cj_cdm.proofs.FigureLemmas.{id_law, miss_law}
use Rattle.cj_cdm.proofs.ValueLemmas.{epoch_law, free_joined, originator_law}

-- ---- lines are taken off a text
-- the first n lines of a text, and what stands behind them
record IsSplit (n : ℕ) (front behind text : List ℕ) : Type 0 where
  before : front_lines n text ≡ front
  after : behind_lines n text ≡ behind

split_none : (text : List ℕ) → IsSplit 0 [] text text
split_none text = record { before = refl; after = refl }

split_more : (n : ℕ) (t front behind text : List ℕ) → list_any is_feed t ≡ false → IsSplit n front behind text → IsSplit (suc n) (line t ++ front) behind (line t ++ text)
split_more n t front behind text none split =
    let whole : line t ++ text ≡ t ++ 10 ∷ text = append_assoc t (10 ∷ []) text in
    let cut = cut_at is_feed 10 t text refl none in
    record {
      before = ap (front_lines (suc n)) whole ∙ ap (λ (u : List ℕ). u ++ 10 ∷ front_lines n (after_first is_feed (t ++ 10 ∷ text))) cut.before
          ∙ ap (λ (u : List ℕ). t ++ 10 ∷ front_lines n u) cut.after ∙ ap (λ (u : List ℕ). t ++ 10 ∷ u) split.before ∙ sym (append_assoc t (10 ∷ []) front);
      after = ap (behind_lines (suc n)) whole ∙ ap (behind_lines n) cut.after ∙ split.after;
    }

six_lines : (a b c d e f p x y : List ℕ) → ((a ++ b ++ c ++ d ++ e ++ f) ++ p) ++ x ++ y ≡ a ++ (b ++ (c ++ (d ++ (e ++ (f ++ (p ++ x ++ y))))))
six_lines a b c d e f p x y = simp append_assoc

split_six : (a b c d e f behind : List ℕ) → list_any is_feed a ≡ false → list_any is_feed b ≡ false → list_any is_feed c ≡ false → list_any is_feed d ≡ false
    → list_any is_feed e ≡ false → list_any is_feed f ≡ false
    → IsSplit 6 (line a ++ (line b ++ (line c ++ (line d ++ (line e ++ (line f ++ [])))))) behind (line a ++ (line b ++ (line c ++ (line d ++ (line e ++ (line f ++ behind))))))
split_six a b c d e f behind fa fb fc fd fe ff =
    split_more 5 a _ behind _ fa (split_more 4 b _ behind _ fb (split_more 3 c _ behind _ fc (split_more 2 d _ behind _ fd (split_more 1 e _ behind _ fe (split_more 0 f [] behind behind ff (split_none behind))))))

joined_six : (a b c d e f r p x y : List ℕ) → (a ++ (b ++ (c ++ (d ++ (e ++ (f ++ [])))))) ++ r ++ (p ++ x ++ y) ≡ (a ++ b ++ c ++ d ++ e ++ f) ++ r ++ p ++ x ++ y
joined_six a b c d e f r p x y = simp (append_assoc, append-nil)

-- a key with its value is on one line
entry_free : (key value : List ℕ) → list_any is_feed key ≡ false → list_any is_feed value ≡ false → list_any is_feed (key ++ codes " = " ++ value) ≡ false
entry_free key value first second = free_joined (key ++ codes " = ") value (free_joined key (codes " = ") first refl) second

-- lines behind the first six of a message stand behind its miss distance
pub added_is : (x : Rtn) (m : PlainMessage) → Fits m → added x (text_of m) ≡ text_with (Some x) m
unfolding added text_with text_of heading_text front_text
added_is x m fit =
    let a = codes "CCSDS_CDM_VERS" ++ codes " = " ++ codes "1.0" in
    let b = codes "CREATION_DATE" ++ codes " = " ++ epoch_of m.stamp.created in
    let c = codes "ORIGINATOR" ++ codes " = " ++ m.stamp.originator in
    let id = m.stamp.originator ++ codes "_" ++ number_text m.stamp.number in
    let d = codes "MESSAGE_ID" ++ codes " = " ++ id in
    let e = codes "TCA" ++ codes " = " ++ epoch_of m.tca in
    let miss = metres (pos m.miss) ++ codes " [" ++ codes "m" ++ codes "]" in
    let f = codes "MISS_DISTANCE" ++ codes " = " ++ miss in
    let p = period_text m in
    let o = side_text (codes "OBJECT1") m.object1 in
    let q = side_text (codes "OBJECT2") m.object2 in
    let by = originator_law.lone m.stamp.originator fit.stamp_fits.by in
    let split = split_six a b c d e f (p ++ o ++ q) refl (entry_free (codes "CREATION_DATE") (epoch_of m.stamp.created) refl (epoch_law.lone m.stamp.created fit.stamp_fits.made))
    (entry_free (codes "ORIGINATOR") m.stamp.originator refl by) (entry_free (codes "MESSAGE_ID") id refl ((id_law m.stamp.originator by).lone m.stamp.number fit.stamp_fits.numbered))
    (entry_free (codes "TCA") (epoch_of m.tca) refl (epoch_law.lone m.tca fit.near)) (entry_free (codes "MISS_DISTANCE") miss refl (miss_law.lone m.miss fit.missed)) in
    let whole = six_lines (line a) (line b) (line c) (line d) (line e) (line f) p o q in
    ap (λ (t : List ℕ). front_lines 6 t ++ relative_text x ++ behind_lines 6 t) whole
    ∙ ap (λ (t : List ℕ). t ++ relative_text x ++ behind_lines 6 (line a ++ (line b ++ (line c ++ (line d ++ (line e ++ (line f ++ (p ++ o ++ q)))))))) split.before
    ∙ ap (λ (t : List ℕ). (line a ++ (line b ++ (line c ++ (line d ++ (line e ++ (line f ++ [])))))) ++ relative_text x ++ t) split.after
    ∙ joined_six (line a) (line b) (line c) (line d) (line e) (line f) (relative_text x) p o q

-- ---- how many lines end in a text
abbrev feeds : List ℕ → ℕ
feeds text = count_by is_feed text

feeds_joined : (a b : List ℕ) → feeds (a ++ b) ≡ feeds a + feeds b
feeds_joined a b = sum_by-append _ a b

feeds_of_line : (t more : List ℕ) → 1 + feeds more ≤ feeds (line t ++ more)
feeds_of_line t more =
    let all = feeds_joined (line t) more in
    let here = feeds_joined t (10 ∷ []) in
    let one : feeds (10 ∷ []) ≡ 1 = refl in
    omega (arith, all, here, one)

pub feeds_in_text : (m : PlainMessage) → 6 ≤ feeds (text_of m)
unfolding text_of heading_text front_text
feeds_in_text m =
    let a = codes "CCSDS_CDM_VERS" ++ codes " = " ++ codes "1.0" in
    let b = codes "CREATION_DATE" ++ codes " = " ++ epoch_of m.stamp.created in
    let c = codes "ORIGINATOR" ++ codes " = " ++ m.stamp.originator in
    let d = codes "MESSAGE_ID" ++ codes " = " ++ m.stamp.originator ++ codes "_" ++ number_text m.stamp.number in
    let e = codes "TCA" ++ codes " = " ++ epoch_of m.tca in
    let f = codes "MISS_DISTANCE" ++ codes " = " ++ metres (pos m.miss) ++ codes " [" ++ codes "m" ++ codes "]" in
    let p = period_text m in
    let o = side_text (codes "OBJECT1") m.object1 in
    let q = side_text (codes "OBJECT2") m.object2 in
    six_feeds a b c d e f (p ++ o ++ q) (text_of m) (six_lines (line a) (line b) (line c) (line d) (line e) (line f) p o q)
  where
    six_feeds : (a b c d e f more text : List ℕ) → text ≡ line a ++ (line b ++ (line c ++ (line d ++ (line e ++ (line f ++ more))))) → 6 ≤ feeds text
    six_feeds a b c d e f more text same =
        let g6 = line f ++ more in
        let g5 = line e ++ g6 in
        let g4 = line d ++ g5 in
        let g3 = line c ++ g4 in
        let g2 = line b ++ g3 in
        omega (arith, ap feeds same, feeds_of_line a g2, feeds_of_line b g3, feeds_of_line c g4, feeds_of_line d g5, feeds_of_line e g6, feeds_of_line f more)

-- ---- where the first lines of a text end
feeds_by : (c : ℕ) (text : List ℕ) (b : Bool) → is_feed c ≡ b → (list_any is_feed text ≡ true → feeds text ≡ 1 + feeds (after_first is_feed text))
    → list_any is_feed (c ∷ text) ≡ true → feeds (c ∷ text) ≡ 1 + feeds (after_first is_feed (c ∷ text))
feeds_by c text true feed more some = sum_by-cons _ c text ∙ ap (λ (b : Bool). cond b 1 0 + feeds text) feed ∙ ap (λ (t : List ℕ). 1 + feeds t) (sym (after_yes is_feed c text feed))
feeds_by c text false feed more some =
    let others : list_any is_feed text ≡ true = sym (any_no is_feed c text feed) ∙ some in
    let nothing : 0 + feeds text ≡ feeds text = omega arith in
    sum_by-cons _ c text ∙ ap (λ (b : Bool). cond b 1 0 + feeds text) feed ∙ nothing ∙ more others ∙ ap (λ (t : List ℕ). 1 + feeds t) (sym (after_no is_feed c text feed))

feeds_behind : (text : List ℕ) → list_any is_feed text ≡ true → feeds text ≡ 1 + feeds (after_first is_feed text)
feeds_behind [] some = absurd cc
feeds_behind (c ∷ text) some = feeds_by c text (is_feed c) refl (feeds_behind text) some

feeds_none : (text : List ℕ) → list_any is_feed text ≡ false → feeds text ≡ 0
feeds_none [] none = refl
feeds_none (c ∷ text) none =
    let parts = or_parts (is_feed c) (list_any is_feed text) none in
    let nothing : 0 + feeds text ≡ feeds text = omega arith in
    sum_by-cons _ c text ∙ ap (λ (b : Bool). cond b 1 0 + feeds text) parts.0 ∙ nothing ∙ feeds_none text parts.1

-- the first line, with its end
first_line : (text : List ℕ) (at : ℕ) → position is_feed text ≡ Some at → take (at + 1) text ≡ before_first is_feed text ++ 10 ∷ []
first_line text at h =
    let here = found is_feed text at h in
    let before = before_first is_feed text in
    let whole : text ≡ (before ++ 10 ∷ []) ++ after_first is_feed text = line_split text here.0 ∙ sym (append_assoc before (10 ∷ []) (after_first is_feed text)) in
    let short : at ≤ length text = omega (arith, here.2) in
    let long : length (before ++ 10 ∷ []) ≡ at + 1 = omega (arith, length-append before (10 ∷ []), ap length (before_place is_feed text at h), length-take-le at text short) in
    ap (take (at + 1)) whole ∙ take_at (before ++ 10 ∷ []) (after_first is_feed text) (at + 1) long

-- one line more: where it ends, what it leaves, and that a line ends there
pub front_more : (count at end : ℕ) (text : List ℕ) → 0 < count → position is_feed text ≡ Some at → take end (drop (at + 1) text) ≡ front_lines (count - 1) (drop (at + 1) text)
    → take (at + 1 + end) text ≡ front_lines count text
front_more zero at end text some h inner = absurd (omega (arith, some))
front_more (suc n) at end text some h inner =
    let before = before_first is_feed text in
    let less : suc n - 1 ≡ n = omega arith in
    take-add (at + 1) end text
    ∙ ap (λ (t : List ℕ). t ++ take end (drop (at + 1) text)) (first_line text at h)
    ∙ ap (λ (t : List ℕ). (before ++ 10 ∷ []) ++ t) (inner ∙ ap (λ k. front_lines k (drop (at + 1) text)) less)
    ∙ append_assoc before (10 ∷ []) (front_lines n (drop (at + 1) text))
    ∙ ap (λ (t : List ℕ). before ++ 10 ∷ front_lines n t) (behind_place is_feed text at h)

pub behind_more : (count at end : ℕ) (text : List ℕ) → 0 < count → position is_feed text ≡ Some at → drop end (drop (at + 1) text) ≡ behind_lines (count - 1) (drop (at + 1) text)
    → drop (at + 1 + end) text ≡ behind_lines count text
behind_more zero at end text some h inner = absurd (omega (arith, some))
behind_more (suc n) at end text some h inner =
    let less : suc n - 1 ≡ n = omega arith in
    sym (drop-drop end (at + 1) text) ∙ inner ∙ ap (λ k. behind_lines k (drop (at + 1) text)) less ∙ ap (behind_lines n) (behind_place is_feed text at h)

pub fewer_feeds : (count at : ℕ) (text : List ℕ) → 0 < count → count ≤ count_by is_feed text → position is_feed text ≡ Some at → count - 1 ≤ count_by is_feed (drop (at + 1) text)
fewer_feeds count at text some many h =
    omega (arith, some, many, feeds_behind text (found is_feed text at h).0, ap feeds (behind_place is_feed text at h))

pub no_feeds : (count : ℕ) (text : List ℕ) → 0 < count → count ≤ count_by is_feed text → position is_feed text ≡ None → ⊥
no_feeds count text some many h = omega (arith, some, many, feeds_none text (not_found is_feed text h).0)

-- a text that was put together so
pub added_joined : (x : Rtn) (text front behind first more whole : List ℕ) → first ≡ front → more ≡ first ++ relative_text x → whole ≡ more ++ behind → front ≡ front_lines 6 text → behind ≡ behind_lines 6 text
    → whole ≡ added x text
unfolding added
added_joined x text front behind first more whole one two three before after =
    three ∙ ap (λ (t : List ℕ). more ++ t) after ∙ ap (λ (t : List ℕ). t ++ behind_lines 6 text) (two ∙ ap (λ (t : List ℕ). t ++ relative_text x) (one ∙ before))
