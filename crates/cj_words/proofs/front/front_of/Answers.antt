use Rattle.std.proofs.Common.{◌≡◌, ℕ, ◌-◌, ◌<◌, List, length, take, drop, true, sym, subst, ap, ◌∙◌, arith}
use Rattle.std.specs.Prelude.{IfNone, IfSome}
use Rattle.cj_words.specs.Options.{given_of, if_empty, in_front}
use Rattle.cj_words.proofs.FrontLemmas.{flag_in_front, no_words, one_in_front, one_not_in_front, one_shorter, opened, two_in_front, two_not_in_front, two_shorter}
use Rattle.cj_words.proofs.front.front_of.Goals as goal

pub returns-in_default-clause-none : goal.returns-in_default-clause-none
returns-in_default-clause-none c = no_words c.args.words.now c.in_default.len_below

-- ---- a flag

pub returns-then-is_flag-clause-some : goal.returns-then-is_flag-clause-some
returns-then-is_flag-clause-some c =
    let split = opened c.args.words.now c.as_slice-word.result.now c.word-item.result c.in-len1-up.len_at_least c.as_slice-word.ensures c.word-item.is in
    ap given_of split ∙ flag_in_front c.as_slice-word.result.now (take (length c.args.words.now - 1) (drop 1 c.args.words.now)) (sym c.is_flag.ensures ∙ c.if-is_flag.true)

pub returns-then-is_flag-clause-shorter : goal.returns-then-is_flag-clause-shorter
returns-then-is_flag-clause-shorter c =
    let split = opened c.args.words.now c.as_slice-word.result.now c.word-item.result c.in-len1-up.len_at_least c.as_slice-word.ensures c.word-item.is in
    omega (arith, ap length split)

-- ---- a word with =

pub returns-in-Some-clause-some : goal.returns-in-Some-clause-some
returns-in-Some-clause-some c =
    let split = opened c.args.words.now c.as_slice-word.result.now c.word-item.result c.in-len1-up.len_at_least c.as_slice-word.ensures c.word-item.is in
    subst (λ (ws : List (List ℕ)). IfSome c.alone.result (λ f. given_of ws ≡ in_front true (record { name = f.name.now; value = f.value.now }) (given_of f.rest.now))) (sym split)
    (one_in_front c.as_slice-word.result.now c.in-Some.name.now c.in-Some.value.now (take (length c.args.words.now - 1) (drop 1 c.args.words.now)) c.alone.result (sym c.is_flag.ensures ∙ c.if-is_flag.false) c.in-Some.ensures.some c.in-Some.ensures.parts.0 c.in-Some.ensures.parts.1 c.alone.ensures.some)

pub returns-in-Some-clause-shorter : goal.returns-in-Some-clause-shorter
returns-in-Some-clause-shorter c =
    let split = opened c.args.words.now c.as_slice-word.result.now c.word-item.result c.in-len1-up.len_at_least c.as_slice-word.ensures c.word-item.is in
    subst (λ (ws : List (List ℕ)). IfSome c.alone.result (λ f. length f.rest.now < length ws)) (sym split) (one_shorter c.as_slice-word.result.now c.in-Some.name.now c.in-Some.value.now (take (length c.args.words.now - 1) (drop 1 c.args.words.now)) c.alone.result c.alone.ensures.some)

pub returns-in-Some-clause-none : goal.returns-in-Some-clause-none
returns-in-Some-clause-none c =
    let split = opened c.args.words.now c.as_slice-word.result.now c.word-item.result c.in-len1-up.len_at_least c.as_slice-word.ensures c.word-item.is in
    subst (λ (ws : List (List ℕ)). IfNone c.alone.result (given_of ws ≡ if_empty ws)) (sym split)
    (one_not_in_front c.as_slice-word.result.now c.in-Some.name.now c.in-Some.value.now (take (length c.args.words.now - 1) (drop 1 c.args.words.now)) c.alone.result (sym c.is_flag.ensures ∙ c.if-is_flag.false) c.in-Some.ensures.some c.in-Some.ensures.parts.0 c.in-Some.ensures.parts.1 c.alone.ensures.none)

-- ---- a word and the next

pub returns-in-None-clause-some : goal.returns-in-None-clause-some
returns-in-None-clause-some c =
    let split = opened c.args.words.now c.as_slice-word.result.now c.word-item.result c.in-len1-up.len_at_least c.as_slice-word.ensures c.word-item.is in
    subst (λ (ws : List (List ℕ)). IfSome c.with_next.result (λ f. given_of ws ≡ in_front true (record { name = f.name.now; value = f.value.now }) (given_of f.rest.now))) (sym split) (two_in_front c.as_slice-word.result.now (take (length c.args.words.now - 1) (drop 1 c.args.words.now)) c.with_next.result (sym c.is_flag.ensures ∙ c.if-is_flag.false) c.in-None.ensures.none c.with_next.ensures.some)

pub returns-in-None-clause-shorter : goal.returns-in-None-clause-shorter
returns-in-None-clause-shorter c =
    let split = opened c.args.words.now c.as_slice-word.result.now c.word-item.result c.in-len1-up.len_at_least c.as_slice-word.ensures c.word-item.is in
    subst (λ (ws : List (List ℕ)). IfSome c.with_next.result (λ f. length f.rest.now < length ws)) (sym split) (two_shorter c.as_slice-word.result.now (take (length c.args.words.now - 1) (drop 1 c.args.words.now)) c.with_next.result c.with_next.ensures.some)

pub returns-in-None-clause-none : goal.returns-in-None-clause-none
returns-in-None-clause-none c =
    let split = opened c.args.words.now c.as_slice-word.result.now c.word-item.result c.in-len1-up.len_at_least c.as_slice-word.ensures c.word-item.is in
    subst (λ (ws : List (List ℕ)). IfNone c.with_next.result (given_of ws ≡ if_empty ws)) (sym split) (two_not_in_front c.as_slice-word.result.now (take (length c.args.words.now - 1) (drop 1 c.args.words.now)) c.with_next.result (sym c.is_flag.ensures ∙ c.if-is_flag.false) c.in-None.ensures.none c.with_next.ensures.none)
