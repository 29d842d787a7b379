use Rattle.std.proofs.Common.{◌≡◌, ◌≤◌, ◌<◌, ◌+◌, ◌*◌, ◌/◌, ◌%◌, ⊎_elim, arith, div-add-mod', mul-le-mul_right, add-mul, one-mul}
use Rattle.std.proofs.lemmas.Bool.{cases_lt}
use Rattle.std.proofs.lemmas.Nat.{mod_below}
use Rattle.cj_threads.proofs.dealt_parts.part_count.Goals as goal

pub returns-clause-covers : goal.returns-clause-covers
returns-clause-covers c =
    let size = c.args.size in
    let q = c.args.len / size in
    let r = c.args.len % size in
    let count = c.max.result in
    let whole : q * size + r ≡ c.args.len = div-add-mod' c.args.len size in
    let small : r < size = mod_below c.args.len size c.requires in
    ⊎_elim
    (λ some. let up : q + 1 ≤ count = omega (arith, some, c.max.ensures, c.div_ceil.ensures) in omega (arith, whole, small, mul-le-mul_right size up, add-mul q 1 size, one-mul size))
    (λ none. let up : q ≤ count = omega (arith, c.max.ensures, c.div_ceil.ensures) in omega (arith, whole, none, mul-le-mul_right size up))
    (cases_lt 0 r)

pub returns-clause-inside : goal.returns-clause-inside
returns-clause-inside c = λ n lt.
    let size = c.args.size in
    let q = c.args.len / size in
    let r = c.args.len % size in
    let whole : q * size + r ≡ c.args.len = div-add-mod' c.args.len size in
    let up : n ≤ q = omega (arith, lt, c.max.ensures, c.div_ceil.ensures) in
    omega (arith, whole, mul-le-mul_right size up)
