use Rattle.std.proofs.Common.{◌≡◌, ◌∙◌, length, min, sym, arith}
use Rattle.cj_checker.proofs.shells.try_objects.Goals as goal

pub returns : goal.returns
returns g c =
    let lines = c.args.cert.now.shells.items in
    let tracks = c.args.problem.now.tracks in
    let done = c.in_ok-tries.ensures in
    let ends = sym c.in_ok-tries.tries.ok.0 ∙ done.len in
    let count : c.min-count.result ≡ min (length lines) (length tracks) =
    c.min-count.ensures ∙ (λ j. min ((c.len.ensures ∙ c.args.cert.now.shells.ok.0) j) (length (c.as_slice.ensures.value j))) in
    record {
      many = ends ∙ count;
      each = λ object d l lt. (done.each object d (omega (arith, lt, ends))).1.met l;
    }
