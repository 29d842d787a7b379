use Rattle.std.proofs.Common.{◌≡◌, ◌∙◌, ℕ, List, [], ◌∷◌, filter, length, map, Bool, Option, None, Some, sym}
use Rattle.std.proofs.lemmas.List.{length-map}
use Rattle.cj_track.specs.Tracks.{plain_track}
use Rattle.cj_case.specs.Pairs.{pairs_of}
use Rattle.cj_case.specs.Primaries.{has_primary}
use Rattle.cj_case.specs.declared.shells.Shell.{Shell}
use Rattle.cj_bezier.specs.Shells.{keeps_between}
use Rattle.cj_cert.specs.Certificates.{plain_certificate}
use Rattle.cj_cert.specs.Listed.{shells_listed}
use Rattle.cj_certificate_tests.proofs.blocks.rewritten.Goals as goal

-- the shells of the only pair are not parted
abbrev resting : List (Option Shell)
resting = Some (record { lo = 7000000000000000; hi = 7000000000000000 }) ∷ Some (record { lo = 7005000000000000; hi = 7005000000000000 }) ∷ []

only_pair : (primaries : Option (List Bool)) (n thr : ℕ) (sizes : List ℕ) (shells : List (Option Shell)) → primaries ≡ None → n ≡ 2 → thr ≡ 5000000000000 → sizes ≡ 0 ∷ 0 ∷ [] → shells ≡ resting
    → (0, 1) ∷ [] ≡ filter (keeps_between primaries thr sizes shells) (pairs_of n)
unfolding has_primary
only_pair primaries n thr sizes shells all many far none same = sym (λ i. filter (keeps_between (all i) (far i) (none i) (same i)) (pairs_of (many i)))

pub in_version_2-requires : goal.in_version_2-requires
in_version_2-requires c =
    let problem = c.args.problem.now in
    record {
      kept = only_pair problem.primaries (length (map plain_track problem.tracks)) problem.threshold problem.sizes (shells_listed (plain_certificate c.args.cert))
          c.requires.primaries (length-map problem.tracks plain_track ∙ c.requires.tracks) c.requires.threshold c.requires.sizes c.requires.shells;
    }
