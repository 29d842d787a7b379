use Rattle.std.proofs.Common.{◌≡◌, ◌∙◌, ◌≤◌, ◌+◌, List, length, map, ap, refl, arith}
use Rattle.std.proofs.lemmas.Result.{err_from_is_err_and}
use Rattle.cj_track.specs.Tracks.{plain_track}
use Rattle.cj_track.specs.declared.track.Track.{Track}
use Rattle.cj_words.specs.Settings.{plain_settings}
use Rattle.cj_inputs.specs.Places.{file_of}
use Rattle.cj_inputs.specs.Updates.{updated_names, with_others}
use Rattle.cj_inputs.proofs.PlaceLemmas.{others_long}
use Rattle.cj_inputs.proofs.UpdatedLemmas.{ArePlaced, placed_made, placed_sound, placed_too_many}
use Rattle.cj_inputs.proofs.reading_updates.update_tracks.Goals as goal

pub returns-in_err-others : goal.returns-in_err-others
returns-in_err-others c =
    let p = err_from_is_err_and c.from_residual.result c.from_residual.ensures.1 in
    rw (p.1, p.2) (record { between = tt; unread = λ is. absurd cc; told = λ files entries base many is more. tt })

pub returns-in_err-new : goal.returns-in_err-new
returns-in_err-new c =
    let p = err_from_is_err_and c.from_residual-in_err-new.result c.from_residual-in_err-new.ensures.1 in
    rw (p.1, p.2) (record { between = tt; unread = λ is. absurd cc; told = λ files entries base many is more. tt })

pub returns-in_err-place_others : goal.returns-in_err-place_others
returns-in_err-place_others c =
    let p = err_from_is_err_and c.from_residual-in_err-place_others.result c.from_residual-in_err-place_others.ensures.1 in
    rw (p.1, p.2) (record { between = tt; unread = λ is. absurd cc; told = λ files entries base many is more. tt })

pub returns-then-count-settings-clause-told : goal.returns-then-count-settings-clause-told
returns-then-count-settings-clause-told c = λ files entries told same is more.
    let all = c.args.all.tracks.items in
    let base = c.split_off.new.self.items in
    let others = c.in_ok-others.others.items in
    let copies = c.in_ok-new.new.items in
    let left = c.let_updated_go.new.tracks.items in
    let names = updated_names c.args.update.now c.args.updates.now in
    let placed : ArePlaced c.args.many names all base others copies left (with_others file_of others left) = record {
      first = c.in_ok-others.ensures.items;
      last = c.in_ok-others.ensures.tail;
      alike = c.in_ok-new.ensures.value ∙ ap (λ (ts : List Track). map plain_track ts) c.deref.ensures.value;
      stay = c.let_updated_go.ensures.value;
      whole = refl;
    } in
    let long : length base ≡ c.args.many = omega (arith, c.in_ok-others.ensures.len, c.split_off.new.self.ok.0) in
    let counted : c.len.result + c.len-2.result ≡ length left + length others =
    omega (arith, c.len.ensures, c.len-2.ensures, c.let_updated_go.new.tracks.ok.0, c.in_ok-others.others.ok.0) in
    rw (c.too_many_objects.ensures)
    (placed_too_many files (plain_settings c.args.settings.now) c.args.update.now entries c.args.updates.now c.args.many (c.len.result + c.len-2.result) all base others copies left told
    placed long same is more counted c.if-count-settings.true)

pub invariant_of-result : goal.invariant_of-result
invariant_of-result c =
    let all = c.args.all.tracks.items in
    let base = c.split_off.new.self.items in
    let others = c.in_ok-others.others.items in
    let copies = c.in_ok-new.new.items in
    let left = c.let_updated_go.new.tracks.items in
    let new = c.place_others.new.tracks.items in
    let names = updated_names c.args.update.now c.args.updates.now in
    let placed : ArePlaced c.args.many names all base others copies left new = record {
      first = c.in_ok-others.ensures.items;
      last = c.in_ok-others.ensures.tail;
      alike = c.in_ok-new.ensures.value ∙ ap (λ (ts : List Track). map plain_track ts) c.deref.ensures.value;
      stay = c.let_updated_go.ensures.value;
      whole = c.in_ok-place_others.ensures;
    } in
    let sound = placed_sound c.args.many names all base others copies left new placed c.args.all.frame in
    record {
      few_base = omega (arith, c.in_ok-others.ensures.len, c.split_off.new.self.ok.0, c.requires.few);
      few_new =
          omega (
            arith,
            ap (λ (ts : List Track). length ts) placed.whole,
            others_long file_of others left,
            c.len.ensures,
            c.len-2.ensures,
            c.let_updated_go.new.tracks.ok.0,
            c.in_ok-others.others.ok.0,
            c.if-count-settings.false,
            c.args.settings.now.limits.most_objects,
          );
      base_frame = sound.base_frame;
      new_frame = sound.new_frame;
      base_nodes = omega (arith, sound.base_nodes, c.args.all.counted, c.args.all.few);
      new_nodes = omega (arith, sound.new_nodes, c.args.all.counted, c.args.all.few);
    }

pub returns-clause-told : goal.returns-clause-told
returns-clause-told c = λ files entries told same is more.
    let all = c.args.all.tracks.items in
    let base = c.split_off.new.self.items in
    let others = c.in_ok-others.others.items in
    let copies = c.in_ok-new.new.items in
    let left = c.let_updated_go.new.tracks.items in
    let new = c.place_others.new.tracks.items in
    let names = updated_names c.args.update.now c.args.updates.now in
    let placed : ArePlaced c.args.many names all base others copies left new = record {
      first = c.in_ok-others.ensures.items;
      last = c.in_ok-others.ensures.tail;
      alike = c.in_ok-new.ensures.value ∙ ap (λ (ts : List Track). map plain_track ts) c.deref.ensures.value;
      stay = c.let_updated_go.ensures.value;
      whole = c.in_ok-place_others.ensures;
    } in
    let long : length base ≡ c.args.many = omega (arith, c.in_ok-others.ensures.len, c.split_off.new.self.ok.0) in
    let few : length new ≤ c.args.settings.now.limits.objects =
    omega (
      arith,
      ap (λ (ts : List Track). length ts) placed.whole,
      others_long file_of others left,
      c.len.ensures,
      c.len-2.ensures,
      c.let_updated_go.new.tracks.ok.0,
      c.in_ok-others.others.ok.0,
      c.if-count-settings.false,
    ) in
    placed_made files (plain_settings c.args.settings.now) c.args.update.now entries c.args.updates.now c.args.many all base others copies left new told placed long same is more few
