use Rattle.cj_screen.proofs.top.put_results.Goals as goal

pub returns-in-Screened : goal.returns-in-Screened
returns-in-Screened g c =
    let done = c.put_outputs.ensures in
    rw c.in-Screened.is (record { comes = done.comes; write = done.write; leaves = done.leaves; later = done.later })

pub returns-in-Checked : goal.returns-in-Checked
returns-in-Checked g c =
    let done = c.put.ensures in
    rw c.in-Checked.is (record { comes = done.comes; write = done.write; leaves = done.leaves; later = done.later })

pub returns-in-Made : goal.returns-in-Made
returns-in-Made g c =
    let done = c.put_catalogue.ensures in
    rw (c.in-Made.is, ← c.deref.ensures.value) (record { comes = done.comes; write = done.write; leaves = done.leaves; later = done.later })

pub returns-in-Selfrun : goal.returns-in-Selfrun
returns-in-Selfrun g c =
    let done = c.put_summary.ensures in
    rw c.in-Selfrun.is (record { comes = done.comes; write = done.write; leaves = done.leaves; later = done.later })

pub returns-in-Rewritten : goal.returns-in-Rewritten
returns-in-Rewritten g c =
    let done = c.put_rewritten.ensures in
    rw c.in-Rewritten.is (record { comes = done.comes; write = done.write; leaves = done.leaves; later = done.later })

pub returns-in-Thinned : goal.returns-in-Thinned
returns-in-Thinned g c =
    let done = c.put_thinned.ensures in
    rw c.in-Thinned.is (record { comes = done.comes; write = done.write; leaves = done.leaves; later = done.later })

pub returns-in-Changed : goal.returns-in-Changed
returns-in-Changed g c =
    let done = c.put_changes.ensures in
    rw c.in-Changed.is (record { comes = done.comes; write = done.write; leaves = done.leaves; later = done.later })
