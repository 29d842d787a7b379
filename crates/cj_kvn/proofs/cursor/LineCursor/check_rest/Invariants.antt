use Rattle.std.proofs.Common.{length}
use Rattle.cj_kvn.specs.Cursors.{said_by}
use Rattle.cj_kvn.proofs.CursorLemmas.{Leads}
use Rattle.cj_kvn.proofs.cursor.LineCursor.check_rest.Given as goal

-- a fault of the lines that are left is one of all of them, and where they have none all have none
abbrev pub invariant-loop : goal.invariant-loop
invariant-loop l = Leads (said_by l.fn.self) (said_by l.rest)

abbrev pub decreases-loop : goal.decreases-loop
decreases-loop l = length l.rest.rest
