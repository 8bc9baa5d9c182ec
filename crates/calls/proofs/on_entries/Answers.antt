-- `on_entries`: each operation by the function that does it.
use Rattle.calls.proofs.Kept.{request_does, return_does}
use Rattle.calls.proofs.on_entries.Goals as goal
use Rattle.calls.proofs.on_entries.Goals.{in-Allocate, in-Return}

pub returns : goal.returns
returns c =
    rw c.answered.ensures (elim c.match-operation.branch [
      | in-Allocate w ↦ rw (w.done-is, w.lists-is) (request_does c.args.h w.in-Allocate.is w.meet_request-done.ensures)
      | in-Return w ↦ rw (w.done-is, w.lists-is) (return_does c.args.h w.in-Return.is w.give_back-done.ensures)
    ])
