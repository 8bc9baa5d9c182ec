-- The call of document 01 that an operation is.
use Rattle.model.specs.Calls.{Call, return_call}
use Rattle.requests.specs.Asked as asked
use Rattle.calls.specs.declared.Operation.{Operation}
use Rattle.calls.specs.declared.Operation.TheVariants.{Allocate, Return}

abbrev pub operation_call : Operation → Call
operation_call (Allocate r) = asked.call_of r
operation_call (Return r) = return_call r
