-- An operation has no buffer and keeps the form.
use mathlib.Core.Path.{◌≡◌, refl, sym, subst}
use mathlib.Core.Bool.{false}
use mathlib.Core.List.{List}
use Prim.Native.Nat.{ℕ}
use Rattle.memory_structs.specs.declared.range.FrameRange.{FrameRange}
use Rattle.model.specs.Lists.{Lists}
use Rattle.model.specs.Calls.{answer, short_buffer}
use Rattle.model.specs.Returns.{give_back}
use Rattle.lists.specs.Whole.{lists_in, Does}
use Rattle.lists.specs.declared.header.Header.{Header}
use Rattle.lists.specs.declared.header.HandedBack.{HandedBack}
use Rattle.model.proofs.Each.{changes_form, same_form}
use Rattle.requests.specs.Asked as asked
use Rattle.requests.specs.declared.Request.{Request}
use Rattle.requests.specs.declared.Request.TheVariants.{Frames, Bytes, FramesAt, BytesAt, GeneralFramesAt}
use Rattle.calls.specs.declared.Operation.{Operation}
use Rattle.calls.specs.declared.Operation.TheVariants.{Allocate, Return}
use Rattle.calls.specs.Operations.{operation_call}

pub never_short : (o : Operation) → short_buffer (operation_call o) ≡ false
unfolding short_buffer
never_short (Allocate (Frames n)) = refl
never_short (Allocate (Bytes b)) = refl
never_short (Allocate (FramesAt f n)) = refl
never_short (Allocate (BytesAt a b)) = refl
never_short (Allocate (GeneralFramesAt f n)) = refl
never_short (Return r) = refl

keeps : (o : Operation) → changes_form (operation_call o) ≡ false
unfolding changes_form
keeps (Allocate (Frames n)) = refl
keeps (Allocate (Bytes b)) = refl
keeps (Allocate (FramesAt f n)) = refl
keeps (Allocate (BytesAt a b)) = refl
keeps (Allocate (GeneralFramesAt f n)) = refl
keeps (Return r) = refl

pub keeps_form : (o : Operation) (l : Lists) → (answer (operation_call o) l).lists.sorted ≡ l.sorted
keeps_form o l = same_form (operation_call o) l (keeps o)

-- what is done for an operation that is known
pub request_does : (h : Header) {o : Operation} {r : Request} {before after : List ℕ} {d : HandedBack} → o ≡ Allocate r → Does (answer (asked.call_of r) (lists_in h before)) before d after → Does (answer (operation_call o) (lists_in h before)) before d after
request_does h {before = before} {after = after} {d = d} e x = subst (λ (y : Operation). Does (answer (operation_call y) (lists_in h before)) before d after) (sym e) x

pub return_does : (h : Header) {o : Operation} {r : FrameRange} {before after : List ℕ} {d : HandedBack} → o ≡ Return r → Does (give_back r (lists_in h before)) before d after → Does (answer (operation_call o) (lists_in h before)) before d after
unfolding answer
return_does h {before = before} {after = after} {d = d} e x = subst (λ (y : Operation). Does (answer (operation_call y) (lists_in h before)) before d after) (sym e) x
