-- `bytes_at`: 2 for an address above the limit, or for more bytes than there are addresses.
use Rattle.lists.proofs.Whole.{does_refuse}
use Rattle.requests.proofs.Asked.{address_over, address_bytes_over}
use Rattle.requests.proofs.by_address.bytes_at.Goals as goal

pub returns-then-address-ge-ADDRESS_LIMIT : goal.returns-then-address-ge-ADDRESS_LIMIT
returns-then-address-ge-ADDRESS_LIMIT c = does_refuse _ _ c.requires 2 _ (address_over _ _ _ c.if-address-ge-ADDRESS_LIMIT.true)

pub returns-then-num_bytes-gt-ADDRESS_LIMIT : goal.returns-then-num_bytes-gt-ADDRESS_LIMIT
returns-then-num_bytes-gt-ADDRESS_LIMIT c = does_refuse _ _ c.requires 2 _ (address_bytes_over _ _ _ c.if-address-ge-ADDRESS_LIMIT.false c.if-num_bytes-gt-ADDRESS_LIMIT.true)
