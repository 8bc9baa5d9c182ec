-- A request in code, and document 01's call that it is.
use Rattle.model.specs.Calls.{Call, count_call, count_bytes_call, address_call, address_bytes_call, general_call}
use Rattle.requests.specs.declared.Request.{Request}
use Rattle.requests.specs.declared.Request.TheVariants.{Frames, Bytes, FramesAt, BytesAt, GeneralFramesAt}

abbrev pub call_of : Request → Call
call_of (Frames n) = count_call n
call_of (Bytes b) = count_bytes_call b
call_of (FramesAt f n) = address_call f n
call_of (BytesAt x b) = address_bytes_call x b
call_of (GeneralFramesAt f n) = general_call f n
