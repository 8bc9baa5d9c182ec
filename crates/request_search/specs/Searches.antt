-- What a search answers.
use Rattle.std.specs.Prelude.{ℕ, Result, Ok, Err}
use Rattle.memory_structs.specs.declared.range.FrameRange.{FrameRange}
use Rattle.model.specs.Requests.{Found, not_found, missing, too_short, chunks}
use Rattle.model.specs.declared.refusals.Refusal.{Refusal}
use Rattle.model.specs.declared.refusals.Refusal.TheVariants.{NotFound, Missing, TooShort}
use Rattle.request_search.specs.declared.Chosen.{Chosen}

-- one chunk alone
abbrev pub one_chunk : ℕ → FrameRange → Chosen
one_chunk i c = record { first = i; many = 1; range = c }

-- for what the model finds; the refusals are 12, 15 and 17, and a caller says which of them a request gets
unfoldable pub answer_of : Found → Result Chosen Refusal
answer_of not_found = Err NotFound
answer_of (missing f n) = Err (Missing f n)
answer_of too_short = Err TooShort
answer_of (chunks i k c) = Ok (record { first = i; many = k; range = c })
