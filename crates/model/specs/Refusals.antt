-- Why a call is refused, and what a call answers. The words in quotes are document 01's.
use Rattle.std.specs.Prelude.{ℕ, Result, Ok, Err}
use Rattle.model.specs.Requests.{without_frames, missing_answer}
use Rattle.model.specs.declared.Answer.{Answer}
use Rattle.model.specs.declared.refusals.Refusal.{Refusal}
use Rattle.model.specs.declared.refusals.Refusal.TheVariants.{NoFrames, OutOfBounds, TooFewWords, EmptyReservedArea, TooManyReservedAreas, PiecesMeet, TooManyPieces, NotEmpty, BrokenRules, NotFound, NotFree, NoLargeChunk, Missing, MeetsReservedRegion, TooShort, NoPlace, NotHeld}

-- "If an answer is an enum, a definition states this paper's number and values for each of its cases." The number of each refusal:
abbrev pub number : Refusal → ℕ
number NoFrames = 1
number OutOfBounds = 2
number TooFewWords = 3
number EmptyReservedArea = 4
number TooManyReservedAreas = 5
number PiecesMeet = 6
number TooManyPieces = 7
number NotEmpty = 10
number BrokenRules = 11
number NotFound = 12
number NotFree = 13
number NoLargeChunk = 14
number (Missing f n) = 15
number MeetsReservedRegion = 16
number TooShort = 17
number NoPlace = 18
number NotHeld = 19

-- the number of what refuses, or 0
abbrev pub refused_by : {A : Type 0} → Result A Refusal → ℕ
refused_by (Ok x) = 0
refused_by (Err r) = number r

-- and its values: "A refusal returns its number, the range [1,0], and 0 and 0 for frame and count except in 15"
abbrev pub refused_answer : Refusal → Answer
refused_answer (Missing f n) = missing_answer f n
refused_answer r = without_frames (number r) 0
