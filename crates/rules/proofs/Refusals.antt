-- Of every refusal: its number, and what it answers.
use native.Mathlib.Omega.{arith}
use mathlib.Core.Path.{◌≡◌, refl}
use Rattle.model.specs.Requests.{without_frames}
use Rattle.model.specs.Refusals.{number, refused_answer}
use Rattle.model.specs.declared.refusals.Refusal.{Refusal}
use Rattle.model.specs.declared.refusals.Refusal.TheVariants.{NoFrames, OutOfBounds, TooFewWords, EmptyReservedArea, TooManyReservedAreas, PiecesMeet, TooManyPieces, NotEmpty, BrokenRules, NotFound, NotFree, NoLargeChunk, Missing, MeetsReservedRegion, TooShort, NoPlace, NotHeld}

-- no refusal has the number 0
pub numbered : (r : Refusal) → number r ≡ 0 → ⊥
numbered NoFrames e = absurd (omega arith)
numbered OutOfBounds e = absurd (omega arith)
numbered TooFewWords e = absurd (omega arith)
numbered EmptyReservedArea e = absurd (omega arith)
numbered TooManyReservedAreas e = absurd (omega arith)
numbered PiecesMeet e = absurd (omega arith)
numbered TooManyPieces e = absurd (omega arith)
numbered NotEmpty e = absurd (omega arith)
numbered BrokenRules e = absurd (omega arith)
numbered NotFound e = absurd (omega arith)
numbered NotFree e = absurd (omega arith)
numbered NoLargeChunk e = absurd (omega arith)
numbered (Missing f n) e = absurd (omega arith)
numbered MeetsReservedRegion e = absurd (omega arith)
numbered TooShort e = absurd (omega arith)
numbered NoPlace e = absurd (omega arith)
numbered NotHeld e = absurd (omega arith)

-- it answers its number
pub answers_number : (r : Refusal) → (refused_answer r).number ≡ number r
answers_number NoFrames = refl
answers_number OutOfBounds = refl
answers_number TooFewWords = refl
answers_number EmptyReservedArea = refl
answers_number TooManyReservedAreas = refl
answers_number PiecesMeet = refl
answers_number TooManyPieces = refl
answers_number NotEmpty = refl
answers_number BrokenRules = refl
answers_number NotFound = refl
answers_number NotFree = refl
answers_number NoLargeChunk = refl
answers_number (Missing f n) = refl
answers_number MeetsReservedRegion = refl
answers_number TooShort = refl
answers_number NoPlace = refl
answers_number NotHeld = refl

-- "0 and 0 for frame and count except in 15"
pub without_15 : (r : Refusal) → (number r ≡ 15 → ⊥) → refused_answer r ≡ without_frames (number r) 0
without_15 NoFrames q = refl
without_15 OutOfBounds q = refl
without_15 TooFewWords q = refl
without_15 EmptyReservedArea q = refl
without_15 TooManyReservedAreas q = refl
without_15 PiecesMeet q = refl
without_15 TooManyPieces q = refl
without_15 NotEmpty q = refl
without_15 BrokenRules q = refl
without_15 NotFound q = refl
without_15 NotFree q = refl
without_15 NoLargeChunk q = refl
without_15 (Missing f n) q = absurd (q refl)
without_15 MeetsReservedRegion q = refl
without_15 TooShort q = refl
without_15 NoPlace q = refl
without_15 NotHeld q = refl
