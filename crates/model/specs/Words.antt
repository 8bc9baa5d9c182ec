-- Kinds and answers as words.
use Rattle.std.specs.Prelude.{ℕ, zero, suc, List, [], ◌∷◌}
use Rattle.model.specs.declared.Answer.{Answer}
use Rattle.model.specs.declared.Kind.{Kind}
use Rattle.model.specs.declared.Kind.TheVariants.{General, Reserved}

-- "kind (general or reserved)", as a word: 0 is general, any other number reserved
unfoldable pub kind_of_word : ℕ → Kind
kind_of_word zero = General
kind_of_word (suc k) = Reserved

-- and the word that stands for a kind: `kind_back` (bench_areas/proofs/Collected) says that it is read as this kind
unfoldable pub word_of : Kind → ℕ
word_of General = 0
word_of Reserved = 1

-- number, start, end, frame, count
unfoldable pub answer_words : Answer → List ℕ
answer_words x = x.number ∷ x.range.start ∷ x.range.end ∷ x.frame ∷ x.count ∷ []
