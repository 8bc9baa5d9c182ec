-- How one slot is stored. The words in quotes are document 01's.
use Rattle.std.specs.Prelude.{ℕ, zero, suc, Bool, true, false, ◌&&◌, List, [], ◌∷◌, leb, eqb}
use Rattle.model.specs.declared.EarlyList.{EarlyList}

-- a test of every slot, from its flag and its numbers
unfoldable pub each_slot : (ℕ → ℕ → ℕ → Bool) → List ℕ → List ℕ → List ℕ → Bool
each_slot t (s ∷ ss) (e ∷ es) (u ∷ us) = t u s e && each_slot t ss es us
each_slot t (s ∷ ss) (e ∷ es) [] = true
each_slot t (s ∷ ss) [] us = true
each_slot t [] es us = true

-- as it is stored, by its flag: "an unused early slot holds [1,0]"; "entries non-empty"; no flag is another number
unfoldable pub plain_slot : (used start end : ℕ) → Bool
plain_slot zero s e = eqb s 1 && eqb e 0
plain_slot (suc zero) s e = leb s e
plain_slot (suc (suc n)) s e = false

abbrev pub plain : EarlyList → Bool
plain l = each_slot plain_slot l.starts l.ends l.used

-- every slot holds [1,0]
unfoldable pub all_empty : (starts ends : List ℕ) → Bool
all_empty (s ∷ ss) (e ∷ es) = (eqb s 1 && eqb e 0) && all_empty ss es
all_empty (s ∷ ss) [] = true
all_empty [] es = true
