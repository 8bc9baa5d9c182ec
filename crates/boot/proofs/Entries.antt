-- Whether a record has an entry: in sorted form by the lengths of its tables, in early form by its slots.
use Rattle.std.proofs.Common.{◌≡◌, ℕ, zero, suc, ◌+◌, Bool, true, false, not, ◌==◌, ◌||◌, List, [], ◌∷◌, length, drop, refl, sym, ap, arith}
use borrow.Author.Tests.{ne_eqb}
use Rattle.std.specs.List.{list_any}
use Rattle.model.specs.Lists.{entries}
use Rattle.model.specs.Store.{is_set, zipped, slots_of, table_slots, slots_in, load, part}
use Rattle.model.specs.Calls.{no_entries}
use Rattle.model.specs.declared.EarlyList.{EarlyList}
use Rattle.model.specs.declared.FrameAllocator.{FrameAllocator}

-- a list of n entries has some
abbrev pub some : ℕ → Bool
some n = not (n == 0)

some_more : (n : ℕ) → some (suc n) ≡ true
some_more n = ap not (ne_eqb (suc n) 0 (λ e. omega (arith, e)))

table_entries : (n : ℕ) (ws : List ℕ) → length (entries (table_slots n ws)) ≡ n
unfolding table_slots entries
table_entries zero ws = refl
table_entries (suc n) ws = omega (arith, table_entries n (drop 2 ws))

-- the entries of an early list
abbrev count : EarlyList → ℕ
count l = length (entries (slots_of l))

-- each used slot has an entry
zipped_entries : (ss es : List ℕ) (us : List ℕ) → length ss ≡ length us → length es ≡ length us → list_any (λ used. used == 1) us ≡ some (length (entries (zipped ss es us)))
unfolding zipped entries
zipped_entries [] [] [] p q = refl
zipped_entries [] es (u ∷ us) p q = absurd (omega arith)
zipped_entries [] (e ∷ es) [] p q = absurd (omega arith)
zipped_entries (s ∷ ss) es [] p q = absurd (omega arith)
zipped_entries (s ∷ ss) [] (u ∷ us) p q = absurd (omega arith)
zipped_entries (s ∷ ss) (e ∷ es) (suc zero ∷ us) p q = sym (some_more _)
zipped_entries (s ∷ ss) (e ∷ es) (zero ∷ us) p q = zipped_entries ss es us (omega arith) (omega arith)
zipped_entries (s ∷ ss) (e ∷ es) (suc (suc n) ∷ us) p q = rw (ne_eqb (suc (suc n)) 1 (λ e. omega (arith, e))) (zipped_entries ss es us (omega arith) (omega arith))

pub used_entries : (l : EarlyList) → length l.starts ≡ length l.used → length l.ends ≡ length l.used → list_any (λ used. used == 1) l.used ≡ some (count l)
unfolding slots_of
used_entries l starts ends = zipped_entries l.starts l.ends l.used starts ends

-- one of four lists has an entry
one_of_four : (m n o p : ℕ) → not (0 == m + n + o + p) ≡ (some m || (some n || (some o || some p)))
one_of_four (suc m) n o p = rw (some_more m) (ap not (ne_eqb 0 (suc m + n + o + p) (λ e. omega (arith, e))))
one_of_four zero (suc n) o p = rw (some_more n) (ap not (ne_eqb 0 (zero + suc n + o + p) (λ e. omega (arith, e))))
one_of_four zero zero (suc o) p = rw (some_more o) (ap not (ne_eqb 0 (zero + zero + suc o + p) (λ e. omega (arith, e))))
one_of_four zero zero zero (suc p) = rw (some_more p) (ap not (ne_eqb 0 (zero + zero + zero + suc p) (λ e. omega (arith, e))))
one_of_four zero zero zero zero = refl

module _ (a : FrameAllocator) (ws : List ℕ) where
  pub sorted_entries : is_set a.sorted ≡ true → not (no_entries (load a ws)) ≡ (some a.general_free_len || (some a.reserved_free_len || (some a.general_regions_len || some a.reserved_regions_len)))
  unfolding no_entries load slots_in
  sorted_entries e =
      rw (e, table_entries a.general_free_len (part 0 ws), table_entries a.reserved_free_len (part 1024 ws), table_entries a.general_regions_len (part 2048 ws), table_entries a.reserved_regions_len (part 3072 ws))
      (one_of_four a.general_free_len a.reserved_free_len a.general_regions_len a.reserved_regions_len)

  pub early_entries : is_set a.sorted ≡ false → not (no_entries (load a ws)) ≡ (some (count a.general_free) || (some (count a.reserved_free) || (some (count a.general_regions) || some (count a.reserved_regions))))
  unfolding no_entries load slots_in
  early_entries e = rw e (one_of_four (count a.general_free) (count a.reserved_free) (count a.general_regions) (count a.reserved_regions))
