-- The rules of a record in early form: its slots as they are stored, and the lists of the pairs of words that they are packed into.
use mathlib.Core.Path.{◌≡◌, refl, sym, ap, ◌∙◌}
use mathlib.Core.Bool.{Bool, true, false, ◌&&◌, true≢false}
use mathlib.Core.List.{List, []}
use Prim.Native.Nat.{ℕ}
use lib.ListN.{length}
use lib.Dec.{eqb}
use borrow.Author.Tests.{eq-eqb}
use Rattle.memory_structs.proofs.Bools.{both_first, both_second}
use Rattle.model.specs.Lists.{Lists, Slot}
use Rattle.model.specs.Rules.{tidy, rules}
use Rattle.model.specs.Store.{Arrays, slots_in, slots_of, emptied, stored_in, store_rules, load, part}
use Rattle.model.specs.Calls.{keeps_rules}
use Rattle.model.specs.declared.EarlyList.{EarlyList}
use Rattle.model.specs.declared.FrameAllocator.{FrameAllocator}
use Rattle.tables.specs.Slots.{slots}
use Rattle.tables.specs.declared.Table.{Table}
use Rattle.pairs.specs.Pairs.{pair_slots}
use Rattle.pairs.proofs.Pairs.{pairs_length}
use Rattle.pairs.specs.Ordered.{in_order}
use Rattle.model.specs.Requests.{counted}
use Rattle.model.specs.Returns.{sort}
use Rattle.model.proofs.Sorted.{sorted_rules}
use Rattle.lists.specs.Whole.{part_at}
use Rattle.lists.proofs.Whole.{first_is, second_is, third_is, fourth_is}
use Rattle.lists.specs.Packed.{packed}
use Rattle.lists.proofs.Turns.{pairs_of, pairs_64}
use Rattle.rules_early.specs.Slot.{plain}
use Rattle.rules_early.proofs.Stored.{plain_pairs, plain_stored, tidy_plain}
use Rattle.rules.specs.Check.{agree, lists_agree, each_tidy, tables_of, TidyTables, plain_list, plain_record, slot_lists}

-- one list
module _ (e : EarlyList) (n : ℕ) (ws : List ℕ) where
  list_plain : stored_in false e n ws ≡ true → tidy false (slots_of e) ≡ true → plain_list e n ≡ true
  unfolding plain_list stored_in
  list_plain h t =
      let kept = both_first (emptied e.starts e.ends e.used) (eqb (length e.starts) 32 && eqb n 0) h in
      let zero = both_second (eqb (length e.starts) 32) (eqb n 0) (both_second (emptied e.starts e.ends e.used) (eqb (length e.starts) 32 && eqb n 0) h) in
      rw zero (tidy_plain e kept t)

  module _ (s : Arrays e) where
    list_stored : plain_list e n ≡ true → stored_in false e n ws ≡ true
    unfolding plain_list stored_in
    list_stored h = rw (plain_stored e s (both_second (eqb n 0) (plain e) h), eq-eqb (length e.starts) 32 s.starts) (both_first (eqb n 0) (plain e) h)

    list_pairs : plain_list e n ≡ true → {w : List ℕ} → w ≡ pairs_of e → pair_slots 32 w ≡ slots_of e
    unfolding plain_list
    list_pairs h p = ap (pair_slots 32) p ∙ plain_pairs e s (both_second (eqb n 0) (plain e) h)

-- the lists of a record in early form
abbrev early_lists : FrameAllocator → Lists
early_lists a = record { sorted = false; general_free = slots_of a.general_free; reserved_free = slots_of a.reserved_free; general_regions = slots_of a.general_regions; reserved_regions = slots_of a.reserved_regions }

not_both : (x y : Bool) → (x ≡ true → y ≡ true → ⊥) → (x && y) ≡ false
not_both true true h = absurd (h refl refl)
not_both true false h = refl
not_both false y h = refl

module _ (a : FrameAllocator) where
  abbrev P₀ : Bool
  P₀ = plain_list a.general_free a.general_free_len

  abbrev P₁ : Bool
  P₁ = plain_list a.reserved_free a.reserved_free_len

  abbrev P₂ : Bool
  P₂ = plain_list a.general_regions a.general_regions_len

  abbrev P₃ : Bool
  P₃ = plain_list a.reserved_regions a.reserved_regions_len

  module _ (ws : List ℕ) where
    abbrev S₀ : Bool
    S₀ = stored_in false a.general_free a.general_free_len (part 0 ws)

    abbrev S₁ : Bool
    S₁ = stored_in false a.reserved_free a.reserved_free_len (part 1024 ws)

    abbrev S₂ : Bool
    S₂ = stored_in false a.general_regions a.general_regions_len (part 2048 ws)

    abbrev S₃ : Bool
    S₃ = stored_in false a.reserved_regions a.reserved_regions_len (part 3072 ws)

    keeps_early : a.sorted ≡ 0 → keeps_rules a ws ≡ (((S₀ && S₁) && (S₂ && S₃)) && rules (early_lists a))
    unfolding keeps_rules store_rules load slots_in
    keeps_early e = rw e

    all_plain : ((S₀ && S₁) && (S₂ && S₃)) ≡ true → rules (early_lists a) ≡ true → plain_record a ≡ true
    unfolding plain_record rules
    all_plain h k =
        let t : List Slot → Bool = tidy false in
        let free = both_first (S₀ && S₁) (S₂ && S₃) h in
        let regions = both_second (S₀ && S₁) (S₂ && S₃) h in
        let free_tidy = both_first (t (slots_of a.general_free) && t (slots_of a.reserved_free)) _ k in
        let rest = both_second (t (slots_of a.general_free) && t (slots_of a.reserved_free)) _ k in
        let regions_tidy = both_first (t (slots_of a.general_regions) && t (slots_of a.reserved_regions)) _ rest in
        rw (
          list_plain a.general_free a.general_free_len (part 0 ws) (both_first S₀ S₁ free) (both_first (t (slots_of a.general_free)) (t (slots_of a.reserved_free)) free_tidy),
          list_plain a.reserved_free a.reserved_free_len (part 1024 ws) (both_second S₀ S₁ free) (both_second (t (slots_of a.general_free)) (t (slots_of a.reserved_free)) free_tidy),
          list_plain a.general_regions a.general_regions_len (part 2048 ws) (both_first S₂ S₃ regions) (both_first (t (slots_of a.general_regions)) (t (slots_of a.reserved_regions)) regions_tidy),
        )
        (list_plain a.reserved_regions a.reserved_regions_len (part 3072 ws) (both_second S₂ S₃ regions) (both_second (t (slots_of a.general_regions)) (t (slots_of a.reserved_regions)) regions_tidy))

    not_plain : plain_record a ≡ false → (((S₀ && S₁) && (S₂ && S₃)) && rules (early_lists a)) ≡ false
    not_plain p = not_both ((S₀ && S₁) && (S₂ && S₃)) (rules (early_lists a)) (λ h k. true≢false (sym (all_plain h k) ∙ p))

    pub slots_broken : a.sorted ≡ 0 → plain_record a ≡ false → false ≡ keeps_rules a ws
    slots_broken e p = sym (keeps_early e ∙ not_plain p)

  module _ (s₀ : Arrays a.general_free) (s₁ : Arrays a.reserved_free) (s₂ : Arrays a.general_regions) (s₃ : Arrays a.reserved_regions) where
    part₀ : part_at 64 0 (packed a) ≡ pairs_of a.general_free
    unfolding packed
    part₀ = first_is 64 (pairs_of a.general_free) (pairs_of a.reserved_free) (pairs_of a.general_regions) (pairs_of a.reserved_regions) [] (pairs_64 a.general_free s₀ refl) (pairs_64 a.reserved_free s₁ refl) (pairs_64 a.general_regions s₂ refl) (pairs_64 a.reserved_regions s₃ refl)

    part₁ : part_at 64 64 (packed a) ≡ pairs_of a.reserved_free
    unfolding packed
    part₁ = second_is 64 (pairs_of a.general_free) (pairs_of a.reserved_free) (pairs_of a.general_regions) (pairs_of a.reserved_regions) [] (pairs_64 a.general_free s₀ refl) (pairs_64 a.reserved_free s₁ refl) (pairs_64 a.general_regions s₂ refl) (pairs_64 a.reserved_regions s₃ refl)

    part₂ : part_at 64 128 (packed a) ≡ pairs_of a.general_regions
    unfolding packed
    part₂ = third_is 64 (pairs_of a.general_free) (pairs_of a.reserved_free) (pairs_of a.general_regions) (pairs_of a.reserved_regions) [] (pairs_64 a.general_free s₀ refl) (pairs_64 a.reserved_free s₁ refl) (pairs_64 a.general_regions s₂ refl) (pairs_64 a.reserved_regions s₃ refl)

    part₃ : part_at 64 192 (packed a) ≡ pairs_of a.reserved_regions
    unfolding packed
    part₃ = fourth_is 64 (pairs_of a.general_free) (pairs_of a.reserved_free) (pairs_of a.general_regions) (pairs_of a.reserved_regions) [] (pairs_64 a.general_free s₀ refl) (pairs_64 a.reserved_free s₁ refl) (pairs_64 a.general_regions s₂ refl) (pairs_64 a.reserved_regions s₃ refl)

    -- as pairs of words they are its lists
    lists_are : plain_record a ≡ true → slot_lists (packed a) ≡ early_lists a
    unfolding plain_record
    lists_are h =
        let free = both_first (P₀ && P₁) (P₂ && P₃) h in
        let regions = both_second (P₀ && P₁) (P₂ && P₃) h in
        λ i. record {
          sorted = false;
          general_free = list_pairs a.general_free a.general_free_len [] s₀ (both_first P₀ P₁ free) part₀ i;
          reserved_free = list_pairs a.reserved_free a.reserved_free_len [] s₁ (both_second P₀ P₁ free) part₁ i;
          general_regions = list_pairs a.general_regions a.general_regions_len [] s₂ (both_first P₂ P₃ regions) part₂ i;
          reserved_regions = list_pairs a.reserved_regions a.reserved_regions_len [] s₃ (both_second P₂ P₃ regions) part₃ i;
        }

    module _ (ws : List ℕ) where
      all_stored : plain_record a ≡ true → ((S₀ ws && S₁ ws) && (S₂ ws && S₃ ws)) ≡ true
      unfolding plain_record
      all_stored h =
          let free = both_first (P₀ && P₁) (P₂ && P₃) h in
          let regions = both_second (P₀ && P₁) (P₂ && P₃) h in
          rw (
            list_stored a.general_free a.general_free_len (part 0 ws) s₀ (both_first P₀ P₁ free),
            list_stored a.reserved_free a.reserved_free_len (part 1024 ws) s₁ (both_second P₀ P₁ free),
            list_stored a.general_regions a.general_regions_len (part 2048 ws) s₂ (both_first P₂ P₃ regions),
          )
          (list_stored a.reserved_regions a.reserved_regions_len (part 3072 ws) s₃ (both_second P₂ P₃ regions))

      -- so the record is tested on its slots and then on its pairs
      pub early_holds : a.sorted ≡ 0 → keeps_rules a ws ≡ (plain_record a && rules (slot_lists (packed a)))
      early_holds e = keeps_early ws e ∙ go (plain_record a) refl
        where
          go : (b : Bool) → plain_record a ≡ b → (((S₀ ws && S₁ ws) && (S₂ ws && S₃ ws)) && rules (early_lists a)) ≡ (b && rules (slot_lists (packed a)))
          go true p = rw (all_stored p) (ap rules (sym (lists_are p)))
          go false p = not_plain ws p

      pub slots_are : a.sorted ≡ 0 → plain_record a ≡ true → rules (slot_lists (packed a)) ≡ keeps_rules a ws
      slots_are e p = rw (early_holds e, p)

-- The rules of four lists, each by itself, and then one beside another.
module _ (l : Lists) where
  untidy : (b c d e x : Bool) → ((b && c) && (d && e)) ≡ false → false ≡ ((b && c) && ((d && e) && x))
  untidy true true true true x h = absurd (true≢false h)
  untidy true true true false x h = refl
  untidy true true false e x h = refl
  untidy true false d e x h = refl
  untidy false c d e x h = refl

  tidied : (b c d e x : Bool) → ((b && c) && (d && e)) ≡ true → x ≡ ((b && c) && ((d && e) && x))
  tidied true true true true x h = refl
  tidied true true true false x h = absurd (true≢false (sym h))
  tidied true true false e x h = absurd (true≢false (sym h))
  tidied true false d e x h = absurd (true≢false (sym h))
  tidied false c d e x h = absurd (true≢false (sym h))

  pub one_untidy : each_tidy l ≡ false → false ≡ rules l
  unfolding rules agree each_tidy
  one_untidy h = untidy (tidy l.sorted l.general_free) (tidy l.sorted l.reserved_free) (tidy l.sorted l.general_regions) (tidy l.sorted l.reserved_regions) (lists_agree l) h

  pub all_tidy : each_tidy l ≡ true → lists_agree l ≡ rules l
  unfolding rules agree each_tidy
  all_tidy h = tidied (tidy l.sorted l.general_free) (tidy l.sorted l.reserved_free) (tidy l.sorted l.general_regions) (tidy l.sorted l.reserved_regions) (lists_agree l) h

pub tidy_tables : {gf rf gr rr : Table} → each_tidy (tables_of gf rf gr rr) ≡ true → TidyTables gf rf gr rr
unfolding each_tidy
tidy_tables {gf} {rf} {gr} {rr} h =
    let free = both_first (tidy true (slots gf) && tidy true (slots rf)) (tidy true (slots gr) && tidy true (slots rr)) h in
    let regions = both_second (tidy true (slots gf) && tidy true (slots rf)) (tidy true (slots gr) && tidy true (slots rr)) h in
    record {
      general_free = both_first (tidy true (slots gf)) (tidy true (slots rf)) free;
      reserved_free = both_second (tidy true (slots gf)) (tidy true (slots rf)) free;
      general_regions = both_first (tidy true (slots gr)) (tidy true (slots rr)) regions;
      reserved_regions = both_second (tidy true (slots gr)) (tidy true (slots rr)) regions;
    }

-- put in order, four lists of pairs keep the rules just where they did
pub ordered_ruled : (ws : List ℕ) {a b c d : List Slot} → a ≡ in_order (pair_slots 32 (part_at 64 0 ws)) → b ≡ in_order (pair_slots 32 (part_at 64 64 ws)) → c ≡ in_order (pair_slots 32 (part_at 64 128 ws))
    → d ≡ in_order (pair_slots 32 (part_at 64 192 ws)) → rules (record { sorted = true; general_free = a; reserved_free = b; general_regions = c; reserved_regions = d }) ≡ rules (slot_lists ws)
unfolding sort counted
ordered_ruled ws p q r s =
    (λ i. rules (record { sorted = true; general_free = p i; reserved_free = q i; general_regions = r i; reserved_regions = s i }))
    ∙ sorted_rules (pair_slots 32 (part_at 64 0 ws)) (pair_slots 32 (part_at 64 64 ws)) (pair_slots 32 (part_at 64 128 ws)) (pair_slots 32 (part_at 64 192 ws))
    (pairs_length 32 (part_at 64 0 ws)) (pairs_length 32 (part_at 64 64 ws)) (pairs_length 32 (part_at 64 128 ws)) (pairs_length 32 (part_at 64 192 ws))
